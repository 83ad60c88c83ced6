-- What a task touches. A task is a function; functions and file-scope variables go by their places in the text.
use Rattle.std.specs.Prelude.{◌≡◌, ℕ, true, List}
use Rattle.qs_core.specs.CallGraph.{is_member}
use Rattle.qs_isolation.specs.Links.{Links, linked}

abbrev pub HasLink : (links : List (List ℕ)) → (from to : ℕ) → Type 0
HasLink links from to = is_member to (linked links from) ≡ true

-- links lead from one number to another, or the two are the same
pub data Leads (links : List (List ℕ)) (from : ℕ) : (to : ℕ) → Type 0 where
  no_link : Leads links from from
  one_more : (n to : ℕ) → Leads links from n → HasLink links n to → Leads links from to

-- calls lead from the task to the function
abbrev pub Reaches : Links → (task function : ℕ) → Type 0
Reaches l task f = Leads l.called task f

-- a task touches the variables that are named in functions which it can reach, and those that initial pointers lead to from there
pub record Touches (l : Links) (task variable : ℕ) : Type 0 where
  pub function : ℕ
  pub reached : Reaches l task function
  pub named : ℕ
  pub has_name : HasLink l.named function named
  pub led : Leads l.led named variable
