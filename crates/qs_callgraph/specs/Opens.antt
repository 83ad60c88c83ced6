-- Which functions are open.
use Rattle.std.specs.Prelude.{◌≡◌, ◌⊎◌, ℕ, ◌+◌, ◌<◌, Bool, true, false, if◌then◌else◌, List, [], ◌∷◌, ◌++◌, length, slice_set, sum_by}
use Rattle.std.specs.declared.alloc.Global.{Global}
use Rattle.std.specs.declared.vec.Vec.{Vec}
use Rattle.qs_base.specs.declared.function.FnId.{FnId}
use Rattle.qs_core.specs.CallGraph.{IsOpen, is_member}
use Rattle.qs_core.specs.Trees.{CoreUnitTree}
use Rattle.qs_callgraph.specs.CallLists.{callees_in, flag, marked, number_lists, numbers, numbers_in}

-- the values are those of the test, one for each function
pub record AreOf (u : CoreUnitTree) (test : ℕ → Bool) (flags : List Bool) : Type 0 where
  pub as_many : length flags ≡ length u.functions
  pub same : (f : ℕ) → f < length u.functions → flag flags f ≡ test f

-- whether a function is open, where these have a specification
pub record TellsOpen (u : CoreUnitTree) (has_spec is_open : ℕ → Bool) : Type 0 where
  pub open_ones : (f : ℕ) → is_open f ≡ true → IsOpen u has_spec f
  pub all_there : (f : ℕ) → IsOpen u has_spec f → is_open f ≡ true

-- the same, where the values are those of any test
abbrev pub TellsOpenOf : CoreUnitTree → (has_spec : List Bool) → Vec Bool Global → Type 0
TellsOpenOf u has_spec flags = (test : ℕ → Bool) → AreOf u test has_spec → TellsOpen u test (flag flags.items)

-- ---- callers

-- the callers of each function
pub record AreCallers (graph callers : List (List ℕ)) : Type 0 where
  pub as_many : length callers ≡ length graph
  pub same : (f g : ℕ) → is_member f (callees_in callers g) ≡ is_member g (callees_in graph f)

-- with f as a caller of these
abbrev pub with_caller : (f : ℕ) → (callees : List ℕ) → List (List ℕ) → List (List ℕ)
with_caller f [] callers = callers
with_caller f (g ∷ gs) callers = with_caller f gs (slice_set callers g (callees_in callers g ++ f ∷ []))

-- f is added as a caller of these
abbrev pub AddsCaller : (f : ℕ) → (callees : List FnId) → (before now : List (Vec FnId Global)) → Type 0
AddsCaller f callees before now = number_lists now ≡ with_caller f (numbers callees) (number_lists before)

-- ---- closed functions: those from which calls lead to a specification

-- calls lead from the function to one with a specification
pub data LeadsToSpec (callers : List (List ℕ)) (has_spec : List Bool) : (f : ℕ) → Type 0 where
  has_one : (f : ℕ) → flag has_spec f ≡ true → LeadsToSpec callers has_spec f
  calls_one :
      (f g : ℕ) → is_member f (callees_in callers g) ≡ true → LeadsToSpec callers has_spec g
      → LeadsToSpec callers has_spec f

-- While callers are closed: these lead to a specification. A caller of a closed function is closed too, unless that
-- function is among those that are due.
pub record Closes (callers : List (List ℕ)) (has_spec closed : List Bool) (due : List ℕ) : Type 0 where
  pub as_many : length closed ≡ length callers
  pub of_specs : (f : ℕ) → flag has_spec f ≡ true → flag closed f ≡ true
  pub of_calls :
      (f g : ℕ) → is_member f (callees_in callers g) ≡ true → flag closed g ≡ true → is_member g due ≡ false
      → flag closed f ≡ true
  pub lead : (f : ℕ) → flag closed f ≡ true → LeadsToSpec callers has_spec f
  pub due_closed : (g : ℕ) → is_member g due ≡ true → flag closed g ≡ true

-- exactly these lead to a specification
abbrev pub AreClosed : List (List ℕ) → (has_spec closed : List Bool) → Type 0
AreClosed callers has_spec closed = Closes callers has_spec closed []

abbrev pub as_one : Bool → ℕ
as_one closed = if closed then 0 else 1

-- how many aren't closed
abbrev pub count_open : List Bool → ℕ
count_open closed = sum_by as_one closed

-- what is closed now and wasn't is due
pub record AddsDue (old new : List Bool) (due_before due : List ℕ) : Type 0 where
  pub kept : (g : ℕ) → is_member g due_before ≡ true → is_member g due ≡ true
  pub added : (g : ℕ) → flag old g ≡ false → flag new g ≡ true → is_member g due ≡ true
  pub closed : (g : ℕ) → is_member g due ≡ true → (is_member g due_before ≡ true) ⊎ (flag new g ≡ true)
  pub as_many : length due + count_open new ≡ length due_before + count_open old

-- all these callers are closed
pub record ClosesCallers (old new : List Bool) (due_before due callers : List ℕ) : Type 0 where
  pub closed : new ≡ marked callers old
  pub adds : AddsDue old new due_before due

-- the same of the code's lists
abbrev pub ClosesAll : (callers : List FnId) → (old new : List Bool) → (due_before due : Vec FnId Global) → Type 0
ClosesAll callers old new due_before due = ClosesCallers old new (numbers_in due_before) (numbers_in due) (numbers callers)
