-- What the walk over a certificate answers at a node.
use Rattle.std.specs.Prelude.{◌≡◌, ℕ, Bool, true, false, List, [], ◌∷◌, ◌++◌, length, Option, Some, None, Result, Ok, Err, MatchResult}
use Rattle.qs_entail.specs.declared.fault.Rule.{Rule}
use Rattle.qs_entail.specs.declared.stop.Stop.{Stop}
use Rattle.qs_entail.specs.declared.stop.Stop.TheVariants.{NoMemory, Breaks, Passes}
use Rattle.qs_entail.specs.declared.failed.Failed.{Failed}
use Rattle.qs_entail.specs.declared.failed.Failed.TheVariants as failures
use Rattle.qs_entail.specs.declared.walk.Mark.{Mark}
use Rattle.qs_entail.specs.declared.walk.Walk.{Walk}
use Rattle.qs_entail.specs.declared.rules.Both.{Both}
use Rattle.qs_entail.specs.Answers.{fault_of}
use Rattle.qs_assert.specs.Trees.{AssertionTree}
use Rattle.qs_assert.specs.declared.define.Define.{Define}
use Rattle.qs_base.specs.Results.{bind}
use Rattle.qs_entail.specs.Building as building
use Rattle.qs_entail.specs.Extending.{known_first}
use Rattle.qs_entail.specs.Faults.{CertFault, step, limit, definition, unfolded}
use Rattle.qs_entail.specs.Pushing.{Known}
use Rattle.qs_entail.specs.View.{known_view}

-- the path from the root, and what is known there
pub record Place : Type 0 where
  pub path : List ℕ
  pub known : Known

abbrev pub place : Walk → Place
place walk = record { path = walk.path.items; known = known_view walk.known }

-- a part of a node is entered, and left
abbrev pub EntersPart : ℕ → (old new : List ℕ) → Result (Unit {0}) Failed → Type 0
EntersPart i old new result = MatchResult result (λ _. new ≡ old ++ i ∷ []) (λ e. e ≡ failures.NoMemory)

abbrev pub LeavesPart : (old new : List ℕ) → Type 0
LeavesPart old new = (path : List ℕ) (i : ℕ) → old ≡ path ++ i ∷ [] → new ≡ path

-- how much is known
abbrev pub mark_of : Known → Mark
mark_of k = record { conditions = length k.conditions; polynomials = length k.polynomials }

-- what was known at a mark
abbrev pub cut : Mark → Place → Place
cut mark w = record { path = w.path; known = known_first mark.conditions mark.polynomials w.known }

-- a step of this rule that gives nothing
abbrev pub failure_of : Rule → Stop → Failed
failure_of rule NoMemory = failures.NoMemory
failure_of rule Breaks = failures.Step rule
failure_of rule (Passes l) = failures.Limit l

abbrev pub settled : {A : Type 0} → Rule → Result A Stop → Result A Failed
settled rule (Ok a) = Ok a
settled rule (Err stop) = Err (failure_of rule stop)

-- The answer is the verdict: without a fault the walk is again where it was, else its path goes on to the
-- fault's place. Want of memory says nothing.
abbrev pub Says : Place → Place → Result (Unit {0}) Failed → Option CertFault → Type 0
Says old new (Ok u) None = new ≡ old
Says old new (Ok u) (Some f) = ⊥
Says old new (Err failures.NoMemory) verdict = Unit {0}
Says old new (Err (failures.Step rule)) None = ⊥
Says old new (Err (failures.Step rule)) (Some (step path broken)) = (rule ≡ broken) × (new.path ≡ old.path ++ path)
Says old new (Err (failures.Step rule)) (Some (limit path fault)) = ⊥
Says old new (Err (failures.Limit l)) None = ⊥
Says old new (Err (failures.Limit l)) (Some (step path broken)) = ⊥
Says old new (Err (failures.Limit l)) (Some (limit path fault)) = (fault_of l ≡ fault) × (new.path ≡ old.path ++ path)

-- two assertions, each name n replaced by a body
pub record Pair : Type 0 where
  pub left : AssertionTree
  pub right : AssertionTree

abbrev pub both_view : Both → Pair
both_view both = record { left = both.left; right = both.right }

abbrev pub unfolded_both : List ℕ → AssertionTree → AssertionTree → AssertionTree → Pair
unfolded_both n body p q = record { left = unfolded n body p; right = unfolded n body q }

-- the two, each name n replaced by the body of its first definition
abbrev pub both_unfolded : List Define → List ℕ → AssertionTree → AssertionTree → Result Pair building.Stop
both_unfolded ds n p q = bind (definition ds n) (λ body. Ok (unfolded_both n body p q))

-- the part with the first branches, and the one with the second
abbrev pub branch_number : Bool → ℕ
branch_number true = 0
branch_number false = 1

abbrev pub not_of : Bool → Bool
not_of true = false
not_of false = true
