-- What a valid certificate says.
use Rattle.std.specs.Prelude.{◌≡◌, ◌≤◌, ◌≤ℤ◌, true, false, List, All, None}
use Rattle.qs_assert.specs.declared.define.Define.{Define}
use Rattle.qs_assert.specs.declared.variable.Var.{Var}
use Rattle.qs_assert.specs.Order.{IsInOrder}
use Rattle.qs_assert.specs.Bounds.{with_definitions}
use Rattle.qs_assert.specs.Trees.{CondTree, AssertionTree}
use Rattle.qs_assert.specs.Values.{State, Extended, finite, infinite, holds, value}
use Rattle.qs_entail.specs.Certificates.{CertTree}
use Rattle.qs_entail.specs.Facts.{least, greatest_of_type}
use Rattle.qs_entail.specs.Verdicts.{verdict}

-- a is at least b
abbrev pub AtLeast : Extended → Extended → Type 0
AtLeast infinite b = Unit {0}
AtLeast (finite a) infinite = ⊥
AtLeast (finite a) (finite b) = b ≤ a

-- each variable has a number of its type
pub record InRange (s : State) : Type 0 where
  pub from_least : (x : Var) → least x.number ≤ℤ s.at x
  pub to_greatest : (x : Var) → s.at x ≤ℤ greatest_of_type x.number

-- ---- definitions

-- the state in which only these definitions give names values
abbrev pub defined_by : List Define → State → State
defined_by ds s = (with_definitions ds (record { state = record s { names = λ n. None }; wides = λ n. false })).state

-- ---- what is shown

-- For all costs, in each state in which the hypotheses hold, P is at least Q.
abbrev pub Above : List CondTree → List Define → AssertionTree → AssertionTree → Type 0
Above hypotheses ds p q =
    (s : State) → InRange s → All (λ c. holds c (defined_by ds s) ≡ true) hypotheses → AtLeast (value p (defined_by ds s)) (value q (defined_by ds s))

-- Where the definitions are in order, P is at least Q.
abbrev pub AboveInOrder : List CondTree → List Define → AssertionTree → AssertionTree → Type 0
AboveInOrder hypotheses ds p q = IsInOrder ds → Above hypotheses ds p q

-- A valid certificate shows what it says.
abbrev pub IsSound : Type 0
IsSound = (hypotheses : List CondTree) (ds : List Define) (p q : AssertionTree) (c : CertTree) → IsInOrder ds → verdict hypotheses ds p q c ≡ None → Above hypotheses ds p q
