-- Faults, the parts of assertions, and the equalities of polynomials that rules want.
use Rattle.std.specs.Prelude.{ℕ, zero, suc, ℤ, pos, negsuc, Bool, if◌then◌else◌, List, [], ◌∷◌, Option, Some, None, Result, Ok, Err}
use Rattle.qs_assert.specs.declared.define.Define.{Define}
use Rattle.qs_assert.specs.Bounds.{same_name}
use Rattle.qs_assert.specs.Sameness.{same_cond}
use Rattle.qs_assert.specs.Trees.{CondTree, AssertionTree, natural, infinity, cost, num, total, greatest, product, guard, choose, named, AssertionTrees, no_assertions, assertion_and}
use Rattle.qs_poly.specs.Operations.{number}
use Rattle.qs_poly.specs.Terms.{polynomial_eq}
use Rattle.qs_poly.specs.declared.fault.PolyFault.{PolyFault}
use Rattle.qs_entail.specs.declared.fault.Rule.{Rule}
use Rattle.qs_entail.specs.Certificates.{Item, CertTrees, no_certs, cert_and}
use Rattle.qs_base.specs.Results.{bind, require, fault_or}
use Rattle.qs_entail.specs.Building.{Stop, breaks, passes, difference, combination, assertion_polynomial}
use Rattle.qs_entail.specs.Pushing.{Known}

-- ---- verdicts

-- the path of a node, and the rule whose side condition fails or the limit that is passed
pub data CertFault : Type 0 where
  step : List ℕ → Rule → CertFault
  limit : List ℕ → PolyFault → CertFault

abbrev pub at_root : Rule → Stop → CertFault
at_root rule breaks = step [] rule
at_root rule (passes fault) = limit [] fault

abbrev pub below : ℕ → CertFault → CertFault
below i (step path rule) = step (i ∷ path) rule
below i (limit path fault) = limit (i ∷ path) fault

-- a node of this rule, and then its parts
abbrev pub node : {A : Type 0} → Rule → Result A Stop → (A → Option CertFault) → Option CertFault
node rule = fault_or (at_root rule)

-- part i of a node
abbrev pub part : ℕ → Option CertFault → Option CertFault
part i None = None
part i (Some fault) = Some (below i fault)

-- ---- the parts of assertions

abbrev pub done : Result (Unit {0}) Stop
done = Ok tt

abbrev pub member : AssertionTrees → ℕ → Result AssertionTree Stop
member no_assertions i = Err breaks
member (assertion_and a others) zero = Ok a
member (assertion_and a others) (suc i) = member others i

abbrev pub member_at : AssertionTrees → ℤ → Result AssertionTree Stop
member_at members (pos i) = member members i
member_at members (negsuc i) = Err breaks

abbrev pub members_of : AssertionTree → Result AssertionTrees Stop
members_of (greatest members) = Ok members
members_of (natural n) = Err breaks
members_of infinity = Err breaks
members_of (cost f) = Err breaks
members_of (num t) = Err breaks
members_of (total others) = Err breaks
members_of (product factors) = Err breaks
members_of (guard c a) = Err breaks
members_of (choose c a b) = Err breaks
members_of (named n) = Err breaks

abbrev pub summands_of : AssertionTree → Result AssertionTrees Stop
summands_of (total summands) = Ok summands
summands_of (natural n) = Err breaks
summands_of infinity = Err breaks
summands_of (cost f) = Err breaks
summands_of (num t) = Err breaks
summands_of (greatest members) = Err breaks
summands_of (product factors) = Err breaks
summands_of (guard c a) = Err breaks
summands_of (choose c a b) = Err breaks
summands_of (named n) = Err breaks

pub record Guarded : Type 0 where
  pub condition : CondTree
  pub body : AssertionTree

abbrev pub guarded_of : AssertionTree → Result Guarded Stop
guarded_of (guard c a) = Ok (record { condition = c; body = a })
guarded_of (natural n) = Err breaks
guarded_of infinity = Err breaks
guarded_of (cost f) = Err breaks
guarded_of (num t) = Err breaks
guarded_of (total others) = Err breaks
guarded_of (greatest members) = Err breaks
guarded_of (product factors) = Err breaks
guarded_of (choose c a b) = Err breaks
guarded_of (named n) = Err breaks

abbrev pub count : AssertionTrees → ℕ
count no_assertions = 0
count (assertion_and a others) = suc (count others)

-- member i of a greatest, how many members it has, and how many summands a sum has
abbrev pub member_of : AssertionTree → ℤ → Result AssertionTree Stop
member_of a i = bind (members_of a) (λ members. member_at members i)

abbrev pub member_count : AssertionTree → Result ℕ Stop
member_count a = bind (members_of a) (λ members. Ok (count members))

abbrev pub summand_count : AssertionTree → Result ℕ Stop
summand_count a = bind (summands_of a) (λ summands. Ok (count summands))

abbrev pub count_certs : CertTrees → ℕ
count_certs no_certs = 0
count_certs (cert_and c others) = suc (count_certs others)

-- each conditional on the same tree b, replaced by its first branch or its second
abbrev mutual
  pub branch : CondTree → Bool → AssertionTree → AssertionTree
  branch b first (natural n) = natural n
  branch b first infinity = infinity
  branch b first (cost f) = cost f
  branch b first (num t) = num t
  branch b first (total summands) = total (branches b first summands)
  branch b first (greatest members) = greatest (branches b first members)
  branch b first (product factors) = product (branches b first factors)
  branch b first (guard c a) = guard c (branch b first a)
  branch b first (choose c x y) =
      if same_cond b c then (if first then branch b first x else branch b first y) else choose c (branch b first x) (branch b first y)
  branch b first (named n) = named n

  pub branches : CondTree → Bool → AssertionTrees → AssertionTrees
  branches b first no_assertions = no_assertions
  branches b first (assertion_and a others) = assertion_and (branch b first a) (branches b first others)

-- each name n, replaced by a body
abbrev mutual
  pub unfolded : List ℕ → AssertionTree → AssertionTree → AssertionTree
  unfolded n body (natural k) = natural k
  unfolded n body infinity = infinity
  unfolded n body (cost f) = cost f
  unfolded n body (num t) = num t
  unfolded n body (total summands) = total (all_unfolded n body summands)
  unfolded n body (greatest members) = greatest (all_unfolded n body members)
  unfolded n body (product factors) = product (all_unfolded n body factors)
  unfolded n body (guard c a) = guard c (unfolded n body a)
  unfolded n body (choose c x y) = choose c (unfolded n body x) (unfolded n body y)
  unfolded n body (named m) = if same_name n m then body else named m

  pub all_unfolded : List ℕ → AssertionTree → AssertionTrees → AssertionTrees
  all_unfolded n body no_assertions = no_assertions
  all_unfolded n body (assertion_and a others) = assertion_and (unfolded n body a) (all_unfolded n body others)

-- the body of the first definition of a name
abbrev pub definition : List Define → List ℕ → Result AssertionTree Stop
definition [] n = Err breaks
definition (d ∷ ds) n = if same_name n d.name then Ok d.body else definition ds n

-- ---- the equalities of polynomials of two rules, where their other conditions hold

-- the combination is -1
abbrev pub contradiction : List Item → Known → Result (Unit {0}) Stop
contradiction w k = bind (combination w k.polynomials) (λ z. require (polynomial_eq z (number (negsuc 0))) breaks done)

-- the combination is the difference of the sides
abbrev pub arithmetic_holds : List Item → Known → AssertionTree → AssertionTree → Result (Unit {0}) Stop
arithmetic_holds w k p q =
    bind (assertion_polynomial p) (λ a.
    bind (assertion_polynomial q) (λ b.
    bind (combination w k.polynomials) (λ z.
    bind (difference a b) (λ d.
    require (polynomial_eq z d) breaks done))))
