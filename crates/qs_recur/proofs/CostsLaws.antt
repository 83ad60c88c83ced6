-- What has only numbers, costs, sums and products mentions no variable and has no conditional; so have sums with it.
use Rattle.std.proofs.Common.{◌≡◌, refl, ap, ◌∙◌, Bool, true, List, [], ◌∷◌, ◌++◌, None}
use Rattle.std.specs.Prelude.{◌&&◌}
use Rattle.std.specs.List.{list_all}
use Rattle.std.proofs.lemmas.List.{append-nil}
use Rattle.std.proofs.lemmas.Bool.{and_parts}
use Rattle.qs_assert.specs.declared.define.Define.{Define}
use Rattle.qs_assert.specs.declared.variable.Var.{Var}
use Rattle.qs_assert.specs.Images.{Images, assertion_image, assertions_image}
use Rattle.qs_assert.specs.Trees.{CondTree, AssertionTree, natural, infinity, cost, num, total, greatest, product, guard, choose, named, AssertionTrees, no_assertions, assertion_and, assertions_of}
use Rattle.qs_assert.specs.Variables.{variables, all_variables}
use Rattle.qs_entail.specs.Certificates.{CertTree, same}
use Rattle.qs_entail.specs.Faults.{branch, branches}
use Rattle.qs_entail.specs.Pushing.{Known}
use Rattle.qs_entail.specs.Verdicts.{fault}
use Rattle.qs_recur.proofs.StepLaws.{fault_same, fault_sum}
use Rattle.qs_recur.specs.Needs.{Helper, members, helpers_need, with_helpers}
use Rattle.qs_recur.specs.Sizes.{is_of_costs, all_of_costs}
use Rattle.qs_recur.specs.Written.{all_kept}

-- ---- of costs

mutual
  pub no_variables : (a : AssertionTree) → is_of_costs a ≡ true → variables a ≡ []
  no_variables (natural n) h = refl
  no_variables infinity h = refl
  no_variables (cost f) h = refl
  no_variables (num t) h = cc
  no_variables (total parts) h = none_have_variables parts h
  no_variables (greatest parts) h = cc
  no_variables (product parts) h = none_have_variables parts h
  no_variables (guard c a) h = cc
  no_variables (choose c a b) h = cc
  no_variables (named n) h = refl

  none_have_variables : (parts : AssertionTrees) → all_of_costs parts ≡ true → all_variables parts ≡ []
  none_have_variables no_assertions h = refl
  none_have_variables (assertion_and a parts) h =
      let p = and_parts (is_of_costs a) (all_of_costs parts) h in
      ap (λ (xs : List Var). xs ++ all_variables parts) (no_variables a p.0) ∙ none_have_variables parts p.1

mutual
  pub its_own_image : (m : Images) (a : AssertionTree) → is_of_costs a ≡ true → assertion_image m a ≡ a
  its_own_image m (natural n) h = refl
  its_own_image m infinity h = refl
  its_own_image m (cost f) h = refl
  its_own_image m (num t) h = cc
  its_own_image m (total parts) h = ap total (their_own_images m parts h)
  its_own_image m (greatest parts) h = cc
  its_own_image m (product parts) h = ap product (their_own_images m parts h)
  its_own_image m (guard c a) h = cc
  its_own_image m (choose c a b) h = cc
  its_own_image m (named n) h = refl

  their_own_images : (m : Images) (parts : AssertionTrees) → all_of_costs parts ≡ true → assertions_image m parts ≡ parts
  their_own_images m no_assertions h = refl
  their_own_images m (assertion_and a parts) h =
      let p = and_parts (is_of_costs a) (all_of_costs parts) h in
      ap (λ (b : AssertionTree). assertion_and b (assertions_image m parts)) (its_own_image m a p.0) ∙ ap (λ (b : AssertionTrees). assertion_and a b) (their_own_images m parts p.1)

mutual
  pub its_own_branch : (c : CondTree) (first : Bool) (a : AssertionTree) → is_of_costs a ≡ true → branch c first a ≡ a
  its_own_branch c first (natural n) h = refl
  its_own_branch c first infinity h = refl
  its_own_branch c first (cost f) h = refl
  its_own_branch c first (num t) h = refl
  its_own_branch c first (total parts) h = ap total (their_own_branches c first parts h)
  its_own_branch c first (greatest parts) h = cc
  its_own_branch c first (product parts) h = ap product (their_own_branches c first parts h)
  its_own_branch c first (guard d a) h = cc
  its_own_branch c first (choose d a b) h = cc
  its_own_branch c first (named n) h = refl

  their_own_branches : (c : CondTree) (first : Bool) (parts : AssertionTrees) → all_of_costs parts ≡ true → branches c first parts ≡ parts
  their_own_branches c first no_assertions h = refl
  their_own_branches c first (assertion_and a parts) h =
      let p = and_parts (is_of_costs a) (all_of_costs parts) h in
      ap (λ (b : AssertionTree). assertion_and b (branches c first parts)) (its_own_branch c first a p.0) ∙ ap (λ (b : AssertionTrees). assertion_and a b) (their_own_branches c first parts p.1)

-- ---- with helpers

abbrev pub AreOfCosts : List Helper → Type 0
AreOfCosts hs = list_all (λ (h : Helper). is_of_costs h.need) hs ≡ true

-- what each takes is of costs, and so what all take
pub members_of_costs : (hs : List Helper) → AreOfCosts hs → all_of_costs (assertions_of (members hs)) ≡ true
members_of_costs [] h = refl
members_of_costs (g ∷ hs) h =
    let p = and_parts (is_of_costs g.need) (list_all (λ (h : Helper). is_of_costs h.need) hs) h in
    ap (λ (b : Bool). b && all_of_costs (assertions_of (members hs))) p.0 ∙ members_of_costs hs p.1

pub with_variables : (hs : List Helper) (own : AssertionTree) → AreOfCosts hs → variables (with_helpers hs own) ≡ variables own
with_variables [] own h = refl
with_variables (g ∷ hs) own h =
    ap (λ (xs : List Var). xs ++ (variables own ++ [])) (no_variables (helpers_need (g ∷ hs)) (members_of_costs (g ∷ hs) h)) ∙ append-nil (variables own)

pub with_image : (m : Images) (hs : List Helper) (own : AssertionTree) → AreOfCosts hs → assertion_image m (with_helpers hs own) ≡ with_helpers hs (assertion_image m own)
with_image m [] own h = refl
with_image m (g ∷ hs) own h =
    ap (λ (a : AssertionTree). total (assertion_and a (assertion_and (assertion_image m own) no_assertions))) (its_own_image m (helpers_need (g ∷ hs)) (members_of_costs (g ∷ hs) h))

pub with_branch : (c : CondTree) (first : Bool) (hs : List Helper) (own : AssertionTree) → AreOfCosts hs → branch c first (with_helpers hs own) ≡ with_helpers hs (branch c first own)
with_branch c first [] own h = refl
with_branch c first (g ∷ hs) own h =
    ap (λ (a : AssertionTree). total (assertion_and a (assertion_and (branch c first own) no_assertions))) (its_own_branch c first (helpers_need (g ∷ hs)) (members_of_costs (g ∷ hs) h))

-- what is left of the rest is left of all
pub all_kept_holds :
    (hs : List Helper) (c : CertTree) (ds : List Define) (k : Known) (own left : AssertionTree) → fault c ds k own left ≡ None
    → fault (all_kept hs c) ds k (with_helpers hs own) (with_helpers hs left) ≡ None
all_kept_holds [] c ds k own left h = h
all_kept_holds (g ∷ hs) c ds k own left h =
    fault_sum same c ds k (helpers_need (g ∷ hs)) own (helpers_need (g ∷ hs)) left (fault_same ds k (helpers_need (g ∷ hs))) h
