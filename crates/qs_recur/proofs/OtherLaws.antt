-- A call of another function is paid before each statement of a counting one.
use Rattle.std.proofs.Common.{◌≡◌, ◌==◌, ℕ, refl, ap, ◌∙◌, Bool, true, false, List, [], ◌∷◌, Some, None}
use Rattle.std.specs.Prelude.{pos, is_none, if◌then◌else◌}
use Rattle.std.specs.List.{slice_get, find}
use Rattle.qs_assert.specs.declared.variable.Var.{Var}
use Rattle.qs_assert.specs.declared.variable.VarKind.{VarKind}
use Rattle.qs_assert.specs.declared.variable.VarKind.TheVariants as kinds
use Rattle.qs_assert.specs.Simultaneous.{terms_for}
use Rattle.qs_assert.specs.Trees.{variable, eq, le, AssertionTree, cost, total}
use Rattle.qs_assert.specs.Trees as tree
use Rattle.qs_assert.proofs.SamenessLaws.{assertion_self}
use Rattle.qs_core.specs.Trees.{CoreExprTree, CoreFunctionTree, CoreUnitTree}
use Rattle.qs_poly.specs.Operations.{number, single}
use Rattle.qs_poly.specs.Polynomials as polynomials
use Rattle.qs_entail.specs.Certificates.{CertTree, assume}
use Rattle.qs_entail.specs.Pushing.{Known}
use Rattle.qs_entail.specs.Verdicts.{verdict}
use Rattle.qs_triples.specs.Derivations.{ProofsTree, spec_of}
use Rattle.qs_triples.specs.Entries.{scope_of}
use Rattle.qs_triples.specs.Mentions.{pre_images}
use Rattle.qs_triples.specs.Rules.{at_call, two}
use Rattle.qs_recur.proofs.AroundLaws.{IsPaid}
use Rattle.qs_recur.proofs.SmallFacts.{one_single, x_of}
use Rattle.qs_recur.specs.Needs.{unsigned, measure, Counting, counting_pre, balanced}
use Rattle.qs_recur.specs.Sizes.{is_of_costs}
use Rattle.qs_recur.specs.Written.{least_in, counted, helper_paid, if_step, pay_entered, pay_past}
use Rattle.qs_recur.specs.Counters.{step_of}
use Rattle.qs_recur.proofs.CostsLaws.{AreOfCosts, no_variables, its_own_image}
use Rattle.qs_recur.proofs.CountingLaws.{IsSetting, need_plain, start, past}
use Rattle.qs_recur.proofs.GuardLaws.{under_first, under_both}
use Rattle.qs_recur.proofs.HelperLaws.{AreSums, IsOneOf, three_end, four_end, helper_paid_holds}
use Rattle.qs_recur.proofs.Identities.{x_less}
use Rattle.qs_recur.proofs.OwnLaws.{HasOne}
use Rattle.qs_recur.proofs.SumLaws.{HasLittle}
use Rattle.qs_recur.proofs.WayLaws.{y_less_x, x_less_y}

counted_one : (b : Bool) (x : VarKind) → HasOne (measure b (unsigned x))
counted_one true x = record { polynomial = single (polynomials.bits (x_of x)); is = refl; one = one_single (polynomials.bits (x_of x)) (one_single (polynomials.variable (unsigned x)) tt).canonical }
counted_one false x = record { polynomial = x_of x; is = refl; one = one_single (polynomials.variable (unsigned x)) tt }

module _ (f : ℕ) (c : Counting) (closed : AreOfCosts c.helpers) (u : CoreUnitTree) (proofs : ProofsTree) (function : CoreFunctionTree) (is : IsSetting f c closed u proofs function) where
  abbrev x : VarKind
  x = kinds.Plain c.counter

  abbrev o : VarKind
  o = kinds.Old c.counter

  abbrev known_three : Known
  known_three = record { conditions = eq (variable (unsigned x)) (variable (unsigned o)) ∷ []; polynomials = number (pos 1) ∷ y_less_x x o ∷ x_less_y x o ∷ [] }

  abbrev known_four : Known
  known_four = record {
    conditions = eq (variable (unsigned x)) (variable (unsigned o)) ∷ le (tree.number (pos (least_in c))) (variable (unsigned x)) ∷ [];
    polynomials = number (pos 1) ∷ y_less_x x o ∷ x_less_y x o ∷ x_less (x_of x) (least_in c) ∷ [];
  }

  -- a function that is called, and what it needs
  pub record IsHelper (g : ℕ) (need : AssertionTree) : Type 0 where
    pub callee : CoreFunctionTree
    pub there : slice_get u.functions g ≡ Some callee
    pub specified : spec_of proofs g ≡ Some (balanced need)
    pub of_costs : is_of_costs need ≡ true
    pub little : HasLittle need
    pub one_of : IsOneOf g need c.helpers
    pub sums : AreSums c.helpers

  module _ (g : ℕ) (need : AssertionTree) (h : IsHelper g need) (differs : (g == f) ≡ false) (es : List CoreExprTree) where
    at_helper : at_call (pre_images h.callee es) need ≡ need
    at_helper = its_own_image (terms_for (pre_images h.callee es)) need h.of_costs

    paid_with : (r : AssertionTree) (pay : CertTree) → verdict [] proofs.defines r (total (two (cost g) need)) pay ≡ None → IsPaid r pay (scope_of u proofs function) g es
    paid_with r pay v = record {
      function = h.callee;
      spec = balanced need;
      stands = h.there;
      has_spec = h.specified;
      balanced = assertion_self (balanced need).post;
      has_terms = ap (λ (xs : List Var). find (λ v. is_none (pre_images h.callee es v)) xs) (no_variables need h.of_costs);
      paid = ap (λ (a : AssertionTree). verdict [] proofs.defines r (total (two (cost g) a)) pay) at_helper ∙ v;
    }

    pub helper_paid_start : IsPaid (start f c closed) (pay_entered f c g es) (scope_of u proofs function) g es
    helper_paid_start =
        let one = counted_one c.by_bits x in
        paid_with (start f c closed) (pay_entered f c g es)
        (under_first x o (counting_pre f c) (need_plain f c closed) (helper_paid 3 (counted c) f g c.helpers) proofs.defines [] (total (two (cost g) need))
        (helper_paid_holds g need h.of_costs h.little 3 known_three (three_end (y_less_x x o) (x_less_y x o)) proofs.defines f (counted c) one.polynomial one.is one.one c.helpers closed h.sums h.one_of))

    pub helper_paid_past : IsPaid (past f c closed) (pay_past f c g es) (scope_of u proofs function) g es
    helper_paid_past =
        let one = counted_one c.by_bits x in
        let q = total (two (cost g) need) in
        paid_with (past f c closed) (pay_past f c g es)
        (ap (λ (b : Bool). verdict [] proofs.defines (past f c closed) q (assume (assume (if b then if_step f c (step_of c.counter es) else helper_paid 4 (counted c) f g c.helpers)))) differs
        ∙ under_both x o (counting_pre f c) (need_plain f c closed) (helper_paid 4 (counted c) f g c.helpers) (least_in c) is.small proofs.defines [] q
        (helper_paid_holds g need h.of_costs h.little 4 known_four (four_end (y_less_x x o) (x_less_y x o) (x_less (x_of x) (least_in c))) proofs.defines f (counted c) one.polynomial one.is one.one c.helpers closed h.sums h.one_of))
