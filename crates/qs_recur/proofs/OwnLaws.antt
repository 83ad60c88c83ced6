-- A call of the function itself is paid where it makes the counter smaller.
use Rattle.std.proofs.Common.{◌≡◌, ◌≤◌, ◌-◌, ◌^◌, ℕ, refl, ap, ◌∙◌, arith, Bool, true, false, List, [], ◌∷◌, Ok, Some, None}
use Rattle.std.specs.Prelude.{pos, nat_le, is_none, if◌then◌else◌, Option, option_map, Result}
use Rattle.std.specs.List.{slice_get, find}
use Rattle.std.proofs.lemmas.Bool.{and_parts, eq-eqb}
use Rattle.std.proofs.lemmas.Bool.Decides.{nat_tests}
use Rattle.qs_base.specs.Results.{bind}
use Rattle.qs_memory.specs.Partial.{◌>>=◌}
use Rattle.qs_memory.specs.declared.scalar.Scalar.TheVariants as scalars
use Rattle.qs_memory.specs.declared.operation.Signedness.{Signedness}
use Rattle.qs_memory.specs.declared.operation.Signedness.TheVariants.{Signed, Unsigned}
use Rattle.qs_assert.specs.declared.define.Define.{Define}
use Rattle.qs_assert.specs.declared.variable.Var.{Var}
use Rattle.qs_assert.specs.declared.variable.VarKind.{VarKind}
use Rattle.qs_assert.specs.declared.variable.VarKind.TheVariants as kinds
use Rattle.qs_assert.specs.Images.{Images, assertion_image}
use Rattle.qs_assert.specs.Simultaneous.{or_itself, terms_for}
use Rattle.qs_assert.specs.Trees.{TermTree, variable, bits, CondTree, eq, le, AssertionTree, cost, total, assertions_of}
use Rattle.qs_assert.specs.Trees as tree
use Rattle.qs_assert.proofs.SamenessLaws.{assertion_self}
use Rattle.qs_core.specs.Terms.{term_of}
use Rattle.qs_core.specs.TermTrees.{CoreTermTree, number, temporary, combined, quotient, wrapped}
use Rattle.qs_core.specs.TermTrees as terms
use Rattle.qs_core.specs.Trees.{CoreExprTree, CoreFunctionTree, CoreUnitTree}
use Rattle.qs_core.specs.declared.term.TermOperation.{TermOperation}
use Rattle.qs_core.specs.declared.term.TermOperation.TheVariants.{Add, Subtract, Multiply}
use Rattle.qs_poly.specs.Operations as poly
use Rattle.qs_poly.specs.Operations.{single}
use Rattle.qs_poly.specs.Polynomials.{Polynomial}
use Rattle.qs_poly.specs.Polynomials as polynomials
use Rattle.qs_entail.specs.Building.{Stop, term_polynomial}
use Rattle.qs_recur.proofs.SubtractionLaws as subtraction
use Rattle.qs_entail.specs.Certificates.{CertTree, assume}
use Rattle.qs_entail.specs.Pushing.{Known}
use Rattle.qs_entail.specs.Verdicts.{fault, verdict}
use Rattle.qs_triples.specs.Derivations.{ProofsTree}
use Rattle.qs_triples.specs.Entries.{scope_of}
use Rattle.qs_triples.specs.ExpressionTerms.{term_tree, expression_term}
use Rattle.qs_triples.specs.Mentions.{argument_term, pre_images}
use Rattle.qs_triples.specs.Rules.{at_call, two}
use Rattle.qs_recur.proofs.AroundLaws.{IsPaid}
use Rattle.qs_recur.proofs.SmallFacts.{IsOne, one_single, x_of}
use Rattle.qs_recur.specs.Certificates.{less_term, quotient_term, less_paid, quotient_paid, bits_paid}
use Rattle.qs_recur.specs.Counters.{Step, less, divided, is_counter, constant, subtraction, wrapped_step, step_in, step_of, falls, is_quotient}
use Rattle.qs_recur.specs.Needs.{unsigned, costs, measure, with_helpers, Counting, own_need, counting_pre, balanced}
use Rattle.qs_recur.specs.Written.{helper_paid, counted, own_paid, least_in, handed_on, measured, step_paid, if_step, pay_past}
use Rattle.qs_recur.proofs.CostsLaws.{AreOfCosts, with_image, with_variables}
use Rattle.qs_recur.proofs.CountingLaws.{IsSetting, measure_variables, need_plain, past, image_at_call}
use Rattle.qs_recur.proofs.GuardLaws.{under_both}
use Rattle.qs_recur.proofs.TestLaws.{counter_is, constant_is, step_before, test_before, some_same}
use Rattle.qs_recur.proofs.WayLaws.{y_less_x, x_less_y}
use Rattle.qs_recur.proofs.SubtractionLaws.{less_holds}
use Rattle.qs_recur.proofs.DivisionLaws.{quotient_holds}
use Rattle.qs_recur.proofs.BitFallLaws.{bits_hold}
use Rattle.qs_recur.proofs.Identities.{x_less}

-- ---- what a step hands on

module _ (x : ℕ) where
  abbrev vx : VarKind
  vx = kinds.Plain x

  difference_is : (op : TermOperation) (t u : CoreTermTree) (s : Step) → subtraction x op t u ≡ Some s → term_tree (wrapped Unsigned (combined op t u)) ≡ handed_on vx s
  difference_is Add t u s h = cc
  difference_is Multiply t u s h = cc
  difference_is Subtract t u s h =
      let p = test_before (is_counter x t) (constant u >>= λ k. Some (less k)) s h in
      let q = step_before (constant u) (λ k. Some (less k)) s p.1 in
      ap (λ (a : CoreTermTree). term_tree (wrapped Unsigned (combined Subtract a u))) (counter_is x t p.0)
      ∙ ap (λ (a : CoreTermTree). term_tree (wrapped Unsigned (combined Subtract (terms.variable scalars.Unsigned x) a))) (constant_is u q.0 q.1)
      ∙ ap (λ (s : Step). handed_on vx s) (some_same (less q.0) s q.2)

  wrapped_is : (sign : Signedness) (t : CoreTermTree) (s : Step) → wrapped_step x sign t ≡ Some s → term_tree (wrapped sign t) ≡ handed_on vx s
  wrapped_is Signed t s h = cc
  wrapped_is Unsigned (number k) s h = cc
  wrapped_is Unsigned (terms.variable t y) s h = cc
  wrapped_is Unsigned (temporary t k) s h = cc
  wrapped_is Unsigned (combined op t u) s h = difference_is op t u s h
  wrapped_is Unsigned (quotient t k) s h = cc
  wrapped_is Unsigned (wrapped sign t) s h = cc

  step_is : (t : CoreTermTree) (s : Step) → step_in x t ≡ Some s → term_tree t ≡ handed_on vx s
  step_is (number k) s h = cc
  step_is (terms.variable t y) s h = cc
  step_is (temporary t k) s h = cc
  step_is (combined op t u) s h = cc
  step_is (quotient t k) s h =
      let p = test_before (is_counter x t) (Some (divided k)) s h in
      ap (λ (a : CoreTermTree). term_tree (quotient a k)) (counter_is x t p.0) ∙ ap (λ (s : Step). handed_on vx s) (some_same (divided k) s p.1)
  step_is (wrapped sign t) s h = wrapped_is sign t s h

  pub handed_term : (es : List CoreExprTree) (s : Step) → step_of x es ≡ Some s → argument_term es x ≡ Some (handed_on vx s)
  handed_term es s h =
      let p = step_before (slice_get es x) (λ e. term_of e >>= step_in x) s h in
      let q = step_before (term_of p.0) (step_in x) s p.2 in
      ap (λ (o : Option CoreExprTree). o >>= expression_term) p.1 ∙ ap (λ (o : Option CoreTermTree). option_map term_tree o) q.1 ∙ ap (λ (t : TermTree). Some t) (step_is q.0 s q.2)

-- ---- the costs of the function itself

-- what a step divides by is a number of 32 bits
abbrev pub IsNarrow : Step → Type 0
IsNarrow (less k) = Unit {0}
IsNarrow (divided k) = k ≤ 2 ^ 32

measured_image : (m : Images) (b : Bool) (v : Var) (f : ℕ) → assertion_image m (costs (measure b v) f) ≡ costs (measured b (m v)) f
measured_image m true v f = refl
measured_image m false v f = refl

pub record HasOne (t : TermTree) : Type 0 where
  pub polynomial : Polynomial
  pub is : term_polynomial t ≡ Ok polynomial
  pub one : IsOne polynomial

measured_one : (b : Bool) (t : TermTree) (p : Polynomial) → term_polynomial t ≡ Ok p → IsOne p → HasOne (measured b t)
measured_one true t p h x =
    record { polynomial = single (polynomials.bits p); is = ap (λ (r : Result Polynomial Stop). bind r (λ p. Ok (single (polynomials.bits p)))) h; one = one_single (polynomials.bits p) x.canonical }
measured_one false t p h x = record { polynomial = p; is = h; one = x }

module _ (f : ℕ) (c : Counting) (closed : AreOfCosts c.helpers) (positive : 1 ≤ least_in c) (small : least_in c ≤ 2 ^ 32) where
  abbrev x : VarKind
  x = kinds.Plain c.counter

  abbrev o : VarKind
  o = kinds.Old c.counter

  abbrev n : ℕ
  n = least_in c

  abbrev known_four : List CondTree → Known
  known_four cs = record { conditions = cs; polynomials = poly.number (pos 1) ∷ y_less_x x o ∷ x_less_y x o ∷ x_less (x_of x) n ∷ [] }

  -- by its value or by its bits, the counter pays for the call and what is handed on
  step_holds :
      (ds : List Define) (cs : List CondTree) (s : Step) → falls n s ≡ true → IsNarrow s → (c.by_bits ≡ true → is_quotient s ≡ true)
      → fault (step_paid f c s) ds (known_four cs) (own_need f c) (total (assertions_of (cost f ∷ costs (measured c.by_bits (handed_on x s)) f ∷ []))) ≡ None
  step_holds ds cs (less k) h narrow by_bits = of c.by_bits by_bits
    where
      p : (nat_le 1 k ≡ true) × (nat_le k n ≡ true)
      p = and_parts (nat_le 1 k) (nat_le k n) h

      of :
          (b : Bool) → (b ≡ true → false ≡ true)
          → fault (less_paid f x k n) ds (known_four cs) (costs (measure b (unsigned x)) f) (total (assertions_of (cost f ∷ costs (measured b (less_term x k)) f ∷ []))) ≡ None
      of true e = let never = e refl in cc
      of false e = less_holds f x k n (grind (arith, nat_tests, p.0)) (grind (arith, nat_tests, p.1)) small cs (y_less_x x o) (x_less_y x o) ds
  step_holds ds cs (divided k) h narrow by_bits = of c.by_bits
    where
      at_least_two : 2 ≤ k
      at_least_two = grind (arith, nat_tests, h)

      of :
          (b : Bool)
          → fault (if b then bits_paid f x k n else quotient_paid f x k n) ds (known_four cs) (costs (measure b (unsigned x)) f) (total (assertions_of (cost f ∷ costs (measured b (quotient_term x k)) f ∷ []))) ≡ None
      of true = bits_hold f x k n at_least_two narrow positive small cs (y_less_x x o) (x_less_y x o) ds
      of false = quotient_holds f x k n at_least_two narrow positive small cs (y_less_x x o) (x_less_y x o) ds

  -- with what others take, where the certificates of sums show it
  abbrev pub OwnPaid : (ds : List Define) → Type 0
  OwnPaid ds =
      (k : Known) (t : TermTree) (p : Polynomial) → term_polynomial t ≡ Ok p → IsOne p → (cert : CertTree) → fault cert ds k (own_need f c) (total (assertions_of (cost f ∷ costs t f ∷ []))) ≡ None
      → fault (own_paid t f c.helpers cert) ds k (counting_pre f c) (total (assertions_of (cost f ∷ with_helpers c.helpers (costs t f) ∷ []))) ≡ None

  -- what is handed on has one polynomial of one term
  handed_polynomial : (s : Step) → falls n s ≡ true → HasOne (measured c.by_bits (handed_on x s))
  handed_polynomial (less k) h =
      let p = and_parts (nat_le 1 k) (nat_le k n) h in
      let positive : 1 ≤ k = let a = p.0 in grind (arith, nat_tests, a) in
      let reaches : k ≤ n = let a = p.1 in grind (arith, nat_tests, a) in
      measured_one c.by_bits (less_term x k) (subtraction.w f x k n positive reaches small) (subtraction.less_term_is f x k n positive reaches small) (subtraction.w_one f x k n positive reaches small)
  handed_polynomial (divided k) h =
      measured_one c.by_bits (quotient_term x k) (single (polynomials.div (x_of x) k)) refl (one_single (polynomials.div (x_of x) k) (one_single (polynomials.variable (unsigned x)) tt).canonical)

  pub own_call_paid :
      (u : CoreUnitTree) (proofs : ProofsTree) (function : CoreFunctionTree) (is : IsSetting f c closed u proofs function) → OwnPaid proofs.defines
      → (es : List CoreExprTree) (s : Step) → step_of c.counter es ≡ Some s → falls n s ≡ true → IsNarrow s → (c.by_bits ≡ true → is_quotient s ≡ true)
      → IsPaid (past f c closed) (pay_past f c f es) (scope_of u proofs function) f es
  own_call_paid u proofs function is with_others es s handed down narrow by_bits =
      let t = handed_on x s in
      let image = image_at_call f c closed u proofs function is es t (handed_term c.counter es s handed) in
      let m = terms_for (pre_images function es) in
      let cs : List CondTree = eq (variable (unsigned x)) (variable (unsigned o)) ∷ le (tree.number (pos n)) (variable (unsigned x)) ∷ [] in
      let at : at_call (pre_images function es) (counting_pre f c) ≡ with_helpers c.helpers (costs (measured c.by_bits t) f) =
      with_image m c.helpers (own_need f c) closed
      ∙ ap (λ (a : AssertionTree). with_helpers c.helpers a) (measured_image m c.by_bits (unsigned x) f ∙ ap (λ (o : Option TermTree). costs (measured c.by_bits (or_itself o (unsigned x))) f) image) in
      let one = handed_polynomial s down in
      let paid : CertTree = own_paid (measured c.by_bits t) f c.helpers (step_paid f c s) in
      record {
        function = function;
        spec = balanced (counting_pre f c);
        stands = is.stands;
        has_spec = is.specified;
        balanced = assertion_self (balanced (counting_pre f c)).post;
        has_terms =
            ap (λ (xs : List Var). find (λ v. is_none (pre_images function es v)) xs) (with_variables c.helpers (own_need f c) closed ∙ measure_variables c.by_bits (unsigned x) f)
            ∙ ap (λ (o : Option TermTree). if is_none o then Some (unsigned x) else None) image;
        paid =
            ap (λ (a : AssertionTree). verdict [] proofs.defines (past f c closed) (total (two (cost f) a)) (pay_past f c f es)) at
            ∙ ap (λ (b : Bool). verdict [] proofs.defines (past f c closed) (total (two (cost f) (with_helpers c.helpers (costs (measured c.by_bits t) f)))) (assume (assume (if b then if_step f c (step_of c.counter es) else helper_paid 4 (counted c) f f c.helpers))))
            (eq-eqb f f refl)
            ∙ ap (λ (o : Option Step). verdict [] proofs.defines (past f c closed) (total (two (cost f) (with_helpers c.helpers (costs (measured c.by_bits t) f)))) (assume (assume (if_step f c o)))) handed
            ∙ under_both x o (counting_pre f c) (need_plain f c closed) paid n small proofs.defines [] (total (two (cost f) (with_helpers c.helpers (costs (measured c.by_bits t) f))))
            (with_others (known_four cs) (measured c.by_bits t) one.polynomial one.is one.one (step_paid f c s) (step_holds proofs.defines cs s down narrow by_bits));
      }
