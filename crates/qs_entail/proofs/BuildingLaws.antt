-- The polynomials that are built have the values of their terms.
use Rattle.std.proofs.Common.{◌≡◌, refl, sym, ap, ◌∙◌, arith, true, false}
use Rattle.std.specs.Prelude.{ℕ, ℤ, pos, ◌+ℤ◌, ◌-ℤ◌, ◌*ℤ◌, Bool, Result, Ok, Err}
use Rattle.std.proofs.lemmas.Int.{ints}
use Rattle.std.proofs.Math.IntN.{*ℤ_comm}
use Rattle.qs_assert.specs.Trees.{TermTree, number, variable, add, sub, mul, div, wrapu, wraps, bits, TermTrees, no_terms, term_and}
use Rattle.qs_assert.specs.Values.{State, wrapped_unsigned, wrapped_signed, bit_length, quotient, term_value, sum_of_terms, product_of_terms}
use Rattle.qs_poly.specs.Polynomials as poly
use Rattle.qs_poly.specs.Polynomials.{AtomTree, Polynomial, nothing}
use Rattle.qs_poly.specs.Operations.{sum, multiple, lessened, product, single}
use Rattle.qs_poly.specs.Operations as operation
use Rattle.qs_poly.specs.Limits.{all_narrow, has_few_terms, all_low}
use Rattle.qs_poly.specs.Values.{atom_value, polynomial_value}
use Rattle.qs_poly.specs.declared.fault.PolyFault.{PolyFault}
use Rattle.qs_poly.specs.declared.fault.PolyFault.TheVariants.{Wide, ManyTerms, HighDegree}
use Rattle.qs_poly.proofs.Ring.{mul_assoc}
use Rattle.qs_poly.proofs.ValueLaws.{sum_value, multiple_value, lessened_value, product_value, number_value, single_value}
use Rattle.qs_base.specs.Results.{bind, require}
use Rattle.qs_entail.specs.Building.{Stop, breaks, limits, limited, difference, term_polynomial, sum_onto, product_onto}

times_one : (z : ℤ) → z *ℤ pos 1 ≡ z
times_one z = omega (arith, ints)

-- ---- attempts that succeed

pub bind_ok : {A B : Type 0} (r : Result A Stop) (f : A → Result B Stop) (b : B) → bind r f ≡ Ok b → (a : A) × ((r ≡ Ok a) × (f a ≡ Ok b))
bind_ok (Ok a) f b h = (a, (refl, h))
bind_ok (Err n) f b h = cc

pub require_ok : {A : Type 0} (t : Bool) (r : Result A Stop) (a : A) → require t breaks r ≡ Ok a → (t ≡ true) × (r ≡ Ok a)
require_ok true r a h = (refl, h)
require_ok false r a h = cc

tested : (p r : Polynomial) (a b c : Bool) → (let good : Result Polynomial PolyFault = Ok p in limits (require a Wide (require b ManyTerms (require c HighDegree good)))) ≡ Ok r → p ≡ r
tested p r true true true h = cc
tested p r true true false h = cc
tested p r true false c h = cc
tested p r false b c h = cc

pub limited_ok : (p r : Polynomial) → limited p ≡ Ok r → p ≡ r
limited_ok p r h = tested p r (all_narrow p) (has_few_terms p) (all_low p) h

-- ---- values

pub limited_value : (p r : Polynomial) (s : State) → limited p ≡ Ok r → polynomial_value r s ≡ polynomial_value p s
limited_value p r s h = sym (ap (λ x. polynomial_value x s) (limited_ok p r h))

pub limited_lessened_value : (p : Polynomial) (k : ℕ) (q : Polynomial) (c : ℕ) (r : Polynomial) (s : State) → limited (lessened p k q c) ≡ Ok r → polynomial_value r s ≡ (polynomial_value p s -ℤ pos k *ℤ polynomial_value q s) -ℤ pos c
limited_lessened_value p k q c r s h = limited_value (lessened p k q c) r s h ∙ lessened_value p k q c s

pub difference_value : (p q r : Polynomial) (s : State) → difference p q ≡ Ok r → polynomial_value r s ≡ polynomial_value p s -ℤ polynomial_value q s
difference_value p q r s h = let v = limited_lessened_value p 1 q 0 r s h in omega (arith, ints, v)

pub limited_sum_value : (p q r : Polynomial) (s : State) → limited (sum p q) ≡ Ok r → polynomial_value r s ≡ polynomial_value p s +ℤ polynomial_value q s
limited_sum_value p q r s h = limited_value (sum p q) r s h ∙ sum_value p q s

pub limited_product_value : (p q r : Polynomial) (s : State) → limited (product p q) ≡ Ok r → polynomial_value r s ≡ polynomial_value p s *ℤ polynomial_value q s
limited_product_value p q r s h = limited_value (product p q) r s h ∙ product_value p q s

pub limited_multiple_value : (k : ℤ) (q r : Polynomial) (s : State) → limited (multiple k q) ≡ Ok r → polynomial_value r s ≡ k *ℤ polynomial_value q s
limited_multiple_value k q r s h = limited_value (multiple k q) r s h ∙ multiple_value k q s

-- ---- terms

atom_ok : (a : AtomTree) (p : Polynomial) (s : State) → (let made : Result Polynomial Stop = Ok (single a) in made) ≡ Ok p → polynomial_value p s ≡ atom_value a s
atom_ok a p s h = let e : single a ≡ p = cc in sym (ap (λ x. polynomial_value x s) e) ∙ single_value a s

mutual
  pub term_polynomial_value : (t : TermTree) (p : Polynomial) (s : State) → term_polynomial t ≡ Ok p → polynomial_value p s ≡ term_value t s
  term_polynomial_value (number k) p s h = limited_value (operation.number k) p s h ∙ number_value k s
  term_polynomial_value (variable x) p s h = atom_ok (poly.variable x) p s h
  term_polynomial_value (add ts) p s h = sum_onto_value ts nothing p s h ∙ omega (arith, ints)
  term_polynomial_value (sub t u) p s h =
      let a = bind_ok (term_polynomial t) (λ p. bind (term_polynomial u) (λ q. difference p q)) p h in
      let b = bind_ok (term_polynomial u) (λ q. difference a.0 q) p a.1.1 in
      let x = term_polynomial_value t a.0 s a.1.0 in
      let y = term_polynomial_value u b.0 s b.1.0 in
      let m = difference_value a.0 b.0 p s b.1.1 in
      m ∙ ap (λ z. z -ℤ polynomial_value b.0 s) x ∙ ap (λ z. term_value t s -ℤ z) y
  term_polynomial_value (mul ts) p s h =
      product_onto_value ts (operation.number (pos 1)) p s h
      ∙ ap (λ z. z *ℤ product_of_terms ts s) (number_value (pos 1) s)
      ∙ *ℤ_comm (pos 1) (product_of_terms ts s)
      ∙ times_one (product_of_terms ts s)
  term_polynomial_value (div t k) p s h =
      let a = bind_ok (term_polynomial t) (λ p. Ok (single (poly.div p k))) p h in
      atom_ok (poly.div a.0 k) p s a.1.1 ∙ ap (λ z. quotient z k) (term_polynomial_value t a.0 s a.1.0)
  term_polynomial_value (wrapu t) p s h =
      let a = bind_ok (term_polynomial t) (λ p. Ok (single (poly.wrapu p))) p h in
      atom_ok (poly.wrapu a.0) p s a.1.1 ∙ ap wrapped_unsigned (term_polynomial_value t a.0 s a.1.0)
  term_polynomial_value (wraps t) p s h =
      let a = bind_ok (term_polynomial t) (λ p. Ok (single (poly.wraps p))) p h in
      atom_ok (poly.wraps a.0) p s a.1.1 ∙ ap wrapped_signed (term_polynomial_value t a.0 s a.1.0)
  term_polynomial_value (bits t) p s h =
      let a = bind_ok (term_polynomial t) (λ p. Ok (single (poly.bits p))) p h in
      atom_ok (poly.bits a.0) p s a.1.1 ∙ ap (λ z. pos (bit_length z)) (term_polynomial_value t a.0 s a.1.0)

  pub sum_onto_value : (ts : TermTrees) (p r : Polynomial) (s : State) → sum_onto ts p ≡ Ok r → polynomial_value r s ≡ polynomial_value p s +ℤ sum_of_terms ts s
  sum_onto_value no_terms p r s h = let e : p ≡ r = cc in sym (ap (λ x. polynomial_value x s) e) ∙ omega (arith, ints)
  sum_onto_value (term_and t ts) p r s h =
      let a = bind_ok (term_polynomial t) (λ q. bind (limited (sum p q)) (λ r. sum_onto ts r)) r h in
      let b = bind_ok (limited (sum p a.0)) (λ r. sum_onto ts r) r a.1.1 in
      let x = term_polynomial_value t a.0 s a.1.0 in
      let y = limited_sum_value p a.0 b.0 s b.1.0 in
      let z = sum_onto_value ts b.0 r s b.1.1 in
      omega (arith, ints, x, y, z)

  pub product_onto_value : (ts : TermTrees) (p r : Polynomial) (s : State) → product_onto ts p ≡ Ok r → polynomial_value r s ≡ polynomial_value p s *ℤ product_of_terms ts s
  product_onto_value no_terms p r s h = let e : p ≡ r = cc in sym (ap (λ x. polynomial_value x s) e) ∙ sym (times_one (polynomial_value p s))
  product_onto_value (term_and t ts) p r s h =
      let a = bind_ok (term_polynomial t) (λ q. bind (limited (product p q)) (λ r. product_onto ts r)) r h in
      let b = bind_ok (limited (product p a.0)) (λ r. product_onto ts r) r a.1.1 in
      let x = term_polynomial_value t a.0 s a.1.0 in
      let y = limited_product_value p a.0 b.0 s b.1.0 in
      let z = product_onto_value ts b.0 r s b.1.1 in
      z ∙ ap (λ v. v *ℤ product_of_terms ts s) (y ∙ ap (λ v. polynomial_value p s *ℤ v) x) ∙ mul_assoc (polynomial_value p s) (term_value t s) (product_of_terms ts s)
