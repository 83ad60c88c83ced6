-- Under one guard for each parameter that is passed on: the guards hold at the entry, and each makes two polynomials known.
use Rattle.std.proofs.Common.{◌≡◌, ◌<◌, ◌+◌, ◌*◌, ℕ, suc, refl, sym, ap, ◌∙◌, subst, arith, Bool, true, false, List, [], ◌∷◌, ◌++◌, length, Ok, None}
use Rattle.std.specs.Prelude.{pos, ◌||◌, not as no, if◌then◌else◌, filter, Some}
use Rattle.std.specs.List.{list_any}
use Rattle.std.proofs.lemmas.List.{length-append}
use Rattle.qs_assert.specs.declared.define.Define.{Define}
use Rattle.qs_assert.specs.declared.variable.Var.{Var}
use Rattle.qs_assert.specs.declared.variable.VarKind.TheVariants as kinds
use Rattle.qs_assert.specs.Images.{assertion_image}
use Rattle.qs_assert.specs.Sameness.{same_assertion}
use Rattle.qs_assert.specs.Substitution.{same_variable}
use Rattle.qs_assert.specs.Trees.{variable, CondTree, eq, not, AssertionTree, guard, assertions_of}
use Rattle.qs_assert.proofs.SamenessLaws.{assertion_same, variable_equal, variable_self}
use Rattle.qs_poly.specs.Operations.{number}
use Rattle.qs_poly.specs.Polynomials.{Polynomial}
use Rattle.qs_entail.specs.Building.{at}
use Rattle.qs_entail.specs.Certificates.{CertTree, same}
use Rattle.qs_entail.specs.Faults.{step, member}
use Rattle.qs_entail.specs.declared.fault.Rule.TheVariants as rules
use Rattle.qs_entail.specs.Pushing.{Known, at_first, push}
use Rattle.qs_entail.specs.Verdicts.{fault}
use Rattle.qs_triples.specs.Mentions.{old_kind, as_plain}
use Rattle.qs_recur.proofs.AroundLaws.{IsWithoutChoice}
use Rattle.qs_recur.proofs.GuardLaws.{equal_to_itself}
use Rattle.qs_recur.proofs.KeptLaws.{at_left, at_next, at_second}
use Rattle.qs_recur.proofs.NeedLaws.{Every, IsCounter, is_in, HasPlaces}
use Rattle.qs_recur.proofs.StepLaws.{fault_same, fault_assume, fault_drop, fault_pick}
use Rattle.qs_recur.proofs.WayLaws.{y_less_x, x_less_y, equal_pushed}
use Rattle.qs_recur.specs.Certificates.{equals_itself}
use Rattle.qs_recur.specs.Needs.{unsigned, greatest_of}
use Rattle.qs_recur.specs.Passing.{each_once, is_kept, guarded_by, assumed, all_entered, place_of, index_of, picked}

-- ---- each once

not_same : (x y v : Var) → same_variable x v ≡ false → same_variable y v ≡ true → no (same_variable y x) ≡ true
not_same x y v h e = by (same_variable y x) refl
  where
    by : (b : Bool) → same_variable y x ≡ b → no b ≡ true
    by false i = refl
    by true i =
        let is : y ≡ v = variable_equal y v e in
        let same_x : v ≡ x = sym is ∙ variable_equal y x i in
        absurd (differ (same_variable x v) h (ap (λ (z : Var). same_variable x z) same_x ∙ variable_self x))
      where
        differ : (b : Bool) → b ≡ false → b ≡ true → ⊥
        differ true h e = cc
        differ false h e = cc

stays_in : (x v : Var) (ys : List Var) → same_variable x v ≡ false → is_in v ys ≡ true → is_in v (filter (λ y. no (same_variable y x)) ys) ≡ true
stays_in x v [] h e = e
stays_in x v (y ∷ ys) h e = by (same_variable y v) refl (no (same_variable y x)) refl (stays_in x v ys h)
  where
    by :
        (b : Bool) → same_variable y v ≡ b → (stays : Bool) → no (same_variable y x) ≡ stays → (is_in v ys ≡ true → is_in v (filter (λ y. no (same_variable y x)) ys) ≡ true)
        → is_in v (if stays then y ∷ filter (λ y. no (same_variable y x)) ys else filter (λ y. no (same_variable y x)) ys) ≡ true
    by true i true j later = ap (λ (b : Bool). b || is_in v (filter (λ y. no (same_variable y x)) ys)) i
    by true i false j later = absurd (differ (no (same_variable y x)) (not_same x y v h i) j)
      where
        differ : (b : Bool) → b ≡ true → b ≡ false → ⊥
        differ true h e = cc
        differ false h e = cc
    by false i true j later = ap (λ (b : Bool). b || is_in v (filter (λ y. no (same_variable y x)) ys)) i ∙ later (sym (ap (λ (b : Bool). b || is_in v ys) i) ∙ e)
    by false i false j later = later (sym (ap (λ (b : Bool). b || is_in v ys) i) ∙ e)

pub in_each_once : (v : Var) (xs : List Var) → is_in v xs ≡ true → is_in v (each_once xs) ≡ true
in_each_once v [] h = h
in_each_once v (x ∷ xs) h = by (same_variable x v) refl (in_each_once v xs)
  where
    by : (b : Bool) → same_variable x v ≡ b → (is_in v xs ≡ true → is_in v (each_once xs) ≡ true) → (same_variable x v || is_in v (filter (λ y. no (same_variable y x)) (each_once xs))) ≡ true
    by true e later = ap (λ (b : Bool). b || is_in v (filter (λ y. no (same_variable y x)) (each_once xs))) e
    by false e later =
        ap (λ (b : Bool). b || is_in v (filter (λ y. no (same_variable y x)) (each_once xs))) e
        ∙ stays_in x v (each_once xs) e (later (sym (ap (λ (b : Bool). b || is_in v xs) e) ∙ h))

filtered : (P : Var → Type 0) (p : Var → Bool) (xs : List Var) → Every P xs → Every P (filter p xs)
filtered P p [] h = tt
filtered P p (x ∷ xs) h = by (p x) (filtered P p xs h.1)
  where
    by : (b : Bool) → Every P (filter p xs) → Every P (if b then x ∷ filter p xs else filter p xs)
    by true rest = (h.0, rest)
    by false rest = rest

pub each_once_every : (P : Var → Type 0) (xs : List Var) → Every P xs → Every P (each_once xs)
each_once_every P [] h = tt
each_once_every P (x ∷ xs) h = (h.0, filtered P (λ y. no (same_variable y x)) (each_once xs) (each_once_every P xs h.1))

-- ---- what is known under the guards

abbrev two_of : Var → List Polynomial
two_of v = y_less_x v.kind (old_kind v.kind) ∷ x_less_y v.kind (old_kind v.kind) ∷ []

abbrev pub guards_and : List Var → List CondTree → List CondTree
guards_and [] cs = cs
guards_and (v ∷ vs) cs = guards_and vs (cs ++ is_kept v ∷ [])

abbrev pub guarded : List Var → List Polynomial → List Polynomial
guarded [] l = l
guarded (v ∷ vs) l = guarded vs (l ++ two_of v)

abbrev known : List CondTree → List Polynomial → Known
known cs l = record { conditions = cs; polynomials = l }

pushed : (v : Var) (cs : List CondTree) (l : List Polynomial) → IsCounter v → push (is_kept v) (known cs l) ≡ Ok (known (cs ++ is_kept v ∷ []) (l ++ two_of v))
pushed v cs l c =
    subst (λ (v : Var). push (is_kept v) (known cs l) ≡ Ok (known (cs ++ is_kept v ∷ []) (l ++ two_of v))) (sym c.is)
    (equal_pushed (kinds.Plain c.parameter) (kinds.Old c.parameter) (known cs l))

pub assumed_holds :
    (xs : List Var) (c : CertTree) (ds : List Define) (cs : List CondTree) (l : List Polynomial) (need q : AssertionTree) → Every IsCounter xs → fault c ds (known (guards_and xs cs) (guarded xs l)) need q ≡ None
    → fault (assumed (length xs) c) ds (known cs l) (guarded_by xs need) q ≡ None
assumed_holds [] c ds cs l need q h e = e
assumed_holds (v ∷ vs) c ds cs l need q h e =
    fault_assume (assumed (length vs) c) ds (known cs l) (known (cs ++ is_kept v ∷ []) (l ++ two_of v)) (is_kept v) (guarded_by vs need) q (pushed v cs l h.0)
    (assumed_holds vs c ds (cs ++ is_kept v ∷ []) (l ++ two_of v) need q h.1 e)

-- ---- where they stand

two_more : (l : List Polynomial) (v : Var) → length (l ++ two_of v) ≡ length l + 2
two_more l v = length-append l (two_of v)

longer : (vs : List Var) (l : List Polynomial) → length (guarded vs l) ≡ length l + 2 * length vs
longer [] l = none (length l)
  where
    none : (n : ℕ) → n ≡ n + 2 * 0
    none n = omega arith
longer (v ∷ vs) l = longer vs (l ++ two_of v) ∙ more (length (l ++ two_of v)) (length l) (length vs) (two_more l v)
  where
    more : (m n k : ℕ) → m ≡ n + 2 → m + 2 * k ≡ n + 2 * suc k
    more m n k h = omega (arith, h)

kept_at : (vs : List Var) (l : List Polynomial) (i : ℕ) → i < length l → at (guarded vs l) (pos i) ≡ at l (pos i)
kept_at [] l i h = refl
kept_at (v ∷ vs) l i h = kept_at vs (l ++ two_of v) i (below (length (l ++ two_of v)) (length l) i (two_more l v) h) ∙ at_left l (two_of v) i h
  where
    below : (m n i : ℕ) → m ≡ n + 2 → i < n → i < m
    below m n i h e = omega (arith, h, e)

-- the two polynomials of v, behind n others
pub record Stands (v : Var) (vs : List Var) (l : List Polynomial) (n : ℕ) : Type 0 where
  pub low : place_of v vs < length vs
  pub less : at (guarded vs l) (pos (n + 2 * place_of v vs)) ≡ y_less_x v.kind (old_kind v.kind)
  pub more : at (guarded vs l) (pos (n + 2 * place_of v vs + 1)) ≡ x_less_y v.kind (old_kind v.kind)

first_low : (n m : ℕ) → m ≡ n + 2 → n + 2 * 0 < m
first_low n m h = omega (arith, h)

second_low : (n m : ℕ) → m ≡ n + 2 → n + 2 * 0 + 1 < m
second_low n m h = omega (arith, h)

no_more : (n : ℕ) → n ≡ n + 2 * 0
no_more n = omega arith

one_more : (n : ℕ) → suc n ≡ n + 2 * 0 + 1
one_more n = omega arith

two_on : (n p : ℕ) → n + 2 * suc p ≡ n + 2 + 2 * p
two_on n p = omega arith

three_on : (n p : ℕ) → n + 2 * suc p + 1 ≡ n + 2 + 2 * p + 1
three_on n p = omega arith

zero_below : (n : ℕ) → 0 < suc n
zero_below n = omega arith

one_up : (p l : ℕ) → p < l → suc p < suc l
one_up p l h = omega (arith, h)

module _ (w : Var) (vs : List Var) (l : List Polynomial) (n : ℕ) (len : length l ≡ n) where
  abbrev rest : List Polynomial
  rest = guarded vs (l ++ two_of w)

  long : length (l ++ two_of w) ≡ n + 2
  long = two_more l w ∙ ap (λ (n : ℕ). n + 2) len

  first_at : at rest (pos (n + 2 * 0)) ≡ y_less_x w.kind (old_kind w.kind)
  first_at =
      kept_at vs (l ++ two_of w) (n + 2 * 0) (first_low n (length (l ++ two_of w)) long)
      ∙ at_next l (x_less_y w.kind (old_kind w.kind) ∷ []) (y_less_x w.kind (old_kind w.kind)) (n + 2 * 0) (len ∙ no_more n)

  second_at : at rest (pos (n + 2 * 0 + 1)) ≡ x_less_y w.kind (old_kind w.kind)
  second_at =
      kept_at vs (l ++ two_of w) (n + 2 * 0 + 1) (second_low n (length (l ++ two_of w)) long)
      ∙ at_second l [] (y_less_x w.kind (old_kind w.kind)) (x_less_y w.kind (old_kind w.kind)) (n + 2 * 0 + 1) (ap suc len ∙ one_more n)

  module _ (v : Var) where
    this_one : same_variable w v ≡ true → Stands v (w ∷ vs) l n
    this_one e =
        let is = variable_equal w v e in
        let i = ap (λ (b : Bool). if b then 0 else suc (place_of v vs)) e in
        record {
          low = subst (λ (p : ℕ). p < suc (length vs)) (sym i) (zero_below (length vs));
          less = ap (λ (p : ℕ). at rest (pos (n + 2 * p))) i ∙ first_at ∙ ap (λ (z : Var). y_less_x z.kind (old_kind z.kind)) is;
          more = ap (λ (p : ℕ). at rest (pos (n + 2 * p + 1))) i ∙ second_at ∙ ap (λ (z : Var). x_less_y z.kind (old_kind z.kind)) is;
        }

    another : same_variable w v ≡ false → Stands v vs (l ++ two_of w) (n + 2) → Stands v (w ∷ vs) l n
    another e s =
        let i = ap (λ (b : Bool). if b then 0 else suc (place_of v vs)) e in
        record {
          low = subst (λ (p : ℕ). p < suc (length vs)) (sym i) (one_up (place_of v vs) (length vs) s.low);
          less = ap (λ (p : ℕ). at rest (pos (n + 2 * p))) i ∙ ap (λ (p : ℕ). at rest (pos p)) (two_on n (place_of v vs)) ∙ s.less;
          more = ap (λ (p : ℕ). at rest (pos (n + 2 * p + 1))) i ∙ ap (λ (p : ℕ). at rest (pos p)) (three_on n (place_of v vs)) ∙ s.more;
        }

both_stand : (v : Var) (vs : List Var) (l : List Polynomial) (n : ℕ) → length l ≡ n → is_in v vs ≡ true → Stands v vs l n
both_stand v [] l n len h = cc
both_stand v (w ∷ vs) l n len h = by (same_variable w v) refl (both_stand v vs (l ++ two_of w) (n + 2) (long w vs l n len))
  where
    by : (b : Bool) → same_variable w v ≡ b → (is_in v vs ≡ true → Stands v vs (l ++ two_of w) (n + 2)) → Stands v (w ∷ vs) l n
    by true e later = this_one w vs l n len v e
    by false e later = another w vs l n len v e (later (sym (ap (λ (b : Bool). b || is_in v vs) e) ∙ h))

abbrev pub only_one : List Polynomial
only_one = number (pos 1) ∷ []

pub guards_have_places : (xs : List Var) → HasPlaces (guarded xs only_one) xs
guards_have_places xs = record {
  length_is = longer xs only_one;
  less = λ v h. (both_stand v xs only_one 1 refl h).less;
  more = λ v h. ap (λ (p : ℕ). at (guarded xs only_one) (pos p)) (one_on (place_of v xs)) ∙ (both_stand v xs only_one 1 refl h).more;
  low = λ v h. (both_stand v xs only_one 1 refl h).low;
}
  where
    one_on : (p : ℕ) → 2 + 2 * p ≡ 1 + 2 * p + 1
    one_on p = omega arith

-- ---- the guards themselves

pub guarded_plain : (xs : List Var) (need : AssertionTree) → IsWithoutChoice need → IsWithoutChoice (guarded_by xs need)
guarded_plain [] need h b first = h b first
guarded_plain (v ∷ vs) need h b first = ap (λ (a : AssertionTree). guard (is_kept v) a) (guarded_plain vs need h b first)

-- each parameter is what it is
abbrev pub entered_by : List Var → AssertionTree → AssertionTree
entered_by [] need = need
entered_by (v ∷ vs) need = guard (eq (variable v) (variable v)) (entered_by vs need)

pub entered_is : (xs : List Var) (need : AssertionTree) → Every IsCounter xs → assertion_image as_plain need ≡ need → assertion_image as_plain (guarded_by xs need) ≡ entered_by xs need
entered_is [] need h e = e
entered_is (v ∷ vs) need h e =
    subst (λ (v : Var). assertion_image as_plain (guarded_by (v ∷ vs) need) ≡ entered_by (v ∷ vs) need) (sym h.0.is)
    (ap (λ (a : AssertionTree). guard (eq (variable (unsigned (kinds.Plain h.0.parameter))) (variable (unsigned (kinds.Plain h.0.parameter)))) a) (entered_is vs need h.1 e))

pub all_entered_holds : (xs : List Var) (need : AssertionTree) (ds : List Define) → Every IsCounter xs → fault (all_entered (length xs)) ds at_first need (entered_by xs need) ≡ None
all_entered_holds [] need ds h = fault_same ds at_first need
all_entered_holds (v ∷ vs) need ds h =
    subst (λ (v : Var). fault (all_entered (suc (length vs))) ds at_first need (entered_by (v ∷ vs) need) ≡ None) (sym h.0.is)
    (let x = kinds.Plain h.0.parameter in
    let b = eq (variable (unsigned x)) (variable (unsigned x)) in
    fault_drop equals_itself (all_entered (length vs)) ds at_first (record { conditions = not b ∷ []; polynomials = number (pos 1) ∷ [] }) b need (entered_by vs need) refl (equal_to_itself x ds)
    (all_entered_holds vs need ds h.1))

-- ---- what a call needs is one of the needs

abbrev pub is_one_of : AssertionTree → List AssertionTree → Bool
is_one_of a needs = list_any (λ b. same_assertion b a) needs

index_holds : (a : AssertionTree) (needs : List AssertionTree) → is_one_of a needs ≡ true → member (assertions_of needs) (index_of a needs) ≡ Ok a
index_holds a [] h = cc
index_holds a (b ∷ needs) h = by (same_assertion b a) refl (index_holds a needs)
  where
    by : (c : Bool) → same_assertion b a ≡ c → (is_one_of a needs ≡ true → member (assertions_of needs) (index_of a needs) ≡ Ok a) → member (assertions_of (b ∷ needs)) (if same_assertion b a then 0 else suc (index_of a needs)) ≡ Ok a
    by true e later =
        ap (λ (c : Bool). member (assertions_of (b ∷ needs)) (if c then 0 else suc (index_of a needs))) e ∙ ap (λ (z : AssertionTree). Ok z) (assertion_same b a e)
    by false e later =
        ap (λ (c : Bool). member (assertions_of (b ∷ needs)) (if c then 0 else suc (index_of a needs))) e
        ∙ later (sym (ap (λ (c : Bool). c || is_one_of a needs) e) ∙ h)

pub picked_holds : (a : AssertionTree) (needs : List AssertionTree) (ds : List Define) (k : Known) → is_one_of a needs ≡ true → fault (picked a needs) ds k (greatest_of needs) a ≡ None
picked_holds a [] ds k h = cc
picked_holds a (b ∷ []) ds k h = ap (λ (z : Bool). if z then None else Some (step [] rules.Same)) (only (same_assertion b a) h)
  where
    only : (z : Bool) → (z || false) ≡ true → z ≡ true
    only true h = refl
    only false h = h
picked_holds a (b ∷ c ∷ needs) ds k h =
    fault_pick same ds k (assertions_of (b ∷ c ∷ needs)) (index_of a (b ∷ c ∷ needs)) a a (index_holds a (b ∷ c ∷ needs) h) (fault_same ds k a)
