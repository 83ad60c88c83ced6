-- An expression that doesn't act has no temporaries, and its value is the same behind any.
use Rattle.std.proofs.Common.{◌≡◌, ◌||◌, not, Bool, true, false, refl, ap, ◌∙◌, if◌then◌else◌, is_some}
use Rattle.std.proofs.lemmas.Bool.{not-false}
use Rattle.qs_core.specs.Trees.{CoreExprTree}
use Rattle.qs_core.specs.Trees as core
use Rattle.qs_meaning.specs.Typed.{Expr, constant, value, pointer_to, member, called, stepped_after, unary, cast, binary, logical_and, logical_or, conditional, assigned, sequence, Lvalue, variable, object, Effect, nothing, discard, assign, perform, copy, fill, in_order}
use Rattle.qs_elaborate_bodies.specs.Literals.{is_literal, converted_core}
use Rattle.qs_elaborate_bodies.specs.Acting.{acts, lvalue_acts, effect_acts, is_constant}
use Rattle.qs_elaborate_bodies.specs.Parts.{Temporaries, Valued, pointed, in_temporary, saved, saved_if, value_at}
use Rattle.qs_elaborate_bodies.specs.Expressions.{operation_core, expression_core, lvalue_core, effect_core}
use Rattle.qs_elaborate_bodies.proofs.ActingLaws.{constant_exactly}

pub neither_left : (x y : Bool) → (x || y) ≡ false → x ≡ false
neither_left false y h = refl
neither_left true y h = cc

pub neither_right : (x y : Bool) → (x || y) ≡ false → y ≡ false
neither_right false y h = h
neither_right true y h = cc

pub saved_off : (z : Bool) (g : Valued) → z ≡ false → saved_if z g ≡ g
saved_off true g h = cc
saved_off false g h = refl

pub if_off : (z : Bool) (g j : Valued) → z ≡ false → (if z then g else j) ≡ j
if_off true g j h = cc
if_off false g j h = refl

saved_literal : (g : Valued) → is_literal g.value ≡ true → saved g ≡ g
saved_literal g h = ap (λ z. if z then g else in_temporary g) h

-- ---- temporaries

mutual
  pub quiet_temporaries : (a : Expr) (ts : Temporaries) → acts a ≡ false → (expression_core a ts).temporaries ≡ ts
  quiet_temporaries (constant s n) ts h = refl
  quiet_temporaries (value s l) ts h = quiet_lvalue l ts h
  quiet_temporaries (pointer_to o) ts h = refl
  quiet_temporaries (member offset a) ts h = quiet_temporaries a ts h
  quiet_temporaries (called s f es) ts h = cc
  quiet_temporaries (stepped_after s l operation left back) ts h = cc
  quiet_temporaries (unary operation c a) ts h = quiet_temporaries a ts h
  quiet_temporaries (cast c a) ts h = quiet_temporaries a ts h
  quiet_temporaries (binary operation order left right a b) ts h =
      let p : acts a ≡ false = neither_left (acts a) (acts b) h in
      let q : acts b ≡ false = neither_right (acts a) (acts b) h in
      quiet_temporaries b (saved_if (acts b) (expression_core a ts)).temporaries q
      ∙ ap (λ (v : Valued). v.temporaries) (saved_off (acts b) (expression_core a ts) q)
      ∙ quiet_temporaries a ts p
  quiet_temporaries (logical_and a b) ts h =
      let p : acts a ≡ false = neither_left (acts a) (acts b) h in
      let q : acts b ≡ false = neither_right (acts a) (acts b) h in
      ap (λ (v : Valued). v.temporaries) (if_off (acts b) _ _ q) ∙ quiet_temporaries b (expression_core a ts).temporaries q ∙ quiet_temporaries a ts p
  quiet_temporaries (logical_or a b) ts h =
      let p : acts a ≡ false = neither_left (acts a) (acts b) h in
      let q : acts b ≡ false = neither_right (acts a) (acts b) h in
      ap (λ (v : Valued). v.temporaries) (if_off (acts b) _ _ q) ∙ quiet_temporaries b (expression_core a ts).temporaries q ∙ quiet_temporaries a ts p
  quiet_temporaries (conditional s a second third b c) ts h =
      let p : acts a ≡ false = neither_left (acts a) (acts b || acts c) h in
      let r : (acts b || acts c) ≡ false = neither_right (acts a) (acts b || acts c) h in
      let q : acts b ≡ false = neither_left (acts b) (acts c) r in
      let s : acts c ≡ false = neither_right (acts b) (acts c) r in
      ap (λ (v : Valued). v.temporaries) (if_off (acts b || acts c) _ _ r)
      ∙ quiet_temporaries c (expression_core b (expression_core a ts).temporaries).temporaries s
      ∙ quiet_temporaries b (expression_core a ts).temporaries q
      ∙ quiet_temporaries a ts p
  quiet_temporaries (assigned a) ts h = cc
  quiet_temporaries (sequence a b) ts h =
      let p : effect_acts a ≡ false = neither_left (effect_acts a) (acts b) h in
      let q : acts b ≡ false = neither_right (effect_acts a) (acts b) h in
      quiet_temporaries b (effect_core a ts).temporaries q ∙ quiet_effect a ts p

  quiet_lvalue : (l : Lvalue) (ts : Temporaries) → lvalue_acts l ≡ false → (lvalue_core l ts).temporaries ≡ ts
  quiet_lvalue (variable x) ts h = refl
  quiet_lvalue (object a) ts h = quiet_temporaries a ts h

  quiet_effect : (a : Effect) (ts : Temporaries) → effect_acts a ≡ false → (effect_core a ts).temporaries ≡ ts
  quiet_effect nothing ts h = refl
  quiet_effect (discard a) ts h =
      let p : acts a ≡ false = neither_left (acts a) (not (is_constant a)) h in
      let q : is_constant a ≡ true = not-false (is_constant a) (neither_right (acts a) (not (is_constant a)) h) in
      let r : is_literal (expression_core a ts).value ≡ true = ap is_some (constant_exactly a ts) ∙ q in
      ap (λ (v : Valued). v.temporaries) (saved_literal (expression_core a ts) r) ∙ quiet_temporaries a ts p
  quiet_effect (assign a) ts h = cc
  quiet_effect (perform f es) ts h = cc
  quiet_effect (copy size alignment a b) ts h = cc
  quiet_effect (fill blank a) ts h = cc
  quiet_effect (in_order a b) ts h =
      let p : effect_acts a ≡ false = neither_left (effect_acts a) (effect_acts b) h in
      let q : effect_acts b ≡ false = neither_right (effect_acts a) (effect_acts b) h in
      quiet_effect b (effect_core a ts).temporaries q ∙ quiet_effect a ts p

-- ---- values

saved_same : (z : Bool) (g j : Valued) → z ≡ false → g.value ≡ j.value → (saved_if z g).value ≡ (saved_if z j).value
saved_same true g j h e = cc
saved_same false g j h e = e

if_same : (z : Bool) (g j p q : Valued) → z ≡ false → j.value ≡ q.value → (if z then g else j).value ≡ (if z then p else q).value
if_same true g j p q h e = cc
if_same false g j p q h e = e

both_same : (f : CoreExprTree → CoreExprTree → CoreExprTree) (a b c d : CoreExprTree) → a ≡ c → b ≡ d → f a b ≡ f c d
both_same f a b c d h k = ap (λ x. f x b) h ∙ ap (f c) k

mutual
  pub quiet_value : (a : Expr) (ts us : Temporaries) → acts a ≡ false → (expression_core a ts).value ≡ (expression_core a us).value
  quiet_value (constant s n) ts us h = refl
  quiet_value (value s l) ts us h = ap (value_at s) (quiet_location l ts us h)
  quiet_value (pointer_to o) ts us h = refl
  quiet_value (member offset a) ts us h = ap (core.member offset) (quiet_value a ts us h)
  quiet_value (called s f es) ts us h = cc
  quiet_value (stepped_after s l operation left back) ts us h = cc
  quiet_value (unary operation c a) ts us h = ap (λ x. core.unary operation (converted_core c x)) (quiet_value a ts us h)
  quiet_value (cast c a) ts us h = ap (converted_core c) (quiet_value a ts us h)
  quiet_value (binary operation order left right a b) ts us h =
      let p : acts a ≡ false = neither_left (acts a) (acts b) h in
      let q : acts b ≡ false = neither_right (acts a) (acts b) h in
      both_same (operation_core operation order left right) _ _ _ _
      (saved_same (acts b) (expression_core a ts) (expression_core a us) q (quiet_value a ts us p))
      (quiet_value b (saved_if (acts b) (expression_core a ts)).temporaries (saved_if (acts b) (expression_core a us)).temporaries q)
  quiet_value (logical_and a b) ts us h =
      let p : acts a ≡ false = neither_left (acts a) (acts b) h in
      let q : acts b ≡ false = neither_right (acts a) (acts b) h in
      if_same (acts b) _ _ _ _ q
      (both_same core.logical_and _ _ _ _ (quiet_value a ts us p) (quiet_value b (expression_core a ts).temporaries (expression_core a us).temporaries q))
  quiet_value (logical_or a b) ts us h =
      let p : acts a ≡ false = neither_left (acts a) (acts b) h in
      let q : acts b ≡ false = neither_right (acts a) (acts b) h in
      if_same (acts b) _ _ _ _ q
      (both_same core.logical_or _ _ _ _ (quiet_value a ts us p) (quiet_value b (expression_core a ts).temporaries (expression_core a us).temporaries q))
  quiet_value (conditional s a second third b c) ts us h =
      let p : acts a ≡ false = neither_left (acts a) (acts b || acts c) h in
      let r : (acts b || acts c) ≡ false = neither_right (acts a) (acts b || acts c) h in
      let q : acts b ≡ false = neither_left (acts b) (acts c) r in
      let o : acts c ≡ false = neither_right (acts b) (acts c) r in
      if_same (acts b || acts c) _ _ _ _ r
      (ap (λ x. core.conditional x
      (converted_core second (expression_core b (expression_core a ts).temporaries).value)
      (converted_core third (expression_core c (expression_core b (expression_core a ts).temporaries).temporaries).value))
      (quiet_value a ts us p)
      ∙ both_same (λ x y. core.conditional (expression_core a us).value (converted_core second x) (converted_core third y))
      (expression_core b (expression_core a ts).temporaries).value
      (expression_core c (expression_core b (expression_core a ts).temporaries).temporaries).value
      (expression_core b (expression_core a us).temporaries).value
      (expression_core c (expression_core b (expression_core a us).temporaries).temporaries).value
      (quiet_value b (expression_core a ts).temporaries (expression_core a us).temporaries q)
      (quiet_value c
      (expression_core b (expression_core a ts).temporaries).temporaries
      (expression_core b (expression_core a us).temporaries).temporaries o))
  quiet_value (assigned a) ts us h = cc
  quiet_value (sequence a b) ts us h =
      quiet_value b (effect_core a ts).temporaries (effect_core a us).temporaries (neither_right (effect_acts a) (acts b) h)

  quiet_location : (l : Lvalue) (ts us : Temporaries) → lvalue_acts l ≡ false → (lvalue_core l ts).location ≡ (lvalue_core l us).location
  quiet_location (variable x) ts us h = refl
  quiet_location (object a) ts us h = ap pointed (quiet_value a ts us h)
