-- What is written of a tree means that tree.
use Rattle.std.proofs.Common.{arith, ◌≡◌, ℕ, zero, suc, ◌+◌, nat_le, true, false, List, [], ◌∷◌, length, if◌then◌else◌, Some, Ok, Err, refl, ap, ◌∙◌}
use Rattle.std.specs.Cmp.{first_so, second_so}
use Rattle.qs_base.specs.Results.{bind}
use Rattle.qs_assert.specs.declared.variable.Var.{Var}
use Rattle.qs_assert.specs.Trees.{TermTree, number, variable, add, sub, mul, div, wrapu, wraps, bits, TermTrees, no_terms, term_and, term_list, terms_of, CondTree, le, lt, eq, ne, not, and, or, CondTrees, no_conds, cond_and, cond_list, conds_of, AssertionTree, natural, infinity, cost, num, total, greatest, product, guard, choose, named, AssertionTrees, no_assertions, assertion_and, assertion_list, assertions_of}
use Rattle.qs_assert.specs.Reading.{terms_of-list, conds_of-list, assertions_of-list}
use Rattle.qs_entail.specs.Certificates.{range}
use Rattle.qs_sexpr.specs.Trees.{Sexp, Sexps, count}
use Rattle.qs_sexpr.specs.Writing.{Form}
use Rattle.qs_prooftext_meaning.specs.Kinds.{a_term, a_condition, an_assertion, a_definition_body, a_range}
use Rattle.qs_prooftext_meaning.specs.Settings.{Setting, look_up}
use Rattle.qs_prooftext_meaning.specs.Meanings.{Answer, or_fault, means, all_mean}
use Rattle.qs_prooftext_meaning.specs.declared.fault.TextFault.TheVariants.{UnknownForm, NoSuchFunction}
use Rattle.qs_prooftext_meaning.specs.Writing.{Words, forms_of, variable_form, term_form, term_forms, condition_form, condition_forms, assertion_form, assertion_forms}
use Rattle.qs_prooftext_meaning.proofs.PlacedForms.{place, others_in, placed, all_placed}
use Rattle.qs_prooftext_meaning.specs.Writable.{is_meant, term_stands, terms_stand, condition_stands, conditions_stand, assertion_stands, assertions_stand, definition_stands, definitions_stand, is_function}

-- ---- tests

-- ---- rows

-- the answers of parts, put together
pub one_part : {A B : Type 0} (made : A → B) (x : Answer A) (p : A) → x ≡ Ok p → bind (bind x (λ v. Ok (v, tt))) (λ (v : A × Unit {0}). Ok (made v.0)) ≡ Ok (made p)
one_part {A = A} made x p e = λ i. bind (bind (e i) (λ v. Ok (v, tt))) (λ (v : A × Unit {0}). Ok (made v.0))

pub two_parts : {A B C : Type 0} (made : A → B → C) (x : Answer A) (y : Answer B) (p : A) (q : B) → x ≡ Ok p → y ≡ Ok q → bind (bind x (λ v. bind (bind y (λ u. Ok (u, tt))) (λ vs. Ok (v, vs)))) (λ (v : A × (B × Unit {0})). Ok (made v.0 v.1.0)) ≡ Ok (made p q)
two_parts {A = A} {B = B} made x y p q e f =
    λ i. bind (bind (e i) (λ v. bind (bind (f i) (λ u. Ok (u, tt))) (λ vs. Ok (v, vs)))) (λ (v : A × (B × Unit {0})). Ok (made v.0 v.1.0))

pub three_parts : {A B C D : Type 0} (made : A → B → C → D) (x : Answer A) (y : Answer B) (z : Answer C) (p : A) (q : B) (r : C) → x ≡ Ok p → y ≡ Ok q → z ≡ Ok r → bind (bind x (λ v. bind (bind y (λ u. bind (bind z (λ t. Ok (t, tt))) (λ vs. Ok (u, vs)))) (λ vs. Ok (v, vs)))) (λ (v : A × (B × (C × Unit {0}))). Ok (made v.0 v.1.0 v.1.1.0)) ≡ Ok (made p q r)
three_parts {A = A} {B = B} {C = C} made x y z p q r e f h =
    λ i. bind (bind (e i) (λ v. bind (bind (f i) (λ u. bind (bind (h i) (λ t. Ok (t, tt))) (λ vs. Ok (u, vs)))) (λ vs. Ok (v, vs)))) (λ (v : A × (B × (C × Unit {0}))). Ok (made v.0 v.1.0 v.1.1.0))

pub four_parts : {A B C D E : Type 0} (made : A → B → C → D → E) (x : Answer A) (y : Answer B) (z : Answer C) (w : Answer D) (p : A) (q : B) (r : C) (s : D) → x ≡ Ok p → y ≡ Ok q → z ≡ Ok r → w ≡ Ok s → bind (bind x (λ v. bind (bind y (λ u. bind (bind z (λ t. bind (bind w (λ o. Ok (o, tt))) (λ vs. Ok (t, vs)))) (λ vs. Ok (u, vs)))) (λ vs. Ok (v, vs)))) (λ (v : A × (B × (C × (D × Unit {0})))). Ok (made v.0 v.1.0 v.1.1.0 v.1.1.1.0)) ≡ Ok (made p q r s)
four_parts {A = A} {B = B} {C = C} {D = D} made x y z w p q r s e f h k =
    λ i. bind (bind (e i) (λ v. bind (bind (f i) (λ u. bind (bind (h i) (λ t. bind (bind (k i) (λ o. Ok (o, tt))) (λ vs. Ok (t, vs)))) (λ vs. Ok (u, vs)))) (λ vs. Ok (v, vs)))) (λ (v : A × (B × (C × (D × Unit {0})))). Ok (made v.0 v.1.0 v.1.1.0 v.1.1.1.0))

pub any_parts : {A B : Type 0} (made : List A → B) (x : Answer (List A)) (ps : List A) (b : B) → x ≡ Ok ps → made ps ≡ b → bind x (λ vs. Ok (made vs)) ≡ Ok b
any_parts {B = B} made x ps b e f = (λ i. bind (e i) (λ vs. Ok (made vs))) ∙ ap (λ (z : B). Ok z) f

pub many_parts : {A B : Type 0} (made : List A → B) (x : Answer (List A)) (n m : ℕ) (fault : Answer B) (ps : List A) (b : B) → n ≡ m → nat_le 2 m ≡ true → x ≡ Ok ps → made ps ≡ b → (if nat_le 2 n then bind x (λ vs. Ok (made vs)) else fault) ≡ Ok b
many_parts {B = B} made x n m fault ps b c h e f =
    (λ i. if (ap (nat_le 2) c ∙ h) i then bind (e i) (λ vs. Ok (made vs)) else fault) ∙ ap (λ (z : B). Ok z) f

pub next_part : {A : Type 0} (x : Answer A) (y : Answer (List A)) (p : A) (ps : List A) → x ≡ Ok p → y ≡ Ok ps → bind x (λ v. bind y (λ vs. Ok (v ∷ vs))) ≡ Ok (p ∷ ps)
next_part x y p ps e f = λ i. bind (e i) (λ v. bind (f i) (λ vs. Ok (v ∷ vs)))

-- ---- words

-- the words of a setting are those that are written
pub record Agree (g : Setting) (w : Words) : Type 0 where
  pub variables : (at : Sexp) (x : Var) → is_meant g x ≡ true → means g a_term (placed at (variable_form w x x.kind)) ≡ Ok (variable x)
  pub ranges : (at : Sexp) (x : Var) → is_meant g x ≡ true → means g a_range (placed at (variable_form w x x.kind)) ≡ Ok (range x)
  pub functions : (f : ℕ) → is_function g f ≡ true → look_up (w.functions f) g.functions ≡ Some f

-- ---- terms

pub others_count : (at : Sexps) (fs : List Form) → count (all_placed at (forms_of fs)) ≡ length fs
others_count at [] = refl
others_count at (f ∷ fs) = ap (λ (n : ℕ). n + 1) (others_count (others_in at) fs) ∙ omega arith

terms_count : (w : Words) (ts : TermTrees) → length (term_forms w ts) ≡ length (term_list ts)
terms_count w no_terms = refl
terms_count w (term_and t ts) = ap suc (terms_count w ts)

mutual
  pub term_back : (g : Setting) (w : Words) → Agree g w → (at : Sexp) (t : TermTree) → term_stands g t ≡ true → means g a_term (placed at (term_form w t)) ≡ Ok t
  term_back g w a at (number n) h = refl
  term_back g w a at (variable x) h = a.variables at x h
  term_back g w a at (add ts) h =
      many_parts (λ us. add (terms_of us)) _ _ (length (term_list ts)) _ (term_list ts) (add ts) (others_count _ (term_forms w ts) ∙ terms_count w ts) (first_so _ _ h) (terms_back g w a _ ts (second_so _ _ h)) (ap add (terms_of-list ts))
  term_back g w a at (sub t u) h =
      two_parts sub _ _ t u (term_back g w a _ t (first_so _ _ h)) (term_back g w a _ u (second_so _ _ h))
  term_back g w a at (mul ts) h =
      many_parts (λ us. mul (terms_of us)) _ _ (length (term_list ts)) _ (term_list ts) (mul ts) (others_count _ (term_forms w ts) ∙ terms_count w ts) (first_so _ _ h) (terms_back g w a _ ts (second_so _ _ h)) (ap mul (terms_of-list ts))
  term_back g w a at (div t zero) h = absurd (grind (arith, h))
  term_back g w a at (div t (suc k)) h =
      two_parts div _ (Ok (suc k)) t (suc k) (term_back g w a _ t (second_so _ _ h)) refl
  term_back g w a at (wrapu t) h = one_part wrapu _ t (term_back g w a _ t h)
  term_back g w a at (wraps t) h = one_part wraps _ t (term_back g w a _ t h)
  term_back g w a at (bits t) h = one_part bits _ t (term_back g w a _ t h)

  pub terms_back : (g : Setting) (w : Words) → Agree g w → (at : Sexps) (ts : TermTrees) → terms_stand g ts ≡ true → all_mean g a_term (all_placed at (forms_of (term_forms w ts))) ≡ Ok (term_list ts)
  terms_back g w a at no_terms h = refl
  terms_back g w a at (term_and t ts) h =
      next_part _ _ t (term_list ts) (term_back g w a _ t (first_so _ _ h)) (terms_back g w a _ ts (second_so _ _ h))

-- ---- conditions

conds_count : (w : Words) (cs : CondTrees) → length (condition_forms w cs) ≡ length (cond_list cs)
conds_count w no_conds = refl
conds_count w (cond_and c cs) = ap suc (conds_count w cs)

mutual
  pub condition_back : (g : Setting) (w : Words) → Agree g w → (at : Sexp) (c : CondTree) → condition_stands g c ≡ true → means g a_condition (placed at (condition_form w c)) ≡ Ok c
  condition_back g w a at (le t u) h =
      two_parts le _ _ t u (term_back g w a _ t (first_so _ _ h)) (term_back g w a _ u (second_so _ _ h))
  condition_back g w a at (lt t u) h =
      two_parts lt _ _ t u (term_back g w a _ t (first_so _ _ h)) (term_back g w a _ u (second_so _ _ h))
  condition_back g w a at (eq t u) h =
      two_parts eq _ _ t u (term_back g w a _ t (first_so _ _ h)) (term_back g w a _ u (second_so _ _ h))
  condition_back g w a at (ne t u) h =
      two_parts ne _ _ t u (term_back g w a _ t (first_so _ _ h)) (term_back g w a _ u (second_so _ _ h))
  condition_back g w a at (not c) h = one_part not _ c (condition_back g w a _ c h)
  condition_back g w a at (and cs) h =
      many_parts (λ us. and (conds_of us)) _ _ (length (cond_list cs)) _ (cond_list cs) (and cs) (others_count _ (condition_forms w cs) ∙ conds_count w cs) (first_so _ _ h) (conditions_back g w a _ cs (second_so _ _ h)) (ap and (conds_of-list cs))
  condition_back g w a at (or cs) h =
      many_parts (λ us. or (conds_of us)) _ _ (length (cond_list cs)) _ (cond_list cs) (or cs) (others_count _ (condition_forms w cs) ∙ conds_count w cs) (first_so _ _ h) (conditions_back g w a _ cs (second_so _ _ h)) (ap or (conds_of-list cs))

  pub conditions_back : (g : Setting) (w : Words) → Agree g w → (at : Sexps) (cs : CondTrees) → conditions_stand g cs ≡ true → all_mean g a_condition (all_placed at (forms_of (condition_forms w cs))) ≡ Ok (cond_list cs)
  conditions_back g w a at no_conds h = refl
  conditions_back g w a at (cond_and c cs) h =
      next_part _ _ c (cond_list cs) (condition_back g w a _ c (first_so _ _ h)) (conditions_back g w a _ cs (second_so _ _ h))

-- ---- assertions

assertions_count : (w : Words) (parts : AssertionTrees) → length (assertion_forms w parts) ≡ length (assertion_list parts)
assertions_count w no_assertions = refl
assertions_count w (assertion_and a parts) = ap suc (assertions_count w parts)

pub function_back : (g : Setting) (w : Words) → Agree g w → (at f : ℕ) → is_function g f ≡ true → or_fault (NoSuchFunction at) (look_up (w.functions f) g.functions) ≡ Ok f
function_back g w a at f h = ap (or_fault (NoSuchFunction at)) (a.functions f h)

mutual
  pub assertion_back : (g : Setting) (w : Words) → Agree g w → (at : Sexp) (b : AssertionTree) → assertion_stands g b ≡ true → means g an_assertion (placed at (assertion_form w b)) ≡ Ok b
  assertion_back g w a at (natural n) h = refl
  assertion_back g w a at infinity h = refl
  assertion_back g w a at (cost f) h = one_part cost _ f (function_back g w a (place at) f h)
  assertion_back g w a at (num t) h = one_part num _ t (term_back g w a _ t h)
  assertion_back g w a at (total parts) h =
      many_parts (λ us. total (assertions_of us)) _ _ (length (assertion_list parts)) _ (assertion_list parts) (total parts) (others_count _ (assertion_forms w parts) ∙ assertions_count w parts) (first_so _ _ h) (assertions_back g w a _ parts (second_so _ _ h)) (ap total (assertions_of-list parts))
  assertion_back g w a at (greatest parts) h =
      many_parts (λ us. greatest (assertions_of us)) _ _ (length (assertion_list parts)) _ (assertion_list parts) (greatest parts) (others_count _ (assertion_forms w parts) ∙ assertions_count w parts) (first_so _ _ h) (assertions_back g w a _ parts (second_so _ _ h)) (ap greatest (assertions_of-list parts))
  assertion_back g w a at (product parts) h =
      many_parts (λ us. product (assertions_of us)) _ _ (length (assertion_list parts)) _ (assertion_list parts) (product parts) (others_count _ (assertion_forms w parts) ∙ assertions_count w parts) (first_so _ _ h) (assertions_back g w a _ parts (second_so _ _ h)) (ap product (assertions_of-list parts))
  assertion_back g w a at (guard c b) h =
      two_parts guard _ _ c b (condition_back g w a _ c (first_so _ _ h)) (assertion_back g w a _ b (second_so _ _ h))
  assertion_back g w a at (choose c b d) h =
      three_parts choose _ _ _ c b d (condition_back g w a _ c (first_so _ _ (first_so _ _ h))) (assertion_back g w a _ b (second_so _ _ (first_so _ _ h))) (assertion_back g w a _ d (second_so _ _ h))
  assertion_back g w a at (named name) h =
      one_part named _ name (λ i. if h i then Ok name else Err (UnknownForm (place at)))

  pub assertions_back : (g : Setting) (w : Words) → Agree g w → (at : Sexps) (parts : AssertionTrees) → assertions_stand g parts ≡ true → all_mean g an_assertion (all_placed at (forms_of (assertion_forms w parts))) ≡ Ok (assertion_list parts)
  assertions_back g w a at no_assertions h = refl
  assertions_back g w a at (assertion_and b parts) h =
      next_part _ _ b (assertion_list parts) (assertion_back g w a _ b (first_so _ _ h)) (assertions_back g w a _ parts (second_so _ _ h))

-- ---- definitions

never : {A : Type 0} → false ≡ true → A
never h = absurd (grind (arith, h))

mutual
  pub definition_back : (g : Setting) (w : Words) → Agree g w → (at : Sexp) (b : AssertionTree) → definition_stands g b ≡ true → means g a_definition_body (placed at (assertion_form w b)) ≡ Ok b
  definition_back g w a at (natural n) h = refl
  definition_back g w a at infinity h = never h
  definition_back g w a at (cost f) h = one_part cost _ f (function_back g w a (place at) f h)
  definition_back g w a at (num t) h = never h
  definition_back g w a at (total parts) h =
      many_parts (λ us. total (assertions_of us)) _ _ (length (assertion_list parts)) _ (assertion_list parts) (total parts) (others_count _ (assertion_forms w parts) ∙ assertions_count w parts) (first_so _ _ h) (definitions_back g w a _ parts (second_so _ _ h)) (ap total (assertions_of-list parts))
  definition_back g w a at (greatest parts) h =
      many_parts (λ us. greatest (assertions_of us)) _ _ (length (assertion_list parts)) _ (assertion_list parts) (greatest parts) (others_count _ (assertion_forms w parts) ∙ assertions_count w parts) (first_so _ _ h) (definitions_back g w a _ parts (second_so _ _ h)) (ap greatest (assertions_of-list parts))
  definition_back g w a at (product parts) h =
      many_parts (λ us. product (assertions_of us)) _ _ (length (assertion_list parts)) _ (assertion_list parts) (product parts) (others_count _ (assertion_forms w parts) ∙ assertions_count w parts) (first_so _ _ h) (definitions_back g w a _ parts (second_so _ _ h)) (ap product (assertions_of-list parts))
  definition_back g w a at (guard c b) h = never h
  definition_back g w a at (choose c b d) h = never h
  definition_back g w a at (named name) h = refl

  pub definitions_back : (g : Setting) (w : Words) → Agree g w → (at : Sexps) (parts : AssertionTrees) → definitions_stand g parts ≡ true → all_mean g a_definition_body (all_placed at (forms_of (assertion_forms w parts))) ≡ Ok (assertion_list parts)
  definitions_back g w a at no_assertions h = refl
  definitions_back g w a at (assertion_and b parts) h =
      next_part _ _ b (assertion_list parts) (definition_back g w a _ b (first_so _ _ h)) (definitions_back g w a _ parts (second_so _ _ h))
