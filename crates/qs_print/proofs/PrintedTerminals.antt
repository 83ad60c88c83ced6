-- Expressions that are read from terminals are printed as terminals.
use Rattle.std.proofs.Common.{◌≡◌, ℕ, zero, suc, Bool, true, false, ◌&&◌, List, [], ◌∷◌, ◌++◌, nat_le, refl, sym, ◌∙◌}
use Rattle.std.specs.List.{list_all}
use Rattle.std.proofs.lemmas.List.Folds.{list_all-append}
use Rattle.std.specs.Cmp.{first_so, second_so}
use Rattle.qs_base.specs.Names.{is_name}
use Rattle.qs_syntax_vocabulary.specs.WellFormed.{is_byte, is_well_formed}
use Rattle.qs_syntax_vocabulary.specs.declared.terminal.Terminal.{Terminal}
use Rattle.qs_syntax_vocabulary.specs.declared.terminal.Terminal.TheVariants.{Name}
use Rattle.qs_syntax.specs.declared.types.Base.{Base}
use Rattle.qs_syntax_vocabulary.specs.declared.operators.StepOperator.{StepOperator}
use Rattle.qs_syntax_vocabulary.specs.declared.operators.StepOperator.TheVariants as steps
use Rattle.qs_syntax.specs.declared.types.TypeName.{TypeName}
use Rattle.qs_syntax.specs.Trees.{ExprTree, Exprs}
use Rattle.qs_syntax.specs.Reads.{ReadsTexts, no_text, a_further_text, Reads, Form, a_name, an_empty_call, a_call, a_constant, a_text, in_parentheses, an_index, a_member, an_increment_after, a_decrement_after, a_postfix, an_increment, a_decrement, an_operator, a_size_of_type, a_size_of_value, a_cast, an_operand, stronger, an_operation, a_plain_level, a_choice, a_plain_conditional, an_assignment, a_plain_assignment, a_comma, ReadsArguments, a_last_argument, an_argument}
use Rattle.qs_syntax.specs.ReadsTypes.{ReadsBase, a_void, an_int, a_char, an_unsigned, an_unsigned_int, an_unsigned_char, a_signed, a_signed_int, a_struct, a_named_type, Names, ReadsName, a_plain_name, a_name_of_a_type, ReadsType, a_type, ReadsOuterType, an_outer_type, ReadsTypeName, a_type_name}
use Rattle.qs_print.specs.Printed as printed
use Rattle.qs_print.specs.Levels.{level}
use Rattle.qs_print.specs.Printed.{printed_expr, printed_arguments, further_arguments, printed_base, printed_stars, printed_type_name, within, with_step, parentheses_unless}

abbrev pub Are : List Terminal → Type 0
Are ts = list_all is_well_formed ts ≡ true

-- the first stays, and what follows is replaced
pub keep : (b c d : Bool) → (b && c) ≡ true → (c ≡ true → d ≡ true) → (b && d) ≡ true
keep true c d h f = f h
keep false c d h f = cc

pub left : {A : Type 0} (p : A → Bool) (xs ys : List A) → list_all p (xs ++ ys) ≡ true → list_all p xs ≡ true
left p xs ys h = first_so (list_all p xs) (list_all p ys) (sym (list_all-append p xs ys) ∙ h)

pub right : {A : Type 0} (p : A → Bool) (xs ys : List A) → list_all p (xs ++ ys) ≡ true → list_all p ys ≡ true
right p xs ys h = second_so (list_all p xs) (list_all p ys) (sym (list_all-append p xs ys) ∙ h)

pub join : {A : Type 0} (p : A → Bool) (xs ys : List A) → list_all p xs ≡ true → list_all p ys ≡ true → list_all p (xs ++ ys) ≡ true
join p xs ys h k = list_all-append p xs ys ∙ rw (h, k) refl

-- ---- names

-- a name of any kind is printed as a name
pub name_are : {names : Names} {t : Terminal} {at : ℕ} {x : List ℕ} → ReadsName names t at x → (ts : List Terminal) → Are (t ∷ ts) → Are (Name 0 x ∷ ts)
name_are (a_plain_name at x) ts h = h
name_are (a_name_of_a_type at x) ts h = h

-- ---- types

pub stars_are : (n : ℕ) → Are (printed_stars n)
stars_are zero = refl
stars_are (suc n) = stars_are n

base_are : {ts : List Terminal} {base : Base} → ReadsBase ts base → Are ts → Are (printed_base base)
base_are (a_void at) h = refl
base_are (an_int at) h = refl
base_are (a_char at) h = refl
base_are (an_unsigned at) h = refl
base_are (an_unsigned_int at bt) h = refl
base_are (an_unsigned_char at bt) h = refl
base_are (a_signed at) h = refl
base_are (a_signed_int at bt) h = refl
base_are (a_struct {x = x} at r) h = name_are r [] h
base_are (a_named_type at x) h = h

pub type_are : {ts : List Terminal} {base : Base} → ReadsType ts base → Are ts → Are (printed_base base)
type_are (a_type {xs = xs} {ys = ys} {zs = zs} p b q) h = base_are b (left is_well_formed ys zs (right is_well_formed xs (ys ++ zs) h))

pub outer_type_are : {ts : List Terminal} {base : Base} → ReadsOuterType ts base → Are ts → Are (printed_base base)
outer_type_are (an_outer_type {xs = xs} {ys = ys} {zs = zs} p b q) h = base_are b (left is_well_formed ys zs (right is_well_formed xs (ys ++ zs) h))

type_name_are : {ts : List Terminal} {type : TypeName} → ReadsTypeName ts type → Are ts → Are (printed_type_name type)
type_name_are (a_type_name {xs = xs} {ys = ys} {base = base} {n = n} t s) h = join is_well_formed (printed_base base) (printed_stars n) (type_are t (left is_well_formed xs ys h)) (stars_are n)

-- ---- expressions

texts_are : {ts : List Terminal} {bytes : List ℕ} → ReadsTexts ts bytes → Are ts → list_all is_byte bytes ≡ true
texts_are no_text h = refl
texts_are (a_further_text {ts = ts} {bytes = bytes} at one r) h =
    join is_byte one bytes (first_so (list_all is_byte one) (list_all is_well_formed ts) h) (texts_are r (second_so (list_all is_byte one) (list_all is_well_formed ts) h))

unless_are : (b : Bool) (ls : List Terminal) → Are ls → Are (parentheses_unless b ls)
unless_are true ls h = h
unless_are false ls h = join is_well_formed ls _ h refl

pub within_are : (most : ℕ) (e : ExprTree) → Are (printed_expr e) → Are (within most e (printed_expr e))
within_are most e h = unless_are (nat_le (level e) most) (printed_expr e) h

step_are : (operator : StepOperator) (ls : List Terminal) → Are ls → Are (with_step operator ls)
step_are steps.IncrementBefore ls h = h
step_are steps.DecrementBefore ls h = h
step_are steps.IncrementAfter ls h = join is_well_formed ls _ h refl
step_are steps.DecrementAfter ls h = join is_well_formed ls _ h refl

mutual
  pub expr_are : {f : Form} {n : ℕ} {ts : List Terminal} {e : ExprTree} → Reads f n ts e → Are ts → Are (printed_expr e)
  expr_are (a_name at x) h = h
  expr_are (an_empty_call at o c f) h = h
  expr_are (a_call {ts = ts} {es = es} at o c f r) h = keep (is_name f) _ _ h (λ k. join is_well_formed (printed_arguments es) _ (arguments_are r (left is_well_formed ts _ k)) refl)
  expr_are (a_constant at n unsigned) h = h
  expr_are (a_text {ts = ts} {bytes = bytes} at one r) h =
      rw (join is_byte one bytes (first_so (list_all is_byte one) (list_all is_well_formed ts) h) (texts_are r (second_so (list_all is_byte one) (list_all is_well_formed ts) h))) refl
  expr_are (in_parentheses {ts = ts} o c r) h = expr_are r (left is_well_formed ts _ h)
  expr_are (an_index {xs = xs} {ys = ys} {a = a} {b = b} o c r s) h =
      join is_well_formed (within 0 a (printed_expr a)) _ (within_are 0 a (expr_are r (left is_well_formed xs _ h))) (join is_well_formed (printed_expr b) _ (expr_are s (left is_well_formed ys _ (right is_well_formed xs _ h))) refl)
  expr_are (a_member {xs = xs} {a = a} access d r n) h = join is_well_formed (within 0 a (printed_expr a)) _ (within_are 0 a (expr_are r (left is_well_formed xs _ h))) (name_are n [] (right is_well_formed xs _ h))
  expr_are (an_increment_after {xs = xs} {a = a} s r) h = step_are steps.IncrementAfter (within 0 a (printed_expr a)) (within_are 0 a (expr_are r (left is_well_formed xs _ h)))
  expr_are (a_decrement_after {xs = xs} {a = a} s r) h = step_are steps.DecrementAfter (within 0 a (printed_expr a)) (within_are 0 a (expr_are r (left is_well_formed xs _ h)))
  expr_are (a_postfix r) h = expr_are r h
  expr_are (an_increment {e = e} at r) h = within_are 1 e (expr_are r h)
  expr_are (a_decrement {e = e} at r) h = within_are 1 e (expr_are r h)
  expr_are (an_operator {e = e} operator at r) h = within_are 2 e (expr_are r h)
  expr_are (a_size_of_type {ts = ts} {type = type} at o c t) h = join is_well_formed (printed_type_name type) _ (type_name_are t (left is_well_formed ts _ h)) refl
  expr_are (a_size_of_value {e = e} at r) h = within_are 1 e (expr_are r h)
  expr_are (a_cast {ts = ts} {us = us} {type = type} {e = e} at c t r) h =
      join is_well_formed (printed.in_parentheses (printed_type_name type)) _ (join is_well_formed (printed_type_name type) _ (type_name_are t (left is_well_formed ts _ h)) refl) (within_are 2 e (expr_are r (right is_well_formed ts _ h)))
  expr_are (an_operand r) h = expr_are r h
  expr_are (stronger r) h = expr_are r h
  expr_are (an_operation {xs = xs} {a = a} {b = b} operator at w r s) h = join is_well_formed (within _ a (printed_expr a)) _ (within_are _ a (expr_are r (left is_well_formed xs _ h))) (within_are _ b (expr_are s (right is_well_formed xs _ h)))
  expr_are (a_plain_level r) h = expr_are r h
  expr_are (a_choice {xs = xs} {ys = ys} {a = a} {b = b} {c = c} q s r t u) h =
      join is_well_formed (within 12 a (printed_expr a)) _ (within_are 12 a (expr_are r (left is_well_formed xs _ h)))
      (join is_well_formed (printed_expr b) _ (expr_are t (left is_well_formed ys _ (right is_well_formed xs _ h))) (within_are 13 c (expr_are u (right is_well_formed ys _ (right is_well_formed xs _ h)))))
  expr_are (a_plain_conditional r) h = expr_are r h
  expr_are (an_assignment {xs = xs} {a = a} {b = b} operator at r s) h = join is_well_formed (within 1 a (printed_expr a)) _ (within_are 1 a (expr_are r (left is_well_formed xs _ h))) (within_are 14 b (expr_are s (right is_well_formed xs _ h)))
  expr_are (a_plain_assignment r) h = expr_are r h
  expr_are (a_comma {xs = xs} {a = a} {b = b} at r s) h = join is_well_formed (printed_expr a) _ (expr_are r (left is_well_formed xs _ h)) (within_are 14 b (expr_are s (right is_well_formed xs _ h)))

  arguments_are : {n : ℕ} {ts : List Terminal} {es : Exprs} → ReadsArguments n ts es → Are ts → Are (printed_arguments es)
  arguments_are (a_last_argument {e = e} r) h = join is_well_formed (within 14 e (printed_expr e)) [] (within_are 14 e (expr_are r h)) refl
  arguments_are (an_argument {xs = xs} {e = e} {es = es} at r s) h = join is_well_formed (within 14 e (printed_expr e)) (further_arguments es) (within_are 14 e (expr_are r (left is_well_formed xs _ h))) (further_are s (right is_well_formed xs _ h))

  further_are : {n : ℕ} {ts : List Terminal} {es : Exprs} → ReadsArguments n ts es → Are ts → Are (further_arguments es)
  further_are (a_last_argument {e = e} r) h = join is_well_formed (within 14 e (printed_expr e)) [] (within_are 14 e (expr_are r h)) refl
  further_are (an_argument {xs = xs} {e = e} {es = es} at r s) h = join is_well_formed (within 14 e (printed_expr e)) (further_arguments es) (within_are 14 e (expr_are r (left is_well_formed xs _ h))) (further_are s (right is_well_formed xs _ h))
