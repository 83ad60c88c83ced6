-- What the typed tree of a form is as high as: at most 1 more than its parts.
use Rattle.std.proofs.Common.{◌≡◌, ◌≤◌, ℕ, ◌+◌, max, Bool, true, false, List, Some, subst, arith, if◌then◌else◌}
use Rattle.std.proofs.lemmas.Option.{same_Some}
use Rattle.qs_syntax_vocabulary.specs.declared.operators.UnaryOperator.{UnaryOperator}
use Rattle.qs_syntax_vocabulary.specs.declared.operators.UnaryOperator.TheVariants as unaries
use Rattle.qs_syntax_vocabulary.specs.declared.operators.StepOperator.{StepOperator}
use Rattle.qs_syntax_vocabulary.specs.declared.operators.StepOperator.TheVariants as steps
use Rattle.qs_syntax_vocabulary.specs.declared.operators.BinaryOperator.{BinaryOperator}
use Rattle.qs_syntax_vocabulary.specs.declared.operators.BinaryOperator.TheVariants as binaries
use Rattle.qs_syntax_vocabulary.specs.declared.operators.AssignmentOperator.{AssignmentOperator}
use Rattle.qs_syntax_vocabulary.specs.declared.operators.AssignmentOperator.TheVariants as assigns
use Rattle.qs_syntax_vocabulary.specs.declared.operators.Access.{Access}
use Rattle.qs_syntax_vocabulary.specs.declared.operators.Access.TheVariants as accesses
use Rattle.qs_memory.proofs.Options.{followed}
use Rattle.qs_types.specs.Types.{TypeTree, int, unsigned, char, void, pointer, array, struct, is_struct, referenced, Structs}
use Rattle.qs_types.specs.Layout.{extent_of, size_of}
use Rattle.qs_meaning.specs.Typed.{Expr, logical_and, logical_or, Lvalue, variable, object}
use Rattle.qs_meaning.specs.Forms.{Form, lvalue, result, call, assignment, step, struct_assignment, comma, TypedExpr, lvalue_of, address_in, address_of, value_in, value_of, effect_of, type_in_use, value_in_use, effect_in_use}
use Rattle.qs_meaning.specs.Operations.{operation_of}
use Rattle.qs_meaning.specs.Expressions.{operator_value, member_offset, member_form, set_form, struct_form, plain_form, compound_form, assign_form, one, step_after_form, step_form, unary_form, size_form, cast_form, operator_form, binary_form, subscript_form, conditional_form, comma_form}
use Rattle.qs_meaning.proofs.Options.{nothing}
use Rattle.qs_elaborate_limits.proofs.TypedHeights.{height, lvalue_height, arguments_height, assignment_height, effect_height}

-- however it is used
abbrev pub form_height : Form → ℕ
form_height (lvalue l) = lvalue_height l
form_height (result e) = height e
form_height (call f given) = arguments_height given
form_height (assignment a) = assignment_height a
form_height (step a before) = max (assignment_height a) (height before)
form_height (struct_assignment size alignment to from) = max (height to) (height from)
form_height (comma a t b) = max (effect_height a) (form_height b)

abbrev pub height_in_use : TypedExpr → ℕ
height_in_use a = form_height a.form

pub form_as : (n : ℕ) (f form : Form) → Some f ≡ Some form → form_height f ≤ n → form_height form ≤ n
form_as n f form e h = subst (λ z. form_height z ≤ n) (same_Some f form e) h

-- ---- the three uses

value_in_low : (t : TypeTree) (l : Lvalue) → height (value_in t l) ≤ lvalue_height l
value_in_low int l = omega arith
value_in_low unsigned l = omega arith
value_in_low char l = omega arith
value_in_low void (variable x) = omega arith
value_in_low void (object p) = omega arith
value_in_low (pointer t) l = omega arith
value_in_low (array t n) (variable x) = omega arith
value_in_low (array t n) (object p) = omega arith
value_in_low (struct k) (variable x) = omega arith
value_in_low (struct k) (object p) = omega arith

pub value_low : (t : TypeTree) (form : Form) → height (value_of t form) ≤ form_height form
value_low t (lvalue l) = value_in_low t l
value_low t (result e) = omega arith
value_low t (call f given) = omega arith
value_low t (assignment a) = omega arith
value_low t (step a before) = omega arith
value_low t (struct_assignment size alignment to from) = omega arith
value_low t (comma a u b) = let h = value_low u b in omega arith

pub effect_low : (t : TypeTree) (form : Form) → effect_height (effect_of t form) ≤ form_height form
effect_low t (lvalue l) = value_in_low t l
effect_low t (result e) = omega arith
effect_low t (call f given) = omega arith
effect_low t (assignment a) = omega arith
effect_low t (step a before) = omega arith
effect_low t (struct_assignment size alignment to from) = omega arith
effect_low t (comma a u b) = let h = effect_low u b in omega arith

pub value_in_use_low : (a : TypedExpr) → height (value_in_use a) ≤ height_in_use a
value_in_use_low a = value_low a.type a.form

pub effect_in_use_low : (a : TypedExpr) → effect_height (effect_in_use a) ≤ height_in_use a
effect_in_use_low a = effect_low a.type a.form

pub place_low : (form : Form) (l : Lvalue) → lvalue_of form ≡ Some l → lvalue_height l ≤ form_height form
place_low (lvalue m) l e = subst (λ z. lvalue_height z ≤ lvalue_height m) (same_Some m l e) (omega arith)
place_low (result a) l e = nothing l e
place_low (call f given) l e = nothing l e
place_low (assignment a) l e = nothing l e
place_low (step a before) l e = nothing l e
place_low (struct_assignment size alignment to from) l e = nothing l e
place_low (comma a t b) l e = nothing l e

pub address_low : (form : Form) (p : Expr) → address_of form ≡ Some p → height p ≤ form_height form
address_low form p e =
    let l = followed (lvalue_of form) address_in p e in
    let h = place_low form l.value l.first in
    let i = go l.value l.then in
    omega arith
  where
    go : (l : Lvalue) → address_in l ≡ Some p → height p ≤ lvalue_height l
    go (variable x) e = nothing p e
    go (object q) e = subst (λ z. height z ≤ height q) (same_Some q p e) (omega arith)

-- ---- operators between two operands

operator_value_low :
    (structs : Structs) (operator : BinaryOperator) (a b : TypedExpr) (e : Expr) → operator_value structs operator a b ≡ Some e
    → height e ≤ 1 + max (height_in_use a) (height_in_use b)
operator_value_low structs operator a b e q =
    let o = followed (operation_of structs operator (type_in_use a) (type_in_use b)) _ e q in
    let x = value_in_use_low a in
    let y = value_in_use_low b in
    subst (λ z. height z ≤ 1 + max (height_in_use a) (height_in_use b)) (same_Some _ e o.then) (omega arith)

pub subscript_low :
    (structs : Structs) (a b : TypedExpr) (form : Form) → subscript_form structs a b ≡ Some form
    → form_height form ≤ 1 + max (height_in_use a) (height_in_use b)
subscript_low structs a b form e =
    let w = followed (operator_value structs binaries.Add a b) _ form e in
    form_as _ _ form w.then (operator_value_low structs binaries.Add a b w.value w.first)

operator_low :
    (structs : Structs) (operator : BinaryOperator) (a b : TypedExpr) (form : Form) → operator_form structs operator a b ≡ Some form
    → form_height form ≤ 1 + max (height_in_use a) (height_in_use b)
operator_low structs operator a b form e =
    let w = followed (operator_value structs operator a b) _ form e in
    form_as _ _ form w.then (operator_value_low structs operator a b w.value w.first)

pub binary_low :
    (structs : Structs) (operator : BinaryOperator) (a b : TypedExpr) (form : Form) → binary_form structs operator a b ≡ Some form
    → form_height form ≤ 1 + max (height_in_use a) (height_in_use b)
binary_low structs binaries.And a b form e =
    let x = value_in_use_low a in let y = value_in_use_low b in form_as _ (result (logical_and (value_in_use a) (value_in_use b))) form e (omega arith)
binary_low structs binaries.Or a b form e =
    let x = value_in_use_low a in let y = value_in_use_low b in form_as _ (result (logical_or (value_in_use a) (value_in_use b))) form e (omega arith)
binary_low structs binaries.Multiply a b form e = operator_low structs binaries.Multiply a b form e
binary_low structs binaries.Divide a b form e = operator_low structs binaries.Divide a b form e
binary_low structs binaries.Remainder a b form e = operator_low structs binaries.Remainder a b form e
binary_low structs binaries.Add a b form e = operator_low structs binaries.Add a b form e
binary_low structs binaries.Subtract a b form e = operator_low structs binaries.Subtract a b form e
binary_low structs binaries.ShiftLeft a b form e = operator_low structs binaries.ShiftLeft a b form e
binary_low structs binaries.ShiftRight a b form e = operator_low structs binaries.ShiftRight a b form e
binary_low structs binaries.Less a b form e = operator_low structs binaries.Less a b form e
binary_low structs binaries.Greater a b form e = operator_low structs binaries.Greater a b form e
binary_low structs binaries.LessEqual a b form e = operator_low structs binaries.LessEqual a b form e
binary_low structs binaries.GreaterEqual a b form e = operator_low structs binaries.GreaterEqual a b form e
binary_low structs binaries.Equal a b form e = operator_low structs binaries.Equal a b form e
binary_low structs binaries.NotEqual a b form e = operator_low structs binaries.NotEqual a b form e
binary_low structs binaries.BitAnd a b form e = operator_low structs binaries.BitAnd a b form e
binary_low structs binaries.BitXor a b form e = operator_low structs binaries.BitXor a b form e
binary_low structs binaries.BitOr a b form e = operator_low structs binaries.BitOr a b form e

-- ---- unary operators, members, sizes, casts, choices

pub unary_low : (operator : UnaryOperator) (a : TypedExpr) (form : Form) → unary_form operator a ≡ Some form → form_height form ≤ 1 + height_in_use a
unary_low unaries.Address a form e =
    let p = followed (address_of a.form) _ form e in
    let h = address_low a.form p.value p.first in
    form_as _ _ form p.then (omega arith)
unary_low unaries.Indirect a form e = let x = value_in_use_low a in form_as _ _ form e (omega arith)
unary_low unaries.Plus a form e = let x = value_in_use_low a in form_as _ _ form e (omega arith)
unary_low unaries.Minus a form e = let x = value_in_use_low a in form_as _ _ form e (omega arith)
unary_low unaries.Complement a form e = let x = value_in_use_low a in form_as _ _ form e (omega arith)
unary_low unaries.Not a form e = let x = value_in_use_low a in form_as _ _ form e (omega arith)

pub member_low :
    (structs : Structs) (access : Access) (a : TypedExpr) (x : List ℕ) (form : Form) → member_form structs access a x ≡ Some form
    → form_height form ≤ 1 + height_in_use a
member_low structs accesses.Dot a x form e =
    let p = followed (address_of a.form) _ form e in
    let o = followed (member_offset structs a.type x) _ form p.then in
    let h = address_low a.form p.value p.first in
    form_as _ _ form o.then (omega arith)
member_low structs accesses.Arrow a x form e =
    let o = followed (member_offset structs (referenced (type_in_use a)) x) _ form e in
    let h = value_in_use_low a in
    form_as _ _ form o.then (omega arith)

pub size_low : (structs : Structs) (t : TypeTree) (form : Form) → size_form structs t ≡ Some form → form_height form ≤ 0
size_low structs t form e = let k = followed (size_of structs t) _ form e in form_as _ _ form k.then (omega arith)

pub cast_low : (t : TypeTree) (a : TypedExpr) → form_height (cast_form t a) ≤ 1 + height_in_use a
cast_low t a = let x = value_in_use_low a in omega arith

pub conditional_low :
    (c a b : TypedExpr) → form_height (conditional_form c a b) ≤ 1 + max (height_in_use c) (max (height_in_use a) (height_in_use b))
conditional_low c a b =
    let x = value_in_use_low c in let y = value_in_use_low a in let z = value_in_use_low b in omega arith

pub comma_low : (a b : TypedExpr) → form_height (comma_form a b) ≤ 1 + max (height_in_use a) (height_in_use b)
comma_low a b = let x = effect_in_use_low a in omega arith

-- ---- assignments and steps

set_low : (a b : TypedExpr) (form : Form) → set_form a b ≡ Some form → form_height form ≤ max (height_in_use a) (height_in_use b)
set_low a b form e =
    let l = followed (lvalue_of a.form) _ form e in
    let h = place_low a.form l.value l.first in
    let x = value_in_use_low b in
    form_as _ _ form l.then (omega arith)

struct_low :
    (structs : Structs) (a b : TypedExpr) (form : Form) → struct_form structs a b ≡ Some form → form_height form ≤ max (height_in_use a) (height_in_use b)
struct_low structs a b form e =
    let x = followed (extent_of structs a.type) _ form e in
    let to = followed (address_of a.form) _ form x.then in
    let from = followed (address_of b.form) _ form to.then in
    let h = address_low a.form to.value to.first in
    let i = address_low b.form from.value from.first in
    form_as _ _ form from.then (omega arith)

pub plain_low :
    (structs : Structs) (a b : TypedExpr) (form : Form) → plain_form structs a b ≡ Some form → form_height form ≤ max (height_in_use a) (height_in_use b)
plain_low structs a b form e = go (is_struct a.type) e
  where
    go : (s : Bool) → (if s then struct_form structs a b else set_form a b) ≡ Some form → form_height form ≤ max (height_in_use a) (height_in_use b)
    go true e = struct_low structs a b form e
    go false e = set_low a b form e

compound_low :
    (structs : Structs) (operator : BinaryOperator) (a b : TypedExpr) (form : Form) → compound_form structs operator a b ≡ Some form
    → form_height form ≤ 1 + max (height_in_use a) (height_in_use b)
compound_low structs operator a b form e =
    let l = followed (lvalue_of a.form) _ form e in
    let o = followed (operation_of structs operator a.type (type_in_use b)) _ form l.then in
    let h = place_low a.form l.value l.first in
    let x = value_in_use_low b in
    form_as _ _ form o.then (omega arith)

before_low :
    (structs : Structs) (operator : BinaryOperator) (a : TypedExpr) (form : Form) → compound_form structs operator a one ≡ Some form
    → form_height form ≤ 1 + height_in_use a
before_low structs operator a form e = let h = compound_low structs operator a one form e in omega arith

after_low :
    (structs : Structs) (operator : BinaryOperator) (a : TypedExpr) (form : Form) → step_after_form structs operator a ≡ Some form
    → form_height form ≤ 1 + height_in_use a
after_low structs operator a form e =
    let l = followed (lvalue_of a.form) _ form e in
    let o = followed (operation_of structs operator a.type int) _ form l.then in
    let h = place_low a.form l.value l.first in
    form_as _ _ form o.then (omega arith)

pub step_low :
    (structs : Structs) (operator : StepOperator) (a : TypedExpr) (form : Form) → step_form structs operator a ≡ Some form
    → form_height form ≤ 1 + height_in_use a
step_low structs steps.IncrementBefore a form e = before_low structs binaries.Add a form e
step_low structs steps.DecrementBefore a form e = before_low structs binaries.Subtract a form e
step_low structs steps.IncrementAfter a form e = after_low structs binaries.Add a form e
step_low structs steps.DecrementAfter a form e = after_low structs binaries.Subtract a form e

pub assign_low :
    (structs : Structs) (operator : AssignmentOperator) (a b : TypedExpr) (form : Form) → assign_form structs operator a b ≡ Some form
    → form_height form ≤ 1 + max (height_in_use a) (height_in_use b)
assign_low structs assigns.Plain a b form e = let h = plain_low structs a b form e in omega arith
assign_low structs assigns.Multiply a b form e = compound_low structs binaries.Multiply a b form e
assign_low structs assigns.Divide a b form e = compound_low structs binaries.Divide a b form e
assign_low structs assigns.Remainder a b form e = compound_low structs binaries.Remainder a b form e
assign_low structs assigns.Add a b form e = compound_low structs binaries.Add a b form e
assign_low structs assigns.Subtract a b form e = compound_low structs binaries.Subtract a b form e
assign_low structs assigns.ShiftLeft a b form e = compound_low structs binaries.ShiftLeft a b form e
assign_low structs assigns.ShiftRight a b form e = compound_low structs binaries.ShiftRight a b form e
assign_low structs assigns.BitAnd a b form e = compound_low structs binaries.BitAnd a b form e
assign_low structs assigns.BitXor a b form e = compound_low structs binaries.BitXor a b form e
assign_low structs assigns.BitOr a b form e = compound_low structs binaries.BitOr a b form e
