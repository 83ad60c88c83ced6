-- No call in the typed tree of a form has more arguments than those in its parts, and than the call itself.
use Rattle.std.proofs.Common.{◌≡◌, ◌≤◌, ℕ, max, Bool, true, false, List, Some, subst, arith, if◌then◌else◌}
use Rattle.std.proofs.lemmas.Option.{same_Some}
use Rattle.qs_syntax_vocabulary.specs.declared.operators.UnaryOperator.{UnaryOperator}
use Rattle.qs_syntax_vocabulary.specs.declared.operators.UnaryOperator.TheVariants as unaries
use Rattle.qs_syntax_vocabulary.specs.declared.operators.StepOperator.{StepOperator}
use Rattle.qs_syntax_vocabulary.specs.declared.operators.StepOperator.TheVariants as steps
use Rattle.qs_syntax_vocabulary.specs.declared.operators.BinaryOperator.{BinaryOperator}
use Rattle.qs_syntax_vocabulary.specs.declared.operators.BinaryOperator.TheVariants as binaries
use Rattle.qs_syntax_vocabulary.specs.declared.operators.AssignmentOperator.{AssignmentOperator}
use Rattle.qs_syntax_vocabulary.specs.declared.operators.AssignmentOperator.TheVariants as assigns
use Rattle.qs_syntax_vocabulary.specs.declared.operators.Access.{Access}
use Rattle.qs_syntax_vocabulary.specs.declared.operators.Access.TheVariants as accesses
use Rattle.qs_memory.proofs.Options.{followed}
use Rattle.qs_types.specs.Types.{TypeTree, int, unsigned, char, void, pointer, array, struct, is_struct, referenced, Structs}
use Rattle.qs_types.specs.Layout.{extent_of, size_of}
use Rattle.qs_meaning.specs.Typed.{Expr, logical_and, logical_or, Lvalue, variable, object}
use Rattle.qs_meaning.specs.Forms.{Form, lvalue, result, call, assignment, step, struct_assignment, comma, TypedExpr, lvalue_of, address_in, address_of, value_in, value_of, effect_of, type_in_use, value_in_use, effect_in_use}
use Rattle.qs_meaning.specs.Operations.{operation_of}
use Rattle.qs_meaning.specs.Expressions.{operator_value, member_offset, member_form, set_form, struct_form, plain_form, compound_form, assign_form, one, step_after_form, step_form, unary_form, size_form, cast_form, operator_form, binary_form, subscript_form, conditional_form, comma_form}
use Rattle.qs_meaning.proofs.Options.{nothing}
use Rattle.qs_elaborate_limits.proofs.TypedArguments.{argument_number, expression_arguments, lvalue_arguments, within_arguments, assignment_arguments, effect_arguments}

-- however it is used
abbrev pub form_arguments : Form → ℕ
form_arguments (lvalue l) = lvalue_arguments l
form_arguments (result e) = expression_arguments e
form_arguments (call f given) = max (argument_number given) (within_arguments given)
form_arguments (assignment a) = assignment_arguments a
form_arguments (step a before) = max (assignment_arguments a) (expression_arguments before)
form_arguments (struct_assignment size alignment to from) = max (expression_arguments to) (expression_arguments from)
form_arguments (comma a t b) = max (effect_arguments a) (form_arguments b)

abbrev pub arguments_in_use : TypedExpr → ℕ
arguments_in_use a = form_arguments a.form

pub form_as : (n : ℕ) (f form : Form) → Some f ≡ Some form → form_arguments f ≤ n → form_arguments form ≤ n
form_as n f form e h = subst (λ z. form_arguments z ≤ n) (same_Some f form e) h

-- ---- the three uses

value_in_few : (t : TypeTree) (l : Lvalue) → expression_arguments (value_in t l) ≤ lvalue_arguments l
value_in_few int l = omega arith
value_in_few unsigned l = omega arith
value_in_few char l = omega arith
value_in_few void (variable x) = omega arith
value_in_few void (object p) = omega arith
value_in_few (pointer t) l = omega arith
value_in_few (array t n) (variable x) = omega arith
value_in_few (array t n) (object p) = omega arith
value_in_few (struct k) (variable x) = omega arith
value_in_few (struct k) (object p) = omega arith

pub value_few : (t : TypeTree) (form : Form) → expression_arguments (value_of t form) ≤ form_arguments form
value_few t (lvalue l) = value_in_few t l
value_few t (result e) = omega arith
value_few t (call f given) = omega arith
value_few t (assignment a) = omega arith
value_few t (step a before) = omega arith
value_few t (struct_assignment size alignment to from) = omega arith
value_few t (comma a u b) = let h = value_few u b in omega arith

pub effect_few : (t : TypeTree) (form : Form) → effect_arguments (effect_of t form) ≤ form_arguments form
effect_few t (lvalue l) = value_in_few t l
effect_few t (result e) = omega arith
effect_few t (call f given) = omega arith
effect_few t (assignment a) = omega arith
effect_few t (step a before) = omega arith
effect_few t (struct_assignment size alignment to from) = omega arith
effect_few t (comma a u b) = let h = effect_few u b in omega arith

pub value_in_use_few : (a : TypedExpr) → expression_arguments (value_in_use a) ≤ arguments_in_use a
value_in_use_few a = value_few a.type a.form

pub effect_in_use_few : (a : TypedExpr) → effect_arguments (effect_in_use a) ≤ arguments_in_use a
effect_in_use_few a = effect_few a.type a.form

pub place_few : (form : Form) (l : Lvalue) → lvalue_of form ≡ Some l → lvalue_arguments l ≤ form_arguments form
place_few (lvalue m) l e = subst (λ z. lvalue_arguments z ≤ lvalue_arguments m) (same_Some m l e) (omega arith)
place_few (result a) l e = nothing l e
place_few (call f given) l e = nothing l e
place_few (assignment a) l e = nothing l e
place_few (step a before) l e = nothing l e
place_few (struct_assignment size alignment to from) l e = nothing l e
place_few (comma a t b) l e = nothing l e

pub address_few : (form : Form) (p : Expr) → address_of form ≡ Some p → expression_arguments p ≤ form_arguments form
address_few form p e =
    let l = followed (lvalue_of form) address_in p e in
    let h = place_few form l.value l.first in
    let i = go l.value l.then in
    omega arith
  where
    go : (l : Lvalue) → address_in l ≡ Some p → expression_arguments p ≤ lvalue_arguments l
    go (variable x) e = nothing p e
    go (object q) e = subst (λ z. expression_arguments z ≤ expression_arguments q) (same_Some q p e) (omega arith)

-- ---- operators between two operands

operator_value_few :
    (structs : Structs) (operator : BinaryOperator) (a b : TypedExpr) (e : Expr) → operator_value structs operator a b ≡ Some e
    → expression_arguments e ≤ max (arguments_in_use a) (arguments_in_use b)
operator_value_few structs operator a b e q =
    let o = followed (operation_of structs operator (type_in_use a) (type_in_use b)) _ e q in
    let x = value_in_use_few a in
    let y = value_in_use_few b in
    subst (λ z. expression_arguments z ≤ max (arguments_in_use a) (arguments_in_use b)) (same_Some _ e o.then) (omega arith)

pub subscript_few :
    (structs : Structs) (a b : TypedExpr) (form : Form) → subscript_form structs a b ≡ Some form
    → form_arguments form ≤ max (arguments_in_use a) (arguments_in_use b)
subscript_few structs a b form e =
    let w = followed (operator_value structs binaries.Add a b) _ form e in
    form_as _ _ form w.then (operator_value_few structs binaries.Add a b w.value w.first)

operator_few :
    (structs : Structs) (operator : BinaryOperator) (a b : TypedExpr) (form : Form) → operator_form structs operator a b ≡ Some form
    → form_arguments form ≤ max (arguments_in_use a) (arguments_in_use b)
operator_few structs operator a b form e =
    let w = followed (operator_value structs operator a b) _ form e in
    form_as _ _ form w.then (operator_value_few structs operator a b w.value w.first)

pub binary_few :
    (structs : Structs) (operator : BinaryOperator) (a b : TypedExpr) (form : Form) → binary_form structs operator a b ≡ Some form
    → form_arguments form ≤ max (arguments_in_use a) (arguments_in_use b)
binary_few structs binaries.And a b form e =
    let x = value_in_use_few a in let y = value_in_use_few b in form_as _ (result (logical_and (value_in_use a) (value_in_use b))) form e (omega arith)
binary_few structs binaries.Or a b form e =
    let x = value_in_use_few a in let y = value_in_use_few b in form_as _ (result (logical_or (value_in_use a) (value_in_use b))) form e (omega arith)
binary_few structs binaries.Multiply a b form e = operator_few structs binaries.Multiply a b form e
binary_few structs binaries.Divide a b form e = operator_few structs binaries.Divide a b form e
binary_few structs binaries.Remainder a b form e = operator_few structs binaries.Remainder a b form e
binary_few structs binaries.Add a b form e = operator_few structs binaries.Add a b form e
binary_few structs binaries.Subtract a b form e = operator_few structs binaries.Subtract a b form e
binary_few structs binaries.ShiftLeft a b form e = operator_few structs binaries.ShiftLeft a b form e
binary_few structs binaries.ShiftRight a b form e = operator_few structs binaries.ShiftRight a b form e
binary_few structs binaries.Less a b form e = operator_few structs binaries.Less a b form e
binary_few structs binaries.Greater a b form e = operator_few structs binaries.Greater a b form e
binary_few structs binaries.LessEqual a b form e = operator_few structs binaries.LessEqual a b form e
binary_few structs binaries.GreaterEqual a b form e = operator_few structs binaries.GreaterEqual a b form e
binary_few structs binaries.Equal a b form e = operator_few structs binaries.Equal a b form e
binary_few structs binaries.NotEqual a b form e = operator_few structs binaries.NotEqual a b form e
binary_few structs binaries.BitAnd a b form e = operator_few structs binaries.BitAnd a b form e
binary_few structs binaries.BitXor a b form e = operator_few structs binaries.BitXor a b form e
binary_few structs binaries.BitOr a b form e = operator_few structs binaries.BitOr a b form e

-- ---- unary operators, members, sizes, casts, choices

pub unary_few : (operator : UnaryOperator) (a : TypedExpr) (form : Form) → unary_form operator a ≡ Some form → form_arguments form ≤ arguments_in_use a
unary_few unaries.Address a form e =
    let p = followed (address_of a.form) _ form e in
    let h = address_few a.form p.value p.first in
    form_as _ _ form p.then (omega arith)
unary_few unaries.Indirect a form e = let x = value_in_use_few a in form_as _ _ form e (omega arith)
unary_few unaries.Plus a form e = let x = value_in_use_few a in form_as _ _ form e (omega arith)
unary_few unaries.Minus a form e = let x = value_in_use_few a in form_as _ _ form e (omega arith)
unary_few unaries.Complement a form e = let x = value_in_use_few a in form_as _ _ form e (omega arith)
unary_few unaries.Not a form e = let x = value_in_use_few a in form_as _ _ form e (omega arith)

pub member_few :
    (structs : Structs) (access : Access) (a : TypedExpr) (x : List ℕ) (form : Form) → member_form structs access a x ≡ Some form
    → form_arguments form ≤ arguments_in_use a
member_few structs accesses.Dot a x form e =
    let p = followed (address_of a.form) _ form e in
    let o = followed (member_offset structs a.type x) _ form p.then in
    let h = address_few a.form p.value p.first in
    form_as _ _ form o.then (omega arith)
member_few structs accesses.Arrow a x form e =
    let o = followed (member_offset structs (referenced (type_in_use a)) x) _ form e in
    let h = value_in_use_few a in
    form_as _ _ form o.then (omega arith)

pub size_few : (structs : Structs) (t : TypeTree) (form : Form) → size_form structs t ≡ Some form → form_arguments form ≤ 0
size_few structs t form e = let k = followed (size_of structs t) _ form e in form_as _ _ form k.then (omega arith)

pub cast_few : (t : TypeTree) (a : TypedExpr) → form_arguments (cast_form t a) ≤ arguments_in_use a
cast_few t a = let x = value_in_use_few a in omega arith

pub conditional_few :
    (c a b : TypedExpr) → form_arguments (conditional_form c a b) ≤ max (arguments_in_use c) (max (arguments_in_use a) (arguments_in_use b))
conditional_few c a b =
    let x = value_in_use_few c in let y = value_in_use_few a in let z = value_in_use_few b in omega arith

pub comma_few : (a b : TypedExpr) → form_arguments (comma_form a b) ≤ max (arguments_in_use a) (arguments_in_use b)
comma_few a b = let x = effect_in_use_few a in omega arith

-- ---- assignments and steps

set_few : (a b : TypedExpr) (form : Form) → set_form a b ≡ Some form → form_arguments form ≤ max (arguments_in_use a) (arguments_in_use b)
set_few a b form e =
    let l = followed (lvalue_of a.form) _ form e in
    let h = place_few a.form l.value l.first in
    let x = value_in_use_few b in
    form_as _ _ form l.then (omega arith)

struct_few :
    (structs : Structs) (a b : TypedExpr) (form : Form) → struct_form structs a b ≡ Some form → form_arguments form ≤ max (arguments_in_use a) (arguments_in_use b)
struct_few structs a b form e =
    let x = followed (extent_of structs a.type) _ form e in
    let to = followed (address_of a.form) _ form x.then in
    let from = followed (address_of b.form) _ form to.then in
    let h = address_few a.form to.value to.first in
    let i = address_few b.form from.value from.first in
    form_as _ _ form from.then (omega arith)

pub plain_few :
    (structs : Structs) (a b : TypedExpr) (form : Form) → plain_form structs a b ≡ Some form → form_arguments form ≤ max (arguments_in_use a) (arguments_in_use b)
plain_few structs a b form e = go (is_struct a.type) e
  where
    go : (s : Bool) → (if s then struct_form structs a b else set_form a b) ≡ Some form → form_arguments form ≤ max (arguments_in_use a) (arguments_in_use b)
    go true e = struct_few structs a b form e
    go false e = set_few a b form e

compound_few :
    (structs : Structs) (operator : BinaryOperator) (a b : TypedExpr) (form : Form) → compound_form structs operator a b ≡ Some form
    → form_arguments form ≤ max (arguments_in_use a) (arguments_in_use b)
compound_few structs operator a b form e =
    let l = followed (lvalue_of a.form) _ form e in
    let o = followed (operation_of structs operator a.type (type_in_use b)) _ form l.then in
    let h = place_few a.form l.value l.first in
    let x = value_in_use_few b in
    form_as _ _ form o.then (omega arith)

before_few :
    (structs : Structs) (operator : BinaryOperator) (a : TypedExpr) (form : Form) → compound_form structs operator a one ≡ Some form
    → form_arguments form ≤ arguments_in_use a
before_few structs operator a form e = let h = compound_few structs operator a one form e in omega arith

after_few :
    (structs : Structs) (operator : BinaryOperator) (a : TypedExpr) (form : Form) → step_after_form structs operator a ≡ Some form
    → form_arguments form ≤ arguments_in_use a
after_few structs operator a form e =
    let l = followed (lvalue_of a.form) _ form e in
    let o = followed (operation_of structs operator a.type int) _ form l.then in
    let h = place_few a.form l.value l.first in
    form_as _ _ form o.then (omega arith)

pub step_few :
    (structs : Structs) (operator : StepOperator) (a : TypedExpr) (form : Form) → step_form structs operator a ≡ Some form
    → form_arguments form ≤ arguments_in_use a
step_few structs steps.IncrementBefore a form e = before_few structs binaries.Add a form e
step_few structs steps.DecrementBefore a form e = before_few structs binaries.Subtract a form e
step_few structs steps.IncrementAfter a form e = after_few structs binaries.Add a form e
step_few structs steps.DecrementAfter a form e = after_few structs binaries.Subtract a form e

pub assign_few :
    (structs : Structs) (operator : AssignmentOperator) (a b : TypedExpr) (form : Form) → assign_form structs operator a b ≡ Some form
    → form_arguments form ≤ max (arguments_in_use a) (arguments_in_use b)
assign_few structs assigns.Plain a b form e = let h = plain_few structs a b form e in omega arith
assign_few structs assigns.Multiply a b form e = compound_few structs binaries.Multiply a b form e
assign_few structs assigns.Divide a b form e = compound_few structs binaries.Divide a b form e
assign_few structs assigns.Remainder a b form e = compound_few structs binaries.Remainder a b form e
assign_few structs assigns.Add a b form e = compound_few structs binaries.Add a b form e
assign_few structs assigns.Subtract a b form e = compound_few structs binaries.Subtract a b form e
assign_few structs assigns.ShiftLeft a b form e = compound_few structs binaries.ShiftLeft a b form e
assign_few structs assigns.ShiftRight a b form e = compound_few structs binaries.ShiftRight a b form e
assign_few structs assigns.BitAnd a b form e = compound_few structs binaries.BitAnd a b form e
assign_few structs assigns.BitXor a b form e = compound_few structs binaries.BitXor a b form e
assign_few structs assigns.BitOr a b form e = compound_few structs binaries.BitOr a b form e
