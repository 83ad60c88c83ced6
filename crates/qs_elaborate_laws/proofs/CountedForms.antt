-- The nodes that the typed tree of a form counts are at most those of its parts and one.
use Rattle.std.proofs.Common.{◌≡◌, ◌≤◌, ℕ, ◌+◌, Bool, true, false, not, ◌&&◌, ◌||◌, List, Some, refl, sym, ap, subst, arith, if◌then◌else◌}
use Rattle.std.proofs.lemmas.Bool.{not-false}
use Rattle.std.specs.Cmp.{first_so, second_so}
use Rattle.std.proofs.lemmas.Option.{same_Some}
use Rattle.qs_syntax_vocabulary.specs.declared.operators.UnaryOperator.{UnaryOperator}
use Rattle.qs_syntax_vocabulary.specs.declared.operators.UnaryOperator.TheVariants as unaries
use Rattle.qs_syntax_vocabulary.specs.declared.operators.StepOperator.{StepOperator}
use Rattle.qs_syntax_vocabulary.specs.declared.operators.StepOperator.TheVariants as steps
use Rattle.qs_syntax_vocabulary.specs.declared.operators.BinaryOperator.{BinaryOperator}
use Rattle.qs_syntax_vocabulary.specs.declared.operators.BinaryOperator.TheVariants as binaries
use Rattle.qs_syntax_vocabulary.specs.declared.operators.AssignmentOperator.{AssignmentOperator}
use Rattle.qs_syntax_vocabulary.specs.declared.operators.AssignmentOperator.TheVariants as assigns
use Rattle.qs_syntax_vocabulary.specs.declared.operators.Access.{Access}
use Rattle.qs_syntax_vocabulary.specs.declared.operators.Access.TheVariants as accesses
use Rattle.qs_syntax.specs.Trees.{ExprTree}
use Rattle.qs_memory.proofs.Options.{followed}
use Rattle.qs_calls.specs.declared.callee.Callee.{Callee}
use Rattle.qs_types.specs.Types.{TypeTree, int, unsigned, char, void, pointer, array, struct, is_integer, is_array, is_struct, same_type, referenced, Structs}
use Rattle.qs_types.specs.Layout.{extent_of, size_of}
use Rattle.qs_types.specs.Conversions.{decayed}
use Rattle.qs_types.specs.Rules.{breaks_one}
use Rattle.qs_types.specs.Expressions.{is_lvalue, is_assignable, is_object_pointer, may_combine, may_move, unary_judged, assign_judged, subscript_judged, member_judged}
use Rattle.qs_meaning.specs.Typed.{Expr, constant, pointer_to, member, called, stepped_after, unary, cast, binary, logical_and, logical_or, conditional, assigned, sequence, Lvalue, variable, object, Arguments, Assignment, set, update}
use Rattle.qs_meaning.specs.Typed as typed_trees
use Rattle.qs_meaning.specs.Forms.{Form, lvalue, result, call, assignment, step, struct_assignment, comma, TypedExpr, lvalue_of, address_in, address_of, value_in, value_of, effect_of, type_in_use, value_in_use, effect_in_use}
use Rattle.qs_meaning.specs.Operations.{operation_of}
use Rattle.qs_meaning.specs.Expressions.{operated, operator_value, member_offset, member_form, set_form, struct_form, plain_form, compound_form, assign_form, one, step_after_form, step_form, unary_form, size_form, cast_form, operator_form, binary_form, subscript_form, conditional_form}
use Rattle.qs_meaning.proofs.Options.{never, nothing}
use Rattle.qs_elaborate_laws.specs.Counts.{indirection, is_object, is_fixed, is_amount, nodes, lvalue_nodes, arguments_nodes, assignment_nodes, discarded_nodes, target_nodes, effect_nodes}
use Rattle.qs_elaborate_laws.proofs.CountedTypes.{kept, first_unbroken, HasValue, NullHasValue, integer_value, pointer_value, scalar_value, assignable_value, sum_values}

-- ---- what is counted at most

indirection_least : (e : Expr) → indirection e ≤ 1
indirection_least (constant s n) = omega arith
indirection_least (typed_trees.value s l) = omega arith
indirection_least (pointer_to o) = omega arith
indirection_least (member offset a) = omega arith
indirection_least (called s f es) = omega arith
indirection_least (stepped_after s l operation first_so back) = omega arith
indirection_least (unary operation c a) = omega arith
indirection_least (cast c a) = omega arith
indirection_least (binary operation order first_so second_so a b) = omega arith
indirection_least (logical_and a b) = omega arith
indirection_least (logical_or a b) = omega arith
indirection_least (conditional s a second third b c) = omega arith
indirection_least (assigned a) = omega arith
indirection_least (sequence a b) = omega arith

unless_less : (b : Bool) (n : ℕ) → (if b then 0 else n) ≤ n
unless_less true n = omega arith
unless_less false n = omega arith

target_less : (l : Lvalue) → target_nodes l 1 ≤ lvalue_nodes l 1
target_less (variable x) = omega arith
target_less (object p) = unless_less (is_fixed p) (nodes p 1 + indirection p)

discarded_less : (a : Assignment) → discarded_nodes a 1 ≤ 1 + assignment_nodes a 1
discarded_less (set s l c a) = let t = target_less l in omega arith
discarded_less (update s l operation first second back a) = omega arith

-- ---- forms

-- at most n nodes are counted of a form of this type, however it is used; that of a struct has no value that is used
pub record Counted (n : ℕ) (t : TypeTree) (form : Form) : Type 0 where
  pub place : (l : Lvalue) → lvalue_of form ≡ Some l → lvalue_nodes l 1 ≤ n
  pub value : HasValue (decayed t) → nodes (value_of t form) 1 ≤ n
  pub effect : effect_nodes (effect_of t form) 1 ≤ n

-- of an expression
abbrev pub CountedIn : ℕ → TypedExpr → Type 0
CountedIn n a = Counted n a.type a.form

pub counted_as : (n : ℕ) (t : TypeTree) (f form : Form) → Some f ≡ Some form → Counted n t f → Counted n t form
counted_as n t f form e h = subst (λ z. Counted n t z) (same_Some f form e) h

value_in_less : (t : TypeTree) (l : Lvalue) → nodes (value_in t l) 1 ≤ lvalue_nodes l 1
value_in_less int l = omega arith
value_in_less unsigned l = omega arith
value_in_less char l = omega arith
value_in_less void (variable x) = omega arith
value_in_less void (object p) = omega arith
value_in_less (pointer t) l = omega arith
value_in_less (array t n) (variable x) = omega arith
value_in_less (array t n) (object p) = omega arith
value_in_less (struct k) (variable x) = omega arith
value_in_less (struct k) (object p) = omega arith

pub lvalue_counted : (n : ℕ) (t : TypeTree) (l : Lvalue) → lvalue_nodes l 1 ≤ n → Counted n t (lvalue l)
lvalue_counted n t l h =
    let v = value_in_less t l in
    record { place = λ m e. subst (λ z. lvalue_nodes z 1 ≤ n) (same_Some l m e) h; value = λ e. omega arith; effect = omega arith }

pub result_counted : (n : ℕ) (t : TypeTree) (e : Expr) → nodes e 1 ≤ n → Counted n t (result e)
result_counted n t e h = record { place = λ l e. nothing l e; value = λ e. h; effect = h }

pub call_counted : (n : ℕ) (t : TypeTree) (f : Callee) (given : Arguments) → 1 + arguments_nodes given 1 ≤ n → Counted n t (call f given)
call_counted n t f given h = record { place = λ l e. nothing l e; value = λ e. h; effect = h }

assignment_counted : (n : ℕ) (t : TypeTree) (a : Assignment) → 1 + assignment_nodes a 1 ≤ n → Counted n t (assignment a)
assignment_counted n t a h = let d = discarded_less a in record { place = λ l e. nothing l e; value = λ e. h; effect = omega arith }

step_counted : (n : ℕ) (t : TypeTree) (a : Assignment) (before : Expr) → 1 + assignment_nodes a 1 ≤ n → nodes before 1 ≤ n → Counted n t (step a before)
step_counted n t a before h k = let d = discarded_less a in record { place = λ l e. nothing l e; value = λ e. k; effect = omega arith }

copied_counted : (n k size alignment : ℕ) (to from : Expr) → (nodes to 1 + indirection to) + (nodes from 1 + indirection from) ≤ n
    → Counted n (struct k) (struct_assignment size alignment to from)
copied_counted n k size alignment to from h =
    let d = unless_less (is_fixed to) (nodes to 1 + indirection to) in
    record { place = λ l e. nothing l e; value = λ e. never (sym e); effect = omega arith }

decayed_value : (t : TypeTree) → HasValue (decayed (decayed t)) → HasValue (decayed t)
decayed_value int e = refl
decayed_value unsigned e = refl
decayed_value char e = refl
decayed_value void e = refl
decayed_value (pointer t) e = refl
decayed_value (array t n) e = refl
decayed_value (struct k) e = e

pub comma_counted : (n m : ℕ) (a b : TypedExpr) → CountedIn n a → CountedIn m b → Counted (1 + (n + m)) (decayed b.type) (comma (effect_in_use a) b.type b.form)
comma_counted n m a b h k =
    let first = h.effect in
    let last = k.effect in
    record {
      place = λ l e. nothing l e;
      value = λ e. let v = k.value (decayed_value b.type e) in omega arith;
      effect = omega arith;
    }

-- ---- parts

pub address_counted : (n : ℕ) (t : TypeTree) (form : Form) (p : Expr) → Counted n t form → address_of form ≡ Some p → nodes p 1 + indirection p ≤ n
address_counted n t form p h e = let l = followed (lvalue_of form) address_in p e in go l.value (h.place l.value l.first) l.then
  where
    go : (l : Lvalue) → lvalue_nodes l 1 ≤ n → address_in l ≡ Some p → nodes p 1 + indirection p ≤ n
    go (variable x) k e = nothing p e
    go (object q) k e = subst (λ z. nodes z 1 + indirection z ≤ n) (same_Some q p e) k

object_counted : (n : ℕ) (t : TypeTree) (p : Expr) → nodes p 1 + indirection p ≤ n → Counted n t (lvalue (object p))
object_counted n t p h = lvalue_counted n t (object p) h

-- ---- operators between two operands

pub subscript_counted : (structs : Structs) (a b : TypedExpr) (n m : ℕ) (t : TypeTree) (form : Form) → CountedIn n a → CountedIn m b
    → breaks_one (subscript_judged structs (type_in_use a) (type_in_use b)).tests ≡ false → subscript_form structs a b ≡ Some form → Counted (1 + (n + m)) t form
subscript_counted structs a b n m t form h k r e =
    let values = sum_values structs (type_in_use a) (type_in_use b) (not-false _ (first_unbroken _ _ r)) in
    let w = followed (operator_value structs binaries.Add a b) _ form e in
    let o = followed (operation_of structs binaries.Add (type_in_use a) (type_in_use b)) _ w.value w.first in
    let x = h.value values.0 in
    let y = k.value values.1 in
    let least : nodes (operated o.value a b) 1 + indirection (operated o.value a b) ≤ 1 + (n + m) = omega arith in
    counted_as _ t _ form w.then (object_counted _ t w.value (subst (λ z. nodes z 1 + indirection z ≤ 1 + (n + m)) (same_Some _ w.value o.then) least))

operator_counted : (structs : Structs) (operator : BinaryOperator) (a b : TypedExpr) (n m : ℕ) (t : TypeTree) (form : Form) → nodes (value_in_use a) 1 ≤ n → nodes (value_in_use b) 1 ≤ m
    → operator_form structs operator a b ≡ Some form → Counted (1 + (n + m)) t form
operator_counted structs operator a b n m t form x y e =
    let w = followed (operator_value structs operator a b) _ form e in
    let o = followed (operation_of structs operator (type_in_use a) (type_in_use b)) _ w.value w.first in
    let least : nodes (operated o.value a b) 1 ≤ 1 + (n + m) = omega arith in
    counted_as _ t _ form w.then (result_counted _ t w.value (subst (λ z. nodes z 1 ≤ 1 + (n + m)) (same_Some _ w.value o.then) least))

pub binary_counted : (structs : Structs) (operator : BinaryOperator) (a b : TypedExpr) (n m : ℕ) (t : TypeTree) (form : Form) → nodes (value_in_use a) 1 ≤ n → nodes (value_in_use b) 1 ≤ m
    → binary_form structs operator a b ≡ Some form → Counted (1 + (n + m)) t form
binary_counted structs binaries.And a b n m t form x y e = counted_as _ t _ form e (result_counted _ t (logical_and (value_in_use a) (value_in_use b)) (omega arith))
binary_counted structs binaries.Or a b n m t form x y e = counted_as _ t _ form e (result_counted _ t (logical_or (value_in_use a) (value_in_use b)) (omega arith))
binary_counted structs binaries.Multiply a b n m t form x y e = operator_counted structs binaries.Multiply a b n m t form x y e
binary_counted structs binaries.Divide a b n m t form x y e = operator_counted structs binaries.Divide a b n m t form x y e
binary_counted structs binaries.Remainder a b n m t form x y e = operator_counted structs binaries.Remainder a b n m t form x y e
binary_counted structs binaries.Add a b n m t form x y e = operator_counted structs binaries.Add a b n m t form x y e
binary_counted structs binaries.Subtract a b n m t form x y e = operator_counted structs binaries.Subtract a b n m t form x y e
binary_counted structs binaries.ShiftLeft a b n m t form x y e = operator_counted structs binaries.ShiftLeft a b n m t form x y e
binary_counted structs binaries.ShiftRight a b n m t form x y e = operator_counted structs binaries.ShiftRight a b n m t form x y e
binary_counted structs binaries.Less a b n m t form x y e = operator_counted structs binaries.Less a b n m t form x y e
binary_counted structs binaries.Greater a b n m t form x y e = operator_counted structs binaries.Greater a b n m t form x y e
binary_counted structs binaries.LessEqual a b n m t form x y e = operator_counted structs binaries.LessEqual a b n m t form x y e
binary_counted structs binaries.GreaterEqual a b n m t form x y e = operator_counted structs binaries.GreaterEqual a b n m t form x y e
binary_counted structs binaries.Equal a b n m t form x y e = operator_counted structs binaries.Equal a b n m t form x y e
binary_counted structs binaries.NotEqual a b n m t form x y e = operator_counted structs binaries.NotEqual a b n m t form x y e
binary_counted structs binaries.BitAnd a b n m t form x y e = operator_counted structs binaries.BitAnd a b n m t form x y e
binary_counted structs binaries.BitXor a b n m t form x y e = operator_counted structs binaries.BitXor a b n m t form x y e
binary_counted structs binaries.BitOr a b n m t form x y e = operator_counted structs binaries.BitOr a b n m t form x y e

-- ---- unary operators, members, sizes

pub unary_counted : (structs : Structs) (operator : UnaryOperator) (x : ExprTree) (a : TypedExpr) (n : ℕ) (t : TypeTree) (form : Form) → CountedIn n a
    → breaks_one (unary_judged structs operator x a.type (type_in_use a)).tests ≡ false → unary_form operator a ≡ Some form → Counted (1 + n) t form
unary_counted structs unaries.Address x a n t form h r e =
    let p = followed (address_of a.form) _ form e in
    let k = address_counted n a.type a.form p.value h p.first in
    counted_as _ t _ form p.then (result_counted _ t p.value (omega arith))
unary_counted structs unaries.Indirect x a n t form h r e =
    let v = h.value (pointer_value _ (first_so _ _ (kept _ r))) in
    let i = indirection_least (value_in_use a) in
    counted_as _ t _ form e (object_counted _ t (value_in_use a) (omega arith))
unary_counted structs unaries.Plus x a n t form h r e =
    let v = h.value (integer_value _ (kept _ r)) in counted_as _ t _ form e (result_counted _ t _ (omega arith))
unary_counted structs unaries.Minus x a n t form h r e =
    let v = h.value (integer_value _ (kept _ r)) in counted_as _ t _ form e (result_counted _ t _ (omega arith))
unary_counted structs unaries.Complement x a n t form h r e =
    let v = h.value (integer_value _ (kept _ r)) in counted_as _ t _ form e (result_counted _ t _ (omega arith))
unary_counted structs unaries.Not x a n t form h r e =
    let v = h.value (scalar_value _ (kept _ r)) in counted_as _ t _ form e (result_counted _ t _ (omega arith))

pub member_counted : (structs : Structs) (access : Access) (y : ExprTree) (a : TypedExpr) (x : List ℕ) (n : ℕ) (t : TypeTree) (form : Form) → CountedIn n a
    → breaks_one (member_judged structs access y a.type x).tests ≡ false → member_form structs access a x ≡ Some form → Counted (1 + n) t form
member_counted structs accesses.Dot y a x n t form h r e =
    let p = followed (address_of a.form) _ form e in
    let o = followed (member_offset structs a.type x) _ form p.then in
    let k = address_counted n a.type a.form p.value h p.first in
    counted_as _ t _ form o.then (object_counted _ t (member o.value p.value) (omega arith))
member_counted structs accesses.Arrow y a x n t form h r e =
    let o = followed (member_offset structs (referenced (type_in_use a)) x) _ form e in
    let v = h.value (pointer_value _ (first_so _ _ (kept _ r))) in
    counted_as _ t _ form o.then (object_counted _ t (member o.value (value_in_use a)) (omega arith))

pub size_counted : (structs : Structs) (u : TypeTree) (n : ℕ) (t : TypeTree) (form : Form) → size_form structs u ≡ Some form → Counted (1 + n) t form
size_counted structs u n t form e =
    let k = followed (size_of structs u) _ form e in
    counted_as _ t _ form k.then (result_counted _ t _ (omega arith))

pub cast_counted : (u : TypeTree) (a : TypedExpr) (n : ℕ) (t : TypeTree) → nodes (value_in_use a) 1 ≤ n → Counted (1 + n) t (cast_form u a)
cast_counted u a n t v = result_counted _ t _ (omega arith)

pub conditional_counted : (c a b : TypedExpr) (l n m : ℕ) (t : TypeTree) → nodes (value_in_use c) 1 ≤ l → nodes (value_in_use a) 1 ≤ n → nodes (value_in_use b) 1 ≤ m
    → Counted (1 + (l + n + m)) t (conditional_form c a b)
conditional_counted c a b l n m t x y z = result_counted _ t _ (omega arith)

-- ---- assignments and steps

set_counted : (a b : TypedExpr) (n m : ℕ) (t : TypeTree) (form : Form) → CountedIn n a → nodes (value_in_use b) 1 ≤ m → set_form a b ≡ Some form → Counted (1 + (n + m)) t form
set_counted a b n m t form h v e =
    let l = followed (lvalue_of a.form) _ form e in
    let k = h.place l.value l.first in
    counted_as _ t _ form l.then (assignment_counted _ t _ (omega arith))

struct_counted : (structs : Structs) (k : ℕ) (f : Form) (b : TypedExpr) (n m : ℕ) (form : Form) → Counted n (struct k) f → CountedIn m b
    → struct_form structs (record { type = struct k; form = f }) b ≡ Some form → Counted (1 + (n + m)) (struct k) form
struct_counted structs k f b n m form h i e =
    let x = followed (extent_of structs (struct k)) _ form e in
    let to = followed (address_of f) _ form x.then in
    let from = followed (address_of b.form) _ form to.then in
    let p = address_counted n (struct k) f to.value h to.first in
    let q = address_counted m b.type b.form from.value i from.first in
    counted_as _ _ _ form from.then (copied_counted _ k x.value.size x.value.alignment to.value from.value (omega arith))

compound_counted : (structs : Structs) (operator : BinaryOperator) (a b : TypedExpr) (n m : ℕ) (t : TypeTree) (form : Form) → CountedIn n a
    → (if is_amount (value_in_use b) then 0 else nodes (value_in_use b) 1) ≤ m → compound_form structs operator a b ≡ Some form → Counted (1 + (n + m)) t form
compound_counted structs operator a b n m t form h v e =
    let l = followed (lvalue_of a.form) _ form e in
    let o = followed (operation_of structs operator a.type (type_in_use b)) _ form l.then in
    let k = h.place l.value l.first in
    counted_as _ t _ form o.then (assignment_counted _ t _ (omega arith))

after_counted : (structs : Structs) (operator : BinaryOperator) (a : TypedExpr) (n : ℕ) (t : TypeTree) (form : Form) → CountedIn n a → step_after_form structs operator a ≡ Some form
    → Counted (1 + n) t form
after_counted structs operator a n t form h e =
    let l = followed (lvalue_of a.form) _ form e in
    let o = followed (operation_of structs operator a.type int) _ form l.then in
    let k = h.place l.value l.first in
    counted_as _ t _ form o.then (step_counted _ t _ _ (omega arith) (omega arith))

before_counted : (structs : Structs) (operator : BinaryOperator) (a : TypedExpr) (n : ℕ) (t : TypeTree) (form : Form) → CountedIn n a → compound_form structs operator a one ≡ Some form
    → Counted (1 + n) t form
before_counted structs operator a n t form h e =
    let c = compound_counted structs operator a one n 0 t form h (omega arith) e in
    subst (λ z. Counted (1 + z) t form) (none n) c
  where
    none : (n : ℕ) → n + 0 ≡ n
    none n = omega arith

pub step_form_counted : (structs : Structs) (operator : StepOperator) (a : TypedExpr) (n : ℕ) (t : TypeTree) (form : Form) → CountedIn n a → step_form structs operator a ≡ Some form
    → Counted (1 + n) t form
step_form_counted structs steps.IncrementBefore a n t form h e = before_counted structs binaries.Add a n t form h e
step_form_counted structs steps.DecrementBefore a n t form h e = before_counted structs binaries.Subtract a n t form h e
step_form_counted structs steps.IncrementAfter a n t form h e = after_counted structs binaries.Add a n t form h e
step_form_counted structs steps.DecrementAfter a n t form h e = after_counted structs binaries.Subtract a n t form h e

-- what may be assigned to a type that is no struct
first_of : (b : Bool) → (b || false) ≡ true → b ≡ true
first_of true e = refl
first_of false e = never e

abbrev pub Assigns : TypeTree → ExprTree → TypedExpr → Type 0
Assigns t y b = (is_assignable t y (type_in_use b) || (is_struct t && (same_type t b.type && is_lvalue y))) ≡ true

plain_counted : (structs : Structs) (y : ExprTree) (t : TypeTree) (f : Form) (b : TypedExpr) (n m : ℕ) (form : Form) → Counted n t f → CountedIn m b → NullHasValue y (type_in_use b)
    → Assigns t y b → plain_form structs (record { type = t; form = f }) b ≡ Some form → Counted (1 + (n + m)) t form
plain_counted structs y (struct k) f b n m form h i null r e = struct_counted structs k f b n m form h i e
plain_counted structs y int f b n m form h i null r e =
    set_counted (record { type = int; form = f }) b n m int form h (i.value (assignable_value int y _ null (first_of _ r))) e
plain_counted structs y unsigned f b n m form h i null r e =
    set_counted (record { type = unsigned; form = f }) b n m unsigned form h (i.value (assignable_value unsigned y _ null (first_of _ r))) e
plain_counted structs y char f b n m form h i null r e =
    set_counted (record { type = char; form = f }) b n m char form h (i.value (assignable_value char y _ null (first_of _ r))) e
plain_counted structs y void f b n m form h i null r e =
    set_counted (record { type = void; form = f }) b n m void form h (i.value (assignable_value void y _ null (first_of _ r))) e
plain_counted structs y (pointer t) f b n m form h i null r e =
    set_counted (record { type = pointer t; form = f }) b n m (pointer t) form h (i.value (assignable_value (pointer t) y _ null (first_of _ r))) e
plain_counted structs y (array t k) f b n m form h i null r e =
    set_counted (record { type = array t k; form = f }) b n m (array t k) form h (i.value (assignable_value (array t k) y _ null (first_of _ r))) e

pub assign_counted : (structs : Structs) (operator : AssignmentOperator) (x y : ExprTree) (a b : TypedExpr) (n m : ℕ) (form : Form) → CountedIn n a → CountedIn m b
    → NullHasValue y (type_in_use b) → breaks_one (assign_judged structs operator x a.type y b.type).tests ≡ false → assign_form structs operator a b ≡ Some form
    → Counted (1 + (n + m)) a.type form
assign_counted structs operator x y a b n m form h i null = go operator
  where
    compound : (operator : BinaryOperator) → HasValue (type_in_use b) → compound_form structs operator a b ≡ Some form → Counted (1 + (n + m)) a.type form
    compound operator v e =
        let k = i.value v in
        let u = unless_less (is_amount (value_in_use b)) (nodes (value_in_use b) 1) in
        compound_counted structs operator a b n m a.type form h (omega arith) e

    combined : (not (may_combine x a.type (type_in_use b)) || false) ≡ false → HasValue (type_in_use b)
    combined r = integer_value _ (second_so (is_integer a.type) _ (second_so (is_lvalue x) _ (kept _ r)))

    moved : (not (may_move structs x a.type (type_in_use b)) || false) ≡ false → HasValue (type_in_use b)
    moved r = integer_value _ (second_so (is_integer a.type || is_object_pointer structs a.type) _ (second_so (is_lvalue x) _ (kept _ r)))

    go : (operator : AssignmentOperator) → breaks_one (assign_judged structs operator x a.type y b.type).tests ≡ false → assign_form structs operator a b ≡ Some form
        → Counted (1 + (n + m)) a.type form
    go assigns.Plain r e = plain_counted structs y a.type a.form b n m form h i null (second_so (is_lvalue x && not (is_array a.type)) _ (kept _ r)) e
    go assigns.Multiply r e = compound binaries.Multiply (combined r) e
    go assigns.Divide r e = compound binaries.Divide (combined r) e
    go assigns.Remainder r e = compound binaries.Remainder (combined r) e
    go assigns.Add r e = compound binaries.Add (moved r) e
    go assigns.Subtract r e = compound binaries.Subtract (moved r) e
    go assigns.ShiftLeft r e = compound binaries.ShiftLeft (combined r) e
    go assigns.ShiftRight r e = compound binaries.ShiftRight (combined r) e
    go assigns.BitAnd r e = compound binaries.BitAnd (combined r) e
    go assigns.BitXor r e = compound binaries.BitXor (combined r) e
    go assigns.BitOr r e = compound binaries.BitOr (combined r) e

-- ---- initialisers: the address of the object is no node

-- a variable, or an object whose address is fixed
abbrev pub is_settled : Lvalue → Bool
is_settled (variable x) = true
is_settled (object p) = is_fixed p

-- a variable, or an object: what a declaration declares
abbrev pub is_declared : Lvalue → Bool
is_declared (variable x) = true
is_declared (object p) = is_object p

object_fixed : (p : Expr) → is_object p ≡ true → is_fixed p ≡ true
object_fixed (pointer_to o) h = refl
object_fixed _ h = absurd (cc)

pub declared_settled : (l : Lvalue) → is_declared l ≡ true → is_settled l ≡ true
declared_settled (variable x) h = refl
declared_settled (object p) h = object_fixed p h

target_none : (l : Lvalue) → is_settled l ≡ true → target_nodes l 1 ≡ 0
target_none (variable x) h = refl
target_none (object p) h = ap (λ z. if z then 0 else nodes p 1 + indirection p) h

initial_set : (t : TypeTree) (l : Lvalue) (b : TypedExpr) (m : ℕ) (form : Form) → is_settled l ≡ true → nodes (value_in_use b) 1 ≤ m
    → set_form (record { type = t; form = lvalue l }) b ≡ Some form → effect_nodes (effect_of t form) 1 ≤ m
initial_set t l b m form s v e =
    let none = target_none l s in
    subst (λ z. effect_nodes (effect_of t z) 1 ≤ m) (same_Some _ form e) (omega arith)

initial_struct : (structs : Structs) (k : ℕ) (l : Lvalue) (b : TypedExpr) (m : ℕ) (form : Form) → is_settled l ≡ true → CountedIn m b
    → struct_form structs (record { type = struct k; form = lvalue l }) b ≡ Some form → effect_nodes (effect_of (struct k) form) 1 ≤ m
initial_struct structs k (variable x) b m form s h e =
    let y = followed (extent_of structs (struct k)) _ form e in nothing form y.then
initial_struct structs k (object p) b m form s h e =
    let x = followed (extent_of structs (struct k)) _ form e in
    let from = followed (address_of b.form) _ form x.then in
    let none = target_none (object p) s in
    let q = address_counted m b.type b.form from.value h from.first in
    subst (λ z. effect_nodes (effect_of (struct k) z) 1 ≤ m) (same_Some _ form from.then) (omega arith)

-- an object of type t at its beginning, and an expression for it
pub initial_counted : (structs : Structs) (y : ExprTree) (t : TypeTree) (l : Lvalue) (b : TypedExpr) (m : ℕ) (form : Form) → is_settled l ≡ true → CountedIn m b
    → NullHasValue y (type_in_use b) → Assigns t y b → plain_form structs (record { type = t; form = lvalue l }) b ≡ Some form → effect_nodes (effect_of t form) 1 ≤ m
initial_counted structs y (struct k) l b m form s h null r e = initial_struct structs k l b m form s h e
initial_counted structs y int l b m form s h null r e = initial_set int l b m form s (h.value (assignable_value int y _ null (first_of _ r))) e
initial_counted structs y unsigned l b m form s h null r e = initial_set unsigned l b m form s (h.value (assignable_value unsigned y _ null (first_of _ r))) e
initial_counted structs y char l b m form s h null r e = initial_set char l b m form s (h.value (assignable_value char y _ null (first_of _ r))) e
initial_counted structs y void l b m form s h null r e = initial_set void l b m form s (h.value (assignable_value void y _ null (first_of _ r))) e
initial_counted structs y (pointer t) l b m form s h null r e = initial_set (pointer t) l b m form s (h.value (assignable_value (pointer t) y _ null (first_of _ r))) e
initial_counted structs y (array t n) l b m form s h null r e = initial_set (array t n) l b m form s (h.value (assignable_value (array t n) y _ null (first_of _ r))) e
