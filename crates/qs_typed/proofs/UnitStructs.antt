-- What is made with the structs of a place is made with those of the unit.
use Rattle.std.proofs.Common.{ℕ, List, Option, Some}
use Rattle.std.specs.List.{slice_get}
use Rattle.qs_memory.specs.Partial.{◌>>=◌}
use Rattle.qs_syntax_vocabulary.specs.declared.operators.StepOperator.{StepOperator}
use Rattle.qs_syntax_vocabulary.specs.declared.operators.StepOperator.TheVariants as steps
use Rattle.qs_syntax_vocabulary.specs.declared.operators.BinaryOperator.{BinaryOperator}
use Rattle.qs_syntax_vocabulary.specs.declared.operators.BinaryOperator.TheVariants as binaries
use Rattle.qs_syntax_vocabulary.specs.declared.operators.AssignmentOperator.{AssignmentOperator}
use Rattle.qs_syntax_vocabulary.specs.declared.operators.AssignmentOperator.TheVariants as assigns
use Rattle.qs_syntax_vocabulary.specs.declared.operators.Access.{Access}
use Rattle.qs_syntax_vocabulary.specs.declared.operators.Access.TheVariants as accesses
use Rattle.qs_memory.specs.declared.operation.Arithmetic.TheVariants as arithmetics
use Rattle.qs_memory.specs.declared.operation.Direction.TheVariants.{Up, Down}
use Rattle.qs_types.specs.declared.extent.Extent.{Extent}
use Rattle.qs_types.specs.Types.{TypeTree, int, unsigned, char, void, pointer, array, struct, is_pointer, is_struct, referenced, Structs}
use Rattle.qs_types.specs.Layout.{extent_of, size_of, layout_of, offset_of, struct_of, StructLayout}
use Rattle.qs_meaning.specs.Operations.{Operated, operation_of, combined, moved, moved_from_left, apart, element_size, summed, subtracted}
use Rattle.qs_meaning.specs.Forms.{Form, result, TypedExpr, lvalue_of, address_of, struct_assignment, type_in_use, value_in_use}
use Rattle.qs_meaning.specs.Typed as typed_trees
use Rattle.qs_meaning.specs.Expressions.{object_at, operated, operator_value, subscript_form, member_number, member_offset, member_form, set_form, struct_form, plain_form, updated, compound_form, assign_form, one, after_form, step_after_form, step_form, size_form, operator_form, binary_form}
use Rattle.qs_typed_nodes.specs.Known.{sized}
use Rattle.qs_typed_nodes.specs.Agrees.{Keeps, Grown}
use Rattle.qs_typed_nodes.proofs.KeptAgreement.{kept, then_kept, is_kept, choice_kept}

pub size_kept : (old new : Structs) → Grown old new → (t : TypeTree) → Keeps (size_of old t) (size_of new t)
size_kept old new g t = then_kept (extent_of old t) (extent_of new t) (λ (e : Extent). Some e.size) (λ (e : Extent). Some e.size) (g.extents t) (λ e. is_kept (Some e.size))

-- ---- operators

element_kept : (old new : Structs) → Grown old new → (t : TypeTree) (to : ℕ → Operated) → Keeps (element_size old t >>= λ n. Some (to n)) (element_size new t >>= λ n. Some (to n))
element_kept old new g t to = kept (element_size old t) (element_size new t) (λ n. Some (to n)) (λ n. Some (to n)) (size_kept old new g (referenced t)) (λ n. is_kept (Some (to n)))

summed_kept : (old new : Structs) → Grown old new → (t u : TypeTree) → Keeps (summed old t u) (summed new t u)
summed_kept old new g t u =
    choice_kept (is_pointer t) _ _ _ _ (element_kept old new g t (λ n. moved Up n t u))
    (choice_kept (is_pointer u) _ _ _ _ (element_kept old new g u (λ n. moved_from_left n t u)) (is_kept (Some (combined arithmetics.Add t u))))

subtracted_kept : (old new : Structs) → Grown old new → (t u : TypeTree) → Keeps (subtracted old t u) (subtracted new t u)
subtracted_kept old new g t u =
    choice_kept (is_pointer u) _ _ _ _ (element_kept old new g t (λ n. apart n))
    (choice_kept (is_pointer t) _ _ _ _ (element_kept old new g t (λ n. moved Down n t u)) (is_kept (Some (combined arithmetics.Subtract t u))))

pub operation_kept : (old new : Structs) → Grown old new → (operator : BinaryOperator) (t u : TypeTree) → Keeps (operation_of old operator t u) (operation_of new operator t u)
operation_kept old new g binaries.Multiply t u = λ x e. e
operation_kept old new g binaries.Divide t u = λ x e. e
operation_kept old new g binaries.Remainder t u = λ x e. e
operation_kept old new g binaries.Add t u = summed_kept old new g t u
operation_kept old new g binaries.Subtract t u = subtracted_kept old new g t u
operation_kept old new g binaries.ShiftLeft t u = λ x e. e
operation_kept old new g binaries.ShiftRight t u = λ x e. e
operation_kept old new g binaries.Less t u = λ x e. e
operation_kept old new g binaries.Greater t u = λ x e. e
operation_kept old new g binaries.LessEqual t u = λ x e. e
operation_kept old new g binaries.GreaterEqual t u = λ x e. e
operation_kept old new g binaries.Equal t u = λ x e. e
operation_kept old new g binaries.NotEqual t u = λ x e. e
operation_kept old new g binaries.BitAnd t u = λ x e. e
operation_kept old new g binaries.BitXor t u = λ x e. e
operation_kept old new g binaries.BitOr t u = λ x e. e
operation_kept old new g binaries.And t u = λ x e. e
operation_kept old new g binaries.Or t u = λ x e. e

operated_kept : {A : Type 0} (old new : Structs) → Grown old new → (operator : BinaryOperator) (t u : TypeTree) (to : Operated → A)
    → Keeps (operation_of old operator t u >>= λ o. Some (to o)) (operation_of new operator t u >>= λ o. Some (to o))
operated_kept old new g operator t u to =
    kept (operation_of old operator t u) (operation_of new operator t u) (λ o. Some (to o)) (λ o. Some (to o)) (operation_kept old new g operator t u) (λ o. is_kept (Some (to o)))

operator_value_kept : (old new : Structs) → Grown old new → (operator : BinaryOperator) (a b : TypedExpr) → Keeps (operator_value old operator a b) (operator_value new operator a b)
operator_value_kept old new g operator a b = operated_kept old new g operator (type_in_use a) (type_in_use b) (λ o. operated o a b)

pub subscript_kept : (old new : Structs) → Grown old new → (a b : TypedExpr) → Keeps (subscript_form old a b) (subscript_form new a b)
subscript_kept old new g a b =
    kept (operator_value old binaries.Add a b) (operator_value new binaries.Add a b) (λ sum. Some (object_at sum)) (λ sum. Some (object_at sum))
    (operator_value_kept old new g binaries.Add a b) (λ sum. is_kept (Some (object_at sum)))

operator_kept : (old new : Structs) → Grown old new → (operator : BinaryOperator) (a b : TypedExpr) → Keeps (operator_form old operator a b) (operator_form new operator a b)
operator_kept old new g operator a b =
    kept (operator_value old operator a b) (operator_value new operator a b) (λ e. Some (result e)) (λ e. Some (result e))
    (operator_value_kept old new g operator a b) (λ e. is_kept (Some (result e)))

pub binary_kept : (old new : Structs) → Grown old new → (operator : BinaryOperator) (a b : TypedExpr) → Keeps (binary_form old operator a b) (binary_form new operator a b)
binary_kept old new g binaries.And a b = λ x e. e
binary_kept old new g binaries.Or a b = λ x e. e
binary_kept old new g binaries.Multiply a b = operator_kept old new g binaries.Multiply a b
binary_kept old new g binaries.Divide a b = operator_kept old new g binaries.Divide a b
binary_kept old new g binaries.Remainder a b = operator_kept old new g binaries.Remainder a b
binary_kept old new g binaries.Add a b = operator_kept old new g binaries.Add a b
binary_kept old new g binaries.Subtract a b = operator_kept old new g binaries.Subtract a b
binary_kept old new g binaries.ShiftLeft a b = operator_kept old new g binaries.ShiftLeft a b
binary_kept old new g binaries.ShiftRight a b = operator_kept old new g binaries.ShiftRight a b
binary_kept old new g binaries.Less a b = operator_kept old new g binaries.Less a b
binary_kept old new g binaries.Greater a b = operator_kept old new g binaries.Greater a b
binary_kept old new g binaries.LessEqual a b = operator_kept old new g binaries.LessEqual a b
binary_kept old new g binaries.GreaterEqual a b = operator_kept old new g binaries.GreaterEqual a b
binary_kept old new g binaries.Equal a b = operator_kept old new g binaries.Equal a b
binary_kept old new g binaries.NotEqual a b = operator_kept old new g binaries.NotEqual a b
binary_kept old new g binaries.BitAnd a b = operator_kept old new g binaries.BitAnd a b
binary_kept old new g binaries.BitXor a b = operator_kept old new g binaries.BitXor a b
binary_kept old new g binaries.BitOr a b = operator_kept old new g binaries.BitOr a b

pub size_form_kept : (old new : Structs) → Grown old new → (t : TypeTree) → Keeps (size_form old t) (size_form new t)
size_form_kept old new g t =
    kept (size_of old t) (size_of new t) (λ n. Some (sized n)) (λ n. Some (sized n)) (size_kept old new g t) (λ n. is_kept (Some (sized n)))

-- ---- members

pub offset_kept : (old new : Structs) → Grown old new → (k i : ℕ) → Keeps (offset_of old k i) (offset_of new k i)
offset_kept old new g k i =
    then_kept (layout_of old k) (layout_of new k) (λ (l : StructLayout). slice_get l.offsets i) (λ (l : StructLayout). slice_get l.offsets i) (g.layouts k)
    (λ l. is_kept (slice_get l.offsets i))

member_offset_kept : (old new : Structs) → Grown old new → (t : TypeTree) (x : List ℕ) → Keeps (member_offset old t x) (member_offset new t x)
member_offset_kept old new g int x = λ y e. e
member_offset_kept old new g unsigned x = λ y e. e
member_offset_kept old new g char x = λ y e. e
member_offset_kept old new g void x = λ y e. e
member_offset_kept old new g (pointer t) x = λ y e. e
member_offset_kept old new g (array t n) x = λ y e. e
member_offset_kept old new g (struct k) x =
    kept (struct_of old k) (struct_of new k) (λ ms. member_number 0 x ms >>= offset_of old k) (λ ms. member_number 0 x ms >>= offset_of new k) (g.members k)
    (λ ms. kept (member_number 0 x ms) (member_number 0 x ms) (offset_of old k) (offset_of new k) (is_kept (member_number 0 x ms)) (offset_kept old new g k))

pub member_kept : (old new : Structs) → Grown old new → (access : Access) (a : TypedExpr) (x : List ℕ) → Keeps (member_form old access a x) (member_form new access a x)
member_kept old new g accesses.Dot a x =
    kept (address_of a.form) (address_of a.form) _ _ (is_kept (address_of a.form))
    (λ base. kept (member_offset old a.type x) (member_offset new a.type x) _ _ (member_offset_kept old new g a.type x) (λ n. is_kept (Some (object_at (typed_trees.member n base)))))
member_kept old new g accesses.Arrow a x =
    kept (member_offset old (referenced (type_in_use a)) x) (member_offset new (referenced (type_in_use a)) x) _ _ (member_offset_kept old new g (referenced (type_in_use a)) x)
    (λ n. is_kept (Some (object_at (typed_trees.member n (value_in_use a)))))

-- ---- assignments

struct_kept : (old new : Structs) → Grown old new → (a b : TypedExpr) → Keeps (struct_form old a b) (struct_form new a b)
struct_kept old new g a b =
    kept (extent_of old a.type) (extent_of new a.type) (to_form a b) (to_form a b) (g.extents a.type) (λ e. is_kept (to_form a b e))
  where
    to_form : (a b : TypedExpr) → Extent → Option Form
    to_form a b e = address_of a.form >>= λ to. address_of b.form >>= λ from. Some (struct_assignment e.size e.alignment to from)

pub plain_kept : (old new : Structs) → Grown old new → (a b : TypedExpr) → Keeps (plain_form old a b) (plain_form new a b)
plain_kept old new g a b = choice_kept (is_struct a.type) _ _ _ _ (struct_kept old new g a b) (is_kept (set_form a b))

compound_kept : (old new : Structs) → Grown old new → (operator : BinaryOperator) (a b : TypedExpr) → Keeps (compound_form old operator a b) (compound_form new operator a b)
compound_kept old new g operator a b =
    kept (lvalue_of a.form) (lvalue_of a.form) _ _ (is_kept (lvalue_of a.form))
    (λ l. operated_kept old new g operator a.type (type_in_use b) (λ o. updated a.type l o (value_in_use b)))

pub assign_kept : (old new : Structs) → Grown old new → (operator : AssignmentOperator) (a b : TypedExpr) → Keeps (assign_form old operator a b) (assign_form new operator a b)
assign_kept old new g assigns.Plain a b = plain_kept old new g a b
assign_kept old new g assigns.Multiply a b = compound_kept old new g binaries.Multiply a b
assign_kept old new g assigns.Divide a b = compound_kept old new g binaries.Divide a b
assign_kept old new g assigns.Remainder a b = compound_kept old new g binaries.Remainder a b
assign_kept old new g assigns.Add a b = compound_kept old new g binaries.Add a b
assign_kept old new g assigns.Subtract a b = compound_kept old new g binaries.Subtract a b
assign_kept old new g assigns.ShiftLeft a b = compound_kept old new g binaries.ShiftLeft a b
assign_kept old new g assigns.ShiftRight a b = compound_kept old new g binaries.ShiftRight a b
assign_kept old new g assigns.BitAnd a b = compound_kept old new g binaries.BitAnd a b
assign_kept old new g assigns.BitXor a b = compound_kept old new g binaries.BitXor a b
assign_kept old new g assigns.BitOr a b = compound_kept old new g binaries.BitOr a b

step_after_kept : (old new : Structs) → Grown old new → (operator : BinaryOperator) (a : TypedExpr) → Keeps (step_after_form old operator a) (step_after_form new operator a)
step_after_kept old new g operator a =
    kept (lvalue_of a.form) (lvalue_of a.form) _ _ (is_kept (lvalue_of a.form)) (λ l. operated_kept old new g operator a.type int (λ o. after_form a.type l o))

pub step_kept : (old new : Structs) → Grown old new → (operator : StepOperator) (a : TypedExpr) → Keeps (step_form old operator a) (step_form new operator a)
step_kept old new g steps.IncrementBefore a = compound_kept old new g binaries.Add a one
step_kept old new g steps.DecrementBefore a = compound_kept old new g binaries.Subtract a one
step_kept old new g steps.IncrementAfter a = step_after_kept old new g binaries.Add a
step_kept old new g steps.DecrementAfter a = step_after_kept old new g binaries.Subtract a
