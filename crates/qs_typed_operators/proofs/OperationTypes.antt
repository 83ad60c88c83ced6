-- Operators whose operations are known as far as scalar types go.
use Rattle.std.proofs.Common.{◌≡◌, Option, Some, None, option_map, refl, sym, ap, ◌∙◌}
use Rattle.qs_memory.specs.Partial.{◌>>=◌}
use Rattle.qs_syntax_vocabulary.specs.declared.operators.BinaryOperator.{BinaryOperator}
use Rattle.qs_types.specs.Types.{TypeTree, int, unsigned, char, void, pointer, array, struct, referenced, Structs}
use Rattle.qs_types.specs.Conversions.{decayed}
use Rattle.qs_meaning.specs.Conversions.{scalar_of}
use Rattle.qs_meaning.specs.Typed.{Expr, Lvalue}
use Rattle.qs_meaning.specs.Forms.{Form, TypedExpr, lvalue_of, type_in_use, value_in_use}
use Rattle.qs_meaning.specs.Operations as operations
use Rattle.qs_meaning.specs.Expressions.{operated, operator_value, updated, compound_form, after_form, step_after_form}
use Rattle.qs_typed_operators.specs.Parts.{OperatedTree, in_scalars, operated_by, updated_by, stepped_by}

-- what is made of an operation by its scalar types alone
made : {A : Type 0} (of : operations.Operated → A) (by : OperatedTree → A) → ((o : operations.Operated) → of o ≡ by (in_scalars o))
    → (x : Option operations.Operated) (o : OperatedTree) → option_map in_scalars x ≡ Some o → (x >>= λ p. Some (of p)) ≡ Some (by o)
made of by same None o h = cc
made of by same (Some p) o h = ap Some (same p ∙ ap by (some_is (in_scalars p) o h))
  where
    some_is : (a b : OperatedTree) → Some a ≡ Some b → a ≡ b
    some_is a b e = cc

pub operator_is : (structs : Structs) (operator : BinaryOperator) (a b : TypedExpr) (o : OperatedTree) (e : Expr)
    → option_map in_scalars (operations.operation_of structs operator (type_in_use a) (type_in_use b)) ≡ Some o → operated_by o a b ≡ e
    → operator_value structs operator a b ≡ Some e
operator_is structs operator a b o e h g =
    made (λ p. operated p a b) (λ p. operated_by p a b) (λ p. refl) (operations.operation_of structs operator (type_in_use a) (type_in_use b)) o h ∙ ap Some g

pub compound_is : (structs : Structs) (operator : BinaryOperator) (a b : TypedExpr) (l : Lvalue) (o : OperatedTree) (f : Form)
    → lvalue_of a.form ≡ Some l → option_map in_scalars (operations.operation_of structs operator a.type (type_in_use b)) ≡ Some o
    → f ≡ updated_by a.type l o (value_in_use b) → compound_form structs operator a b ≡ Some f
compound_is structs operator a b l o f p h g =
    ap (λ x. x >>= λ l. operations.operation_of structs operator a.type (type_in_use b) >>= λ o. Some (updated a.type l o (value_in_use b))) p
    ∙ made (λ o. updated a.type l o (value_in_use b)) (λ o. updated_by a.type l o (value_in_use b)) (λ p. refl) (operations.operation_of structs operator a.type (type_in_use b)) o h
    ∙ ap Some (sym g)

pub step_after_is : (structs : Structs) (operator : BinaryOperator) (a : TypedExpr) (l : Lvalue) (o : OperatedTree) (f : Form)
    → lvalue_of a.form ≡ Some l → option_map in_scalars (operations.operation_of structs operator a.type int) ≡ Some o
    → f ≡ stepped_by a.type l o → step_after_form structs operator a ≡ Some f
step_after_is structs operator a l o f p h g =
    ap (λ x. x >>= λ l. operations.operation_of structs operator a.type int >>= λ o. Some (after_form a.type l o)) p
    ∙ made (λ o. after_form a.type l o) (λ o. stepped_by a.type l o) (λ p. refl) (operations.operation_of structs operator a.type int) o h
    ∙ ap Some (sym g)

-- ---- an array's value is a pointer

pub scalar_in_use : (t : TypeTree) → scalar_of (decayed t) ≡ scalar_of t
scalar_in_use int = refl
scalar_in_use unsigned = refl
scalar_in_use char = refl
scalar_in_use void = refl
scalar_in_use (pointer t) = refl
scalar_in_use (array t n) = refl
scalar_in_use (struct k) = refl

pub referenced_in_use : (t : TypeTree) → referenced (decayed t) ≡ referenced t
referenced_in_use int = refl
referenced_in_use unsigned = refl
referenced_in_use char = refl
referenced_in_use void = refl
referenced_in_use (pointer t) = refl
referenced_in_use (array t n) = refl
referenced_in_use (struct k) = refl
