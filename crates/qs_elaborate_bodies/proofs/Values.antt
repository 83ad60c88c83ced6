-- The values of literals and of conversions.
use Rattle.std.proofs.Common.{◌≡◌, ℕ, zero, suc, Option, Some, None, refl, sym, ap, ◌∙◌}
use Rattle.qs_memory.specs.declared.scalar.Scalar.{Scalar}
use Rattle.qs_memory.specs.declared.scalar.Scalar.TheVariants as scalars
use Rattle.qs_memory.specs.declared.operation.BinaryOperation.{BinaryOperation}
use Rattle.qs_memory.specs.Partial.{◌>>=◌}
use Rattle.qs_memory.specs.Values.{Pointer, null, Value, integer, address, pointer_of_integer, convert}
use Rattle.qs_memory.specs.Memory.{Memory}
use Rattle.qs_memory.specs.Operations.{apply_binary}
use Rattle.qs_core.specs.Trees.{CoreExprTree, literal, null_pointer}
use Rattle.qs_core.specs.Expressions.{Locals, value}
use Rattle.qs_meaning.specs.Typed.{Conversion, unchanged, converted, Order, as_written, exchanged}
use Rattle.qs_meaning.specs.States.{convert_by}
use Rattle.qs_meaning.specs.Meaning.{in_their_order, operation_value, updated_value}
use Rattle.qs_elaborate_bodies.specs.Literals.{literal_value, literal_of, folded, converted_core}
use Rattle.qs_elaborate_bodies.specs.Expressions.{operation_core, updated_core}
use Rattle.qs_elaborate_bodies.specs.Expressions as core_of
use Rattle.qs_elaborate_bodies.proofs.Options.{and_some, and_assoc, and_same, and_swap}

-- ---- literals

pub literal_is : (a : CoreExprTree) (x : Value) → literal_value a ≡ Some x → (l : Locals) (m : Memory) → value a l m ≡ Some x
literal_is (literal s n) x e l m = e
literal_is null_pointer x e l m = e
literal_is _ x e l m = cc

same_value : (x y : Value) → Some x ≡ Some y → x ≡ y
same_value x y e = cc

same_pointers : (p q : Pointer) → address p ≡ address q → p ≡ q
same_pointers p q e = cc

-- a literal pointer is null
literal_null : (a : CoreExprTree) (p : Pointer) → literal_value a ≡ Some (address p) → null ≡ p
literal_null (literal s n) p e = cc
literal_null null_pointer p e = same_pointers null p (same_value _ _ e)
literal_null _ p e = cc

number_null : (n : ℕ) (p : Pointer) → pointer_of_integer n ≡ Some (address p) → null ≡ p
number_null zero p e = same_pointers null p (same_value _ _ e)
number_null (suc n) p e = cc

-- and so is what one is converted to
converted_null : (to : Scalar) (x : Value) (p : Pointer) → ((q : Pointer) → x ≡ address q → null ≡ q) → convert to x ≡ Some (address p) → null ≡ p
converted_null scalars.Char (integer n) p h e = cc
converted_null scalars.Int (integer n) p h e = cc
converted_null scalars.Unsigned (integer n) p h e = cc
converted_null scalars.Pointer (integer n) p h e = number_null n p e
converted_null scalars.Char (address q) p h e = cc
converted_null scalars.Int (address q) p h e = cc
converted_null scalars.Unsigned (address q) p h e = cc
converted_null scalars.Pointer (address q) p h e = h q refl ∙ same_pointers q p (same_value _ _ e)

-- ---- conversions

literal_kept : (s : Scalar) (x : Value) → ((p : Pointer) → x ≡ address p → null ≡ p) → literal_value (literal_of s x) ≡ Some x
literal_kept s (integer n) h = refl
literal_kept s (address p) h = ap (λ q. Some (address q)) (h p refl)

-- what a literal is converted to is a literal
literal_result : (to : Scalar) (a : CoreExprTree) (x y : Value) → literal_value a ≡ Some x → convert to x ≡ Some y → literal_value (literal_of to y) ≡ Some y
literal_result to a x y e f = literal_kept to y (λ p is. converted_null to x p (λ q was. literal_null a q (e ∙ ap Some was)) (f ∙ ap Some is))

folded_literal : (to : Scalar) (a : CoreExprTree) (o : Option Value) → literal_value a ≡ o → literal_value (folded to a (o >>= convert to)) ≡ (o >>= convert to)
folded_literal to a None e = refl
folded_literal to a (Some x) e = by_result (convert to x) refl
  where
    by_result : (o : Option Value) → convert to x ≡ o → literal_value (folded to a o) ≡ o
    by_result None f = refl
    by_result (Some y) f = literal_result to a x y e f

folded_is : (to : Scalar) (a : CoreExprTree) (l : Locals) (m : Memory) (o : Option Value) → literal_value a ≡ o → value (folded to a (o >>= convert to)) l m ≡ (value a l m >>= convert to)
folded_is to a l m None e = refl
folded_is to a l m (Some x) e = by_result (convert to x) refl
  where
    by_result : (o : Option Value) → convert to x ≡ o → value (folded to a o) l m ≡ (value a l m >>= convert to)
    by_result None f = refl
    by_result (Some y) f =
        literal_is (literal_of to y) y (literal_result to a x y e f) l m
        ∙ sym f ∙ ap (λ o. o >>= convert to) (sym (literal_is a x e l m))

-- the conversion of a literal is a literal
pub converted_literal : (c : Conversion) (a : CoreExprTree) → literal_value (converted_core c a) ≡ (literal_value a >>= convert_by c)
converted_literal unchanged a = sym (and_some (literal_value a))
converted_literal (converted from to) a = folded_literal to a (literal_value a) refl

pub converted_is : (c : Conversion) (a : CoreExprTree) (l : Locals) (m : Memory) → value (converted_core c a) l m ≡ (value a l m >>= convert_by c)
converted_is unchanged a l m = sym (and_some (value a l m))
converted_is (converted from to) a l m = folded_is to a l m (literal_value a) refl

-- ---- operations

ordered_is : (operation : BinaryOperation) (order : Order) (a b : CoreExprTree) (l : Locals) (m : Memory) → value (core_of.in_their_order operation order a b) l m ≡ (value a l m >>= λ x. value b l m >>= λ y. in_their_order order operation m x y)
ordered_is operation as_written a b l m = refl
ordered_is operation exchanged a b l m = and_swap (value b l m) (value a l m) (λ y x. apply_binary operation m y x)

pub operation_is : (operation : BinaryOperation) (order : Order) (left right : Conversion) (a b : CoreExprTree) (l : Locals) (m : Memory) → value (operation_core operation order left right a b) l m ≡ (value a l m >>= λ x. value b l m >>= λ y. operation_value operation order left right m x y)
operation_is operation order left right a b l m =
    ordered_is operation order (converted_core left a) (converted_core right b) l m
    ∙ ap (λ o. o >>= λ x. value (converted_core right b) l m >>= λ y. in_their_order order operation m x y) (converted_is left a l m)
    ∙ and_assoc (value a l m) (convert_by left) (λ x. value (converted_core right b) l m >>= λ y. in_their_order order operation m x y)
    ∙ and_same (value a l m) _ _ (λ x.
    ap (λ o. convert_by left x >>= λ x. o >>= λ y. in_their_order order operation m x y) (converted_is right b l m)
    ∙ and_same (convert_by left x) _ _ (λ x. and_assoc (value b l m) (convert_by right) (λ y. in_their_order order operation m x y))
    ∙ and_swap (convert_by left x) (value b l m) (λ x y. convert_by right y >>= λ y. in_their_order order operation m x y))

pub updated_is : (operation : BinaryOperation) (left right back : Conversion) (a b : CoreExprTree) (l : Locals) (m : Memory) → value (updated_core operation left right back a b) l m ≡ (value a l m >>= λ x. value b l m >>= λ y. updated_value operation left right back m x y)
updated_is operation left right back a b l m =
    converted_is back (operation_core operation as_written left right a b) l m
    ∙ ap (λ o. o >>= convert_by back) (operation_is operation as_written left right a b l m)
    ∙ and_assoc (value a l m) _ (convert_by back)
    ∙ and_same (value a l m) _ _ (λ x. and_assoc (value b l m) _ (convert_by back))
