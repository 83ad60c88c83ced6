-- The operand that an expression is, where it needs no instruction: one of an integer type is an integer or the low byte
-- of one, and what is an operand in core is one here.
use Rattle.std.proofs.Common.{◌≡◌, ℕ, Bool, true, false, Option, Some, None, refl, sym, subst}
use Rattle.std.specs.Prelude.{if◌then◌else◌}
use Rattle.std.proofs.lemmas.Bool.{and_parts}
use Rattle.qs_memory.specs.Partial.{◌>>=◌}
use Rattle.qs_memory.specs.Operations.{integer_type, unary_type, binary_type}
use Rattle.qs_memory.specs.Scalars.{same_scalar, is_integer}
use Rattle.qs_memory.specs.Operands.{unary_takes, conversion_takes}
use Rattle.qs_memory.proofs.ScalarLaws.{scalar_same}
use Rattle.qs_memory.specs.declared.scalar.Scalar.{Scalar}
use Rattle.qs_memory.specs.declared.scalar.Scalar.TheVariants as scalars
use Rattle.qs_memory.specs.declared.operation.Signedness.{Signedness}
use Rattle.qs_memory.specs.declared.operation.Signedness.TheVariants.{Signed, Unsigned}
use Rattle.qs_memory.specs.declared.operation.Direction.TheVariants.{Up, Down}
use Rattle.qs_memory.specs.declared.operation.UnaryOperation.{UnaryOperation}
use Rattle.qs_memory.specs.declared.operation.UnaryOperation.TheVariants as unaries
use Rattle.qs_memory.specs.declared.operation.BinaryOperation.{BinaryOperation}
use Rattle.qs_memory.specs.declared.operation.BinaryOperation.TheVariants as binaries
use Rattle.qs_core.specs.Trees as core
use Rattle.qs_core.specs.Trees.{CoreExprTree, CoreFunctionTree, CoreUnitTree}
use Rattle.qs_core.specs.Expressions.{type_of}
use Rattle.qs_core.specs.Sizes.{is_operand}
use Rattle.qs_core.specs.Fits.{expr_fits}
use Rattle.qs_tac.specs.declared.operands.Operand.{Operand}
use Rattle.qs_tac.specs.declared.operands.Operand.TheVariants.{Temporary, Integer, Byte, Constant, Null, Local, Data}
use Rattle.qs_lower_expressions.specs.Operands.{constant, converted, truth_of, truth_operand, unary_of, constant_of, binary_of, folded, gives_integer, gives_truth, is_idle, constant_step, byte_operand, integer_operand}
use Rattle.qs_lower_expressions.specs.Expressions.{ExprCode, of_truth, of_plus, of_compound, simple_or, of_operation, stepped_or, of_and, of_or, of_conditional, lowered}

-- an integer, or the low byte of one
abbrev pub IsInteger : Operand → Type 0
IsInteger (Temporary t) = Unit {0}
IsInteger (Integer t) = Unit {0}
IsInteger (Byte t) = Unit {0}
IsInteger (Constant n) = Unit {0}
IsInteger Null = ⊥
IsInteger (Local i) = ⊥
IsInteger (Data i) = ⊥

abbrev pub AreIntegers : Option Operand → Type 0
AreIntegers None = Unit {0}
AreIntegers (Some o) = IsInteger o

abbrev pub IsThere : Option Operand → Type 0
IsThere None = ⊥
IsThere (Some o) = Unit {0}

-- ---- converted operands

byte_there : (o : Operand) → IsInteger o → IsThere (byte_operand o)
byte_there (Temporary t) h = tt
byte_there (Integer t) h = tt
byte_there (Byte t) h = tt
byte_there (Constant n) h = tt
byte_there Null h = h
byte_there (Local i) h = h
byte_there (Data i) h = h

integer_there : (o : Operand) → IsInteger o → IsThere (integer_operand o)
integer_there (Temporary t) h = tt
integer_there (Integer t) h = tt
integer_there (Byte t) h = tt
integer_there (Constant n) h = tt
integer_there Null h = h
integer_there (Local i) h = h
integer_there (Data i) h = h

pub converted_there : (s : Scalar) (o : Operand) → is_integer s ≡ true → IsInteger o → IsThere (converted s o)
converted_there scalars.Char o h k = byte_there o k
converted_there scalars.Int o h k = integer_there o k
converted_there scalars.Unsigned o h k = integer_there o k
converted_there scalars.Pointer o h k = absurd (cc)

byte_integer : (o : Operand) → AreIntegers (byte_operand o)
byte_integer (Temporary t) = tt
byte_integer (Integer t) = tt
byte_integer (Byte t) = tt
byte_integer (Constant n) = tt
byte_integer Null = tt
byte_integer (Local i) = tt
byte_integer (Data i) = tt

integer_integer : (o : Operand) → AreIntegers (integer_operand o)
integer_integer (Temporary t) = tt
integer_integer (Integer t) = tt
integer_integer (Byte t) = tt
integer_integer (Constant n) = tt
integer_integer Null = tt
integer_integer (Local i) = tt
integer_integer (Data i) = tt

converted_integer : (s : Scalar) (o : Operand) → is_integer s ≡ true → AreIntegers (converted s o)
converted_integer scalars.Char o h = byte_integer o
converted_integer scalars.Int o h = integer_integer o
converted_integer scalars.Unsigned o h = integer_integer o
converted_integer scalars.Pointer o h = absurd (cc)

of_converted : (s : Scalar) (o : Option Operand) → is_integer s ≡ true → AreIntegers (o >>= converted s)
of_converted s None h = tt
of_converted s (Some o) h = converted_integer s o h

-- ---- operations on operands

of_number : (f : ℕ → ℕ) (n : Option ℕ) → AreIntegers (n >>= λ k. Some (Constant (f k)))
of_number f None = tt
of_number f (Some n) = tt

of_answer : (f : Bool → Bool) (b : Option Bool) → AreIntegers (b >>= λ k. Some (truth_operand (f k)))
of_answer f None = tt
of_answer f (Some b) = tt

unary_integer : (op : UnaryOperation) (o : Operand) → AreIntegers (unary_of op o)
unary_integer (unaries.Plus s) o = integer_integer o
unary_integer (unaries.Minus s) o = of_number _ (constant o)
unary_integer (unaries.Complement s) o = of_number _ (constant o)
unary_integer unaries.Not o = of_answer _ (truth_of o)
unary_integer unaries.Truth o = of_answer (λ b. b) (truth_of o)

of_unary : (op : UnaryOperation) (o : Option Operand) → AreIntegers (o >>= unary_of op)
of_unary op None = tt
of_unary op (Some o) = unary_integer op o

-- what is folded is a constant
abbrev pub AreConstants : Option Operand → Type 0
AreConstants None = Unit {0}
AreConstants (Some o) = (n : ℕ) × (o ≡ Constant n)

number_constant : (n : Option ℕ) → AreConstants (constant_of n)
number_constant None = tt
number_constant (Some n) = (n, refl)

binary_constant : (op : BinaryOperation) (m n : ℕ) → AreConstants (binary_of op m n)
binary_constant (binaries.Arithmetic op s) m n = number_constant _
binary_constant (binaries.Compare op s) m n = (_, refl)
binary_constant (binaries.Move direction s element) m n = tt
binary_constant (binaries.Difference element) m n = tt
binary_constant (binaries.ComparePointers op) m n = tt

of_numbers : (op : BinaryOperation) (m n : Option ℕ) → AreConstants (m >>= λ a. n >>= λ b. binary_of op a b)
of_numbers op None n = tt
of_numbers op (Some m) None = tt
of_numbers op (Some m) (Some n) = binary_constant op m n

pub folded_constant : (op : BinaryOperation) (a b : Option Operand) → AreConstants (folded op a b)
folded_constant op None b = tt
folded_constant op (Some o) None = tt
folded_constant op (Some o) (Some p) = of_numbers op (constant o) (constant p)

-- ---- types

signed_integer : (s : Signedness) → is_integer (integer_type s) ≡ true
signed_integer Signed = refl
signed_integer Unsigned = refl

pub unary_gives : (op : UnaryOperation) → is_integer (unary_type op) ≡ true
unary_gives (unaries.Plus s) = signed_integer s
unary_gives (unaries.Minus s) = signed_integer s
unary_gives (unaries.Complement s) = signed_integer s
unary_gives unaries.Not = refl
unary_gives unaries.Truth = refl

takes_integer : (s t : Scalar) → same_scalar t s ≡ true → is_integer s ≡ true → is_integer t ≡ true
takes_integer s t h k = subst (λ (x : Scalar). is_integer x ≡ true) (sym (scalar_same t s h)) k

-- conversions take integers and make integers
pub record Converts (s t : Scalar) : Type 0 where
  pub to : is_integer s ≡ true
  pub from : is_integer t ≡ true

pub converts : (s t : Scalar) → conversion_takes s t ≡ true → Converts s t
converts scalars.Char t h = record { to = refl; from = h }
converts scalars.Int t h = record { to = refl; from = h }
converts scalars.Unsigned t h = record { to = refl; from = h }
converts scalars.Pointer t h = absurd (cc)

module _ (c : CoreUnitTree) (g : CoreFunctionTree) (v : ℕ) where
  -- what gives 1 or 0 has an integer type
  truth_integer : (e : CoreExprTree) → expr_fits c g e ≡ true → gives_truth e ≡ true → is_integer (type_of e) ≡ true
  truth_integer (core.literal s n) h k = by_type s h
    where
      by_type : (s : Scalar) → expr_fits c g (core.literal s n) ≡ true → is_integer s ≡ true
      by_type scalars.Char h = refl
      by_type scalars.Int h = refl
      by_type scalars.Unsigned h = refl
      by_type scalars.Pointer h = absurd (cc)
  truth_integer core.null_pointer h k = cc
  truth_integer (core.variable s x) h k = absurd (cc)
  truth_integer (core.temporary s x) h k = absurd (cc)
  truth_integer (core.address_of b) h k = cc
  truth_integer (core.load s a) h k = absurd (cc)
  truth_integer (core.member offset a) h k = cc
  truth_integer (core.unary op a) h k = unary_gives op
  truth_integer (core.binary op a b) h k = by_operation op k
    where
      by_operation : (op : BinaryOperation) → gives_truth (core.binary op a b) ≡ true → is_integer (binary_type op) ≡ true
      by_operation (binaries.Arithmetic op s) k = signed_integer s
      by_operation (binaries.Compare op s) k = refl
      by_operation (binaries.Move direction s element) k = cc
      by_operation (binaries.Difference element) k = refl
      by_operation (binaries.ComparePointers op) k = refl
  truth_integer (core.conversion s a) h k = (and_parts (is_integer s) (gives_truth a) k).0
  truth_integer (core.logical_and a b) h k = refl
  truth_integer (core.logical_or a b) h k = refl
  truth_integer (core.conditional q a b) h k =
      let fit = and_parts (expr_fits c g q) (expr_fits c g a) (and_parts _ (expr_fits c g b) (and_parts _ _ h).0).0 in
      truth_integer a fit.1 (and_parts (gives_truth a) (gives_truth b) k).0

  -- ---- integers

  simple_integer : (o : Option Operand) (d : ExprCode) → AreIntegers o → AreIntegers d.simple → AreIntegers (simple_or o d).simple
  simple_integer None d h k = k
  simple_integer (Some o) d h k = h

  if_integer : (b : Bool) (d e : ExprCode) → AreIntegers d.simple → AreIntegers e.simple → AreIntegers (if b then d else e).simple
  if_integer true d e h k = h
  if_integer false d e h k = k

  truth_of_integer : (j : Bool) (d : ExprCode) → (j ≡ true → AreIntegers d.simple) → AreIntegers (of_truth j d).simple
  truth_of_integer true d h = h refl
  truth_of_integer false d h = tt

  plus_integer : (i : Bool) (s : Signedness) (d : ExprCode) → AreIntegers d.simple → AreIntegers (of_plus i s d).simple
  plus_integer true s d h = h
  plus_integer false s d h = tt

  compound_integer :
      (op : UnaryOperation) (i j : Bool) (t : Scalar) (d : ExprCode) → unary_takes op t ≡ true → (is_integer t ≡ true → AreIntegers d.simple)
      → (j ≡ true → is_integer t ≡ true) → AreIntegers (of_compound op i j d).simple
  compound_integer (unaries.Plus s) i j t d h k l = plus_integer i s d (k (takes_integer (integer_type s) t h (signed_integer s)))
  compound_integer (unaries.Minus s) i j t d h k l = tt
  compound_integer (unaries.Complement s) i j t d h k l = tt
  compound_integer unaries.Not i j t d h k l = tt
  compound_integer unaries.Truth i j t d h k l = truth_of_integer j d (λ e. k (l e))

  constant_integer : (o : Option Operand) → AreConstants o → AreIntegers o
  constant_integer None h = tt
  constant_integer (Some o) h = subst IsInteger (sym h.1) tt

  stepped_integer : (n : Option ℕ) (a d : ExprCode) → AreIntegers d.simple → AreIntegers (stepped_or n a d).simple
  stepped_integer None a d h = h
  stepped_integer (Some n) a d h = tt

  operation_integer : (op : BinaryOperation) (a b : ExprCode) → AreIntegers (of_operation op a b).simple
  operation_integer (binaries.Arithmetic op s) a b = tt
  operation_integer (binaries.Compare op s) a b = tt
  operation_integer (binaries.Move Up s element) a b = tt
  operation_integer (binaries.Move Down s element) a b = tt
  operation_integer (binaries.Difference element) a b = tt
  operation_integer (binaries.ComparePointers op) a b = tt

  and_integer : (known : Option Bool) (j : Bool) (a b : ExprCode) → (j ≡ true → AreIntegers b.simple) → AreIntegers (of_and known j a b).simple
  and_integer None j a b h = tt
  and_integer (Some true) j a b h = truth_of_integer j b h
  and_integer (Some false) j a b h = tt

  or_integer : (known : Option Bool) (j : Bool) (a b : ExprCode) → (j ≡ true → AreIntegers b.simple) → AreIntegers (of_or known j a b).simple
  or_integer None j a b h = tt
  or_integer (Some true) j a b h = tt
  or_integer (Some false) j a b h = truth_of_integer j b h

  choice_integer : (known : Option Bool) (q a b : ExprCode) → AreIntegers a.simple → AreIntegers b.simple → AreIntegers (of_conditional known q a b).simple
  choice_integer None q a b h k = tt
  choice_integer (Some true) q a b h k = h
  choice_integer (Some false) q a b h k = k

  pub integers : (e : CoreExprTree) → expr_fits c g e ≡ true → is_integer (type_of e) ≡ true → AreIntegers (lowered v e).simple
  integers (core.literal s n) h k = tt
  integers core.null_pointer h k = cc
  integers (core.variable s x) h k = tt
  integers (core.temporary s x) h k = tt
  integers (core.address_of b) h k = cc
  integers (core.load s a) h k = tt
  integers (core.member offset a) h k = tt
  integers (core.unary op a) h k =
      let two = and_parts (expr_fits c g a) (unary_takes op (type_of a)) h in
      simple_integer ((lowered v a).simple >>= unary_of op) _ (of_unary op (lowered v a).simple)
      (compound_integer op (gives_integer a) (gives_truth a) (type_of a) (lowered v a) two.1 (integers a two.0) (truth_integer a two.0))
  integers (core.binary op a b) h k =
      simple_integer (folded op (lowered v a).simple (lowered v b).simple) _ (constant_integer _ (folded_constant op (lowered v a).simple (lowered v b).simple))
      (stepped_integer (constant_step op (lowered v b).simple) (lowered v a) _ (operation_integer op (lowered v a) (lowered v b)))
  integers (core.conversion s a) h k =
      let two = and_parts (expr_fits c g a) (conversion_takes s (type_of a)) h in
      let types = converts s (type_of a) two.1 in
      simple_integer ((lowered v a).simple >>= converted s) _ (of_converted s (lowered v a).simple types.to)
      (if_integer (is_idle s a) (lowered v a) _ (integers a two.0 types.from) tt)
  integers (core.logical_and a b) h k =
      let two = and_parts (expr_fits c g a) (expr_fits c g b) h in
      and_integer (lowered v a).known (gives_truth b) (lowered v a) (lowered v b) (λ j. integers b two.1 (truth_integer b two.1 j))
  integers (core.logical_or a b) h k =
      let two = and_parts (expr_fits c g a) (expr_fits c g b) h in
      or_integer (lowered v a).known (gives_truth b) (lowered v a) (lowered v b) (λ j. integers b two.1 (truth_integer b two.1 j))
  integers (core.conditional q a b) h k =
      let four = and_parts _ (same_scalar (type_of a) (type_of b)) h in
      let three = and_parts _ (expr_fits c g b) four.0 in
      let two = and_parts (expr_fits c g q) (expr_fits c g a) three.0 in
      choice_integer (lowered v q).known (lowered v q) (lowered v a) (lowered v b) (integers a two.1 k)
      (integers b three.1 (subst (λ (t : Scalar). is_integer t ≡ true) (scalar_same (type_of a) (type_of b) four.1) k))

  -- ---- operands

  simple_there : (o : Option Operand) (d : ExprCode) → IsThere o → IsThere (simple_or o d).simple
  simple_there None d h = absurd h
  simple_there (Some o) d h = tt

  of_there : (s : Scalar) (o : Option Operand) → is_integer s ≡ true → AreIntegers o → IsThere o → IsThere (o >>= converted s)
  of_there s None h k l = l
  of_there s (Some o) h k l = converted_there s o h k

  pub operands_there : (e : CoreExprTree) → expr_fits c g e ≡ true → is_operand e ≡ true → IsThere (lowered v e).simple
  operands_there (core.literal s n) h k = tt
  operands_there core.null_pointer h k = tt
  operands_there (core.variable s x) h k = tt
  operands_there (core.temporary s x) h k = tt
  operands_there (core.address_of b) h k = tt
  operands_there (core.load s a) h k = absurd (cc)
  operands_there (core.member offset a) h k = absurd (cc)
  operands_there (core.unary op a) h k = absurd (cc)
  operands_there (core.binary op a b) h k = absurd (cc)
  operands_there (core.conversion s a) h k =
      let two = and_parts (expr_fits c g a) (conversion_takes s (type_of a)) h in
      let types = converts s (type_of a) two.1 in
      simple_there ((lowered v a).simple >>= converted s) _
      (of_there s (lowered v a).simple types.to (integers a two.0 types.from) (operands_there a two.0 k))
  operands_there (core.logical_and a b) h k = absurd (cc)
  operands_there (core.logical_or a b) h k = absurd (cc)
  operands_there (core.conditional q a b) h k = absurd (cc)
