-- The terms and conditions of expressions, one for each row of their table.
use Rattle.std.proofs.Common.{◌≡◌, ℕ, pos, negsuc, [], ◌∷◌, map, replicate, Some, None, refl}
use Rattle.qs_memory.specs.declared.scalar.Scalar.TheVariants as scalars
use Rattle.qs_memory.specs.declared.operation.Signedness.{Signedness}
use Rattle.qs_memory.specs.declared.operation.Signedness.TheVariants.{Signed, Unsigned}
use Rattle.qs_memory.specs.declared.operation.Direction.TheVariants.{Up}
use Rattle.qs_memory.specs.declared.operation.Arithmetic.{Arithmetic}
use Rattle.qs_memory.specs.declared.operation.Arithmetic.TheVariants as arithmetics
use Rattle.qs_memory.specs.declared.operation.Comparison.{Comparison}
use Rattle.qs_memory.specs.declared.operation.Comparison.TheVariants as comparisons
use Rattle.qs_memory.specs.declared.operation.UnaryOperation.TheVariants as unaries
use Rattle.qs_memory.specs.declared.operation.BinaryOperation.TheVariants as binaries
use Rattle.qs_core.specs.declared.numbers.BlockId.TheVariants.{Local}
use Rattle.qs_core.specs.declared.term.TermOperation.TheVariants.{Add, Subtract, Multiply}
use Rattle.qs_core.specs.declared.term.TermComparison.TheVariants.{LessOrEqual, Less, Equal, NotEqual}
use Rattle.qs_core.specs.Trees.{CoreExprTree, literal, null_pointer, address_of, load, member}
use Rattle.qs_core.specs.Trees.{unary, binary, conversion, logical_and, logical_or, conditional}
use Rattle.qs_core.specs.TermTrees.{CoreTermTree, number, combined, quotient, wrapped}
use Rattle.qs_core.specs.TermTrees.{compared, not, and, or}
use Rattle.qs_core.specs.Terms.{term_of, condition_of}

-- an `int`, an `unsigned` and a `char`, and their terms

abbrev i : CoreExprTree
i = CoreExprTree.variable scalars.Int 0

abbrev u : CoreExprTree
u = CoreExprTree.variable scalars.Unsigned 1

abbrev c : CoreExprTree
c = CoreExprTree.temporary scalars.Char 2

abbrev int : CoreTermTree
int = CoreTermTree.variable scalars.Int 0

abbrev uint : CoreTermTree
uint = CoreTermTree.variable scalars.Unsigned 1

abbrev char : CoreTermTree
char = CoreTermTree.temporary scalars.Char 2

abbrev whole : ℕ → CoreTermTree
whole n = number (pos n)

abbrev int_literal : ℕ → CoreExprTree
int_literal n = literal scalars.Int n

abbrev uint_literal : ℕ → CoreExprTree
uint_literal n = literal scalars.Unsigned n

abbrev arithmetic : Arithmetic → Signedness → CoreExprTree → CoreExprTree → CoreExprTree
arithmetic op s a b = binary (binaries.Arithmetic op s) a b

abbrev compare : Comparison → CoreExprTree → CoreExprTree → CoreExprTree
compare op a b = binary (binaries.Compare op Unsigned) a b

-- ---- literals, variables, temporaries

char_literal : term_of (literal scalars.Char 255) ≡ Some (whole 255)
char_literal = refl

greatest_int : term_of (int_literal 2147483647) ≡ Some (whole 2147483647)
greatest_int = refl

least_int : term_of (int_literal 2147483648) ≡ Some (number (negsuc 2147483647))
least_int = refl

minus_one : term_of (int_literal 4294967295) ≡ Some (number (negsuc 0))
minus_one = refl

greatest_unsigned : term_of (uint_literal 4294967295) ≡ Some (whole 4294967295)
greatest_unsigned = refl

a_variable : term_of i ≡ Some int
a_variable = refl

a_temporary : term_of c ≡ Some char
a_temporary = refl

a_pointer_variable : term_of (CoreExprTree.variable scalars.Pointer 0) ≡ None
a_pointer_variable = refl

a_pointer_temporary : term_of (CoreExprTree.temporary scalars.Pointer 0) ≡ None
a_pointer_temporary = refl

-- ---- operations

sum_signed : term_of (arithmetic arithmetics.Add Signed i i) ≡ Some (wrapped Signed (combined Add int int))
sum_signed = refl

sum_unsigned : term_of (arithmetic arithmetics.Add Unsigned u u) ≡ Some (wrapped Unsigned (combined Add uint uint))
sum_unsigned = refl

difference : term_of (arithmetic arithmetics.Subtract Unsigned u (uint_literal 1)) ≡ Some (wrapped Unsigned (combined Subtract uint (whole 1)))
difference = refl

product : term_of (arithmetic arithmetics.Multiply Signed (int_literal 3) i) ≡ Some (wrapped Signed (combined Multiply (whole 3) int))
product = refl

negative : term_of (unary (unaries.Minus Signed) i) ≡ Some (wrapped Signed (combined Subtract (whole 0) int))
negative = refl

plus : term_of (unary (unaries.Plus Signed) i) ≡ Some int
plus = refl

half : term_of (arithmetic arithmetics.Divide Unsigned u (uint_literal 2)) ≡ Some (quotient uint 2)
half = refl

by_one : term_of (arithmetic arithmetics.Divide Unsigned u (uint_literal 1)) ≡ Some (quotient uint 1)
by_one = refl

by_zero : term_of (arithmetic arithmetics.Divide Unsigned u (uint_literal 0)) ≡ None
by_zero = refl

by_a_variable : term_of (arithmetic arithmetics.Divide Unsigned u u) ≡ None
by_a_variable = refl

signed_quotient : term_of (arithmetic arithmetics.Divide Signed i (int_literal 2)) ≡ None
signed_quotient = refl

remainder :
    term_of (arithmetic arithmetics.Remainder Unsigned u (uint_literal 7))
    ≡ Some (combined Subtract uint (combined Multiply (whole 7) (quotient uint 7)))
remainder = refl

remainder_by_zero : term_of (arithmetic arithmetics.Remainder Unsigned u (uint_literal 0)) ≡ None
remainder_by_zero = refl

signed_remainder : term_of (arithmetic arithmetics.Remainder Signed i (int_literal 7)) ≡ None
signed_remainder = refl

left_by_0 : term_of (arithmetic arithmetics.ShiftLeft Signed i (int_literal 0)) ≡ Some (wrapped Signed (combined Multiply int (whole 1)))
left_by_0 = refl

left_by_31 : term_of (arithmetic arithmetics.ShiftLeft Unsigned u (int_literal 31)) ≡ Some (wrapped Unsigned (combined Multiply uint (whole 2147483648)))
left_by_31 = refl

left_by_32 : term_of (arithmetic arithmetics.ShiftLeft Unsigned u (int_literal 32)) ≡ None
left_by_32 = refl

left_by_a_variable : term_of (arithmetic arithmetics.ShiftLeft Unsigned u i) ≡ None
left_by_a_variable = refl

right_by_0 : term_of (arithmetic arithmetics.ShiftRight Unsigned u (int_literal 0)) ≡ Some (quotient uint 1)
right_by_0 = refl

right_by_31 : term_of (arithmetic arithmetics.ShiftRight Unsigned u (uint_literal 31)) ≡ Some (quotient uint 2147483648)
right_by_31 = refl

right_by_32 : term_of (arithmetic arithmetics.ShiftRight Unsigned u (uint_literal 32)) ≡ None
right_by_32 = refl

signed_right : term_of (arithmetic arithmetics.ShiftRight Signed i (int_literal 3)) ≡ None
signed_right = refl

-- ---- conversions

to_unsigned : term_of (conversion scalars.Unsigned i) ≡ Some (wrapped Unsigned int)
to_unsigned = refl

to_int : term_of (conversion scalars.Int u) ≡ Some (wrapped Signed uint)
to_int = refl

int_to_char :
    term_of (conversion scalars.Char i)
    ≡ Some (combined Subtract int (combined Multiply (whole 256) (quotient int 256)))
int_to_char = refl

unsigned_to_char :
    term_of (conversion scalars.Char u)
    ≡ Some (combined Subtract uint (combined Multiply (whole 256) (quotient uint 256)))
unsigned_to_char = refl

char_to_int : term_of (conversion scalars.Int c) ≡ Some char
char_to_int = refl

char_to_unsigned : term_of (conversion scalars.Unsigned c) ≡ Some char
char_to_unsigned = refl

to_its_own_type : term_of (conversion scalars.Int i) ≡ Some int
to_its_own_type = refl

a_converted_load : term_of (conversion scalars.Int (load scalars.Char null_pointer)) ≡ None
a_converted_load = refl

-- ---- without a term

none_of_these :
    map term_of (
    null_pointer
    ∷ address_of (Local 0)
    ∷ load scalars.Int null_pointer
    ∷ member 4 null_pointer
    ∷ unary (unaries.Complement Signed) i
    ∷ unary unaries.Not i
    ∷ unary unaries.Truth i
    ∷ arithmetic arithmetics.And Signed i i
    ∷ arithmetic arithmetics.Or Signed i i
    ∷ arithmetic arithmetics.Xor Signed i i
    ∷ arithmetic arithmetics.Add Signed (load scalars.Int null_pointer) i
    ∷ arithmetic arithmetics.Add Signed i (load scalars.Int null_pointer)
    ∷ arithmetic arithmetics.ShiftLeft Signed (load scalars.Int null_pointer) (int_literal 1)
    ∷ compare comparisons.Less u u
    ∷ binary (binaries.Move Up Signed 4) null_pointer i
    ∷ binary (binaries.Difference 4) null_pointer null_pointer
    ∷ binary (binaries.ComparePointers comparisons.Equal) null_pointer null_pointer
    ∷ conversion scalars.Pointer null_pointer
    ∷ logical_and i i
    ∷ logical_or i i
    ∷ conditional i i i
    ∷ [])
    ≡ replicate 21 None
none_of_these = refl

-- ---- conditions

equal : condition_of (compare comparisons.Equal u (uint_literal 3)) ≡ Some (compared Equal uint (whole 3))
equal = refl

not_equal : condition_of (compare comparisons.NotEqual u (uint_literal 3)) ≡ Some (compared NotEqual uint (whole 3))
not_equal = refl

less : condition_of (compare comparisons.Less u (uint_literal 3)) ≡ Some (compared Less uint (whole 3))
less = refl

at_most : condition_of (compare comparisons.LessOrEqual u (uint_literal 3)) ≡ Some (compared LessOrEqual uint (whole 3))
at_most = refl

greater : condition_of (compare comparisons.Greater u (uint_literal 3)) ≡ Some (compared Less (whole 3) uint)
greater = refl

at_least : condition_of (compare comparisons.GreaterOrEqual u (uint_literal 3)) ≡ Some (compared LessOrEqual (whole 3) uint)
at_least = refl

-- a comparison is no number
compared_comparison : condition_of (binary (binaries.Compare comparisons.Equal Signed) (compare comparisons.Less u u) (int_literal 1)) ≡ None
compared_comparison = refl

number_as_condition : condition_of c ≡ Some (compared NotEqual char (whole 0))
number_as_condition = refl

literal_as_condition : condition_of (int_literal 1) ≡ Some (compared NotEqual (whole 1) (whole 0))
literal_as_condition = refl

sum_as_condition : condition_of (arithmetic arithmetics.Add Signed i i) ≡ Some (compared NotEqual (wrapped Signed (combined Add int int)) (whole 0))
sum_as_condition = refl

conversion_as_condition : condition_of (conversion scalars.Unsigned i) ≡ Some (compared NotEqual (wrapped Unsigned int) (whole 0))
conversion_as_condition = refl

minus_as_condition : condition_of (unary (unaries.Minus Signed) i) ≡ Some (compared NotEqual (wrapped Signed (combined Subtract (whole 0) int)) (whole 0))
minus_as_condition = refl

plus_as_condition : condition_of (unary (unaries.Plus Signed) i) ≡ Some (compared NotEqual int (whole 0))
plus_as_condition = refl

negation : condition_of (unary unaries.Not (compare comparisons.Less u (uint_literal 3))) ≡ Some (not (compared Less uint (whole 3)))
negation = refl

negated_number : condition_of (unary unaries.Not i) ≡ Some (not (compared NotEqual int (whole 0)))
negated_number = refl

both : condition_of (logical_and i u) ≡ Some (and (compared NotEqual int (whole 0)) (compared NotEqual uint (whole 0)))
both = refl

either : condition_of (logical_or i u) ≡ Some (or (compared NotEqual int (whole 0)) (compared NotEqual uint (whole 0)))
either = refl

no_conditions :
    map condition_of (
    null_pointer
    ∷ CoreExprTree.variable scalars.Pointer 0
    ∷ address_of (Local 0)
    ∷ load scalars.Int null_pointer
    ∷ member 4 null_pointer
    ∷ unary (unaries.Complement Signed) i
    ∷ unary unaries.Truth i
    ∷ unary unaries.Not null_pointer
    ∷ arithmetic arithmetics.And Signed i i
    ∷ compare comparisons.Less u (load scalars.Unsigned null_pointer)
    ∷ binary (binaries.Move Up Signed 4) null_pointer i
    ∷ binary (binaries.Difference 4) null_pointer null_pointer
    ∷ binary (binaries.ComparePointers comparisons.Equal) null_pointer null_pointer
    ∷ conversion scalars.Pointer null_pointer
    ∷ logical_and i null_pointer
    ∷ logical_and null_pointer i
    ∷ logical_or i null_pointer
    ∷ logical_or null_pointer i
    ∷ conditional i i i
    ∷ [])
    ≡ replicate 19 None
no_conditions = refl
