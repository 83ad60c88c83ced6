-- Literals of core, and conversions, which fold on them (C11 6.3, 6.4.4).
use Rattle.std.specs.Prelude.{Bool, Option, Some, None, is_some}
use Rattle.qs_memory.specs.declared.scalar.Scalar.{Scalar}
use Rattle.qs_memory.specs.Partial.{◌>>=◌}
use Rattle.qs_memory.specs.Values.{Value, integer, address, null, convert}
use Rattle.qs_core.specs.Trees.{CoreExprTree, literal, null_pointer, variable, temporary, address_of, load, member, unary, binary, conversion, logical_and, logical_or, conditional}
use Rattle.qs_meaning.specs.Typed.{Conversion, unchanged, converted}

-- the value of a literal
abbrev pub literal_value : CoreExprTree → Option Value
literal_value (literal s n) = Some (integer n)
literal_value null_pointer = Some (address null)
literal_value (variable s x) = None
literal_value (temporary s k) = None
literal_value (address_of place) = None
literal_value (load s a) = None
literal_value (member offset a) = None
literal_value (unary operation a) = None
literal_value (binary operation a b) = None
literal_value (conversion s a) = None
literal_value (logical_and a b) = None
literal_value (logical_or a b) = None
literal_value (conditional c a b) = None

abbrev pub is_literal : CoreExprTree → Bool
is_literal a = is_some (literal_value a)

-- the only pointer that literals are converted to is the null pointer
abbrev pub literal_of : Scalar → Value → CoreExprTree
literal_of s (integer n) = literal s n
literal_of s (address p) = null_pointer

abbrev pub folded : (to : Scalar) → CoreExprTree → Option Value → CoreExprTree
folded to a None = conversion to a
folded to a (Some x) = literal_of to x

-- the conversion of a literal is the literal of the converted value
abbrev pub converted_core : Conversion → CoreExprTree → CoreExprTree
converted_core unchanged a = a
converted_core (converted from to) a = folded to a (literal_value a >>= convert to)
