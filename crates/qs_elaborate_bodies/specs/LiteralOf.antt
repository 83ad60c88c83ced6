-- The values that literals in code stand for.
use Rattle.std.specs.Prelude.{Option, option_map}
use Rattle.qs_memory.specs.Partial.{◌>>=◌}
use Rattle.qs_memory.specs.Values.{Value, integer, address, null}
use Rattle.qs_meaning.specs.Typed.{Conversion}
use Rattle.qs_meaning.specs.States.{convert_by}
use Rattle.qs_elaborate_bodies.specs.declared.literals.Literal.{Literal}
use Rattle.qs_elaborate_bodies.specs.declared.literals.Literal.TheVariants as literals

abbrev pub value_of : Literal → Value
value_of (literals.Integer n) = integer n
value_of literals.Null = address null

abbrev pub option_value : Option Literal → Option Value
option_value = option_map value_of

abbrev pub option_converted : Conversion → Option Value → Option Value
option_converted c x = x >>= convert_by c
