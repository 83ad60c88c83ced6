-- What instructions take.
use Rattle.std.specs.Prelude.{Bool, true, false}
use Rattle.qs_tac.specs.declared.operands.Operand.{Operand}
use Rattle.qs_tac.specs.declared.operands.Operand.TheVariants.{Temporary, Integer, Byte, Constant, Null, Local, Data}

abbrev pub is_constant : Operand → Bool
is_constant (Temporary t) = false
is_constant (Integer t) = false
is_constant (Byte t) = false
is_constant (Constant n) = true
is_constant Null = false
is_constant (Local i) = false
is_constant (Data i) = false
