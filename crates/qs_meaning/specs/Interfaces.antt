-- What a unit shows to those who run its functions: the types of these, and its blocks.
use Rattle.std.specs.Prelude.{List, [], ◌∷◌, length, map}
use Rattle.qs_memory.specs.declared.scalar.Scalar.{Scalar}
use Rattle.qs_calls.specs.declared.parameter.Parameter.{Parameter}
use Rattle.qs_calls.specs.Starts.{Signature, DataExtent, Interface}
use Rattle.qs_meaning.specs.Typed.{Function, StaticBlock, TypedProgram}

-- the types of the first variables, one for each parameter
abbrev pub types_of : List Parameter → (variables : List Scalar) → List Scalar
types_of [] vs = []
types_of (p ∷ ps) [] = []
types_of (p ∷ ps) (s ∷ vs) = s ∷ types_of ps vs

abbrev pub signature : Function → Signature
signature g = record { parameters = types_of g.parameters g.variables; result_type = g.result }

abbrev pub data_extent : StaticBlock → DataExtent
data_extent b = record { size = length b.cells; is_writable = b.writable }

abbrev pub interface_of : TypedProgram → Interface
interface_of u = record { functions = map signature u.functions; data_blocks = map data_extent u.blocks }
