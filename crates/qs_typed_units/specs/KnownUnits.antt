-- What is known of a unit as a whole: the headers of its functions, each with the scalar types of its parameters.
use Rattle.std.specs.Prelude.{List, [], ◌∷◌, ◌++◌, Option, Some, None}
use Rattle.qs_syntax.specs.Trees.{structure, forward, function, variables, FunctionTree, UnitTree, typedef}
use Rattle.qs_memory.specs.Partial.{◌>>=◌}
use Rattle.qs_memory.specs.declared.scalar.Scalar.{Scalar}
use Rattle.qs_types.specs.Types.{TypeTree}
use Rattle.qs_meaning.specs.Units.{scalars_of}
use Rattle.qs_typed_nodes.specs.Known.{Header, parameters_of}
use Rattle.qs_typed_nodes.specs.KnownFunctions.{parameters_nodes, locals_at}

abbrev pub header_known : (types : List (Option TypeTree)) → FunctionTree → Option Header
header_known types f = scalars_of (locals_at types (parameters_nodes f.parameters)) >>= λ ps. Some (record { node = f.node.id; parameters = ps })

-- one header more, where none stands at its node yet
abbrev pub header_behind : List Header → (there : Option (List Scalar)) → Header → Option (List Header)
header_behind hs None h = Some (hs ++ h ∷ [])
header_behind hs (Some ps) h = None

abbrev pub with_header : (types : List (Option TypeTree)) → FunctionTree → List Header → Option (List Header)
with_header types f hs = header_known types f >>= header_behind hs (parameters_of f.node.id hs)

-- these headers and those of a unit
abbrev pub headers_behind : (types : List (Option TypeTree)) → List Header → UnitTree → Option (List Header)
headers_behind types hs [] = Some hs
headers_behind types hs (structure d ∷ ds) = headers_behind types hs ds
headers_behind types hs (forward d ∷ ds) = headers_behind types hs ds
headers_behind types hs (typedef d ∷ ds) = headers_behind types hs ds
headers_behind types hs (function f ∷ ds) = with_header types f hs >>= λ more. headers_behind types more ds
headers_behind types hs (variables d ∷ ds) = headers_behind types hs ds
