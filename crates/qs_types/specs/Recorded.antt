-- What a typed unit keeps besides the types of its nodes: the names of its types, and the blocks of its variables.
use Rattle.std.specs.Prelude.{List}
use Rattle.qs_syntax.specs.Trees.{UnitTree}
use Rattle.qs_types.specs.Contexts.{TypeNames, start_context}
use Rattle.qs_types.specs.Limits.{Block, variable_blocks_from}
use Rattle.qs_types.specs.WellTyped.{end_context}

-- 6.7.2.3, 6.7.8: the tags with the numbers of their structs, and the names of typedefs with their types
abbrev pub type_names_of : UnitTree → TypeNames
type_names_of unit = (end_context unit).type_names

-- the variables of file scope, in the order of their declarations
abbrev pub global_blocks : UnitTree → List Block
global_blocks unit = variable_blocks_from start_context unit
