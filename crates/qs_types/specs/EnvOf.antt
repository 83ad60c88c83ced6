-- The pure structs of a unit that an `Env` stands for.
use Rattle.qs_types.specs.Types.{Structs}
use Rattle.qs_types.specs.StructsOf.{structs_tree}
use Rattle.qs_types.specs.declared.env.Env.{Env}

abbrev pub env_tree : Env → Structs
env_tree env = structs_tree env.structs.items
