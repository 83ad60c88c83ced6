use Rattle.std.proofs.Common.{rules}
use Rattle.qs_types.specs.StructsOf.{layout_tree}
use Rattle.qs_types.specs.EnvOf.{env_tree}
use Rattle.qs_types.proofs.Extents.{small_struct}
use Rattle.qs_types.proofs.layout.+extent_of.Goals as goal

pub returns-in_ok-layout_of-in-Struct-clause-small : goal.returns-in_ok-layout_of-in-Struct-clause-small
returns-in_ok-layout_of-in-Struct-clause-small t c =
    small_struct (env_tree c.args.types.now) c.in-Struct.k (layout_tree c.in_ok-layout_of-in-Struct.field-0.now) c.structure.result (search rules) c.structure.ensures
