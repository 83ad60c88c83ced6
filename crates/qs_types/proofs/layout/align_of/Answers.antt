use Rattle.qs_types.specs.TypeOf.{type_tree}
use Rattle.qs_types.specs.EnvOf.{env_tree}
use Rattle.qs_types.proofs.Extents.{sized_alignment}
use Rattle.qs_types.proofs.layout.align_of.Goals as goal

pub returns : goal.returns
returns c = sized_alignment (env_tree c.args.types.now) (type_tree c.args.t.now) c.unwrap.result c.extent_of.result c.extent_of.ensures.extent c.unwrap.ensures
