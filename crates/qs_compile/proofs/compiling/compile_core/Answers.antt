use Rattle.qs_core.specs.UnitTrees.{unit_tree}
use Rattle.qs_compile.proofs.CompiledLaws.{typed_image}
use Rattle.qs_compile.proofs.compiling.compile_core.Goals as goal

pub returns-in-Ok : goal.returns-in-Ok
returns-in-Ok c typed is = typed_image typed (unit_tree c.args.core.now) c.in-Ok.image is c.in-Ok.ensures.built c.in-Ok.ensures.agrees
