use Rattle.qs_compile.proofs.DoesAsCore.{images_do_as_core}
use Rattle.qs_compile.proofs.laws.images_do_as_core.Goals as goal

pub returns : goal.returns
returns c u = images_do_as_core u
