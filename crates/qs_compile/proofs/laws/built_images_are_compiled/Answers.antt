use Rattle.qs_compile.proofs.CompiledLaws.{built_images_are_compiled}
use Rattle.qs_compile.proofs.laws.built_images_are_compiled.Goals as goal

pub returns : goal.returns
returns c = built_images_are_compiled
