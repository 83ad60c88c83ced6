use Rattle.qs_memory.proofs.PointerLaws.{pointers_are_defined}
use Rattle.qs_memory.proofs.laws.pointers_are_defined.Goals as goal

pub returns : goal.returns
returns c = pointers_are_defined
