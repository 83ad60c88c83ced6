use Rattle.qs_emit.proofs.RootLaws.{emitted_code_follows}
use Rattle.qs_emit.proofs.laws.emitted_code_follows.Goals as goal

pub returns : goal.returns
returns c s root arguments w l m n entry room = emitted_code_follows s root arguments w l m n entry room
