use Rattle.qs_memory.proofs.StoreLaws.{load_elsewhere}
use Rattle.qs_memory.proofs.laws.load_elsewhere.Goals as goal

pub returns : goal.returns
returns c = load_elsewhere
