use Rattle.qs_memory.proofs.StoreLaws.{load_after_store}
use Rattle.qs_memory.proofs.laws.load_after_store.Goals as goal

pub returns : goal.returns
returns c = load_after_store
