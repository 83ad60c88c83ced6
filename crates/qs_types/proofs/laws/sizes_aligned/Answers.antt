use Rattle.qs_types.proofs.Extents.{sizes_aligned}
use Rattle.qs_types.proofs.laws.sizes_aligned.Goals as goal

pub returns : goal.returns
returns c = sizes_aligned
