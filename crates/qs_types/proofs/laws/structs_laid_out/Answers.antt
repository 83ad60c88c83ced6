use Rattle.qs_types.proofs.Extents.{structs_laid_out}
use Rattle.qs_types.proofs.laws.structs_laid_out.Goals as goal

pub returns : goal.returns
returns c = structs_laid_out
