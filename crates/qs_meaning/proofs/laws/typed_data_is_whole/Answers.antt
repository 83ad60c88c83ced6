use Rattle.qs_meaning.proofs.FitBlocks.{typed_data_is_whole}
use Rattle.qs_meaning.proofs.laws.typed_data_is_whole.Goals as goal

pub returns : goal.returns
returns c = typed_data_is_whole
