use Rattle.qs_certify.proofs.WritableLaws.{added_is_writable}
use Rattle.qs_certify.proofs.laws.added_is_writable.Goals as goal

pub returns : goal.returns
returns c = added_is_writable
