use Rattle.qs_compile.proofs.FollowLaws.{agreement_goes_through}
use Rattle.qs_compile.proofs.laws.agreement_goes_through.Goals as goal

pub returns : goal.returns
returns c d = agreement_goes_through _
