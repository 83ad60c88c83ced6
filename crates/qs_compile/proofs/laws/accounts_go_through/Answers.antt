use Rattle.qs_compile.proofs.FollowLaws.{accounts_go_through}
use Rattle.qs_compile.proofs.laws.accounts_go_through.Goals as goal

pub returns : goal.returns
returns c d = accounts_go_through _
