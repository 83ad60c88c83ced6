use Rattle.qs_print.proofs.LexedJoined.{lexed_back}
use Rattle.qs_print.proofs.laws.lexed_back.Goals as goal

pub returns : goal.returns
returns c = record { lexed_back = lexed_back }
