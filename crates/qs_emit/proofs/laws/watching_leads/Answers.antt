use Rattle.qs_emit.proofs.WatchLaws.{watching_leads}
use Rattle.qs_emit.proofs.laws.watching_leads.Goals as goal

pub returns : goal.returns
returns c image r steps w to quiet e = watching_leads image r steps w to quiet e
