use Rattle.qs_driver.proofs.rooms.Sample.{nothing_written}
use Rattle.qs_driver.proofs.commands.sample.write_source.Goals as goal

pub returns-in-None : goal.returns-in-None
returns-in-None g c = rw c.in-None.is (nothing_written _ c.args.text.now)
