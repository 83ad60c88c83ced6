use Rattle.std.proofs.Common.{arith}
use Rattle.std.proofs.lemmas.Grind.{common_steps}
use Rattle.qs_ports.specs.CleanStore.{clean_store_of}
use Rattle.qs_ports.proofs.MemoryStores.{reads_all}
use Rattle.qs_ports.proofs.memory.clean_store.CleanStoreStore.read.Goals as goal

pub returns-clause-reads : goal.returns-clause-reads
returns-clause-reads c = reads_all (clean_store_of c.args.self.now) _ _ _ _ (grind (arith, common_steps)) c.read.ensures.bytes (c.read.ensures.place 0 c.args.self.now.misses)

pub returns-clause-changes : goal.returns-clause-changes
returns-clause-changes c = c.read.ensures.place 0 c.args.self.now.misses
