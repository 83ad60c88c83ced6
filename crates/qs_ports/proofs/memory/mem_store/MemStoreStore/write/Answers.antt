use Rattle.std.proofs.Common.{arith}
use Rattle.std.proofs.lemmas.Grind.{common_steps}
use Rattle.qs_ports.proofs.MemoryStores.{writes_file}
use Rattle.qs_ports.proofs.memory.mem_store.MemStoreStore.write.Goals as goal

pub returns-clause-writes : goal.returns-clause-writes
returns-clause-writes c = writes_file _ _ _ _ _ (grind (arith, common_steps)) (grind (arith, common_steps)) (grind arith) (c.append.ensures.appended c.args.self.now.faults c.args.self.now.misses)
