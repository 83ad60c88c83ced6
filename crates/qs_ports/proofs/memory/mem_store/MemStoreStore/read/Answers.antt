use Rattle.qs_ports.specs.MemStore.{mem_store_of}
use Rattle.qs_ports.proofs.MemoryStores.{reads_bytes}
use Rattle.qs_ports.proofs.memory.mem_store.MemStoreStore.read.Goals as goal

pub returns-clause-reads : goal.returns-clause-reads
returns-clause-reads c =
    reads_bytes (mem_store_of c.args.self.now) _ _ _ c.args.self.now.chunk _ c.args.self.now.some c.read.ensures.count c.read.ensures.bytes (c.read.ensures.place c.args.self.now.faults c.args.self.now.misses)

pub returns-clause-changes : goal.returns-clause-changes
returns-clause-changes c = c.read.ensures.place c.args.self.now.faults c.args.self.now.misses
