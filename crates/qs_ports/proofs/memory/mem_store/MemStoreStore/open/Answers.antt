use Rattle.std.proofs.Common.{arith}
use Rattle.qs_ports.specs.MemStore.{mem_store_of}
use Rattle.qs_ports.proofs.MemoryStores.{found, missed, refused, opens_found, opens_missed, opens_refused}
use Rattle.qs_ports.proofs.memory.mem_store.MemStoreStore.open.Goals as goal

pub returns-then-count-clause-changes : goal.returns-then-count-clause-changes
returns-then-count-clause-changes c =
    refused (mem_store_of c.args.self.now) _ c.args.name.now c.saturating_add-self.result (c.close_reading.ensures c.saturating_add-self.result c.args.self.now.misses) c.saturating_add-self.ensures

pub returns-then-count-clause-opens : goal.returns-then-count-clause-opens
returns-then-count-clause-opens c =
    opens_refused (mem_store_of c.args.self.now) _ c.args.name.now (omega arith) (returns-then-count-clause-changes c)

pub returns-then-open-clause-changes : goal.returns-then-open-clause-changes
returns-then-open-clause-changes c =
    found (mem_store_of c.args.self.now) _ c.args.name.now c.as_bytes.result.now (c.if-open.ensures.opened c.args.self.now.faults c.args.self.now.misses) c.as_bytes.ensures.value

pub returns-then-open-clause-opens : goal.returns-then-open-clause-opens
returns-then-open-clause-opens c =
    opens_found (mem_store_of c.args.self.now) _ c.args.name.now c.as_bytes.result.now (returns-then-open-clause-changes c) c.as_bytes.ensures.value c.if-open.ensures.there

pub returns-clause-changes : goal.returns-clause-changes
returns-clause-changes c =
    missed (mem_store_of c.args.self.now) _ c.args.name.now c.saturating_add-self-2.result (c.if-open.ensures.opened c.args.self.now.faults c.saturating_add-self-2.result) c.saturating_add-self-2.ensures

pub returns-clause-opens : goal.returns-clause-opens
returns-clause-opens c =
    opens_missed (mem_store_of c.args.self.now) _ c.args.name.now c.as_bytes.result.now (omega arith) (returns-clause-changes c) c.as_bytes.ensures.value c.if-open.ensures.there
