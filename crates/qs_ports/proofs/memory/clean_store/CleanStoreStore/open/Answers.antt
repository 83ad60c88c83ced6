use Rattle.std.proofs.Common.{arith}
use Rattle.qs_ports.specs.CleanStore.{clean_store_of}
use Rattle.qs_ports.proofs.MemoryStores.{found, missed, opens_found, opens_missed}
use Rattle.qs_ports.proofs.memory.clean_store.CleanStoreStore.open.Goals as goal

pub returns-then-open-clause-changes : goal.returns-then-open-clause-changes
returns-then-open-clause-changes c =
    found (clean_store_of c.args.self.now) _ c.args.name.now c.as_bytes.result.now (c.if-open.ensures.opened 0 c.args.self.now.misses) c.as_bytes.ensures.value

pub returns-then-open-clause-opens : goal.returns-then-open-clause-opens
returns-then-open-clause-opens c =
    opens_found (clean_store_of c.args.self.now) _ c.args.name.now c.as_bytes.result.now (returns-then-open-clause-changes c) c.as_bytes.ensures.value c.if-open.ensures.there

pub returns-clause-changes : goal.returns-clause-changes
returns-clause-changes c =
    missed (clean_store_of c.args.self.now) _ c.args.name.now c.saturating_add-self.result (c.if-open.ensures.opened 0 c.saturating_add-self.result) c.saturating_add-self.ensures

pub returns-clause-opens : goal.returns-clause-opens
returns-clause-opens c =
    opens_missed (clean_store_of c.args.self.now) _ c.args.name.now c.as_bytes.result.now (omega arith) (returns-clause-changes c) c.as_bytes.ensures.value c.if-open.ensures.there
