use Rattle.std.proofs.Common.{◌∙◌, ap, arith, None}
use Rattle.qs_ports.specs.MemStore.{mem_store_of}
use Rattle.qs_ports.proofs.MemoryStores.{creates_file, creates_refused}
use Rattle.qs_ports.proofs.memory.mem_store.MemStoreStore.create.Goals as goal

pub returns-then-count-clause-failed : goal.returns-then-count-clause-failed
returns-then-count-clause-failed c =
    c.close_writing.ensures c.saturating_add-self.result c.args.self.now.misses
    ∙ ap (λ k. record (mem_store_of c.args.self.now) { writing = None; faults = k }) c.saturating_add-self.ensures

pub returns-then-count-clause-creates : goal.returns-then-count-clause-creates
returns-then-count-clause-creates c =
    creates_refused (mem_store_of c.args.self.now) _ c.args.name.now (omega arith) (returns-then-count-clause-failed c)

pub returns-clause-creates : goal.returns-clause-creates
returns-clause-creates c = creates_file _ _ _ _ (c.create.ensures.created c.args.self.now.faults c.args.self.now.misses) c.as_bytes.ensures.value
