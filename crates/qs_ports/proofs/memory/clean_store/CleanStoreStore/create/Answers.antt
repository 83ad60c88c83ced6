use Rattle.qs_ports.proofs.MemoryStores.{creates_file}
use Rattle.qs_ports.proofs.memory.clean_store.CleanStoreStore.create.Goals as goal

pub returns-clause-creates : goal.returns-clause-creates
returns-clause-creates c = creates_file _ _ _ _ (c.create.ensures.created 0 c.args.self.now.misses) c.as_bytes.ensures.value
