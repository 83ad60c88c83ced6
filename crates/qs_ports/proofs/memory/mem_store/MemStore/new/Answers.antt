use Rattle.std.proofs.Common.{rules}
use Rattle.qs_ports.specs.ShelfView.{shelf_view}
use Rattle.qs_ports.specs.Memory.{IsNewStore, files_in}
use Rattle.qs_ports.proofs.MemoryStores.{reserved_new}
use Rattle.qs_ports.proofs.memory.mem_store.MemStore.new.Goals as goal

pub returns-clause-fresh : goal.returns-clause-fresh
returns-clause-fresh c =
    let was : IsNewStore (shelf_view c.in_ok-shelf.shelf 0 0) (files_in c.args.files.items) 0 = search rules in
    reserved_new (shelf_view c.in_ok-shelf.shelf 0 0) _ (files_in c.args.files.items) c.args.room was (c.in_ok-reserve.ensures.reserved 0 0)
