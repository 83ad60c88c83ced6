use Rattle.std.proofs.Common.{◌≡◌, max}
use Rattle.qs_ports.specs.ShelfView.{shelf_view}
use Rattle.qs_ports.proofs.MemoryStores.{ok_at, err_at}
use Rattle.qs_ports.proofs.memory.clean_store.CleanStore.reserve.Goals as goal

pub returns-clause-ok : goal.returns-clause-ok
returns-clause-ok c =
    let s = c.args.self.now.shelf in
    ok_at (λ f m. shelf_view c.reserve.new.self f m ≡ record (shelf_view s f m) { spare = max s.spare c.args.bytes }) 0 c.args.self.now.misses _ c.reserve.ensures.reserved

pub returns-clause-err : goal.returns-clause-err
returns-clause-err c =
    let s = c.args.self.now.shelf in
    err_at (λ f m. shelf_view c.reserve.new.self f m ≡ shelf_view s f m) 0 c.args.self.now.misses _ c.reserve.ensures.refused
