-- What a `CleanStore` is for those who use it: its count of failures is 0.
use Rattle.std.specs.Prelude.{ℕ, List, length}
use Rattle.qs_ports.specs.StoreView.{StoreView}
use Rattle.qs_ports.specs.Memory.{StoreTellsOn, read_count}
use Rattle.qs_ports.specs.ShelfView.{shelf_view}
use Rattle.qs_ports.specs.declared.memory.clean_store.CleanStore.{CleanStore}

abbrev pub clean_store_of : CleanStore → StoreView
clean_store_of s = shelf_view s.shelf 0 s.misses

-- after a call that moves so many bytes it tells its files, if it did before and had the room
abbrev pub TellsOn : CleanStore → CleanStore → ℕ → Type 0
TellsOn s t moved = StoreTellsOn (clean_store_of s) (clean_store_of t) moved

-- how many bytes the next `read` puts into this buffer
abbrev pub readable : CleanStore → List ℕ → ℕ
readable s buffer = read_count (clean_store_of s) (length buffer) (length buffer)
