-- What a `MemStore` is for those who use it, and at which calls it fails.
use Rattle.std.specs.Prelude.{◌≡◌, ◌≢◌, ℕ, List, length, Contains}
use Rattle.qs_ports.specs.Causes.{one_more}
use Rattle.qs_ports.specs.StoreView.{StoreView}
use Rattle.qs_ports.specs.Memory.{StoreTellsOn, read_count}
use Rattle.qs_ports.specs.ShelfView.{shelf_view}
use Rattle.qs_ports.specs.Plan.{calls_in}
use Rattle.qs_ports.specs.declared.memory.mem_store.MemStore.{MemStore}
use Rattle.qs_ports.specs.declared.memory.plan.StoreCall.{StoreCall}

-- the store, with its own counts
abbrev pub mem_store_of : MemStore → StoreView
mem_store_of s = shelf_view s.shelf s.faults s.misses

-- the most bytes that a call of `read` or `write` moves
abbrev pub chunk_of : MemStore → ℕ
chunk_of s = s.chunk

-- after a call that moves so many bytes it tells its files, if it did before and had the room
abbrev pub TellsOn : MemStore → MemStore → ℕ → Type 0
TellsOn s t moved = StoreTellsOn (mem_store_of s) (mem_store_of t) moved

-- how many bytes the next `read` puts into this buffer, unless it fails
abbrev pub readable : MemStore → List ℕ → ℕ
readable s buffer = read_count (mem_store_of s) (chunk_of s) (length buffer)

-- the calls that fail, each by its kind and its number among the calls of that kind, from 0
abbrev pub failing_of : MemStore → List (StoreCall × ℕ)
failing_of s = s.plan.failing.items

-- how many calls of this kind there were, those that failed included; a count stands still at its last value
abbrev pub calls_of : MemStore → StoreCall → ℕ
calls_of s kind = calls_in s.plan kind

-- this call, the next one of its kind, is one that fails
abbrev pub IsListed : MemStore → StoreCall → Type 0
IsListed s kind = Contains (failing_of s) (kind, calls_of s kind)

-- a store that wasn't called yet, with this chunk and these failing calls
pub record IsPlanned (s : MemStore) (chunk : ℕ) (failing : List (StoreCall × ℕ)) : Type 0 where
  pub chunk_is : chunk_of s ≡ chunk
  pub failing_is : failing_of s ≡ failing
  pub no_calls : (kind : StoreCall) → calls_of s kind ≡ 0

-- one call more of this kind was counted: the other counts and the plan are as before
pub record CountsCall (s t : MemStore) (kind : StoreCall) : Type 0 where
  pub chunk_stays : chunk_of t ≡ chunk_of s
  pub failing_stays : failing_of t ≡ failing_of s
  pub calls_rise : calls_of t kind ≡ one_more (calls_of s kind)
  pub others_stay : (other : StoreCall) → other ≢ kind → calls_of t other ≡ calls_of s other
