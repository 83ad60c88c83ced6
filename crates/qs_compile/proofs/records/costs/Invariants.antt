use Rattle.std.proofs.Common.{◌≡◌, ℕ, ◌<◌, length, map}
use Rattle.std.specs.Prelude.{slice_index_or}
use Rattle.qs_tac.specs.TreeOf.{function_tree}
use Rattle.qs_tac.specs.Places.{places_tree}
use Rattle.qs_compile.specs.Records.{frame_bytes}
use Rattle.qs_compile.proofs.records.costs.Given as goal

abbrev pub invariant-loop-f : goal.invariant-loop-f
invariant-loop-f l =
    (length l.all.items ≡ l.f)
    × ((k : ℕ) → k < l.f → slice_index_or l.all.items k 0 ≡ frame_bytes (map function_tree l.functions) (map places_tree l.places) k)
