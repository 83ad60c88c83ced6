use Rattle.std.proofs.Common.{◌≡◌, ℕ, ◌<◌, length, map}
use Rattle.std.specs.Prelude.{slice_index_or, nat_eq}
use Rattle.std.specs.HashMap.{get}
use Rattle.qs_tac.specs.TreeOf.{function_tree}
use Rattle.qs_emit_selection.specs.Emission.{first_label}
use Rattle.qs_compile.specs.Records.{place_of}
use Rattle.qs_compile.proofs.records.addresses.Given as goal

abbrev pub invariant-loop-f : goal.invariant-loop-f
invariant-loop-f l =
    (length l.all.items ≡ l.f)
    × ((k : ℕ) → k < l.f → slice_index_or l.all.items k 0 ≡ place_of (get nat_eq l.labels) (first_label (map function_tree l.functions) k))
