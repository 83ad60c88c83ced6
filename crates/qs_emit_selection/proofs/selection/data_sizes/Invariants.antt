use Rattle.std.proofs.Common.{◌≡◌, ◌++◌, drop}
use Rattle.qs_emit_selection.specs.Data.{data_sizes}
use Rattle.qs_emit_selection.proofs.selection.data_sizes.Given as goal

abbrev pub invariant-loop-block : goal.invariant-loop-block
invariant-loop-block l = l.sizes.items ++ data_sizes (drop l.block-index l.blocks) ≡ data_sizes l.blocks
