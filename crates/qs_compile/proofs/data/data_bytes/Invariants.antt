use Rattle.std.proofs.Common.{◌≡◌, map, drop}
use Rattle.qs_core.specs.TreeOf.{data_block_tree}
use Rattle.qs_core.specs.Units.{data_block}
use Rattle.qs_frames.specs.Starts.{start_of}
use Rattle.qs_emit.specs.Images.{data_bytes}
use Rattle.qs_compile.proofs.ByteLaws.{behind}
use Rattle.qs_compile.proofs.data.data_bytes.Given as goal

abbrev pub invariant-loop-block : goal.invariant-loop-block
invariant-loop-block l =
    behind (start_of l.starts) l.bytes.items (map data_block (map data_block_tree (drop l.block-index l.blocks)))
    ≡ data_bytes (start_of l.starts) (map data_block (map data_block_tree l.blocks))
