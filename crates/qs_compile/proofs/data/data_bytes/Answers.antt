use Rattle.std.proofs.Common.{◌≡◌, ℕ, ◌+◌, ◌-◌, List, ◌++◌, length, map, drop, sym, ap, ◌∙◌, arith}
use Rattle.std.specs.Prelude.{replicate}
use Rattle.qs_core.specs.declared.units.Piece.{Piece}
use Rattle.qs_core.specs.TreeOf.{piece_tree, data_block_tree}
use Rattle.qs_core.specs.Units.{data_block}
use Rattle.qs_memory.specs.Memory.{Memory}
use Rattle.qs_frames.specs.Starts.{start_of}
use Rattle.qs_frames.specs.Layout.{rounded}
use Rattle.qs_compile.specs.Bytes.{pieces_bytes}
use Rattle.qs_compile.proofs.ByteLaws.{behind, behind_nothing, behind_more, next_block}
use Rattle.qs_compile.proofs.data.data_bytes.Goals as goal

pub loop-block-init : goal.loop-block-init
loop-block-init c =
    let m = map data_block (map data_block_tree c.args.blocks.now) in
    ap (λ (xs : List ℕ). behind (start_of c.args.starts.now) xs m) c.new-bytes.ensures.items ∙ behind_nothing (start_of c.args.starts.now) m

pub loop-block-preserved : goal.loop-block-preserved
loop-block-preserved c =
    let address_of = start_of c.args.starts.now in
    let so_far = c.loop-block.bytes.items in
    let d = c.block-item.result in
    let rest = map data_block (map data_block_tree (drop (c.loop-block.block-index + 1) c.args.blocks.now)) in
    let long : c.len.result ≡ length so_far = omega arith in
    let gap : c.gap-gap.result ≡ rounded (length so_far) - length so_far = c.gap-gap.ensures ∙ ap (λ (n : ℕ). rounded n - n) long in
    let padded : c.put_zeros.new.bytes.items ≡ so_far ++ replicate (rounded (length so_far) - length so_far) 0 =
    c.in_ok-put_zeros.ensures ∙ ap (λ (n : ℕ). so_far ++ replicate n 0) gap in
    let more : c.put_pieces.new.bytes.items ≡ (so_far ++ replicate (rounded (length so_far) - length so_far) 0) ++ pieces_bytes address_of (map piece_tree d.pieces.items) =
    c.in_ok-put_pieces.ensures
    ∙ ap (λ (xs : List ℕ). xs ++ pieces_bytes address_of (map piece_tree c.deref.result.now)) padded
    ∙ ap (λ (ps : List Piece). (so_far ++ replicate (rounded (length so_far) - length so_far) 0) ++ pieces_bytes address_of (map piece_tree ps)) c.deref.ensures.value in
    behind_more address_of so_far c.put_pieces.new.bytes.items (data_block_tree d) rest more
    ∙ ap (λ (m : Memory). behind address_of so_far m) (sym (next_block c.args.blocks.now c.loop-block.block-index d c.block-item.is c.loop-block-test.true))
    ∙ c.loop-block.invariant
