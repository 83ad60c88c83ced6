use Rattle.std.proofs.Common.{◌≡◌, ℕ, ◌+◌, List, map, ap, ◌∙◌}
use Rattle.qs_core.specs.declared.units.DataBlock.{DataBlock}
use Rattle.qs_core.specs.TreeOf.{data_block_tree}
use Rattle.qs_core.specs.Units.{data_block}
use Rattle.qs_frames.specs.Starts.{start_of}
use Rattle.qs_frames.specs.Layout.{offset}
use Rattle.qs_emit_selection.specs.Data.{data_sizes, data_address}
use Rattle.qs_emit.specs.Images.{data_bytes}
use Rattle.qs_compile.proofs.ByteLaws.{same_data}
use Rattle.qs_compile.proofs.building.bytes_of.Goals as goal

pub returns : goal.returns
returns c =
    let starts = c.in_ok-starts.starts in
    let sizes : c.deref-2.result.now ≡ data_sizes c.args.linear.now.data_blocks.items = c.deref-2.ensures.value ∙ c.in_ok-sizes.ensures ∙ ap data_sizes c.deref.ensures.value in
    c.in_ok-bytes.ensures
    ∙ ap (λ (ds : List DataBlock). data_bytes (start_of starts) (map data_block (map data_block_tree ds))) c.deref-3.ensures.value
    ∙ same_data (start_of starts) (data_address c.args.linear.now.data_blocks.items) (map data_block (map data_block_tree c.args.unit.now.data_blocks.items))
    (λ block. c.in_ok-starts.ensures.each block ∙ ap (λ (s : List ℕ). 268435456 + offset s block) sizes)
