use Rattle.std.proofs.Common.{◌≡◌, ◌++◌}
use Rattle.qs_isa.specs.Registers.{x0, a5}
use Rattle.qs_isa.specs.declared.instruction.StoreKind.TheVariants.{Sb}
use Rattle.qs_asm.specs.Items.{plain}
use Rattle.qs_emit_selection.specs.Pieces as pieces
use Rattle.qs_emit_selection.specs.Pieces.{zero_bytes}
use Rattle.qs_emit_selection.proofs.PieceLaws.{zero_goes_on}
use Rattle.qs_emit_selection.proofs.pieces.put_zero_bytes.Goals as goal

pub loop-offset-preserved : goal.loop-offset-preserved
loop-offset-preserved c =
    let is : c.store.result ≡ pieces.store Sb x0 a5 c.loop-offset.offset = cc (c.store.ensures, c.below.ensures) in
    zero_goes_on c.loop-offset.items.items c.put.new.items.items (c.args.items.now.items ++ plain (zero_bytes c.args.count 0)) c.args.count
    c.loop-offset.offset c.store.result c.loop-offset-test.true is c.in_ok-put.ensures c.loop-offset.invariant
