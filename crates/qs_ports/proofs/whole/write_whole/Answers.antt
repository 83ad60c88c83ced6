use Rattle.std.proofs.Common.{arith}
use Rattle.std.proofs.lemmas.Slice.{between_to_end}
use Rattle.qs_ports.proofs.Wholes.{write_starts, write_goes_on}
use Rattle.qs_ports.proofs.whole.write_whole.Goals as goal

pub loop-done-init : goal.loop-done-init
loop-done-init g c = write_starts c.args.bytes.now c.in_ok-create.ensures.answers

pub loop-done-preserved : goal.loop-done-preserved
loop-done-preserved g c =
    write_goes_on _ (between_to_end c.args.bytes.now c.loop-done.done _ (omega arith)) c.loop-done.invariant c.in_ok-done.ensures
