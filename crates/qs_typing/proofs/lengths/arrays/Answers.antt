use Rattle.std.proofs.Common.{◌∙◌, arith}
use Rattle.qs_typing.proofs.DeclarationTypes.{arrays_step}
use Rattle.qs_typing.proofs.lengths.arrays.Goals as goal

pub loop-i-preserved : goal.loop-i-preserved
loop-i-preserved c = record {
  left = omega arith;
  arrays = c.loop-i.invariant.arrays ∙ arrays_step c.loop-i.t c.in_ok-new.field-0 c.args.lengths.now c.loop-i.i (omega arith) (omega arith) c.in_ok-new.ensures.ok;
}
