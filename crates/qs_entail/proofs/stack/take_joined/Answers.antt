use Rattle.std.proofs.Common.{◌∙◌}
use Rattle.qs_entail.specs.Stacks.{attempt_of}
use Rattle.qs_entail.proofs.StackLaws.{joined_goes_on, drop_goes_on}
use Rattle.qs_entail.proofs.stack.take_joined.Goals as goal

pub loop-left-preserved-in_ok-so_far-2 : goal.loop-left-preserved-in_ok-so_far-2
loop-left-preserved-in_ok-so_far-2 c = record {
  value = c.loop-left.invariant.value ∙ joined_goes_on c.args.operation c.loop-left.left _ _ (attempt_of c.loop-left.so_far) _ _ c.loop-left-test.true c.take_first-item.ensures.left c.take_first-item.ensures.value c.in_ok-so_far-2.ensures;
  left = c.loop-left.invariant.left ∙ drop_goes_on c.loop-left.left _ _ c.loop-left-test.true c.take_first-item.ensures.left;
}

pub loop-left-preserved : goal.loop-left-preserved
loop-left-preserved c = record {
  value = c.loop-left.invariant.value ∙ joined_goes_on c.args.operation c.loop-left.left _ _ (attempt_of c.loop-left.so_far) _ _ c.loop-left-test.true c.take_first-item.ensures.left c.take_first-item.ensures.value c.in_ok-so_far-2.ensures;
  left = c.loop-left.invariant.left ∙ drop_goes_on c.loop-left.left _ _ c.loop-left-test.true c.take_first-item.ensures.left;
}
