use Rattle.qs_assert.specs.Simultaneous.{images}
use Rattle.qs_assert.proofs.Agreement.{all_there, one_missing}
use Rattle.qs_assert.proofs.VariableLaws.{told_missing}
use Rattle.qs_assert.proofs.images.substitute_all.Goals as goal

pub returns-in-Some : goal.returns-in-Some
returns-in-Some c =
    one_missing c.args.list.now c.args.others c.args.a.now c.in-Some.x (told_missing (images c.args.list.now c.args.others) c.args.a.now _ _ c.in-Some.ensures c.nodes.ensures)

pub returns-in_ok-with_images-in-None : goal.returns-in_ok-with_images-in-None
returns-in_ok-with_images-in-None c =
    all_there c.args.list.now c.args.others c.args.a.now _ c.in_ok-with_images-in-None.ensures (told_missing (images c.args.list.now c.args.others) c.args.a.now _ _ c.in-None.ensures c.nodes.ensures)
