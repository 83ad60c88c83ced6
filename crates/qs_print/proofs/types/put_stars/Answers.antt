use Rattle.qs_print.proofs.Spaces.{stars_more}
use Rattle.qs_print.proofs.types.put_stars.Goals as goal

pub loop-star-preserved : goal.loop-star-preserved
loop-star-preserved c = stars_more c.loop-star._star c.loop-star.invariant c.in_ok-put_punctuator.ensures
