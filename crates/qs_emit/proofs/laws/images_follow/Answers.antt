use Rattle.qs_emit.proofs.ImageLaws.{images_follow}
use Rattle.qs_emit.proofs.laws.images_follow.Goals as goal

pub returns : goal.returns
returns c u ps first image emittable memory is limits = images_follow u ps first image emittable memory is limits
