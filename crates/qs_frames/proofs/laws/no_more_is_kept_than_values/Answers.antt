use Rattle.qs_frames.proofs.FrameLaws.{no_more_is_kept}
use Rattle.qs_frames.proofs.laws.no_more_is_kept_than_values.Goals as goal

pub returns : goal.returns
returns c f p h = no_more_is_kept f p h
