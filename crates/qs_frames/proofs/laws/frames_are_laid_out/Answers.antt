use Rattle.qs_frames.proofs.FrameLaws.{frames_are_laid_out}
use Rattle.qs_frames.proofs.laws.frames_are_laid_out.Goals as goal

pub returns : goal.returns
returns c f p = frames_are_laid_out f p
