use Rattle.qs_elaborate_bodies.proofs.ActingLaws.{acts_exactly}
use Rattle.qs_elaborate_laws.proofs.laws.acts_exactly.Goals as goal

pub returns : goal.returns
returns c = acts_exactly
