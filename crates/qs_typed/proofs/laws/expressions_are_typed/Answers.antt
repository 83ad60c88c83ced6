use Rattle.qs_typed.proofs.TiedExpressions.{typed_kept}
use Rattle.qs_typed.proofs.laws.expressions_are_typed.Goals as goal

pub returns : goal.returns
returns c = λ k s e h. typed_kept k s h.0 h.1.0 e h.1.1
