use Rattle.qs_driver_session.specs.Arguments.{image_with}
use Rattle.qs_driver_session.proofs.ArgumentsLaws.{Passed}
use Rattle.qs_driver_session.proofs.arguments.words_for.Given as goal

abbrev pub invariant-loop-i : goal.invariant-loop-i
invariant-loop-i l = Passed (image_with l.fn.parameters) l.fn.args l.i l.words.items
