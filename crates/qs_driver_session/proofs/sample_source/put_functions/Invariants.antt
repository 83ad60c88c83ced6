use Rattle.std.proofs.Common.{◌≡◌, ◌++◌}
use Rattle.qs_driver_session.specs.SampleSource.{functions}
use Rattle.qs_driver_session.proofs.sample_source.put_functions.Given as goal

abbrev pub invariant-loop-before : goal.invariant-loop-before
invariant-loop-before l = l.text.items ≡ l.initial.text.items ++ functions l.before
