use Rattle.std.proofs.Common.{◌∙◌, ◌++◌, ℕ, List, ap, add-one, append_assoc}
use Rattle.qs_driver_session.specs.SampleSource.{function_after, functions}
use Rattle.qs_driver_session.proofs.sample_source.put_functions.Goals as goal

pub loop-before-preserved : goal.loop-before-preserved
loop-before-preserved c =
    rw (add-one c.loop-before.before)
    (c.in_ok-put_function.ensures
    ∙ ap (λ (xs : List ℕ). xs ++ function_after c.loop-before.before) c.loop-before.invariant
    ∙ append_assoc c.args.text.now.items (functions c.loop-before.before) (function_after c.loop-before.before))
