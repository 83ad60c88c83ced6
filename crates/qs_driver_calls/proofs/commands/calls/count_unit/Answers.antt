use Rattle.std.proofs.lemmas.Result.{err_from_is_err_and}
use Rattle.qs_typing_findings.specs.TypedOf.{typed_tree}
use Rattle.qs_driver_calls.proofs.CallsLaws.{has_core, few_parameters, no_core_ends, no_proofs, no_arguments, no_count, was_counted}
use Rattle.qs_driver_calls.proofs.commands.calls.count_unit.Goals as goal

pub fit_main-requires : goal.fit_main-requires
fit_main-requires c = few_parameters c.args.typed.now _ c.in_ok-core.ensures

pub returns-in_err-core : goal.returns-in_err-core
returns-in_err-core c =
    let p = err_from_is_err_and c.from_residual.result c.from_residual.ensures.1 in
    λ w v e. rw (p.1, p.2) (no_core_ends w (typed_tree c.args.typed.now) c.args.text.now v)

pub returns-in_err-proofs : goal.returns-in_err-proofs
returns-in_err-proofs c =
    let p = err_from_is_err_and c.from_residual-in_err-proofs.result c.from_residual-in_err-proofs.ensures.1 in
    λ w v e. rw (p.1, p.2) (no_proofs w (typed_tree c.args.typed.now) c.args.text.now v _ (has_core c.args.typed.now _ c.in_ok-core.ensures) _ (c.in_err-proofs.ensures v))

pub returns-in_err-fit_main : goal.returns-in_err-fit_main
returns-in_err-fit_main c =
    let p = err_from_is_err_and c.from_residual-in_err-fit_main.result c.from_residual-in_err-fit_main.ensures.1 in
    λ w v e. rw (p.1, p.2) (no_arguments w (typed_tree c.args.typed.now) c.args.text.now v _ (has_core c.args.typed.now _ c.in_ok-core.ensures) _ (c.in_ok-proofs.ensures v) _ (rw e c.in_err-fit_main.ensures))

pub returns-in_err-bound : goal.returns-in_err-bound
returns-in_err-bound c =
    let p = err_from_is_err_and c.from_residual-in_err-bound.result c.from_residual-in_err-bound.ensures.1 in
    λ w v e. rw (p.1, p.2) (no_count w (typed_tree c.args.typed.now) c.args.text.now v _ (has_core c.args.typed.now _ c.in_ok-core.ensures) _ (c.in_ok-proofs.ensures v) (rw e c.in_ok-fit_main.ensures))

pub returns : goal.returns
returns c = λ w v e. was_counted w (typed_tree c.args.typed.now) c.args.text.now v _ (has_core c.args.typed.now _ c.in_ok-core.ensures) _ (c.in_ok-proofs.ensures v) (rw e c.in_ok-fit_main.ensures) _ (rw e c.in_ok-bound.ensures)
