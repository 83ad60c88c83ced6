use Rattle.std.proofs.Common.{refl}
use Rattle.std.proofs.lemmas.Result.{err_from_is_err_and}
use Rattle.qs_cli.specs.Commands.{calls_words}
use Rattle.qs_driver_calls.proofs.CallsLaws.{no_source, no_proof_file, behind_files}
use Rattle.qs_driver_calls.proofs.commands.calls.count_file.Goals as goal

pub returns-in_err-typed : goal.returns-in_err-typed
returns-in_err-typed g c =
    let p = err_from_is_err_and c.from_residual.result c.from_residual.ensures.1 in
    rw (p.1, p.2) (no_source (calls_words c.args.source.now c.args.proof.now c.args.args.now) _ _ _ c.in_err-typed.ensures.takes)

pub returns-in_err-text : goal.returns-in_err-text
returns-in_err-text g c =
    let p = err_from_is_err_and c.from_residual-in_err-text.result c.from_residual-in_err-text.ensures.1 in
    rw (p.1, p.2) (no_proof_file (calls_words c.args.source.now c.args.proof.now c.args.args.now) _ _ _ c.in_ok-typed.ensures.takes _ _ c.in_err-text.ensures.takes)

pub returns : goal.returns
returns g c =
    let ends = rw c.deref.ensures.value at c.count_unit.ensures in
    behind_files (calls_words c.args.source.now c.args.proof.now c.args.args.now) _ _ _ c.in_ok-typed.ensures.takes _ _ c.in_ok-text.ensures.takes _
    (ends (calls_words c.args.source.now c.args.proof.now c.args.args.now) _ refl)
