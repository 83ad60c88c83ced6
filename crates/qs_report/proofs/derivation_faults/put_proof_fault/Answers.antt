use Rattle.std.proofs.Common.{codes, ◌∷◌, []}
use Rattle.std.proofs.lemmas.Result.{err_from_is_err_and}
use Rattle.qs_report.specs.Words.{spot_text, proof_text}
use Rattle.qs_report.specs.Lines.{line}
use Rattle.qs_report.proofs.PartsLaws.{named_cut, named_put}
use Rattle.qs_report.proofs.derivation_faults.put_proof_fault.Goals as goal

pub returns-in_err-put_parts : goal.returns-in_err-put_parts
returns-in_err-put_parts g c =
    let p = err_from_is_err_and c.from_residual.result c.from_residual.ensures.1 in
    rw p.1 (named_cut c.args.file.now c.args.name.now (line (spot_text c.args.spot.now ∷ codes ": " ∷ proof_text c.args.text.now ∷ [])) _ _ c.in_err-put_parts.field-0.0 p.0 c.in_err-put_parts.ensures)

pub returns : goal.returns
returns g c = named_put c.args.file.now c.args.name.now (line (spot_text c.args.spot.now ∷ codes ": " ∷ proof_text c.args.text.now ∷ [])) _ _ _ _ c.in_ok-put_parts.ensures c.put_place.ensures
