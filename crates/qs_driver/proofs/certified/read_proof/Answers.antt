use Rattle.std.proofs.Common.{inl}
use Rattle.std.proofs.lemmas.Result.{err_from_is_err_and}
use Rattle.qs_driver.proofs.certified.read_proof.Goals as goal

pub returns-in_err-text-in-Some-clause-takes : goal.returns-in_err-text-in-Some-clause-takes
returns-in_err-text-in-Some-clause-takes g c =
    let p = err_from_is_err_and c.from_residual.result c.from_residual.ensures.1 in
    rw c.in-Some.is (rw (p.1, p.2) (inl c.in_err-text-in-Some.ensures.takes))
