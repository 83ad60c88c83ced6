use Rattle.std.proofs.Common.{refl}
use Rattle.std.proofs.lemmas.Result.{err_from_is_err_and}
use Rattle.qs_core.specs.UnitTrees.{unit_tree}
use Rattle.qs_driver.specs.Certified.{cannot_certify, lacks_memory}
use Rattle.qs_driver.proofs.certified.certify_typed.Goals as goal

pub returns-in_err-core : goal.returns-in_err-core
returns-in_err-core c =
    let p = err_from_is_err_and c.from_residual.result c.from_residual.ensures.1 in
    rw p.1 (lacks_memory p.2)

pub returns-in-Ok : goal.returns-in-Ok
returns-in-Ok c = record { unit_is = refl; core_is = c.in_ok-core.ensures; certified = c.in-Ok.ensures.certified }

pub returns-in-Err : goal.returns-in-Err
returns-in-Err c = cannot_certify (unit_tree c.in_ok-core.core) c.in-Err.fault c.in_ok-core.ensures c.in-Err.ensures.fault c.proofs_told.ensures
