use Rattle.std.proofs.Common.{ap, inl, inr, Err, ◌∙◌}
use Rattle.std.proofs.lemmas.Result.{err_from_is_err_and}
use Rattle.qs_driver_session.proofs.starting.loaded.Goals as goal

pub returns-in_err-bytes : goal.returns-in_err-bytes
returns-in_err-bytes c =
    let p = err_from_is_err_and c.from_residual.result c.from_residual.ensures.1 in
    inl (p.1 ∙ ap Err p.2)

pub returns : goal.returns
returns c = inr (record {
  bytes = c.in_ok-bytes.bytes.items;
  is_image = c.in_ok-bytes.ensures;
  loads = rw c.deref.ensures.value at c.load_bytes.ensures;
})
