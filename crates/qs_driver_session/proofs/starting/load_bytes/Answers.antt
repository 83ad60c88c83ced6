use Rattle.std.proofs.Common.{refl}
use Rattle.std.proofs.lemmas.Result.{err_from_is_err_and}
use Rattle.qs_driver_session.specs.Starting.{bad_image, no_words, too_large}
use Rattle.qs_driver_session.proofs.starting.load_bytes.Goals as goal

pub returns-in_err-image : goal.returns-in_err-image
returns-in_err-image c =
    let p = err_from_is_err_and c.from_residual.result c.from_residual.ensures.1 in
    rw p.1 (bad_image _ c.in_err-image.ensures.fault p.2)

pub returns-in_err-args : goal.returns-in_err-args
returns-in_err-args c =
    let p = err_from_is_err_and c.from_residual-in_err-args.result c.from_residual-in_err-args.ensures.1 in
    rw (p.1, p.2) (no_words _ c.in_ok-image.ensures.image c.in_err-args.ensures)

pub returns-in-Ok : goal.returns-in-Ok
returns-in-Ok c = record {
  image = c.in_ok-image.image;
  is_image = c.in_ok-image.ensures.image;
  can_run = record { arguments = c.in_ok-args.ensures.arguments; small = c.in-Ok.ensures.loads.small };
  none_taken = c.in-Ok.ensures.fresh;
  stands = rw (c.deref.ensures.value, c.in_ok-args.ensures.words_are) at c.in-Ok.ensures.start;
}

pub returns-in-Err-StackTooLarge : goal.returns-in-Err-StackTooLarge
returns-in-Err-StackTooLarge c = too_large _ c.in_ok-image.ensures.image c.in_ok-args.ensures.arguments (rw c.in-Err-StackTooLarge.field-0-is at c.in-Err-StackTooLarge.ensures.fault) refl
