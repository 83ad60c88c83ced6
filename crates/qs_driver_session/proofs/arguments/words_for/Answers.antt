use Rattle.std.proofs.Common.{◌≡◌, rules, refl, sym, ◌∙◌, pos, get_or, is_ok, true, SFits, w64, to_z-of_z}
use Rattle.qs_driver_session.specs.Arguments.{image_with, misfit}
use Rattle.qs_driver_session.proofs.ArgumentsLaws.{misfit_at, passed_more}
use Rattle.qs_driver_session.proofs.arguments.words_for.Goals as goal

pub returns-then-not-fits_parameter : goal.returns-then-not-fits_parameter
returns-then-not-fits_parameter c =
    let z = get_or c.args.args.now c.loop-i.i (pos 0) in
    let fits : SFits w64 z = search rules in
    misfit c.loop-i.i (search rules) (misfit_at (image_with c.args.parameters) c.args.args.now c.loop-i.i c.loop-i.words.items z (pos 0) refl c.loop-i-test.true (sym (rw (to_z-of_z fits) at c.fits_parameter.ensures) ∙ c.if-not-fits_parameter.true) c.loop-i.invariant) refl

pub loop-i-preserved : goal.loop-i-preserved
loop-i-preserved c =
    let z = get_or c.args.args.now c.loop-i.i (pos 0) in
    let fits : SFits w64 z = search rules in
    let ok : is_ok c.push.result ≡ true = search rules in
    rw (c.push.ensures.items, c.word_of.ensures, ok, to_z-of_z fits) (passed_more (image_with c.args.parameters) c.args.args.now c.loop-i.i c.loop-i.words.items z (pos 0) refl c.loop-i-test.true (sym (rw (to_z-of_z fits) at c.fits_parameter.ensures) ∙ c.if-not-fits_parameter.false) c.loop-i.invariant)
