use Rattle.std.proofs.Common.{arith, ℕ, sym, subst, ◌∙◌}
use Rattle.qs_image.specs.Image.{IsWellFormed, IsImage}
use Rattle.qs_image.proofs.Words.{IsBytes-from}
use Rattle.qs_image.proofs.Wholes.{is_image}
use Rattle.qs_image.proofs.Images.{reads, no_image}
use Rattle.qs_image.proofs.reading.read.Goals as goal

pub invariant_of-result : goal.invariant_of-result
invariant_of-result c =
    let fits = IsBytes-from c.args.bytes.now (λ (i : ℕ). omega (arith, c.type_inv.bytes i)) in
    subst IsWellFormed (sym c.in_ok-sections.ensures.1) (is_image c.args.bytes.now fits c.in_ok-sections.ensures.0).well_formed

pub returns-clause-image : goal.returns-clause-image
returns-clause-image c =
    let fits = IsBytes-from c.args.bytes.now (λ (i : ℕ). omega (arith, c.type_inv.bytes i)) in
    subst (IsImage c.args.bytes.now) (sym c.in_ok-sections.ensures.1) (is_image c.args.bytes.now fits c.in_ok-sections.ensures.0)

pub returns-clause-accepts : goal.returns-clause-accepts
returns-clause-accepts c = λ image is. c.in_ok-sections.ensures.1 ∙ (reads c.args.bytes.now image is).1

pub returns-in_err-sections-clause-accepts : goal.returns-in_err-sections-clause-accepts
returns-in_err-sections-clause-accepts c = λ image is. absurd (no_image c.args.bytes.now _ image c.in_err-sections.ensures is)
