use Rattle.std.proofs.Common.{rules, ◌≡◌, None, ap, ◌∙◌, sym}
use Rattle.std.specs.Int.{w128}
use mir.Val.{of_z}
use Rattle.qs_assert.proofs.WidthLaws.{wide_product}
use Rattle.qs_assert.proofs.numbers.known_product.Goals as goal

pub returns-in_err-product : goal.returns-in_err-product
returns-in_err-product c = λ y e.
    let wide : c.args.product ≡ None = search rules in
    let answer : c.from_residual.result ≡ None = search rules in
    answer ∙ wide_product c.args.x y (λ h. c.if-x-eq0.false (ap (of_z w128) h)) (sym wide ∙ e)
