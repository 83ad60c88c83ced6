use Rattle.std.specs.Prelude.{◌*ℤ◌}
use Rattle.std.specs.Int.{w128}
use Rattle.std.proofs.lemmas.Int.{to_z-of_z}
use Rattle.qs_poly.proofs.Bounds.{product_fits}
use Rattle.qs_poly.proofs.terms.times.Goals as goal

pub overflow_mul-result : goal.overflow_mul-result
overflow_mul-result c =
    let s = product_fits c.args.a c.args.b c.requires.a_small c.requires.b_small in
    rw (to_z-of_z w128 c.args.a c.ranges.a, to_z-of_z w128 c.args.b c.ranges.b) s

pub returns : goal.returns
returns c =
    let s = product_fits c.args.a c.args.b c.requires.a_small c.requires.b_small in
    rw (to_z-of_z w128 c.args.a c.ranges.a, to_z-of_z w128 c.args.b c.ranges.b) (to_z-of_z w128 (c.args.a *ℤ c.args.b) s)
