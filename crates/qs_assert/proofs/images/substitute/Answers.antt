use Rattle.std.proofs.Common.{ap, List, [], ◌∷◌}
use Rattle.qs_assert.specs.declared.images.Image.{Image}
use Rattle.qs_assert.specs.Trees.{TermTree}
use Rattle.qs_assert.proofs.Agreement.{one_replaced, value_after}
use Rattle.qs_assert.proofs.images.substitute.Goals as goal

pub returns-clause-value : goal.returns-clause-value
returns-clause-value c =
    let listed : TermTree → List Image = λ u. record { variable = c.args.x.now; term = u } ∷ [] in
    value_after c.args.x.now c.args.t.now c.args.a.now c.in_ok-replaced.replaced
    (one_replaced _ c.args.x.now c.args.t.now c.args.a.now _ (ap listed c.in_ok-copy.ensures) c.in_ok-replaced.ensures)
