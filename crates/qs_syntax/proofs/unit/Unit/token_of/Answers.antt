use Rattle.std.proofs.Common.{◌≡◌, Some, ap, sym, ◌∙◌, arith}
use Rattle.std.specs.List.{slice_get}
use Rattle.std.proofs.lemmas.Grind.{common_steps}
use Rattle.std.proofs.lemmas.Option.{gets}
use Rattle.qs_syntax.proofs.UnitLaws.{count_of_unit, node_of_unit}
use Rattle.qs_syntax.proofs.unit.Unit.token_of.Goals as goal

pub returns : goal.returns
returns c =
    let there : slice_get c.args.self.now.tokens.items c.args.node ≡ Some c.index.result.now = grind (arith, common_steps, gets, c.index.ensures, c.requires, count_of_unit c.args.self.now) in
    node_of_unit c.args.self.now c.args.node c.index.result.now (ap (λ l. slice_get l c.args.node) (sym c.args.self.now.known) ∙ there)
