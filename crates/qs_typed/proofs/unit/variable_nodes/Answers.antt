use Rattle.std.proofs.Common.{◌≡◌, IfOk, map, ap, ◌∙◌, subst}
use Rattle.qs_typing_findings.specs.TypedOf.{typed_tree}
use Rattle.qs_typed_units.specs.TablesOf.{numbers, tables_tree}
use Rattle.qs_typed.specs.UnitVariables.{variables_known}
use Rattle.qs_typed.proofs.UnitTrees.{is_numbered}
use Rattle.qs_typed.proofs.UnitWhole.{variables_are}
use Rattle.qs_typed.proofs.unit.variable_nodes.Goals as goal

pub returns : goal.returns
returns c =
    let unit = typed_tree c.args.typed.now in
    let n = is_numbered c.args.typed.now in
    let t = tables_tree c.in_ok-t.t in
    subst (λ xs. IfOk c.variables.result (λ vs. map numbers vs.items ≡ xs))
    (ap (variables_known t) (c.declarations.ensures ∙ c.unit.ensures) ∙ variables_are unit n.well_typed n.types n.referents t c.in_ok-t.ensures) c.variables.ensures
