use Rattle.std.proofs.Common.{rules, ◌≡◌, Some, None, sym, ◌∙◌}
use Rattle.std.specs.List.{slice_get}
use Rattle.qs_types.proofs.StructLayouts.{item}
use Rattle.qs_typed_nodes.proofs.Entries.{there, not_there}
use Rattle.qs_typed_nodes.proofs.known.referent_in.Goals as goal

pub returns : goal.returns
returns c =
    let at : slice_get c.args.referents.now c.args.node ≡ Some c.in_ok-get.field-0.now =
    sym (item c.args.referents.now c.args.node (Some c.in_ok-get.field-0) c.in_ok-get.ensures.lookup) in
    there c.args.referents.now c.args.node c.in_ok-get.field-0.now at

pub returns-in_err-get : goal.returns-in_err-get
returns-in_err-get c =
    let at : slice_get c.args.referents.now c.args.node ≡ None = sym (item c.args.referents.now c.args.node None c.in_err-get.ensures.lookup) in
    let none : c.from_residual.result ≡ None = search rules in
    none ∙ not_there c.args.referents.now c.args.node at
