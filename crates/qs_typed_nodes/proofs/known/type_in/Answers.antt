use Rattle.std.proofs.Common.{rules, ◌≡◌, Some, None, option_map, sym, ap, ◌∙◌}
use Rattle.std.specs.List.{slice_get}
use Rattle.qs_types.specs.TypeOf.{type_tree}
use Rattle.qs_types.proofs.StructLayouts.{item}
use Rattle.qs_typed_nodes.specs.TypesOf.{lent_type}
use Rattle.qs_typed_nodes.proofs.Entries.{seen, type_there, no_type_there}
use Rattle.qs_typed_nodes.proofs.known.type_in.Goals as goal

pub returns : goal.returns
returns c =
    let at : slice_get c.args.types.now c.args.node ≡ Some c.in_ok-get.field-0.now =
    sym (item c.args.types.now c.args.node (Some c.in_ok-get.field-0) c.in_ok-get.ensures.lookup) in
    seen c.as_ref.result ∙ ap (option_map type_tree) c.as_ref.ensures.value ∙ type_there c.args.types.now c.args.node c.in_ok-get.field-0.now at

pub returns-in_err-get : goal.returns-in_err-get
returns-in_err-get c =
    let at : slice_get c.args.types.now c.args.node ≡ None = sym (item c.args.types.now c.args.node None c.in_err-get.ensures.lookup) in
    let none : c.from_residual.result ≡ None = search rules in
    ap (option_map lent_type) none ∙ no_type_there c.args.types.now c.args.node at
