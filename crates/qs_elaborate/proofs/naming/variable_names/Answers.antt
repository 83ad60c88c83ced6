use Rattle.std.proofs.Common.{◌≡◌, [], map, get_or, ap, sym, refl, ◌∙◌}
use Rattle.qs_elaborate_bodies.specs.Names.{name_at}
use Rattle.qs_elaborate.specs.NamesOf.{variable_name_of}
use Rattle.qs_elaborate.specs.DeclaredOf.{declared_of}
use Rattle.qs_elaborate.specs.Naming.{name_or_none}
use Rattle.qs_elaborate.proofs.NamesByNode.{name_at_is, named_more}
use Rattle.qs_elaborate.proofs.naming.variable_names.Goals as goal

pub loop-node-preserved : goal.loop-node-preserved
loop-node-preserved c =
    let ds = map declared_of c.args.declared.now in
    let nodes = c.args.nodes.now in
    let i = c.loop-node.node-index in
    let node = get_or nodes i 0 in
    let named : variable_name_of c.in_ok-name_of.field-0 ≡ name_at node [] ds =
    c.in_ok-name_of.ensures ∙ ap name_or_none (c.in_ok-names.ensures node) ∙ sym (name_at_is node [] ds refl) in
    ap (map variable_name_of) c.in_ok-push.ensures.items
    ∙ named_more variable_name_of ds nodes i c.loop-node.variables.items c.in_ok-name_of.field-0 c.loop-node-test.true c.loop-node.invariant named
