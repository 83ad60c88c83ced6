use Rattle.std.proofs.Common.{ap, ◌∙◌}
use Rattle.std.specs.List.{list_all}
use Rattle.qs_assert.specs.Order.{is_among, node_known}
use Rattle.qs_assert.proofs.OrderLaws.{nodes_known}
use Rattle.qs_assert.proofs.order.names_known.Goals as goal

pub returns : goal.returns
returns c =
    c.nodes_known.ensures ∙ (ap (list_all (node_known (is_among c.args.earlier.now))) c.nodes.ensures ∙ nodes_known (is_among c.args.earlier.now) c.args.a.now)
