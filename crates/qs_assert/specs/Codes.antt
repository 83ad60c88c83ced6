-- A tree is stored as its nodes.
use Rattle.std.specs.Prelude.{List}
use Rattle.std.specs.Coded.{Coded, code_by, coded_list}
use Rattle.qs_assert.specs.contracts.node.TermNode.{the_row as term_node_row}
use Rattle.qs_assert.specs.contracts.node.Node.{the_row as node_row}
use Rattle.qs_assert.specs.declared.node.TermNode.{TermNode}
use Rattle.qs_assert.specs.declared.node.Node.{Node}
use Rattle.qs_assert.specs.Trees.{TermTree, CondTree, AssertionTree}
use Rattle.qs_assert.specs.Listing.{term_nodes, cond_nodes, assertion_nodes}
use Rattle.qs_assert.specs.Reading.{term_of, cond_of, assertion_of, term_of-nodes, cond_of-nodes, assertion_of-nodes}

abbrev pub term_code : Coded TermTree
term_code = code_by (List TermNode) (coded_list term_node_row.coded) term_nodes term_of term_of-nodes

abbrev pub cond_code : Coded CondTree
cond_code = code_by (List Node) (coded_list node_row.coded) cond_nodes cond_of cond_of-nodes

abbrev pub assertion_code : Coded AssertionTree
assertion_code = code_by (List Node) (coded_list node_row.coded) assertion_nodes assertion_of assertion_of-nodes
