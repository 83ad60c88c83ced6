use Rattle.std.proofs.Common.{◌≡◌, ◌++◌, map, sym, ap, ◌∙◌}
use Rattle.std.proofs.lemmas.List.{append-nil, at_drop_all}
use Rattle.qs_syntax.specs.Trees.{exprs_of}
use Rattle.qs_syntax.specs.TreeOf.{expr_tree}
use Rattle.qs_link_names.specs.InternalOf.{internal_of}
use Rattle.qs_link_names.specs.Linkage.{Internal}
use Rattle.qs_link_names.specs.LinkedExpressions.{linked_list}
use Rattle.qs_link_names.proofs.ListLaws.{exprs_linked}
use Rattle.qs_link_names.proofs.expressions.+linked_expr.Goals as goal

pub linked_exprs-returns-clause-tree : goal.linked_exprs-returns-clause-tree
linked_exprs-returns-clause-tree t c =
    let own : Internal = internal_of c.args.own.now in
    let given = map expr_tree c.args.from.now in
    let made = map expr_tree c.loop-e.to.items in
    let none = at_drop_all (λ es. made ++ linked_list own (map expr_tree es)) c.args.from.now c.loop-e.e-index c.loop-e-test.false in
    let all : made ≡ linked_list own given = sym (append-nil made) ∙ (sym none ∙ c.loop-e.invariant.tree) in
    ap exprs_of all ∙ exprs_linked own given
