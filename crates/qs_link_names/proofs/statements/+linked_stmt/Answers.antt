use Rattle.std.proofs.Common.{◌≡◌, ◌++◌, map, sym, ap, ◌∙◌}
use Rattle.std.proofs.lemmas.List.{append-nil, at_drop_all}
use Rattle.qs_syntax.specs.Trees.{stmts_of}
use Rattle.qs_syntax.specs.TreeOf.{stmt_tree}
use Rattle.qs_link_names.specs.InternalOf.{internal_of}
use Rattle.qs_link_names.specs.Linkage.{Internal}
use Rattle.qs_link_names.proofs.ListLaws.{linked_items, stmts_linked}
use Rattle.qs_link_names.proofs.statements.+linked_stmt.Goals as goal

pub linked_stmts-returns : goal.linked_stmts-returns
linked_stmts-returns t c =
    let own : Internal = internal_of c.args.own.now in
    let given = map stmt_tree c.args.from.now in
    let made = map stmt_tree c.loop-s.to.items in
    let none = at_drop_all (λ ss. made ++ linked_items (internal_of c.loop-s.inner) (map stmt_tree ss)) c.args.from.now c.loop-s.s-index c.loop-s-test.false in
    let all : made ≡ linked_items own given = sym (append-nil made) ∙ (sym none ∙ c.loop-s.invariant.tree) in
    ap stmts_of all ∙ stmts_linked own given
