use Rattle.std.proofs.Common.{sym, ◌∙◌, option_map}
use Rattle.qs_syntax.specs.TreeOf.{expr_tree}
use Rattle.qs_types.specs.TypeOf.{type_tree}
use Rattle.qs_typing_findings.specs.ContextOf.{context_tree}
use Rattle.qs_typing_findings.specs.WalkOf.{walk_tree}
use Rattle.qs_typing.proofs.WatchedExpressions.{broken_is, watched_is, is_some_fault}
use Rattle.qs_typing.proofs.variables.walk_watched.Goals as goal

pub returns-clause-broken : goal.returns-clause-broken
returns-clause-broken c =
    c.is_some-is_broken.ensures ∙ sym (is_some_fault c.walk_value.new.walk.found.least)
    ∙ broken_is (context_tree c.args.c.now) c.args.at_file_scope (option_map (λ t. type_tree t.now) c.args.t) (expr_tree c.args.e.now) (walk_tree c.args.walk.now) (walk_tree c.walk_value.new.walk) c.in_ok-fit.ensures.walked

pub returns-clause-walked : goal.returns-clause-walked
returns-clause-walked c =
    watched_is (context_tree c.args.c.now) c.args.at_file_scope (option_map (λ t. type_tree t.now) c.args.t) (expr_tree c.args.e.now) (walk_tree c.args.walk.now) (walk_tree c.walk_value.new.walk) (walk_tree c.join.new.self)
    c.in_ok-fit.ensures.walked c.join.ensures
