use Rattle.std.proofs.Common.{option_map}
use Rattle.qs_syntax.specs.TreeOf.{start_tree, stmt_tree, stmts_tree}
use Rattle.qs_types.specs.TypeOf.{type_tree}
use Rattle.qs_typing_findings.specs.ContextOf.{around_tree, context_tree}
use Rattle.qs_typing_findings.proofs.ScopeEnds.{part_ends, part_leaves, block_ends, block_leaves, switch_ends, switch_leaves, body_ends, body_leaves, for_ends, for_leaves}
use Rattle.qs_typing.proofs.statements.+stmt.Goals as goal

-- ---- a part of a statement

pub walk_part-leave_scope-requires : goal.walk_part-leave_scope-requires
walk_part-leave_scope-requires t c =
    part_leaves (context_tree c.args.c.now) (context_tree c.enter_scope-around.new.self) (context_tree c.walk_statement.new.c) (around_tree c.enter_scope-around.result) (stmt_tree c.args.s.now)
    c.enter_scope-around.ensures.around c.enter_scope-around.ensures.inside c.in_ok-walk_statement.ensures.context

pub walk_part-returns-clause-context : goal.walk_part-returns-clause-context
walk_part-returns-clause-context t c =
    part_ends (context_tree c.args.c.now) (context_tree c.enter_scope-around.new.self) (context_tree c.walk_statement.new.c) (context_tree c.leave_scope.new.self)
    (around_tree c.enter_scope-around.result) (stmt_tree c.args.s.now)
    c.enter_scope-around.ensures.around c.enter_scope-around.ensures.inside c.in_ok-walk_statement.ensures.context c.leave_scope.ensures

-- ---- a block

pub walk_block-leave_scope-requires : goal.walk_block-leave_scope-requires
walk_block-leave_scope-requires t c =
    block_leaves (context_tree c.args.c.now) (context_tree c.enter_scope-around.new.self) (context_tree c.walk_statements.new.c) (around_tree c.enter_scope-around.result) (stmts_tree c.args.items.now)
    c.enter_scope-around.ensures.around c.enter_scope-around.ensures.inside c.in_ok-walk_statements.ensures.context

pub walk_block-returns-clause-context : goal.walk_block-returns-clause-context
walk_block-returns-clause-context t c =
    block_ends (context_tree c.args.c.now) (context_tree c.enter_scope-around.new.self) (context_tree c.walk_statements.new.c) (context_tree c.leave_scope.new.self)
    (around_tree c.enter_scope-around.result) (stmts_tree c.args.items.now)
    c.enter_scope-around.ensures.around c.enter_scope-around.ensures.inside c.in_ok-walk_statements.ensures.context c.leave_scope.ensures

-- ---- the block of a switch

pub walk_switch-leave_scope-requires : goal.walk_switch-leave_scope-requires
walk_switch-leave_scope-requires t c =
    switch_leaves (context_tree c.args.c.now) (context_tree c.enter_scope-around.new.self) (context_tree c.enter_switch.new.self) (context_tree c.walk_statements.new.c)
    (around_tree c.enter_scope-around.result) (option_map type_tree c.in_ok-t.t) (stmts_tree c.args.items.now)
    c.enter_scope-around.ensures.around c.enter_scope-around.ensures.inside c.enter_switch.ensures c.in_ok-walk_statements.ensures.context

pub walk_switch-returns-clause-context : goal.walk_switch-returns-clause-context
walk_switch-returns-clause-context t c =
    switch_ends (context_tree c.args.c.now) (context_tree c.enter_scope-around.new.self) (context_tree c.enter_switch.new.self) (context_tree c.walk_statements.new.c) (context_tree c.leave_scope.new.self)
    (around_tree c.enter_scope-around.result) (option_map type_tree c.in_ok-t.t) (stmts_tree c.args.items.now)
    c.enter_scope-around.ensures.around c.enter_scope-around.ensures.inside c.enter_switch.ensures c.in_ok-walk_statements.ensures.context c.leave_scope.ensures

-- ---- the body of a loop

pub walk_body-leave_scope-requires : goal.walk_body-leave_scope-requires
walk_body-leave_scope-requires t c =
    body_leaves (context_tree c.args.c.now) (context_tree c.enter_scope-around.new.self) (context_tree c.enter_loop.new.self) (context_tree c.walk_statement.new.c)
    (around_tree c.enter_scope-around.result) (stmt_tree c.args.s.now)
    c.enter_scope-around.ensures.around c.enter_scope-around.ensures.inside c.enter_loop.ensures c.in_ok-walk_statement.ensures.context

pub walk_body-returns-clause-context : goal.walk_body-returns-clause-context
walk_body-returns-clause-context t c =
    body_ends (context_tree c.args.c.now) (context_tree c.enter_scope-around.new.self) (context_tree c.enter_loop.new.self) (context_tree c.walk_statement.new.c) (context_tree c.leave_scope.new.self)
    (around_tree c.enter_scope-around.result) (stmt_tree c.args.s.now)
    c.enter_scope-around.ensures.around c.enter_scope-around.ensures.inside c.enter_loop.ensures c.in_ok-walk_statement.ensures.context c.leave_scope.ensures

-- ---- statements

pub walk_for-leave_scope-requires : goal.walk_for-leave_scope-requires
walk_for-leave_scope-requires t c =
    for_leaves (context_tree c.args.c.now) (context_tree c.enter_scope-around.new.self) (context_tree c.walk_start.new.c) (context_tree c.walk_body.new.c)
    (around_tree c.enter_scope-around.result) (start_tree c.args.start.now)
    c.enter_scope-around.ensures.around c.enter_scope-around.ensures.inside c.in_ok-start_typed.ensures.context c.in_ok-walk_body.ensures.context

pub walk_for-returns-clause-context : goal.walk_for-returns-clause-context
walk_for-returns-clause-context t c =
    for_ends (context_tree c.args.c.now) (context_tree c.enter_scope-around.new.self) (context_tree c.walk_start.new.c) (context_tree c.walk_body.new.c) (context_tree c.leave_scope.new.self)
    (around_tree c.enter_scope-around.result) (start_tree c.args.start.now)
    c.enter_scope-around.ensures.around c.enter_scope-around.ensures.inside c.in_ok-start_typed.ensures.context c.in_ok-walk_body.ensures.context c.leave_scope.ensures
