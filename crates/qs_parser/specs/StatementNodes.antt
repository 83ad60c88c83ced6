-- Nodes of statements that are read, not yet numbered, each with its first token.
use Rattle.std.specs.Prelude.{ℕ, List, Option, Box}
use Rattle.std.specs.declared.alloc.Global.{Global}
use Rattle.qs_syntax.specs.declared.expressions.Expr.{Expr}
use Rattle.qs_syntax.specs.declared.statements.Start.{Start}
use Rattle.qs_syntax.specs.declared.statements.Stmt.{Stmt}
use Rattle.qs_syntax.specs.Trees.{unnumbered, StmtTree, stmts_of, switch, branch, while_loop, do_loop, for_loop}
use Rattle.qs_syntax.specs.TreeOf.{expr_tree, option_tree, start_tree, else_tree}
use Rattle.qs_parser.specs.UnitView.{boxed_stmt}

abbrev pub switch_tree : ℕ → Expr → List StmtTree → StmtTree
switch_tree token operand items = switch (unnumbered token) (expr_tree operand) (stmts_of items)

-- `if`, with what follows `else`, and the loops
abbrev pub branch_tree : ℕ → Expr → Box Stmt Global → Option (Box Stmt Global) → StmtTree
branch_tree token condition then otherwise = branch (unnumbered token) (expr_tree condition) (boxed_stmt then) (else_tree otherwise)

abbrev pub while_tree : ℕ → Expr → Box Stmt Global → StmtTree
while_tree token condition body = while_loop (unnumbered token) (expr_tree condition) (boxed_stmt body)

abbrev pub do_tree : ℕ → Box Stmt Global → Expr → StmtTree
do_tree token body condition = do_loop (unnumbered token) (boxed_stmt body) (expr_tree condition)

abbrev pub for_tree : ℕ → Start → Option Expr → Option Expr → Box Stmt Global → StmtTree
for_tree token start condition step body = for_loop (unnumbered token) (start_tree start) (option_tree condition) (option_tree step) (boxed_stmt body)
