use Rattle.std.proofs.Common.{◌≡◌, ℕ, ◌+◌, ◌*◌, max, Option, Some, None, Box, Global, drop}
use Rattle.qs_syntax.specs.declared.statements.Stmt.{Stmt, size-Stmt}
use Rattle.qs_syntax.specs.TreeOf.{stmts_tree}
use Rattle.qs_typing_findings.specs.ContextOf.{context_tree}
use Rattle.qs_typing_findings.specs.Statements.{after_statements}
use Rattle.qs_typing_findings.specs.UnitWalk.{statements_walked}
use Rattle.qs_typing_findings.specs.WalkOf.{walk_tree}
use Rattle.qs_typing.proofs.statements.+stmt.Given as goal

abbrev else_size : Option (Box Stmt Global) → ℕ
else_size None = 0
else_size (Some s) = size-Stmt s.value

abbrev pub decreases-walk_statement : goal.decreases-walk_statement
decreases-walk_statement l = 8 * size-Stmt l.s.now

abbrev pub decreases-walk_if : goal.decreases-walk_if
decreases-walk_if l = 8 * max (size-Stmt l.s.now) (else_size l.otherwise.now) + 3

abbrev pub decreases-walk_while : goal.decreases-walk_while
decreases-walk_while l = 8 * size-Stmt l.body.now + 2

abbrev pub decreases-walk_do : goal.decreases-walk_do
decreases-walk_do l = 8 * size-Stmt l.body.now + 2

abbrev pub decreases-walk_for : goal.decreases-walk_for
decreases-walk_for l = 8 * size-Stmt l.s.now + 2

abbrev pub decreases-walk_part : goal.decreases-walk_part
decreases-walk_part l = 8 * size-Stmt l.s.now + 1

abbrev pub decreases-walk_body : goal.decreases-walk_body
decreases-walk_body l = 8 * size-Stmt l.s.now + 1

abbrev pub decreases-walk_else : goal.decreases-walk_else
decreases-walk_else l = 8 * else_size l.s.now + 2

abbrev pub decreases-walk_block : goal.decreases-walk_block
decreases-walk_block l = 8 * goal.size-walk_block l + 2

abbrev pub decreases-walk_switch : goal.decreases-walk_switch
decreases-walk_switch l = 8 * goal.size-walk_switch l + 2

abbrev pub decreases-walk_statements : goal.decreases-walk_statements
decreases-walk_statements l = 8 * goal.size-walk_statements l + 1

abbrev pub invariant-walk_statements-loop-s : goal.invariant-walk_statements-loop-s
invariant-walk_statements-loop-s l = record {
  context : after_statements (context_tree l.initial.c) (stmts_tree l.items) ≡ after_statements (context_tree l.c) (stmts_tree (drop l.s-index l.items));
  walked :
      statements_walked (context_tree l.initial.c) (stmts_tree l.items) (walk_tree l.initial.walk)
      ≡ statements_walked (context_tree l.c) (stmts_tree (drop l.s-index l.items)) (walk_tree l.walk);
}
