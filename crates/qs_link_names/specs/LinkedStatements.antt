-- Statements of a file with its names as they are called in the program (C11 6.8). A declaration hides a name up to the end of its block
-- (6.2.1p4).
use Rattle.qs_syntax.specs.Trees.{StartTree, no_start, start_expression, start_declaration, StmtTree, empty, expression, declaration, block, switch, case_label, default_label, branch, while_loop, do_loop, for_loop, break, continue, return, Stmts, no_stmts, stmt_and, Else, no_else, else_by}
use Rattle.qs_link_names.specs.Linkage.{Internal}
use Rattle.qs_link_names.specs.LinkedExpressions.{linked_expr, linked_option}
use Rattle.qs_link_names.specs.LinkedDeclarations.{linked_declaration, behind_variables}

abbrev pub behind_start : Internal → StartTree → Internal
behind_start own no_start = own
behind_start own (start_expression e) = own
behind_start own (start_declaration d) = behind_variables own d.variables

abbrev pub linked_start : Internal → StartTree → StartTree
linked_start own no_start = no_start
linked_start own (start_expression e) = start_expression (linked_expr own e)
linked_start own (start_declaration d) = start_declaration (linked_declaration own d)

-- what a statement hides from those behind it in its block
abbrev pub behind_statement : Internal → StmtTree → Internal
behind_statement own (empty node) = own
behind_statement own (expression node e) = own
behind_statement own (declaration d) = behind_variables own d.variables
behind_statement own (block ss) = own
behind_statement own (switch node e ss) = own
behind_statement own (case_label node e) = own
behind_statement own (default_label node) = own
behind_statement own (branch node e s r) = own
behind_statement own (while_loop node e s) = own
behind_statement own (do_loop node s e) = own
behind_statement own (for_loop node a e u s) = own
behind_statement own (break node) = own
behind_statement own (continue node) = own
behind_statement own (return node e) = own

abbrev mutual
  pub linked_stmt : Internal → StmtTree → StmtTree
  linked_stmt own (empty node) = empty node
  linked_stmt own (expression node e) = expression node (linked_expr own e)
  linked_stmt own (declaration d) = declaration (linked_declaration own d)
  linked_stmt own (block ss) = block (linked_stmts own ss)
  linked_stmt own (switch node e ss) = switch node (linked_expr own e) (linked_stmts own ss)
  linked_stmt own (case_label node e) = case_label node (linked_expr own e)
  linked_stmt own (default_label node) = default_label node
  linked_stmt own (branch node e s r) = branch node (linked_expr own e) (linked_stmt own s) (linked_else own r)
  linked_stmt own (while_loop node e s) = while_loop node (linked_expr own e) (linked_stmt own s)
  linked_stmt own (do_loop node s e) = do_loop node (linked_stmt own s) (linked_expr own e)
  linked_stmt own (for_loop node a e u s) =
      for_loop node (linked_start own a) (linked_option (behind_start own a) e) (linked_option (behind_start own a) u) (linked_stmt (behind_start own a) s)
  linked_stmt own (break node) = break node
  linked_stmt own (continue node) = continue node
  linked_stmt own (return node e) = return node (linked_option own e)

  pub linked_stmts : Internal → Stmts → Stmts
  linked_stmts own no_stmts = no_stmts
  linked_stmts own (stmt_and s ss) = stmt_and (linked_stmt own s) (linked_stmts (behind_statement own s) ss)

  pub linked_else : Internal → Else → Else
  linked_else own no_else = no_else
  linked_else own (else_by s) = else_by (linked_stmt own s)
