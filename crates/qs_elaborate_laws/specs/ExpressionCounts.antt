-- How many expressions there are in statements of the source, those in the lengths of arrays and below `sizeof` among them.
use Rattle.std.specs.Prelude.{ℕ, ◌+◌}
use Rattle.qs_syntax.specs.Trees.{InitialiserTree, value, list, Initialisers, no_initialisers, initialiser_and, VariableTree, DeclarationTree, StartTree, no_start, start_expression, start_declaration, StmtTree, empty, expression, declaration, block, switch, case_label, default_label, branch, while_loop, do_loop, for_loop, break, continue, return, Stmts, no_stmts, stmt_and, Else, no_else, else_by}
use Rattle.qs_syntax.specs.Nodes.{all_count, option_count, expr_count, lengths_count}

abbrev mutual
  pub initialiser_expressions : InitialiserTree → ℕ
  initialiser_expressions (value e) = expr_count e
  initialiser_expressions (list node is) = initialisers_expressions is

  pub initialisers_expressions : Initialisers → ℕ
  initialisers_expressions no_initialisers = 0
  initialisers_expressions (initialiser_and i is) = initialiser_expressions i + initialisers_expressions is

abbrev pub variable_expressions : VariableTree → ℕ
variable_expressions v = lengths_count v.declarator.lengths + option_count initialiser_expressions v.initialiser

abbrev pub declaration_expressions : DeclarationTree → ℕ
declaration_expressions d = all_count variable_expressions d.variables

abbrev pub start_expressions : StartTree → ℕ
start_expressions no_start = 0
start_expressions (start_expression e) = expr_count e
start_expressions (start_declaration d) = declaration_expressions d

abbrev mutual
  pub stmt_expressions : StmtTree → ℕ
  stmt_expressions (empty node) = 0
  stmt_expressions (expression node e) = expr_count e
  stmt_expressions (declaration d) = declaration_expressions d
  stmt_expressions (block ss) = stmts_expressions ss
  stmt_expressions (switch node e ss) = expr_count e + stmts_expressions ss
  stmt_expressions (case_label node e) = expr_count e
  stmt_expressions (default_label node) = 0
  stmt_expressions (branch node e s r) = expr_count e + stmt_expressions s + else_expressions r
  stmt_expressions (while_loop node e s) = expr_count e + stmt_expressions s
  stmt_expressions (do_loop node s e) = stmt_expressions s + expr_count e
  stmt_expressions (for_loop node a e u s) = start_expressions a + option_count expr_count e + option_count expr_count u + stmt_expressions s
  stmt_expressions (break node) = 0
  stmt_expressions (continue node) = 0
  stmt_expressions (return node e) = option_count expr_count e

  pub stmts_expressions : Stmts → ℕ
  stmts_expressions no_stmts = 0
  stmts_expressions (stmt_and s ss) = stmt_expressions s + stmts_expressions ss

  pub else_expressions : Else → ℕ
  else_expressions no_else = 0
  else_expressions (else_by s) = stmt_expressions s
