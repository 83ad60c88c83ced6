-- The locals and parameters whose names are operands of `&`, by what is known at the nodes of a body.
use Rattle.std.specs.Prelude.{ℕ, List, [], ◌∷◌, ◌++◌, Option, Some, None}
use Rattle.qs_syntax.specs.Trees.{ExprTree, expr, ShapeTree, Exprs, no_exprs, expr_and, InitialiserTree, Initialisers, no_initialisers, initialiser_and, VariableTree, StartTree, no_start, start_expression, start_declaration, StmtTree, Stmts, no_stmts, stmt_and, Else, no_else, else_by}
use Rattle.qs_syntax.specs.Trees as trees
use Rattle.qs_types.specs.Placed.{operand_of}
use Rattle.qs_types.specs.declared.referent.Referent.{Referent}
use Rattle.qs_types.specs.declared.referent.Referent.TheVariants as referents
use Rattle.qs_typed_nodes.specs.Known.{at_number}

-- what names stand for, by the numbers of the nodes
abbrev pub Names : Type 0
Names = List (Option Referent)

abbrev pub local_named : Option Referent → List ℕ
local_named None = []
local_named (Some (referents.Local node)) = node ∷ []
local_named (Some (referents.File node)) = []
local_named (Some (referents.Function node)) = []
local_named (Some referents.PutChar) = []
local_named (Some referents.GetChar) = []

-- ---- expressions

abbrev mutual
  pub addressed_known : Names → ExprTree → List ℕ
  addressed_known names (expr node shape) = shape_addressed names shape

  -- of the operand of `&`, where it is a name
  pub name_known : Names → ExprTree → List ℕ
  name_known names (expr node (trees.name x)) = local_named (at_number names node.id)
  name_known names (expr node _) = []

  pub shape_addressed : Names → ShapeTree → List ℕ
  shape_addressed names (trees.constant n u) = []
  shape_addressed names (trees.text bytes) = []
  shape_addressed names (trees.name x) = []
  shape_addressed names (trees.unary operator a) = operand_of operator (name_known names a) ++ addressed_known names a
  shape_addressed names (trees.step operator a) = addressed_known names a
  shape_addressed names (trees.cast n a) = addressed_known names a
  shape_addressed names (trees.sizeof_type n) = []
  shape_addressed names (trees.sizeof_expr a) = addressed_known names a
  shape_addressed names (trees.binary operator a b) = addressed_known names a ++ addressed_known names b
  shape_addressed names (trees.assign operator a b) = addressed_known names a ++ addressed_known names b
  shape_addressed names (trees.conditional d a b) = addressed_known names d ++ (addressed_known names a ++ addressed_known names b)
  shape_addressed names (trees.comma a b) = addressed_known names a ++ addressed_known names b
  shape_addressed names (trees.subscript a b) = addressed_known names a ++ addressed_known names b
  shape_addressed names (trees.member access a x) = addressed_known names a
  shape_addressed names (trees.call f es) = all_addressed names es

  pub all_addressed : Names → Exprs → List ℕ
  all_addressed names no_exprs = []
  all_addressed names (expr_and e es) = addressed_known names e ++ all_addressed names es

abbrev pub option_addressed : Names → Option ExprTree → List ℕ
option_addressed names None = []
option_addressed names (Some e) = addressed_known names e

abbrev pub each_addressed : Names → List ExprTree → List ℕ
each_addressed names [] = []
each_addressed names (e ∷ es) = addressed_known names e ++ each_addressed names es

-- ---- declarations

abbrev mutual
  pub initialiser_addressed : Names → InitialiserTree → List ℕ
  initialiser_addressed names (trees.value e) = addressed_known names e
  initialiser_addressed names (trees.list node is) = initialisers_addressed names is

  pub initialisers_addressed : Names → Initialisers → List ℕ
  initialisers_addressed names no_initialisers = []
  initialisers_addressed names (initialiser_and i is) = initialiser_addressed names i ++ initialisers_addressed names is

abbrev pub initial_addressed : Names → Option InitialiserTree → List ℕ
initial_addressed names None = []
initial_addressed names (Some i) = initialiser_addressed names i

abbrev pub variable_addressed : Names → VariableTree → List ℕ
variable_addressed names v = each_addressed names v.declarator.lengths.given ++ initial_addressed names v.initialiser

abbrev pub variables_addressed : Names → List VariableTree → List ℕ
variables_addressed names [] = []
variables_addressed names (v ∷ vs) = variable_addressed names v ++ variables_addressed names vs

-- ---- statements

abbrev pub start_addressed : Names → StartTree → List ℕ
start_addressed names no_start = []
start_addressed names (start_expression e) = addressed_known names e
start_addressed names (start_declaration d) = variables_addressed names d.variables

abbrev mutual
  pub statement_addressed : Names → StmtTree → List ℕ
  statement_addressed names (trees.empty node) = []
  statement_addressed names (trees.expression node e) = addressed_known names e
  statement_addressed names (trees.declaration d) = variables_addressed names d.variables
  statement_addressed names (trees.block ss) = statements_addressed names ss
  statement_addressed names (trees.branch node e s r) = addressed_known names e ++ (statement_addressed names s ++ else_addressed names r)
  statement_addressed names (trees.switch node e ss) = addressed_known names e ++ statements_addressed names ss
  statement_addressed names (trees.case_label node e) = addressed_known names e
  statement_addressed names (trees.default_label node) = []
  statement_addressed names (trees.while_loop node e s) = addressed_known names e ++ statement_addressed names s
  statement_addressed names (trees.do_loop node s e) = statement_addressed names s ++ addressed_known names e
  statement_addressed names (trees.for_loop node start e u s) =
      start_addressed names start ++ (option_addressed names e ++ (option_addressed names u ++ statement_addressed names s))
  statement_addressed names (trees.break node) = []
  statement_addressed names (trees.continue node) = []
  statement_addressed names (trees.return node e) = option_addressed names e

  pub statements_addressed : Names → Stmts → List ℕ
  statements_addressed names no_stmts = []
  statements_addressed names (stmt_and s ss) = statement_addressed names s ++ statements_addressed names ss

  pub else_addressed : Names → Else → List ℕ
  else_addressed names no_else = []
  else_addressed names (else_by s) = statement_addressed names s
