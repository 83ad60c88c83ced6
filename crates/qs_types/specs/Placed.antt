-- Which locals and parameters are blocks of memory: those that are no scalars, and those whose names are operands of `&`, below `sizeof`
-- too. The others are plain variables of their call. Declarations are named by the numbers of their nodes.
use Rattle.std.specs.Prelude.{ℕ, ◌==◌, Bool, false, not, ◌||◌, List, [], ◌∷◌, ◌++◌, Option, Some, None, flat_map, filter}
use Rattle.qs_syntax.specs.declared.types.Base.{Base}
use Rattle.qs_syntax_vocabulary.specs.declared.operators.UnaryOperator.{UnaryOperator}
use Rattle.qs_syntax_vocabulary.specs.declared.operators.UnaryOperator.TheVariants as unaries
use Rattle.qs_syntax.specs.Trees.{ExprTree, expr, ShapeTree, Exprs, no_exprs, expr_and, VariableTree, ParameterTree, StartTree, no_start, start_expression, start_declaration, StmtTree, empty, expression, declaration, block, switch, case_label, default_label, branch, while_loop, do_loop, for_loop, break, continue, return, Stmts, no_stmts, stmt_and, Else, no_else, else_by, FunctionTree}
use Rattle.qs_syntax.specs.Trees as trees
use Rattle.qs_types.specs.Types.{TypeTree, is_scalar}
use Rattle.qs_types.specs.Contexts.{Entity, local_variable, file_variable, function, given, Context, entity_of, inner_scope, inside_loop}
use Rattle.qs_types.specs.Declarations.{variable_declared}
use Rattle.qs_types.specs.StatementRules.{after_variable, after_statement, switch_context, for_context}
use Rattle.qs_types.specs.UnitRules.{parameter_types, body_context}
use Rattle.qs_types.specs.Sites.{statements_sites}

-- ---- operands of `&`

abbrev pub local_node : Option Entity → List ℕ
local_node None = []
local_node (Some (local_variable node t)) = node ∷ []
local_node (Some (file_variable node t)) = []
local_node (Some (function node signature body)) = []
local_node (Some (given signature)) = []

abbrev pub named_local : Context → ExprTree → List ℕ
named_local c (expr node (trees.name x)) = local_node (entity_of c x)
named_local c (expr node _) = []

abbrev pub operand_of : UnaryOperator → List ℕ → List ℕ
operand_of unaries.Address nodes = nodes
operand_of _ nodes = []

abbrev mutual
  pub addressed : Context → ExprTree → List ℕ
  addressed c (expr node shape) = shape_addressed c shape

  pub shape_addressed : Context → ShapeTree → List ℕ
  shape_addressed c (trees.constant n u) = []
  shape_addressed c (trees.text bytes) = []
  shape_addressed c (trees.name x) = []
  shape_addressed c (trees.unary operator a) = operand_of operator (named_local c a) ++ addressed c a
  shape_addressed c (trees.step operator a) = addressed c a
  shape_addressed c (trees.cast n a) = addressed c a
  shape_addressed c (trees.sizeof_type n) = []
  shape_addressed c (trees.sizeof_expr a) = addressed c a
  shape_addressed c (trees.binary operator a b) = addressed c a ++ addressed c b
  shape_addressed c (trees.assign operator a b) = addressed c a ++ addressed c b
  shape_addressed c (trees.conditional d a b) = addressed c d ++ (addressed c a ++ addressed c b)
  shape_addressed c (trees.comma a b) = addressed c a ++ addressed c b
  shape_addressed c (trees.subscript a b) = addressed c a ++ addressed c b
  shape_addressed c (trees.member access a x) = addressed c a
  shape_addressed c (trees.call f es) = all_addressed c es

  pub all_addressed : Context → Exprs → List ℕ
  all_addressed c no_exprs = []
  all_addressed c (expr_and e es) = addressed c e ++ all_addressed c es

-- the declarations of a function whose names are operands of `&`; the context is that before its header
abbrev pub addressed_in : Context → FunctionTree → Stmts → List ℕ
addressed_in c f ss = flat_map (λ s. addressed s.context s.expression) (statements_sites (body_context c f) ss)

-- ---- the locals and parameters of a function

pub record Local : Type 0 where
  pub node : ℕ
  pub type : Option TypeTree

abbrev pub variables_locals : Context → Base → List VariableTree → List Local
variables_locals c base [] = []
variables_locals c base (v ∷ vs) =
    record { node = v.declarator.node.id; type = (variable_declared c base v).type } ∷ variables_locals (after_variable false c base v) base vs

abbrev pub start_locals : Context → StartTree → List Local
start_locals c no_start = []
start_locals c (start_expression e) = []
start_locals c (start_declaration d) = variables_locals c d.base d.variables

abbrev mutual
  pub statement_locals : Context → StmtTree → List Local
  statement_locals c (empty node) = []
  statement_locals c (expression node e) = []
  statement_locals c (declaration d) = variables_locals c d.base d.variables
  statement_locals c (block ss) = statements_locals (inner_scope c) ss
  statement_locals c (switch node e ss) = statements_locals (switch_context c e) ss
  statement_locals c (case_label node e) = []
  statement_locals c (default_label node) = []
  statement_locals c (branch node e s r) = statement_locals (inner_scope c) s ++ else_locals c r
  statement_locals c (while_loop node e s) = statement_locals (inside_loop (inner_scope c)) s
  statement_locals c (do_loop node s e) = statement_locals (inside_loop (inner_scope c)) s
  statement_locals c (for_loop node start e u s) =
      start_locals (inner_scope c) start ++ statement_locals (inside_loop (inner_scope (for_context c start))) s
  statement_locals c (break node) = []
  statement_locals c (continue node) = []
  statement_locals c (return node e) = []

  pub statements_locals : Context → Stmts → List Local
  statements_locals c no_stmts = []
  statements_locals c (stmt_and s ss) = statement_locals c s ++ statements_locals (after_statement c s) ss

  pub else_locals : Context → Else → List Local
  else_locals c no_else = []
  else_locals c (else_by s) = statement_locals (inner_scope c) s

abbrev pub parameters_locals : List ParameterTree → List (Option TypeTree) → List Local
parameters_locals [] ts = []
parameters_locals (p ∷ ps) [] = []
parameters_locals (p ∷ ps) (t ∷ ts) = record { node = p.node.id; type = t } ∷ parameters_locals ps ts

abbrev pub locals_in : Context → FunctionTree → Stmts → List Local
locals_in c f ss = parameters_locals f.parameters (parameter_types (inner_scope c) f.parameters) ++ statements_locals (body_context c f) ss

-- ---- which of them are placed

abbrev pub is_one_of : ℕ → List ℕ → Bool
is_one_of n [] = false
is_one_of n (m ∷ ms) = (m == n) || is_one_of n ms

abbrev pub is_no_scalar : Option TypeTree → Bool
is_no_scalar None = false
is_no_scalar (Some t) = not (is_scalar t)

abbrev pub is_placed : (nodes : List ℕ) → Local → Bool
is_placed nodes l = is_one_of l.node nodes || is_no_scalar l.type

-- the locals and parameters of a function that are blocks, in the order of their declarations
abbrev pub placed_in : Context → FunctionTree → Stmts → List Local
placed_in c f ss = filter (is_placed (addressed_in c f ss)) (locals_in c f ss)
