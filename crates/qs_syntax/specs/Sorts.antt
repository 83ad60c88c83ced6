-- The sorts of trees, and what it is to number the nodes of a tree of a sort behind the tokens of nodes that have their numbers already.
use Rattle.std.specs.Prelude.{◌≡◌, ℕ, ◌+◌, ◌<◌, ◌^◌, List, ◌++◌, Option, length, map, Box, Vec}
use Rattle.std.specs.declared.alloc.Global.{Global}
use Rattle.qs_syntax.specs.declared.nodes.Node.{Node}
use Rattle.qs_syntax.specs.declared.expressions.Expr.{Expr}
use Rattle.qs_syntax.specs.declared.expressions.Shape.{Shape}
use Rattle.qs_syntax.specs.declared.declarations.Lengths.{Lengths}
use Rattle.qs_syntax.specs.declared.declarations.Declarator.{Declarator}
use Rattle.qs_syntax.specs.declared.declarations.Initialiser.{Initialiser}
use Rattle.qs_syntax.specs.declared.declarations.InitialiserList.{InitialiserList}
use Rattle.qs_syntax.specs.declared.declarations.Variable.{Variable}
use Rattle.qs_syntax.specs.declared.declarations.Declaration.{Declaration}
use Rattle.qs_syntax.specs.declared.declarations.Parameter.{Parameter}
use Rattle.qs_syntax.specs.declared.declarations.Members.{Members}
use Rattle.qs_syntax.specs.declared.statements.Start.{Start}
use Rattle.qs_syntax.specs.declared.statements.Stmt.{Stmt}
use Rattle.qs_syntax.specs.declared.units.Struct.{Struct}
use Rattle.qs_syntax.specs.declared.units.Defined.{Defined}
use Rattle.qs_syntax.specs.declared.units.Typedef.{Typedef}
use Rattle.qs_syntax.specs.declared.units.Function.{Function}
use Rattle.qs_syntax.specs.declared.units.Decl.{Decl}
use Rattle.qs_syntax.specs.Trees.{ExprTree, ShapeTree, Exprs, LengthsTree, DeclaratorTree, InitialiserTree, Initialisers, VariableTree, DeclarationTree, ParameterTree, MembersTree, StartTree, StmtTree, Stmts, Else, StructTree, DefinedTree, TypedefTree, FunctionTree, DeclTree}
use Rattle.qs_syntax.specs.TreeOf.{expr_tree, shape_tree, exprs_tree, option_tree, lengths_tree, declarator_tree, initialiser_tree, list_tree, initialisers_tree, setting_tree, variable_tree, declaration_tree, parameter_tree, members_tree, start_tree, stmt_tree, stmts_tree, else_tree, struct_tree, defined_tree, typedef_tree, body_tree, function_tree, decl_tree}
use Rattle.qs_syntax.specs.Nodes.{tokens_of, all_count, option_count, expr_count, shape_count, exprs_count, lengths_count, declarator_count, initialiser_count, initialisers_count, variable_count, declaration_count, parameter_count, members_count, start_count, stmt_count, stmts_count, else_count, struct_count, defined_count, typedef_count, function_count, decl_count, all_nodes, option_nodes, expr_nodes, shape_nodes, exprs_nodes, lengths_nodes, declarator_nodes, initialiser_nodes, initialisers_nodes, variable_nodes, declaration_nodes, parameter_nodes, members_nodes, start_nodes, stmt_nodes, stmts_nodes, else_nodes, struct_nodes, defined_nodes, typedef_nodes, function_nodes, decl_nodes}
use Rattle.qs_syntax.specs.Numbering.{Relabelling, numbered, relabel_all, relabel_option, relabel_expr, relabel_shape, relabel_exprs, relabel_lengths, relabel_declarator, relabel_initialiser, relabel_initialisers, relabel_variable, relabel_declaration, relabel_parameter, relabel_members, relabel_start, relabel_stmt, relabel_stmts, relabel_else, relabel_struct, relabel_defined, relabel_typedef, relabel_function, relabel_decl}

-- the tree that a value of the program stands for, how many nodes a tree has, which, and the tree with others in place of them
pub record Sort (A T : Type 0) : Type 0 where
  pub tree : A → T
  pub count : T → ℕ
  pub nodes : T → List Node
  pub relabel : Relabelling → ℕ → T → T

-- ---- numbering

-- with the nodes of this, the nodes are few enough to be numbered
abbrev pub HasRoom : {A T : Type 0} → Sort A T → Vec ℕ Global → A → Type 0
HasRoom sort tokens from = length tokens.items + sort.count (sort.tree from) < 2 ^ 32

-- the nodes of the one, numbered behind these tokens, are those of the other
abbrev pub Numbers : {A T : Type 0} → Sort A T → Vec ℕ Global → A → A → Type 0
Numbers sort tokens from to = sort.tree to ≡ sort.relabel numbered (length tokens.items) (sort.tree from)

-- the tokens become more by as many as it has nodes
abbrev pub Counts : {A T : Type 0} → Sort A T → Vec ℕ Global → A → Vec ℕ Global → Type 0
Counts sort tokens from after = length after.items ≡ length tokens.items + sort.count (sort.tree from)

-- the tokens of its nodes come behind these
abbrev pub Appends : {A T : Type 0} → Sort A T → Vec ℕ Global → A → Vec ℕ Global → Type 0
Appends sort tokens from after = after.items ≡ tokens.items ++ tokens_of (sort.nodes (sort.tree from))

-- ---- lists

abbrev pub each : {A T : Type 0} → Sort A T → Sort (List A) (List T)
each sort = record { tree = map sort.tree; count = all_count sort.count; nodes = all_nodes sort.nodes; relabel = λ f. relabel_all f sort.count (sort.relabel f) }

-- ---- expressions

abbrev pub expressions : Sort Expr ExprTree
expressions = record { tree = expr_tree; count = expr_count; nodes = expr_nodes; relabel = relabel_expr }

abbrev pub shapes : Sort Shape ShapeTree
shapes = record { tree = shape_tree; count = shape_count; nodes = shape_nodes; relabel = relabel_shape }

abbrev pub arguments : Sort (List Expr) Exprs
arguments = record { tree = exprs_tree; count = exprs_count; nodes = exprs_nodes; relabel = relabel_exprs }

abbrev pub expression_list : Sort (List Expr) (List ExprTree)
expression_list = each expressions

abbrev pub optional_expressions : Sort (Option Expr) (Option ExprTree)
optional_expressions = record { tree = option_tree; count = option_count expr_count; nodes = option_nodes expr_nodes; relabel = λ f. relabel_option (relabel_expr f) }

-- ---- declarations

abbrev pub brackets : Sort Lengths LengthsTree
brackets = record { tree = lengths_tree; count = lengths_count; nodes = lengths_nodes; relabel = relabel_lengths }

abbrev pub declarators : Sort Declarator DeclaratorTree
declarators = record { tree = declarator_tree; count = declarator_count; nodes = declarator_nodes; relabel = relabel_declarator }

abbrev pub declarator_list : Sort (List Declarator) (List DeclaratorTree)
declarator_list = each declarators

abbrev pub initialisers : Sort Initialiser InitialiserTree
initialisers = record { tree = initialiser_tree; count = initialiser_count; nodes = initialiser_nodes; relabel = relabel_initialiser }

abbrev pub initialiser_list : Sort (List Initialiser) (List InitialiserTree)
initialiser_list = each initialisers

-- lists in braces
abbrev pub braces : Sort InitialiserList InitialiserTree
braces = record { tree = list_tree; count = initialiser_count; nodes = initialiser_nodes; relabel = relabel_initialiser }

-- what stands between braces
abbrev pub braced_items : Sort (List Initialiser) Initialisers
braced_items = record { tree = initialisers_tree; count = initialisers_count; nodes = initialisers_nodes; relabel = relabel_initialisers }

-- what variables are set to
abbrev pub settings : Sort (Option Initialiser) (Option InitialiserTree)
settings = record { tree = setting_tree; count = option_count initialiser_count; nodes = option_nodes initialiser_nodes; relabel = λ f. relabel_option (relabel_initialiser f) }

abbrev pub variables : Sort Variable VariableTree
variables = record { tree = variable_tree; count = variable_count; nodes = variable_nodes; relabel = relabel_variable }

abbrev pub variable_list : Sort (List Variable) (List VariableTree)
variable_list = each variables

abbrev pub declarations : Sort Declaration DeclarationTree
declarations = record { tree = declaration_tree; count = declaration_count; nodes = declaration_nodes; relabel = relabel_declaration }

abbrev pub parameters : Sort Parameter ParameterTree
parameters = record { tree = parameter_tree; count = parameter_count; nodes = parameter_nodes; relabel = relabel_parameter }

abbrev pub parameter_list : Sort (List Parameter) (List ParameterTree)
parameter_list = each parameters

-- members that are declared together
abbrev pub member_groups : Sort Members MembersTree
member_groups = record { tree = members_tree; count = members_count; nodes = members_nodes; relabel = relabel_members }

abbrev pub group_list : Sort (List Members) (List MembersTree)
group_list = each member_groups

-- ---- statements

abbrev pub starts : Sort Start StartTree
starts = record { tree = start_tree; count = start_count; nodes = start_nodes; relabel = relabel_start }

abbrev pub statements : Sort Stmt StmtTree
statements = record { tree = stmt_tree; count = stmt_count; nodes = stmt_nodes; relabel = relabel_stmt }

abbrev pub statement_list : Sort (List Stmt) (List StmtTree)
statement_list = each statements

abbrev pub blocks : Sort (List Stmt) Stmts
blocks = record { tree = stmts_tree; count = stmts_count; nodes = stmts_nodes; relabel = relabel_stmts }

-- what follows `else`
abbrev pub alternatives : Sort (Option (Box Stmt Global)) Else
alternatives = record { tree = else_tree; count = else_count; nodes = else_nodes; relabel = relabel_else }

-- ---- what stands at file scope

abbrev pub structs : Sort Struct StructTree
structs = record { tree = struct_tree; count = struct_count; nodes = struct_nodes; relabel = relabel_struct }

abbrev pub defined_types : Sort Defined DefinedTree
defined_types = record { tree = defined_tree; count = defined_count; nodes = defined_nodes; relabel = relabel_defined }

abbrev pub typedefs : Sort Typedef TypedefTree
typedefs = record { tree = typedef_tree; count = typedef_count; nodes = typedef_nodes; relabel = relabel_typedef }

abbrev pub bodies : Sort (Option (Vec Stmt Global)) (Option Stmts)
bodies = record { tree = body_tree; count = option_count stmts_count; nodes = option_nodes stmts_nodes; relabel = λ f. relabel_option (relabel_stmts f) }

abbrev pub functions : Sort Function FunctionTree
functions = record { tree = function_tree; count = function_count; nodes = function_nodes; relabel = relabel_function }

abbrev pub externals : Sort Decl DeclTree
externals = record { tree = decl_tree; count = decl_count; nodes = decl_nodes; relabel = relabel_decl }

abbrev pub units : Sort (List Decl) (List DeclTree)
units = each externals
