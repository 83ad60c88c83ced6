-- The trees that the program's values stand for.
use Rattle.std.specs.Prelude.{List, Option, Some, None, map, option_map, Box, Vec}
use Rattle.std.specs.declared.alloc.Global.{Global}
use Rattle.qs_syntax.specs.Trees.{ExprTree, expr, ShapeTree, constant, text, name, unary, step, cast, sizeof_type, sizeof_expr, binary, assign, conditional, comma, subscript, member, call, Exprs, exprs_of, LengthsTree, DeclaratorTree, InitialiserTree, value, list, Initialisers, initialisers_of, VariableTree, DeclarationTree, ParameterTree, MembersTree, StartTree, no_start, start_expression, start_declaration, StmtTree, empty, expression, declaration, block, switch, case_label, default_label, branch, while_loop, do_loop, for_loop, break, continue, return, Stmts, stmts_of, Else, else_of, StructTree, ForwardTree, DefinedTree, of_struct, of_base, TypedefTree, FunctionTree, DeclTree, structure, forward, typedef, function, variables}
use Rattle.qs_syntax.specs.declared.expressions.Expr.{Expr, Expr-F, fold-Expr}
use Rattle.qs_syntax.specs.declared.expressions.Shape.{Shape, Shape-F, fold-Shape}
use Rattle.qs_syntax.specs.declared.declarations.Lengths.{Lengths}
use Rattle.qs_syntax.specs.declared.declarations.Declarator.{Declarator}
use Rattle.qs_syntax.specs.declared.declarations.Initialiser.{Initialiser, Initialiser-F, fold-Initialiser}
use Rattle.qs_syntax.specs.declared.declarations.InitialiserList.{InitialiserList, InitialiserList-F, fold-InitialiserList}
use Rattle.qs_syntax.specs.declared.declarations.Variable.{Variable}
use Rattle.qs_syntax.specs.declared.declarations.Declaration.{Declaration}
use Rattle.qs_syntax.specs.declared.declarations.Parameter.{Parameter}
use Rattle.qs_syntax.specs.declared.declarations.Members.{Members}
use Rattle.qs_syntax.specs.declared.statements.Start.{Start}
use Rattle.qs_syntax.specs.declared.statements.Start.TheVariants as starts
use Rattle.qs_syntax.specs.declared.statements.Stmt.{Stmt, Stmt-F, fold-Stmt}
use Rattle.qs_syntax.specs.declared.units.Struct.{Struct}
use Rattle.qs_syntax.specs.declared.units.Forward.{Forward}
use Rattle.qs_syntax.specs.declared.units.Defined.{Defined}
use Rattle.qs_syntax.specs.declared.units.Defined.TheVariants as defineds
use Rattle.qs_syntax.specs.declared.units.Typedef.{Typedef}
use Rattle.qs_syntax.specs.declared.units.Function.{Function}
use Rattle.qs_syntax.specs.declared.units.Decl.{Decl}
use Rattle.qs_syntax.specs.declared.units.Decl.TheVariants as decls

-- one level of an expression, with each part already seen as its tree
abbrev pub shape_step : Shape-F ShapeTree ExprTree → ShapeTree
shape_step (Shape-F.Constant n unsigned) = constant n unsigned
shape_step (Shape-F.Text bytes) = text bytes
shape_step (Shape-F.Name x) = name x
shape_step (Shape-F.Unary operator a) = unary operator a.value
shape_step (Shape-F.Step operator a) = step operator a.value
shape_step (Shape-F.Cast type a) = cast type a.value
shape_step (Shape-F.SizeofType type) = sizeof_type type
shape_step (Shape-F.SizeofExpr a) = sizeof_expr a.value
shape_step (Shape-F.Binary operator a b) = binary operator a.value b.value
shape_step (Shape-F.Assign operator a b) = assign operator a.value b.value
shape_step (Shape-F.Conditional a b c) = conditional a.value b.value c.value
shape_step (Shape-F.Comma a b) = comma a.value b.value
shape_step (Shape-F.Subscript a b) = subscript a.value b.value
shape_step (Shape-F.Member access a x) = member access a.value x
shape_step (Shape-F.Call f arguments) = call f (exprs_of arguments.items)

abbrev pub expr_step : Expr-F ShapeTree ExprTree → ExprTree
expr_step e = expr e.node e.shape

abbrev pub shape_tree : Shape → ShapeTree
shape_tree = fold-Shape ShapeTree ExprTree shape_step expr_step

-- the tree of an expression
abbrev pub expr_tree : Expr → ExprTree
expr_tree = fold-Expr ShapeTree ExprTree shape_step expr_step

abbrev pub exprs_tree : List Expr → Exprs
exprs_tree es = exprs_of (map expr_tree es)

abbrev pub option_tree : Option Expr → Option ExprTree
option_tree None = None
option_tree (Some e) = Some (expr_tree e)

abbrev pub lengths_tree : Lengths → LengthsTree
lengths_tree l = record { is_open = l.is_open; given = map expr_tree l.given.items }

abbrev pub declarator_tree : Declarator → DeclaratorTree
declarator_tree d = record { node = d.node; stars = d.stars; name = d.name; lengths = lengths_tree d.lengths }

abbrev pub initialiser_step : Initialiser-F InitialiserTree InitialiserTree → InitialiserTree
initialiser_step (Initialiser-F.Value e) = value (expr_tree e)
initialiser_step (Initialiser-F.List l) = l

abbrev pub list_step : InitialiserList-F InitialiserTree InitialiserTree → InitialiserTree
list_step l = list l.node (initialisers_of l.items.items)

abbrev pub initialiser_tree : Initialiser → InitialiserTree
initialiser_tree = fold-Initialiser InitialiserTree InitialiserTree initialiser_step list_step

abbrev pub list_tree : InitialiserList → InitialiserTree
list_tree = fold-InitialiserList InitialiserTree InitialiserTree initialiser_step list_step

abbrev pub initialisers_tree : List Initialiser → Initialisers
initialisers_tree is = initialisers_of (map initialiser_tree is)

-- what a variable is set to
abbrev pub setting_tree : Option Initialiser → Option InitialiserTree
setting_tree = option_map initialiser_tree

abbrev pub variable_tree : Variable → VariableTree
variable_tree v = record { declarator = declarator_tree v.declarator; initialiser = setting_tree v.initialiser }

abbrev pub declaration_tree : Declaration → DeclarationTree
declaration_tree d = record { base = d.base; variables = map variable_tree d.variables.items }

abbrev pub parameter_tree : Parameter → ParameterTree
parameter_tree p = record { node = p.node; type_name = p.type_name; name = p.name; lengths = lengths_tree p.lengths }

abbrev pub members_tree : Members → MembersTree
members_tree m = record { base = m.base; declarators = map declarator_tree m.declarators.items }

abbrev pub start_tree : Start → StartTree
start_tree starts.Nothing = no_start
start_tree (starts.Expression e) = start_expression (expr_tree e)
start_tree (starts.Declaration d) = start_declaration (declaration_tree d)

abbrev pub stmt_step : Stmt-F StmtTree → StmtTree
stmt_step (Stmt-F.Empty n) = empty n
stmt_step (Stmt-F.Expression n e) = expression n (expr_tree e)
stmt_step (Stmt-F.Declaration d) = declaration (declaration_tree d)
stmt_step (Stmt-F.Block items) = block (stmts_of items.items)
stmt_step (Stmt-F.Switch n e items) = switch n (expr_tree e) (stmts_of items.items)
stmt_step (Stmt-F.Case n e) = case_label n (expr_tree e)
stmt_step (Stmt-F.Default n) = default_label n
stmt_step (Stmt-F.If n e s t) = branch n (expr_tree e) s.value (else_of (option_map (λ b. b.value) t))
stmt_step (Stmt-F.While n e s) = while_loop n (expr_tree e) s.value
stmt_step (Stmt-F.Do n s e) = do_loop n s.value (expr_tree e)
stmt_step (Stmt-F.For n start e u s) = for_loop n (start_tree start) (option_tree e) (option_tree u) s.value
stmt_step (Stmt-F.Break n) = break n
stmt_step (Stmt-F.Continue n) = continue n
stmt_step (Stmt-F.Return n e) = return n (option_tree e)

abbrev pub stmt_tree : Stmt → StmtTree
stmt_tree = fold-Stmt StmtTree stmt_step

abbrev pub else_tree : Option (Box Stmt Global) → Else
else_tree o = else_of (option_map (λ b. stmt_tree b.value) o)

abbrev pub stmts_tree : List Stmt → Stmts
stmts_tree ss = stmts_of (map stmt_tree ss)

abbrev pub struct_tree : Struct → StructTree
struct_tree s = record { node = s.node; name = s.name; members = map members_tree s.members.items }

abbrev pub forward_tree : Forward → ForwardTree
forward_tree f = record { node = f.node; name = f.name }

abbrev pub defined_tree : Defined → DefinedTree
defined_tree (defineds.Struct s) = of_struct (struct_tree s)
defined_tree (defineds.Base b) = of_base b

abbrev pub typedef_tree : Typedef → TypedefTree
typedef_tree t = record { defined = defined_tree t.defined; names = map declarator_tree t.names.items }

abbrev pub body_tree : Option (Vec Stmt Global) → Option Stmts
body_tree = option_map (λ b. stmts_tree b.items)

abbrev pub function_tree : Function → FunctionTree
function_tree f = record { node = f.node; result_type = f.result_type; name = f.name; parameters = map parameter_tree f.parameters.items; body = body_tree f.body }

abbrev pub decl_tree : Decl → DeclTree
decl_tree (decls.Struct s) = structure (struct_tree s)
decl_tree (decls.Forward f) = forward (forward_tree f)
decl_tree (decls.Typedef t) = typedef (typedef_tree t)
decl_tree (decls.Function f) = function (function_tree f)
decl_tree (decls.Variable d) = variables (declaration_tree d)
