-- The nodes of a tree in the order of the text, a node before its parts: how many they are, and the list of them.
use Rattle.std.specs.Prelude.{◌≡◌, ℕ, ◌+◌, List, [], ◌∷◌, ◌++◌, Option, Some, None, map}
use Rattle.std.specs.List.{slice_get}
use Rattle.qs_syntax.specs.declared.nodes.Node.{Node}
use Rattle.qs_syntax.specs.Trees.{ExprTree, expr, ShapeTree, constant, text, name, unary, step, cast, sizeof_type, sizeof_expr, binary, assign, conditional, comma, subscript, member, call, Exprs, no_exprs, expr_and, LengthsTree, DeclaratorTree, InitialiserTree, value, list, Initialisers, no_initialisers, initialiser_and, VariableTree, DeclarationTree, ParameterTree, MembersTree, StartTree, no_start, start_expression, start_declaration, StmtTree, empty, expression, declaration, block, switch, case_label, default_label, branch, while_loop, do_loop, for_loop, break, continue, return, Stmts, no_stmts, stmt_and, Else, no_else, else_by, StructTree, DefinedTree, of_struct, of_base, TypedefTree, FunctionTree, DeclTree, structure, forward, typedef, function, variables, UnitTree}

-- the numbers of the tokens at which nodes stand
abbrev pub tokens_of : List Node → List ℕ
tokens_of = map (λ n. n.token)

-- ---- how many

abbrev pub all_count : {A : Type 0} → (A → ℕ) → List A → ℕ
all_count count [] = 0
all_count count (x ∷ xs) = count x + all_count count xs

abbrev pub option_count : {A : Type 0} → (A → ℕ) → Option A → ℕ
option_count count None = 0
option_count count (Some x) = count x

abbrev mutual
  pub expr_count : ExprTree → ℕ
  expr_count (expr node s) = 1 + shape_count s

  pub shape_count : ShapeTree → ℕ
  shape_count (constant n unsigned) = 0
  shape_count (text bytes) = 0
  shape_count (name x) = 0
  shape_count (unary operator a) = expr_count a
  shape_count (step operator a) = expr_count a
  shape_count (cast type a) = expr_count a
  shape_count (sizeof_type type) = 0
  shape_count (sizeof_expr a) = expr_count a
  shape_count (binary operator a b) = expr_count a + expr_count b
  shape_count (assign operator a b) = expr_count a + expr_count b
  shape_count (conditional a b c) = expr_count a + expr_count b + expr_count c
  shape_count (comma a b) = expr_count a + expr_count b
  shape_count (subscript a b) = expr_count a + expr_count b
  shape_count (member access a x) = expr_count a
  shape_count (call f es) = exprs_count es

  pub exprs_count : Exprs → ℕ
  exprs_count no_exprs = 0
  exprs_count (expr_and e es) = expr_count e + exprs_count es

abbrev pub lengths_count : LengthsTree → ℕ
lengths_count l = all_count expr_count l.given

abbrev pub declarator_count : DeclaratorTree → ℕ
declarator_count d = 1 + lengths_count d.lengths

abbrev mutual
  pub initialiser_count : InitialiserTree → ℕ
  initialiser_count (value e) = expr_count e
  initialiser_count (list node is) = 1 + initialisers_count is

  pub initialisers_count : Initialisers → ℕ
  initialisers_count no_initialisers = 0
  initialisers_count (initialiser_and i is) = initialiser_count i + initialisers_count is

-- the lengths of a variable stand before its initialiser
abbrev pub variable_count : VariableTree → ℕ
variable_count v = declarator_count v.declarator + option_count initialiser_count v.initialiser

abbrev pub declaration_count : DeclarationTree → ℕ
declaration_count d = all_count variable_count d.variables

abbrev pub parameter_count : ParameterTree → ℕ
parameter_count p = 1 + lengths_count p.lengths

abbrev pub members_count : MembersTree → ℕ
members_count m = all_count declarator_count m.declarators

abbrev pub start_count : StartTree → ℕ
start_count no_start = 0
start_count (start_expression e) = expr_count e
start_count (start_declaration d) = declaration_count d

abbrev mutual
  pub stmt_count : StmtTree → ℕ
  stmt_count (empty node) = 1
  stmt_count (expression node e) = 1 + expr_count e
  stmt_count (declaration d) = declaration_count d
  stmt_count (block ss) = stmts_count ss
  stmt_count (switch node e ss) = 1 + expr_count e + stmts_count ss
  stmt_count (case_label node e) = 1 + expr_count e
  stmt_count (default_label node) = 1
  stmt_count (branch node e s r) = 1 + expr_count e + stmt_count s + else_count r
  stmt_count (while_loop node e s) = 1 + expr_count e + stmt_count s
  stmt_count (do_loop node s e) = 1 + stmt_count s + expr_count e
  stmt_count (for_loop node a e u s) = 1 + start_count a + option_count expr_count e + option_count expr_count u + stmt_count s
  stmt_count (break node) = 1
  stmt_count (continue node) = 1
  stmt_count (return node e) = 1 + option_count expr_count e

  pub stmts_count : Stmts → ℕ
  stmts_count no_stmts = 0
  stmts_count (stmt_and s ss) = stmt_count s + stmts_count ss

  pub else_count : Else → ℕ
  else_count no_else = 0
  else_count (else_by s) = stmt_count s

abbrev pub struct_count : StructTree → ℕ
struct_count s = 1 + all_count members_count s.members

abbrev pub defined_count : DefinedTree → ℕ
defined_count (of_struct s) = struct_count s
defined_count (of_base b) = 0

abbrev pub typedef_count : TypedefTree → ℕ
typedef_count t = defined_count t.defined + all_count declarator_count t.names

abbrev pub function_count : FunctionTree → ℕ
function_count f = 1 + all_count parameter_count f.parameters + option_count stmts_count f.body

abbrev pub decl_count : DeclTree → ℕ
decl_count (structure s) = struct_count s
decl_count (forward f) = 1
decl_count (typedef t) = typedef_count t
decl_count (function f) = function_count f
decl_count (variables d) = declaration_count d

abbrev pub unit_count : UnitTree → ℕ
unit_count ds = all_count decl_count ds

-- ---- which

abbrev pub all_nodes : {A : Type 0} → (A → List Node) → List A → List Node
all_nodes nodes [] = []
all_nodes nodes (x ∷ xs) = nodes x ++ all_nodes nodes xs

abbrev pub option_nodes : {A : Type 0} → (A → List Node) → Option A → List Node
option_nodes nodes None = []
option_nodes nodes (Some x) = nodes x

abbrev mutual
  pub expr_nodes : ExprTree → List Node
  expr_nodes (expr node s) = node ∷ shape_nodes s

  pub shape_nodes : ShapeTree → List Node
  shape_nodes (constant n unsigned) = []
  shape_nodes (text bytes) = []
  shape_nodes (name x) = []
  shape_nodes (unary operator a) = expr_nodes a
  shape_nodes (step operator a) = expr_nodes a
  shape_nodes (cast type a) = expr_nodes a
  shape_nodes (sizeof_type type) = []
  shape_nodes (sizeof_expr a) = expr_nodes a
  shape_nodes (binary operator a b) = expr_nodes a ++ expr_nodes b
  shape_nodes (assign operator a b) = expr_nodes a ++ expr_nodes b
  shape_nodes (conditional a b c) = expr_nodes a ++ (expr_nodes b ++ expr_nodes c)
  shape_nodes (comma a b) = expr_nodes a ++ expr_nodes b
  shape_nodes (subscript a b) = expr_nodes a ++ expr_nodes b
  shape_nodes (member access a x) = expr_nodes a
  shape_nodes (call f es) = exprs_nodes es

  pub exprs_nodes : Exprs → List Node
  exprs_nodes no_exprs = []
  exprs_nodes (expr_and e es) = expr_nodes e ++ exprs_nodes es

abbrev pub lengths_nodes : LengthsTree → List Node
lengths_nodes l = all_nodes expr_nodes l.given

abbrev pub declarator_nodes : DeclaratorTree → List Node
declarator_nodes d = d.node ∷ lengths_nodes d.lengths

abbrev mutual
  pub initialiser_nodes : InitialiserTree → List Node
  initialiser_nodes (value e) = expr_nodes e
  initialiser_nodes (list node is) = node ∷ initialisers_nodes is

  pub initialisers_nodes : Initialisers → List Node
  initialisers_nodes no_initialisers = []
  initialisers_nodes (initialiser_and i is) = initialiser_nodes i ++ initialisers_nodes is

abbrev pub variable_nodes : VariableTree → List Node
variable_nodes v = declarator_nodes v.declarator ++ option_nodes initialiser_nodes v.initialiser

abbrev pub declaration_nodes : DeclarationTree → List Node
declaration_nodes d = all_nodes variable_nodes d.variables

abbrev pub parameter_nodes : ParameterTree → List Node
parameter_nodes p = p.node ∷ lengths_nodes p.lengths

abbrev pub members_nodes : MembersTree → List Node
members_nodes m = all_nodes declarator_nodes m.declarators

abbrev pub start_nodes : StartTree → List Node
start_nodes no_start = []
start_nodes (start_expression e) = expr_nodes e
start_nodes (start_declaration d) = declaration_nodes d

abbrev mutual
  pub stmt_nodes : StmtTree → List Node
  stmt_nodes (empty node) = node ∷ []
  stmt_nodes (expression node e) = node ∷ expr_nodes e
  stmt_nodes (declaration d) = declaration_nodes d
  stmt_nodes (block ss) = stmts_nodes ss
  stmt_nodes (switch node e ss) = node ∷ (expr_nodes e ++ stmts_nodes ss)
  stmt_nodes (case_label node e) = node ∷ expr_nodes e
  stmt_nodes (default_label node) = node ∷ []
  stmt_nodes (branch node e s r) = node ∷ (expr_nodes e ++ (stmt_nodes s ++ else_nodes r))
  stmt_nodes (while_loop node e s) = node ∷ (expr_nodes e ++ stmt_nodes s)
  stmt_nodes (do_loop node s e) = node ∷ (stmt_nodes s ++ expr_nodes e)
  stmt_nodes (for_loop node a e u s) = node ∷ (start_nodes a ++ (option_nodes expr_nodes e ++ (option_nodes expr_nodes u ++ stmt_nodes s)))
  stmt_nodes (break node) = node ∷ []
  stmt_nodes (continue node) = node ∷ []
  stmt_nodes (return node e) = node ∷ option_nodes expr_nodes e

  pub stmts_nodes : Stmts → List Node
  stmts_nodes no_stmts = []
  stmts_nodes (stmt_and s ss) = stmt_nodes s ++ stmts_nodes ss

  pub else_nodes : Else → List Node
  else_nodes no_else = []
  else_nodes (else_by s) = stmt_nodes s

abbrev pub struct_nodes : StructTree → List Node
struct_nodes s = s.node ∷ all_nodes members_nodes s.members

abbrev pub defined_nodes : DefinedTree → List Node
defined_nodes (of_struct s) = struct_nodes s
defined_nodes (of_base b) = []

abbrev pub typedef_nodes : TypedefTree → List Node
typedef_nodes t = defined_nodes t.defined ++ all_nodes declarator_nodes t.names

abbrev pub function_nodes : FunctionTree → List Node
function_nodes f = f.node ∷ (all_nodes parameter_nodes f.parameters ++ option_nodes stmts_nodes f.body)

abbrev pub decl_nodes : DeclTree → List Node
decl_nodes (structure s) = struct_nodes s
decl_nodes (forward f) = f.node ∷ []
decl_nodes (typedef t) = typedef_nodes t
decl_nodes (function f) = function_nodes f
decl_nodes (variables d) = declaration_nodes d

abbrev pub unit_nodes : UnitTree → List Node
unit_nodes ds = all_nodes decl_nodes ds

-- the node with this number stands at this token
abbrev pub StandsAt : UnitTree → ℕ → ℕ → Type 0
StandsAt ds number token = slice_get (unit_nodes ds) number ≡ Some (record { id = number; token = token })
