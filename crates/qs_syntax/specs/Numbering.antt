-- The one map over the nodes of a tree. `relabel_.. f n` goes over them in the order of the text, a node before its parts, from n on, and
-- puts a node of f's in place of each. What numbers the nodes of a tree, and what takes numbers and tokens away, are such maps.
use Rattle.std.specs.Prelude.{ℕ, ◌+◌, List, [], ◌∷◌, Option, Some, None}
use Rattle.qs_syntax.specs.declared.nodes.Node.{Node}
use Rattle.qs_syntax.specs.Trees.{ExprTree, expr, ShapeTree, constant, text, name, unary, step, cast, sizeof_type, sizeof_expr, binary, assign, conditional, comma, subscript, member, call, Exprs, no_exprs, expr_and, LengthsTree, DeclaratorTree, InitialiserTree, value, list, Initialisers, no_initialisers, initialiser_and, VariableTree, DeclarationTree, ParameterTree, MembersTree, StartTree, no_start, start_expression, start_declaration, StmtTree, empty, expression, declaration, block, switch, case_label, default_label, branch, while_loop, do_loop, for_loop, break, continue, return, Stmts, no_stmts, stmt_and, Else, no_else, else_by, StructTree, DefinedTree, of_struct, of_base, TypedefTree, FunctionTree, DeclTree, structure, forward, typedef, function, variables, UnitTree}
use Rattle.qs_syntax.specs.Nodes.{all_count, option_count, expr_count, declarator_count, initialiser_count, variable_count, parameter_count, members_count, start_count, stmt_count, defined_count, decl_count}

-- what stands in place of a node, given where it is, and where it goes on behind so many nodes
pub record Relabelling : Type 0 where
  pub label : ℕ → Node → Node
  pub onward : ℕ → ℕ → ℕ

-- ---- lists and options

abbrev pub relabel_nodes : Relabelling → ℕ → List Node → List Node
relabel_nodes f n [] = []
relabel_nodes f n (x ∷ xs) = f.label n x ∷ relabel_nodes f (f.onward n 1) xs

abbrev pub relabel_all : {A : Type 0} → Relabelling → (A → ℕ) → (ℕ → A → A) → ℕ → List A → List A
relabel_all f count relabel n [] = []
relabel_all f count relabel n (x ∷ xs) = relabel n x ∷ relabel_all f count relabel (f.onward n (count x)) xs

abbrev pub relabel_option : {A : Type 0} → (ℕ → A → A) → ℕ → Option A → Option A
relabel_option relabel n None = None
relabel_option relabel n (Some x) = Some (relabel n x)

-- ---- expressions

abbrev mutual
  pub relabel_expr : Relabelling → ℕ → ExprTree → ExprTree
  relabel_expr f n (expr node s) = expr (f.label n node) (relabel_shape f (f.onward n 1) s)

  pub relabel_shape : Relabelling → ℕ → ShapeTree → ShapeTree
  relabel_shape f n (constant k unsigned) = constant k unsigned
  relabel_shape f n (text bytes) = text bytes
  relabel_shape f n (name x) = name x
  relabel_shape f n (unary operator a) = unary operator (relabel_expr f n a)
  relabel_shape f n (step operator a) = step operator (relabel_expr f n a)
  relabel_shape f n (cast type a) = cast type (relabel_expr f n a)
  relabel_shape f n (sizeof_type type) = sizeof_type type
  relabel_shape f n (sizeof_expr a) = sizeof_expr (relabel_expr f n a)
  relabel_shape f n (binary operator a b) = binary operator (relabel_expr f n a) (relabel_expr f (f.onward n (expr_count a)) b)
  relabel_shape f n (assign operator a b) = assign operator (relabel_expr f n a) (relabel_expr f (f.onward n (expr_count a)) b)
  relabel_shape f n (conditional a b c) = conditional (relabel_expr f n a) (relabel_expr f (f.onward n (expr_count a)) b) (relabel_expr f (f.onward (f.onward n (expr_count a)) (expr_count b)) c)
  relabel_shape f n (comma a b) = comma (relabel_expr f n a) (relabel_expr f (f.onward n (expr_count a)) b)
  relabel_shape f n (subscript a b) = subscript (relabel_expr f n a) (relabel_expr f (f.onward n (expr_count a)) b)
  relabel_shape f n (member access a x) = member access (relabel_expr f n a) x
  relabel_shape f n (call x es) = call x (relabel_exprs f n es)

  pub relabel_exprs : Relabelling → ℕ → Exprs → Exprs
  relabel_exprs f n no_exprs = no_exprs
  relabel_exprs f n (expr_and e es) = expr_and (relabel_expr f n e) (relabel_exprs f (f.onward n (expr_count e)) es)

-- ---- declarations

abbrev pub relabel_lengths : Relabelling → ℕ → LengthsTree → LengthsTree
relabel_lengths f n l = record { is_open = l.is_open; given = relabel_all f expr_count (relabel_expr f) n l.given }

abbrev pub relabel_declarator : Relabelling → ℕ → DeclaratorTree → DeclaratorTree
relabel_declarator f n d = record { node = f.label n d.node; stars = d.stars; name = d.name; lengths = relabel_lengths f (f.onward n 1) d.lengths }

abbrev mutual
  pub relabel_initialiser : Relabelling → ℕ → InitialiserTree → InitialiserTree
  relabel_initialiser f n (value e) = value (relabel_expr f n e)
  relabel_initialiser f n (list node is) = list (f.label n node) (relabel_initialisers f (f.onward n 1) is)

  pub relabel_initialisers : Relabelling → ℕ → Initialisers → Initialisers
  relabel_initialisers f n no_initialisers = no_initialisers
  relabel_initialisers f n (initialiser_and i is) = initialiser_and (relabel_initialiser f n i) (relabel_initialisers f (f.onward n (initialiser_count i)) is)

abbrev pub relabel_variable : Relabelling → ℕ → VariableTree → VariableTree
relabel_variable f n v = record { declarator = relabel_declarator f n v.declarator; initialiser = relabel_option (relabel_initialiser f) (f.onward n (declarator_count v.declarator)) v.initialiser }

abbrev pub relabel_declaration : Relabelling → ℕ → DeclarationTree → DeclarationTree
relabel_declaration f n d = record { base = d.base; variables = relabel_all f variable_count (relabel_variable f) n d.variables }

abbrev pub relabel_parameter : Relabelling → ℕ → ParameterTree → ParameterTree
relabel_parameter f n p = record { node = f.label n p.node; type_name = p.type_name; name = p.name; lengths = relabel_lengths f (f.onward n 1) p.lengths }

abbrev pub relabel_members : Relabelling → ℕ → MembersTree → MembersTree
relabel_members f n m = record { base = m.base; declarators = relabel_all f declarator_count (relabel_declarator f) n m.declarators }

-- ---- statements

abbrev pub relabel_start : Relabelling → ℕ → StartTree → StartTree
relabel_start f n no_start = no_start
relabel_start f n (start_expression e) = start_expression (relabel_expr f n e)
relabel_start f n (start_declaration d) = start_declaration (relabel_declaration f n d)

abbrev mutual
  pub relabel_stmt : Relabelling → ℕ → StmtTree → StmtTree
  relabel_stmt f n (empty node) = empty (f.label n node)
  relabel_stmt f n (expression node e) = expression (f.label n node) (relabel_expr f (f.onward n 1) e)
  relabel_stmt f n (declaration d) = declaration (relabel_declaration f n d)
  relabel_stmt f n (block ss) = block (relabel_stmts f n ss)
  relabel_stmt f n (switch node e ss) = switch (f.label n node) (relabel_expr f (f.onward n 1) e) (relabel_stmts f (f.onward (f.onward n 1) (expr_count e)) ss)
  relabel_stmt f n (case_label node e) = case_label (f.label n node) (relabel_expr f (f.onward n 1) e)
  relabel_stmt f n (default_label node) = default_label (f.label n node)
  relabel_stmt f n (branch node e s r) = branch (f.label n node) (relabel_expr f (f.onward n 1) e) (relabel_stmt f (f.onward (f.onward n 1) (expr_count e)) s) (relabel_else f (f.onward (f.onward (f.onward n 1) (expr_count e)) (stmt_count s)) r)
  relabel_stmt f n (while_loop node e s) = while_loop (f.label n node) (relabel_expr f (f.onward n 1) e) (relabel_stmt f (f.onward (f.onward n 1) (expr_count e)) s)
  relabel_stmt f n (do_loop node s e) = do_loop (f.label n node) (relabel_stmt f (f.onward n 1) s) (relabel_expr f (f.onward (f.onward n 1) (stmt_count s)) e)
  relabel_stmt f n (for_loop node a e u s) =
      for_loop (f.label n node) (relabel_start f (f.onward n 1) a) (relabel_option (relabel_expr f) (f.onward (f.onward n 1) (start_count a)) e) (relabel_option (relabel_expr f) (f.onward (f.onward (f.onward n 1) (start_count a)) (option_count expr_count e)) u)
      (relabel_stmt f (f.onward (f.onward (f.onward (f.onward n 1) (start_count a)) (option_count expr_count e)) (option_count expr_count u)) s)
  relabel_stmt f n (break node) = break (f.label n node)
  relabel_stmt f n (continue node) = continue (f.label n node)
  relabel_stmt f n (return node e) = return (f.label n node) (relabel_option (relabel_expr f) (f.onward n 1) e)

  pub relabel_stmts : Relabelling → ℕ → Stmts → Stmts
  relabel_stmts f n no_stmts = no_stmts
  relabel_stmts f n (stmt_and s ss) = stmt_and (relabel_stmt f n s) (relabel_stmts f (f.onward n (stmt_count s)) ss)

  pub relabel_else : Relabelling → ℕ → Else → Else
  relabel_else f n no_else = no_else
  relabel_else f n (else_by s) = else_by (relabel_stmt f n s)

-- ---- what stands at file scope

abbrev pub relabel_struct : Relabelling → ℕ → StructTree → StructTree
relabel_struct f n s = record { node = f.label n s.node; name = s.name; members = relabel_all f members_count (relabel_members f) (f.onward n 1) s.members }

abbrev pub relabel_defined : Relabelling → ℕ → DefinedTree → DefinedTree
relabel_defined f n (of_struct s) = of_struct (relabel_struct f n s)
relabel_defined f n (of_base b) = of_base b

abbrev pub relabel_typedef : Relabelling → ℕ → TypedefTree → TypedefTree
relabel_typedef f n t = record { defined = relabel_defined f n t.defined; names = relabel_all f declarator_count (relabel_declarator f) (f.onward n (defined_count t.defined)) t.names }

abbrev pub relabel_function : Relabelling → ℕ → FunctionTree → FunctionTree
relabel_function f n d = record {
  node = f.label n d.node;
  result_type = d.result_type;
  name = d.name;
  parameters = relabel_all f parameter_count (relabel_parameter f) (f.onward n 1) d.parameters;
  body = relabel_option (relabel_stmts f) (f.onward (f.onward n 1) (all_count parameter_count d.parameters)) d.body;
}

abbrev pub relabel_decl : Relabelling → ℕ → DeclTree → DeclTree
relabel_decl f n (structure s) = structure (relabel_struct f n s)
relabel_decl f n (forward d) = forward (record { node = f.label n d.node; name = d.name })
relabel_decl f n (typedef t) = typedef (relabel_typedef f n t)
relabel_decl f n (function d) = function (relabel_function f n d)
relabel_decl f n (variables d) = variables (relabel_declaration f n d)

abbrev pub relabel_unit : Relabelling → UnitTree → UnitTree
relabel_unit f ds = relabel_all f decl_count (relabel_decl f) 0 ds

-- ---- the maps that are used

-- a node gets its number in the order of the text, and keeps its token
abbrev pub numbered : Relabelling
numbered = record { label = λ n node. record { id = n; token = node.token }; onward = λ n k. n + k }

-- a node loses number and token
abbrev pub bare : Relabelling
bare = record { label = λ n node. record { id = 0; token = 0 }; onward = λ n k. n }

abbrev pub numbered_unit : UnitTree → UnitTree
numbered_unit ds = relabel_unit numbered ds
