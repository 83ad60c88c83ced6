-- Something of each node of a unit, in the order of the text: of an expression by what is known where it stands, of another node by the node
-- and the type that it declares: variables and parameters declare one.
use Rattle.std.specs.Prelude.{Bool, true, false, List, [], ◌∷◌, ◌++◌, Option, Some, None}
use Rattle.qs_syntax.specs.declared.nodes.Node.{Node}
use Rattle.qs_syntax.specs.declared.types.Base.{Base}
use Rattle.qs_syntax.specs.Trees.{ExprTree, DeclaratorTree, InitialiserTree, value, list, Initialisers, no_initialisers, initialiser_and, VariableTree, ParameterTree, MembersTree, StartTree, no_start, start_expression, start_declaration, StmtTree, empty, expression, declaration, block, switch, case_label, default_label, branch, while_loop, do_loop, for_loop, break, continue, return, Stmts, no_stmts, stmt_and, Else, no_else, else_by, DefinedTree, of_struct, of_base, FunctionTree, DeclTree, structure, forward, typedef, function, variables, UnitTree}
use Rattle.qs_types.specs.Types.{TypeTree}
use Rattle.qs_types.specs.Contexts.{Context, start_context, inner_scope, inside_loop}
use Rattle.qs_types.specs.Declarations.{variable_declared, parameter_declared}
use Rattle.qs_types.specs.StatementRules.{after_variable, after_statement, switch_context, for_context}
use Rattle.qs_types.specs.UnitRules.{with_option_tag, after_defined, defined_type, after_type_name, after_parameter, body_context, after_declaration}
use Rattle.qs_typing_findings.specs.ExprFindings.{node_of, of_nodes}

module _ {A : Type 0} (at : Node → Option TypeTree → A) (of : Context → ExprTree → A) where
  abbrev pub of_option : Context → Option ExprTree → List A
  of_option c None = []
  of_option c (Some e) = of_nodes (of c) e

  abbrev pub of_lengths : Context → List ExprTree → List A
  of_lengths c [] = []
  of_lengths c (e ∷ es) = of_nodes (of c) e ++ of_lengths c es

  -- ---- declarations

  abbrev pub of_declarator : Context → (declared : Option TypeTree) → DeclaratorTree → List A
  of_declarator c declared d = at d.node declared ∷ of_lengths c d.lengths.given

  abbrev pub of_declarators : Context → List DeclaratorTree → List A
  of_declarators c [] = []
  of_declarators c (d ∷ ds) = of_declarator c None d ++ of_declarators c ds

  abbrev mutual
    pub of_initialiser : Context → InitialiserTree → List A
    of_initialiser c (value e) = of_nodes (of c) e
    of_initialiser c (list node is) = at node None ∷ of_initialisers c is

    pub of_initialisers : Context → Initialisers → List A
    of_initialisers c no_initialisers = []
    of_initialisers c (initialiser_and i is) = of_initialiser c i ++ of_initialisers c is

  abbrev pub of_option_initialiser : Context → Option InitialiserTree → List A
  of_option_initialiser c None = []
  of_option_initialiser c (Some i) = of_initialiser c i

  abbrev pub of_variables : Bool → Context → Base → List VariableTree → List A
  of_variables at_file_scope c base [] = []
  of_variables at_file_scope c base (v ∷ vs) =
      (of_declarator c (variable_declared c base v).type v.declarator ++ of_option_initialiser (after_variable at_file_scope c base v) v.initialiser)
      ++ of_variables at_file_scope (after_variable at_file_scope c base v) base vs

  -- ---- statements

  abbrev pub of_start : Context → StartTree → List A
  of_start c no_start = []
  of_start c (start_expression e) = of_nodes (of c) e
  of_start c (start_declaration d) = of_variables false c d.base d.variables

  abbrev mutual
    pub of_statement : Context → StmtTree → List A
    of_statement c (empty node) = at node None ∷ []
    of_statement c (expression node e) = at node None ∷ of_nodes (of c) e
    of_statement c (declaration d) = of_variables false c d.base d.variables
    of_statement c (block ss) = of_statements (inner_scope c) ss
    of_statement c (switch node e ss) = (at node None ∷ of_nodes (of c) e) ++ of_statements (switch_context c e) ss
    of_statement c (case_label node e) = at node None ∷ of_nodes (of c) e
    of_statement c (default_label node) = at node None ∷ []
    of_statement c (branch node e s r) = (at node None ∷ of_nodes (of c) e) ++ (of_statement (inner_scope c) s ++ of_else c r)
    of_statement c (while_loop node e s) = (at node None ∷ of_nodes (of c) e) ++ of_statement (inside_loop (inner_scope c)) s
    of_statement c (do_loop node s e) = (at node None ∷ of_statement (inside_loop (inner_scope c)) s) ++ of_nodes (of c) e
    of_statement c (for_loop node start e u s) =
        (at node None ∷ of_start (inner_scope c) start)
        ++ ((of_option (for_context c start) e ++ of_option (for_context c start) u) ++ of_statement (inside_loop (inner_scope (for_context c start))) s)
    of_statement c (break node) = at node None ∷ []
    of_statement c (continue node) = at node None ∷ []
    of_statement c (return node e) = at node None ∷ of_option c e

    pub of_statements : Context → Stmts → List A
    of_statements c no_stmts = []
    of_statements c (stmt_and s ss) = of_statement c s ++ of_statements (after_statement c s) ss

    pub of_else : Context → Else → List A
    of_else c no_else = []
    of_else c (else_by s) = of_statement (inner_scope c) s

  -- ---- file scope

  abbrev pub of_members : Context → List MembersTree → List A
  of_members c [] = []
  of_members c (m ∷ ms) = of_declarators c m.declarators ++ of_members c ms

  abbrev pub of_defined : Context → DefinedTree → List A
  of_defined c (of_struct s) = at s.node None ∷ of_members (with_option_tag c s.name) s.members
  of_defined c (of_base b) = []

  abbrev pub of_type_names : Context → (base : Option TypeTree) → List DeclaratorTree → List A
  of_type_names c base [] = []
  of_type_names c base (d ∷ ds) = of_declarator c None d ++ of_type_names (after_type_name c base d) base ds

  abbrev pub of_parameters : Context → List ParameterTree → List A
  of_parameters c [] = []
  of_parameters c (p ∷ ps) = (at p.node (parameter_declared c p).type ∷ of_lengths c p.lengths.given) ++ of_parameters (after_parameter c p) ps

  abbrev pub of_body : Context → FunctionTree → Option Stmts → List A
  of_body c f None = []
  of_body c f (Some ss) = of_statements (body_context c f) ss

  abbrev pub of_declaration : Context → DeclTree → List A
  of_declaration c (structure s) = at s.node None ∷ of_members (with_option_tag c s.name) s.members
  of_declaration c (forward f) = at f.node None ∷ []
  of_declaration c (typedef t) = of_defined c t.defined ++ of_type_names (after_defined c t.defined) (defined_type c t.defined) t.names
  of_declaration c (function f) = (at f.node None ∷ of_parameters (inner_scope c) f.parameters) ++ of_body c f f.body
  of_declaration c (variables d) = of_variables true c d.base d.variables

  abbrev pub of_declarations : Context → UnitTree → List A
  of_declarations c [] = []
  of_declarations c (d ∷ ds) = of_declaration c d ++ of_declarations (after_declaration c d) ds

  abbrev pub of_unit : UnitTree → List A
  of_unit unit = of_declarations start_context unit

-- each node of a unit with something of it
abbrev pub with_nodes : {A : Type 0} → (Node → Option TypeTree → A) → (Context → ExprTree → A) → UnitTree → List (Node × A)
with_nodes at of unit = of_unit (λ node declared. (node, at node declared)) (λ c e. (node_of e, of c e)) unit
