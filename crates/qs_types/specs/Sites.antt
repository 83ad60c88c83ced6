-- The expressions of a unit that are no parts of others, in the order of the text, each with what is known where it stands.
use Rattle.std.specs.Prelude.{ℕ, ◌+◌, Bool, true, false, ◌&&◌, List, [], ◌∷◌, ◌++◌, Option, Some, None}
use Rattle.qs_syntax.specs.declared.types.Base.{Base}
use Rattle.qs_syntax.specs.Trees.{ExprTree, DeclaratorTree, InitialiserTree, value, list, Initialisers, no_initialisers, initialiser_and, VariableTree, ParameterTree, MembersTree, StartTree, no_start, start_expression, start_declaration, StmtTree, empty, expression, declaration, block, switch, case_label, default_label, branch, while_loop, do_loop, for_loop, break, continue, return, Stmts, no_stmts, stmt_and, Else, no_else, else_by, DefinedTree, of_struct, of_base, FunctionTree, DeclTree, structure, forward, typedef, function, variables, UnitTree}
use Rattle.qs_types.specs.Types.{TypeTree}
use Rattle.qs_types.specs.Contexts.{Context, start_context, inner_scope, inside_loop}
use Rattle.qs_types.specs.Declarations.{text_of, variable_declared}
use Rattle.qs_types.specs.InitialiserRules.{option_part, holds_text}
use Rattle.qs_types.specs.StatementRules.{after_variable, after_statement, switch_context, for_context}
use Rattle.qs_types.specs.UnitRules.{with_option_tag, after_defined, defined_type, after_type_name, after_parameter, body_context, after_declaration}

-- an expression, and whether it is a text that only fills an array of file scope (6.7.9p14)
pub record Site : Type 0 where
  pub context : Context
  pub expression : ExprTree
  pub fills_array : Bool

abbrev pub site : Context → ExprTree → List Site
site c e = record { context = c; expression = e; fills_array = false } ∷ []

abbrev pub sites : Context → List ExprTree → List Site
sites c [] = []
sites c (e ∷ es) = site c e ++ sites c es

abbrev pub option_sites : Context → Option ExprTree → List Site
option_sites c None = []
option_sites c (Some e) = site c e

-- ---- declarations

abbrev pub declarator_sites : Context → DeclaratorTree → List Site
declarator_sites c d = sites c d.lengths.given

abbrev pub declarators_sites : Context → List DeclaratorTree → List Site
declarators_sites c [] = []
declarators_sites c (d ∷ ds) = declarator_sites c d ++ declarators_sites c ds

abbrev pub may_hold : Option TypeTree → ExprTree → Bool
may_hold None e = false
may_hold (Some t) e = holds_text t (text_of e)

-- the initialiser of an object, or of a part, of this type
abbrev mutual
  pub initialiser_sites : (at_file_scope : Bool) → Context → Option TypeTree → InitialiserTree → List Site
  initialiser_sites at_file_scope c t (value e) =
      record { context = c; expression = e; fills_array = at_file_scope && may_hold t e } ∷ []
  initialiser_sites at_file_scope c t (list node is) = elements_sites at_file_scope c t 0 is

  pub elements_sites : Bool → Context → Option TypeTree → ℕ → Initialisers → List Site
  elements_sites at_file_scope c t i no_initialisers = []
  elements_sites at_file_scope c t i (initialiser_and first is) =
      initialiser_sites at_file_scope c (option_part c.structs t i) first ++ elements_sites at_file_scope c t (i + 1) is

abbrev pub option_initialiser_sites : Bool → Context → Option TypeTree → Option InitialiserTree → List Site
option_initialiser_sites at_file_scope c t None = []
option_initialiser_sites at_file_scope c t (Some i) = initialiser_sites at_file_scope c t i

abbrev pub variable_sites : Bool → Context → (after : Context) → Base → VariableTree → List Site
variable_sites at_file_scope c after base v =
    declarator_sites c v.declarator ++ option_initialiser_sites at_file_scope after (variable_declared c base v).type v.initialiser

abbrev pub variables_sites : Bool → Context → Base → List VariableTree → List Site
variables_sites at_file_scope c base [] = []
variables_sites at_file_scope c base (v ∷ vs) =
    variable_sites at_file_scope c (after_variable at_file_scope c base v) base v
    ++ variables_sites at_file_scope (after_variable at_file_scope c base v) base vs

-- ---- statements

abbrev pub start_sites : Context → StartTree → List Site
start_sites c no_start = []
start_sites c (start_expression e) = site c e
start_sites c (start_declaration d) = variables_sites false c d.base d.variables

abbrev mutual
  pub statement_sites : Context → StmtTree → List Site
  statement_sites c (empty node) = []
  statement_sites c (expression node e) = site c e
  statement_sites c (declaration d) = variables_sites false c d.base d.variables
  statement_sites c (block ss) = statements_sites (inner_scope c) ss
  statement_sites c (switch node e ss) = site c e ++ statements_sites (switch_context c e) ss
  statement_sites c (case_label node e) = site c e
  statement_sites c (default_label node) = []
  statement_sites c (branch node e s r) = site c e ++ (statement_sites (inner_scope c) s ++ else_sites c r)
  statement_sites c (while_loop node e s) = site c e ++ statement_sites (inside_loop (inner_scope c)) s
  statement_sites c (do_loop node s e) = statement_sites (inside_loop (inner_scope c)) s ++ site c e
  statement_sites c (for_loop node start e u s) =
      start_sites (inner_scope c) start
      ++ (option_sites (for_context c start) e
      ++ (option_sites (for_context c start) u ++ statement_sites (inside_loop (inner_scope (for_context c start))) s))
  statement_sites c (break node) = []
  statement_sites c (continue node) = []
  statement_sites c (return node e) = option_sites c e

  pub statements_sites : Context → Stmts → List Site
  statements_sites c no_stmts = []
  statements_sites c (stmt_and s ss) = statement_sites c s ++ statements_sites (after_statement c s) ss

  pub else_sites : Context → Else → List Site
  else_sites c no_else = []
  else_sites c (else_by s) = statement_sites (inner_scope c) s

-- ---- file scope

abbrev pub members_sites : Context → List MembersTree → List Site
members_sites c [] = []
members_sites c (m ∷ ms) = declarators_sites c m.declarators ++ members_sites c ms

abbrev pub defined_sites : Context → DefinedTree → List Site
defined_sites c (of_struct s) = members_sites (with_option_tag c s.name) s.members
defined_sites c (of_base b) = []

abbrev pub type_names_sites : Context → (base : Option TypeTree) → List DeclaratorTree → List Site
type_names_sites c base [] = []
type_names_sites c base (d ∷ ds) = declarator_sites c d ++ type_names_sites (after_type_name c base d) base ds

abbrev pub parameters_sites : Context → List ParameterTree → List Site
parameters_sites c [] = []
parameters_sites c (p ∷ ps) = sites c p.lengths.given ++ parameters_sites (after_parameter c p) ps

-- the body of a function; the context is that before its header
abbrev pub body_sites : Context → FunctionTree → Option Stmts → List Site
body_sites c f None = []
body_sites c f (Some ss) = statements_sites (body_context c f) ss

abbrev pub declaration_sites : Context → DeclTree → List Site
declaration_sites c (structure s) = members_sites (with_option_tag c s.name) s.members
declaration_sites c (forward f) = []
declaration_sites c (typedef t) = defined_sites c t.defined ++ type_names_sites (after_defined c t.defined) (defined_type c t.defined) t.names
declaration_sites c (function f) = parameters_sites (inner_scope c) f.parameters ++ body_sites c f f.body
declaration_sites c (variables d) = variables_sites true c d.base d.variables

abbrev pub declarations_sites : Context → UnitTree → List Site
declarations_sites c [] = []
declarations_sites c (d ∷ ds) = declaration_sites c d ++ declarations_sites (after_declaration c d) ds

abbrev pub unit_sites : UnitTree → List Site
unit_sites unit = declarations_sites start_context unit
