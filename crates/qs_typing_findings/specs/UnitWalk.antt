-- What is found and noted behind the parts of a unit, with what was before: the rules of a node are looked at behind its parts.
use Rattle.std.specs.Prelude.{ℕ, ◌+◌, Bool, true, false, ◌&&◌, List, [], ◌∷◌, Option, Some, None, is_some, length, drop}
use Rattle.qs_syntax.specs.declared.types.Base.{Base}
use Rattle.qs_syntax.specs.declared.nodes.Node.{Node}
use Rattle.qs_syntax.specs.Trees.{ExprTree, DeclaratorTree, InitialiserTree, value, list, Initialisers, no_initialisers, initialiser_and, VariableTree, ParameterTree, MembersTree, StartTree, no_start, start_expression, start_declaration, StmtTree, empty, expression, declaration, block, switch, case_label, default_label, branch, while_loop, do_loop, for_loop, break, continue, return, Stmts, no_stmts, stmt_and, Else, no_else, else_by, StructTree, DefinedTree, of_struct, of_base, TypedefTree, FunctionTree, DeclTree, structure, forward, typedef, function, variables, UnitTree}
use Rattle.qs_types.specs.Types.{TypeTree}
use Rattle.qs_types.specs.declared.rules.Rule.TheVariants as rules
use Rattle.qs_types.specs.Rules.{Test, test}
use Rattle.qs_types.specs.Contexts.{Context, start_context, inner_scope, inside_loop}
use Rattle.qs_types.specs.Expressions.{type_of}
use Rattle.qs_types.specs.ExpressionFaults.{Position, used, discarded, whole}
use Rattle.qs_types.specs.Declarations.{variable_declared, parameter_declared}
use Rattle.qs_types.specs.InitialiserRules.{option_part, list_tests}
use Rattle.qs_types.specs.StatementRules.{after_variable, variable_tests, condition_tests, switch_tests, switch_context, case_tests, default_tests, for_context, for_tests, break_tests, continue_tests, return_tests, after_statement}
use Rattle.qs_types.specs.UnitRules.{with_option_tag, is_option_defined, Before, no_members, after_member, after_together, member_tests, after_defined, defined_type, after_type_name, type_name_tests, after_parameter, parameter_types, parameter_tests, header_tests, body_context, after_declaration}
use Rattle.qs_types.specs.Sites.{may_hold}
use Rattle.qs_typing_findings.specs.Findings.{FoundTree, nothing_found, judged_at, with_findings}
use Rattle.qs_typing_findings.specs.ExprFindings.{expr_findings}
use Rattle.qs_typing_findings.specs.Walk.{opened, filled}
use Rattle.qs_typing_findings.specs.Noted.{LocalTree, NotedTree, nothing_noted, site_noted, variable_noted, parameters_noted, body_begun, body_ended}

pub record WalkTree : Type 0 where
  pub found : FoundTree
  pub noted : NotedTree

abbrev pub start_walk : WalkTree
start_walk = record { found = nothing_found; noted = nothing_noted }

-- a node that is no expression
abbrev pub node_opened : WalkTree → WalkTree
node_opened w = record w { found = opened None None w.found }

-- the node of a variable or parameter of this type
abbrev pub object_opened : Option TypeTree → WalkTree → WalkTree
object_opened t w = record w { found = opened t None w.found }

-- the same, where its place is known and its type comes later
abbrev pub object_typed : (at : ℕ) → Option TypeTree → WalkTree → WalkTree
object_typed at t w = record w { found = filled at t w.found }

-- the rules that a node breaks by these tests
abbrev pub node_judged : Node → List Test → WalkTree → WalkTree
node_judged node tests w = record w { found = judged_at node.id tests w.found }

-- an expression that is no part of another
abbrev pub site_walked : Context → Position → (fills_array : Bool) → ExprTree → WalkTree → WalkTree
site_walked c p fills e w = record { found = with_findings w.found (expr_findings c p e); noted = site_noted fills e w.noted }

abbrev pub expr_walked : Context → Position → ExprTree → WalkTree → WalkTree
expr_walked c p e w = site_walked c p false e w

abbrev pub option_walked : Context → Position → Option ExprTree → WalkTree → WalkTree
option_walked c p None w = w
option_walked c p (Some e) w = expr_walked c p e w

abbrev pub lengths_walked : Context → List ExprTree → WalkTree → WalkTree
lengths_walked c [] w = w
lengths_walked c (e ∷ es) w = lengths_walked c es (expr_walked c used e w)

-- a declarator that declares this type
abbrev pub declarator_walked : Context → Option TypeTree → List ExprTree → WalkTree → WalkTree
declarator_walked c t lengths w = lengths_walked c lengths (object_opened t w)

-- ---- initialisers

-- no test where the object has no type
abbrev pub option_list_tests : Bool → Context → Option TypeTree → Initialisers → List Test
option_list_tests at_file_scope c None is = []
option_list_tests at_file_scope c (Some t) is = list_tests at_file_scope c t is

abbrev mutual
  pub initialiser_walked : (at_file_scope : Bool) → Context → Option TypeTree → InitialiserTree → WalkTree → WalkTree
  initialiser_walked at_file_scope c t (value e) w = site_walked c whole (at_file_scope && may_hold t e) e w
  initialiser_walked at_file_scope c t (list node is) w =
      node_judged node (option_list_tests at_file_scope c t is) (elements_walked at_file_scope c t 0 is (node_opened w))

  pub elements_walked : Bool → Context → Option TypeTree → ℕ → Initialisers → WalkTree → WalkTree
  elements_walked at_file_scope c t i no_initialisers w = w
  elements_walked at_file_scope c t i (initialiser_and first is) w =
      elements_walked at_file_scope c t (i + 1) is (initialiser_walked at_file_scope c (option_part c.structs t i) first w)

abbrev pub option_initialiser_walked : Bool → Context → Option TypeTree → Option InitialiserTree → WalkTree → WalkTree
option_initialiser_walked at_file_scope c t None w = w
option_initialiser_walked at_file_scope c t (Some i) w = initialiser_walked at_file_scope c t i w

-- ---- variables

abbrev pub variable_walk_noted : Bool → Context → (node : ℕ) → Option TypeTree → WalkTree → WalkTree
variable_walk_noted at_file_scope c node t w = record w { noted = variable_noted at_file_scope c.structs node t w.noted }

abbrev pub variable_walked : Bool → Context → Base → VariableTree → WalkTree → WalkTree
variable_walked at_file_scope c base v w =
    node_judged v.declarator.node (variable_tests at_file_scope c (after_variable at_file_scope c base v) base v)
    (option_initialiser_walked at_file_scope (after_variable at_file_scope c base v) (variable_declared c base v).type v.initialiser
    (variable_walk_noted at_file_scope c v.declarator.node.id (variable_declared c base v).type
    (declarator_walked c (variable_declared c base v).type v.declarator.lengths.given w)))

abbrev pub variables_walked : Bool → Context → Base → List VariableTree → WalkTree → WalkTree
variables_walked at_file_scope c base [] w = w
variables_walked at_file_scope c base (v ∷ vs) w =
    variables_walked at_file_scope (after_variable at_file_scope c base v) base vs (variable_walked at_file_scope c base v w)

-- ---- statements

abbrev pub start_walked : Context → StartTree → WalkTree → WalkTree
start_walked c no_start w = w
start_walked c (start_expression e) w = expr_walked c discarded e w
start_walked c (start_declaration d) w = variables_walked false c d.base d.variables w

-- a condition
abbrev pub condition_walked : Context → Node → ExprTree → WalkTree → WalkTree
condition_walked c node e w = node_judged node (condition_tests (type_of c e)) (expr_walked c used e w)

-- the operand of a switch
abbrev pub operand_walked : Context → Node → ExprTree → WalkTree → WalkTree
operand_walked c node e w = node_judged node (switch_tests (type_of c e)) (expr_walked c used e w)

abbrev mutual
  pub statement_walked : Context → StmtTree → WalkTree → WalkTree
  statement_walked c (empty node) w = node_opened w
  statement_walked c (expression node e) w = expr_walked c discarded e (node_opened w)
  statement_walked c (declaration d) w = variables_walked false c d.base d.variables w
  statement_walked c (block ss) w = statements_walked (inner_scope c) ss w
  statement_walked c (switch node e ss) w = statements_walked (switch_context c e) ss (operand_walked c node e (node_opened w))
  statement_walked c (case_label node e) w = node_judged node (case_tests c e) (expr_walked c used e (node_opened w))
  statement_walked c (default_label node) w = node_judged node (default_tests c) (node_opened w)
  statement_walked c (branch node e s r) w =
      else_walked c r (statement_walked (inner_scope c) s (condition_walked c node e (node_opened w)))
  statement_walked c (while_loop node e s) w =
      statement_walked (inside_loop (inner_scope c)) s (condition_walked c node e (node_opened w))
  statement_walked c (do_loop node s e) w =
      condition_walked c node e (statement_walked (inside_loop (inner_scope c)) s (node_opened w))
  statement_walked c (for_loop node start e u s) w =
      statement_walked (inside_loop (inner_scope (for_context c start))) s
      (node_judged node (for_tests (for_context c start) start e u)
      (option_walked (for_context c start) discarded u
      (option_walked (for_context c start) used e (start_walked (inner_scope c) start (node_opened w)))))
  statement_walked c (break node) w = node_judged node (break_tests c) (node_opened w)
  statement_walked c (continue node) w = node_judged node (continue_tests c) (node_opened w)
  statement_walked c (return node e) w = node_judged node (return_tests c c.result e) (option_walked c used e (node_opened w))

  pub statements_walked : Context → Stmts → WalkTree → WalkTree
  statements_walked c no_stmts w = w
  statements_walked c (stmt_and s ss) w = statements_walked (after_statement c s) ss (statement_walked c s w)

  pub else_walked : Context → Else → WalkTree → WalkTree
  else_walked c no_else w = w
  else_walked c (else_by s) w = statement_walked (inner_scope c) s w

-- ---- structs

abbrev pub member_walked : Context → Before → Base → DeclaratorTree → WalkTree → WalkTree
member_walked c before base d w = node_judged d.node (member_tests c before base d) (lengths_walked c d.lengths.given (node_opened w))

abbrev pub together_walked : Context → Before → Base → List DeclaratorTree → WalkTree → WalkTree
together_walked c before base [] w = w
together_walked c before base (d ∷ ds) w = together_walked c (after_member c before base d) base ds (member_walked c before base d w)

abbrev pub members_walked : Context → Before → List MembersTree → WalkTree → WalkTree
members_walked c before [] w = w
members_walked c before (m ∷ ms) w =
    members_walked c (after_together c before m.base m.declarators) ms (together_walked c before m.base m.declarators w)

abbrev pub struct_walked : Context → StructTree → WalkTree → WalkTree
struct_walked c s w =
    members_walked (with_option_tag c s.name) no_members s.members (node_judged s.node (test rules.UnknownTag (is_option_defined c s.name)) (node_opened w))

-- ---- names of types

abbrev pub type_name_walked : Context → (base : Option TypeTree) → DeclaratorTree → WalkTree → WalkTree
type_name_walked c base d w = node_judged d.node (type_name_tests c base d) (lengths_walked c d.lengths.given (node_opened w))

abbrev pub type_names_walked : Context → (base : Option TypeTree) → List DeclaratorTree → WalkTree → WalkTree
type_names_walked c base [] w = w
type_names_walked c base (d ∷ ds) w = type_names_walked (after_type_name c base d) base ds (type_name_walked c base d w)

abbrev pub defined_walked : Context → DefinedTree → WalkTree → WalkTree
defined_walked c (of_struct s) w = struct_walked c s w
defined_walked c (of_base b) w = w

abbrev pub typedef_walked : Context → TypedefTree → WalkTree → WalkTree
typedef_walked c t w = type_names_walked (after_defined c t.defined) (defined_type c t.defined) t.names (defined_walked c t.defined w)

-- ---- functions

abbrev pub parameter_walked : Context → (has_body : Bool) → ParameterTree → WalkTree → WalkTree
parameter_walked c has_body p w =
    node_judged p.node (parameter_tests c has_body p) (declarator_walked c (parameter_declared c p).type p.lengths.given w)

abbrev pub parameters_walked : Context → (has_body : Bool) → List ParameterTree → WalkTree → WalkTree
parameters_walked c has_body [] w = w
parameters_walked c has_body (p ∷ ps) w = parameters_walked (after_parameter c p) has_body ps (parameter_walked c has_body p w)

abbrev pub with_body_begun : List LocalTree → WalkTree → WalkTree
with_body_begun ls w = record w { noted = body_begun ls w.noted }

-- the names of the declarations since there were so many are operands of `&` in the body
abbrev pub with_body_ended : (start : ℕ) → WalkTree → WalkTree
with_body_ended start w = record w { noted = body_ended (drop start w.found.addressed) w.noted }

abbrev pub body_walked : Context → FunctionTree → Option Stmts → WalkTree → WalkTree
body_walked c f None w = w
body_walked c f (Some ss) w =
    with_body_ended (length w.found.addressed)
    (statements_walked (body_context c f) ss
    (with_body_begun (parameters_noted c.structs f.parameters (parameter_types (inner_scope c) f.parameters)) w))

abbrev pub function_walked : Context → FunctionTree → WalkTree → WalkTree
function_walked c f w =
    body_walked c f f.body
    (node_judged f.node (header_tests c f) (parameters_walked (inner_scope c) (is_some f.body) f.parameters (node_opened w)))

-- ---- units

abbrev pub declaration_walked : Context → DeclTree → WalkTree → WalkTree
declaration_walked c (structure s) w = struct_walked c s w
declaration_walked c (forward f) w = node_opened w
declaration_walked c (typedef t) w = typedef_walked c t w
declaration_walked c (function f) w = function_walked c f w
declaration_walked c (variables d) w = variables_walked true c d.base d.variables w

abbrev pub declarations_walked : Context → UnitTree → WalkTree → WalkTree
declarations_walked c [] w = w
declarations_walked c (d ∷ ds) w = declarations_walked (after_declaration c d) ds (declaration_walked c d w)

abbrev pub unit_walked : UnitTree → WalkTree
unit_walked unit = declarations_walked start_context unit start_walk
