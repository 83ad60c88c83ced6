-- What the walk finds that names stand for.
use Rattle.std.proofs.Common.{◌≡◌, ℕ, ◌+◌, Bool, true, false, ◌&&◌, List, [], ◌∷◌, ◌++◌, Option, Some, None, is_some, refl, sym, ap, ◌∙◌, append_assoc, append-nil}
use Rattle.qs_syntax.specs.declared.types.Base.{Base}
use Rattle.qs_syntax.specs.declared.nodes.Node.{Node}
use Rattle.qs_syntax.specs.Trees.{ExprTree, DeclaratorTree, InitialiserTree, value, list, Initialisers, no_initialisers, initialiser_and, VariableTree, ParameterTree, MembersTree, StartTree, no_start, start_expression, start_declaration, StmtTree, empty, expression, declaration, block, switch, case_label, default_label, branch, while_loop, do_loop, for_loop, break, continue, return, Stmts, no_stmts, stmt_and, Else, no_else, else_by, StructTree, DefinedTree, of_struct, of_base, FunctionTree, DeclTree, structure, forward, typedef, function, variables, UnitTree}
use Rattle.qs_types.specs.Types.{TypeTree}
use Rattle.qs_types.specs.declared.rules.Rule.TheVariants as rules
use Rattle.qs_types.specs.Rules.{Test, test}
use Rattle.qs_types.specs.Expressions.{type_of}
use Rattle.qs_types.specs.Contexts.{Context, start_context, inner_scope, inside_loop}
use Rattle.qs_types.specs.ExpressionFaults.{Position, used, discarded, whole}
use Rattle.qs_types.specs.Declarations.{variable_declared, parameter_declared}
use Rattle.qs_types.specs.InitialiserRules.{option_part}
use Rattle.qs_types.specs.StatementRules as statements
use Rattle.qs_types.specs.StatementRules.{after_variable, after_statement, switch_context, for_context}
use Rattle.qs_types.specs.UnitRules as units
use Rattle.qs_types.specs.UnitRules.{with_option_tag, is_option_defined, after_defined, defined_type, after_type_name, Before, no_members, after_member, after_together, after_parameter, after_declaration, body_context, parameter_types}
use Rattle.qs_types.specs.Sites.{may_hold}
use Rattle.qs_types.specs.declared.referent.Referent.{Referent}
use Rattle.qs_types.specs.Referents.{referent_of}
use Rattle.qs_typing_findings.specs.ExprFindings.{of_nodes}
use Rattle.qs_typing_findings.specs.UnitNodes.{of_option, of_lengths, of_declarator, of_declarators, of_initialiser, of_initialisers, of_option_initialiser, of_variables, of_start, of_statement, of_statements, of_else, of_members, of_defined, of_type_names, of_parameters, of_body, of_declaration, of_declarations}
use Rattle.qs_typing_findings.specs.NodeReferents.{no_referent, unit_referents}
use Rattle.qs_typing_findings.specs.Noted.{parameters_noted}
use Rattle.qs_typing_findings.specs.UnitWalk as walks
use Rattle.qs_typing_findings.specs.UnitWalk.{WalkTree, node_opened, object_opened, declarator_walked, node_judged, site_walked, expr_walked, option_walked, lengths_walked, initialiser_walked, elements_walked, option_initialiser_walked, variable_walk_noted, variable_walked, variables_walked, start_walked, condition_walked, operand_walked, statement_walked, statements_walked, else_walked, member_walked, together_walked, members_walked, struct_walked, type_names_walked, defined_walked, parameters_walked, body_walked, declaration_walked, declarations_walked, unit_walked, start_walk}

-- a walk finds that names stand for these, behind those before
pub record Names (f : WalkTree → WalkTree) (rs : List (Option Referent)) : Type 0 where
  pub found : (w : WalkTree) → (f w).found.referents ≡ w.found.referents ++ rs

then_names : {f g : WalkTree → WalkTree} {rs ss : List (Option Referent)} → Names f rs → Names g ss → Names (λ w. g (f w)) (rs ++ ss)
then_names {f = f} {g = g} {rs = rs} {ss = ss} a b = record { found = λ w. b.found (f w) ∙ ap (λ l. l ++ ss) (a.found w) ∙ append_assoc w.found.referents rs ss }

judged_names : {f : WalkTree → WalkTree} {rs : List (Option Referent)} (node : Node) (ts : List Test) → Names f rs → Names (λ w. node_judged node ts (f w)) rs
judged_names node ts a = record { found = λ w. a.found w }

noted_names : {f : WalkTree → WalkTree} {rs : List (Option Referent)} (at_file_scope : Bool) (c : Context) (node : ℕ) (t : Option TypeTree) → Names f rs → Names (λ w. variable_walk_noted at_file_scope c node t (f w)) rs
noted_names at_file_scope c node t a = record { found = λ w. a.found w }

no_names : Names (λ w. w) []
no_names = record { found = λ w. sym (append-nil w.found.referents) }

opened_names : Names node_opened (None ∷ [])
opened_names = record { found = λ w. refl }

object_names : (t : Option TypeTree) → Names (object_opened t) (None ∷ [])
object_names t = record { found = λ w. refl }

site_names : (c : Context) (p : Position) (fills : Bool) (e : ExprTree) → Names (site_walked c p fills e) (of_nodes (referent_of c) e)
site_names c p fills e = record { found = λ w. refl }

expr_names : (c : Context) (p : Position) (e : ExprTree) → Names (expr_walked c p e) (of_nodes (referent_of c) e)
expr_names c p e = site_names c p false e

option_names : (c : Context) (p : Position) (e : Option ExprTree) → Names (option_walked c p e) (of_option no_referent referent_of c e)
option_names c p None = no_names
option_names c p (Some e) = expr_names c p e

lengths_names : (c : Context) (es : List ExprTree) → Names (lengths_walked c es) (of_lengths no_referent referent_of c es)
lengths_names c [] = no_names
lengths_names c (e ∷ es) = then_names (expr_names c used e) (lengths_names c es)

declarator_names : (c : Context) (t : Option TypeTree) (es : List ExprTree) → Names (declarator_walked c t es) (None ∷ of_lengths no_referent referent_of c es)
declarator_names c t es = then_names (object_names t) (lengths_names c es)

condition_names : (c : Context) (node : Node) (e : ExprTree) → Names (condition_walked c node e) (of_nodes (referent_of c) e)
condition_names c node e = judged_names node (statements.condition_tests (type_of c e)) (expr_names c used e)

operand_names : (c : Context) (node : Node) (e : ExprTree) → Names (operand_walked c node e) (of_nodes (referent_of c) e)
operand_names c node e = judged_names node (statements.switch_tests (type_of c e)) (expr_names c used e)

-- ---- declarations

mutual
  initialiser_names : (at_file_scope : Bool) (c : Context) (t : Option TypeTree) (i : InitialiserTree) → Names (initialiser_walked at_file_scope c t i) (of_initialiser no_referent referent_of c i)
  initialiser_names at_file_scope c t (value e) = site_names c whole (at_file_scope && may_hold t e) e
  initialiser_names at_file_scope c t (list node is) = judged_names node (walks.option_list_tests at_file_scope c t is) (then_names opened_names (elements_names at_file_scope c t 0 is))

  elements_names : (at_file_scope : Bool) (c : Context) (t : Option TypeTree) (i : ℕ) (is : Initialisers) → Names (elements_walked at_file_scope c t i is) (of_initialisers no_referent referent_of c is)
  elements_names at_file_scope c t i no_initialisers = no_names
  elements_names at_file_scope c t i (initialiser_and first is) =
      then_names (initialiser_names at_file_scope c (option_part c.structs t i) first) (elements_names at_file_scope c t (i + 1) is)

option_initialiser_names : (at_file_scope : Bool) (c : Context) (t : Option TypeTree) (i : Option InitialiserTree)
    → Names (option_initialiser_walked at_file_scope c t i) (of_option_initialiser no_referent referent_of c i)
option_initialiser_names at_file_scope c t None = no_names
option_initialiser_names at_file_scope c t (Some i) = initialiser_names at_file_scope c t i

variable_names : (at_file_scope : Bool) (c : Context) (base : Base) (v : VariableTree)
    → Names (variable_walked at_file_scope c base v)
    (of_declarator no_referent referent_of c (variable_declared c base v).type v.declarator ++ of_option_initialiser no_referent referent_of (after_variable at_file_scope c base v) v.initialiser)
variable_names at_file_scope c base v =
    judged_names v.declarator.node (statements.variable_tests at_file_scope c (after_variable at_file_scope c base v) base v)
    (then_names
    (noted_names at_file_scope c v.declarator.node.id (variable_declared c base v).type (declarator_names c (variable_declared c base v).type v.declarator.lengths.given))
    (option_initialiser_names at_file_scope (after_variable at_file_scope c base v) (variable_declared c base v).type v.initialiser))

variables_names : (at_file_scope : Bool) (c : Context) (base : Base) (vs : List VariableTree) → Names (variables_walked at_file_scope c base vs) (of_variables no_referent referent_of at_file_scope c base vs)
variables_names at_file_scope c base [] = no_names
variables_names at_file_scope c base (v ∷ vs) = then_names (variable_names at_file_scope c base v) (variables_names at_file_scope (after_variable at_file_scope c base v) base vs)

-- ---- statements

start_names : (c : Context) (start : StartTree) → Names (start_walked c start) (of_start no_referent referent_of c start)
start_names c no_start = no_names
start_names c (start_expression e) = expr_names c discarded e
start_names c (start_declaration d) = variables_names false c d.base d.variables

mutual
  statement_names : (c : Context) (s : StmtTree) → Names (statement_walked c s) (of_statement no_referent referent_of c s)
  statement_names c (empty node) = opened_names
  statement_names c (expression node e) = then_names opened_names (expr_names c discarded e)
  statement_names c (declaration d) = variables_names false c d.base d.variables
  statement_names c (block ss) = statements_names (inner_scope c) ss
  statement_names c (switch node e ss) = then_names (then_names opened_names (operand_names c node e)) (statements_names (switch_context c e) ss)
  statement_names c (case_label node e) = judged_names node (statements.case_tests c e) (then_names opened_names (expr_names c used e))
  statement_names c (default_label node) = judged_names node (statements.default_tests c) opened_names
  statement_names c (branch node e s r) = then_names (then_names opened_names (condition_names c node e)) (then_names (statement_names (inner_scope c) s) (else_names c r))
  statement_names c (while_loop node e s) = then_names (then_names opened_names (condition_names c node e)) (statement_names (inside_loop (inner_scope c)) s)
  statement_names c (do_loop node s e) = then_names (then_names opened_names (statement_names (inside_loop (inner_scope c)) s)) (condition_names c node e)
  statement_names c (for_loop node start e u s) =
      then_names (then_names opened_names (start_names (inner_scope c) start))
      (then_names
      (judged_names node (statements.for_tests (for_context c start) start e u) (then_names (option_names (for_context c start) used e) (option_names (for_context c start) discarded u)))
      (statement_names (inside_loop (inner_scope (for_context c start))) s))
  statement_names c (break node) = judged_names node (statements.break_tests c) opened_names
  statement_names c (continue node) = judged_names node (statements.continue_tests c) opened_names
  statement_names c (return node e) = judged_names node (statements.return_tests c c.result e) (then_names opened_names (option_names c used e))

  statements_names : (c : Context) (ss : Stmts) → Names (statements_walked c ss) (of_statements no_referent referent_of c ss)
  statements_names c no_stmts = no_names
  statements_names c (stmt_and s ss) = then_names (statement_names c s) (statements_names (after_statement c s) ss)

  else_names : (c : Context) (r : Else) → Names (else_walked c r) (of_else no_referent referent_of c r)
  else_names c no_else = no_names
  else_names c (else_by s) = statement_names (inner_scope c) s

-- ---- file scope

member_names : (c : Context) (before : Before) (base : Base) (d : DeclaratorTree) → Names (member_walked c before base d) (of_declarator no_referent referent_of c None d)
member_names c before base d = judged_names d.node (units.member_tests c before base d) (then_names opened_names (lengths_names c d.lengths.given))

together_names : (c : Context) (before : Before) (base : Base) (ds : List DeclaratorTree) → Names (together_walked c before base ds) (of_declarators no_referent referent_of c ds)
together_names c before base [] = no_names
together_names c before base (d ∷ ds) = then_names (member_names c before base d) (together_names c (after_member c before base d) base ds)

members_names : (c : Context) (before : Before) (ms : List MembersTree) → Names (members_walked c before ms) (of_members no_referent referent_of c ms)
members_names c before [] = no_names
members_names c before (m ∷ ms) = then_names (together_names c before m.base m.declarators) (members_names c (after_together c before m.base m.declarators) ms)

struct_names : (c : Context) (s : StructTree) → Names (struct_walked c s) (None ∷ of_members no_referent referent_of (with_option_tag c s.name) s.members)
struct_names c s = then_names (judged_names s.node (test rules.UnknownTag (is_option_defined c s.name)) opened_names) (members_names (with_option_tag c s.name) no_members s.members)

type_names_names : (c : Context) (base : Option TypeTree) (ds : List DeclaratorTree) → Names (type_names_walked c base ds) (of_type_names no_referent referent_of c base ds)
type_names_names c base [] = no_names
type_names_names c base (d ∷ ds) =
    then_names (judged_names d.node (units.type_name_tests c base d) (then_names opened_names (lengths_names c d.lengths.given))) (type_names_names (after_type_name c base d) base ds)

defined_names : (c : Context) (d : DefinedTree) → Names (defined_walked c d) (of_defined no_referent referent_of c d)
defined_names c (of_struct s) = struct_names c s
defined_names c (of_base b) = no_names

parameters_names : (c : Context) (has_body : Bool) (ps : List ParameterTree) → Names (parameters_walked c has_body ps) (of_parameters no_referent referent_of c ps)
parameters_names c has_body [] = no_names
parameters_names c has_body (p ∷ ps) =
    then_names (judged_names p.node (units.parameter_tests c has_body p) (declarator_names c (parameter_declared c p).type p.lengths.given)) (parameters_names (after_parameter c p) has_body ps)

body_names : (c : Context) (f : FunctionTree) (body : Option Stmts) → Names (body_walked c f body) (of_body no_referent referent_of c f body)
body_names c f None = no_names
body_names c f (Some ss) =
    let a = statements_names (body_context c f) ss in
    record { found = λ w. a.found (walks.with_body_begun (parameters_noted c.structs f.parameters (parameter_types (inner_scope c) f.parameters)) w) }

declaration_names : (c : Context) (d : DeclTree) → Names (declaration_walked c d) (of_declaration no_referent referent_of c d)
declaration_names c (structure s) = struct_names c s
declaration_names c (forward f) = opened_names
declaration_names c (typedef t) = then_names (defined_names c t.defined) (type_names_names (after_defined c t.defined) (defined_type c t.defined) t.names)
declaration_names c (function f) =
    then_names (judged_names f.node (units.header_tests c f) (then_names opened_names (parameters_names (inner_scope c) (is_some f.body) f.parameters))) (body_names c f f.body)
declaration_names c (variables d) = variables_names true c d.base d.variables

declarations_names : (c : Context) (ds : UnitTree) → Names (declarations_walked c ds) (of_declarations no_referent referent_of c ds)
declarations_names c [] = no_names
declarations_names c (d ∷ ds) = then_names (declaration_names c d) (declarations_names (after_declaration c d) ds)

-- what the walk over a unit finds that its names stand for
pub unit_named : (unit : UnitTree) → (unit_walked unit).found.referents ≡ unit_referents unit
unit_named unit = (declarations_names start_context unit).found start_walk
