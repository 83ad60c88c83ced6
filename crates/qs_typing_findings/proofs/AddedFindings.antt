-- What a walk adds to what was found and noted before: the faults of the parts that it goes over, and what stands in their expressions.
use Rattle.std.proofs.Common.{◌≡◌, ℕ, ◌+◌, Bool, true, false, ◌&&◌, List, [], ◌∷◌, ◌++◌, Option, Some, None, is_some, flat_map, refl, sym, subst, ap, ◌∙◌, append_assoc, append-nil}
use Rattle.std.proofs.lemmas.Grind.{flat_map-append}
use Rattle.qs_syntax.specs.declared.types.Base.{Base}
use Rattle.qs_syntax.specs.declared.nodes.Node.{Node}
use Rattle.qs_syntax.specs.Trees.{ExprTree, DeclaratorTree, InitialiserTree, value, list, Initialisers, no_initialisers, initialiser_and, VariableTree, ParameterTree, MembersTree, StartTree, no_start, start_expression, start_declaration, StmtTree, empty, expression, declaration, block, switch, case_label, default_label, branch, while_loop, do_loop, for_loop, break, continue, return, Stmts, no_stmts, stmt_and, Else, no_else, else_by, StructTree, DefinedTree, of_struct, of_base, FunctionTree, DeclTree, structure, forward, typedef, function, variables, UnitTree}
use Rattle.qs_types.specs.Types.{TypeTree}
use Rattle.qs_types.specs.declared.rules.Rule.TheVariants as rules
use Rattle.qs_types.specs.Rules.{Test, test, Fault, faults_of}
use Rattle.qs_types.specs.Contexts.{Context, start_context, inner_scope, inside_loop}
use Rattle.qs_types.specs.ExpressionFaults.{Position, used, discarded, whole, expr_faults}
use Rattle.qs_types.specs.Declarations.{lengths_faults, variable_declared, parameter_declared}
use Rattle.qs_types.specs.InitialiserRules.{option_part, initialiser_faults, elements_faults}
use Rattle.qs_types.specs.StatementRules as statements
use Rattle.qs_types.specs.StatementRules.{after_variable, after_statement, switch_context, for_context, condition_faults, switch_faults, start_faults, statement_faults, statements_faults, else_faults, variable_faults, variables_faults, option_initialiser_faults, option_used, option_discarded}
use Rattle.qs_types.specs.UnitRules as units
use Rattle.qs_types.specs.UnitRules.{with_option_tag, is_option_defined, after_defined, defined_type, defined_faults, after_type_name, type_names_faults, Before, no_members, after_member, after_together, after_parameter, after_declaration, body_context, member_faults, together_faults, members_faults, struct_faults, parameters_faults, body_faults, function_faults, declaration_faults, declarations_faults, faults_in}
use Rattle.qs_types.specs.Placed.{addressed}
use Rattle.qs_types.specs.References.{expr_calls, site_texts, literal_blocks}
use Rattle.qs_types.specs.Sites.{Site, site, sites, option_sites, may_hold, declarator_sites, declarators_sites, initialiser_sites, elements_sites, option_initialiser_sites, variable_sites, variables_sites, start_sites, statement_sites, statements_sites, else_sites, members_sites, defined_sites, type_names_sites, parameters_sites, body_sites, declaration_sites, declarations_sites, unit_sites}
use Rattle.qs_typing_findings.specs.Findings.{least_with}
use Rattle.qs_typing_findings.specs.NodeTypes.{NodeTypes, expr_types, option_types, lengths_types, declarator_types, declarators_types, initialiser_types, initialisers_types, option_initialiser_types, variables_types, start_types, statement_types, statements_types, else_types, members_types, defined_types, type_names_types, parameters_types, body_types, declaration_types, declarations_types, unit_types}
use Rattle.qs_typing_findings.specs.Noted.{parameters_noted}
use Rattle.qs_typing_findings.specs.UnitWalk as walks
use Rattle.qs_typing_findings.specs.UnitWalk.{WalkTree, node_opened, object_opened, declarator_walked, node_judged, site_walked, expr_walked, option_walked, lengths_walked, initialiser_walked, elements_walked, option_initialiser_walked, variable_walk_noted, variable_walked, variables_walked, start_walked, condition_walked, operand_walked, statement_walked, statements_walked, else_walked, member_walked, together_walked, members_walked, struct_walked, type_names_walked, defined_walked, parameters_walked, body_walked, function_walked, declaration_walked, declarations_walked, unit_walked, start_walk}
use Rattle.qs_typing_findings.proofs.LeastFaults.{least_swaps, least_with-append}

abbrev pub site_addressed : Site → List ℕ
site_addressed s = addressed s.context s.expression

abbrev pub site_calls : Site → List (List ℕ)
site_calls s = expr_calls s.expression

-- a walk adds these faults, and what stands in the expressions of these sites
pub record Adds (f : WalkTree → WalkTree) (faults : List Fault) (places : List Site) (nodes : NodeTypes) : Type 0 where
  pub least : (w : WalkTree) → (f w).found.least ≡ least_with w.found.least faults
  pub types : (w : WalkTree) → (f w).found.types ≡ w.found.types ++ nodes
  pub names : (w : WalkTree) → (f w).found.addressed ≡ w.found.addressed ++ flat_map site_addressed places
  pub calls : (w : WalkTree) → (f w).noted.calls ≡ w.noted.calls ++ flat_map site_calls places
  pub texts : (w : WalkTree) → (f w).noted.texts ≡ w.noted.texts ++ flat_map site_texts places

-- ---- walks one after the other

lists_in_turn : {A : Type 0} (a b c : List A) (xs ys : List Site) (g : Site → List A) → b ≡ a ++ flat_map g xs → c ≡ b ++ flat_map g ys → c ≡ a ++ flat_map g (xs ++ ys)
lists_in_turn a b c xs ys g e h =
    h ∙ ap (λ l. l ++ flat_map g ys) e ∙ append_assoc a (flat_map g xs) (flat_map g ys) ∙ ap (λ l. a ++ l) (sym (flat_map-append g xs ys))

pub then_adds : {f g : WalkTree → WalkTree} {xs ys : List Fault} {ss ts : List Site} {us vs : NodeTypes} → Adds f xs ss us → Adds g ys ts vs → Adds (λ w. g (f w)) (xs ++ ys) (ss ++ ts) (us ++ vs)
then_adds {f = f} {g = g} {xs = xs} {ys = ys} {ss = ss} {ts = ts} {us = us} {vs = vs} a b = record {
  types = λ w. b.types (f w) ∙ ap (λ l. l ++ vs) (a.types w) ∙ append_assoc w.found.types us vs;
  least = λ w. b.least (f w) ∙ ap (λ l. least_with l ys) (a.least w) ∙ sym (least_with-append w.found.least xs ys);
  names = λ w. lists_in_turn w.found.addressed (f w).found.addressed (g (f w)).found.addressed ss ts site_addressed (a.names w) (b.names (f w));
  calls = λ w. lists_in_turn w.noted.calls (f w).noted.calls (g (f w)).noted.calls ss ts site_calls (a.calls w) (b.calls (f w));
  texts = λ w. lists_in_turn w.noted.texts (f w).noted.texts (g (f w)).noted.texts ss ts site_texts (a.texts w) (b.texts (f w));
}

-- a node is judged behind its parts, and its faults stand before theirs
pub judged_adds : {f : WalkTree → WalkTree} {xs : List Fault} {ss : List Site} {us : NodeTypes} (node : Node) (ts : List Test) → Adds f xs ss us → Adds (λ w. node_judged node ts (f w)) (faults_of node.id ts ++ xs) ss us
judged_adds {f = f} {xs = xs} {ss = ss} node ts a = record {
  least = λ w. ap (λ l. least_with l (faults_of node.id ts)) (a.least w) ∙ least_swaps w.found.least xs (faults_of node.id ts) ∙ sym (least_with-append w.found.least (faults_of node.id ts) xs);
  types = λ w. a.types w;
  names = λ w. a.names w;
  calls = λ w. a.calls w;
  texts = λ w. a.texts w;
}

with_faults : {f : WalkTree → WalkTree} {xs ys : List Fault} {ss : List Site} {us : NodeTypes} → xs ≡ ys → Adds f xs ss us → Adds f ys ss us
with_faults {f = f} {ss = ss} {us = us} e a = subst (λ l. Adds f l ss us) e a

with_sites : {f : WalkTree → WalkTree} {xs : List Fault} {ss ts : List Site} {us : NodeTypes} → ss ≡ ts → Adds f xs ss us → Adds f xs ts us
with_sites {f = f} {xs = xs} {us = us} e a = subst (λ l. Adds f xs l us) e a

pub nothing_adds : Adds (λ w. w) [] [] []
nothing_adds = record {
  least = λ w. refl;
  types = λ w. sym (append-nil w.found.types);
  names = λ w. sym (append-nil w.found.addressed);
  calls = λ w. sym (append-nil w.noted.calls);
  texts = λ w. sym (append-nil w.noted.texts);
}

pub opened_adds : Adds node_opened [] [] (None ∷ [])
opened_adds = record {
  least = λ w. refl;
  types = λ w. refl;
  names = λ w. sym (append-nil w.found.addressed);
  calls = λ w. sym (append-nil w.noted.calls);
  texts = λ w. sym (append-nil w.noted.texts);
}

object_adds : (t : Option TypeTree) → Adds (object_opened t) [] [] (t ∷ [])
object_adds t = record {
  least = λ w. refl;
  types = λ w. refl;
  names = λ w. sym (append-nil w.found.addressed);
  calls = λ w. sym (append-nil w.noted.calls);
  texts = λ w. sym (append-nil w.noted.texts);
}

-- a variable is noted
then_noted : {f : WalkTree → WalkTree} {xs : List Fault} {ss : List Site} {us : NodeTypes} (at_file_scope : Bool) (c : Context) (node : ℕ) (t : Option TypeTree) → Adds f xs ss us
    → Adds (λ w. variable_walk_noted at_file_scope c node t (f w)) xs ss us
then_noted true c node t a = record { least = λ w. a.least w; types = λ w. a.types w; names = λ w. a.names w; calls = λ w. a.calls w; texts = λ w. a.texts w }
then_noted false c node t a = record { least = λ w. a.least w; types = λ w. a.types w; names = λ w. a.names w; calls = λ w. a.calls w; texts = λ w. a.texts w }

-- ---- expressions

abbrev one_site : Context → ExprTree → Bool → Site
one_site c e fills = record { context = c; expression = e; fills_array = fills }

site_adds : (c : Context) (p : Position) (fills : Bool) (e : ExprTree) → Adds (site_walked c p fills e) (expr_faults c p e) (one_site c e fills ∷ []) (expr_types c e)
site_adds c p true e = record {
  least = λ w. refl;
  types = λ w. refl;
  names = λ w. ap (λ l. w.found.addressed ++ l) (sym (append-nil (addressed c e)));
  calls = λ w. ap (λ l. w.noted.calls ++ l) (sym (append-nil (expr_calls e)));
  texts = λ w. refl;
}
site_adds c p false e = record {
  least = λ w. refl;
  types = λ w. refl;
  names = λ w. ap (λ l. w.found.addressed ++ l) (sym (append-nil (addressed c e)));
  calls = λ w. ap (λ l. w.noted.calls ++ l) (sym (append-nil (expr_calls e)));
  texts = λ w. ap (λ l. w.noted.texts ++ l) (sym (append-nil (site_texts (one_site c e false))));
}

expr_adds : (c : Context) (p : Position) (e : ExprTree) → Adds (expr_walked c p e) (expr_faults c p e) (site c e) (expr_types c e)
expr_adds c p e = site_adds c p false e

pub lengths_add : (c : Context) (es : List ExprTree) → Adds (lengths_walked c es) (lengths_faults c es) (sites c es) (lengths_types c es)
lengths_add c [] = nothing_adds
lengths_add c (e ∷ es) = then_adds (expr_adds c used e) (lengths_add c es)

used_adds : (c : Context) (e : Option ExprTree) → Adds (option_walked c used e) (option_used c e) (option_sites c e) (option_types c e)
used_adds c None = nothing_adds
used_adds c (Some e) = expr_adds c used e

discarded_adds : (c : Context) (e : Option ExprTree) → Adds (option_walked c discarded e) (option_discarded c e) (option_sites c e) (option_types c e)
discarded_adds c None = nothing_adds
discarded_adds c (Some e) = expr_adds c discarded e

condition_adds : (c : Context) (node : Node) (e : ExprTree) → Adds (condition_walked c node e) (condition_faults c node e) (site c e) (expr_types c e)
condition_adds c node e = judged_adds node (statements.condition_tests _) (expr_adds c used e)

operand_adds : (c : Context) (node : Node) (e : ExprTree) → Adds (operand_walked c node e) (switch_faults c node e) (site c e) (expr_types c e)
operand_adds c node e = judged_adds node (statements.switch_tests _) (expr_adds c used e)

declarator_adds : (c : Context) (t : Option TypeTree) (es : List ExprTree) → Adds (declarator_walked c t es) (lengths_faults c es) (sites c es) (t ∷ lengths_types c es)
declarator_adds c t es = then_adds (object_adds t) (lengths_add c es)

-- ---- variables

mutual
  initialiser_adds : (at_file_scope : Bool) (c : Context) (t : Option TypeTree) (i : InitialiserTree)
      → Adds (initialiser_walked at_file_scope c t i) (initialiser_faults at_file_scope c t i) (initialiser_sites at_file_scope c t i) (initialiser_types c i)
  initialiser_adds at_file_scope c t (value e) = site_adds c whole (at_file_scope && may_hold t e) e
  initialiser_adds at_file_scope c None (list node is) = judged_adds node [] (then_adds opened_adds (elements_add at_file_scope c None 0 is))
  initialiser_adds at_file_scope c (Some t) (list node is) =
      judged_adds node (walks.option_list_tests at_file_scope c (Some t) is) (then_adds opened_adds (elements_add at_file_scope c (Some t) 0 is))

  elements_add : (at_file_scope : Bool) (c : Context) (t : Option TypeTree) (i : ℕ) (is : Initialisers)
      → Adds (elements_walked at_file_scope c t i is) (elements_faults at_file_scope c t i is) (elements_sites at_file_scope c t i is) (initialisers_types c is)
  elements_add at_file_scope c t i no_initialisers = nothing_adds
  elements_add at_file_scope c t i (initialiser_and first is) =
      then_adds (initialiser_adds at_file_scope c (option_part c.structs t i) first) (elements_add at_file_scope c t (i + 1) is)

option_initialiser_adds : (at_file_scope : Bool) (c : Context) (t : Option TypeTree) (i : Option InitialiserTree)
    → Adds (option_initialiser_walked at_file_scope c t i) (option_initialiser_faults at_file_scope c t i) (option_initialiser_sites at_file_scope c t i) (option_initialiser_types c i)
option_initialiser_adds at_file_scope c t None = nothing_adds
option_initialiser_adds at_file_scope c t (Some i) = initialiser_adds at_file_scope c t i

variable_adds : (at_file_scope : Bool) (c : Context) (base : Base) (v : VariableTree)
    → Adds (variable_walked at_file_scope c base v) (variable_faults at_file_scope c (after_variable at_file_scope c base v) base v) (variable_sites at_file_scope c (after_variable at_file_scope c base v) base v)
    (declarator_types c (variable_declared c base v).type v.declarator ++ option_initialiser_types (after_variable at_file_scope c base v) v.initialiser)
variable_adds at_file_scope c base v =
    judged_adds v.declarator.node (statements.variable_tests at_file_scope c (after_variable at_file_scope c base v) base v)
    (then_adds
    (then_noted at_file_scope c v.declarator.node.id (variable_declared c base v).type (declarator_adds c (variable_declared c base v).type v.declarator.lengths.given))
    (option_initialiser_adds at_file_scope (after_variable at_file_scope c base v) (variable_declared c base v).type v.initialiser))

pub variables_add : (at_file_scope : Bool) (c : Context) (base : Base) (vs : List VariableTree)
    → Adds (variables_walked at_file_scope c base vs) (variables_faults at_file_scope c base vs) (variables_sites at_file_scope c base vs) (variables_types at_file_scope c base vs)
variables_add at_file_scope c base [] = nothing_adds
variables_add at_file_scope c base (v ∷ vs) = then_adds (variable_adds at_file_scope c base v) (variables_add at_file_scope (after_variable at_file_scope c base v) base vs)

-- ---- statements

judged_only : (c : Context) (node : Node) (ts : List Test) → Adds (λ w. node_judged node ts (node_opened w)) (faults_of node.id ts) [] (None ∷ [])
judged_only c node ts = with_faults (append-nil (faults_of node.id ts)) (judged_adds node ts opened_adds)

site_order : (a b d e : List Site) → a ++ (b ++ (d ++ e)) ≡ a ++ ((b ++ d) ++ e)
site_order a b d e = ap (λ l. a ++ l) (sym (append_assoc b d e))

start_adds : (c : Context) (start : StartTree) → Adds (start_walked c start) (start_faults c start) (start_sites c start) (start_types c start)
start_adds c no_start = nothing_adds
start_adds c (start_expression e) = expr_adds c discarded e
start_adds c (start_declaration d) = variables_add false c d.base d.variables

mutual
  pub statement_adds : (c : Context) (s : StmtTree) → Adds (statement_walked c s) (statement_faults c s) (statement_sites c s) (statement_types c s)
  statement_adds c (empty node) = opened_adds
  statement_adds c (expression node e) = then_adds opened_adds (expr_adds c discarded e)
  statement_adds c (declaration d) = variables_add false c d.base d.variables
  statement_adds c (block ss) = statements_add (inner_scope c) ss
  statement_adds c (switch node e ss) = then_adds (then_adds opened_adds (operand_adds c node e)) (statements_add (switch_context c e) ss)
  statement_adds c (case_label node e) = judged_adds node (statements.case_tests c e) (then_adds opened_adds (expr_adds c used e))
  statement_adds c (default_label node) = judged_only c node (statements.default_tests c)
  statement_adds c (branch node e s r) =
      then_adds (then_adds opened_adds (condition_adds c node e)) (then_adds (statement_adds (inner_scope c) s) (else_adds c r))
  statement_adds c (while_loop node e s) = then_adds (then_adds opened_adds (condition_adds c node e)) (statement_adds (inside_loop (inner_scope c)) s)
  statement_adds c (do_loop node s e) = then_adds (then_adds opened_adds (statement_adds (inside_loop (inner_scope c)) s)) (condition_adds c node e)
  statement_adds c (for_loop node start e u s) =
      with_sites (sym (site_order (start_sites (inner_scope c) start) (option_sites (for_context c start) e) (option_sites (for_context c start) u) (statement_sites (inside_loop (inner_scope (for_context c start))) s)))
      (then_adds (then_adds opened_adds (start_adds (inner_scope c) start))
      (then_adds
      (judged_adds node (statements.for_tests (for_context c start) start e u) (then_adds (used_adds (for_context c start) e) (discarded_adds (for_context c start) u)))
      (statement_adds (inside_loop (inner_scope (for_context c start))) s)))
  statement_adds c (break node) = judged_only c node (statements.break_tests c)
  statement_adds c (continue node) = judged_only c node (statements.continue_tests c)
  statement_adds c (return node e) = judged_adds node (statements.return_tests c c.result e) (then_adds opened_adds (used_adds c e))

  pub statements_add : (c : Context) (ss : Stmts) → Adds (statements_walked c ss) (statements_faults c ss) (statements_sites c ss) (statements_types c ss)
  statements_add c no_stmts = nothing_adds
  statements_add c (stmt_and s ss) = then_adds (statement_adds c s) (statements_add (after_statement c s) ss)

  else_adds : (c : Context) (r : Else) → Adds (else_walked c r) (else_faults c r) (else_sites c r) (else_types c r)
  else_adds c no_else = nothing_adds
  else_adds c (else_by s) = statement_adds (inner_scope c) s

-- ---- structs

member_adds : (c : Context) (before : Before) (base : Base) (d : DeclaratorTree) → Adds (member_walked c before base d) (member_faults c before base d) (declarator_sites c d) (declarator_types c None d)
member_adds c before base d = judged_adds d.node (units.member_tests c before base d) (then_adds opened_adds (lengths_add c d.lengths.given))

together_add : (c : Context) (before : Before) (base : Base) (ds : List DeclaratorTree) → Adds (together_walked c before base ds) (together_faults c before base ds) (declarators_sites c ds) (declarators_types c ds)
together_add c before base [] = nothing_adds
together_add c before base (d ∷ ds) = then_adds (member_adds c before base d) (together_add c (after_member c before base d) base ds)

members_add : (c : Context) (before : Before) (ms : List MembersTree) → Adds (members_walked c before ms) (members_faults c before ms) (members_sites c ms) (members_types c ms)
members_add c before [] = nothing_adds
members_add c before (m ∷ ms) = then_adds (together_add c before m.base m.declarators) (members_add c (after_together c before m.base m.declarators) ms)

struct_adds : (c : Context) (s : StructTree)
    → Adds (struct_walked c s) (struct_faults c s) (members_sites (with_option_tag c s.name) s.members) (None ∷ members_types (with_option_tag c s.name) s.members)
struct_adds c s = then_adds (judged_only c s.node (test rules.UnknownTag (is_option_defined c s.name))) (members_add (with_option_tag c s.name) no_members s.members)

-- ---- names of types

type_names_add : (c : Context) (base : Option TypeTree) (ds : List DeclaratorTree) → Adds (type_names_walked c base ds) (type_names_faults c base ds) (type_names_sites c base ds) (type_names_types c base ds)
type_names_add c base [] = nothing_adds
type_names_add c base (d ∷ ds) =
    then_adds (judged_adds d.node (units.type_name_tests c base d) (then_adds opened_adds (lengths_add c d.lengths.given))) (type_names_add (after_type_name c base d) base ds)

defined_adds : (c : Context) (d : DefinedTree) → Adds (defined_walked c d) (defined_faults c d) (defined_sites c d) (defined_types c d)
defined_adds c (of_struct s) = struct_adds c s
defined_adds c (of_base b) = nothing_adds

-- ---- functions

parameters_add : (c : Context) (has_body : Bool) (ps : List ParameterTree) → Adds (parameters_walked c has_body ps) (parameters_faults c has_body ps) (parameters_sites c ps) (parameters_types c ps)
parameters_add c has_body [] = nothing_adds
parameters_add c has_body (p ∷ ps) =
    then_adds (judged_adds p.node (units.parameter_tests c has_body p) (declarator_adds c (parameter_declared c p).type p.lengths.given)) (parameters_add (after_parameter c p) has_body ps)

body_adds : (c : Context) (f : FunctionTree) (body : Option Stmts) → Adds (body_walked c f body) (body_faults c f body) (body_sites c f body) (body_types c f body)
body_adds c f None = nothing_adds
body_adds c f (Some ss) = let a = statements_add (body_context c f) ss in let ls = parameters_noted c.structs f.parameters (units.parameter_types (inner_scope c) f.parameters) in record {
  least = λ w. a.least (walks.with_body_begun ls w);
  types = λ w. a.types (walks.with_body_begun ls w);
  names = λ w. a.names (walks.with_body_begun ls w);
  calls = λ w. a.calls (walks.with_body_begun ls w);
  texts = λ w. a.texts (walks.with_body_begun ls w);
}

function_adds : (c : Context) (f : FunctionTree) → Adds (function_walked c f) (function_faults c f) (parameters_sites (inner_scope c) f.parameters ++ body_sites c f f.body) ((None ∷ parameters_types (inner_scope c) f.parameters) ++ body_types c f f.body)
function_adds c f =
    with_faults (append_assoc (faults_of f.node.id (units.header_tests c f)) (parameters_faults (inner_scope c) (is_some f.body) f.parameters) (body_faults c f f.body))
    (then_adds (judged_adds f.node (units.header_tests c f) (then_adds opened_adds (parameters_add (inner_scope c) (is_some f.body) f.parameters))) (body_adds c f f.body))

-- ---- units

declaration_adds : (c : Context) (d : DeclTree) → Adds (declaration_walked c d) (declaration_faults c d) (declaration_sites c d) (declaration_types c d)
declaration_adds c (structure s) = struct_adds c s
declaration_adds c (forward f) = opened_adds
declaration_adds c (typedef t) = then_adds (defined_adds c t.defined) (type_names_add (after_defined c t.defined) (defined_type c t.defined) t.names)
declaration_adds c (function f) = function_adds c f
declaration_adds c (variables d) = variables_add true c d.base d.variables

declarations_add : (c : Context) (ds : UnitTree) → Adds (declarations_walked c ds) (declarations_faults c ds) (declarations_sites c ds) (declarations_types c ds)
declarations_add c [] = nothing_adds
declarations_add c (d ∷ ds) = then_adds (declaration_adds c d) (declarations_add (after_declaration c d) ds)

-- the least fault that is found is the first of the unit
pub unit_least : (unit : UnitTree) → (unit_walked unit).found.least ≡ least_with None (faults_in unit)
unit_least unit = (declarations_add start_context unit).least start_walk

pub unit_called : (unit : UnitTree) → (unit_walked unit).noted.calls ≡ flat_map site_calls (unit_sites unit)
unit_called unit = (declarations_add start_context unit).calls start_walk

pub unit_texts : (unit : UnitTree) → (unit_walked unit).noted.texts ≡ literal_blocks unit
unit_texts unit = (declarations_add start_context unit).texts start_walk

pub unit_typed : (unit : UnitTree) → (unit_walked unit).found.types ≡ unit_types unit
unit_typed unit = (declarations_add start_context unit).types start_walk

pub unit_addresses : (unit : UnitTree) → (unit_walked unit).found.addressed ≡ flat_map site_addressed (unit_sites unit)
unit_addresses unit = (declarations_add start_context unit).names start_walk
