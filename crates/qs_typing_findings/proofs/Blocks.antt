-- The blocks of memory that a walk notes are those that are counted.
use Rattle.std.proofs.Common.{◌≡◌, ℕ, ◌+◌, Bool, true, false, ◌&&◌, List, [], ◌∷◌, ◌++◌, Option, Some, None, is_some, length, drop, filter, map, refl, sym, subst, ap, ◌∙◌, append_assoc, append-nil, if◌then◌else◌}
use Rattle.std.proofs.lemmas.List.{drop_at}
use Rattle.std.specs.Option.{option_or}
use Rattle.qs_syntax.specs.declared.types.Base.{Base}
use Rattle.qs_syntax.specs.declared.nodes.Node.{Node}
use Rattle.qs_syntax.specs.Trees.{ExprTree, DeclaratorTree, InitialiserTree, value, list, Initialisers, no_initialisers, initialiser_and, VariableTree, ParameterTree, MembersTree, StartTree, no_start, start_expression, start_declaration, StmtTree, empty, expression, declaration, block, switch, case_label, default_label, branch, while_loop, do_loop, for_loop, break, continue, return, Stmts, no_stmts, stmt_and, Else, no_else, else_by, StructTree, DefinedTree, of_struct, of_base, TypedefTree, FunctionTree, structure, forward, typedef, function, variables, UnitTree}
use Rattle.qs_types.specs.Types.{TypeTree, Structs}
use Rattle.qs_types.specs.declared.rules.Rule.TheVariants as rules
use Rattle.qs_types.specs.Rules.{Test, test}
use Rattle.qs_types.specs.Expressions.{type_of}
use Rattle.qs_types.specs.Contexts.{Context, start_context, inner_scope, inside_loop}
use Rattle.qs_types.specs.ExpressionFaults.{Position, used, discarded, whole}
use Rattle.qs_types.specs.Declarations.{variable_declared, parameter_declared}
use Rattle.qs_types.specs.InitialiserRules.{option_part}
use Rattle.qs_types.specs.StatementRules.{after_variable, variable_tests, condition_tests, switch_tests, case_tests, default_tests, for_tests, break_tests, continue_tests, return_tests, after_statement, switch_context, for_context}
use Rattle.qs_types.specs.UnitRules.{with_option_tag, is_option_defined, member_tests, after_defined, defined_type, after_type_name, type_name_tests, parameter_tests, header_tests, result_type, Before, no_members, after_member, after_together, after_parameter, after_function, after_declaration, parameter_types, with_parameter, with_parameters, body_context}
use Rattle.qs_types.specs.Placed.{Local, addressed_in, is_placed, locals_in, parameters_locals, variables_locals, start_locals, statement_locals, statements_locals, else_locals}
use Rattle.qs_types.specs.Limits.{Block, type_size, variables_blocks, variable_blocks_from, local_block, local_past, local_past_from, local_limit, block_past}
use Rattle.qs_types.specs.Sites.{may_hold}
use Rattle.qs_typing_findings.specs.Noted.{LocalTree, local_tree, parameters_noted, is_block, local_past_by}
use Rattle.qs_typing_findings.specs.UnitWalk.{WalkTree, node_opened, object_opened, declarator_walked, node_judged, option_list_tests, site_walked, option_walked, lengths_walked, initialiser_walked, elements_walked, option_initialiser_walked, variable_walk_noted, variable_walked, variables_walked, start_walked, condition_walked, operand_walked, statement_walked, statements_walked, else_walked, member_walked, together_walked, members_walked, struct_walked, type_names_walked, defined_walked, typedef_walked, parameters_walked, with_body_begun, body_walked, function_walked, declarations_walked, unit_walked, start_walk}
use Rattle.qs_typing_findings.proofs.AddedFindings.{statements_add}
use Rattle.qs_typing_findings.proofs.ScopeEnds.{statement_inner, start_inner}

abbrev noted_local : Structs → Local → LocalTree
noted_local structs l = local_tree structs l.node l.type

-- ---- what a walk adds to the blocks of file scope, and to the locals of a function

record AddsBlocks (f : WalkTree → WalkTree) (globals : List Block) (locals : List LocalTree) : Type 0 where
  at_file : (w : WalkTree) → (f w).noted.globals ≡ w.noted.globals ++ globals
  in_body : (w : WalkTree) → (f w).noted.locals ≡ w.noted.locals ++ locals
  past : (w : WalkTree) → (f w).noted.local_past ≡ w.noted.local_past

abbrev Keeps : (WalkTree → WalkTree) → Type 0
Keeps f = AddsBlocks f [] []

in_turn : {A : Type 0} (a b c xs ys : List A) → b ≡ a ++ xs → c ≡ b ++ ys → c ≡ a ++ (xs ++ ys)
in_turn a b c xs ys e h = h ∙ ap (λ l. l ++ ys) e ∙ append_assoc a xs ys

then_blocks : {f g : WalkTree → WalkTree} {gs hs : List Block} {ls ms : List LocalTree} → AddsBlocks f gs ls → AddsBlocks g hs ms → AddsBlocks (λ w. g (f w)) (gs ++ hs) (ls ++ ms)
then_blocks {f = f} {g = g} {gs = gs} {hs = hs} {ls = ls} {ms = ms} a b = record {
  at_file = λ w. in_turn w.noted.globals (f w).noted.globals (g (f w)).noted.globals gs hs (a.at_file w) (b.at_file (f w));
  in_body = λ w. in_turn w.noted.locals (f w).noted.locals (g (f w)).noted.locals ls ms (a.in_body w) (b.in_body (f w));
  past = λ w. b.past (f w) ∙ a.past w;
}

with_locals : {f : WalkTree → WalkTree} {gs : List Block} {ls ms : List LocalTree} → ls ≡ ms → AddsBlocks f gs ls → AddsBlocks f gs ms
with_locals {f = f} {gs = gs} e a = subst (λ l. AddsBlocks f gs l) e a

-- behind it nothing is added
then_kept : {f g : WalkTree → WalkTree} {ls : List LocalTree} → AddsBlocks f [] ls → Keeps g → AddsBlocks (λ w. g (f w)) [] ls
then_kept {ls = ls} a b = with_locals (append-nil ls) (then_blocks a b)

judged_kept : {f : WalkTree → WalkTree} {gs : List Block} {ls : List LocalTree} (node : Node) (ts : List Test) → AddsBlocks f gs ls → AddsBlocks (λ w. node_judged node ts (f w)) gs ls
judged_kept node ts a = record { at_file = λ w. a.at_file w; in_body = λ w. a.in_body w; past = λ w. a.past w }

nothing_kept : Keeps (λ w. w)
nothing_kept = record { at_file = λ w. sym (append-nil w.noted.globals); in_body = λ w. sym (append-nil w.noted.locals); past = λ w. refl }

opened_kept : Keeps node_opened
opened_kept = record { at_file = λ w. sym (append-nil w.noted.globals); in_body = λ w. sym (append-nil w.noted.locals); past = λ w. refl }

object_kept : (t : Option TypeTree) → Keeps (object_opened t)
object_kept t = record { at_file = λ w. sym (append-nil w.noted.globals); in_body = λ w. sym (append-nil w.noted.locals); past = λ w. refl }

site_kept : (c : Context) (p : Position) (fills : Bool) (e : ExprTree) → Keeps (site_walked c p fills e)
site_kept c p fills e = record { at_file = λ w. sym (append-nil w.noted.globals); in_body = λ w. sym (append-nil w.noted.locals); past = λ w. refl }

option_kept : (c : Context) (p : Position) (e : Option ExprTree) → Keeps (option_walked c p e)
option_kept c p None = nothing_kept
option_kept c p (Some e) = site_kept c p false e

lengths_kept : (c : Context) (es : List ExprTree) → Keeps (lengths_walked c es)
lengths_kept c [] = nothing_kept
lengths_kept c (e ∷ es) = then_blocks (site_kept c used false e) (lengths_kept c es)

declarator_kept : (c : Context) (t : Option TypeTree) (es : List ExprTree) → Keeps (declarator_walked c t es)
declarator_kept c t es = then_blocks (object_kept t) (lengths_kept c es)

mutual
  initialiser_kept : (at_file_scope : Bool) (c : Context) (t : Option TypeTree) (i : InitialiserTree) → Keeps (initialiser_walked at_file_scope c t i)
  initialiser_kept at_file_scope c t (value e) = site_kept c whole (at_file_scope && may_hold t e) e
  initialiser_kept at_file_scope c t (list node is) = judged_kept node (option_list_tests at_file_scope c t is) (then_blocks opened_kept (elements_kept at_file_scope c t 0 is))

  elements_kept : (at_file_scope : Bool) (c : Context) (t : Option TypeTree) (i : ℕ) (is : Initialisers) → Keeps (elements_walked at_file_scope c t i is)
  elements_kept at_file_scope c t i no_initialisers = nothing_kept
  elements_kept at_file_scope c t i (initialiser_and first is) = then_blocks (initialiser_kept at_file_scope c (option_part c.structs t i) first) (elements_kept at_file_scope c t (i + 1) is)

option_initialiser_kept : (at_file_scope : Bool) (c : Context) (t : Option TypeTree) (i : Option InitialiserTree) → Keeps (option_initialiser_walked at_file_scope c t i)
option_initialiser_kept at_file_scope c t None = nothing_kept
option_initialiser_kept at_file_scope c t (Some i) = initialiser_kept at_file_scope c t i

-- ---- variables

local_noted : (c : Context) (node : ℕ) (t : Option TypeTree) → AddsBlocks (variable_walk_noted false c node t) [] (local_tree c.structs node t ∷ [])
local_noted c node t = record { at_file = λ w. sym (append-nil w.noted.globals); in_body = λ w. refl; past = λ w. refl }

abbrev global_block : Structs → ℕ → Option TypeTree → Block
global_block structs node t = record { node = node; size = type_size structs t }

global_noted : (c : Context) (node : ℕ) (t : Option TypeTree) → AddsBlocks (variable_walk_noted true c node t) (global_block c.structs node t ∷ []) []
global_noted c node t = record { at_file = λ w. refl; in_body = λ w. sym (append-nil w.noted.locals); past = λ w. refl }

local_adds : (c : Context) (base : Base) (v : VariableTree) → AddsBlocks (variable_walked false c base v) [] (local_tree c.structs v.declarator.node.id (variable_declared c base v).type ∷ [])
local_adds c base v =
    judged_kept v.declarator.node (variable_tests false c (after_variable false c base v) base v)
    (then_kept (then_blocks (declarator_kept c (variable_declared c base v).type v.declarator.lengths.given) (local_noted c v.declarator.node.id (variable_declared c base v).type))
    (option_initialiser_kept false (after_variable false c base v) (variable_declared c base v).type v.initialiser))

locals_add : (c : Context) (base : Base) (vs : List VariableTree) → AddsBlocks (variables_walked false c base vs) [] (map (noted_local c.structs) (variables_locals c base vs))
locals_add c base [] = nothing_kept
locals_add c base (v ∷ vs) = then_blocks (local_adds c base v) (locals_add (after_variable false c base v) base vs)

global_adds : (c : Context) (base : Base) (v : VariableTree) → AddsBlocks (variable_walked true c base v) (global_block c.structs v.declarator.node.id (variable_declared c base v).type ∷ []) []
global_adds c base v =
    judged_kept v.declarator.node (variable_tests true c (after_variable true c base v) base v)
    (then_blocks (then_blocks (declarator_kept c (variable_declared c base v).type v.declarator.lengths.given) (global_noted c v.declarator.node.id (variable_declared c base v).type))
    (option_initialiser_kept true (after_variable true c base v) (variable_declared c base v).type v.initialiser))

globals_add : (c : Context) (base : Base) (vs : List VariableTree) → AddsBlocks (variables_walked true c base vs) (variables_blocks c base vs) []
globals_add c base [] = nothing_kept
globals_add c base (v ∷ vs) = then_blocks (global_adds c base v) (globals_add (after_variable true c base v) base vs)

-- ---- statements

start_blocks : (c : Context) (start : StartTree) → AddsBlocks (start_walked c start) [] (map (noted_local c.structs) (start_locals c start))
start_blocks c no_start = nothing_kept
start_blocks c (start_expression e) = site_kept c discarded false e
start_blocks c (start_declaration d) = locals_add c d.base d.variables

condition_kept : (c : Context) (node : Node) (e : ExprTree) → Keeps (condition_walked c node e)
condition_kept c node e = judged_kept node (condition_tests (type_of c e)) (site_kept c used false e)

operand_kept : (c : Context) (node : Node) (e : ExprTree) → Keeps (operand_walked c node e)
operand_kept c node e = judged_kept node (switch_tests (type_of c e)) (site_kept c used false e)

map_both : (structs : Structs) (xs ys : List Local) → map (noted_local structs) xs ++ map (noted_local structs) ys ≡ map (noted_local structs) (xs ++ ys)
map_both structs [] ys = refl
map_both structs (x ∷ xs) ys = ap (λ l. noted_local structs x ∷ l) (map_both structs xs ys)

same_structs : (c : Context) (s : StmtTree) → (after_statement c s).structs ≡ c.structs
same_structs c s = ap (λ d. d.structs) (statement_inner c s)

for_structs : (c : Context) (start : StartTree) → (for_context c start).structs ≡ c.structs
for_structs c start = ap (λ d. d.structs) (start_inner (inner_scope c) start)

mutual
  statement_blocks : (c : Context) (s : StmtTree) → AddsBlocks (statement_walked c s) [] (map (noted_local c.structs) (statement_locals c s))
  statement_blocks c (empty node) = opened_kept
  statement_blocks c (expression node e) = then_blocks opened_kept (site_kept c discarded false e)
  statement_blocks c (declaration d) = locals_add c d.base d.variables
  statement_blocks c (block ss) = statements_blocks (inner_scope c) ss
  statement_blocks c (switch node e ss) = then_blocks (then_blocks opened_kept (operand_kept c node e)) (statements_blocks (switch_context c e) ss)
  statement_blocks c (case_label node e) = judged_kept node (case_tests c e) (then_blocks opened_kept (site_kept c used false e))
  statement_blocks c (default_label node) = judged_kept node (default_tests c) opened_kept
  statement_blocks c (branch node e s r) =
      with_locals (map_both c.structs (statement_locals (inner_scope c) s) (else_locals c r))
      (then_blocks (then_blocks opened_kept (condition_kept c node e)) (then_blocks (statement_blocks (inner_scope c) s) (else_blocks c r)))
  statement_blocks c (while_loop node e s) = then_blocks (then_blocks opened_kept (condition_kept c node e)) (statement_blocks (inside_loop (inner_scope c)) s)
  statement_blocks c (do_loop node s e) = then_kept (then_blocks opened_kept (statement_blocks (inside_loop (inner_scope c)) s)) (condition_kept c node e)
  statement_blocks c (for_loop node start e u s) =
      with_locals
      (ap (λ structs. map (noted_local c.structs) (start_locals (inner_scope c) start) ++ map (noted_local structs) (statement_locals (inside_loop (inner_scope (for_context c start))) s)) (for_structs c start)
      ∙ map_both c.structs (start_locals (inner_scope c) start) (statement_locals (inside_loop (inner_scope (for_context c start))) s))
      (then_blocks (then_blocks opened_kept (start_blocks (inner_scope c) start))
      (then_blocks (judged_kept node (for_tests (for_context c start) start e u) (then_blocks (option_kept (for_context c start) used e) (option_kept (for_context c start) discarded u)))
      (statement_blocks (inside_loop (inner_scope (for_context c start))) s)))
  statement_blocks c (break node) = judged_kept node (break_tests c) opened_kept
  statement_blocks c (continue node) = judged_kept node (continue_tests c) opened_kept
  statement_blocks c (return node e) = judged_kept node (return_tests c c.result e) (then_blocks opened_kept (option_kept c used e))

  statements_blocks : (c : Context) (ss : Stmts) → AddsBlocks (statements_walked c ss) [] (map (noted_local c.structs) (statements_locals c ss))
  statements_blocks c no_stmts = nothing_kept
  statements_blocks c (stmt_and s ss) =
      with_locals
      (ap (λ structs. map (noted_local c.structs) (statement_locals c s) ++ map (noted_local structs) (statements_locals (after_statement c s) ss)) (same_structs c s)
      ∙ map_both c.structs (statement_locals c s) (statements_locals (after_statement c s) ss))
      (then_blocks (statement_blocks c s) (statements_blocks (after_statement c s) ss))

  else_blocks : (c : Context) (r : Else) → AddsBlocks (else_walked c r) [] (map (noted_local c.structs) (else_locals c r))
  else_blocks c no_else = nothing_kept
  else_blocks c (else_by s) = statement_blocks (inner_scope c) s

-- ---- structs and headers

member_kept : (c : Context) (before : Before) (base : Base) (d : DeclaratorTree) → Keeps (member_walked c before base d)
member_kept c before base d = judged_kept d.node (member_tests c before base d) (then_blocks opened_kept (lengths_kept c d.lengths.given))

together_kept : (c : Context) (before : Before) (base : Base) (ds : List DeclaratorTree) → Keeps (together_walked c before base ds)
together_kept c before base [] = nothing_kept
together_kept c before base (d ∷ ds) = then_blocks (member_kept c before base d) (together_kept c (after_member c before base d) base ds)

members_kept : (c : Context) (before : Before) (ms : List MembersTree) → Keeps (members_walked c before ms)
members_kept c before [] = nothing_kept
members_kept c before (m ∷ ms) = then_blocks (together_kept c before m.base m.declarators) (members_kept c (after_together c before m.base m.declarators) ms)

struct_kept : (c : Context) (s : StructTree) → Keeps (struct_walked c s)
struct_kept c s = then_blocks (judged_kept s.node (test rules.UnknownTag (is_option_defined c s.name)) opened_kept) (members_kept (with_option_tag c s.name) no_members s.members)

type_names_kept : (c : Context) (base : Option TypeTree) (ds : List DeclaratorTree) → Keeps (type_names_walked c base ds)
type_names_kept c base [] = nothing_kept
type_names_kept c base (d ∷ ds) =
    then_blocks (judged_kept d.node (type_name_tests c base d) (then_blocks opened_kept (lengths_kept c d.lengths.given))) (type_names_kept (after_type_name c base d) base ds)

defined_kept : (c : Context) (d : DefinedTree) → Keeps (defined_walked c d)
defined_kept c (of_struct s) = struct_kept c s
defined_kept c (of_base b) = nothing_kept

typedef_kept : (c : Context) (t : TypedefTree) → Keeps (typedef_walked c t)
typedef_kept c t = then_blocks (defined_kept c t.defined) (type_names_kept (after_defined c t.defined) (defined_type c t.defined) t.names)

parameters_kept : (c : Context) (has_body : Bool) (ps : List ParameterTree) → Keeps (parameters_walked c has_body ps)
parameters_kept c has_body [] = nothing_kept
parameters_kept c has_body (p ∷ ps) =
    then_blocks (judged_kept p.node (parameter_tests c has_body p) (declarator_kept c (parameter_declared c p).type p.lengths.given)) (parameters_kept (after_parameter c p) has_body ps)

-- ---- bodies

parameters_are : (structs : Structs) (ps : List ParameterTree) (ts : List (Option TypeTree)) → parameters_noted structs ps ts ≡ map (noted_local structs) (parameters_locals ps ts)
parameters_are structs [] ts = refl
parameters_are structs (p ∷ ps) [] = refl
parameters_are structs (p ∷ ps) (t ∷ ts) = ap (λ l. local_tree structs p.node.id t ∷ l) (parameters_are structs ps ts)

with_parameter_structs : (c : Context) (p : ParameterTree) (t : Option TypeTree) (x : Option (List ℕ)) → (with_parameter c p t x).structs ≡ c.structs
with_parameter_structs c p t None = refl
with_parameter_structs c p t (Some x) = refl

with_parameters_structs : (c : Context) (ps : List ParameterTree) (ts : List (Option TypeTree)) → (with_parameters c ps ts).structs ≡ c.structs
with_parameters_structs c [] ts = refl
with_parameters_structs c (p ∷ ps) [] = refl
with_parameters_structs c (p ∷ ps) (t ∷ ts) = with_parameters_structs (with_parameter c p t p.name) ps ts ∙ with_parameter_structs c p t p.name

body_structs : (c : Context) (f : FunctionTree) → (body_context c f).structs ≡ c.structs
body_structs c f = with_parameters_structs (record (inner_scope (after_function c f)) { result = result_type c f }) f.parameters (parameter_types (inner_scope c) f.parameters)

blocks_are : (structs : Structs) (nodes : List ℕ) (ls : List Local)
    → map (λ l. l.block) (filter (is_block nodes) (map (noted_local structs) ls)) ≡ map (local_block structs) (filter (is_placed nodes) ls)
blocks_are structs nodes [] = refl
blocks_are structs nodes (l ∷ ls) = by (is_placed nodes l) (blocks_are structs nodes ls)
  where
    by : (b : Bool) → map (λ l. l.block) (filter (is_block nodes) (map (noted_local structs) ls)) ≡ map (local_block structs) (filter (is_placed nodes) ls)
        → map (λ l. l.block) (if b then noted_local structs l ∷ filter (is_block nodes) (map (noted_local structs) ls) else filter (is_block nodes) (map (noted_local structs) ls))
        ≡ map (local_block structs) (if b then l ∷ filter (is_placed nodes) ls else filter (is_placed nodes) ls)
    by true e = ap (λ bs. local_block structs l ∷ bs) e
    by false e = e

-- ---- functions

-- what a function adds: a local that is past the limit
record AddsPast (f : WalkTree → WalkTree) (globals : List Block) (past : Option ℕ) : Type 0 where
  at_file : (w : WalkTree) → (f w).noted.globals ≡ w.noted.globals ++ globals
  local_past : (w : WalkTree) → (f w).noted.local_past ≡ option_or w.noted.local_past past

or_none : (o : Option ℕ) → o ≡ option_or o None
or_none None = refl
or_none (Some n) = refl

or_both : (o p q : Option ℕ) → option_or (option_or o p) q ≡ option_or o (option_or p q)
or_both None p q = refl
or_both (Some n) p q = refl

past_of : {f : WalkTree → WalkTree} {gs : List Block} {ls : List LocalTree} → AddsBlocks f gs ls → AddsPast f gs None
past_of {f = f} a = record { at_file = λ w. a.at_file w; local_past = λ w. a.past w ∙ or_none w.noted.local_past }

then_past : {f g : WalkTree → WalkTree} {gs hs : List Block} {p q : Option ℕ} → AddsPast f gs p → AddsPast g hs q → AddsPast (λ w. g (f w)) (gs ++ hs) (option_or p q)
then_past {f = f} {g = g} {gs = gs} {hs = hs} {p = p} {q = q} a b = record {
  at_file = λ w. in_turn w.noted.globals (f w).noted.globals (g (f w)).noted.globals gs hs (a.at_file w) (b.at_file (f w));
  local_past = λ w. b.local_past (f w) ∙ ap (λ o. option_or o q) (a.local_past w) ∙ or_both w.noted.local_past p q;
}

abbrev parameters_of : Context → FunctionTree → List LocalTree
parameters_of c f = parameters_noted c.structs f.parameters (parameter_types (inner_scope c) f.parameters)

-- the locals and parameters that are noted in a body
locals_are : (c : Context) (f : FunctionTree) (ss : Stmts) → parameters_of c f ++ map (noted_local (body_context c f).structs) (statements_locals (body_context c f) ss) ≡ map (noted_local c.structs) (locals_in c f ss)
locals_are c f ss =
    ap (λ structs. parameters_of c f ++ map (noted_local structs) (statements_locals (body_context c f) ss)) (body_structs c f)
    ∙ ap (λ ls. ls ++ map (noted_local c.structs) (statements_locals (body_context c f) ss)) (parameters_are c.structs f.parameters (parameter_types (inner_scope c) f.parameters))
    ∙ map_both c.structs (parameters_locals f.parameters (parameter_types (inner_scope c) f.parameters)) (statements_locals (body_context c f) ss)

-- the declarations whose names are operands of `&` in a body
names_are : (c : Context) (f : FunctionTree) (ss : Stmts) (w : WalkTree)
    → drop (length w.found.addressed) (statements_walked (body_context c f) ss (with_body_begun (parameters_of c f) w)).found.addressed ≡ addressed_in c f ss
names_are c f ss w =
    ap (drop (length w.found.addressed)) ((statements_add (body_context c f) ss).names (with_body_begun (parameters_of c f) w))
    ∙ drop_at w.found.addressed (addressed_in c f ss) (length w.found.addressed) refl

past_is : (c : Context) (f : FunctionTree) (ss : Stmts) (nodes : List ℕ) (ls : List LocalTree) → nodes ≡ addressed_in c f ss → ls ≡ map (noted_local c.structs) (locals_in c f ss)
    → local_past_by nodes ls ≡ local_past local_limit c f (Some ss)
past_is c f ss nodes ls e h = (λ i. local_past_by (e i) (h i)) ∙ ap (block_past local_limit 0) (blocks_are c.structs (addressed_in c f ss) (locals_in c f ss))

body_past : (c : Context) (f : FunctionTree) (body : Option Stmts) → AddsPast (body_walked c f body) [] (local_past local_limit c f body)
body_past c f None = past_of nothing_kept
body_past c f (Some ss) = let a = statements_blocks (body_context c f) ss in record {
  at_file = λ w. a.at_file (with_body_begun (parameters_of c f) w);
  local_past = λ w.
      ap (λ o. option_or o (local_past_by (drop (length w.found.addressed) (statements_walked (body_context c f) ss (with_body_begun (parameters_of c f) w)).found.addressed) (statements_walked (body_context c f) ss (with_body_begun (parameters_of c f) w)).noted.locals))
      (a.past (with_body_begun (parameters_of c f) w))
      ∙ ap (option_or w.noted.local_past)
      (past_is c f ss (drop (length w.found.addressed) (statements_walked (body_context c f) ss (with_body_begun (parameters_of c f) w)).found.addressed)
      (statements_walked (body_context c f) ss (with_body_begun (parameters_of c f) w)).noted.locals
      (names_are c f ss w) (a.in_body (with_body_begun (parameters_of c f) w) ∙ locals_are c f ss));
}

function_past : (c : Context) (f : FunctionTree) → AddsPast (function_walked c f) [] (local_past local_limit c f f.body)
function_past c f =
    then_past (past_of (judged_kept f.node (header_tests c f) (then_blocks opened_kept (parameters_kept (inner_scope c) (is_some f.body) f.parameters)))) (body_past c f f.body)

-- ---- units

declarations_past : (c : Context) (ds : UnitTree) → AddsPast (declarations_walked c ds) (variable_blocks_from c ds) (local_past_from local_limit c ds)
declarations_past c [] = past_of nothing_kept
declarations_past c (structure s ∷ ds) = then_past (past_of (struct_kept c s)) (declarations_past (after_declaration c (structure s)) ds)
declarations_past c (forward f ∷ ds) = then_past (past_of opened_kept) (declarations_past (after_declaration c (forward f)) ds)
declarations_past c (typedef t ∷ ds) = then_past (past_of (typedef_kept c t)) (declarations_past (after_declaration c (typedef t)) ds)
declarations_past c (function f ∷ ds) = then_past (function_past c f) (declarations_past (after_declaration c (function f)) ds)
declarations_past c (variables d ∷ ds) = then_past (past_of (globals_add c d.base d.variables)) (declarations_past (after_declaration c (variables d)) ds)

pub unit_globals : (unit : UnitTree) → (unit_walked unit).noted.globals ≡ variable_blocks_from start_context unit
unit_globals unit = (declarations_past start_context unit).at_file start_walk

pub unit_past : (unit : UnitTree) → (unit_walked unit).noted.local_past ≡ local_past_from local_limit start_context unit
unit_past unit = (declarations_past start_context unit).local_past start_walk
