-- A scope ends: what is known is what was known before it.
use Rattle.std.proofs.Common.{◌≡◌, ◌≤◌, ℕ, Bool, false, List, [], ◌∷◌, ◌++◌, Option, Some, None, length, refl, sym, ap, ◌∙◌, arith}
use Rattle.std.proofs.lemmas.List.{length-append}
use Rattle.qs_syntax.specs.declared.types.Base.{Base}
use Rattle.qs_syntax.specs.Trees.{VariableTree, ParameterTree, StartTree, no_start, start_expression, start_declaration, StmtTree, empty, expression, declaration, block, switch, case_label, default_label, branch, while_loop, do_loop, for_loop, break, continue, return, Stmts, no_stmts, stmt_and}
use Rattle.qs_types.specs.Types.{TypeTree}
use Rattle.qs_types.specs.Contexts.{Context, inner_scope, inside_loop, inside_switch, with_case}
use Rattle.qs_types.specs.Declarations.{parameter_declared}
use Rattle.qs_types.specs.UnitRules.{with_parameter, with_parameters, after_parameter}
use Rattle.qs_types.specs.StatementRules.{after_variable, after_variables, case_value, after_statement, after_start}
use Rattle.qs_typing_findings.specs.ContextOf.{Surroundings, surroundings_of, outer_scope, with_result}
use Rattle.qs_typing_findings.specs.Functions.{after_parameters}
use Rattle.qs_typing_findings.specs.Statements.{after_statements}
use Rattle.qs_typing_findings.proofs.Tags.{scope_left}

-- the names and labels of the innermost scope aside, the same is known
abbrev pub with_inner : Context → (known : Context) → Context
with_inner c known = record c { inner = known.inner; labels = known.labels }

variables_inner : (at_file_scope : Bool) (c : Context) (base : Base) (vs : List VariableTree)
    → after_variables at_file_scope c base vs ≡ with_inner c (after_variables at_file_scope c base vs)
variables_inner at_file_scope c base [] = refl
variables_inner at_file_scope c base (v ∷ vs) = variables_inner at_file_scope (after_variable at_file_scope c base v) base vs

case_inner : (c : Context) (value : Option ℕ) → with_case c value ≡ with_inner c (with_case c value)
case_inner c None = refl
case_inner c (Some value) = refl

pub statement_inner : (c : Context) (s : StmtTree) → after_statement c s ≡ with_inner c (after_statement c s)
statement_inner c (empty node) = refl
statement_inner c (expression node e) = refl
statement_inner c (declaration d) = variables_inner false c d.base d.variables
statement_inner c (block ss) = refl
statement_inner c (switch node e ss) = refl
statement_inner c (case_label node e) = case_inner c (case_value c e)
statement_inner c (default_label node) = refl
statement_inner c (branch node e s r) = refl
statement_inner c (while_loop node e s) = refl
statement_inner c (do_loop node s e) = refl
statement_inner c (for_loop node start e u s) = refl
statement_inner c (break node) = refl
statement_inner c (continue node) = refl
statement_inner c (return node e) = refl

statements_inner : (c : Context) (ss : Stmts) → after_statements c ss ≡ with_inner c (after_statements c ss)
statements_inner c no_stmts = refl
statements_inner c (stmt_and s ss) =
    statements_inner (after_statement c s) ss ∙ ap (λ d. with_inner d (after_statements (after_statement c s) ss)) (statement_inner c s)

pub start_inner : (c : Context) (start : StartTree) → after_start c start ≡ with_inner c (after_start c start)
start_inner c no_start = refl
start_inner c (start_expression e) = refl
start_inner c (start_declaration d) = variables_inner false c d.base d.variables

-- ---- the end of a scope

-- what is known in a scope, where this is known around it
abbrev scope_in : Context → (known : Context) → Context
scope_in c known = record known { structs = c.structs; type_names = c.type_names; outer = c.inner ++ c.outer; result = c.result }

scope_ends : (c known : Context) → outer_scope (surroundings_of c) (scope_in c known) ≡ c
scope_ends c known = sym (scope_left (scope_in c known) c.inner c.outer (surroundings_of c) refl refl)

ends : (c x known : Context) (around : Surroundings) → around ≡ surroundings_of c → x ≡ scope_in c known → outer_scope around x ≡ c
ends c x known around e h = (λ i. outer_scope (e i) (h i)) ∙ scope_ends c known

leaves : (c x known : Context) (around : Surroundings) → around ≡ surroundings_of c → x ≡ scope_in c known → around.names ≤ length x.outer
leaves c x known around e h =
    let n : around.names ≡ length c.outer = ap (λ a. a.names) e in
    let p : length x.outer ≡ length (c.inner ++ c.outer) = ap (λ d. length d.outer) h in
    let q = length-append c.inner c.outer in
    omega arith

-- ---- a part of a statement

part_inner : (c begun after : Context) (s : StmtTree) → begun ≡ inner_scope c → after ≡ after_statement begun s → after ≡ with_inner (inner_scope c) (after_statement (inner_scope c) s)
part_inner c begun after s b a = a ∙ ap (λ d. after_statement d s) b ∙ statement_inner (inner_scope c) s

pub part_ends : (c begun after ended : Context) (around : Surroundings) (s : StmtTree) → around ≡ surroundings_of c → begun ≡ inner_scope c → after ≡ after_statement begun s → ended ≡ outer_scope around after → ended ≡ c
part_ends c begun after ended around s e b a l = l ∙ ends c after (with_inner (inner_scope c) (after_statement (inner_scope c) s)) around e (part_inner c begun after s b a)

pub part_leaves : (c begun after : Context) (around : Surroundings) (s : StmtTree) → around ≡ surroundings_of c → begun ≡ inner_scope c → after ≡ after_statement begun s → around.names ≤ length after.outer
part_leaves c begun after around s e b a = leaves c after (with_inner (inner_scope c) (after_statement (inner_scope c) s)) around e (part_inner c begun after s b a)

-- ---- a block

block_inner : (c begun after : Context) (ss : Stmts) → begun ≡ inner_scope c → after ≡ after_statements begun ss → after ≡ with_inner (inner_scope c) (after_statements (inner_scope c) ss)
block_inner c begun after ss b a = a ∙ ap (λ d. after_statements d ss) b ∙ statements_inner (inner_scope c) ss

pub block_ends : (c begun after ended : Context) (around : Surroundings) (ss : Stmts) → around ≡ surroundings_of c → begun ≡ inner_scope c → after ≡ after_statements begun ss → ended ≡ outer_scope around after → ended ≡ c
block_ends c begun after ended around ss e b a l = l ∙ ends c after (with_inner (inner_scope c) (after_statements (inner_scope c) ss)) around e (block_inner c begun after ss b a)

pub block_leaves : (c begun after : Context) (around : Surroundings) (ss : Stmts) → around ≡ surroundings_of c → begun ≡ inner_scope c → after ≡ after_statements begun ss → around.names ≤ length after.outer
block_leaves c begun after around ss e b a = leaves c after (with_inner (inner_scope c) (after_statements (inner_scope c) ss)) around e (block_inner c begun after ss b a)

-- ---- the block of a switch

switch_inner : (c begun labelled after : Context) (operand : Option TypeTree) (ss : Stmts) → begun ≡ inner_scope c → labelled ≡ inside_switch operand begun → after ≡ after_statements labelled ss
    → after ≡ with_inner (inside_switch operand (inner_scope c)) (after_statements (inside_switch operand (inner_scope c)) ss)
switch_inner c begun labelled after operand ss b l a =
    a ∙ ap (λ d. after_statements d ss) (l ∙ ap (inside_switch operand) b) ∙ statements_inner (inside_switch operand (inner_scope c)) ss

pub switch_ends : (c begun labelled after ended : Context) (around : Surroundings) (operand : Option TypeTree) (ss : Stmts) → around ≡ surroundings_of c → begun ≡ inner_scope c → labelled ≡ inside_switch operand begun
    → after ≡ after_statements labelled ss → ended ≡ outer_scope around after → ended ≡ c
switch_ends c begun labelled after ended around operand ss e b l a o =
    o
    ∙ ends c after (with_inner (inside_switch operand (inner_scope c)) (after_statements (inside_switch operand (inner_scope c)) ss)) around e
    (switch_inner c begun labelled after operand ss b l a)

pub switch_leaves : (c begun labelled after : Context) (around : Surroundings) (operand : Option TypeTree) (ss : Stmts) → around ≡ surroundings_of c → begun ≡ inner_scope c → labelled ≡ inside_switch operand begun
    → after ≡ after_statements labelled ss → around.names ≤ length after.outer
switch_leaves c begun labelled after around operand ss e b l a =
    leaves c after (with_inner (inside_switch operand (inner_scope c)) (after_statements (inside_switch operand (inner_scope c)) ss)) around e
    (switch_inner c begun labelled after operand ss b l a)

-- ---- the body of a loop

body_inner : (c begun looped after : Context) (s : StmtTree) → begun ≡ inner_scope c → looped ≡ inside_loop begun → after ≡ after_statement looped s
    → after ≡ with_inner (inside_loop (inner_scope c)) (after_statement (inside_loop (inner_scope c)) s)
body_inner c begun looped after s b l a = a ∙ ap (λ d. after_statement d s) (l ∙ ap inside_loop b) ∙ statement_inner (inside_loop (inner_scope c)) s

pub body_ends : (c begun looped after ended : Context) (around : Surroundings) (s : StmtTree) → around ≡ surroundings_of c → begun ≡ inner_scope c → looped ≡ inside_loop begun → after ≡ after_statement looped s
    → ended ≡ outer_scope around after → ended ≡ c
body_ends c begun looped after ended around s e b l a o =
    o ∙ ends c after (with_inner (inside_loop (inner_scope c)) (after_statement (inside_loop (inner_scope c)) s)) around e (body_inner c begun looped after s b l a)

pub body_leaves : (c begun looped after : Context) (around : Surroundings) (s : StmtTree) → around ≡ surroundings_of c → begun ≡ inner_scope c → looped ≡ inside_loop begun → after ≡ after_statement looped s → around.names ≤ length after.outer
body_leaves c begun looped after around s e b l a =
    leaves c after (with_inner (inside_loop (inner_scope c)) (after_statement (inside_loop (inner_scope c)) s)) around e (body_inner c begun looped after s b l a)

-- ---- a `for`

for_inner : (c begun started bodied : Context) (start : StartTree) → begun ≡ inner_scope c → started ≡ after_start begun start → bodied ≡ started → bodied ≡ with_inner (inner_scope c) (after_start (inner_scope c) start)
for_inner c begun started bodied start b s e = e ∙ s ∙ ap (λ d. after_start d start) b ∙ start_inner (inner_scope c) start

pub for_ends : (c begun started bodied ended : Context) (around : Surroundings) (start : StartTree) → around ≡ surroundings_of c → begun ≡ inner_scope c → started ≡ after_start begun start → bodied ≡ started → ended ≡ outer_scope around bodied → ended ≡ c
for_ends c begun started bodied ended around start n b s e l = l ∙ ends c bodied (with_inner (inner_scope c) (after_start (inner_scope c) start)) around n (for_inner c begun started bodied start b s e)

pub for_leaves : (c begun started bodied : Context) (around : Surroundings) (start : StartTree) → around ≡ surroundings_of c → begun ≡ inner_scope c → started ≡ after_start begun start → bodied ≡ started → around.names ≤ length bodied.outer
for_leaves c begun started bodied around start n b s e = leaves c bodied (with_inner (inner_scope c) (after_start (inner_scope c) start)) around n (for_inner c begun started bodied start b s e)

-- ---- parameters

parameter_inner : (c : Context) (p : ParameterTree) (t : Option TypeTree) (x : Option (List ℕ)) → with_parameter c p t x ≡ with_inner c (with_parameter c p t x)
parameter_inner c p t None = refl
parameter_inner c p t (Some x) = refl

after_parameters_inner : (c : Context) (ps : List ParameterTree) → after_parameters c ps ≡ with_inner c (after_parameters c ps)
after_parameters_inner c [] = refl
after_parameters_inner c (p ∷ ps) =
    after_parameters_inner (after_parameter c p) ps ∙ ap (λ d. with_inner d (after_parameters (after_parameter c p) ps)) (parameter_inner c p (parameter_declared c p).type p.name)

with_parameters_inner : (c : Context) (ps : List ParameterTree) (ts : List (Option TypeTree)) → with_parameters c ps ts ≡ with_inner c (with_parameters c ps ts)
with_parameters_inner c [] ts = refl
with_parameters_inner c (p ∷ ps) [] = refl
with_parameters_inner c (p ∷ ps) (t ∷ ts) =
    with_parameters_inner (with_parameter c p t p.name) ps ts ∙ ap (λ d. with_inner d (with_parameters (with_parameter c p t p.name) ps ts)) (parameter_inner c p t p.name)

header_inner : (c begun after : Context) (ps : List ParameterTree) → begun ≡ inner_scope c → after ≡ after_parameters begun ps → after ≡ with_inner (inner_scope c) (after_parameters (inner_scope c) ps)
header_inner c begun after ps b a = a ∙ ap (λ d. after_parameters d ps) b ∙ after_parameters_inner (inner_scope c) ps

pub header_ends : (c begun after ended : Context) (around : Surroundings) (ps : List ParameterTree) → around ≡ surroundings_of c → begun ≡ inner_scope c → after ≡ after_parameters begun ps → ended ≡ outer_scope around after → ended ≡ c
header_ends c begun after ended around ps e b a l = l ∙ ends c after (with_inner (inner_scope c) (after_parameters (inner_scope c) ps)) around e (header_inner c begun after ps b a)

pub header_leaves : (c begun after : Context) (around : Surroundings) (ps : List ParameterTree) → around ≡ surroundings_of c → begun ≡ inner_scope c → after ≡ after_parameters begun ps → around.names ≤ length after.outer
header_leaves c begun after around ps e b a = leaves c after (with_inner (inner_scope c) (after_parameters (inner_scope c) ps)) around e (header_inner c begun after ps b a)

-- ---- the items of a body

abbrev items_begun : Context → List ParameterTree → List (Option TypeTree) → Option TypeTree → Context
items_begun c ps ts t = with_parameters (with_result (inner_scope c) t) ps ts

items_inner : (c : Context) (ps : List ParameterTree) (ts : List (Option TypeTree)) (t : Option TypeTree) (ss : Stmts)
    → with_result (after_statements (items_begun c ps ts t) ss) c.result ≡ with_inner (inner_scope c) (after_statements (items_begun c ps ts t) ss)
items_inner c ps ts t ss =
    ap (λ d. with_result d c.result) (statements_inner (items_begun c ps ts t) ss ∙ ap (λ d. with_inner d (after_statements (items_begun c ps ts t) ss)) (with_parameters_inner (with_result (inner_scope c) t) ps ts))

items_known : (c begun set known after reset : Context) (before t : Option TypeTree) (ps : List ParameterTree) (ts : List (Option TypeTree)) (ss : Stmts) → begun ≡ inner_scope c → before ≡ begun.result → set ≡ with_result begun t
    → known ≡ with_parameters set ps ts → after ≡ after_statements known ss → reset ≡ with_result after before → reset ≡ with_inner (inner_scope c) (after_statements (items_begun c ps ts t) ss)
items_known c begun set known after reset before t ps ts ss b r s k a e =
    e
    ∙ (λ i. with_result ((a ∙ ap (λ d. after_statements d ss) (k ∙ ap (λ d. with_parameters d ps ts) (s ∙ ap (λ d. with_result d t) b))) i) ((r ∙ ap (λ d. d.result) b) i))
    ∙ items_inner c ps ts t ss

pub items_end : (c begun set known after reset ended : Context) (around : Surroundings) (before t : Option TypeTree) (ps : List ParameterTree) (ts : List (Option TypeTree)) (ss : Stmts) → around ≡ surroundings_of c → begun ≡ inner_scope c → before ≡ begun.result
    → set ≡ with_result begun t → known ≡ with_parameters set ps ts → after ≡ after_statements known ss → reset ≡ with_result after before → ended ≡ outer_scope around reset → ended ≡ c
items_end c begun set known after reset ended around before t ps ts ss n b r s k a e l =
    l ∙ ends c reset (with_inner (inner_scope c) (after_statements (items_begun c ps ts t) ss)) around n (items_known c begun set known after reset before t ps ts ss b r s k a e)

pub items_leave : (c begun set known after reset : Context) (around : Surroundings) (before t : Option TypeTree) (ps : List ParameterTree) (ts : List (Option TypeTree)) (ss : Stmts) → around ≡ surroundings_of c → begun ≡ inner_scope c → before ≡ begun.result
    → set ≡ with_result begun t → known ≡ with_parameters set ps ts → after ≡ after_statements known ss → reset ≡ with_result after before → around.names ≤ length reset.outer
items_leave c begun set known after reset around before t ps ts ss n b r s k a e =
    leaves c reset (with_inner (inner_scope c) (after_statements (items_begun c ps ts t) ss)) around n (items_known c begun set known after reset before t ps ts ss b r s k a e)
