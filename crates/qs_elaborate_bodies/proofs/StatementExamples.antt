-- What each form of a statement is in core, by examples; data too.
use Rattle.std.proofs.Common.{◌≡◌, ℕ, true, false, List, [], ◌∷◌, ◌++◌, Some, None, refl}
use Rattle.qs_memory.specs.Values.{null, into}
use Rattle.qs_memory.specs.Memory.{byte, nulls, parts_of}
use Rattle.qs_memory.specs.declared.scalar.Scalar.TheVariants.{Char, Int}
use Rattle.qs_calls.specs.declared.callee.Callee.{Callee}
use Rattle.qs_calls.specs.declared.callee.Callee.TheVariants.{Function}
use Rattle.qs_core.specs.declared.labels.CoreLabel.TheVariants.{Case, Default}
use Rattle.qs_core.specs.Trees.{CoreExprTree, literal, temporary, conversion, CoreStmtTree, skip, seq, stmts_of, blank, bytes, pointer}
use Rattle.qs_core.specs.Trees as core
use Rattle.qs_meaning.specs.Typed.{unchanged, converted, Expr, constant, value, called, variable, no_arguments, set, Effect, nothing, discard, assign, perform, Stmt, evaluate, block, switch, case_label, default_label, branch, while_loop, do_loop, for_loop, break, continue, return, return_nothing, no_stmts, stmt_and}
use Rattle.qs_elaborate_bodies.specs.Parts.{Temporaries, keep, written, Listed, plain}
use Rattle.qs_elaborate_bodies.specs.Statements.{statement_core}
use Rattle.qs_elaborate_bodies.specs.Data.{data_core}

-- ---- words

abbrev x : Expr
x = value Int (variable 0)

abbrev core_x : CoreExprTree
core_x = core.variable Int 0

abbrev function_f : Callee
function_f = Function (record { 0 = 0 })

-- f()
abbrev f : Expr
f = called Int function_f no_arguments

abbrev calls_f : ℕ → CoreStmtTree
calls_f k = core.call (Some k) function_f []

abbrev first_temporary : CoreExprTree
first_temporary = temporary Int 0

-- f(); and x=1;
abbrev call_f : Stmt
call_f = evaluate (perform function_f no_arguments)

abbrev core_call_f : CoreStmtTree
core_call_f = core.call None function_f []

abbrev one_set : Effect
one_set = assign (set Int (variable 0) unchanged (constant Int 1))

abbrev core_one_set : CoreStmtTree
core_one_set = written Int (plain 0) (literal Int 1)

abbrev both : CoreStmtTree
both = seq (stmts_of (core_one_set ∷ core_call_f ∷ []))

-- {x=1; f();}
abbrev both_done : Stmt
both_done = block (stmt_and (evaluate one_set) (stmt_and call_f no_stmts))

abbrev does : List CoreStmtTree → Temporaries → Listed
does ss ts = record { statements = ss; temporaries = ts }

-- ---- blocks and conditions

-- ; and {}
empty_statement : statement_core (evaluate nothing) [] ≡ does [] []
empty_statement = refl

empty_block : statement_core (block no_stmts) [] ≡ does [] []
empty_block = refl

-- {x=1;{f();}}: the lists are joined
joined_lists : statement_core (block (stmt_and (evaluate one_set) (stmt_and (block (stmt_and call_f no_stmts)) no_stmts))) [] ≡ does (core_one_set ∷ core_call_f ∷ []) []
joined_lists = refl

-- if(x)f();
branch_without_else : statement_core (branch x call_f (evaluate nothing)) [] ≡ does (core.branch core_x core_call_f skip ∷ []) []
branch_without_else = refl

-- if(f()){x=1;f();}else;
condition_behind_call : statement_core (branch f both_done (evaluate nothing)) [] ≡ does (calls_f 0 ∷ core.branch first_temporary both skip ∷ []) (Int ∷ [])
condition_behind_call = refl

-- the temporaries of the second branch follow those of the first
branches_numbered :
    statement_core (branch x (evaluate (discard f)) (evaluate (discard x))) []
    ≡ does (core.branch core_x (seq (stmts_of (calls_f 0 ∷ keep 1 first_temporary ∷ []))) (keep 2 core_x) ∷ []) (Int ∷ Int ∷ Int ∷ [])
branches_numbered = refl

-- ---- loops

-- while(x)f();
while_plain : statement_core (while_loop x call_f) [] ≡ does (core.loop (core.branch core_x core_call_f core.break) skip ∷ []) []
while_plain = refl

-- while(f())x=1;
while_behind_call :
    statement_core (while_loop f (evaluate one_set)) []
    ≡ does (core.loop (seq (stmts_of (calls_f 0 ∷ core.branch first_temporary core_one_set core.break ∷ []))) skip ∷ []) (Int ∷ [])
while_behind_call = refl

-- do f(); while(x);
do_plain : statement_core (do_loop call_f x) [] ≡ does (core.loop core_call_f (core.branch core_x skip core.break) ∷ []) []
do_plain = refl

-- do {x=1;f();} while(f());
do_behind_call :
    statement_core (do_loop both_done f) []
    ≡ does (core.loop both (seq (stmts_of (calls_f 0 ∷ core.branch first_temporary skip core.break ∷ []))) ∷ []) (Int ∷ [])
do_behind_call = refl

-- for(x=1;x;f())continue;
for_whole :
    statement_core (for_loop one_set (Some x) (perform function_f no_arguments) continue) []
    ≡ does (core_one_set ∷ core.loop (core.branch core_x core.continue core.break) core_call_f ∷ []) []
for_whole = refl

-- for(;;)break;
for_without_parts : statement_core (for_loop nothing None nothing break) [] ≡ does (core.loop core.break skip ∷ []) []
for_without_parts = refl

-- for(;f();)x=1;
for_behind_call :
    statement_core (for_loop nothing (Some f) nothing (evaluate one_set)) []
    ≡ does (core.loop (seq (stmts_of (calls_f 0 ∷ core.branch first_temporary core_one_set core.break ∷ []))) skip ∷ []) (Int ∷ [])
for_behind_call = refl

-- ---- switches

-- switch(x){case 1: f(); case 2: {x=1;f();} break; default: x=1;}: a label has the number of the part behind it
switch_plain :
    statement_core
    (switch unchanged x
    (stmt_and (case_label 1) (stmt_and call_f (stmt_and (case_label 2) (stmt_and both_done (stmt_and break (stmt_and default_label (stmt_and (evaluate one_set) no_stmts))))))))
    []
    ≡ does
    (core.switch core_x (Case 1 0 ∷ Case 2 1 ∷ Default 3 ∷ []) (stmts_of (core_call_f ∷ both ∷ core.break ∷ core_one_set ∷ [])) ∷ [])
    []
switch_plain = refl

-- switch(x){int y; f(); case 1: default: case 2: ;}: labels of one part; a declaration without initialiser and `;` are parts
switch_labels :
    statement_core
    (switch unchanged x
    (stmt_and (evaluate nothing) (stmt_and call_f (stmt_and (case_label 1) (stmt_and default_label (stmt_and (case_label 2) (stmt_and (evaluate nothing) no_stmts)))))))
    []
    ≡ does (core.switch core_x (Case 1 2 ∷ Default 2 ∷ Case 2 2 ∷ []) (stmts_of (skip ∷ core_call_f ∷ skip ∷ [])) ∷ []) []
switch_labels = refl

-- switch(f()){default: f();}, f of type char: what the operand does stands before it
switch_behind_call :
    statement_core (switch (converted Char Int) (called Char function_f no_arguments) (stmt_and default_label (stmt_and call_f no_stmts))) []
    ≡ does (calls_f 0 ∷ core.switch (conversion Int (temporary Char 0)) (Default 0 ∷ []) (stmts_of (core_call_f ∷ [])) ∷ []) (Char ∷ [])
switch_behind_call = refl

-- switch(65){}: the operand is converted as a literal
switch_without_items : statement_core (switch unchanged (constant Int 65) no_stmts) [] ≡ does (core.switch (literal Int 65) [] (stmts_of []) ∷ []) []
switch_without_items = refl

-- switch(f()){case 1: if(f())x=1;}: the temporaries of the parts follow that of the operand
switch_numbered :
    statement_core (switch unchanged f (stmt_and (case_label 1) (stmt_and (branch f (evaluate one_set) (evaluate nothing)) no_stmts))) []
    ≡ does
    (calls_f 0
    ∷ core.switch first_temporary (Case 1 0 ∷ []) (stmts_of (seq (stmts_of (calls_f 1 ∷ core.branch (temporary Int 1) core_one_set skip ∷ [])) ∷ []))
    ∷ [])
    (Int ∷ Int ∷ [])
switch_numbered = refl

-- switch(x){case 1: switch(x){case 4294967295: break;} continue;}
switch_nested :
    statement_core
    (switch unchanged x (stmt_and (case_label 1) (stmt_and (switch unchanged x (stmt_and (case_label 4294967295) (stmt_and break no_stmts))) (stmt_and continue no_stmts))))
    []
    ≡ does
    (core.switch core_x (Case 1 0 ∷ []) (stmts_of (core.switch core_x (Case 4294967295 0 ∷ []) (stmts_of (core.break ∷ [])) ∷ core.continue ∷ [])) ∷ [])
    []
switch_nested = refl

-- ---- jumps

breaks : statement_core break [] ≡ does (core.break ∷ []) []
breaks = refl

continues : statement_core continue [] ≡ does (core.continue ∷ []) []
continues = refl

-- return f(); in a function of type char
returned_value : statement_core (return (converted Int Char) f) [] ≡ does (calls_f 0 ∷ core.return (Some (conversion Char first_temporary)) ∷ []) (Int ∷ [])
returned_value = refl

returned_literal : statement_core (return (converted Int Char) (constant Int 65)) [] ≡ does (core.return (Some (literal Char 65)) ∷ []) []
returned_literal = refl

returns_nothing : statement_core return_nothing [] ≡ does (core.return None ∷ []) []
returns_nothing = refl

-- ---- data

-- "hi": bytes that aren't written to
text_data : data_core (record { cells = byte 104 ∷ byte 105 ∷ byte 0 ∷ []; writable = false }) ≡ record { is_writable = false; pieces = bytes (104 ∷ 105 ∷ 0 ∷ []) ∷ [] }
text_data = refl

-- struct {char c; int *p; int *q[2];}, where p points into the block 2 and the others are null
pointer_data :
    data_core (record {
      cells = byte 7 ∷ byte 0 ∷ byte 0 ∷ byte 0 ∷ (parts_of (into 2 4) 0 4 ++ (parts_of null 0 4 ++ parts_of null 0 4));
      writable = true;
    })
    ≡ record { is_writable = true; pieces = bytes (7 ∷ 0 ∷ 0 ∷ 0 ∷ []) ∷ pointer 2 4 ∷ blank (nulls 2) ∷ [] }
pointer_data = refl
