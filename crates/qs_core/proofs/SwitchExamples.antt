-- Runs of switches, computed from the definition: what is put is read from the run.
use Rattle.std.proofs.Common.{◌≡◌, ℕ, true, List, [], ◌∷◌, Some, None, refl}
use Rattle.qs_memory.specs.declared.operation.Signedness.TheVariants.{Signed}
use Rattle.qs_memory.specs.declared.operation.Comparison.TheVariants as comparisons
use Rattle.qs_memory.specs.declared.operation.BinaryOperation.TheVariants as binaries
use Rattle.qs_events.specs.Events.{Event, Calls, Returns, Puts}
use Rattle.qs_events.specs.Runs.{events_of, has_ended, is_undefined}
use Rattle.qs_calls.specs.declared.callee.Callee.TheVariants.{PutChar}
use Rattle.qs_base.specs.Names.{is_name}
use Rattle.qs_base.specs.Keywords.{is_keyword, keyword_of}
use Rattle.qs_core.specs.declared.labels.CoreLabel.{CoreLabel}
use Rattle.qs_core.specs.declared.labels.CoreLabel.TheVariants.{Case, Default}
use Rattle.qs_core.specs.declared.numbers.Target.TheVariants as targets
use Rattle.qs_core.specs.Trees.{CoreExprTree, binary, CoreStmtTree, skip, seq, assign, call, branch, loop, switch, break, continue, return, stmts_of, CoreUnitTree}
use Rattle.qs_core.specs.Units.{main_run}
use Rattle.qs_core.specs.Fits.{unit_fits}
use Rattle.qs_core.proofs.RunExamples.{end_of, main_with, int, c, counted}

abbrev put : CoreExprTree → CoreStmtTree
put e = call None PutChar (e ∷ [])

-- c = n; switch (c) { .. } return 9;
abbrev on : ℕ → List CoreLabel → List CoreStmtTree → CoreUnitTree
on n labels parts = main_with (assign (targets.Variable 0) (int n) ∷ switch c labels (stmts_of parts) ∷ return (Some (int 9)) ∷ [])

abbrev events : CoreUnitTree → List Event
events u = events_of (main_run u [] [] 4)

-- case 1: putchar(1); case 2: putchar(2); break; default: putchar(3);
abbrev three_parts : ℕ → CoreUnitTree
three_parts n = on n (Case 1 0 ∷ Case 2 1 ∷ Default 3 ∷ []) (put (int 1) ∷ put (int 2) ∷ break ∷ put (int 3) ∷ [])

it_fits : unit_fits (three_parts 1) ≡ true
unfolding is_name is_keyword keyword_of
it_fits = refl

falls_through : events (three_parts 1) ≡ Calls 0 ∷ Puts 1 ∷ Puts 2 ∷ Returns 0 ∷ []
falls_through = refl

begins_at_its_part : events (three_parts 2) ≡ Calls 0 ∷ Puts 2 ∷ Returns 0 ∷ []
begins_at_its_part = refl

goes_on_behind_it : end_of (main_run (three_parts 2) [] [] 4) ≡ has_ended (Some 9)
goes_on_behind_it = refl

meets_no_case : events (three_parts 7) ≡ Calls 0 ∷ Puts 3 ∷ Returns 0 ∷ []
meets_no_case = refl

-- the first of two equal labels
first_of_two : events (on 1 (Case 1 0 ∷ Case 1 1 ∷ []) (put (int 1) ∷ put (int 2) ∷ [])) ≡ Calls 0 ∷ Puts 1 ∷ Puts 2 ∷ Returns 0 ∷ []
first_of_two = refl

-- case 1: putchar(1); break; default: putchar(2); case 3: putchar(3);
abbrev default_between : ℕ → CoreUnitTree
default_between n = on n (Case 1 0 ∷ Default 2 ∷ Case 3 3 ∷ []) (put (int 1) ∷ break ∷ put (int 2) ∷ put (int 3) ∷ [])

a_case_in_front : events (default_between 1) ≡ Calls 0 ∷ Puts 1 ∷ Returns 0 ∷ []
a_case_in_front = refl

a_case_behind : events (default_between 3) ≡ Calls 0 ∷ Puts 3 ∷ Returns 0 ∷ []
a_case_behind = refl

falls_through_from_default : events (default_between 4) ≡ Calls 0 ∷ Puts 2 ∷ Puts 3 ∷ Returns 0 ∷ []
falls_through_from_default = refl

-- no label is met, and there is no `default`
nothing_is_met : events (on 2 (Case 1 0 ∷ []) (put (int 1) ∷ [])) ≡ Calls 0 ∷ Returns 0 ∷ []
nothing_is_met = refl

no_part_at_all : end_of (main_run (on 2 [] []) [] [] 4) ≡ has_ended (Some 9)
no_part_at_all = refl

-- -1, as its 32 bits
below_zero : events (on 4294967295 (Case 1 0 ∷ Case 4294967295 1 ∷ []) (put (int 1) ∷ put (int 2) ∷ [])) ≡ Calls 0 ∷ Puts 2 ∷ Returns 0 ∷ []
below_zero = refl

an_unset_operand : end_of (main_run (main_with (switch c (Default 0 ∷ []) (stmts_of (skip ∷ [])) ∷ [])) [] [] 4) ≡ is_undefined
an_unset_operand = refl

returns_from_a_part : end_of (main_run (on 1 (Case 1 0 ∷ []) (return (Some (int 5)) ∷ [])) [] [] 4) ≡ has_ended (Some 5)
returns_from_a_part = refl

-- ---- with loops

-- a break in a loop in a switch ends the loop alone
loop_in_switch : events (on 1 (Case 1 0 ∷ []) (loop break skip ∷ put (int 2) ∷ [])) ≡ Calls 0 ∷ Puts 2 ∷ Returns 0 ∷ []
loop_in_switch = refl

-- for (c = 0; ; c++) { if (c == 2) break; switch (c) { case 0: ..; default: putchar(8); } putchar(c); }
abbrev switch_in_loop : (part : CoreStmtTree) → CoreUnitTree
switch_in_loop part =
    counted (seq (stmts_of (
    branch (binary (binaries.Compare comparisons.Equal Signed) c (int 2)) break skip
    ∷ switch c (Case 0 0 ∷ Default 1 ∷ []) (stmts_of (part ∷ put (int 8) ∷ []))
    ∷ put c
    ∷ [])))

-- a break in a switch in a loop ends the switch alone
break_in_it : events (switch_in_loop break) ≡ Calls 0 ∷ Puts 0 ∷ Puts 8 ∷ Puts 1 ∷ Returns 0 ∷ []
break_in_it = refl

-- a continue there goes to the step of the loop
continue_in_it : events (switch_in_loop continue) ≡ Calls 0 ∷ Puts 8 ∷ Puts 1 ∷ Returns 0 ∷ []
continue_in_it = refl

-- a break in a switch in a switch ends the inner one
switch_in_switch : events (on 1 (Case 1 0 ∷ []) (switch c (Case 1 0 ∷ []) (stmts_of (break ∷ put (int 1) ∷ [])) ∷ put (int 2) ∷ [])) ≡ Calls 0 ∷ Puts 2 ∷ Returns 0 ∷ []
switch_in_switch = refl
