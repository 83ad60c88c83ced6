-- The code of statements.
use Rattle.std.specs.Prelude.{ℕ, ◌+◌, ◌&&◌, ◌||◌, not, max, Bool, true, false, if◌then◌else◌, List, [], ◌∷◌, ◌++◌, map, Option, Some, None}
use Rattle.qs_memory.specs.Memory.{BlankTree}
use Rattle.qs_memory.specs.declared.scalar.Scalar.{Scalar}
use Rattle.qs_calls.specs.declared.callee.Callee.{Callee}
use Rattle.qs_core.specs.Trees as core
use Rattle.qs_core.specs.Trees.{CoreStmtTree, CoreStmts, no_stmts, stmt_and}
use Rattle.qs_core.specs.Statements.{default_part}
use Rattle.qs_core.specs.declared.labels.CoreLabel.{CoreLabel}
use Rattle.qs_core.specs.declared.numbers.Target.{Target}
use Rattle.qs_core.specs.declared.numbers.Target.TheVariants as targets
use Rattle.qs_tac.specs.Trees.{InstructionTree, store, copy, fill, call, jump, return}
use Rattle.qs_lower_expressions.specs.Exits.{Exit, falls, goes, is_fall, place_of, settled, exit_size, exit_code}
use Rattle.qs_lower_expressions.specs.Expressions.{ExprCode, size_of, code_of, operand_of, used_by, address_at, lowered, all_size, all_code, all_operands, all_used}
use Rattle.qs_lower.specs.Choices.{choice_size, choice_code, other_place}

-- ---- exits

-- where a statement goes on, after a break, and after a continue
pub record Exits : Type 0 where
  pub next : Exit
  pub on_break : Exit
  pub on_continue : Exit

-- which of them fall
pub record Falls : Type 0 where
  pub next : Bool
  pub on_break : Bool
  pub on_continue : Bool

abbrev pub falls_of : Exits → Falls
falls_of x = record { next = is_fall x.next; on_break = is_fall x.on_break; on_continue = is_fall x.on_continue }

-- the exits of a part that doesn't stand at the end of the code, and of one behind which this place comes
abbrev pub elsewhere : Exits → Exits
elsewhere x = record { next = settled x.next; on_break = settled x.on_break; on_continue = settled x.on_continue }

abbrev pub before : (place : ℕ) → Exits → Exits
before p x = record { next = falls p; on_break = settled x.on_break; on_continue = settled x.on_continue }

abbrev pub none_falls : Falls
none_falls = record { next = false; on_break = false; on_continue = false }

abbrev pub next_falls : Falls
next_falls = record { next = true; on_break = false; on_continue = false }

-- a statement that only goes on somewhere
pub data Way : Type 0 where
  to_next : Way
  to_break : Way
  to_continue : Way

abbrev pub exit_to : Way → Exits → Exit
exit_to to_next x = x.next
exit_to to_break x = x.on_break
exit_to to_continue x = x.on_continue

abbrev pub falls_to : Way → Falls → Bool
falls_to to_next y = y.next
falls_to to_break y = y.on_break
falls_to to_continue y = y.on_continue

-- ---- code

-- `at` is the index of its first instruction, and the entry that of the one where jumps to it go
pub record Part : Type 0 where
  pub size : Falls → ℕ
  pub code : Exits → (at : ℕ) → List InstructionTree
  pub entry : (at : ℕ) → ℕ

-- a body that ends in a test: where it holds a statement follows, and else a break
pub record Tested : Type 0 where
  pub front : Part
  pub test : ExprCode
  pub rest : Part
  -- it does nothing
  pub is_idle : Bool

pub record StmtCode : Type 0 where
  pub part : Part
  -- how many free temporaries are used
  pub used : ℕ
  -- where it goes, if it does nothing else
  pub way : Option Way
  -- it never comes to what is next
  pub ends : Bool
  -- a break of the loop or switch around it can be reached
  pub breaks : Bool
  pub tested : Option Tested

abbrev pub entered_first : (at : ℕ) → ℕ
entered_first at = at

abbrev pub going : Way → Part
going w = record { size = λ y. exit_size (falls_to w y); code = λ x at. exit_code (exit_to w x); entry = entered_first }

-- one part behind another
abbrev pub joined : Part → Part → Part
joined a b = record {
  size = λ y. a.size next_falls + b.size y;
  code = λ x at.
      let second = at + a.size next_falls in
      a.code (before (b.entry second) x) at ++ b.code x second;
  entry = a.entry;
}

-- a part, and then only another way on
abbrev pub redirected_exits : Way → Exits → Exits
redirected_exits w x = record x { next = exit_to w x }

abbrev pub redirected : Part → Way → Part
redirected a w = record {
  size = λ y. a.size (record y { next = falls_to w y });
  code = λ x at. a.code (redirected_exits w x) at;
  entry = a.entry;
}

-- instructions, and what is next
abbrev pub straight : (size used : ℕ) → (code : (at : ℕ) → List InstructionTree) → StmtCode
straight size used code = record {
  part = record { size = λ y. size + exit_size y.next; code = λ x at. code at ++ exit_code x.next; entry = entered_first };
  used = used;
  way = None;
  ends = false;
  breaks = false;
  tested = None;
}

abbrev pub leaves : Way → Bool
leaves to_next = false
leaves to_break = true
leaves to_continue = true

abbrev pub is_break : Way → Bool
is_break to_next = false
is_break to_break = true
is_break to_continue = false

abbrev pub by_way : Way → StmtCode
by_way w = record {
  part = going w;
  used = 0;
  way = Some w;
  ends = leaves w;
  breaks = is_break w;
  tested = None;
}

-- ---- assignments, stores, copies, fills, calls, returns; t is the first temporary that is free

abbrev pub target_of : (variables : ℕ) → Target → ℕ
target_of v (targets.Variable x) = x
target_of v (targets.Temporary k) = v + k

abbrev pub of_assign : (x t : ℕ) → ExprCode → StmtCode
of_assign x t e = straight e.size e.used (e.into x t)

abbrev pub of_store : (t : ℕ) → Scalar → (to value : ExprCode) → StmtCode
of_store t s p e =
    straight (p.base_size + size_of e + 1) (max p.base_used (p.base_own + used_by e))
    (λ at.
    p.base_code t at
    ++ (code_of e (t + p.base_own) (at + p.base_size) ++ store s (address_at p t) (operand_of e (t + p.base_own)) ∷ []))

abbrev pub of_copy : (t size alignment : ℕ) → ExprCode → ExprCode → StmtCode
of_copy t size alignment p q =
    straight (p.base_size + q.base_size + 1) (max p.base_used (p.base_own + q.base_used))
    (λ at.
    p.base_code t at
    ++ (q.base_code (t + p.base_own) (at + p.base_size)
    ++ copy size alignment (address_at p t) (address_at q (t + p.base_own)) ∷ []))

abbrev pub of_fill : (t : ℕ) → BlankTree → ExprCode → StmtCode
of_fill t blank p = straight (p.base_size + 1) p.base_used (λ at. p.base_code t at ++ fill blank (address_at p t) ∷ [])

abbrev pub of_call : (t : ℕ) → (x : Option ℕ) → Callee → List ExprCode → StmtCode
of_call t x f es = straight (all_size es + 1) (all_used es) (λ at. all_code es t at ++ call x f (all_operands es t) ∷ [])

abbrev pub taken_by : (variables : ℕ) → Option ℕ → Option ℕ
taken_by v None = None
taken_by v (Some k) = Some (v + k)

abbrev pub of_return : (t : ℕ) → ExprCode → StmtCode
of_return t e = record {
  part = record { size = λ y. size_of e + 1; code = λ x at. code_of e t at ++ return (Some (operand_of e t)) ∷ []; entry = entered_first };
  used = used_by e;
  way = None;
  ends = true;
  breaks = false;
  tested = None;
}

abbrev pub of_plain_return : StmtCode
of_plain_return = record {
  part = record { size = λ y. 1; code = λ x at. return None ∷ []; entry = entered_first };
  used = 0;
  way = None;
  ends = true;
  breaks = false;
  tested = None;
}

-- ---- several statements

abbrev pub tested_behind : Part → Option Tested → Option Tested
tested_behind a None = None
tested_behind a (Some b) = Some (record b { front = joined a b.front })

abbrev pub of_joined : StmtCode → StmtCode → StmtCode
of_joined a b = record {
  part = joined a.part b.part;
  used = max a.used b.used;
  way = None;
  ends = b.ends;
  breaks = a.breaks || b.breaks;
  tested = tested_behind a.part b.tested;
}

abbrev pub of_before : StmtCode → Option Way → StmtCode → StmtCode
of_before a None b = of_joined a b
of_before a (Some w) b =
    record a { part = redirected a.part w; ends = b.ends; breaks = a.breaks || b.breaks; tested = None }

-- what only goes to what is next is nothing
abbrev pub of_ways : Option Way → StmtCode → StmtCode → StmtCode
of_ways None a b = of_before a b.way b
of_ways (Some w) a b = b

-- what stands behind a break, a continue, a return or an endless loop is never reached
abbrev pub of_both : StmtCode → StmtCode → StmtCode
of_both a b = if a.ends then a else of_ways a.way a b

-- ---- `if`: a part that only goes somewhere is an exit of the test

abbrev pub branch_part : (t : ℕ) → ExprCode → Option Way → Option Way → Part → Part → Part
branch_part t e (Some v) (Some w) a b = record {
  size = λ y. e.test_size (falls_to v y) (falls_to w y);
  code = λ x at. e.test (exit_to v x) (exit_to w x) t at;
  entry = entered_first;
}
branch_part t e None (Some w) a b = record {
  size = λ y. e.test_size true false + a.size y;
  code = λ x at.
      let first = at + e.test_size true false in
      e.test (falls (a.entry first)) (settled (exit_to w x)) t at ++ a.code x first;
  entry = entered_first;
}
branch_part t e (Some v) None a b = record {
  size = λ y. e.test_size false true + b.size y;
  code = λ x at.
      let second = at + e.test_size false true in
      e.test (settled (exit_to v x)) (falls (b.entry second)) t at ++ b.code x second;
  entry = entered_first;
}
branch_part t e None None a b = record {
  size = λ y. e.test_size true false + a.size none_falls + b.size y;
  code = λ x at.
      let first = at + e.test_size true false in
      let second = first + a.size none_falls in
      e.test (falls (a.entry first)) (goes (b.entry second)) t at
      ++ (a.code (elsewhere x) first ++ b.code x second);
  entry = entered_first;
}

-- where the other branch is a break, the statement is a test for the end of a loop
abbrev pub test_of : ExprCode → (is_idle : Bool) → Part → Option Way → Option Tested
test_of e idle rest None = None
test_of e idle rest (Some to_next) = None
test_of e idle rest (Some to_break) = Some (record { front = going to_next; test = e; rest = rest; is_idle = idle })
test_of e idle rest (Some to_continue) = None

abbrev pub is_next : Option Way → Bool
is_next None = false
is_next (Some to_next) = true
is_next (Some to_break) = false
is_next (Some to_continue) = false

abbrev pub of_test : (t : ℕ) → ExprCode → StmtCode → StmtCode → StmtCode
of_test t e a b = record {
  part = branch_part t e a.way b.way a.part b.part;
  used = max e.test_used (max a.used b.used);
  way = None;
  ends = a.ends && b.ends;
  breaks = a.breaks || b.breaks;
  tested = test_of e (is_next a.way) a.part b.way;
}

-- a test whose answer is known isn't made, and the other branch is never reached
abbrev pub of_branch : (known : Option Bool) → (t : ℕ) → ExprCode → StmtCode → StmtCode → StmtCode
of_branch None t e a b = of_test t e a b
of_branch (Some true) t e a b = a
of_branch (Some false) t e a b = b

-- ---- loops

-- the exits of a body behind which the step comes, and those of what only jumps reach
abbrev pub body_falls : Falls
body_falls = record { next = true; on_break = false; on_continue = true }

abbrev pub body_exits : (again : ℕ) → (behind : Exit) → Exits
body_exits again behind = record { next = falls again; on_break = settled behind; on_continue = falls again }

-- those of what stands before the test of a body, whose step is `again`
abbrev pub front_exits : (next : Exit) → (again : ℕ) → (behind : Exit) → Exits
front_exits next again behind = record { next = next; on_break = settled behind; on_continue = goes again }

-- and those of a step behind which the loop goes on
abbrev pub step_exits : (next : Exit) → (behind : Exit) → Exits
step_exits next behind = record { next = next; on_break = settled behind; on_continue = settled next }

-- A body that ends in a test stands behind the rest and the step: the loop begins with a jump to it, and then each
-- turn has the branch of the test and no other jump.
abbrev pub test_last : (t : ℕ) → Tested → Part → Part
test_last t d step = record {
  size = λ y. 1 + d.rest.size body_falls + step.size next_falls + d.front.size next_falls + d.test.test_size false y.next;
  code = λ x at.
      let first = at + 1 in
      let second = first + d.rest.size body_falls in
      let third = second + step.size next_falls in
      let last = third + d.front.size next_falls in
      let head = d.front.entry third in
      let again = step.entry second in
      jump head
      ∷ (d.rest.code (body_exits again x.next) first
      ++ (step.code (step_exits (falls head) x.next) second
      ++ (d.front.code (front_exits (falls last) again x.next) third
      ++ d.test.test (goes (d.rest.entry first)) x.next t last)));
  entry = λ at. d.front.entry (at + 1 + d.rest.size body_falls + step.size next_falls);
}

-- any other body, and its step; the last part goes back to the first
abbrev pub last_falls : (behind : Bool) → Falls
last_falls behind = record { next = false; on_break = behind; on_continue = false }

abbrev pub last_exits : (back : ℕ) → (behind : Exit) → Exits
last_exits back behind = record { next = goes back; on_break = behind; on_continue = goes back }

abbrev pub body_first : Part → Part → Part
body_first body step = record {
  size = λ y. body.size body_falls + step.size (last_falls y.next);
  code = λ x at.
      let second = at + body.size body_falls in
      let again = step.entry second in
      body.code (body_exits again x.next) at ++ step.code (last_exits (body.entry at) x.next) second;
  entry = body.entry;
}

-- and one whose step does nothing
abbrev pub body_alone : Part → Part
body_alone body = record {
  size = λ y. body.size (last_falls y.next);
  code = λ x at. body.code (last_exits (body.entry at) x.next) at;
  entry = body.entry;
}

abbrev pub plain_loop : Part → StmtCode → Part
plain_loop body step = if is_next step.way then body_alone body else body_first body step.part

abbrev pub loop_part : (t : ℕ) → Option Tested → Part → StmtCode → Part
loop_part t None body step = plain_loop body step
loop_part t (Some d) body step = if d.is_idle && is_next step.way then body_alone body else test_last t d step.part

abbrev pub of_loop : (t : ℕ) → StmtCode → StmtCode → StmtCode
of_loop t body step = record {
  part = loop_part t body.tested body.part step;
  used = max body.used step.used;
  way = None;
  ends = not (body.breaks || step.breaks);
  breaks = false;
  tested = None;
}

-- ---- switches

-- these, one after the other, and then the last
abbrev pub joined_before : List StmtCode → (last : StmtCode) → StmtCode
joined_before [] last = last
joined_before (s ∷ ss) last = of_joined s (joined_before ss last)

-- where jumps to each of them go, in order, where the first stands at this index
abbrev pub entries : List StmtCode → (last : StmtCode) → (at : ℕ) → List ℕ
entries [] last at = last.part.entry at ∷ []
entries (s ∷ ss) last at = s.part.entry at ∷ entries ss last (at + s.part.size next_falls)

-- 6.8.6.3: a break of a part goes behind the switch
abbrev pub in_switch : Exits → Exits
in_switch x = record x { on_break = x.next }

abbrev pub in_switch_falls : Falls → Falls
in_switch_falls y = record y { on_break = y.next }

-- the parts stand one behind the other, and none is left out, since a label may stand before it
abbrev pub switch_part : (t : ℕ) → ExprCode → List CoreLabel → List StmtCode → (last : StmtCode) → Part
switch_part t e labels ss last = record {
  size = λ y. choice_size e labels + (joined_before ss last).part.size (in_switch_falls y);
  code = λ x at.
      let first = at + choice_size e labels in
      let places = entries ss last first in
      choice_code t e labels places (other_place (default_part labels) places (place_of x.next)) at
      ++ (joined_before ss last).part.code (in_switch x) first;
  entry = entered_first;
}

abbrev pub of_switch : (t : ℕ) → ExprCode → List CoreLabel → List StmtCode → (last : StmtCode) → StmtCode
of_switch t e labels ss last = record {
  part = switch_part t e labels ss last;
  used = max (used_by e) (joined_before ss last).used;
  way = None;
  ends = false;
  breaks = false;
  tested = None;
}

-- of all parts, the last one apart; without any it does nothing
abbrev pub but_last : List StmtCode → List StmtCode
but_last [] = []
but_last (s ∷ []) = []
but_last (s ∷ r ∷ ss) = s ∷ but_last (r ∷ ss)

abbrev pub last_of : List StmtCode → StmtCode
last_of [] = by_way to_next
last_of (s ∷ []) = s
last_of (s ∷ r ∷ ss) = last_of (r ∷ ss)

abbrev pub of_all_parts : (t : ℕ) → ExprCode → List CoreLabel → List StmtCode → StmtCode
of_all_parts t e labels ss = of_switch t e labels (but_last ss) (last_of ss)

-- ---- statements

-- v: the count of the function's variables, which are the first temporaries; t: the first temporary that is free
abbrev mutual
  pub stmt_code : (v t : ℕ) → CoreStmtTree → StmtCode
  stmt_code v t core.skip = by_way to_next
  stmt_code v t (core.seq ss) = stmts_code v t ss
  stmt_code v t (core.assign x e) = of_assign (target_of v x) t (lowered v e)
  stmt_code v t (core.store s a b) = of_store t s (lowered v a) (lowered v b)
  stmt_code v t (core.copy size alignment a b) = of_copy t size alignment (lowered v a) (lowered v b)
  stmt_code v t (core.fill blank a) = of_fill t blank (lowered v a)
  stmt_code v t (core.call x f es) = of_call t (taken_by v x) f (map (lowered v) es)
  stmt_code v t (core.branch e a b) =
      let test = lowered v e in
      of_branch test.known t test (stmt_code v t a) (stmt_code v t b)
  stmt_code v t (core.loop body step) = of_loop t (stmt_code v t body) (stmt_code v t step)
  stmt_code v t (core.switch e labels ss) = of_all_parts t (lowered v e) labels (parts_code v t ss)
  stmt_code v t core.break = by_way to_break
  stmt_code v t core.continue = by_way to_continue
  stmt_code v t (core.return None) = of_plain_return
  stmt_code v t (core.return (Some e)) = of_return t (lowered v e)

  pub stmts_code : (v t : ℕ) → CoreStmts → StmtCode
  stmts_code v t no_stmts = by_way to_next
  stmts_code v t (stmt_and s no_stmts) = stmt_code v t s
  stmts_code v t (stmt_and s (stmt_and r ss)) = of_both (stmt_code v t s) (stmts_code v t (stmt_and r ss))

  -- each by itself
  pub parts_code : (v t : ℕ) → CoreStmts → List StmtCode
  parts_code v t no_stmts = []
  parts_code v t (stmt_and s ss) = stmt_code v t s ∷ parts_code v t ss
