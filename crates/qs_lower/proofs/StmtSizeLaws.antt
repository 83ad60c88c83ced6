-- The same of statements and functions.
use Rattle.std.proofs.Common.{◌≡◌, ℕ, ◌+◌, Bool, true, false, List, length, Option, Some, None, refl, ◌∙◌, arith}
use Rattle.std.specs.Prelude.{◌&&◌, if◌then◌else◌}
use Rattle.qs_memory.specs.declared.scalar.Scalar.{Scalar}
use Rattle.qs_core.specs.Trees as core
use Rattle.qs_core.specs.Trees.{CoreStmtTree, CoreStmts, no_stmts, stmt_and}
use Rattle.qs_core.specs.declared.labels.CoreLabel.{CoreLabel}
use Rattle.qs_tac.specs.Trees.{InstructionTree, jump}
use Rattle.qs_lower_expressions.specs.Expressions.{ExprCode, size_of, lowered}
use Rattle.qs_lower.specs.Statements.{Exits, falls_of, next_falls, none_falls, body_falls, Way, to_next, to_break, to_continue, Part, Tested, StmtCode, going, joined, redirected, straight, target_of, of_store, of_copy, tested_behind, of_joined, of_before, of_ways, branch_part, test_of, is_next, of_branch, test_last, body_first, body_alone, plain_loop, loop_part, joined_before, in_switch, switch_part, but_last, last_of, stmt_code, stmts_code, parts_code}
use Rattle.qs_lower_expressions.proofs.SizeLaws.{both, one_more, cons, exit_length, Sized, code_length, sized, all_length}
use Rattle.qs_lower.proofs.ChoiceLaws.{choice_length}

abbrev pub PartSized : Part → Type 0
PartSized p = (x : Exits) (at : ℕ) → length (p.code x at) ≡ p.size (falls_of x)

pub record TestedSized (d : Tested) : Type 0 where
  pub front : PartSized d.front
  pub test : Sized d.test
  pub rest : PartSized d.rest

abbrev pub OptionSized : Option Tested → Type 0
OptionSized None = Unit {0}
OptionSized (Some d) = TestedSized d

pub record StmtSized (s : StmtCode) : Type 0 where
  pub part : PartSized s.part
  pub tested : OptionSized s.tested

pub going_sized : (w : Way) → PartSized (going w)
going_sized to_next x at = exit_length x.next
going_sized to_break x at = exit_length x.on_break
going_sized to_continue x at = exit_length x.on_continue

pub joined_sized : (a b : Part) → PartSized a → PartSized b → PartSized (joined a b)
joined_sized a b h k x at = both _ _ _ _ (h _ at) (k x _)

pub redirected_sized : (a : Part) (w : Way) → PartSized a → PartSized (redirected a w)
redirected_sized a to_next h x at = h _ at
redirected_sized a to_break h x at = h _ at
redirected_sized a to_continue h x at = h _ at

straight_sized : (size used : ℕ) (code : (at : ℕ) → List InstructionTree) → ((at : ℕ) → length (code at) ≡ size) → StmtSized (straight size used code)
straight_sized size used code h = record { part = λ x at. both _ _ _ _ (h at) (exit_length x.next); tested = tt }

-- ---- several statements

behind_sized : (a : Part) (d : Option Tested) → PartSized a → OptionSized d → OptionSized (tested_behind a d)
behind_sized a None h k = tt
behind_sized a (Some d) h k = record { front = joined_sized a d.front h k.front; test = k.test; rest = k.rest }

joined_stmt_sized : (a b : StmtCode) → StmtSized a → StmtSized b → StmtSized (of_joined a b)
joined_stmt_sized a b h k = record { part = joined_sized a.part b.part h.part k.part; tested = behind_sized a.part b.tested h.part k.tested }

before_sized : (a : StmtCode) (w : Option Way) (b : StmtCode) → StmtSized a → StmtSized b → StmtSized (of_before a w b)
before_sized a None b h k = joined_stmt_sized a b h k
before_sized a (Some w) b h k = record { part = redirected_sized a.part w h.part; tested = tt }

ways_sized : (w : Option Way) (a b : StmtCode) → StmtSized a → StmtSized b → StmtSized (of_ways w a b)
ways_sized None a b h k = before_sized a b.way b h k
ways_sized (Some w) a b h k = k

if_stmt_sized : (b : Bool) (s r : StmtCode) → StmtSized s → StmtSized r → StmtSized (if b then s else r)
if_stmt_sized true s r h k = h
if_stmt_sized false s r h k = k

-- ---- `if`

pub branch_part_sized :
    (t : ℕ) (e : ExprCode) (v w : Option Way) (a b : Part) → Sized e → PartSized a → PartSized b → PartSized (branch_part t e v w a b)
branch_part_sized t e (Some to_next) (Some to_next) a b g h k x at = g.test _ _ t at
branch_part_sized t e (Some to_next) (Some to_break) a b g h k x at = g.test _ _ t at
branch_part_sized t e (Some to_next) (Some to_continue) a b g h k x at = g.test _ _ t at
branch_part_sized t e (Some to_break) (Some to_next) a b g h k x at = g.test _ _ t at
branch_part_sized t e (Some to_break) (Some to_break) a b g h k x at = g.test _ _ t at
branch_part_sized t e (Some to_break) (Some to_continue) a b g h k x at = g.test _ _ t at
branch_part_sized t e (Some to_continue) (Some to_next) a b g h k x at = g.test _ _ t at
branch_part_sized t e (Some to_continue) (Some to_break) a b g h k x at = g.test _ _ t at
branch_part_sized t e (Some to_continue) (Some to_continue) a b g h k x at = g.test _ _ t at
branch_part_sized t e None (Some w) a b g h k x at = both _ _ _ _ (g.test _ _ t at) (h x _)
branch_part_sized t e (Some v) None a b g h k x at = both _ _ _ _ (g.test _ _ t at) (k x _)
branch_part_sized t e None None a b g h k x at =
    both _ _ _ (a.size none_falls + b.size (falls_of x)) (g.test _ _ t at) (both _ _ _ _ (h _ _) (k x _))
    ∙ three (e.test_size true false) (a.size none_falls) (b.size (falls_of x))
  where
    three : (m n o : ℕ) → m + (n + o) ≡ m + n + o
    three m n o = omega arith

pub test_sized : (e : ExprCode) (i : Bool) (rest : Part) (w : Option Way) → Sized e → PartSized rest → OptionSized (test_of e i rest w)
test_sized e i rest None h g = tt
test_sized e i rest (Some to_next) h g = tt
test_sized e i rest (Some to_break) h g = record { front = going_sized to_next; test = h; rest = g }
test_sized e i rest (Some to_continue) h g = tt

pub branch_sized : (known : Option Bool) (t : ℕ) (e : ExprCode) (a b : StmtCode) → Sized e → StmtSized a → StmtSized b → StmtSized (of_branch known t e a b)
branch_sized None t e a b g h k = record {
  part = branch_part_sized t e a.way b.way a.part b.part g h.part k.part;
  tested = test_sized e (is_next a.way) a.part b.way g h.part;
}
branch_sized (Some true) t e a b g h k = h
branch_sized (Some false) t e a b g h k = k

-- ---- loops

test_last_sized : (t : ℕ) (d : Tested) (step : Part) → TestedSized d → PartSized step → PartSized (test_last t d step)
test_last_sized t d step h k x at =
    cons (jump (d.front.entry (at + 1 + d.rest.size body_falls + step.size next_falls))) _ _ _
    (both _ _ _ _ (h.rest _ _) (both _ _ _ _ (k _ _) (both _ _ _ _ (h.front _ _) (h.test.test _ _ t _))))
    (five _ _ _ _)
  where
    five : (m n o p : ℕ) → m + (n + (o + p)) + 1 ≡ 1 + m + n + o + p
    five m n o p = omega arith

body_first_sized : (body step : Part) → PartSized body → PartSized step → PartSized (body_first body step)
body_first_sized body step h k x at = both _ _ _ _ (h _ at) (k _ _)

if_part_sized : (b : Bool) (p q : Part) → PartSized p → PartSized q → PartSized (if b then p else q)
if_part_sized true p q h k = h
if_part_sized false p q h k = k

plain_sized : (body : Part) (step : StmtCode) → PartSized body → StmtSized step → PartSized (plain_loop body step)
plain_sized body step h k =
    if_part_sized (is_next step.way) (body_alone body) (body_first body step.part) (λ x at. h _ at) (body_first_sized body step.part h k.part)

pub loop_sized : (t : ℕ) (d : Option Tested) (body : Part) (step : StmtCode) → OptionSized d → PartSized body → StmtSized step → PartSized (loop_part t d body step)
loop_sized t None body step g h k = plain_sized body step h k
loop_sized t (Some d) body step g h k =
    if_part_sized (d.is_idle && is_next step.way) (body_alone body) (test_last t d step.part) (λ x at. h _ at) (test_last_sized t d step.part g k.part)

-- ---- switches

switch_sized : (t : ℕ) (e : ExprCode) (labels : List CoreLabel) (ss : List StmtCode) (last : StmtCode) → Sized e → PartSized (joined_before ss last).part → PartSized (switch_part t e labels ss last)
switch_sized t e labels ss last h k x at = both _ _ _ _ (choice_length t e labels _ _ at h) (k (in_switch x) _)

-- the parts of a switch, one behind the other
abbrev pub row : (v t : ℕ) → CoreStmts → StmtCode
row v t ss = joined_before (but_last (parts_code v t ss)) (last_of (parts_code v t ss))

-- ---- statements

store_sized : (t : ℕ) (s : Scalar) (p e : ExprCode) → Sized p → Sized e → StmtSized (of_store t s p e)
store_sized t s p e h k =
    straight_sized _ _ _ (λ at. both _ _ _ (size_of e + 1) (h.base t at) (one_more _ _ _ (code_length e k.into _ _)) ∙ three p.base_size (size_of e))
  where
    three : (m n : ℕ) → m + (n + 1) ≡ m + n + 1
    three m n = omega arith

copy_sized : (t size alignment : ℕ) (p q : ExprCode) → Sized p → Sized q → StmtSized (of_copy t size alignment p q)
copy_sized t size alignment p q h k =
    straight_sized _ _ _ (λ at. both _ _ _ (q.base_size + 1) (h.base t at) (one_more _ _ _ (k.base _ _)) ∙ three p.base_size q.base_size)
  where
    three : (m n : ℕ) → m + (n + 1) ≡ m + n + 1
    three m n = omega arith

mutual
  pub stmt_sized : (v t : ℕ) (s : CoreStmtTree) → StmtSized (stmt_code v t s)
  stmt_sized v t core.skip = record { part = going_sized to_next; tested = tt }
  stmt_sized v t (core.seq ss) = stmts_sized v t ss
  stmt_sized v t (core.assign x e) = straight_sized _ _ _ ((sized v e).into (target_of v x) t)
  stmt_sized v t (core.store s a b) = store_sized t s (lowered v a) (lowered v b) (sized v a) (sized v b)
  stmt_sized v t (core.copy size alignment a b) = copy_sized t size alignment (lowered v a) (lowered v b) (sized v a) (sized v b)
  stmt_sized v t (core.fill blank a) = straight_sized _ _ _ (λ at. one_more _ _ _ ((sized v a).base t at))
  stmt_sized v t (core.call x f es) = straight_sized _ _ _ (λ at. one_more _ _ _ (all_length v es t at))
  stmt_sized v t (core.branch e a b) = branch_sized (lowered v e).known t (lowered v e) (stmt_code v t a) (stmt_code v t b) (sized v e) (stmt_sized v t a) (stmt_sized v t b)
  stmt_sized v t (core.loop body step) =
      record {
        part =
            loop_sized t (stmt_code v t body).tested (stmt_code v t body).part (stmt_code v t step) (stmt_sized v t body).tested (stmt_sized v t body).part
            (stmt_sized v t step);
        tested = tt;
      }
  stmt_sized v t (core.switch e labels ss) = record { part = switch_sized t (lowered v e) labels _ _ (sized v e) (row_sized v t ss); tested = tt }
  stmt_sized v t core.break = record { part = going_sized to_break; tested = tt }
  stmt_sized v t core.continue = record { part = going_sized to_continue; tested = tt }
  stmt_sized v t (core.return None) = record { part = λ x at. refl; tested = tt }
  stmt_sized v t (core.return (Some e)) = record { part = λ x at. one_more _ _ _ (code_length (lowered v e) (sized v e).into t at); tested = tt }

  pub stmts_sized : (v t : ℕ) (ss : CoreStmts) → StmtSized (stmts_code v t ss)
  stmts_sized v t no_stmts = record { part = going_sized to_next; tested = tt }
  stmts_sized v t (stmt_and s no_stmts) = stmt_sized v t s
  stmts_sized v t (stmt_and s (stmt_and r ss)) =
      if_stmt_sized (stmt_code v t s).ends _ _ (stmt_sized v t s)
      (ways_sized (stmt_code v t s).way (stmt_code v t s) (stmts_code v t (stmt_and r ss)) (stmt_sized v t s) (stmts_sized v t (stmt_and r ss)))

  pub row_sized : (v t : ℕ) (ss : CoreStmts) → PartSized (row v t ss).part
  row_sized v t no_stmts = going_sized to_next
  row_sized v t (stmt_and s no_stmts) = (stmt_sized v t s).part
  row_sized v t (stmt_and s (stmt_and r ss)) = joined_sized (stmt_code v t s).part (row v t (stmt_and r ss)).part (stmt_sized v t s).part (row_sized v t (stmt_and r ss))
