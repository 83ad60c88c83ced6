-- Each statement takes at most its words, and one for the jump to what is next.
use Rattle.std.proofs.Common.{◌≡◌, ℕ, zero, suc, ◌+◌, ◌%◌, ◌≤◌, Bool, true, false, List, [], ◌∷◌, ◌++◌, map, Option, Some, None, refl, ap, arith}
use Rattle.std.specs.Prelude.{◌*◌, ◌==◌, max, length, ◌&&◌, if◌then◌else◌}
use Rattle.std.proofs.lemmas.Bool.Decides.{nat_tests}
use Rattle.std.proofs.lemmas.Bool.{and_parts}
use Rattle.qs_memory.specs.Memory.{BlankTree}
use Rattle.qs_memory.specs.Sizes.{blank_size}
use Rattle.qs_memory.specs.declared.scalar.Scalar.{Scalar}
use Rattle.qs_calls.specs.declared.callee.Callee.{Callee}
use Rattle.qs_calls.specs.declared.callee.Callee.TheVariants.{Function, PutChar, GetChar}
use Rattle.qs_core.specs.Trees as core
use Rattle.qs_core.specs.Trees.{CoreExprTree, CoreStmtTree, CoreStmts, no_stmts, stmt_and, CoreFunctionTree, CoreUnitTree}
use Rattle.qs_core.specs.Fits.{expr_fits, exprs_fit, pointer_fits, stmt_fits, stmts_fit}
use Rattle.qs_core.specs.Statements.{default_part}
use Rattle.qs_core.specs.Sizes as counts
use Rattle.qs_core.specs.Sizes.{taken_words, label_words, stmt_words, stmts_words}
use Rattle.qs_core.specs.declared.labels.CoreLabel.{CoreLabel}
use Rattle.qs_core.specs.declared.labels.CoreLabel.TheVariants.{Case, Default}
use Rattle.qs_tac.specs.Trees.{InstructionTree, store, copy, fill, call, jump, return, TacFunctionTree}
use Rattle.qs_tac.specs.Sizes as sizes
use Rattle.qs_tac.specs.Sizes.{is_near, callee_words}
use Rattle.qs_tac.specs.declared.operands.Operand.{Operand}
use Rattle.qs_lower_expressions.specs.Exits.{Exit, falls, goes, place_of, settled, exit_code}
use Rattle.qs_lower_expressions.specs.Expressions.{ExprCode, code_of, operand_of, address_at, lowered, all_code, all_operands}
use Rattle.qs_lower.specs.Choices.{place_in, if_equal, case_code, case_count, is_asked, asked_size, asked_code, other_place, choice_size, choice_code}
use Rattle.qs_lower.specs.Statements.{Exits, next_falls, none_falls, before, elsewhere, body_falls, body_exits, front_exits, step_exits, last_exits, Way, to_next, to_break, to_continue, exit_to, Part, Tested, StmtCode, joined, redirected, straight, by_way, target_of, taken_by, of_store, of_copy, of_fill, of_call, of_return, of_plain_return, tested_behind, of_before, of_ways, branch_part, test_of, is_next, of_branch, test_last, body_first, body_alone, loop_part, joined_before, entries, in_switch, switch_part, stmt_code, stmts_code}
use Rattle.qs_lower.proofs.CoreWords.{tested_words}
use Rattle.qs_lower.proofs.StmtSizeLaws.{row}
use Rattle.qs_lower_expressions.proofs.ExprWords.{jumps, code_words, words_both, words_cons, words_last, slot_small, constant_small, operand_small, exit_small}
use Rattle.qs_lower.proofs.LoweredWords.{operand_count, Good, expr_words, arguments_words}

-- a jump to what is next, where it doesn't fall
abbrev pub jump_to : Exit → ℕ
jump_to (falls p) = 0
jump_to (goes p) = 1

jump_small : (x : Exit) → jump_to x ≤ 1
jump_small (falls p) = omega arith
jump_small (goes p) = omega arith

jumps_small : (x y : Exit) → jumps x y ≤ 1
jumps_small (falls p) y = omega arith
jumps_small (goes p) (falls q) = omega arith
jumps_small (goes p) (goes q) = omega arith

falls_second : (x : Exit) (q : ℕ) → jumps x (falls q) ≡ 0
falls_second (falls p) q = refl
falls_second (goes p) q = refl

goes_first : (p : ℕ) (y : Exit) → jumps (goes p) y ≡ jump_to y
goes_first p (falls q) = refl
goes_first p (goes q) = refl

callee_small : (f : Callee) → callee_words f ≤ 2
callee_small (Function f) = omega arith
callee_small PutChar = omega arith
callee_small GetChar = omega arith

-- a switch compares its operand for each case, and once without any
cases_few : (labels : List CoreLabel) → case_count labels ≤ length labels
cases_few [] = omega arith
cases_few (Case n part ∷ labels) = let i = cases_few labels in omega arith
cases_few (Default part ∷ labels) = let i = cases_few labels in omega arith

compared_few : (labels : List CoreLabel) → case_count labels + asked_size (is_asked labels) ≤ max 1 (length labels)
compared_few labels = by_count (case_count labels) (cases_few labels)
  where
    by_count : (n : ℕ) → n ≤ length labels → n + asked_size (n == 0) ≤ max 1 (length labels)
    by_count zero le = let asked : asked_size (zero == 0) ≡ 1 = refl in omega (arith, asked)
    by_count (suc n) le =
        let some : (suc n == 0) ≡ false = grind (arith, nat_tests) in
        let none : asked_size (suc n == 0) ≡ 0 = ap asked_size some in
        omega (arith, le, none)

module _ (c : CoreUnitTree) (g : CoreFunctionTree) (v : ℕ) (f : TacFunctionTree) (free : ℕ) (near : (t : ℕ) → free ≤ t → is_near f t ≡ true) where
  abbrev code : List InstructionTree → ℕ
  code is = code_words f free near is

  exit_words : (x : Exit) → code (exit_code x) ≡ jump_to x
  exit_words (falls p) = refl
  exit_words (goes p) = let e = words_cons f free near (jump p) [] in omega arith

  -- ---- what holds of the code of a part

  abbrev PartWords : ℕ → Part → Type 0
  PartWords n p = (x : Exits) (at : ℕ) → code (p.code x at) ≤ n + jump_to x.next

  -- a jump that isn't one to what is next has its word
  abbrev WayWords : ℕ → Option Way → Type 0
  WayWords n None = Unit {0}
  WayWords n (Some to_next) = Unit {0}
  WayWords n (Some to_break) = 1 ≤ n
  WayWords n (Some to_continue) = 1 ≤ n

  -- of a body that ends in a test what stands before it, the test, the rest, a break and the ends of the branches
  pub record TestedWords (n : ℕ) (d : Tested) : Type 0 where
    pub front_words : ℕ
    pub test_words : ℕ
    pub rest_words : ℕ
    pub all : front_words + test_words + rest_words + 3 ≤ n
    pub front : PartWords front_words d.front
    pub test : (x y : Exit) (t at : ℕ) → free ≤ t → code (d.test.test x y t at) ≤ test_words + jumps x y
    pub rest : PartWords rest_words d.rest

  abbrev OptionWords : ℕ → Option Tested → Type 0
  OptionWords n None = Unit {0}
  OptionWords n (Some d) = TestedWords n d

  pub record StmtWords (n : ℕ) (s : StmtCode) : Type 0 where
    pub part : PartWords n s.part
    pub way : WayWords n s.way
    pub tested : OptionWords n s.tested

  -- more words do
  more_way : {m n : ℕ} → (w : Option Way) → m ≤ n → WayWords m w → WayWords n w
  more_way None i h = tt
  more_way (Some to_next) i h = tt
  more_way (Some to_break) i h = omega arith
  more_way (Some to_continue) i h = omega arith

  more_tested : {m n : ℕ} → (d : Option Tested) → m ≤ n → OptionWords m d → OptionWords n d
  more_tested None i h = tt
  more_tested (Some d) i h = record {
    front_words = h.front_words;
    test_words = h.test_words;
    rest_words = h.rest_words;
    all = let e = h.all in omega arith;
    front = h.front;
    test = h.test;
    rest = h.rest;
  }

  more : {m n : ℕ} → (s : StmtCode) → m ≤ n → StmtWords m s → StmtWords n s
  more s i h = record {
    part = λ x at. let e = h.part x at in omega arith;
    way = more_way s.way i h.way;
    tested = more_tested s.tested i h.tested;
  }

  -- ---- ways, straight code

  next_words : StmtWords 0 (by_way to_next)
  next_words = record { part = λ x at. let e = exit_words x.next in omega arith; way = tt; tested = tt }

  away_words : (w : Way) → StmtWords 1 (by_way w)
  away_words to_next = more (by_way to_next) (omega arith) next_words
  away_words to_break = record { part = λ x at. let e = exit_small f free near x.on_break in omega arith; way = omega arith; tested = tt }
  away_words to_continue = record { part = λ x at. let e = exit_small f free near x.on_continue in omega arith; way = omega arith; tested = tt }

  straight_words : {n : ℕ} → (size used : ℕ) (made : (at : ℕ) → List InstructionTree) → ((at : ℕ) → code (made at) ≤ n) → StmtWords n (straight size used made)
  straight_words size used made h = record {
    part = λ x at. let e = words_both f free near (made at) (exit_code x.next) in let d = exit_words x.next in let b = h at in omega arith;
    way = tt;
    tested = tt;
  }

  -- ---- several statements

  joined_words : (m n : ℕ) (a b : Part) → PartWords m a → PartWords n b → PartWords (m + n) (joined a b)
  joined_words m n a b h k x at =
      let second : ℕ = at + a.size next_falls in
      let e = words_both f free near (a.code (before (b.entry second) x) at) (b.code x second) in
      let i = h (before (b.entry second) x) at in
      let j = k x second in
      omega arith

  redirected_words : (m n : ℕ) (a : Part) (w : Way) → PartWords m a → WayWords n (Some w) → PartWords (m + n) (redirected a w)
  redirected_words m n a to_next h k x at = let e = h (record x { next = x.next }) at in omega arith
  redirected_words m n a to_break h k x at = let e = h (record x { next = x.on_break }) at in let s = jump_small x.on_break in omega arith
  redirected_words m n a to_continue h k x at = let e = h (record x { next = x.on_continue }) at in let s = jump_small x.on_continue in omega arith

  behind_words : (m n : ℕ) (a : Part) (d : Option Tested) → PartWords m a → OptionWords n d → OptionWords (m + n) (tested_behind a d)
  behind_words m n a None h k = tt
  behind_words m n a (Some d) h k = record {
    front_words = m + k.front_words;
    test_words = k.test_words;
    rest_words = k.rest_words;
    all = let e = k.all in omega arith;
    front = joined_words m k.front_words a d.front h k.front;
    test = k.test;
    rest = k.rest;
  }

  before_words : {m n : ℕ} → (a : StmtCode) (w : Option Way) (b : StmtCode) → StmtWords m a → WayWords n w → StmtWords n b → StmtWords (m + n) (of_before a w b)
  before_words {m} {n} a None b h i k = record { part = joined_words m n a.part b.part h.part k.part; way = tt; tested = behind_words m n a.part b.tested h.part k.tested }
  before_words {m} {n} a (Some w) b h i k = record { part = redirected_words m n a.part w h.part i; way = more_way a.way (omega arith) h.way; tested = tt }

  ways_words : {m n : ℕ} → (w : Option Way) (a b : StmtCode) → StmtWords m a → StmtWords n b → StmtWords (m + n) (of_ways w a b)
  ways_words None a b h k = before_words a b.way b h k.way k
  ways_words (Some w) a b h k = more b (omega arith) k

  both_words : {m n : ℕ} → (z : Bool) (a b : StmtCode) → StmtWords m a → StmtWords n b → StmtWords (m + n) (if z then a else of_ways a.way a b)
  both_words true a b h k = more a (omega arith) h
  both_words false a b h k = ways_words a.way a b h k

  -- ---- `if`

  branch_part_words :
      (q m n t : ℕ) (e : ExprCode) (u w : Option Way) (a b : Part) → free ≤ t → ((x y : Exit) (t at : ℕ) → free ≤ t → code (e.test x y t at) ≤ q + jumps x y)
      → PartWords m a → PartWords n b → PartWords (q + m + n + 2) (branch_part t e u w a b)
  branch_part_words q m n t e (Some u) (Some w) a b le h i j x at =
      let d = h (exit_to u x) (exit_to w x) t at le in let s = jumps_small (exit_to u x) (exit_to w x) in omega arith
  branch_part_words q m n t e None (Some w) a b le h i j x at =
      let first : ℕ = at + e.test_size true false in
      let s = words_both f free near (e.test (falls (a.entry first)) (settled (exit_to w x)) t at) (a.code x first) in
      let d = h (falls (a.entry first)) (settled (exit_to w x)) t at le in
      let p = i x first in
      omega arith
  branch_part_words q m n t e (Some u) None a b le h i j x at =
      let second : ℕ = at + e.test_size false true in
      let s = words_both f free near (e.test (settled (exit_to u x)) (falls (b.entry second)) t at) (b.code x second) in
      let d = h (settled (exit_to u x)) (falls (b.entry second)) t at le in
      let z = falls_second (settled (exit_to u x)) (b.entry second) in
      let p = j x second in
      omega arith
  branch_part_words q m n t e None None a b le h i j x at =
      let first : ℕ = at + e.test_size true false in
      let second : ℕ = first + a.size none_falls in
      let s = words_both f free near (e.test (falls (a.entry first)) (goes (b.entry second)) t at) (a.code (elsewhere x) first ++ b.code x second) in
      let r = words_both f free near (a.code (elsewhere x) first) (b.code x second) in
      let d = h (falls (a.entry first)) (goes (b.entry second)) t at le in
      let p = i (elsewhere x) first in
      let k = jump_small (settled x.next) in
      let l = j x second in
      omega arith

  test_words_of :
      (q m n : ℕ) (e : ExprCode) (idle : Bool) (rest : Part) (w : Option Way) → ((x y : Exit) (t at : ℕ) → free ≤ t → code (e.test x y t at) ≤ q + jumps x y)
      → PartWords m rest → WayWords n w → OptionWords (q + m + n + 2) (test_of e idle rest w)
  test_words_of q m n e idle rest None h i j = tt
  test_words_of q m n e idle rest (Some to_next) h i j = tt
  test_words_of q m n e idle rest (Some to_break) h i j = record {
    front_words = 0;
    test_words = q;
    rest_words = m;
    all = omega arith;
    front = next_words.part;
    test = h;
    rest = i;
  }
  test_words_of q m n e idle rest (Some to_continue) h i j = tt

  branch_words :
      {m n : ℕ} → (q : ℕ) (known : Option Bool) (t : ℕ) (e : ExprCode) (a b : StmtCode) → free ≤ t → ((x y : Exit) (t at : ℕ) → free ≤ t → code (e.test x y t at) ≤ q + jumps x y)
      → StmtWords m a → StmtWords n b → StmtWords (q + m + n + 2) (of_branch known t e a b)
  branch_words {m} {n} q None t e a b le h i j = record {
    part = branch_part_words q m n t e a.way b.way a.part b.part le h i.part j.part;
    way = tt;
    tested = test_words_of q m n e (is_next a.way) a.part b.way h i.part j.way;
  }
  branch_words q (Some true) t e a b le h i j = more a (omega arith) i
  branch_words q (Some false) t e a b le h i j = more b (omega arith) j

  -- ---- loops

  test_last_words : {m : ℕ} → (n t : ℕ) (d : Tested) (step : Part) → free ≤ t → TestedWords m d → PartWords n step → PartWords (m + n + 3) (test_last t d step)
  test_last_words n t d step le h k x at =
      let first : ℕ = at + 1 in
      let second : ℕ = first + d.rest.size body_falls in
      let third : ℕ = second + step.size next_falls in
      let last : ℕ = third + d.front.size next_falls in
      let head : ℕ = d.front.entry third in
      let again : ℕ = step.entry second in
      let rest : List InstructionTree = d.rest.code (body_exits again x.next) first in
      let steps : List InstructionTree = step.code (step_exits (falls head) x.next) second in
      let front : List InstructionTree = d.front.code (front_exits (falls last) again x.next) third in
      let test : List InstructionTree = d.test.test (goes (d.rest.entry first)) x.next t last in
      let a = words_cons f free near (jump head) (rest ++ (steps ++ (front ++ test))) in
      let b = words_both f free near rest (steps ++ (front ++ test)) in
      let i = words_both f free near steps (front ++ test) in
      let j = words_both f free near front test in
      let p = h.rest (body_exits again x.next) first in
      let q = k (step_exits (falls head) x.next) second in
      let r = h.front (front_exits (falls last) again x.next) third in
      let s = h.test (goes (d.rest.entry first)) x.next t last le in
      let u = goes_first (d.rest.entry first) x.next in
      let w = h.all in
      omega arith

  body_first_words : (m n : ℕ) (body step : Part) → PartWords m body → PartWords n step → PartWords (m + n + 3) (body_first body step)
  body_first_words m n body step h k x at =
      let second : ℕ = at + body.size body_falls in
      let e = words_both f free near (body.code (body_exits (step.entry second) x.next) at) (step.code (last_exits (body.entry at) x.next) second) in
      let p = h (body_exits (step.entry second) x.next) at in
      let q = k (last_exits (body.entry at) x.next) second in
      omega arith

  body_alone_words : (m n : ℕ) (body : Part) → PartWords m body → PartWords (m + n + 3) (body_alone body)
  body_alone_words m n body h x at = let p = h (last_exits (body.entry at) x.next) at in omega arith

  if_part_words : (n : ℕ) (z : Bool) (p q : Part) → PartWords n p → PartWords n q → PartWords n (if z then p else q)
  if_part_words n true p q h k = h
  if_part_words n false p q h k = k

  loop_words : {n : ℕ} → (m t : ℕ) (d : Option Tested) (body : Part) (step : StmtCode) → free ≤ t → OptionWords m d → PartWords m body → StmtWords n step → PartWords (m + n + 3) (loop_part t d body step)
  loop_words {n} m t None body step le h i k =
      if_part_words (m + n + 3) (is_next step.way) (body_alone body) (body_first body step.part) (body_alone_words m n body i) (body_first_words m n body step.part i k.part)
  loop_words {n} m t (Some d) body step le h i k =
      if_part_words (m + n + 3) (d.is_idle && is_next step.way) (body_alone body) (test_last t d step.part) (body_alone_words m n body i) (test_last_words n t d step.part le h k.part)

  -- ---- switches

  equal_words : (o : Operand) (n to : ℕ) (is : List InstructionTree) → code (if_equal o n to ∷ is) ≤ label_words + code is
  equal_words o n to is =
      let e = words_cons f free near (if_equal o n to) is in let i = operand_small f free near o in let j = constant_small f free near n in omega arith

  cases_words : (o : Operand) (labels : List CoreLabel) (places : List ℕ) → code (case_code o labels places) ≤ label_words * case_count labels
  cases_words o [] places = omega arith
  cases_words o (Case n part ∷ labels) places =
      let e = equal_words o n (place_in places part) (case_code o labels places) in let i = cases_words o labels places in omega arith
  cases_words o (Default part ∷ labels) places = let i = cases_words o labels places in omega arith

  asked_words : (z : Bool) (o : Operand) (to : ℕ) → code (asked_code z o to) ≤ label_words * asked_size z
  asked_words true o to = let e = equal_words o 0 to [] in omega arith
  asked_words false o to = omega arith

  choice_words :
      (t : ℕ) (e : CoreExprTree) (d : ExprCode) (labels : List CoreLabel) (places : List ℕ) (other at : ℕ) → free ≤ t → Good c g v f free near e d
      → code (choice_code t d labels places other at) ≤ taken_words e + label_words * max 1 (length labels) + 1
  choice_words t e d labels places other at le h =
      let o : Operand = operand_of d t in
      let cases : List InstructionTree = case_code o labels places in
      let asked : List InstructionTree = asked_code (is_asked labels) o other in
      let i = words_both f free near (code_of d t at) (cases ++ (asked ++ jump other ∷ [])) in
      let j = words_both f free near cases (asked ++ jump other ∷ []) in
      let k = words_last f free near asked (jump other) in
      let m = h.taken_fits t at le in
      let n = cases_words o labels places in
      let p = asked_words (is_asked labels) o other in
      let q = compared_few labels in
      omega arith

  -- ---- what stands alone

  store_words : (t : ℕ) (s : Scalar) (a e : CoreExprTree) (p d : ExprCode) → free ≤ t → Good c g v f free near a p → Good c g v f free near e d → StmtWords (stmt_words (core.store s a e)) (of_store t s p d)
  store_words t s a e p d le h k =
      straight_words _ _ _
      (λ at.
      let made : List InstructionTree = code_of d (t + p.base_own) (at + p.base_size) in
      let last : InstructionTree = store s (address_at p t) (operand_of d (t + p.base_own)) in
      let i = words_both f free near (p.base_code t at) (made ++ last ∷ []) in
      let j = words_last f free near made last in
      let m = h.address_fits t at le in
      let n = k.taken_fits (t + p.base_own) (at + p.base_size) (omega arith) in
      omega arith)

  copy_words : (t size alignment : ℕ) (a e : CoreExprTree) (p d : ExprCode) → free ≤ t → Good c g v f free near a p → Good c g v f free near e d → StmtWords (stmt_words (core.copy size alignment a e)) (of_copy t size alignment p d)
  copy_words t size alignment a e p d le h k =
      straight_words _ _ _
      (λ at.
      let made : List InstructionTree = d.base_code (t + p.base_own) (at + p.base_size) in
      let last : InstructionTree = copy size alignment (address_at p t) (address_at d (t + p.base_own)) in
      let i = words_both f free near (p.base_code t at) (made ++ last ∷ []) in
      let j = words_last f free near made last in
      let m = h.address_fits t at le in
      let n = k.address_fits (t + p.base_own) (at + p.base_size) (omega arith) in
      omega arith)

  odd_bytes : (n : ℕ) → n % 4 ≤ 3
  odd_bytes n = omega arith

  fill_words : (t : ℕ) (blank : BlankTree) (a : CoreExprTree) (p : ExprCode) → free ≤ t → Good c g v f free near a p → StmtWords (stmt_words (core.fill blank a)) (of_fill t blank p)
  fill_words t blank a p le h =
      straight_words _ _ _
      (λ at.
      let j = words_last f free near (p.base_code t at) (fill blank (address_at p t)) in
      let m = h.address_fits t at le in
      let n = odd_bytes (blank_size blank) in
      omega arith)

  result_small : (x : Option ℕ) → sizes.taken_words f (taken_by v x) ≤ counts.result_words x
  result_small None = omega arith
  result_small (Some k) = slot_small f free near (v + k)

  call_words : (t : ℕ) (x : Option ℕ) (to : Callee) (es : List CoreExprTree) → free ≤ t → exprs_fit c g es ≡ true → StmtWords (stmt_words (core.call x to es)) (of_call t (taken_by v x) to (map (lowered v) es))
  call_words t x to es le h =
      straight_words _ _ _
      (λ at.
      let j = words_last f free near (all_code (map (lowered v) es) t at) (call (taken_by v x) to (all_operands (map (lowered v) es) t)) in
      let m = arguments_words c g v f free near es h t at le in
      let k = operand_count v es t in
      let n = callee_small to in
      let r = result_small x in
      omega arith)

  return_words : (t : ℕ) (e : CoreExprTree) (d : ExprCode) → free ≤ t → Good c g v f free near e d → StmtWords (stmt_words (core.return (Some e))) (of_return t d)
  return_words t e d le h = record {
    part = λ x at.
        let j = words_last f free near (code_of d t at) (return (Some (operand_of d t))) in
        let m = h.taken_fits t at le in
        omega arith;
    way = tt;
    tested = tt;
  }

  plain_return_words : StmtWords (stmt_words (core.return None)) of_plain_return
  plain_return_words = record { part = λ x at. let e = words_cons f free near (return None) [] in omega arith; way = tt; tested = tt }

  switch_words :
      (t : ℕ) (e : CoreExprTree) (labels : List CoreLabel) (n : ℕ) (ss : List StmtCode) (last : StmtCode) → free ≤ t → Good c g v f free near e (lowered v e)
      → PartWords n (joined_before ss last).part → PartWords (taken_words e + label_words * max 1 (length labels) + 1 + n) (switch_part t (lowered v e) labels ss last)
  switch_words t e labels n ss last le h k x at =
      let first : ℕ = at + choice_size (lowered v e) labels in
      let places : List ℕ = entries ss last first in
      let other : ℕ = other_place (default_part labels) places (place_of x.next) in
      let i = words_both f free near (choice_code t (lowered v e) labels places other at) ((joined_before ss last).part.code (in_switch x) first) in
      let j = choice_words t e (lowered v e) labels places other at le h in
      let m = k (in_switch x) first in
      omega arith

  -- ---- statements

  mutual
    pub all_stmt_words : (t : ℕ) (b q : Bool) (s : CoreStmtTree) → free ≤ t → stmt_fits c g b q s ≡ true → StmtWords (stmt_words s) (stmt_code v t s)
    all_stmt_words t b q core.skip le h = next_words
    all_stmt_words t b q (core.seq ss) le h = all_stmts_words t b q ss le h
    all_stmt_words t b q (core.assign x e) le h =
        straight_words _ _ _ (λ at. (expr_words c g v f free near e (and_parts (expr_fits c g e) _ h).0).into_fits (target_of v x) t at le)
    all_stmt_words t b q (core.store s a e) le h =
        let two = and_parts (pointer_fits c g a) (expr_fits c g e) (and_parts _ _ h).0 in
        store_words t s a e (lowered v a) (lowered v e) le (expr_words c g v f free near a (and_parts (expr_fits c g a) _ two.0).0) (expr_words c g v f free near e two.1)
    all_stmt_words t b q (core.copy size alignment a e) le h =
        let two = and_parts (pointer_fits c g a) (pointer_fits c g e) (and_parts _ _ (and_parts _ _ h).0).0 in
        copy_words t size alignment a e (lowered v a) (lowered v e) le
        (expr_words c g v f free near a (and_parts (expr_fits c g a) _ two.0).0) (expr_words c g v f free near e (and_parts (expr_fits c g e) _ two.1).0)
    all_stmt_words t b q (core.fill blank a) le h =
        let two = and_parts (pointer_fits c g a) _ h in
        fill_words t blank a (lowered v a) le (expr_words c g v f free near a (and_parts (expr_fits c g a) _ two.0).0)
    all_stmt_words t b q (core.call x to es) le h = call_words t x to es le (and_parts (exprs_fit c g es) _ h).0
    all_stmt_words t b q (core.branch e s r) le h =
        let two = and_parts _ (stmt_fits c g b q r) h in
        let one = and_parts (expr_fits c g e) (stmt_fits c g b q s) two.0 in
        branch_words (tested_words e) (lowered v e).known t (lowered v e) (stmt_code v t s) (stmt_code v t r) le (expr_words c g v f free near e one.0).test_fits
        (all_stmt_words t b q s le one.1) (all_stmt_words t b q r le two.1)
    all_stmt_words t b q (core.loop body step) le h =
        let two = and_parts (stmt_fits c g true true body) (stmt_fits c g true false step) h in
        let first = all_stmt_words t true true body le two.0 in
        let second = all_stmt_words t true false step le two.1 in
        record { part = loop_words (stmt_words body) t (stmt_code v t body).tested (stmt_code v t body).part (stmt_code v t step) le first.tested first.part second; way = tt; tested = tt }
    all_stmt_words t b q (core.switch e labels ss) le h =
        let four = and_parts _ (stmts_fit c g true q ss) h in
        let good = expr_words c g v f free near e (and_parts (expr_fits c g e) _ (and_parts _ _ four.0).0).0 in
        record { part = switch_words t e labels (stmts_words ss) _ _ le good (all_row_words t true q ss le four.1); way = tt; tested = tt }
    all_stmt_words t b q core.break le h = away_words to_break
    all_stmt_words t b q core.continue le h = away_words to_continue
    all_stmt_words t b q (core.return None) le h = plain_return_words
    all_stmt_words t b q (core.return (Some e)) le h = return_words t e (lowered v e) le (expr_words c g v f free near e (and_parts (expr_fits c g e) _ h).0)

    pub all_stmts_words : (t : ℕ) (b q : Bool) (ss : CoreStmts) → free ≤ t → stmts_fit c g b q ss ≡ true → StmtWords (stmts_words ss) (stmts_code v t ss)
    all_stmts_words t b q no_stmts le h = next_words
    all_stmts_words t b q (stmt_and s no_stmts) le h = more (stmt_code v t s) (omega arith) (all_stmt_words t b q s le (and_parts (stmt_fits c g b q s) _ h).0)
    all_stmts_words t b q (stmt_and s (stmt_and r ss)) le h =
        let two = and_parts (stmt_fits c g b q s) (stmts_fit c g b q (stmt_and r ss)) h in
        both_words (stmt_code v t s).ends (stmt_code v t s) (stmts_code v t (stmt_and r ss)) (all_stmt_words t b q s le two.0) (all_stmts_words t b q (stmt_and r ss) le two.1)

    -- the parts of a switch
    pub all_row_words : (t : ℕ) (b q : Bool) (ss : CoreStmts) → free ≤ t → stmts_fit c g b q ss ≡ true → PartWords (stmts_words ss) (row v t ss).part
    all_row_words t b q no_stmts le h = next_words.part
    all_row_words t b q (stmt_and s no_stmts) le h =
        (more (stmt_code v t s) (omega arith) (all_stmt_words t b q s le (and_parts (stmt_fits c g b q s) _ h).0)).part
    all_row_words t b q (stmt_and s (stmt_and r ss)) le h =
        let two = and_parts (stmt_fits c g b q s) (stmts_fit c g b q (stmt_and r ss)) h in
        joined_words (stmt_words s) (stmts_words (stmt_and r ss)) (stmt_code v t s).part (row v t (stmt_and r ss)).part
        (all_stmt_words t b q s le two.0).part (all_row_words t b q (stmt_and r ss) le two.1)
