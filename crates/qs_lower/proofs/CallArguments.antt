-- No call of lowered code has more arguments than the calls of its core.
use Rattle.std.proofs.Common.{◌≡◌, ℕ, ◌+◌, ◌≤◌, Bool, true, false, List, [], ◌∷◌, ◌++◌, length, map, Option, Some, None, refl, arith}
use Rattle.std.specs.Prelude.{◌&&◌, if◌then◌else◌}
use Rattle.qs_memory.specs.Partial.{◌>>=◌}
use Rattle.qs_memory.specs.declared.scalar.Scalar.{Scalar}
use Rattle.qs_memory.specs.declared.operation.Signedness.{Signedness}
use Rattle.qs_memory.specs.declared.operation.Direction.TheVariants.{Up, Down}
use Rattle.qs_memory.specs.declared.operation.UnaryOperation.{UnaryOperation}
use Rattle.qs_memory.specs.declared.operation.UnaryOperation.TheVariants as unaries
use Rattle.qs_memory.specs.declared.operation.BinaryOperation.{BinaryOperation}
use Rattle.qs_memory.specs.declared.operation.BinaryOperation.TheVariants as binaries
use Rattle.qs_core.specs.Trees as core
use Rattle.qs_core.specs.Trees.{CoreExprTree, CoreStmtTree, CoreStmts, no_stmts, stmt_and}
use Rattle.qs_core.specs.Sizes.{most_arguments, most_arguments_in}
use Rattle.qs_core.specs.declared.labels.CoreLabel.{CoreLabel}
use Rattle.qs_core.specs.declared.labels.CoreLabel.TheVariants.{Case, Default}
use Rattle.qs_tac.specs.Trees.{InstructionTree, move, unary, binary, convert, address_of, load, store}
use Rattle.qs_tac.specs.Trees.{copy, fill, call, jump, branch, return}
use Rattle.qs_tac.specs.declared.operands.Operand.{Operand}
use Rattle.qs_tac.specs.declared.operands.Condition.{Condition}
use Rattle.qs_tac.specs.declared.operands.Condition.TheVariants as conditions
use Rattle.qs_tac.specs.Fits.{is_word}
use Rattle.qs_tac.specs.Sizes.{arguments_of}
use Rattle.qs_lower_expressions.specs.Exits.{Exit, falls, goes, exit_code, branch_code}
use Rattle.qs_lower_expressions.specs.Operands.{converted, truth_of, truth_operand, unary_of, folded, gives_integer, gives_truth, is_idle, constant_step, swaps}
use Rattle.qs_lower_expressions.specs.Expressions.{IndexCode, ExprCode, simple_code, code_of, own, based, known_code, tested, no_code, by_operand, by_value, number_of, by_test, further, behind_parts, unindexed, indexed_by, by_address, of_element, of_unary_value, with_test, of_truth, of_plus, of_compound, simple_or, converting, of_conversion, pair_code, of_binary_value, with_condition, of_operation, stepped_or, of_choice, of_and, of_or, of_conditional, lowered, all_code, all_operands}
use Rattle.qs_lower.specs.Choices.{case_code, is_asked, asked_code, choice_code}
use Rattle.qs_lower.specs.Statements.{Exits, Way, to_next, to_break, to_continue, Part, Tested, StmtCode, going, joined, redirected, straight, target_of, tested_behind, of_before, of_ways, branch_part, test_of, is_next, of_branch, test_last, body_first, body_alone, loop_part, in_switch, stmt_code, stmts_code}
use Rattle.qs_lower_expressions.specs.Threads.{retargeted}
use Rattle.qs_lower.proofs.StmtSizeLaws.{row}
use Rattle.qs_lower.specs.WordLaws.{FewArguments}
use Rattle.qs_lower.proofs.LoweredWords.{operand_count}

module _ (n : ℕ) where
  abbrev pub Few : List InstructionTree → Type 0
  Few code = FewArguments n code

  pub both : (a b : List InstructionTree) → Few a → Few b → Few (a ++ b)
  both [] b h k = k
  both (i ∷ a) b h k = (h.0, both a b h.1 k)

  pub one_more : (a : List InstructionTree) (i : InstructionTree) → Few a → arguments_of i ≤ n → Few (a ++ i ∷ [])
  one_more a i h k = both a (i ∷ []) h (k, tt)

  exit_few : (x : Exit) → Few (exit_code x)
  exit_few (falls p) = tt
  exit_few (goes p) = (omega arith, tt)

  branch_few : (c : Condition) (x y : Exit) → Few (branch_code c x y)
  branch_few c (falls p) (falls q) = (omega arith, tt)
  branch_few c (falls p) (goes q) = (omega arith, tt)
  branch_few c (goes p) (falls q) = (omega arith, tt)
  branch_few c (goes p) (goes q) = (omega arith, (omega arith, tt))

  -- ---- expressions

  pub record Quiet (c : ExprCode) : Type 0 where
    pub into : (x t at : ℕ) → Few (c.into x t at)
    pub base : (t at : ℕ) → Few (c.base_code t at)
    pub test : (x y : Exit) (t at : ℕ) → Few (c.test x y t at)

  simple_few : (o : Option Operand) (code : List InstructionTree) → Few code → Few (simple_code o code)
  simple_few None code h = h
  simple_few (Some o) code h = tt

  pub code_few : (c : ExprCode) → ((x t at : ℕ) → Few (c.into x t at)) → (t at : ℕ) → Few (code_of c t at)
  code_few c h t at = simple_few c.simple (c.into t t at) (h t t at)

  known_few : (k : Option Bool) (code : List InstructionTree) (c : Condition) (x y : Exit) → Few code → Few (known_code k code c x y)
  known_few None code c x y h = both code (branch_code c x y) h (branch_few c x y)
  known_few (Some true) code c x y h = exit_few x
  known_few (Some false) code c x y h = exit_few y

  value_quiet : (c : ExprCode) → ((x t at : ℕ) → Few (c.into x t at)) → Quiet (tested (based c))
  value_quiet c h = record {
    into = h;
    base = code_few c h;
    test = λ x y t at. known_few (c.simple >>= truth_of) (code_of c t at) _ x y (code_few c h t at);
  }

  based_quiet : (c : ExprCode) → Quiet c → Quiet (based c)
  based_quiet c s = record { into = s.into; base = code_few c s.into; test = s.test }

  operand_quiet : (o : Operand) → Quiet (by_operand o)
  operand_quiet o = value_quiet (record no_code { simple = Some o; size = 1; into = λ x t at. move x o ∷ [] }) (λ x t at. (omega arith, tt))

  by_value_quiet : (size used : ℕ) (into : (x t at : ℕ) → List InstructionTree) → ((x t at : ℕ) → Few (into x t at)) → Quiet (by_value size used into)
  by_value_quiet size used into h = value_quiet (record no_code { size = size; into = into; used = used }) h

  abbrev FewTests : ((met unmet : Exit) → (t at : ℕ) → List InstructionTree) → Type 0
  FewTests test = (x y : Exit) (t at : ℕ) → Few (test x y t at)

  by_test_quiet : (used : ℕ) (size : (met unmet : Bool) → ℕ) (test : (met unmet : Exit) → (t at : ℕ) → List InstructionTree) → FewTests test → Quiet (by_test used size test)
  by_test_quiet used size test h =
      let v = by_value_quiet (size true false + 3) used (number_of size test) (λ x t at. both _ _ (h _ _ t at) (omega arith, (omega arith, (omega arith, tt)))) in
      record { into = v.into; base = v.base; test = h }

  if_quiet : (b : Bool) (c d : ExprCode) → Quiet c → Quiet d → Quiet (if b then c else d)
  if_quiet true c d h k = h
  if_quiet false c d h k = k

  behind_parts_quiet : (o : Option IndexCode) (p : ExprCode) (bytes : ℕ) → Quiet p → Quiet (behind_parts o p bytes)
  behind_parts_quiet None p bytes h =
      let b = based_quiet p h in
      if_quiet (is_word (further p.offset bytes)) _ _
      (record { into = h.into; base = h.base; test = h.test })
      (record { into = b.into; base = b.base; test = b.test })
  behind_parts_quiet (Some i) p bytes h =
      let b = based_quiet p h in
      if_quiet (is_word (further i.offset bytes)) _ _
      (record { into = h.into; base = h.base; test = h.test })
      (record { into = b.into; base = b.base; test = b.test })

  unindexed_quiet : (o : Option IndexCode) (p : ExprCode) → Quiet p → Quiet (unindexed o p)
  unindexed_quiet None p h = h
  unindexed_quiet (Some i) p h = based_quiet p h

  address_quiet : (p : ExprCode) → Quiet p → Quiet (by_address p)
  address_quiet p h =
      let v = by_value_quiet (p.base_size + 1) p.base_used _ (λ x t at. one_more _ _ (h.base t at) (omega arith)) in
      record { into = v.into; base = h.base; test = v.test }

  indexed_quiet : (s : Signedness) (element : ℕ) (p q : ExprCode) → Quiet p → Quiet q → Quiet (indexed_by s element p q)
  indexed_quiet s element p q h k = record { into = h.into; base = λ t at. both _ _ (h.base t at) (code_few q k.into _ _); test = h.test }

  element_quiet : (s : Signedness) (element : ℕ) (a b : ExprCode) → Quiet a → Quiet b → Quiet (of_element s element a b)
  element_quiet s element a b h k =
      address_quiet (indexed_by s element (unindexed a.index a) b) (indexed_quiet s element (unindexed a.index a) b (unindexed_quiet a.index a h) k)

  unary_value_quiet : (op : UnaryOperation) (a : ExprCode) → Quiet a → Quiet (of_unary_value op a)
  unary_value_quiet op a h = by_value_quiet _ _ _ (λ x t at. one_more _ _ (code_few a h.into t at) (omega arith))

  with_test_quiet : (c : ExprCode) (size : (met unmet : Bool) → ℕ) (test : (met unmet : Exit) → (t at : ℕ) → List InstructionTree) (used : ℕ) → Quiet c → FewTests test → Quiet (with_test c size test used)
  with_test_quiet c size test used s h = record { into = s.into; base = s.base; test = h }

  truth_quiet : (j : Bool) (a : ExprCode) → Quiet a → Quiet (of_truth j a)
  truth_quiet true a h = h
  truth_quiet false a h = with_test_quiet _ _ _ _ (unary_value_quiet unaries.Truth a h) h.test

  plus_quiet : (i : Bool) (s : Signedness) (a : ExprCode) → Quiet a → Quiet (of_plus i s a)
  plus_quiet true s a h = h
  plus_quiet false s a h = unary_value_quiet (unaries.Plus s) a h

  compound_quiet : (op : UnaryOperation) (i j : Bool) (a : ExprCode) → Quiet a → Quiet (of_compound op i j a)
  compound_quiet (unaries.Plus s) i j a h = plus_quiet i s a h
  compound_quiet (unaries.Minus s) i j a h = unary_value_quiet (unaries.Minus s) a h
  compound_quiet (unaries.Complement s) i j a h = unary_value_quiet (unaries.Complement s) a h
  compound_quiet unaries.Not i j a h = with_test_quiet _ _ _ _ (unary_value_quiet unaries.Not a h) (λ x y t at. h.test y x t at)
  compound_quiet unaries.Truth i j a h = truth_quiet j a h

  simple_or_quiet : (o : Option Operand) (c : ExprCode) → Quiet c → Quiet (simple_or o c)
  simple_or_quiet None c h = h
  simple_or_quiet (Some o) c h = operand_quiet o

  converting_few : (read : Option Operand) (s : Scalar) (x : ℕ) (o : Operand) → arguments_of (converting read s x o) ≤ n
  converting_few None s x o = omega arith
  converting_few (Some p) s x o = omega arith

  conversion_quiet : (s : Scalar) (i : Bool) (a : ExprCode) → Quiet a → Quiet (of_conversion s i a)
  conversion_quiet s i a h =
      simple_or_quiet (a.simple >>= converted s) _
      (if_quiet i a _ h (by_value_quiet _ _ _ (λ x t at. one_more _ _ (code_few a h.into t at) (converting_few _ s x _))))

  pair_few : (a b : ExprCode) → Quiet a → Quiet b → (t at : ℕ) → Few (pair_code a b t at)
  pair_few a b h k t at = both _ _ (code_few a h.into t at) (code_few b k.into _ _)

  swapped_few : (z : Bool) (op : BinaryOperation) (x : ℕ) (o p : Operand) → arguments_of (if z then binary op x p o else binary op x o p) ≤ n
  swapped_few true op x o p = omega arith
  swapped_few false op x o p = omega arith

  binary_value_quiet : (op : BinaryOperation) (a b : ExprCode) → Quiet a → Quiet b → Quiet (of_binary_value op a b)
  binary_value_quiet op a b h k = by_value_quiet _ _ _ (λ x t at. one_more _ _ (pair_few a b h k t at) (swapped_few (swaps op _) op x _ _))

  condition_quiet : (c : ExprCode) (f : Operand → Operand → Condition) (a b : ExprCode) → Quiet c → Quiet a → Quiet b → Quiet (with_condition c f a b)
  condition_quiet c f a b s h k = with_test_quiet c _ _ _ s (λ x y t at. both _ _ (pair_few a b h k t at) (branch_few _ x y))

  operation_quiet : (op : BinaryOperation) (a b : ExprCode) → Quiet a → Quiet b → Quiet (of_operation op a b)
  operation_quiet (binaries.Arithmetic op s) a b h k = binary_value_quiet (binaries.Arithmetic op s) a b h k
  operation_quiet (binaries.Compare op s) a b h k = condition_quiet _ (conditions.Compare op s) a b (binary_value_quiet (binaries.Compare op s) a b h k) h k
  operation_quiet (binaries.Move Up s element) a b h k = element_quiet s element a b h k
  operation_quiet (binaries.Move Down s element) a b h k = binary_value_quiet (binaries.Move Down s element) a b h k
  operation_quiet (binaries.Difference element) a b h k = binary_value_quiet (binaries.Difference element) a b h k
  operation_quiet (binaries.ComparePointers op) a b h k = condition_quiet _ (conditions.ComparePointers op) a b (binary_value_quiet (binaries.ComparePointers op) a b h k) h k

  stepped_quiet : (o : Option ℕ) (a c : ExprCode) → Quiet a → Quiet c → Quiet (stepped_or o a c)
  stepped_quiet None a c h k = k
  stepped_quiet (Some bytes) a c h k = address_quiet _ (behind_parts_quiet a.index a bytes h)

  choice_quiet : (c a b : ExprCode) → Quiet c → Quiet a → Quiet b → Quiet (of_choice c a b)
  choice_quiet c a b g h k = by_value_quiet _ _ _ (λ x t at. both _ _ (g.test _ _ t at) (both _ _ (h.into x t _) (omega arith, k.into x t _)))

  and_quiet : (known : Option Bool) (j : Bool) (a b : ExprCode) → Quiet a → Quiet b → Quiet (of_and known j a b)
  and_quiet None j a b h k = by_test_quiet _ _ _ (λ x y t at. both _ _ (h.test _ _ t at) (k.test x y t _))
  and_quiet (Some true) j a b h k = truth_quiet j b k
  and_quiet (Some false) j a b h k = operand_quiet (truth_operand false)

  or_quiet : (known : Option Bool) (j : Bool) (a b : ExprCode) → Quiet a → Quiet b → Quiet (of_or known j a b)
  or_quiet None j a b h k = by_test_quiet _ _ _ (λ x y t at. both _ _ (h.test _ _ t at) (k.test x y t _))
  or_quiet (Some true) j a b h k = operand_quiet (truth_operand true)
  or_quiet (Some false) j a b h k = truth_quiet j b k

  conditional_quiet : (known : Option Bool) (c a b : ExprCode) → Quiet c → Quiet a → Quiet b → Quiet (of_conditional known c a b)
  conditional_quiet None c a b g h k = choice_quiet c a b g h k
  conditional_quiet (Some true) c a b g h k = h
  conditional_quiet (Some false) c a b g h k = k

  pub quiet : (v : ℕ) (e : CoreExprTree) → Quiet (lowered v e)
  quiet v (core.literal s m) = operand_quiet _
  quiet v core.null_pointer = operand_quiet _
  quiet v (core.variable s x) = operand_quiet _
  quiet v (core.temporary s k) = operand_quiet _
  quiet v (core.address_of b) = operand_quiet _
  quiet v (core.load s a) = by_value_quiet _ _ _ (λ x t at. one_more _ _ ((quiet v a).base t at) (omega arith))
  quiet v (core.member offset a) = address_quiet _ (behind_parts_quiet (lowered v a).index (lowered v a) offset (quiet v a))
  quiet v (core.unary op a) = simple_or_quiet ((lowered v a).simple >>= unary_of op) _ (compound_quiet op (gives_integer a) (gives_truth a) (lowered v a) (quiet v a))
  quiet v (core.binary op a b) =
      simple_or_quiet (folded op (lowered v a).simple (lowered v b).simple) _
      (stepped_quiet (constant_step op (lowered v b).simple) (lowered v a) _ (quiet v a) (operation_quiet op (lowered v a) (lowered v b) (quiet v a) (quiet v b)))
  quiet v (core.conversion s a) = conversion_quiet s (is_idle s a) (lowered v a) (quiet v a)
  quiet v (core.logical_and a b) = and_quiet (lowered v a).known (gives_truth b) _ _ (quiet v a) (quiet v b)
  quiet v (core.logical_or a b) = or_quiet (lowered v a).known (gives_truth b) _ _ (quiet v a) (quiet v b)
  quiet v (core.conditional c a b) = conditional_quiet (lowered v c).known _ _ _ (quiet v c) (quiet v a) (quiet v b)

  all_quiet : (v : ℕ) (es : List CoreExprTree) (t at : ℕ) → Few (all_code (map (lowered v) es) t at)
  all_quiet v [] t at = tt
  all_quiet v (e ∷ es) t at = both _ _ (code_few (lowered v e) (quiet v e).into t at) (all_quiet v es _ _)

  -- ---- parts of statements

  abbrev PartFew : Part → Type 0
  PartFew p = (x : Exits) (at : ℕ) → Few (p.code x at)

  pub record TestedFew (d : Tested) : Type 0 where
    pub front : PartFew d.front
    pub test : Quiet d.test
    pub rest : PartFew d.rest

  abbrev OptionFew : Option Tested → Type 0
  OptionFew None = Unit {0}
  OptionFew (Some d) = TestedFew d

  pub record StmtFew (s : StmtCode) : Type 0 where
    pub part : PartFew s.part
    pub tested : OptionFew s.tested

  going_few : (w : Way) → PartFew (going w)
  going_few to_next x at = exit_few x.next
  going_few to_break x at = exit_few x.on_break
  going_few to_continue x at = exit_few x.on_continue

  joined_few : (a b : Part) → PartFew a → PartFew b → PartFew (joined a b)
  joined_few a b h k x at = both _ _ (h _ at) (k x _)

  redirected_few : (a : Part) (w : Way) → PartFew a → PartFew (redirected a w)
  redirected_few a to_next h x at = h _ at
  redirected_few a to_break h x at = h _ at
  redirected_few a to_continue h x at = h _ at

  straight_few : (size used : ℕ) (code : (at : ℕ) → List InstructionTree) → ((at : ℕ) → Few (code at)) → StmtFew (straight size used code)
  straight_few size used code h = record { part = λ x at. both _ _ (h at) (exit_few x.next); tested = tt }

  behind_few : (a : Part) (d : Option Tested) → PartFew a → OptionFew d → OptionFew (tested_behind a d)
  behind_few a None h k = tt
  behind_few a (Some d) h k = record { front = joined_few a d.front h k.front; test = k.test; rest = k.rest }

  before_few : (a : StmtCode) (w : Option Way) (b : StmtCode) → StmtFew a → StmtFew b → StmtFew (of_before a w b)
  before_few a None b h k = record { part = joined_few a.part b.part h.part k.part; tested = behind_few a.part b.tested h.part k.tested }
  before_few a (Some w) b h k = record { part = redirected_few a.part w h.part; tested = tt }

  ways_few : (w : Option Way) (a b : StmtCode) → StmtFew a → StmtFew b → StmtFew (of_ways w a b)
  ways_few None a b h k = before_few a b.way b h k
  ways_few (Some w) a b h k = k

  if_stmt_few : (b : Bool) (s r : StmtCode) → StmtFew s → StmtFew r → StmtFew (if b then s else r)
  if_stmt_few true s r h k = h
  if_stmt_few false s r h k = k

  branch_part_few : (t : ℕ) (e : ExprCode) (v w : Option Way) (a b : Part) → Quiet e → PartFew a → PartFew b → PartFew (branch_part t e v w a b)
  branch_part_few t e (Some v) (Some w) a b g h k x at = g.test _ _ t at
  branch_part_few t e None (Some w) a b g h k x at = both _ _ (g.test _ _ t at) (h x _)
  branch_part_few t e (Some v) None a b g h k x at = both _ _ (g.test _ _ t at) (k x _)
  branch_part_few t e None None a b g h k x at = both _ _ (g.test _ _ t at) (both _ _ (h _ _) (k x _))

  test_few : (e : ExprCode) (i : Bool) (rest : Part) (w : Option Way) → Quiet e → PartFew rest → OptionFew (test_of e i rest w)
  test_few e i rest None h g = tt
  test_few e i rest (Some to_next) h g = tt
  test_few e i rest (Some to_break) h g = record { front = going_few to_next; test = h; rest = g }
  test_few e i rest (Some to_continue) h g = tt

  branch_stmt_few : (known : Option Bool) (t : ℕ) (e : ExprCode) (a b : StmtCode) → Quiet e → StmtFew a → StmtFew b → StmtFew (of_branch known t e a b)
  branch_stmt_few None t e a b g h k = record {
    part = branch_part_few t e a.way b.way a.part b.part g h.part k.part;
    tested = test_few e (is_next a.way) a.part b.way g h.part;
  }
  branch_stmt_few (Some true) t e a b g h k = h
  branch_stmt_few (Some false) t e a b g h k = k

  test_last_few : (t : ℕ) (d : Tested) (step : Part) → TestedFew d → PartFew step → PartFew (test_last t d step)
  test_last_few t d step h k x at = (omega arith, both _ _ (h.rest _ _) (both _ _ (k _ _) (both _ _ (h.front _ _) (h.test.test _ _ t _))))

  if_part_few : (b : Bool) (p q : Part) → PartFew p → PartFew q → PartFew (if b then p else q)
  if_part_few true p q h k = h
  if_part_few false p q h k = k

  loop_few : (t : ℕ) (d : Option Tested) (body : Part) (step : StmtCode) → OptionFew d → PartFew body → StmtFew step → PartFew (loop_part t d body step)
  loop_few t None body step g h k =
      if_part_few (is_next step.way) (body_alone body) (body_first body step.part) (λ x at. h _ at) (λ x at. both _ _ (h _ at) (k.part _ _))
  loop_few t (Some d) body step g h k =
      if_part_few (d.is_idle && is_next step.way) (body_alone body) (test_last t d step.part) (λ x at. h _ at) (test_last_few t d step.part g k.part)

  cases_few : (o : Operand) (labels : List CoreLabel) (places : List ℕ) → Few (case_code o labels places)
  cases_few o [] places = tt
  cases_few o (Case m part ∷ labels) places = (omega arith, cases_few o labels places)
  cases_few o (Default part ∷ labels) places = cases_few o labels places

  asked_few : (b : Bool) (o : Operand) (to : ℕ) → Few (asked_code b o to)
  asked_few true o to = (omega arith, tt)
  asked_few false o to = tt

  choice_few : (t : ℕ) (e : ExprCode) (labels : List CoreLabel) (places : List ℕ) (other at : ℕ) → Quiet e → Few (choice_code t e labels places other at)
  choice_few t e labels places other at h =
      both _ _ (code_few e h.into t at) (both _ _ (cases_few _ labels places) (one_more _ _ (asked_few (is_asked labels) _ other) (omega arith)))

  mutual
    pub stmt_few : (v t : ℕ) (s : CoreStmtTree) → most_arguments s ≤ n → StmtFew (stmt_code v t s)
    stmt_few v t core.skip h = record { part = going_few to_next; tested = tt }
    stmt_few v t (core.seq ss) h = stmts_few v t ss h
    stmt_few v t (core.assign x e) h = straight_few _ _ _ ((quiet v e).into (target_of v x) t)
    stmt_few v t (core.store s a b) h =
        straight_few _ _ _ (λ at. both _ _ ((quiet v a).base t at) (one_more _ _ (code_few (lowered v b) (quiet v b).into _ _) (omega arith)))
    stmt_few v t (core.copy size alignment a b) h =
        straight_few _ _ _ (λ at. both _ _ ((quiet v a).base t at) (one_more _ _ ((quiet v b).base _ _) (omega arith)))
    stmt_few v t (core.fill blank a) h = straight_few _ _ _ (λ at. one_more _ _ ((quiet v a).base t at) (omega arith))
    stmt_few v t (core.call x f es) h = straight_few _ _ _ (λ at. one_more _ _ (all_quiet v es t at) (let c = operand_count v es t in omega (arith, c, h)))
    stmt_few v t (core.branch e a b) h =
        branch_stmt_few (lowered v e).known t (lowered v e) (stmt_code v t a) (stmt_code v t b) (quiet v e) (stmt_few v t a (omega (arith, h))) (stmt_few v t b (omega (arith, h)))
    stmt_few v t (core.loop body step) h =
        let first = stmt_few v t body (omega (arith, h)) in
        record { part = loop_few t (stmt_code v t body).tested (stmt_code v t body).part (stmt_code v t step) first.tested first.part (stmt_few v t step (omega (arith, h))); tested = tt }
    stmt_few v t (core.switch e labels ss) h =
        record { part = λ x at. both _ _ (choice_few t (lowered v e) labels _ _ at (quiet v e)) (row_few v t ss h (in_switch x) _); tested = tt }
    stmt_few v t core.break h = record { part = going_few to_break; tested = tt }
    stmt_few v t core.continue h = record { part = going_few to_continue; tested = tt }
    stmt_few v t (core.return None) h = record { part = λ x at. (omega arith, tt); tested = tt }
    stmt_few v t (core.return (Some e)) h = record { part = λ x at. one_more _ _ (code_few (lowered v e) (quiet v e).into t at) (omega arith); tested = tt }

    pub stmts_few : (v t : ℕ) (ss : CoreStmts) → most_arguments_in ss ≤ n → StmtFew (stmts_code v t ss)
    stmts_few v t no_stmts h = record { part = going_few to_next; tested = tt }
    stmts_few v t (stmt_and s no_stmts) h = stmt_few v t s (omega (arith, h))
    stmts_few v t (stmt_and s (stmt_and r ss)) h =
        if_stmt_few (stmt_code v t s).ends _ _ (stmt_few v t s (omega (arith, h)))
        (ways_few (stmt_code v t s).way (stmt_code v t s) (stmts_code v t (stmt_and r ss)) (stmt_few v t s (omega (arith, h))) (stmts_few v t (stmt_and r ss) (omega (arith, h))))

    pub row_few : (v t : ℕ) (ss : CoreStmts) → most_arguments_in ss ≤ n → PartFew (row v t ss).part
    row_few v t no_stmts h = going_few to_next
    row_few v t (stmt_and s no_stmts) h = (stmt_few v t s (omega (arith, h))).part
    row_few v t (stmt_and s (stmt_and r ss)) h =
        joined_few (stmt_code v t s).part (row v t (stmt_and r ss)).part (stmt_few v t s (omega (arith, h))).part (row_few v t (stmt_and r ss) (omega (arith, h)))

  -- ---- threads

  retargeted_few : (k : ℕ → ℕ) (i : InstructionTree) → arguments_of (retargeted k i) ≡ arguments_of i
  retargeted_few k (move x o) = refl
  retargeted_few k (unary op x o) = refl
  retargeted_few k (binary op x o p) = refl
  retargeted_few k (convert s x o) = refl
  retargeted_few k (address_of x p) = refl
  retargeted_few k (load s x p) = refl
  retargeted_few k (store s p o) = refl
  retargeted_few k (copy size alignment p q) = refl
  retargeted_few k (fill blank p) = refl
  retargeted_few k (call x g arguments) = refl
  retargeted_few k (jump to) = refl
  retargeted_few k (branch c to) = refl
  retargeted_few k (return o) = refl

  pub threaded_few : (k : ℕ → ℕ) (code : List InstructionTree) → Few code → Few (map (retargeted k) code)
  threaded_few k [] h = tt
  threaded_few k (i ∷ code) h = let e = retargeted_few k i in let l = h.0 in (omega arith, threaded_few k code h.1)
