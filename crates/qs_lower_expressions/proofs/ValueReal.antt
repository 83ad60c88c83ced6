-- Code that makes a value is an operand, an address and a test; instructions that give a value, behind code.
use Rattle.std.proofs.Common.{◌≡◌, ℕ, suc, ◌+◌, ◌-◌, ◌<◌, ◌≤◌, Bool, true, false, not, if◌then◌else◌, List, [], ◌∷◌, ◌++◌, length, Option, Some, None, refl, sym, ap, ◌∙◌, subst, arith}
use Rattle.std.specs.List.{slice_get}
use Rattle.qs_memory.specs.Partial.{◌>>=◌}
use Rattle.qs_memory.specs.Values.{Pointer, Value, as_integer, as_pointer}
use Rattle.qs_memory.specs.Memory.{Memory}
use Rattle.std.specs.Prelude.{◌==◌, nat_lt, nat_le}
use Rattle.std.proofs.lemmas.Bool.Decides.{nat_tests}
use Rattle.std.proofs.Math.Bool.{not-not}
use Rattle.std.proofs.lemmas.Option.{same_Some}
use Rattle.qs_memory.specs.Partial.{only_if}
use Rattle.qs_memory.specs.Memory.{target}
use Rattle.qs_memory.specs.Pointers.{truth, in_one_block, equal, compares_pointers}
use Rattle.qs_memory.specs.Integers.{is_less, compares}
use Rattle.qs_memory.specs.declared.operation.Signedness.{Signedness}
use Rattle.qs_memory.specs.declared.operation.Comparison.{Comparison}
use Rattle.qs_memory.specs.declared.operation.Comparison.TheVariants as comparisons
use Rattle.qs_events.specs.Runs.{undefined}
use Rattle.qs_calls.specs.World.{World, RootRun, Environment, with_value}
use Rattle.qs_core.specs.Trees.{CoreExprTree, CoreFunctionTree}
use Rattle.qs_core.specs.Expressions.{Locals, value}
use Rattle.qs_memory.specs.Memory as memory
use Rattle.qs_memory.specs.declared.scalar.Scalar.{Scalar}
use Rattle.qs_core.specs.Trees as core
use Rattle.qs_tac.specs.Trees.{InstructionTree, move, load, jump, branch}
use Rattle.qs_tac.specs.Holders.{temporaries}
use Rattle.qs_tac.specs.Values.{operand, holds}
use Rattle.qs_tac.specs.Steps.{Next, gives, step, steps}
use Rattle.qs_tac.specs.declared.operands.Operand.{Operand}
use Rattle.qs_tac.specs.declared.operands.Condition.{Condition}
use Rattle.qs_tac.specs.declared.operands.Condition.TheVariants.{NotZero, Zero, Compare, ComparePointers}
use Rattle.qs_lower_expressions.specs.Exits.{Exit, falls, goes, is_fall, exit_size, exit_code, opposite_comparison, opposite, branch_size, branch_code}
use Rattle.qs_lower_expressions.specs.Operands.{truth_of}
use Rattle.qs_lower_expressions.specs.Expressions.{ExprCode, size_of, code_of, operand_of, own, based, known_size, known_code, tested, no_code, by_operand, by_value, address_at, of_load}
use Rattle.qs_lower_expressions.proofs.SizeLaws.{sized, one_more, Sized, code_length, operand_sized, by_value_sized}
use Rattle.qs_lower_expressions.proofs.OperandLaws.{known_truth}
use Rattle.qs_lower_expressions.proofs.AddressLaws.{bind_some}
use Rattle.qs_lower_expressions.specs.Threads.{leads_to}
use Rattle.qs_lower_expressions.proofs.ThreadLaws.{IsPlain}
use Rattle.qs_lower_expressions.proofs.RealisationLaws.{Model, Act, Stack, HasAt, has_left, has_right, Kept, KeptBut, kept_all, kept_below, Real, real_less, real_given, real_jump, real_branch, moves, instruction_is, NoJump, moment, IsCode, Agree, free, IntoReal, SimpleReal, OperandReal, BaseReal, Goes, by_answer, TestReal, KnownReal}

pub none_bind : {A B : Type 0} (o : Option A) (f : A → Option B) → o ≡ None → (o >>= f) ≡ None
none_bind o f h = ap (λ p. p >>= f) h

-- ---- opposite conditions

abbrev pub negated : Option Bool → Option Bool
negated o = o >>= λ b. Some (not b)

pub twice_negated : (o : Option Bool) → o ≡ negated (negated o)
twice_negated None = refl
twice_negated (Some b) = ap Some (sym (not-not b))

pub opposite_compares : (op : Comparison) (s : Signedness) (x y : ℕ) → compares (opposite_comparison op) s x y ≡ not (compares op s x y)
opposite_compares comparisons.Less s x y = refl
opposite_compares comparisons.LessOrEqual s x y = sym (not-not (is_less s y x))
opposite_compares comparisons.Greater s x y = refl
opposite_compares comparisons.GreaterOrEqual s x y = sym (not-not (is_less s x y))
opposite_compares comparisons.Equal s x y = refl
opposite_compares comparisons.NotEqual s x y = sym (not-not (x == y))

pub negated_bind : {A : Type 0} (o : Option A) (f g : A → Option Bool) → ((a : A) → g a ≡ negated (f a)) → (o >>= g) ≡ negated (o >>= f)
negated_bind None f g h = refl
negated_bind (Some a) f g h = h a

pub negated_only_if : (b : Bool) (o p : Option Bool) → p ≡ negated o → only_if b p ≡ negated (only_if b o)
negated_only_if true o p h = h
negated_only_if false o p h = refl

pub opposite_block :
    (m : Memory) (p q : Pointer) (f g : ℕ → ℕ → Bool) → ((i j : ℕ) → g i j ≡ not (f i j))
    → in_one_block m p q (λ i j. Some (g i j)) ≡ negated (in_one_block m p q (λ i j. Some (f i j)))
opposite_block m p q f g h =
    negated_bind (target m p) _ _ (λ t. negated_bind (target m q) _ _ (λ u. negated_only_if (t.block == u.block) _ _ (ap Some (h t.offset u.offset))))

pub le_not_lt : (i j : ℕ) → nat_le j i ≡ not (nat_lt i j)
le_not_lt i j = grind (arith, nat_tests)

pub lt_not_le : (i j : ℕ) → nat_lt j i ≡ not (nat_le i j)
lt_not_le i j = grind (arith, nat_tests)

pub opposite_pointers : (op : Comparison) (m : Memory) (p q : Pointer) → compares_pointers (opposite_comparison op) m p q ≡ negated (compares_pointers op m p q)
opposite_pointers comparisons.Less m p q = opposite_block m p q _ _ (λ i j. le_not_lt i j)
opposite_pointers comparisons.LessOrEqual m p q = opposite_block m p q _ _ (λ i j. lt_not_le i j)
opposite_pointers comparisons.Greater m p q = opposite_block m p q _ _ (λ i j. le_not_lt j i)
opposite_pointers comparisons.GreaterOrEqual m p q = opposite_block m p q _ _ (λ i j. lt_not_le j i)
opposite_pointers comparisons.Equal m p q = refl
opposite_pointers comparisons.NotEqual m p q = twice_negated (equal m p q)

pub opposite_holds : (c : Condition) (a : Act) (m : Memory) → holds temporaries (opposite c) a m ≡ negated (holds temporaries c a m)
opposite_holds (NotZero o) a m = negated_bind (operand temporaries o a) _ _ (λ v. refl)
opposite_holds (Zero o) a m = negated_bind (operand temporaries o a) _ _ (λ v. twice_negated (truth m v))
opposite_holds (Compare op s o p) a m =
    negated_bind (operand temporaries o a) _ _
    (λ v. negated_bind (operand temporaries p a) _ _
    (λ w. negated_bind (as_integer v) _ _ (λ x. negated_bind (as_integer w) _ _ (λ y. ap Some (opposite_compares op s x y)))))
opposite_holds (ComparePointers op o p) a m =
    negated_bind (operand temporaries o a) _ _
    (λ v. negated_bind (operand temporaries p a) _ _
    (λ w. negated_bind (as_pointer v) _ _ (λ q. negated_bind (as_pointer w) _ _ (λ r. opposite_pointers op m q r))))

abbrev pub no_pointer : Pointer → Option Pointer
no_pointer x = None

module _ (u : Model) (f : CoreFunctionTree) (code : List InstructionTree) (function : ℕ) (stack : Stack) (is_code : IsCode u f code function stack) where
  abbrev pub at_moment : (at first : ℕ) → Environment → Act
  at_moment at first e = moment u f code function stack at first e

  abbrev pub Makes : (d at first : ℕ) → Environment → World → RootRun → Type 0
  Makes d at first e w r = Real u d (at_moment at first e) w stack r

  abbrev pub Agrees : Locals → Environment → Type 0
  Agrees l e = Agree u f code function stack l e

  abbrev pub first_free : ℕ
  first_free = free u f code function stack

  pub moved : (d i j first : ℕ) (e : Environment) (w : World) (r : RootRun) → i ≡ j → Makes d i first e w r → Makes d j first e w r
  moved d i j first e w r same real = subst (λ (k : ℕ). Makes d k first e w r) same real

  pub agree_kept : (t : ℕ) (l : Locals) (e after : Environment) → first_free ≤ t → Agrees l e → Kept t e after → Agrees l after
  agree_kept t l e after le agree kept = record {
    variables = λ x lt. kept x (omega (arith, le, lt)) ∙ agree.variables x lt;
    temporaries = λ k lt. kept (length f.variables + k) (omega (arith, le, lt)) ∙ agree.temporaries k lt;
  }

  -- the instruction that comes next is the one that stands there, unless it jumps or branches
  pub at_place :
      (j at first : ℕ) (e : Environment) (w : World) (o : Option InstructionTree) → slice_get code at ≡ o → IsPlain o
      → steps temporaries (moves u) (suc j) (at_moment at first e) w stack
      ≡ step temporaries (moves u) o (steps temporaries (moves u) j) (at_moment at first e) w stack
  at_place j at first e w o has plain =
      ap (λ p. step temporaries (moves u) p (steps temporaries (moves u) j) (at_moment at first e) w stack)
      (instruction_is u (at_moment at first e) o (is_code at ∙ has) plain)

  pub at_instruction :
      (j at first : ℕ) (e : Environment) (w : World) (i : InstructionTree) → slice_get code at ≡ Some i → IsPlain (Some i)
      → steps temporaries (moves u) (suc j) (at_moment at first e) w stack
      ≡ step temporaries (moves u) (Some i) (steps temporaries (moves u) j) (at_moment at first e) w stack
  at_instruction j at first e w i has plain = at_place j at first e w (Some i) has plain

  pub no_jump : (at first : ℕ) (e : Environment) (o : Option InstructionTree) → slice_get code at ≡ o → IsPlain o → NoJump u.unit (at_moment at first e)
  no_jump at first e o has plain = ap leads_to (is_code at ∙ has) ∙ plain.0

  -- ---- single instructions

  -- one that gives a temporary a value
  abbrev pub Gives : (i : InstructionTree) → (x : ℕ) → (at first : ℕ) → Environment → World → Option Value → Type 0
  Gives i x at first e w o =
      IsPlain (Some i)
      × ((next : Next Environment)
      → step temporaries (moves u) (Some i) next (at_moment at first e) w stack ≡ gives temporaries next x o (at_moment at first e) w stack)

  pub gives_real :
      (i : InstructionTree) (d x at first : ℕ) (e : Environment) (w : World) (r : RootRun) (o : Option Value)
      → slice_get code at ≡ Some i → Gives i x at first e w o → (o ≡ None → r ≡ undefined)
      → ((v : Value) → o ≡ Some v → Makes d (at + 1) first (with_value e x v) w r) → Makes d at first e w r
  gives_real i d x at first e w r o has law none some =
      real_given u d (at_moment at first e) w stack r o
      (λ v. at_moment (at + 1) first (with_value e x v)) (λ v. w)
      (no_jump at first e (Some i) has law.0)
      (λ j. at_instruction j at first e w i has law.0 ∙ law.1 (steps temporaries (moves u) j))
      none
      (λ v is. real_less u (d - 1) d _ w stack r (omega arith) (some v is))

  pub jump_real :
      (d at to first : ℕ) (e : Environment) (w : World) (r : RootRun) → slice_get code at ≡ Some (jump to)
      → Makes (d - 1) to first e w r → Makes d at first e w r
  jump_real d at to first e w r has real =
      real_jump u d (at_moment at first e) w stack r to (is_code at ∙ has) real

  pub branch_real :
      (c : Condition) (d at to first : ℕ) (e : Environment) (w : World) (r : RootRun) (o : Option Bool)
      → slice_get code at ≡ Some (branch c to) → holds temporaries c (at_moment at first e) w.memory ≡ o
      → (o ≡ None → r ≡ undefined)
      → ((b : Bool) → o ≡ Some b → Makes (d - 1) (if b then to else (at + 1)) first e w r) → Makes d at first e w r
  branch_real c d at to first e w r o has is none some =
      real_branch u c d (at_moment at first e) w stack r to o (is_code at ∙ has) is none some

  -- ---- exits

  abbrev pub Ends : (d : ℕ) → Exit → (end first : ℕ) → Environment → World → RootRun → Type 0
  Ends d x end first e w r = Goes u f code function stack (λ c p. Makes c p first e w r) d x end

  pub exit_real :
      (d at first : ℕ) (x : Exit) (e : Environment) (w : World) (r : RootRun) → HasAt code at (exit_code x)
      → Ends d x (at + exit_size (is_fall x)) first e w r → Makes d at first e w r
  exit_real d at first (falls p) e w r has ends = moved d (at + 0) at first e w r (omega arith) ends.0
  exit_real d at first (goes p) e w r has ends = jump_real d at p first e w r has.0 ends

  -- a branch and a jump to two exits
  pub negated_some : (o : Option Bool) (b : Bool) → negated o ≡ Some b → o ≡ Some (not b)
  negated_some None b h = absurd (cc)
  negated_some (Some c) b h = ap Some (sym (not-not c) ∙ ap not (same_Some (not c) b h))

  pub negated_none : (o : Option Bool) → negated o ≡ None → o ≡ None
  negated_none None h = refl
  negated_none (Some c) h = absurd (cc)

  pub branches_real :
      (d at first : ℕ) (c : Condition) (met unmet : Exit) (e : Environment) (w : World) (r : RootRun) (o : Option Bool)
      → HasAt code at (branch_code c met unmet) → holds temporaries c (at_moment at first e) w.memory ≡ o
      → (o ≡ None → r ≡ undefined)
      → ((b : Bool) → o ≡ Some b
      → Ends d (by_answer u f code function stack b met unmet) (at + branch_size (is_fall met) (is_fall unmet)) first e w r)
      → Makes d at first e w r
  branches_real d at first c (falls y) (falls n) e w r o has is none some =
      branch_real c d at y first e w r o has.0 is none (λ b h. answered b (some b h))
    where
      answered :
          (b : Bool) → Ends d (by_answer u f code function stack b (falls y) (falls n)) (at + 1) first e w r
          → Makes (d - 1) (if b then y else (at + 1)) first e w r
      answered true g = g.1
      answered false g = real_less u (d - 1) d _ w stack r (omega arith) g.0
  branches_real d at first c (goes y) (falls n) e w r o has is none some =
      branch_real c d at y first e w r o has.0 is none (λ b h. answered b (some b h))
    where
      answered :
          (b : Bool) → Ends d (by_answer u f code function stack b (goes y) (falls n)) (at + 1) first e w r
          → Makes (d - 1) (if b then y else (at + 1)) first e w r
      answered true g = g
      answered false g = real_less u (d - 1) d _ w stack r (omega arith) g.0
  branches_real d at first c (falls y) (goes n) e w r o has is none some =
      branch_real (opposite c) d at n first e w r (negated o) has.0
      (opposite_holds c (at_moment at first e) w.memory ∙ ap negated is)
      (λ h. none (negated_none o h))
      (λ b h. answered b (some (not b) (negated_some o b h)))
    where
      answered :
          (b : Bool) → Ends d (by_answer u f code function stack (not b) (falls y) (goes n)) (at + 1) first e w r
          → Makes (d - 1) (if b then n else (at + 1)) first e w r
      answered true g = g
      answered false g = real_less u (d - 1) d _ w stack r (omega arith) g.0
  branches_real d at first c (goes y) (goes n) e w r o has is none some =
      branch_real c d at y first e w r o has.0 is none (λ b h. answered b (some b h))
    where
      answered :
          (b : Bool) → Ends d (by_answer u f code function stack b (goes y) (goes n)) (at + 2) first e w r
          → Makes (d - 1) (if b then y else (at + 1)) first e w r
      answered true g = g
      answered false g = jump_real (d - 1) (at + 1) n first e w r has.1.0 (real_less u (d - 1 - 1) (d - 1) _ w stack r (omega arith) g)

  -- ---- what a value alone gives: an operand, an address, a test

  pub ends_moved :
      (d : ℕ) (x : Exit) (i j first : ℕ) (e : Environment) (w : World) (r : RootRun) → i ≡ j → Ends d x i first e w r
      → Ends d x j first e w r
  ends_moved d x i j first e w r same h = subst (λ (k : ℕ). Ends d x k first e w r) same h

  abbrev pub Into : CoreExprTree → ExprCode → Type 0
  Into s c = IntoReal u f code function stack s c

  abbrev pub Simple : CoreExprTree → ExprCode → Type 0
  Simple s c = SimpleReal u f code function stack s c

  abbrev pub AsOperand : CoreExprTree → ExprCode → Type 0
  AsOperand s c = OperandReal u f code function stack s c

  abbrev pub AsBase : CoreExprTree → ExprCode → Type 0
  AsBase s c = BaseReal u f code function stack s c

  abbrev pub AsTest : CoreExprTree → ExprCode → Type 0
  AsTest s c = TestReal u f code function stack s c

  abbrev pub AsKnown : CoreExprTree → ExprCode → Type 0
  AsKnown s c = KnownReal u f code function stack s c

  pub not_itself : (x t : ℕ) → x < t → x ≡ t → ⊥
  not_itself x t lt same = absurd (omega (arith, lt, same))

  pub operand_from : (s : CoreExprTree) (c : ExprCode) → Into s c → Simple s c → (o : Option Operand) → c.simple ≡ o → AsOperand s (record c { simple = o })
  operand_from s c into simple None is d t at l e w r le agree has none next =
      into d t t at l e w r le agree has none
      (λ v after gives but holds.
      next after (λ x lt. but x lt (not_itself x t lt))
      (λ i later kept. kept t (omega arith) ∙ holds ∙ sym gives))
  operand_from s c into simple (Some o) is d t at l e w r le agree has none next =
      moved d (at + 0) at l.first_block e w r (omega arith)
      (next e (kept_all t e)
      (λ i later kept. simple o is i l later w.memory (agree_kept t l e later le agree (kept_below t (t + 0) e later (omega arith) kept))))

  pub operand_real : (s : CoreExprTree) (c : ExprCode) → Into s c → Simple s c → AsOperand s c
  operand_real s c into simple = operand_from s c into simple c.simple refl

  pub base_from : (s : CoreExprTree) (c : ExprCode) → AsOperand s c → AsBase s (based c)
  base_from s c operand_is d t at l e w r le agree has none next =
      operand_is d t at l e w r le agree has (λ h. none (none_bind (value s l w.memory) as_pointer h))
      (λ after kept same.
      next after kept
      (λ i later k.
      ap (λ o. o >>= λ v. as_pointer v >>= λ q. Some q) (same i later k)
      ∙ plain_pointer (value s l w.memory)))
    where
      plain_pointer : (o : Option Value) → (o >>= λ v. as_pointer v >>= λ q. Some q) ≡ (o >>= as_pointer)
      plain_pointer None = refl
      plain_pointer (Some v) = bind_some (as_pointer v)

  pub known_from : (s : CoreExprTree) (c : ExprCode) → Simple s c → (o : Option Operand) → c.simple ≡ o → (b : Bool) → (o >>= truth_of) ≡ Some b
      → (at : ℕ) (l : Locals) (e : Environment) (m : Memory) → Agrees l e → (value s l m >>= truth m) ≡ Some b
  known_from s c simple None is b known at l e m agree = absurd (cc)
  known_from s c simple (Some o) is b known at l e m agree =
      ap (λ v. v >>= truth m) (sym (simple o is at l e m agree))
      ∙ known_truth temporaries (at_moment at l.first_block e) m o b known

  pub test_from :
      (s : CoreExprTree) (c : ExprCode) → Sized c → AsOperand s c → (known : Option Bool)
      → ((b : Bool) → known ≡ Some b → (at : ℕ) (l : Locals) (e : Environment) (m : Memory) → Agrees l e → (value s l m >>= truth m) ≡ Some b)
      → AsTest s (record c {
        test_size = known_size known (size_of c);
        test = λ met unmet t at. known_code known (code_of c t at) (NotZero (operand_of c t)) met unmet;
      })
  test_from s c size operand_is None answer d t at met unmet l e w r le agree has none next =
      operand_is d t at l e w r le agree (has_left code at (code_of c t at) _ has) (λ h. none (none_bind (value s l w.memory) (truth w.memory) h))
      (λ after kept same.
      branches_real d (at + size_of c) l.first_block (NotZero (operand_of c t)) met unmet after w r (value s l w.memory >>= truth w.memory)
      (has_right code at (size_of c) (code_of c t at) _ (code_length c size.into t at) has)
      (ap (λ v. v >>= truth w.memory) (same (at + size_of c) after (kept_all (t + own c) after)))
      none
      (λ b h. ends_moved d (by_answer u f code function stack b met unmet) _ _ l.first_block after w r (omega arith) (next b after h kept)))
  test_from s c size operand_is (Some true) answer d t at met unmet l e w r le agree has none next =
      exit_real d at l.first_block met e w r has (next true e (answer true refl at l e w.memory agree) (kept_all t e))
  test_from s c size operand_is (Some false) answer d t at met unmet l e w r le agree has none next =
      exit_real d at l.first_block unmet e w r has (next false e (answer false refl at l e w.memory agree) (kept_all t e))

  -- all that is claimed of an expression's code
  pub record Correct (s : CoreExprTree) (c : ExprCode) : Type 0 where
    pub sized : Sized c
    pub into : Into s c
    pub simple : Simple s c
    pub base : AsBase s c
    pub test : AsTest s c
    pub known : AsKnown s c

  pub as_operand : (s : CoreExprTree) (c : ExprCode) → Correct s c → AsOperand s c
  as_operand s c h = operand_real s c h.into h.simple

  -- from a value alone
  pub value_correct : (s : CoreExprTree) (c : ExprCode) → Sized c → Sized (tested (based c)) → Into s c → Simple s c → Correct s (tested (based c))
  value_correct s c size sized into simple =
      let o = operand_real s c into simple in
      record {
        sized = sized;
        into = into;
        simple = simple;
        base = base_from s c o;
        test = test_from s c size o (c.simple >>= truth_of) (λ b h. known_from s c simple c.simple refl b h);
        known = λ b h. known_from s c simple c.simple refl b h;
      }

  -- ---- an instruction that gives the value, behind code

  pub with_itself : (e : Environment) (x : ℕ) (v : Value) → with_value e x v x ≡ Some v
  with_itself e x v = let here : (x == x) ≡ true = grind (arith, nat_tests) in ap (λ b. if b then Some v else e x) here

  pub with_other : (e : Environment) (x y : ℕ) (v : Value) → (y ≡ x → ⊥) → with_value e x v y ≡ e y
  with_other e x y v other = shown (y == x) refl
    where
      shown : (b : Bool) → (y == x) ≡ b → (if b then Some v else e y) ≡ e y
      shown true h = absurd (other (grind (arith, nat_tests, h)))
      shown false h = refl

  pub finish :
      (i : InstructionTree) (d x t n at : ℕ) (l : Locals) (e after : Environment) (w : World) (r : RootRun) (o want : Option Value)
      → o ≡ want → slice_get code (at + n) ≡ Some i → Gives i x (at + n) l.first_block after w o → Kept t e after
      → (want ≡ None → r ≡ undefined)
      → ((v : Value) (later : Environment) → want ≡ Some v → KeptBut x t e later → later x ≡ Some v → Makes d (at + (n + 1)) l.first_block later w r)
      → Makes d (at + n) l.first_block after w r
  finish i d x t n at l e after w r o want same has law kept none next =
      gives_real i d x (at + n) l.first_block after w r o has law (λ h. none (sym same ∙ h))
      (λ v h. moved d (at + (n + 1)) (at + n + 1) l.first_block (with_value after x v) w r (omega arith)
      (next v (with_value after x v) (sym same ∙ h) (λ y lt other. with_other after x y v other ∙ kept y lt) (with_itself after x v)))

  pub last_at : (at n : ℕ) (xs : List InstructionTree) (i : InstructionTree) → length xs ≡ n → HasAt code at (xs ++ i ∷ []) → slice_get code (at + n) ≡ Some i
  last_at at n xs i size has = (has_right code at n xs (i ∷ []) size has).0

  -- ---- operands as they are

  pub operand_correct : (s : CoreExprTree) (o : Operand)
      → ((at : ℕ) (l : Locals) (e : Environment) (m : Memory) → Agrees l e → operand temporaries o (at_moment at l.first_block e) ≡ value s l m)
      → Correct s (by_operand o)
  operand_correct s o is =
      value_correct s (record no_code { simple = Some o; size = 1; into = λ x t at. move x o ∷ [] })
      (record { into = λ x t at. refl; base = λ t at. refl; test = λ x y t at. refl })
      (operand_sized o)
      (λ d x t at l e w r le agree has none next.
      moved d (at + 0) at l.first_block e w r (omega arith)
      (finish (move x o) d x t 0 at l e e w r (operand temporaries o (at_moment (at + 0) l.first_block e)) (value s l w.memory)
      (is (at + 0) l e w.memory agree)
      (ap (slice_get code) (omega arith) ∙ has.0)
      ((refl, λ g. refl), λ next. refl) (kept_all t e) none next))
      (λ p same at l e m agree. ap (λ (q : Operand). operand temporaries q (at_moment at l.first_block e)) (sym (same_Some o p same)) ∙ is at l e m agree)

  -- ---- values by code

  pub by_value_correct :
      (s : CoreExprTree) (size used : ℕ) (into : (x t at : ℕ) → List InstructionTree) → ((x t at : ℕ) → length (into x t at) ≡ size)
      → Into s (record no_code { size = size; into = into; used = used }) → Correct s (by_value size used into)
  by_value_correct s size used into long real =
      value_correct s (record no_code { size = size; into = into; used = used })
      (record { into = long; base = λ t at. refl; test = λ x y t at. refl })
      (by_value_sized size used into long) real (λ o h. absurd (cc))

  pub load_correct : (s : Scalar) (a : CoreExprTree) (p : ExprCode) → Correct a p → Correct (core.load s a) (of_load s p)
  load_correct s a p h =
      by_value_correct (core.load s a) (p.base_size + 1) p.base_used _ (λ x t at. one_more _ _ _ (h.sized.base t at))
      (λ d x t at l e w r le agree has none next.
      h.base d t at l e w r le agree (has_left code at (p.base_code t at) _ has)
      (λ k. none (load_same (value a l w.memory) s w.memory ∙ none_bind _ _ k))
      (λ after kept same.
      finish (load s x (address_at p t)) d x t p.base_size at l e after w r _ (value (core.load s a) l w.memory)
      (ap (λ o. o >>= λ q. memory.load s w.memory q) (same (at + p.base_size) after (kept_all (t + p.base_own) after))
      ∙ sym (load_same (value a l w.memory) s w.memory))
      (last_at at p.base_size (p.base_code t at) _ (h.sized.base t at) has)
      ((refl, λ g. refl), λ next. refl) kept none next))
    where
      load_same : (o : Option Value) (s : Scalar) (m : Memory) → (o >>= λ v. as_pointer v >>= λ q. memory.load s m q) ≡ ((o >>= as_pointer) >>= λ q. memory.load s m q)
      load_same None s m = refl
      load_same (Some v) s m = refl
