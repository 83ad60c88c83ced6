-- The code of each expression makes its value, is its operand, its address and its test.
use Rattle.std.proofs.Common.{◌≡◌, ℕ, ◌+◌, ◌-◌, ◌<◌, ◌≤◌, Bool, true, false, if◌then◌else◌, List, [], ◌∷◌, ◌++◌, length, Option, Some, None, refl, sym, ap, ◌∙◌, arith}
use Rattle.std.specs.List.{slice_get}
use Rattle.qs_memory.specs.Partial.{◌>>=◌}
use Rattle.qs_memory.specs.Values.{Value, integer, address, as_pointer}
use Rattle.qs_memory.specs.Memory.{Memory}
use Rattle.qs_core.specs.declared.numbers.BlockId.{BlockId}
use Rattle.qs_core.specs.declared.numbers.BlockId.TheVariants as ids
use Rattle.qs_core.specs.Expressions.{block_pointer}
use Rattle.qs_memory.specs.Pointers.{member_of, truth}
use Rattle.qs_memory.specs.Operations.{of_truth}
use Rattle.qs_events.specs.Runs.{undefined}
use Rattle.qs_calls.specs.World.{World, RootRun, Environment}
use Rattle.qs_core.specs.Trees.{CoreExprTree, CoreFunctionTree}
use Rattle.qs_core.specs.Expressions.{Locals, value, truth_value}
use Rattle.qs_core.specs.Trees as core
use Rattle.qs_memory.specs.declared.operation.UnaryOperation.{UnaryOperation}
use Rattle.qs_memory.specs.declared.operation.UnaryOperation.TheVariants as unaries
use Rattle.qs_tac.specs.Trees.{InstructionTree, move, jump}
use Rattle.qs_tac.specs.Holders.{temporaries}
use Rattle.qs_tac.specs.Values.{operand, holds}
use Rattle.qs_tac.specs.Steps.{gives}
use Rattle.qs_tac.specs.declared.operands.Operand.TheVariants.{Temporary, Constant, Null}
use Rattle.qs_lower_expressions.specs.Exits.{Exit, falls, goes, is_fall, place_of, settled}
use Rattle.qs_lower_expressions.specs.Operands.{gives_truth, block_operand}
use Rattle.qs_lower_expressions.specs.Expressions.{ExprCode, no_code, behind, number_of, by_test, both_size, of_both_tests, either_size, of_either_test, of_choice, of_and, of_or, of_conditional, lowered}
use Rattle.qs_lower_expressions.proofs.SizeLaws.{behind_sized, by_test_sized, choice_sized, both, TestSized}
use Rattle.qs_lower_expressions.proofs.OperandLaws.{TruthOrNone, gives_truth_is, truth_again}
use Rattle.qs_lower_expressions.proofs.AddressLaws.{bind_some, bind_bind, bind_same}
use Rattle.qs_lower_expressions.proofs.RealisationLaws.{Model, Act, Stack, HasAt, has_left, has_right, Kept, KeptBut, kept_then, Real, real_less, moment, IsCode, Agree, free, IntoReal, Goes, by_answer, TestReal}
use Rattle.qs_lower_expressions.proofs.ValueReal.{none_bind}
use Rattle.qs_lower_expressions.proofs.ValueReal as value_real
use Rattle.qs_lower_expressions.proofs.AddressReal as address_real
use Rattle.qs_lower_expressions.proofs.OperandReal as operands_real

module _ (u : Model) (f : CoreFunctionTree) (code : List InstructionTree) (function : ℕ) (stack : Stack) (is_code : IsCode u f code function stack) where
  abbrev pub at_moment : (at first : ℕ) → Environment → Act
  at_moment at first e = moment u f code function stack at first e

  abbrev pub Makes : (d at first : ℕ) → Environment → World → RootRun → Type 0
  Makes d at first e w r = Real u d (at_moment at first e) w stack r

  abbrev pub Agrees : Locals → Environment → Type 0
  Agrees l e = Agree u f code function stack l e

  abbrev pub first_free : ℕ
  first_free = free u f code function stack

  abbrev pub Ends : (d : ℕ) → Exit → (end first : ℕ) → Environment → World → RootRun → Type 0
  Ends d x end first e w r = Goes u f code function stack (λ c p. Makes c p first e w r) d x end

  abbrev pub Into : CoreExprTree → ExprCode → Type 0
  Into s c = IntoReal u f code function stack s c

  abbrev pub AsTest : CoreExprTree → ExprCode → Type 0
  AsTest s c = TestReal u f code function stack s c

  abbrev pub Correct : CoreExprTree → ExprCode → Type 0
  Correct s c = value_real.Correct u f code function stack is_code s c

  abbrev pub Unary : UnaryOperation → CoreExprTree → CoreExprTree
  Unary op a = core.unary op a

  -- ---- `&&`, `||`, `?:`

  pub ends_less : (c d : ℕ) (x : Exit) (end first : ℕ) (e : Environment) (w : World) (r : RootRun) → c ≤ d → Ends d x end first e w r → Ends c x end first e w r
  ends_less c d (falls p) end first e w r le h = (real_less u c d _ w stack r le h.0, real_less u (c - 1) (d - 1) _ w stack r (omega (arith, le)) h.1)
  ends_less c d (goes p) end first e w r le h = real_less u (c - 1) (d - 1) _ w stack r (omega (arith, le)) h

  pub settled_ends : (d : ℕ) (x : Exit) (end first : ℕ) (e : Environment) (w : World) (r : RootRun) → Ends d x end first e w r → Makes (d - 1) (place_of x) first e w r
  settled_ends d (falls p) end first e w r h = h.1
  settled_ends d (goes p) end first e w r h = h

  pub kept_but : (x t : ℕ) (a b c : Environment) → Kept t a b → KeptBut x t b c → KeptBut x t a c
  kept_but x t a b c h k y lt other = k y lt other ∙ h y lt

  -- a number that is its own truth
  pub is_its_truth : (m : Memory) (o : Option Value) → TruthOrNone o → o ≡ ((o >>= truth m) >>= λ b. Some (of_truth b))
  is_its_truth m o h = sym (truth_again m o h) ∙ sym (bind_bind o (truth m) (λ b. Some (of_truth b)))

  pub number_real :
      (s : CoreExprTree) (n : (met unmet : Bool) → ℕ) (test : (met unmet : Exit) → (t at : ℕ) → List InstructionTree) → gives_truth s ≡ true
      → TestSized n test → AsTest s (record no_code { test_size = n; test = test })
      → Into s (record no_code { size = n true false + 3; into = number_of n test })
  number_real s n test is size real d x t at l e w r le agree has none next =
      real d t at (falls (at + n true false)) (goes (at + n true false + 2)) l e w r le agree (has_left code at _ _ has)
      (λ k. none (is_its_truth w.memory (value s l w.memory) (gives_truth_is s is l w.memory) ∙ none_bind _ _ k))
      (λ b after h kept. numbered b after (is_its_truth w.memory (value s l w.memory) (gives_truth_is s is l w.memory) ∙ ap (λ o. o >>= λ b. Some (of_truth b)) h) kept)
    where
      behind : HasAt code (at + n true false) (move x (Constant 1) ∷ jump (at + n true false + 2 + 1) ∷ move x (Constant 0) ∷ [])
      behind = has_right code at (n true false) (test (falls (at + n true false)) (goes (at + n true false + 2)) t at) _ (size _ _ t at) has

      ended : (c : ℕ) (v : Value) (later : Environment) → c ≤ d → value s l w.memory ≡ Some v → KeptBut x t e later → later x ≡ Some v
          → Makes c (at + (n true false + 3)) l.first_block later w r
      ended c v later less gives but holds = real_less u c d _ w stack r less (next v later gives but holds)

      set_one : (c : ℕ) (after : Environment) → c ≤ d → value s l w.memory ≡ Some (integer 1) → Kept t e after → Makes c (at + n true false) l.first_block after w r
      set_one c after less gives kept =
          value_real.finish u f code function stack is_code (move x (Constant 1)) c x t (n true false) at l e after w r (Some (integer 1)) (Some (integer 1)) refl behind.0 ((refl, λ g. refl), λ next. refl) kept (λ k. absurd (cc))
          (λ v later same but holds.
          value_real.jump_real u f code function stack is_code c (at + (n true false + 1)) (at + n true false + 2 + 1) l.first_block later w r
          (ap (slice_get code) (omega arith) ∙ behind.1.0)
          (value_real.moved u f code function stack is_code (c - 1) (at + (n true false + 3)) (at + n true false + 2 + 1) l.first_block later w r (omega arith)
          (ended (c - 1) v later (omega (arith, less)) (gives ∙ same) but holds)))

      set_zero : (c : ℕ) (after : Environment) → c ≤ d → value s l w.memory ≡ Some (integer 0) → Kept t e after → Makes c (at + n true false + 2) l.first_block after w r
      set_zero c after less gives kept =
          value_real.moved u f code function stack is_code c (at + (n true false + 2)) (at + n true false + 2) l.first_block after w r (omega arith)
          (value_real.finish u f code function stack is_code (move x (Constant 0)) c x t (n true false + 2) at l e after w r (Some (integer 0)) (Some (integer 0)) refl
          (ap (slice_get code) (omega arith) ∙ behind.1.1.0) ((refl, λ g. refl), λ next. refl) kept (λ k. absurd (cc))
          (λ v later same but holds.
          value_real.moved u f code function stack is_code c (at + (n true false + 3)) (at + (n true false + 2 + 1)) l.first_block later w r (omega arith)
          (ended c v later less (gives ∙ same) but holds)))

      numbered :
          (b : Bool) (after : Environment) → value s l w.memory ≡ Some (of_truth b) → Kept t e after
          → Ends d (by_answer u f code function stack b (falls (at + n true false)) (goes (at + n true false + 2))) (at + n true false) l.first_block after w r
      numbered true after gives kept = (set_one d after (omega arith) gives kept, set_one (d - 1) after (omega arith) gives kept)
      numbered false after gives kept = set_zero (d - 1) after (omega arith) gives kept

  pub by_test_correct :
      (s : CoreExprTree) (used : ℕ) (n : (met unmet : Bool) → ℕ) (test : (met unmet : Exit) → (t at : ℕ) → List InstructionTree) → gives_truth s ≡ true
      → TestSized n test → AsTest s (record no_code { test_size = n; test = test }) → Correct s (by_test used n test)
  by_test_correct s used n test is size real =
      let v = value_real.by_value_correct u f code function stack is_code s (n true false + 3) used (number_of n test) (λ x t at. both _ _ (n true false) 3 (size _ _ t at) refl)
      (number_real s n test is size real) in
      record { sized = by_test_sized used n test size; into = v.into; simple = v.simple; base = v.base; test = real; known = v.known }

  pub and_truth :
      (m : Memory) (o p : Option Value)
      → ((o >>= λ v. truth m v >>= λ yes. if yes then (p >>= λ w. truth_value m w) else Some (of_truth false)) >>= truth m)
      ≡ ((o >>= truth m) >>= λ yes. if yes then (p >>= truth m) else Some false)
  and_truth m None p = refl
  and_truth m (Some v) p = of_answer (truth m v)
    where
      of_answer :
          (o : Option Bool)
          → ((o >>= λ yes. if yes then (p >>= λ w. truth_value m w) else Some (of_truth false)) >>= truth m)
          ≡ (o >>= λ yes. if yes then (p >>= truth m) else Some false)
      of_answer None = refl
      of_answer (Some true) = operands_real.truth_of_unary u f code function stack is_code m (λ b. b) p ∙ bind_some (p >>= truth m)
      of_answer (Some false) = refl

  pub or_truth :
      (m : Memory) (o p : Option Value)
      → ((o >>= λ v. truth m v >>= λ yes. if yes then Some (of_truth true) else (p >>= λ w. truth_value m w)) >>= truth m)
      ≡ ((o >>= truth m) >>= λ yes. if yes then Some true else (p >>= truth m))
  or_truth m None p = refl
  or_truth m (Some v) p = of_answer (truth m v)
    where
      of_answer :
          (o : Option Bool)
          → ((o >>= λ said. if said then Some (of_truth true) else (p >>= λ w. truth_value m w)) >>= truth m)
          ≡ (o >>= λ said. if said then Some true else (p >>= truth m))
      of_answer None = refl
      of_answer (Some true) = refl
      of_answer (Some false) = operands_real.truth_of_unary u f code function stack is_code m (λ b. b) p ∙ bind_some (p >>= truth m)

  abbrev pub and_answer : (a b : CoreExprTree) → Locals → Memory → Option Bool
  and_answer a b l m = (value a l m >>= truth m) >>= λ said. if said then (value b l m >>= truth m) else Some false

  pub both_tests_correct : (a b : CoreExprTree) (c k : ExprCode) → Correct a c → Correct b k → Correct (core.logical_and a b) (of_both_tests c k)
  both_tests_correct a b c k h g =
      by_test_correct (core.logical_and a b) _ (both_size c k) _ refl (λ x y t at. both _ _ _ _ (h.sized.test _ _ t at) (g.sized.test x y t _))
      (λ d t at met unmet l e w r le agree has none next.
      h.test d t at (falls (at + c.test_size true false)) (settled unmet) l e w r le agree (has_left code at _ _ has)
      (λ n. none (and_truth w.memory (value a l w.memory) (value b l w.memory) ∙ none_bind _ _ n))
      (λ said after is kept.
      asked said d t at met unmet l e after w r le (value_real.agree_kept u f code function stack is_code t l e after le agree kept)
      (has_right code at (c.test_size true false) (c.test (falls (at + c.test_size true false)) (settled unmet) t at) _ (h.sized.test _ _ t at) has)
      (λ n. none (and_truth w.memory (value a l w.memory) (value b l w.memory) ∙ n))
      (and_is said l w.memory is) kept
      (λ x last i kl. next x last (and_truth w.memory (value a l w.memory) (value b l w.memory) ∙ i) kl)))
    where
      and_is : (said : Bool) (l : Locals) (m : Memory) → (value a l m >>= truth m) ≡ Some said → and_answer a b l m ≡ (if said then (value b l m >>= truth m) else Some false)
      and_is said l m is = ap (λ o. o >>= λ said. if said then (value b l m >>= truth m) else Some false) is

      asked :
          (said : Bool) (d t at : ℕ) (met unmet : Exit) (l : Locals) (e after : Environment) (w : World) (r : RootRun) → first_free ≤ t → Agrees l after
          → HasAt code (at + c.test_size true false) (k.test met unmet t (at + c.test_size true false))
          → (and_answer a b l w.memory ≡ None → r ≡ undefined)
          → and_answer a b l w.memory ≡ (if said then (value b l w.memory >>= truth w.memory) else Some false) → Kept t e after
          → ((x : Bool) (last : Environment) → and_answer a b l w.memory ≡ Some x → Kept t e last
          → Ends d (by_answer u f code function stack x met unmet) (at + both_size c k (is_fall met) (is_fall unmet)) l.first_block last w r)
          → Ends d (by_answer u f code function stack said (falls (at + c.test_size true false)) (settled unmet)) (at + c.test_size true false) l.first_block after w r
      asked true d t at met unmet l e after w r le agree has none is kept next =
          (from d (omega arith), from (d - 1) (omega arith))
        where
          from : (i : ℕ) → i ≤ d → Makes i (at + c.test_size true false) l.first_block after w r
          from i less =
              g.test i t (at + c.test_size true false) met unmet l after w r le agree has (λ n. none (is ∙ n))
              (λ x last h2 kept2.
              value_real.ends_moved u f code function stack is_code i (by_answer u f code function stack x met unmet) _ _ l.first_block last w r (omega arith)
              (ends_less i d (by_answer u f code function stack x met unmet) _ l.first_block last w r less
              (next x last (is ∙ h2) (kept_then t t e after last (omega arith) kept kept2))))
      asked false d t at met unmet l e after w r le agree has none is kept next =
          settled_ends d unmet _ l.first_block after w r (next false after is kept)

  abbrev pub or_answer : (a b : CoreExprTree) → Locals → Memory → Option Bool
  or_answer a b l m = (value a l m >>= truth m) >>= λ said. if said then Some true else (value b l m >>= truth m)

  pub either_test_correct : (a b : CoreExprTree) (c k : ExprCode) → Correct a c → Correct b k → Correct (core.logical_or a b) (of_either_test c k)
  either_test_correct a b c k h g =
      by_test_correct (core.logical_or a b) _ (either_size c k) _ refl (λ x y t at. both _ _ _ _ (h.sized.test _ _ t at) (g.sized.test x y t _))
      (λ d t at met unmet l e w r le agree has none next.
      h.test d t at (settled met) (falls (at + c.test_size false true)) l e w r le agree (has_left code at _ _ has)
      (λ n. none (or_truth w.memory (value a l w.memory) (value b l w.memory) ∙ none_bind _ _ n))
      (λ said after is kept.
      asked said d t at met unmet l e after w r le (value_real.agree_kept u f code function stack is_code t l e after le agree kept)
      (has_right code at (c.test_size false true) (c.test (settled met) (falls (at + c.test_size false true)) t at) _ (h.sized.test _ _ t at) has)
      (λ n. none (or_truth w.memory (value a l w.memory) (value b l w.memory) ∙ n))
      (or_is said l w.memory is) kept
      (λ x last i kl. next x last (or_truth w.memory (value a l w.memory) (value b l w.memory) ∙ i) kl)))
    where
      or_is : (said : Bool) (l : Locals) (m : Memory) → (value a l m >>= truth m) ≡ Some said → or_answer a b l m ≡ (if said then Some true else (value b l m >>= truth m))
      or_is said l m is = ap (λ o. o >>= λ said. if said then Some true else (value b l m >>= truth m)) is

      asked :
          (said : Bool) (d t at : ℕ) (met unmet : Exit) (l : Locals) (e after : Environment) (w : World) (r : RootRun) → first_free ≤ t → Agrees l after
          → HasAt code (at + c.test_size false true) (k.test met unmet t (at + c.test_size false true))
          → (or_answer a b l w.memory ≡ None → r ≡ undefined)
          → or_answer a b l w.memory ≡ (if said then Some true else (value b l w.memory >>= truth w.memory)) → Kept t e after
          → ((x : Bool) (last : Environment) → or_answer a b l w.memory ≡ Some x → Kept t e last
          → Ends d (by_answer u f code function stack x met unmet) (at + either_size c k (is_fall met) (is_fall unmet)) l.first_block last w r)
          → Ends d (by_answer u f code function stack said (settled met) (falls (at + c.test_size false true))) (at + c.test_size false true) l.first_block after w r
      asked false d t at met unmet l e after w r le agree has none is kept next =
          (from d (omega arith), from (d - 1) (omega arith))
        where
          from : (i : ℕ) → i ≤ d → Makes i (at + c.test_size false true) l.first_block after w r
          from i less =
              g.test i t (at + c.test_size false true) met unmet l after w r le agree has (λ n. none (is ∙ n))
              (λ x last h2 kept2.
              value_real.ends_moved u f code function stack is_code i (by_answer u f code function stack x met unmet) _ _ l.first_block last w r (omega arith)
              (ends_less i d (by_answer u f code function stack x met unmet) _ l.first_block last w r less
              (next x last (is ∙ h2) (kept_then t t e after last (omega arith) kept kept2))))
      asked true d t at met unmet l e after w r le agree has none is kept next =
          settled_ends d met _ l.first_block after w r (next true after is kept)

  -- where the first operand is known
  pub known_answer : {A : Type 0} (a : CoreExprTree) (l : Locals) (m : Memory) (b : Bool) (g : Bool → Option A) → (value a l m >>= truth m) ≡ Some b
      → (value a l m >>= λ v. truth m v >>= g) ≡ g b
  known_answer a l m b g is = sym (bind_bind (value a l m) (truth m) g) ∙ ap (λ o. o >>= g) is

  pub and_correct : (a b : CoreExprTree) (c k : ExprCode) → Correct a c → Correct b k → Correct (core.logical_and a b) (of_and c.known (gives_truth b) c k)
  and_correct a b c k h g = by_known c.known refl
    where
      by_known : (o : Option Bool) → c.known ≡ o → Correct (core.logical_and a b) (of_and o (gives_truth b) c k)
      by_known None is = both_tests_correct a b c k h g
      by_known (Some true) is =
          operands_real.same_value u f code function stack is_code (Unary unaries.Truth b) (core.logical_and a b) _
          (λ at l e m agree. known_answer a l m true _ (h.known true is at l e m agree)) (operands_real.truth_correct u f code function stack is_code b k g)
      by_known (Some false) is =
          value_real.operand_correct u f code function stack is_code (core.logical_and a b) (Constant 0) (λ at l e m agree. sym (known_answer a l m false _ (h.known false is at l e m agree)))

  pub or_correct : (a b : CoreExprTree) (c k : ExprCode) → Correct a c → Correct b k → Correct (core.logical_or a b) (of_or c.known (gives_truth b) c k)
  or_correct a b c k h g = by_known c.known refl
    where
      by_known : (o : Option Bool) → c.known ≡ o → Correct (core.logical_or a b) (of_or o (gives_truth b) c k)
      by_known None is = either_test_correct a b c k h g
      by_known (Some false) is =
          operands_real.same_value u f code function stack is_code (Unary unaries.Truth b) (core.logical_or a b) _
          (λ at l e m agree. known_answer a l m false _ (h.known false is at l e m agree)) (operands_real.truth_correct u f code function stack is_code b k g)
      by_known (Some true) is =
          value_real.operand_correct u f code function stack is_code (core.logical_or a b) (Constant 1) (λ at l e m agree. sym (known_answer a l m true _ (h.known true is at l e m agree)))

  -- one of two values
  pub choice_real :
      (q a b : CoreExprTree) (c k j : ExprCode) → Correct q c → Correct a k → Correct b j
      → Into (core.conditional q a b) (of_choice c k j)
  choice_real q a b c k j h g i d x t at l e w r le agree has none next =
      h.test d t at (falls (at + c.test_size true false)) (goes (at + c.test_size true false + k.size + 1)) l e w r le agree (has_left code at _ _ has)
      (λ no. none (law ∙ none_bind _ _ no))
      (λ said after is kept. chosen said after (law ∙ ap (λ o. o >>= λ said. if said then value a l w.memory else value b l w.memory) is) kept)
    where
      law : value (core.conditional q a b) l w.memory ≡ ((value q l w.memory >>= truth w.memory) >>= λ said. if said then value a l w.memory else value b l w.memory)
      law = sym (bind_bind (value q l w.memory) (truth w.memory) _)

      behind : HasAt code (at + c.test_size true false) (k.into x t (at + c.test_size true false) ++ jump (at + c.test_size true false + k.size + 1 + j.size) ∷ j.into x t (at + c.test_size true false + k.size + 1))
      behind = has_right code at (c.test_size true false) (c.test (falls (at + c.test_size true false)) (goes (at + c.test_size true false + k.size + 1)) t at) _ (h.sized.test _ _ t at) has

      second : HasAt code (at + c.test_size true false + k.size) (jump (at + c.test_size true false + k.size + 1 + j.size) ∷ j.into x t (at + c.test_size true false + k.size + 1))
      second = has_right code (at + c.test_size true false) k.size (k.into x t (at + c.test_size true false)) _ (g.sized.into x t _) behind

      ended : (y : ℕ) (v : Value) (later : Environment) → y ≤ d → value (core.conditional q a b) l w.memory ≡ Some v → KeptBut x t e later → later x ≡ Some v
          → Makes y (at + (c.test_size true false + k.size + 1 + j.size)) l.first_block later w r
      ended y v later less gives but holds = real_less u y d _ w stack r less (next v later gives but holds)

      first_value : (y : ℕ) (after : Environment) → y ≤ d → value (core.conditional q a b) l w.memory ≡ value a l w.memory → Kept t e after
          → Makes y (at + c.test_size true false) l.first_block after w r
      first_value y after less same kept =
          g.into y x t (at + c.test_size true false) l after w r le (value_real.agree_kept u f code function stack is_code t l e after le agree kept)
          (has_left code (at + c.test_size true false) (k.into x t (at + c.test_size true false)) _ behind)
          (λ no. none (same ∙ no))
          (λ v later is but holds.
          value_real.jump_real u f code function stack is_code y (at + c.test_size true false + k.size) (at + c.test_size true false + k.size + 1 + j.size) l.first_block later w r second.0
          (value_real.moved u f code function stack is_code (y - 1) (at + (c.test_size true false + k.size + 1 + j.size)) (at + c.test_size true false + k.size + 1 + j.size) l.first_block later w r (omega arith)
          (ended (y - 1) v later (omega (arith, less)) (same ∙ is) (kept_but x t e after later kept but) holds)))

      second_value : (y : ℕ) (after : Environment) → y ≤ d → value (core.conditional q a b) l w.memory ≡ value b l w.memory → Kept t e after
          → Makes y (at + c.test_size true false + k.size + 1) l.first_block after w r
      second_value y after less same kept =
          i.into y x t (at + c.test_size true false + k.size + 1) l after w r le (value_real.agree_kept u f code function stack is_code t l e after le agree kept) second.1
          (λ no. none (same ∙ no))
          (λ v later is but holds.
          value_real.moved u f code function stack is_code y (at + (c.test_size true false + k.size + 1 + j.size)) (at + c.test_size true false + k.size + 1 + j.size) l.first_block later w r (omega arith)
          (ended y v later less (same ∙ is) (kept_but x t e after later kept but) holds))

      chosen :
          (said : Bool) (after : Environment) → value (core.conditional q a b) l w.memory ≡ (if said then value a l w.memory else value b l w.memory) → Kept t e after
          → Ends d (by_answer u f code function stack said (falls (at + c.test_size true false)) (goes (at + c.test_size true false + k.size + 1))) (at + c.test_size true false) l.first_block after w r
      chosen true after same kept = (first_value d after (omega arith) same kept, first_value (d - 1) after (omega arith) same kept)
      chosen false after same kept = second_value (d - 1) after (omega arith) same kept

  pub conditional_correct :
      (q a b : CoreExprTree) (c k j : ExprCode) → Correct q c → Correct a k → Correct b j
      → Correct (core.conditional q a b) (of_conditional c.known c k j)
  conditional_correct q a b c k j h g i = by_known c.known refl
    where
      by_known : (o : Option Bool) → c.known ≡ o → Correct (core.conditional q a b) (of_conditional o c k j)
      by_known None is =
          value_real.by_value_correct u f code function stack is_code (core.conditional q a b) _ _ _ (choice_sized c k j h.sized g.sized i.sized).into (choice_real q a b c k j h g i)
      by_known (Some true) is =
          operands_real.same_value u f code function stack is_code a (core.conditional q a b) k (λ at l e m agree. known_answer q l m true _ (h.known true is at l e m agree)) g
      by_known (Some false) is =
          operands_real.same_value u f code function stack is_code b (core.conditional q a b) j (λ at l e m agree. known_answer q l m false _ (h.known false is at l e m agree)) i

  -- ---- expressions

  -- its variables and temporaries are there
  abbrev pub IsThere : CoreExprTree → Type 0
  IsThere (core.literal s n) = Unit {0}
  IsThere core.null_pointer = Unit {0}
  IsThere (core.variable s x) = x < length f.variables
  IsThere (core.temporary s k) = k < length f.temporaries
  IsThere (core.address_of b) = Unit {0}
  IsThere (core.load s a) = IsThere a
  IsThere (core.member offset a) = IsThere a
  IsThere (core.unary op a) = IsThere a
  IsThere (core.binary op a b) = IsThere a × IsThere b
  IsThere (core.conversion s a) = IsThere a
  IsThere (core.logical_and a b) = IsThere a × IsThere b
  IsThere (core.logical_or a b) = IsThere a × IsThere b
  IsThere (core.conditional c a b) = IsThere c × IsThere a × IsThere b

  pub block_right : (b : BlockId) (at : ℕ) (l : Locals) (e : Environment) → operand temporaries (block_operand b) (at_moment at l.first_block e) ≡ Some (address (block_pointer b l))
  block_right (ids.Local i) at l e = refl
  block_right (ids.Data i) at l e = refl

  abbrev pub code_for : CoreExprTree → ExprCode
  code_for s = lowered (length f.variables) s

  pub correct : (s : CoreExprTree) → IsThere s → Correct s (code_for s)
  correct (core.literal s n) h = value_real.operand_correct u f code function stack is_code (core.literal s n) (Constant n) (λ at l e m agree. refl)
  correct core.null_pointer h = value_real.operand_correct u f code function stack is_code core.null_pointer Null (λ at l e m agree. refl)
  correct (core.variable s x) h = value_real.operand_correct u f code function stack is_code (core.variable s x) (Temporary x) (λ at l e m agree. agree.variables x h)
  correct (core.temporary s k) h = value_real.operand_correct u f code function stack is_code (core.temporary s k) (Temporary (length f.variables + k)) (λ at l e m agree. agree.temporaries k h)
  correct (core.address_of b) h = value_real.operand_correct u f code function stack is_code (core.address_of b) (block_operand b) (λ at l e m agree. block_right b at l e)
  correct (core.load s a) h = value_real.load_correct u f code function stack is_code s a (code_for a) (correct a h)
  correct (core.member offset a) h =
      let c = correct a h in
      address_real.address_correct u f code function stack is_code (core.member offset a) (behind (code_for a) offset) refl (behind_sized (code_for a) offset c.sized)
      (address_real.behind_base u f code function stack is_code a (core.member offset a) offset (code_for a) (λ at l e m agree. member_same m offset (value a l m)) c (code_for a).index refl)
    where
      member_same :
          (m : Memory) (offset : ℕ) (o : Option Value)
          → ((o >>= λ v. as_pointer v >>= λ p. member_of m p offset >>= λ q. Some (address q)) >>= as_pointer) ≡ ((o >>= as_pointer) >>= λ q. member_of m q offset)
      member_same m offset None = refl
      member_same m offset (Some v) =
          bind_bind (as_pointer v) _ _
          ∙ bind_same (as_pointer v) _ _ (λ p. bind_bind (member_of m p offset) _ _ ∙ bind_some (member_of m p offset))
  correct (core.unary op a) h = operands_real.unary_correct u f code function stack is_code op a (code_for a) (correct a h)
  correct (core.binary op a b) h = operands_real.binary_correct u f code function stack is_code op a b (code_for a) (code_for b) (correct a h.0) (correct b h.1)
  correct (core.conversion s a) h = operands_real.conversion_correct u f code function stack is_code s a (code_for a) (correct a h)
  correct (core.logical_and a b) h = and_correct a b (code_for a) (code_for b) (correct a h.0) (correct b h.1)
  correct (core.logical_or a b) h = or_correct a b (code_for a) (code_for b) (correct a h.0) (correct b h.1)
  correct (core.conditional c a b) h =
      conditional_correct c a b (code_for c) (code_for a) (code_for b) (correct c h.0) (correct a h.1) (correct b h.2)
