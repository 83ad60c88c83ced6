-- The code of operations on one and on two operands.
use Rattle.std.proofs.Common.{◌≡◌, ℕ, ◌+◌, ◌*◌, ◌≤◌, Bool, true, false, not, if◌then◌else◌, List, Option, Some, None, refl, sym, ap, ◌∙◌, subst, arith}
use Rattle.qs_memory.specs.Partial.{◌>>=◌}
use Rattle.qs_memory.specs.Values.{Value, integer, address, as_pointer}
use Rattle.qs_memory.specs.Memory.{Memory}
use Rattle.std.specs.Prelude.{◌&&◌, ◌^◌, pos, ◌-ℤ◌, ◌*ℤ◌}
use Rattle.std.proofs.Math.IntN.{pos-*ℤ-pos}
use Rattle.std.specs.Cmp.{first_so}
use Rattle.std.proofs.lemmas.Option.{same_Some}
use Rattle.qs_memory.specs.declared.operation.Signedness.TheVariants.{Signed, Unsigned}
use Rattle.qs_memory.specs.Pointers as pointers
use Rattle.qs_memory.specs.Partial.{only_if}
use Rattle.qs_memory.specs.Pointers.{member_of, truth, compares_pointers}
use Rattle.qs_memory.specs.Integers.{reading, compares}
use Rattle.qs_memory.specs.declared.operation.Signedness.{Signedness}
use Rattle.qs_memory.specs.Operations.{apply_unary, apply_binary, of_truth, on_integers, on_pointers}
use Rattle.qs_memory.specs.declared.operation.Comparison.{Comparison}
use Rattle.qs_events.specs.Runs.{undefined}
use Rattle.qs_calls.specs.World.{World, RootRun, Environment}
use Rattle.qs_core.specs.Trees.{CoreExprTree, CoreFunctionTree}
use Rattle.qs_core.specs.Expressions.{Locals, value}
use Rattle.qs_memory.specs.declared.scalar.Scalar.{Scalar}
use Rattle.qs_core.specs.Trees as core
use Rattle.qs_memory.specs.declared.operation.Direction.TheVariants.{Up, Down}
use Rattle.qs_memory.specs.declared.operation.BinaryOperation.{BinaryOperation}
use Rattle.qs_memory.specs.declared.operation.BinaryOperation.TheVariants as binaries
use Rattle.qs_memory.specs.Values as values
use Rattle.qs_memory.specs.declared.operation.UnaryOperation.{UnaryOperation}
use Rattle.qs_memory.specs.declared.operation.UnaryOperation.TheVariants as unaries
use Rattle.qs_tac.specs.Trees.{InstructionTree, move, unary, binary}
use Rattle.qs_tac.specs.Holders.{temporaries}
use Rattle.qs_tac.specs.Values.{operand, holds}
use Rattle.qs_tac.specs.Steps.{gives, step}
use Rattle.qs_tac.specs.Fits.{is_word}
use Rattle.qs_tac.specs.declared.operands.Operand.{Operand}
use Rattle.qs_tac.specs.declared.operands.Operand.TheVariants.{Temporary, Integer, Byte, Constant, Null, Local, Data}
use Rattle.qs_tac.specs.declared.operands.Condition.{Condition}
use Rattle.qs_tac.specs.declared.operands.Condition.TheVariants.{Compare, ComparePointers}
use Rattle.qs_lower_expressions.specs.Exits.{Exit}
use Rattle.qs_lower_expressions.specs.Operands.{converted, unary_of, gives_integer, gives_truth, is_idle, is_upward, constant_step, folded, swaps}
use Rattle.qs_lower_expressions.specs.Expressions.{converting, converting_instruction, IndexCode, ExprCode, size_of, code_of, operand_of, own, based, behind, indexed_by, by_address, used_by, of_unary_value, with_test, of_plus, of_compound, simple_or, of_unary, of_conversion, unindexed, pair_size, pair_code, pair_used, binary_instruction, of_binary_value, with_condition, of_element, of_operation, stepped_or, of_binary}
use Rattle.qs_lower_expressions.specs.Expressions as lower
use Rattle.qs_lower_expressions.proofs.SizeLaws.{behind_sized, both, one_more, branch_length, pair_length, based_sized, unindexed_sized, indexed_sized, code_length, TestSized, with_test_sized}
use Rattle.qs_lower_expressions.proofs.OperandLaws.{folded_right, swapped, converted_right, unary_right, gives_truth_is, truth_again, idle_stays, plus_stays}
use Rattle.qs_lower_expressions.proofs.AddressLaws.{bind_some, bind_bind}
use Rattle.qs_lower_expressions.proofs.RealisationLaws.{Model, Act, Stack, HasAt, has_left, has_right, Kept, kept_all, kept_then, Real, moment, IsCode, Agree, free, SimpleReal, BaseReal, Goes, by_answer, TestReal}
use Rattle.qs_lower_expressions.proofs.ValueReal.{none_bind, negated}
use Rattle.qs_lower_expressions.proofs.ValueReal as value_real
use Rattle.qs_lower_expressions.proofs.AddressReal as address_real

module _ (u : Model) (f : CoreFunctionTree) (code : List InstructionTree) (function : ℕ) (stack : Stack) (is_code : IsCode u f code function stack) where
  abbrev pub at_moment : (at first : ℕ) → Environment → Act
  at_moment at first e = moment u f code function stack at first e

  abbrev pub Makes : (d at first : ℕ) → Environment → World → RootRun → Type 0
  Makes d at first e w r = Real u d (at_moment at first e) w stack r

  abbrev pub Agrees : Locals → Environment → Type 0
  Agrees l e = Agree u f code function stack l e

  abbrev pub first_free : ℕ
  first_free = free u f code function stack

  abbrev pub Gives : (i : InstructionTree) → (x : ℕ) → (at first : ℕ) → Environment → World → Option Value → Type 0
  Gives i x at first e w o = value_real.Gives u f code function stack is_code i x at first e w o

  abbrev pub Ends : (d : ℕ) → Exit → (end first : ℕ) → Environment → World → RootRun → Type 0
  Ends d x end first e w r = Goes u f code function stack (λ c p. Makes c p first e w r) d x end

  abbrev pub Simple : CoreExprTree → ExprCode → Type 0
  Simple s c = SimpleReal u f code function stack s c

  abbrev pub AsBase : CoreExprTree → ExprCode → Type 0
  AsBase s c = BaseReal u f code function stack s c

  abbrev pub AsTest : CoreExprTree → ExprCode → Type 0
  AsTest s c = TestReal u f code function stack s c

  abbrev pub Correct : CoreExprTree → ExprCode → Type 0
  Correct s c = value_real.Correct u f code function stack is_code s c

  -- ---- expressions of the same value

  pub same_value :
      (s s2 : CoreExprTree) (c : ExprCode)
      → ((at : ℕ) (l : Locals) (e : Environment) (m : Memory) → Agrees l e → value s2 l m ≡ value s l m) → Correct s c → Correct s2 c
  same_value s s2 c same h = record {
    sized = h.sized;
    into = λ d x t at l e w r le agree has none next.
        h.into d x t at l e w r le agree has (λ k. none (same at l e w.memory agree ∙ k))
        (λ v after is but holds. next v after (same at l e w.memory agree ∙ is) but holds);
    simple = λ o is at l e m agree. h.simple o is at l e m agree ∙ sym (same at l e m agree);
    base = λ d t at l e w r le agree has none next.
        let here = ap (λ o. o >>= as_pointer) (same at l e w.memory agree) in
        h.base d t at l e w r le agree has (λ k. none (here ∙ k)) (λ after kept eq. next after kept (λ i later k. eq i later k ∙ sym here));
    test = λ d t at met unmet l e w r le agree has none next.
        let here = ap (λ o. o >>= truth w.memory) (same at l e w.memory agree) in
        h.test d t at met unmet l e w r le agree has (λ k. none (here ∙ k)) (λ b after is kept. next b after (here ∙ is) kept);
    known = λ b is at l e m agree. ap (λ o. o >>= truth m) (same at l e m agree) ∙ h.known b is at l e m agree;
  }

  pub simple_or_correct :
      (s : CoreExprTree) (o : Option Operand) (c : ExprCode)
      → ((p : Operand) → o ≡ Some p → (at : ℕ) (l : Locals) (e : Environment) (m : Memory) → Agrees l e
      → operand temporaries p (at_moment at l.first_block e) ≡ value s l m)
      → Correct s c → Correct s (simple_or o c)
  simple_or_correct s None c law h = h
  simple_or_correct s (Some p) c law h = value_real.operand_correct u f code function stack is_code s p (law p refl)

  pub if_correct : (s : CoreExprTree) (b : Bool) (c k : ExprCode) → (b ≡ true → Correct s c) → Correct s k → Correct s (if b then c else k)
  if_correct s true c k h g = h refl
  if_correct s false c k h g = g

  -- ---- one operand

  abbrev pub Unary : UnaryOperation → CoreExprTree → CoreExprTree
  Unary op a = core.unary op a

  pub unary_value_correct : (op : UnaryOperation) (a : CoreExprTree) (c : ExprCode) → Correct a c → Correct (Unary op a) (of_unary_value op c)
  unary_value_correct op a c h =
      value_real.by_value_correct u f code function stack is_code (Unary op a) (size_of c + 1) (used_by c) _ (λ x t at. one_more _ _ _ (code_length c h.sized.into t at))
      (λ d x t at l e w r le agree has none next.
      value_real.as_operand u f code function stack is_code a c h d t at l e w r le agree (has_left code at (code_of c t at) _ has) (λ k. none (none_bind (value a l w.memory) _ k))
      (λ after kept same.
      value_real.finish u f code function stack is_code (unary op x (operand_of c t)) d x t (size_of c) at l e after w r _ (value (Unary op a) l w.memory)
      (ap (λ o. o >>= λ v. apply_unary op w.memory v) (same (at + size_of c) after (kept_all (t + own c) after)))
      (value_real.last_at u f code function stack is_code at (size_of c) (code_of c t at) _ (code_length c h.sized.into t at) has)
      ((refl, λ g. refl), λ next. refl) kept none next))

  pub truth_of_truth : (m : Memory) (b : Bool) → truth m (of_truth b) ≡ Some b
  truth_of_truth m true = refl
  truth_of_truth m false = refl

  pub truth_of_unary : (m : Memory) (g : Bool → Bool) (o : Option Value) → ((o >>= λ v. truth m v >>= λ b. Some (of_truth (g b))) >>= truth m) ≡ ((o >>= truth m) >>= λ b. Some (g b))
  truth_of_unary m g None = refl
  truth_of_unary m g (Some v) = of_answer (truth m v)
    where
      of_answer : (o : Option Bool) → ((o >>= λ b. Some (of_truth (g b))) >>= truth m) ≡ (o >>= λ b. Some (g b))
      of_answer None = refl
      of_answer (Some b) = truth_of_truth m (g b)

  pub with_test_correct :
      (s : CoreExprTree) (c : ExprCode) (n : (met unmet : Bool) → ℕ) (test : (met unmet : Exit) → (t at : ℕ) → List InstructionTree) (used : ℕ)
      → Correct s c → TestSized n test → AsTest s (with_test c n test used) → Correct s (with_test c n test used)
  with_test_correct s c n test used h size real =
      record { sized = with_test_sized c n test used h.sized size; into = h.into; simple = h.simple; base = h.base; test = real; known = h.known }

  pub not_correct : (a : CoreExprTree) (i j : Bool) (c : ExprCode) → Correct a c → Correct (Unary unaries.Not a) (of_compound unaries.Not i j c)
  not_correct a i j c h =
      with_test_correct (Unary unaries.Not a) (of_unary_value unaries.Not c) _ _ c.test_used (unary_value_correct unaries.Not a c h)
      (λ x y t at. h.sized.test y x t at)
      (λ d t at met unmet l e w r le agree has none next.
      h.test d t at unmet met l e w r le agree has (λ k. none (truth_of_unary w.memory not (value a l w.memory) ∙ none_bind _ _ k))
      (λ b after is kept.
      turned b d met unmet _ l.first_block after w r
      (next (not b) after (truth_of_unary w.memory not (value a l w.memory) ∙ ap negated is) kept)))
    where
      turned :
          (b : Bool) (d : ℕ) (met unmet : Exit) (end first : ℕ) (e : Environment) (w : World) (r : RootRun)
          → Ends d (by_answer u f code function stack (not b) met unmet) end first e w r
          → Ends d (by_answer u f code function stack b unmet met) end first e w r
      turned true d met unmet end first e w r h = h
      turned false d met unmet end first e w r h = h

  pub truth_correct : (a : CoreExprTree) (c : ExprCode) → Correct a c → Correct (Unary unaries.Truth a) (lower.of_truth (gives_truth a) c)
  truth_correct a c h = by_form (gives_truth a) refl
    where
      by_form : (j : Bool) → gives_truth a ≡ j → Correct (Unary unaries.Truth a) (lower.of_truth j c)
      by_form true is = same_value a (Unary unaries.Truth a) c (λ at l e m agree. truth_again m (value a l m) (gives_truth_is a is l m)) h
      by_form false is =
          with_test_correct (Unary unaries.Truth a) (of_unary_value unaries.Truth c) c.test_size c.test c.test_used (unary_value_correct unaries.Truth a c h)
          h.sized.test
          (λ d t at met unmet l e w r le agree has none next.
          h.test d t at met unmet l e w r le agree has (λ k. none (truth_of_unary w.memory (λ b. b) (value a l w.memory) ∙ none_bind _ _ k))
          (λ b after is kept. next b after (truth_of_unary w.memory (λ b. b) (value a l w.memory) ∙ ap (λ o. o >>= λ b. Some b) is) kept))

  pub plus_correct : (s : Signedness) (a : CoreExprTree) (c : ExprCode) → Correct a c → Correct (Unary (unaries.Plus s) a) (of_plus (gives_integer a) s c)
  plus_correct s a c h = by_form (gives_integer a) refl
    where
      by_form : (i : Bool) → gives_integer a ≡ i → Correct (Unary (unaries.Plus s) a) (of_plus i s c)
      by_form true is = same_value a (Unary (unaries.Plus s) a) c (λ at l e m agree. plus_stays a is l m s) h
      by_form false is = unary_value_correct (unaries.Plus s) a c h

  pub compound_correct : (op : UnaryOperation) (a : CoreExprTree) (c : ExprCode) → Correct a c → Correct (Unary op a) (of_compound op (gives_integer a) (gives_truth a) c)
  compound_correct (unaries.Plus s) a c h = plus_correct s a c h
  compound_correct (unaries.Minus s) a c h = unary_value_correct (unaries.Minus s) a c h
  compound_correct (unaries.Complement s) a c h = unary_value_correct (unaries.Complement s) a c h
  compound_correct unaries.Not a c h = not_correct a (gives_integer a) (gives_truth a) c h
  compound_correct unaries.Truth a c h = truth_correct a c h

  -- an operand that is made of another
  pub made_from :
      (a s : CoreExprTree) (c : ExprCode) (g : Operand → Option Operand) (law : Memory → Value → Option Value) → Simple a c
      → ((l : Locals) (m : Memory) → value s l m ≡ (value a l m >>= law m))
      → ((at first : ℕ) (e : Environment) (m : Memory) (o p : Operand) → g o ≡ Some p
      → operand temporaries p (at_moment at first e) ≡ (operand temporaries o (at_moment at first e) >>= law m))
      → (o : Option Operand) → c.simple ≡ o → (p : Operand) → (o >>= g) ≡ Some p → (at : ℕ) (l : Locals) (e : Environment) (m : Memory) → Agrees l e
      → operand temporaries p (at_moment at l.first_block e) ≡ value s l m
  made_from a s c g law simple value_is right None is p h at l e m agree = absurd (cc)
  made_from a s c g law simple value_is right (Some o) is p h at l e m agree =
      right at l.first_block e m o p h ∙ ap (λ v. v >>= law m) (simple o is at l e m agree) ∙ sym (value_is l m)

  pub unary_correct : (op : UnaryOperation) (a : CoreExprTree) (c : ExprCode) → Correct a c → Correct (Unary op a) (of_unary op (gives_integer a) (gives_truth a) c)
  unary_correct op a c h =
      simple_or_correct (Unary op a) (c.simple >>= unary_of op) _
      (made_from a (Unary op a) c (unary_of op) (apply_unary op) h.simple (λ l m. refl)
      (λ at first e m o p is. unary_right temporaries (at_moment at first e) op m o p is) c.simple refl)
      (compound_correct op a c h)

  -- a value that is converted on its way, by how it is read or by an instruction
  converting_gives :
      (read : Option Operand) (s : Scalar) (x : ℕ) (o : Operand) (at first : ℕ) (after : Environment) (w : World) → converted s o ≡ read
      → Gives (converting read s x o) x at first after w (operand temporaries o (at_moment at first after) >>= λ v. values.convert s v)
  converting_gives None s x o at first after w is = ((refl, λ g. refl), λ next. refl)
  converting_gives (Some p) s x o at first after w is =
      subst (λ (v : Option Value). Gives (move x p) x at first after w v) (converted_right temporaries (at_moment at first after) s o p is) ((refl, λ g. refl), λ next. refl)

  pub conversion_correct : (s : Scalar) (a : CoreExprTree) (c : ExprCode) → Correct a c → Correct (core.conversion s a) (of_conversion s (is_idle s a) c)
  conversion_correct s a c h =
      simple_or_correct (core.conversion s a) (c.simple >>= converted s) _
      (made_from a (core.conversion s a) c (converted s) (λ m. values.convert s) h.simple (λ l m. refl)
      (λ at first e m o p is. converted_right temporaries (at_moment at first e) s o p is) c.simple refl)
      (if_correct (core.conversion s a) (is_idle s a) c _
      (λ idle. same_value a (core.conversion s a) c (λ at l e m agree. idle_stays s a idle l m) h)
      (value_real.by_value_correct u f code function stack is_code (core.conversion s a) (size_of c + 1) (used_by c) _ (λ x t at. one_more _ _ _ (code_length c h.sized.into t at))
      (λ d x t at l e w r le agree has none next.
      value_real.as_operand u f code function stack is_code a c h d t at l e w r le agree (has_left code at (code_of c t at) _ has) (λ k. none (none_bind (value a l w.memory) _ k))
      (λ after kept same.
      value_real.finish u f code function stack is_code (converting_instruction s x (operand_of c t)) d x t (size_of c) at l e after w r _ (value (core.conversion s a) l w.memory)
      (ap (λ o. o >>= λ v. values.convert s v) (same (at + size_of c) after (kept_all (t + own c) after)))
      (value_real.last_at u f code function stack is_code at (size_of c) (code_of c t at) _ (code_length c h.sized.into t at) has)
      (converting_gives (converted s (operand_of c t)) s x (operand_of c t) (at + size_of c) l.first_block after w refl) kept none next))))

  -- ---- two operands

  pub pair_real :
      (s s2 : CoreExprTree) (a b : ExprCode) → Correct s a → Correct s2 b
      → (d t at : ℕ) (l : Locals) (e : Environment) (w : World) (r : RootRun) → first_free ≤ t → Agrees l e
      → HasAt code at (pair_code a b t at) → (value s l w.memory ≡ None → r ≡ undefined) → (value s2 l w.memory ≡ None → r ≡ undefined)
      → ((after : Environment) → Kept t e after
      → ((i : ℕ) → operand temporaries (operand_of a t) (at_moment i l.first_block after) ≡ value s l w.memory)
      → ((i : ℕ) → operand temporaries (operand_of b (t + own a)) (at_moment i l.first_block after) ≡ value s2 l w.memory)
      → Makes d (at + pair_size a b) l.first_block after w r)
      → Makes d at l.first_block e w r
  pair_real s s2 a b h k d t at l e w r le agree has none none2 next =
      value_real.as_operand u f code function stack is_code s a h d t at l e w r le agree (has_left code at (code_of a t at) _ has) none
      (λ after kept same.
      value_real.as_operand u f code function stack is_code s2 b k d (t + own a) (at + size_of a) l after w r (omega (arith, le)) (value_real.agree_kept u f code function stack is_code t l e after le agree kept)
      (has_right code at (size_of a) (code_of a t at) _ (code_length a h.sized.into t at) has) none2
      (λ last kept_last second.
      value_real.moved u f code function stack is_code d (at + (size_of a + size_of b)) (at + size_of a + size_of b) l.first_block last w r (omega arith)
      (next last (kept_then t (t + own a) e after last (omega arith) kept kept_last)
      (λ i. same i last kept_last)
      (λ i. second i last (kept_all (t + own a + own b) last)))))

  pub none_first : {A : Type 0} (o p : Option Value) (g : Value → Value → Option A) → o ≡ None → (o >>= λ v. p >>= λ y. g v y) ≡ None
  none_first o p g h = none_bind o _ h

  pub none_second : {A : Type 0} (o p : Option Value) (g : Value → Value → Option A) → p ≡ None → (o >>= λ v. p >>= λ y. g v y) ≡ None
  none_second None p g h = refl
  none_second (Some v) p g h = none_bind p _ h

  pub both_same :
      {A : Type 0} (o o2 p p2 : Option Value) (g : Value → Value → Option A) → o ≡ o2 → p ≡ p2
      → (o >>= λ v. p >>= λ y. g v y) ≡ (o2 >>= λ v. p2 >>= λ y. g v y)
  both_same o o2 p p2 g h k = ap (λ q. q >>= λ v. p >>= λ y. g v y) h ∙ ap (λ q. o2 >>= λ v. q >>= λ y. g v y) k

  pub binary_law :
      (op : BinaryOperation) (x at first : ℕ) (left right : Operand) (e : Environment) (w : World)
      → Gives (binary_instruction op x left right) x at first e w
      (operand temporaries left (at_moment at first e) >>= λ v. operand temporaries right (at_moment at first e) >>= λ y. apply_binary op w.memory v y)
  binary_law op x at first left right e w = by_order (swaps op left) refl
    where
      by_order :
          (b : Bool) → swaps op left ≡ b
          → Gives (if b then binary op x right left else binary op x left right) x at first e w
          (operand temporaries left (at_moment at first e) >>= λ v. operand temporaries right (at_moment at first e) >>= λ y. apply_binary op w.memory v y)
      by_order false is = ((refl, λ g. refl), λ next. refl)
      by_order true is = (
        (refl, λ g. refl),
        λ next. ap (λ o. gives temporaries next x o (at_moment at first e) w stack)
            (swapped op (first_so _ _ is) w.memory (operand temporaries left (at_moment at first e)) (operand temporaries right (at_moment at first e))),
      )

  pub binary_value_correct :
      (op : BinaryOperation) (a b : CoreExprTree) (c k : ExprCode) → Correct a c → Correct b k → Correct (core.binary op a b) (of_binary_value op c k)
  binary_value_correct op a b c k h g =
      value_real.by_value_correct u f code function stack is_code (core.binary op a b) (pair_size c k + 1) (pair_used c k) _ (λ x t at. one_more _ _ _ (pair_length c k h.sized g.sized t at))
      (λ d x t at l e w r le agree has none next.
      pair_real a b c k h g d t at l e w r le agree (has_left code at (pair_code c k t at) _ has)
      (λ n. none (none_first (value a l w.memory) (value b l w.memory) _ n))
      (λ n. none (none_second (value a l w.memory) (value b l w.memory) _ n))
      (λ after kept left right.
      value_real.finish u f code function stack is_code (binary_instruction op x (operand_of c t) (operand_of k (t + own c))) d x t (pair_size c k) at l e after w r _
      (value (core.binary op a b) l w.memory)
      (both_same _ _ _ _ (apply_binary op w.memory) (left (at + pair_size c k)) (right (at + pair_size c k)))
      (value_real.last_at u f code function stack is_code at (pair_size c k) (pair_code c k t at) _ (pair_length c k h.sized g.sized t at) has)
      (binary_law op x (at + pair_size c k) l.first_block (operand_of c t) (operand_of k (t + own c)) after w) kept none next))

  pub condition_correct :
      (s a b : CoreExprTree) (c : ExprCode) (p q : ExprCode) (condition : Operand → Operand → Condition) (g : Memory → Value → Value → Option Bool)
      → Correct s c → Correct a p → Correct b q
      → ((o i : Operand) (at first : ℕ) (e : Environment) (m : Memory)
      → holds temporaries (condition o i) (at_moment at first e) m
      ≡ (operand temporaries o (at_moment at first e) >>= λ v. operand temporaries i (at_moment at first e) >>= λ y. g m v y))
      → ((l : Locals) (m : Memory) → (value s l m >>= truth m) ≡ (value a l m >>= λ v. value b l m >>= λ y. g m v y))
      → Correct s (with_condition c condition p q)
  condition_correct s a b c p q condition g h hp hq law truth_is =
      with_test_correct s c _ _ (pair_used p q) h (λ x y t at. both _ _ _ _ (pair_length p q hp.sized hq.sized t at) (branch_length _ x y))
      (λ d t at met unmet l e w r le agree has none next.
      pair_real a b p q hp hq d t at l e w r le agree (has_left code at (pair_code p q t at) _ has)
      (λ n. none (truth_is l w.memory ∙ none_first (value a l w.memory) (value b l w.memory) _ n))
      (λ n. none (truth_is l w.memory ∙ none_second (value a l w.memory) (value b l w.memory) _ n))
      (λ after kept left right.
      value_real.branches_real u f code function stack is_code d (at + pair_size p q) l.first_block (condition (operand_of p t) (operand_of q (t + own p))) met unmet after w r (value s l w.memory >>= truth w.memory)
      (has_right code at (pair_size p q) (pair_code p q t at) _ (pair_length p q hp.sized hq.sized t at) has)
      (law _ _ (at + pair_size p q) l.first_block after w.memory
      ∙ both_same _ _ _ _ (g w.memory) (left (at + pair_size p q)) (right (at + pair_size p q)) ∙ sym (truth_is l w.memory))
      none
      (λ b h. value_real.ends_moved u f code function stack is_code d (by_answer u f code function stack b met unmet) _ _ l.first_block after w r (omega arith) (next b after h kept))))

  pub compare_truth :
      (m : Memory) (op : Comparison) (s : Signedness) (o p : Option Value)
      → ((o >>= λ v. p >>= λ y. apply_binary (binaries.Compare op s) m v y) >>= truth m)
      ≡ (o >>= λ v. p >>= λ y. on_integers (λ i j. Some (compares op s i j)) v y)
  compare_truth m op s None p = refl
  compare_truth m op s (Some v) None = refl
  compare_truth m op s (Some (integer i)) (Some (integer j)) = truth_of_truth m (compares op s i j)
  compare_truth m op s (Some (integer i)) (Some (address q)) = refl
  compare_truth m op s (Some (address q)) (Some y) = refl

  pub pointers_truth :
      (m : Memory) (op : Comparison) (o p : Option Value)
      → ((o >>= λ v. p >>= λ y. apply_binary (binaries.ComparePointers op) m v y) >>= truth m)
      ≡ (o >>= λ v. p >>= λ y. on_pointers (compares_pointers op m) v y)
  pointers_truth m op None p = refl
  pointers_truth m op (Some v) None = refl
  pointers_truth m op (Some (address q)) (Some (address x)) = of_answer (compares_pointers op m q x)
    where
      of_answer : (o : Option Bool) → ((o >>= λ b. Some (of_truth b)) >>= truth m) ≡ o
      of_answer None = refl
      of_answer (Some b) = truth_of_truth m b
  pointers_truth m op (Some (address q)) (Some (integer i)) = refl
  pointers_truth m op (Some (integer i)) (Some y) = refl

  pub element_correct :
      (s : Signedness) (element : ℕ) (a b : CoreExprTree) (c k : ExprCode) → Correct a c → Correct b k
      → Correct (core.binary (binaries.Move Up s element) a b) (of_element s element c k)
  element_correct s element a b c k h g =
      address_real.address_correct u f code function stack is_code (core.binary (binaries.Move Up s element) a b) (indexed_by s element (unindexed c.index c) k) refl
      (indexed_sized s element (unindexed c.index c) k (unindexed_sized c.index c h.sized) g.sized)
      (by_index c.index refl)
    where
      by_index : (o : Option IndexCode) → c.index ≡ o → AsBase (core.binary (binaries.Move Up s element) a b) (indexed_by s element (unindexed o c) k)
      by_index None is = address_real.index_base u f code function stack is_code a b s element c k is h.sized h.base g
      by_index (Some i) is = address_real.index_base u f code function stack is_code a b s element (based c) k refl (based_sized c h.sized) (value_real.base_from u f code function stack is_code a c (value_real.as_operand u f code function stack is_code a c h)) g

  pub operation_correct :
      (op : BinaryOperation) (a b : CoreExprTree) (c k : ExprCode) → Correct a c → Correct b k → Correct (core.binary op a b) (of_operation op c k)
  operation_correct (binaries.Arithmetic op s) a b c k h g = binary_value_correct (binaries.Arithmetic op s) a b c k h g
  operation_correct (binaries.Compare op s) a b c k h g =
      condition_correct (core.binary (binaries.Compare op s) a b) a b _ c k (Compare op s) (λ m. on_integers (λ i j. Some (compares op s i j)))
      (binary_value_correct (binaries.Compare op s) a b c k h g) h g (λ o i at first e m. refl)
      (λ l m. compare_truth m op s (value a l m) (value b l m))
  operation_correct (binaries.Move Up s element) a b c k h g = element_correct s element a b c k h g
  operation_correct (binaries.Move Down s element) a b c k h g = binary_value_correct (binaries.Move Down s element) a b c k h g
  operation_correct (binaries.Difference element) a b c k h g = binary_value_correct (binaries.Difference element) a b c k h g
  operation_correct (binaries.ComparePointers op) a b c k h g =
      condition_correct (core.binary (binaries.ComparePointers op) a b) a b _ c k (ComparePointers op) (λ m. on_pointers (compares_pointers op m))
      (binary_value_correct (binaries.ComparePointers op) a b c k h g) h g (λ o i at first e m. refl)
      (λ l m. pointers_truth m op (value a l m) (value b l m))

  -- ---- constant steps

  pub upward : (s : Signedness) (n : ℕ) → is_upward s n ≡ true → reading s n ≡ pos n
  upward Signed n h = ap (λ b. if b then pos n else pos n -ℤ pos (2 ^ 32)) h
  upward Unsigned n h = refl

  pub up_by_constant :
      (s : Signedness) (element n : ℕ) (m : Memory) (v : Option Value) → is_upward s n ≡ true
      → ((v >>= λ x. Some (integer n) >>= λ y. apply_binary (binaries.Move Up s element) m x y) >>= as_pointer)
      ≡ ((v >>= as_pointer) >>= λ q. member_of m q (n * element))
  up_by_constant s element n m None h = refl
  up_by_constant s element n m (Some (integer i)) h = refl
  up_by_constant s element n m (Some (address p)) h =
      ap (λ i. (pointers.moved m p (i *ℤ pos element) >>= λ q. Some (address q)) >>= as_pointer) (upward s n h)
      ∙ ap (λ i. (pointers.moved m p i >>= λ q. Some (address q)) >>= as_pointer) (pos-*ℤ-pos n element)
      ∙ bind_bind (pointers.moved m p (pos (n * element))) _ _
      ∙ bind_some (pointers.moved m p (pos (n * element)))

  pub only_if_same : (b : Bool) (x y : ℕ) → only_if b (Some x) ≡ Some y → (b ≡ true) × (x ≡ y)
  only_if_same true x y h = (refl, same_Some x y h)
  only_if_same false x y h = absurd (cc)

  pub step_constant :
      (s : Signedness) (element : ℕ) (o : Operand) (bytes : ℕ) → constant_step (binaries.Move Up s element) (Some o) ≡ Some bytes
      → (n : ℕ) × (o ≡ Constant n) × (is_upward s n ≡ true) × (n * element ≡ bytes)
  step_constant s element (Constant n) bytes h =
      let parts = only_if_same (is_upward s n && is_word (n * element)) (n * element) bytes h in
      (n, refl, first_so _ _ parts.0, parts.1)
  step_constant s element (Temporary t) bytes h = absurd (cc)
  step_constant s element (Integer t) bytes h = absurd (cc)
  step_constant s element (Byte t) bytes h = absurd (cc)
  step_constant s element Null bytes h = absurd (cc)
  step_constant s element (Local i) bytes h = absurd (cc)
  step_constant s element (Data i) bytes h = absurd (cc)

  pub step_correct :
      (s : Signedness) (element : ℕ) (a b : CoreExprTree) (c k : ExprCode) → Correct a c → Correct b k → (o : Operand) → k.simple ≡ Some o
      → (bytes : ℕ) → constant_step (binaries.Move Up s element) (Some o) ≡ Some bytes
      → Correct (core.binary (binaries.Move Up s element) a b) (by_address (behind c bytes))
  step_correct s element a b c k h g o is bytes step =
      let n = step_constant s element o bytes step in
      address_real.address_correct u f code function stack is_code (core.binary (binaries.Move Up s element) a b) (behind c bytes) refl (behind_sized c bytes h.sized)
      (address_real.behind_base u f code function stack is_code a (core.binary (binaries.Move Up s element) a b) bytes c
      (λ at l e m agree.
      ap (λ y. (value a l m >>= λ x. y >>= λ z. apply_binary (binaries.Move Up s element) m x z) >>= as_pointer)
      (sym (g.simple o is at l e m agree) ∙ ap (λ (p : Operand). operand temporaries p (at_moment at l.first_block e)) n.1)
      ∙ up_by_constant s element n.0 m (value a l m) n.2
      ∙ ap (λ i. (value a l m >>= as_pointer) >>= λ q. member_of m q i) n.3)
      h c.index refl)

  pub stepped_correct :
      (op : BinaryOperation) (a b : CoreExprTree) (c k : ExprCode) → Correct a c → Correct b k → (o : Option ℕ)
      → constant_step op k.simple ≡ o → Correct (core.binary op a b) (stepped_or o c (of_operation op c k))
  stepped_correct op a b c k h g None is = operation_correct op a b c k h g
  stepped_correct (binaries.Move Up s element) a b c k h g (Some bytes) is = by_operand_of k.simple refl is
    where
      by_operand_of :
          (o : Option Operand) → k.simple ≡ o → constant_step (binaries.Move Up s element) o ≡ Some bytes
          → Correct (core.binary (binaries.Move Up s element) a b) (by_address (behind c bytes))
      by_operand_of None simple step = absurd (cc)
      by_operand_of (Some o) simple step = step_correct s element a b c k h g o simple bytes step
  stepped_correct (binaries.Move Down s element) a b c k h g (Some bytes) is = absurd (cc)
  stepped_correct (binaries.Arithmetic op s) a b c k h g (Some bytes) is = absurd (cc)
  stepped_correct (binaries.Compare op s) a b c k h g (Some bytes) is = absurd (cc)
  stepped_correct (binaries.Difference element) a b c k h g (Some bytes) is = absurd (cc)
  stepped_correct (binaries.ComparePointers op) a b c k h g (Some bytes) is = absurd (cc)

  pub folded_from :
      (op : BinaryOperation) (a b : CoreExprTree) (c k : ExprCode) → Correct a c → Correct b k → (o p : Option Operand) → c.simple ≡ o → k.simple ≡ p
      → (q : Operand) → folded op o p ≡ Some q → (at : ℕ) (l : Locals) (e : Environment) (m : Memory) → Agrees l e
      → operand temporaries q (at_moment at l.first_block e) ≡ value (core.binary op a b) l m
  folded_from op a b c k h g None p hs gs q is at l e m agree = absurd (cc)
  folded_from op a b c k h g (Some o) None hs gs q is at l e m agree = absurd (cc)
  folded_from op a b c k h g (Some o) (Some p) hs gs q is at l e m agree =
      folded_right temporaries (at_moment at l.first_block e) op m o p q is
      ∙ both_same _ _ _ _ (apply_binary op m) (h.simple o hs at l e m agree) (g.simple p gs at l e m agree)

  pub binary_correct : (op : BinaryOperation) (a b : CoreExprTree) (c k : ExprCode) → Correct a c → Correct b k → Correct (core.binary op a b) (of_binary op c k)
  binary_correct op a b c k h g =
      simple_or_correct (core.binary op a b) (folded op c.simple k.simple) _ (folded_from op a b c k h g c.simple k.simple refl refl)
      (stepped_correct op a b c k h g (constant_step op k.simple) refl)
