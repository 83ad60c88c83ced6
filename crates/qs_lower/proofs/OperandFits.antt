-- The operands and constants that expressions become fit, and so does the code of every expression.
use Rattle.std.proofs.Common.{◌≡◌, ℕ, ◌+◌, ◌*◌, ◌<◌, ◌≤◌, ◌%◌, ◌^◌, Bool, true, false, List, [], ◌∷◌, length, map, Option, Some, None, refl, sym, ap, subst, arith, lt-ltb}
use Rattle.std.specs.Prelude.{◌&&◌, nat_le, nat_lt, not}
use Rattle.std.specs.List.{list_all}
use Rattle.std.proofs.lemmas.Bool.Decides.{nat_tests}
use Rattle.std.proofs.lemmas.Bool.{and_parts, and_from}
use Rattle.qs_base.proofs.WordLaws.{sub-below, xor-below}
use Rattle.qs_memory.specs.Partial.{◌>>=◌, only_if}
use Rattle.qs_memory.specs.Values.{integer, has_type}
use Rattle.qs_memory.specs.Integers.{calculate, compares, minus, complement}
use Rattle.qs_memory.specs.Sizes.{largest_size}
use Rattle.qs_memory.specs.Operands.{binary_takes}
use Rattle.qs_memory.specs.declared.scalar.Scalar.{Scalar}
use Rattle.qs_memory.specs.declared.scalar.Scalar.TheVariants as scalars
use Rattle.qs_memory.specs.declared.operation.Signedness.{Signedness}
use Rattle.qs_memory.specs.declared.operation.Direction.TheVariants.{Up, Down}
use Rattle.qs_memory.specs.declared.operation.Arithmetic.{Arithmetic}
use Rattle.qs_memory.specs.declared.operation.UnaryOperation.{UnaryOperation}
use Rattle.qs_memory.specs.declared.operation.UnaryOperation.TheVariants as unaries
use Rattle.qs_memory.specs.declared.operation.BinaryOperation.{BinaryOperation}
use Rattle.qs_memory.specs.declared.operation.BinaryOperation.TheVariants as binaries
use Rattle.qs_memory.proofs.Options.{only_if_value}
use Rattle.qs_memory.proofs.ValueLaws.{binary_sound}
use Rattle.qs_calls.specs.Starts.{Signature, signature_of}
use Rattle.qs_calls.specs.declared.callee.Callee.{Callee}
use Rattle.qs_core.specs.declared.numbers.BlockId.{BlockId}
use Rattle.qs_core.specs.declared.numbers.BlockId.TheVariants as blocks
use Rattle.qs_core.specs.Trees as core
use Rattle.qs_core.specs.Trees.{CoreExprTree, CoreFunctionTree, CoreUnitTree}
use Rattle.qs_core.specs.Interfaces.{interface_of}
use Rattle.qs_core.specs.Fits.{block_fits, expr_fits, exprs_fit, pointer_fits}
use Rattle.qs_tac.specs.Trees.{TacFunctionTree, TacUnitTree}
use Rattle.qs_tac.specs.declared.operands.Operand.{Operand}
use Rattle.qs_tac.specs.declared.operands.Operand.TheVariants.{Temporary, Integer, Byte, Constant, Null, Local, Data}
use Rattle.qs_tac.specs.Fits.{is_word, operand_fits, option_fits, operation_fits, callee_fits}
use Rattle.qs_lower_expressions.specs.Operands.{constant, converted, truth_of, truth_operand, unary_of, binary_of, folded, block_operand, gives_integer, gives_truth, is_idle, is_upward, constant_step}
use Rattle.qs_lower_expressions.specs.Expressions.{lowered, size_of, code_of, own, all_size, all_code, all_operands, all_used}
use Rattle.qs_lower.specs.Units.{free_from}
use Rattle.qs_lower.proofs.PresenceLaws.{variable_there, temporary_there}
use Rattle.qs_lower_expressions.proofs.ExprFits.{Fit, fit_both, ExprFits, code_of_fits, operand_of_fits, operand_fits_all, load_fits, member_fits, compound_fits, simple_or_fits, if_fits, convert_fits, of_operation_fits, stepped_fits, and_fits, or_fits, conditional_fits}

-- ---- constants

word_of : {n : ℕ} → is_word n ≡ true → n < 2 ^ 32
word_of h = grind (arith, nat_tests, h)

pub small_word : (n : ℕ) → nat_le n largest_size ≡ true → is_word n ≡ true
small_word n h = grind (arith, nat_tests, h)

pub literal_word : (s : Scalar) (n : ℕ) → has_type s (integer n) ≡ true → is_word n ≡ true
literal_word scalars.Char n h = grind (arith, nat_tests, h)
literal_word scalars.Int n h = h
literal_word scalars.Unsigned n h = h
literal_word scalars.Pointer n h = cc

truth_word : (b : Bool) (u : TacUnitTree) (f : TacFunctionTree) → operand_fits u f (truth_operand b) ≡ true
truth_word true u f = refl
truth_word false u f = refl

calculated : (op : Arithmetic) (s : Signedness) (m n k : ℕ) → m < 2 ^ 32 → n < 2 ^ 32 → calculate op s m n ≡ Some k → k < 2 ^ 32
calculated op s m n k hm hn h =
    binary_sound (binaries.Arithmetic op s) [] (integer m) (integer n) (integer k) hm hn (ap (λ o. o >>= λ x. Some (integer x)) h)

element_of : (op : BinaryOperation) (s t : Scalar) → binary_takes op s t ≡ true → operation_fits op ≡ true
element_of (binaries.Arithmetic op s) t r h = refl
element_of (binaries.Compare op s) t r h = refl
element_of (binaries.Move direction s element) t r h = (and_parts _ _ h).1
element_of (binaries.Difference element) t r h = (and_parts _ _ h).1
element_of (binaries.ComparePointers op) t r h = refl

step_word : (op : BinaryOperation) (right : Option Operand) (bytes : ℕ) → constant_step op right ≡ Some bytes → is_word bytes ≡ true
step_word (binaries.Arithmetic op s) right bytes h = cc
step_word (binaries.Compare op s) right bytes h = cc
step_word (binaries.Move Up s element) None bytes h = cc
step_word (binaries.Move Up s element) (Some o) bytes h = by_constant (constant o) h
  where
    by_constant :
        (k : Option ℕ) → (k >>= λ n. only_if (is_upward s n && is_word (n * element)) (Some (n * element))) ≡ Some bytes → is_word bytes ≡ true
    by_constant None h = cc
    by_constant (Some n) h =
        let c = only_if_value (is_upward s n && is_word (n * element)) (n * element) bytes h in
        subst (λ (k : ℕ). is_word k ≡ true) c.1 (and_parts (is_upward s n) (is_word (n * element)) c.0).1
step_word (binaries.Move Down s element) right bytes h = cc
step_word (binaries.Difference element) right bytes h = cc
step_word (binaries.ComparePointers op) right bytes h = cc

module _ (u : TacUnitTree) (f : TacFunctionTree) where
  abbrev AreWords : Option ℕ → Type 0
  AreWords None = Unit {0}
  AreWords (Some n) = is_word n ≡ true

  constant_word : (o : Operand) → operand_fits u f o ≡ true → AreWords (constant o)
  constant_word (Temporary t) h = tt
  constant_word (Integer t) h = tt
  constant_word (Byte t) h = tt
  constant_word (Constant n) h = h
  constant_word Null h = tt
  constant_word (Local i) h = tt
  constant_word (Data i) h = tt

  byte_word : (n : ℕ) → is_word (n % 2 ^ 8) ≡ true
  byte_word n = let small : n % 2 ^ 8 < 2 ^ 32 = omega arith in lt-ltb _ _ small

  converted_one : (s : Scalar) (o : Operand) → operand_fits u f o ≡ true → option_fits u f (converted s o) ≡ true
  converted_one scalars.Char (Temporary t) h = h
  converted_one scalars.Char (Integer t) h = h
  converted_one scalars.Char (Byte t) h = h
  converted_one scalars.Char (Constant n) h = byte_word n
  converted_one scalars.Char Null h = refl
  converted_one scalars.Char (Local i) h = refl
  converted_one scalars.Char (Data i) h = refl
  converted_one scalars.Int (Temporary t) h = h
  converted_one scalars.Int (Integer t) h = h
  converted_one scalars.Int (Byte t) h = h
  converted_one scalars.Int (Constant n) h = h
  converted_one scalars.Int Null h = refl
  converted_one scalars.Int (Local i) h = refl
  converted_one scalars.Int (Data i) h = refl
  converted_one scalars.Unsigned (Temporary t) h = h
  converted_one scalars.Unsigned (Integer t) h = h
  converted_one scalars.Unsigned (Byte t) h = h
  converted_one scalars.Unsigned (Constant n) h = h
  converted_one scalars.Unsigned Null h = refl
  converted_one scalars.Unsigned (Local i) h = refl
  converted_one scalars.Unsigned (Data i) h = refl
  converted_one scalars.Pointer (Temporary t) h = refl
  converted_one scalars.Pointer (Integer t) h = refl
  converted_one scalars.Pointer (Byte t) h = refl
  converted_one scalars.Pointer (Constant n) h = refl
  converted_one scalars.Pointer Null h = h
  converted_one scalars.Pointer (Local i) h = h
  converted_one scalars.Pointer (Data i) h = h

  converted_fits : (s : Scalar) (o : Option Operand) → option_fits u f o ≡ true → option_fits u f (o >>= converted s) ≡ true
  converted_fits s None h = refl
  converted_fits s (Some o) h = converted_one s o h

  of_word : (g : ℕ → ℕ) → ((n : ℕ) → n < 2 ^ 32 → g n < 2 ^ 32) → (k : Option ℕ) → AreWords k → option_fits u f (k >>= λ n. Some (Constant (g n))) ≡ true
  of_word g small None h = refl
  of_word g small (Some n) h = lt-ltb _ _ (small n (word_of h))

  of_truth_value : (g : Bool → Bool) (k : Option Bool) → option_fits u f (k >>= λ b. Some (truth_operand (g b))) ≡ true
  of_truth_value g None = refl
  of_truth_value g (Some b) = truth_word (g b) u f

  unary_one : (op : UnaryOperation) (o : Operand) → operand_fits u f o ≡ true → option_fits u f (unary_of op o) ≡ true
  unary_one (unaries.Plus s) o h = converted_one scalars.Int o h
  unary_one (unaries.Minus s) o h = of_word minus (λ n small. sub-below 0 n) (constant o) (constant_word o h)
  unary_one (unaries.Complement s) o h = of_word complement (λ n small. xor-below n _ small (omega arith)) (constant o) (constant_word o h)
  unary_one unaries.Not o h = of_truth_value not (truth_of o)
  unary_one unaries.Truth o h = of_truth_value (λ b. b) (truth_of o)

  unary_fits : (op : UnaryOperation) (o : Option Operand) → option_fits u f o ≡ true → option_fits u f (o >>= unary_of op) ≡ true
  unary_fits op None h = refl
  unary_fits op (Some o) h = unary_one op o h

  binary_one : (op : BinaryOperation) (m n : ℕ) → is_word m ≡ true → is_word n ≡ true → option_fits u f (binary_of op m n) ≡ true
  binary_one (binaries.Arithmetic op s) m n h k = by_result (calculate op s m n) refl
    where
      by_result : (o : Option ℕ) → calculate op s m n ≡ o → option_fits u f (o >>= λ x. Some (Constant x)) ≡ true
      by_result None is = refl
      by_result (Some x) is = lt-ltb _ _ (calculated op s m n x (word_of h) (word_of k) is)
  binary_one (binaries.Compare op s) m n h k = truth_word (compares op s m n) u f
  binary_one (binaries.Move direction s element) m n h k = refl
  binary_one (binaries.Difference element) m n h k = refl
  binary_one (binaries.ComparePointers op) m n h k = refl

  of_words : (op : BinaryOperation) (m n : Option ℕ) → AreWords m → AreWords n → option_fits u f (m >>= λ a. n >>= λ b. binary_of op a b) ≡ true
  of_words op None n h k = refl
  of_words op (Some m) None h k = refl
  of_words op (Some m) (Some n) h k = binary_one op m n h k

  folded_fits : (op : BinaryOperation) (a b : Option Operand) → option_fits u f a ≡ true → option_fits u f b ≡ true → option_fits u f (folded op a b) ≡ true
  folded_fits op None b h k = refl
  folded_fits op (Some o) None h k = refl
  folded_fits op (Some o) (Some p) h k = of_words op (constant o) (constant p) (constant_word o h) (constant_word p k)

-- ---- expressions

-- the linear code of a function has its variables and temporaries, its blocks, and what is outside it
pub record Has (c : CoreUnitTree) (g : CoreFunctionTree) (u : TacUnitTree) (f : TacFunctionTree) : Type 0 where
  pub numbers : free_from g ≤ f.temporaries
  pub blocks : length f.blocks ≡ length g.blocks
  pub data_blocks : length u.data_blocks ≡ length c.data_blocks
  pub callee :
      (to : Callee) (s : Signature) → signature_of (interface_of c) to ≡ Some s
      → (os : List Operand) → length os ≡ length s.parameters → callee_fits u to os ≡ true

module _ (c : CoreUnitTree) (g : CoreFunctionTree) (u : TacUnitTree) (f : TacFunctionTree) (has : Has c g u f) where
  abbrev v : ℕ
  v = length g.variables

  block_operand_fits : (b : BlockId) → block_fits c g b ≡ true → operand_fits u f (block_operand b) ≡ true
  block_operand_fits (blocks.Local i) h = subst (λ (n : ℕ). nat_lt i n ≡ true) (sym has.blocks) h
  block_operand_fits (blocks.Data i) h = subst (λ (n : ℕ). nat_lt i n ≡ true) (sym has.data_blocks) h

  variable_in : (x : ℕ) → x < length g.variables → nat_lt x f.temporaries ≡ true
  variable_in x h = let numbers = has.numbers in let there : x < f.temporaries = omega (arith, numbers) in lt-ltb _ _ there

  temporary_in : (k : ℕ) → k < length g.temporaries → nat_lt (length g.variables + k) f.temporaries ≡ true
  temporary_in k h = let numbers = has.numbers in let there : length g.variables + k < f.temporaries = omega (arith, numbers) in lt-ltb _ _ there

  pub lowered_fits : (e : CoreExprTree) → expr_fits c g e ≡ true → ExprFits u f (lowered v e)
  lowered_fits (core.literal s n) h = operand_fits_all u f (Constant n) (literal_word s n h)
  lowered_fits core.null_pointer h = operand_fits_all u f Null refl
  lowered_fits (core.variable s x) h = operand_fits_all u f (Temporary x) (variable_in x (variable_there g x s h))
  lowered_fits (core.temporary s k) h = operand_fits_all u f (Temporary (v + k)) (temporary_in k (temporary_there g k s h))
  lowered_fits (core.address_of b) h = operand_fits_all u f (block_operand b) (block_operand_fits b h)
  lowered_fits (core.load s a) h = load_fits u f s (lowered v a) (lowered_fits a (and_parts (expr_fits c g a) _ h).0)
  lowered_fits (core.member offset a) h =
      let two = and_parts _ (nat_le offset largest_size) h in
      member_fits u f (lowered v a) offset (small_word offset two.1) (lowered_fits a (and_parts (expr_fits c g a) _ two.0).0)
  lowered_fits (core.unary op a) h =
      let first = lowered_fits a (and_parts (expr_fits c g a) _ h).0 in
      simple_or_fits u f ((lowered v a).simple >>= unary_of op) _ (unary_fits u f op (lowered v a).simple first.simple)
      (compound_fits u f op (gives_integer a) (gives_truth a) (lowered v a) first)
  lowered_fits (core.binary op a b) h =
      let three = and_parts _ (binary_takes op _ _) h in
      let two = and_parts (expr_fits c g a) (expr_fits c g b) three.0 in
      let first = lowered_fits a two.0 in
      let second = lowered_fits b two.1 in
      simple_or_fits u f (folded op (lowered v a).simple (lowered v b).simple) _ (folded_fits u f op (lowered v a).simple (lowered v b).simple first.simple second.simple)
      (stepped_fits u f (constant_step op (lowered v b).simple) (lowered v a) _ (step_word op (lowered v b).simple) first
      (of_operation_fits u f op (lowered v a) (lowered v b) (element_of op _ _ three.1) first second))
  lowered_fits (core.conversion s a) h =
      let first = lowered_fits a (and_parts (expr_fits c g a) _ h).0 in
      simple_or_fits u f ((lowered v a).simple >>= converted s) _ (converted_fits u f s (lowered v a).simple first.simple)
      (if_fits u f (is_idle s a) (lowered v a) _ first (convert_fits u f s (lowered v a) (converted_one u f s) first))
  lowered_fits (core.logical_and a b) h =
      let two = and_parts (expr_fits c g a) (expr_fits c g b) h in
      and_fits u f (lowered v a).known (gives_truth b) (lowered v a) (lowered v b) (lowered_fits a two.0) (lowered_fits b two.1)
  lowered_fits (core.logical_or a b) h =
      let two = and_parts (expr_fits c g a) (expr_fits c g b) h in
      or_fits u f (lowered v a).known (gives_truth b) (lowered v a) (lowered v b) (lowered_fits a two.0) (lowered_fits b two.1)
  lowered_fits (core.conditional q a b) h =
      let three = and_parts _ (expr_fits c g b) (and_parts _ _ h).0 in
      let two = and_parts (expr_fits c g q) (expr_fits c g a) three.0 in
      conditional_fits u f (lowered v q).known (lowered v q) (lowered v a) (lowered v b) (lowered_fits q two.0) (lowered_fits a two.1) (lowered_fits b three.1)

  pub pointer_lowered : (a : CoreExprTree) → pointer_fits c g a ≡ true → ExprFits u f (lowered v a)
  pointer_lowered a h = lowered_fits a (and_parts (expr_fits c g a) _ h).0

  -- ---- arguments

  pub arguments_fit :
      (es : List CoreExprTree) → exprs_fit c g es ≡ true → (t at : ℕ) → t + all_used (map (lowered v) es) ≤ f.temporaries
      → at + all_size (map (lowered v) es) < length f.code → Fit u f (all_code (map (lowered v) es) t at)
  arguments_fit [] h t at used room = refl
  arguments_fit (e ∷ es) h t at used room =
      let two = and_parts (expr_fits c g e) (exprs_fit c g es) h in
      fit_both u f (code_of (lowered v e) t at) (all_code (map (lowered v) es) (t + own (lowered v e)) (at + size_of (lowered v e)))
      (code_of_fits u f (lowered v e) (lowered_fits e two.0) t at (omega (arith, used)) (omega (arith, room)))
      (arguments_fit es two.1 (t + own (lowered v e)) (at + size_of (lowered v e)) (omega (arith, used)) (omega (arith, room)))

  pub argument_operands :
      (es : List CoreExprTree) → exprs_fit c g es ≡ true → (t : ℕ) → t + all_used (map (lowered v) es) ≤ f.temporaries
      → list_all (operand_fits u f) (all_operands (map (lowered v) es) t) ≡ true
  argument_operands [] h t used = refl
  argument_operands (e ∷ es) h t used =
      let two = and_parts (expr_fits c g e) (exprs_fit c g es) h in
      and_from _ _ (operand_of_fits u f (lowered v e) (lowered_fits e two.0) t (omega (arith, used)))
      (argument_operands es two.1 (t + own (lowered v e)) (omega (arith, used)))

  pub argument_count : (es : List CoreExprTree) (t : ℕ) → length (all_operands (map (lowered v) es) t) ≡ length es
  argument_count [] t = refl
  argument_count (e ∷ es) t = let others = argument_count es (t + own (lowered v e)) in omega (arith, others)
