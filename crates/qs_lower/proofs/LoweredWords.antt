-- Each expression takes at most its words.
use Rattle.std.proofs.Common.{◌≡◌, ℕ, ◌+◌, ◌%◌, ◌^◌, ◌≤◌, Bool, true, false, List, [], ◌∷◌, length, map, Option, Some, None, refl, sym, ap, ◌∙◌, subst, arith}
use Rattle.std.specs.Prelude.{nat_lt, nat_le, if◌then◌else◌, sum_by}
use Rattle.std.proofs.lemmas.Bool.Decides.{nat_tests}
use Rattle.std.proofs.lemmas.List.Sums.{sum_by-cons}
use Rattle.std.proofs.lemmas.Bool.{and_parts}
use Rattle.qs_memory.specs.Partial.{◌>>=◌}
use Rattle.qs_memory.specs.Sizes.{largest_size}
use Rattle.qs_memory.specs.Scalars.{is_integer, same_scalar}
use Rattle.qs_memory.specs.Operands.{binary_takes, conversion_takes}
use Rattle.qs_memory.specs.declared.scalar.Scalar.{Scalar}
use Rattle.qs_memory.specs.declared.scalar.Scalar.TheVariants as scalars
use Rattle.qs_memory.specs.declared.operation.Direction.TheVariants.{Up, Down}
use Rattle.qs_memory.specs.declared.operation.Signedness.{Signedness}
use Rattle.qs_memory.specs.declared.operation.UnaryOperation.{UnaryOperation}
use Rattle.qs_memory.specs.declared.operation.UnaryOperation.TheVariants as unaries
use Rattle.qs_memory.specs.declared.operation.BinaryOperation.{BinaryOperation}
use Rattle.qs_memory.specs.declared.operation.BinaryOperation.TheVariants as binaries
use Rattle.qs_core.specs.Trees as core
use Rattle.qs_core.specs.Trees.{CoreExprTree, CoreFunctionTree, CoreUnitTree}
use Rattle.qs_core.specs.Expressions.{type_of}
use Rattle.qs_core.specs.Fits.{expr_fits, exprs_fit}
use Rattle.qs_core.specs.Sizes as counts
use Rattle.qs_core.specs.Sizes.{is_operand, is_block, read_words, as_operand, as_address, as_condition, as_assigned, converted_words, use_of, taken_words, address_words, assigned_words, all_taken_words}
use Rattle.qs_core.specs.declared.numbers.BlockId.{BlockId}
use Rattle.qs_core.specs.declared.numbers.BlockId.TheVariants as blocks
use Rattle.qs_tac.specs.Trees.{TacFunctionTree}
use Rattle.qs_tac.specs.Sizes as sizes
use Rattle.qs_tac.specs.Sizes.{is_near, constant_words, operand_words}
use Rattle.qs_tac.specs.Fits.{is_word}
use Rattle.qs_tac.specs.declared.operands.Operand.{Operand}
use Rattle.qs_tac.specs.declared.operands.Operand.TheVariants.{Temporary, Integer, Byte, Constant, Null, Local, Data}
use Rattle.qs_tac.specs.declared.operands.Condition.TheVariants as conditions
use Rattle.qs_lower_expressions.specs.Exits.{Exit, falls, goes}
use Rattle.qs_lower_expressions.specs.Operands.{converted, truth_operand, unary_of, folded, block_operand, gives_integer, gives_truth, is_idle, constant_step}
use Rattle.qs_lower_expressions.specs.Expressions.{ExprCode, size_of, code_of, operand_of, own, simple_operand, address_at, by_operand, by_address, behind, further, of_member, of_element, of_truth, of_plus, of_compound, simple_or, of_conversion, of_operation, of_binary_value, stepped_or, of_and, of_or, of_conditional, lowered, all_code, all_operands}
use Rattle.qs_lower.proofs.OperandFits.{small_word}
use Rattle.qs_lower.proofs.CoreWords.{tested_words, held_read, some_taken, address_taken, tested_taken, taken_tested, some_tested, assigned_taken}
use Rattle.qs_lower_expressions.proofs.SimpleOperands.{AreIntegers, IsThere, converted_there, folded_constant, AreConstants, converts, integers, operands_there}
use Rattle.qs_lower_expressions.proofs.ExprWords.{jumps, Within, widened, code_words, words_both, operand_small, constant_small, operand_within, load_within, by_address_within, member_within, element_within, unary_value_within, with_test_within, convert_within, binary_value_within, with_condition_within, both_tests_within, either_test_within, choice_within}

-- ---- converted operands take no more words

byte_smaller : (b : Bool) → 1 ≤ (if b then 1 else 2)
byte_smaller true = omega arith
byte_smaller false = omega arith

byte_constant : (n : ℕ) → constant_words (n % 2 ^ 8) ≡ 1
byte_constant n = ap (λ (b : Bool). if b then 1 else 2) (small n)
  where
    small : (n : ℕ) → nat_lt (n % 2 ^ 8) sizes.reach ≡ true
    small n = grind (arith, nat_tests)

some_same : {o p : Operand} → Some o ≡ Some p → o ≡ p
some_same {o} {p} h = ap (λ (x : Option Operand). simple_operand x 0) h

module _ (f : TacFunctionTree) where
  same_words : (o p : Operand) → Some o ≡ Some p → operand_words f p ≤ operand_words f o
  same_words o p h = let e = ap (operand_words f) (some_same h) in omega (arith, e)

  byte_less : (o p : Operand) → converted scalars.Char o ≡ Some p → operand_words f p ≤ operand_words f o
  byte_less (Temporary t) p h = same_words (Byte t) p h
  byte_less (Integer t) p h = same_words (Byte t) p h
  byte_less (Byte t) p h = same_words (Byte t) p h
  byte_less (Constant n) p h =
      let e = same_words (Constant (n % 2 ^ 8)) p h in
      let b = byte_constant n in
      let s = byte_smaller (nat_lt n sizes.reach) in
      omega arith
  byte_less Null p h = cc
  byte_less (Local i) p h = cc
  byte_less (Data i) p h = cc

  integer_less : (o p : Operand) → converted scalars.Int o ≡ Some p → operand_words f p ≤ operand_words f o
  integer_less (Temporary t) p h = same_words (Integer t) p h
  integer_less (Integer t) p h = same_words (Integer t) p h
  integer_less (Byte t) p h = same_words (Byte t) p h
  integer_less (Constant n) p h = same_words (Constant n) p h
  integer_less Null p h = cc
  integer_less (Local i) p h = cc
  integer_less (Data i) p h = cc

  pub converted_less : (s : Scalar) → is_integer s ≡ true → (o p : Operand) → converted s o ≡ Some p → operand_words f p ≤ operand_words f o
  converted_less scalars.Char k o p h = byte_less o p h
  converted_less scalars.Int k o p h = integer_less o p h
  converted_less scalars.Unsigned k o p h = integer_less o p h
  converted_less scalars.Pointer k o p h = absurd (cc)

blocks_are : (e : CoreExprTree) → is_block e ≡ true → (b : BlockId) × (e ≡ core.address_of b)
blocks_are (core.address_of b) h = (b, refl)
blocks_are _ h = absurd (cc)

-- each argument is an operand
pub operand_count : (v : ℕ) (es : List CoreExprTree) (t : ℕ) → length (all_operands (map (lowered v) es) t) ≡ length es
operand_count v [] t = refl
operand_count v (e ∷ es) t = let r = operand_count v es (t + own (lowered v e)) in omega (arith, r)

exit_swap : (x y : Exit) → jumps y x ≡ jumps x y
exit_swap (falls p) (falls q) = refl
exit_swap (falls p) (goes q) = refl
exit_swap (goes p) (falls q) = refl
exit_swap (goes p) (goes q) = refl

module _ (c : CoreUnitTree) (g : CoreFunctionTree) (v : ℕ) (f : TacFunctionTree) (free : ℕ) (near : (t : ℕ) → free ≤ t → is_near f t ≡ true) where
  abbrev In : (taken address tested assigned : ℕ) → ExprCode → Type 0
  In k a q s d = Within f free near k a q s d

  abbrev pub Good : CoreExprTree → ExprCode → Type 0
  Good e d = In (taken_words e) (address_words e) (tested_words e) (assigned_words e) d

  abbrev Taken : ℕ → ExprCode → Type 0
  Taken k d = (t at : ℕ) → free ≤ t → code_words f free near (code_of d t at) + operand_words f (operand_of d t) ≤ k

  -- an operand in place of what can be worked out
  simple_or_in : {k a q s : ℕ} → (o : Option Operand) (d : ExprCode) → ((p : Operand) → o ≡ Some p → In k a q s (by_operand p)) → In k a q s d → In k a q s (simple_or o d)
  simple_or_in None d h i = i
  simple_or_in (Some p) d h i = h p refl

  any_operand : {k a q s : ℕ} → (p : Operand) → 3 ≤ k → 3 ≤ a → 5 ≤ q → 6 ≤ s → In k a q s (by_operand p)
  any_operand p h i j l = let w = operand_small f free near p in operand_within f free near p (omega arith) (omega arith) (omega arith) (omega arith)

  constant_in : {k a q s : ℕ} → (p : Operand) → (n : ℕ) × (p ≡ Constant n) → 2 ≤ k → 2 ≤ a → 4 ≤ q → 5 ≤ s → In k a q s (by_operand p)
  constant_in p e h i j l =
      let w = constant_small f free near e.0 in
      let same : operand_words f p ≡ constant_words e.0 = ap (operand_words f) e.1 in
      operand_within f free near p (omega arith) (omega arith) (omega arith) (omega arith)

  -- ---- members

  block_member : (b : BlockId) (bytes : ℕ) → is_word (further None bytes) ≡ true → In 5 2 7 6 (of_member bytes (by_operand (block_operand b)))
  block_member b bytes w = by_address_within f free near 2 (behind (by_operand (block_operand b)) bytes) (λ t at le. by b t at) (omega arith) (omega arith) (omega arith)
    where
      by : (b : BlockId) (t at : ℕ) → code_words f free near (ExprCode.base_code (behind (by_operand (block_operand b)) bytes) t at) + sizes.address_words f (address_at (behind (by_operand (block_operand b)) bytes) t) ≤ 2
      by (blocks.Local i) t at = rw w (omega arith)
      by (blocks.Data i) t at = rw w (omega arith)

  member_by : (z : Bool) (a : CoreExprTree) (bytes : ℕ) → is_block a ≡ z → is_word (further None bytes) ≡ true → Good a (lowered v a)
      → In (counts.base_words z (taken_words a) + 3) (counts.base_words z (taken_words a)) (counts.base_words z (taken_words a) + 5) (counts.base_words z (taken_words a) + 4) (of_member bytes (lowered v a))
  member_by true a bytes is w h =
      let b = blocks_are a is in subst (λ (e : CoreExprTree). In 5 2 7 6 (of_member bytes (lowered v e))) (sym b.1) (block_member b.0 bytes w)
  member_by false a bytes is w h =
      let e = address_taken a in
      member_within f free near (taken_words a + 2) (lowered v a) bytes (taken_words a) (address_words a) h.taken_fits h.address_fits (omega arith) (omega arith) (omega arith) (omega arith) (omega arith)

  -- ---- unary operations

  itself_in : {k a q s : ℕ} → (e : CoreExprTree) (d : ExprCode) → Good e d → taken_words e ≤ k → taken_words e ≤ a → taken_words e + 2 ≤ q → taken_words e + 3 ≤ s → In k a q s d
  itself_in e d h i j l m =
      let b = address_taken e in
      let n = tested_taken e in
      let o = assigned_taken e in
      widened f free near d (omega arith) (omega arith) (omega arith) (omega arith) h

  truth_in : {k a q s : ℕ} → (j : Bool) (e : CoreExprTree) (d : ExprCode) → Good e d → taken_words e + 3 ≤ k → k ≤ a → tested_words e ≤ q → taken_words e + 4 ≤ s → In k a q s (of_truth j d)
  truth_in true e d h i j l m =
      let b = address_taken e in
      let o = assigned_taken e in
      widened f free near d (omega arith) (omega arith) l (omega arith) h
  truth_in {k} {a} {q} {s} false e d h i j l m =
      with_test_within f free near _ d.test_size d.test d.test_used (k + 2)
      (λ x y t at le. let b = h.test_fits x y t at le in omega arith)
      (unary_value_within f free near unaries.Truth d (taken_words e) h.taken_fits (omega arith) (omega arith) j (omega arith))

  plus_in : (i : Bool) (s : Signedness) (e : CoreExprTree) (d : ExprCode) → Good e d → Good (core.unary (unaries.Plus s) e) (of_plus i s d)
  plus_in true s e d h = itself_in e d h (omega arith) (omega arith) (omega arith) (omega arith)
  plus_in false s e d h = unary_value_within f free near (unaries.Plus s) d (taken_words e) h.taken_fits (omega arith) (omega arith) (omega arith) (omega arith)

  compound_in : (op : UnaryOperation) (i j : Bool) (e : CoreExprTree) (d : ExprCode) → Good e d → Good (core.unary op e) (of_compound op i j d)
  compound_in (unaries.Plus s) i j e d h = plus_in i s e d h
  compound_in (unaries.Minus s) i j e d h = unary_value_within f free near (unaries.Minus s) d (taken_words e) h.taken_fits (omega arith) (omega arith) (omega arith) (omega arith)
  compound_in (unaries.Complement s) i j e d h = unary_value_within f free near (unaries.Complement s) d (taken_words e) h.taken_fits (omega arith) (omega arith) (omega arith) (omega arith)
  compound_in unaries.Not i j e d h =
      let n = tested_taken e in
      with_test_within f free near _ _ _ d.test_used (taken_words e + 5)
      (λ x y t at le. let b = h.test_fits y x t at le in let w = exit_swap x y in omega arith)
      (unary_value_within f free near unaries.Not d (taken_words e) h.taken_fits (omega arith) (omega arith) (omega arith) (omega arith))
  compound_in unaries.Truth i j e d h =
      let n = tested_taken e in
      truth_in j e d h (omega arith) (omega arith) (omega arith) (omega arith)

  -- ---- binary operations

  some_operation : (op : BinaryOperation) → 1 ≤ counts.operation_words op
  some_operation (binaries.Arithmetic op s) = omega arith
  some_operation (binaries.Compare op s) = omega arith
  some_operation (binaries.Move direction s element) = omega arith
  some_operation (binaries.Difference element) = omega arith
  some_operation (binaries.ComparePointers op) = omega arith

  stepped_in : (op : BinaryOperation) (o : Option ℕ) (a b : CoreExprTree) (d e : ExprCode) → Good a d → Good (core.binary op a b) e → Good (core.binary op a b) (stepped_or o d e)
  stepped_in op None a b d e h k = k
  stepped_in op (Some bytes) a b d e h k =
      let n = address_taken a in
      let m = some_taken b in
      let o = some_operation op in
      let made : In (taken_words a + 5) (taken_words a + 2) (taken_words a + 7) (taken_words a + 6) (by_address (behind d bytes)) =
      member_within f free near (taken_words a + 2) d bytes (taken_words a) (address_words a) h.taken_fits h.address_fits (omega arith) (omega arith) (omega arith) (omega arith) (omega arith) in
      widened f free near (by_address (behind d bytes)) (omega arith) (omega arith) (omega arith) (omega arith) made

  value_in : (op : BinaryOperation) (a b : CoreExprTree) (d e : ExprCode) → sizes.operation_words op ≤ counts.operation_words op → Good a d → Good b e → Good (core.binary op a b) (of_binary_value op d e)
  value_in op a b d e less h k =
      binary_value_within f free near op d e (taken_words a) (taken_words b) h.taken_fits k.taken_fits (omega arith) (omega arith) (omega arith) (omega arith)

  operation_in : (op : BinaryOperation) (a b : CoreExprTree) (d e : ExprCode) → Good a d → Good b e → Good (core.binary op a b) (of_operation op d e)
  operation_in (binaries.Arithmetic op s) a b d e h k = value_in (binaries.Arithmetic op s) a b d e (omega arith) h k
  operation_in (binaries.Compare op s) a b d e h k =
      with_condition_within f free near _ (conditions.Compare op s) d e (taken_words a) (taken_words b) _ (λ o p. omega arith) h.taken_fits k.taken_fits (omega arith)
      (value_in (binaries.Compare op s) a b d e (omega arith) h k)
  operation_in (binaries.Move Up s element) a b d e h k =
      let n : ℕ = taken_words a + taken_words b in
      let made : In (n + 7) (n + 4) (n + 9) (n + 8) (of_element s element d e) =
      element_within f free near (n + 4) s element d e (taken_words a) (address_words a) (taken_words b) (address_taken a) h.taken_fits h.address_fits k.taken_fits (omega arith) (omega arith) (omega arith) (omega arith) in
      widened f free near (of_element s element d e) (omega arith) (omega arith) (omega arith) (omega arith) made
  operation_in (binaries.Move Down s element) a b d e h k = value_in (binaries.Move Down s element) a b d e (omega arith) h k
  operation_in (binaries.Difference element) a b d e h k = value_in (binaries.Difference element) a b d e (omega arith) h k
  operation_in (binaries.ComparePointers op) a b d e h k =
      with_condition_within f free near _ (conditions.ComparePointers op) d e (taken_words a) (taken_words b) _ (λ o p. omega arith) h.taken_fits k.taken_fits (omega arith)
      (value_in (binaries.ComparePointers op) a b d e (omega arith) h k)

  -- ---- conversions

  simple_words : (o : Option Operand) (d : ExprCode) (k : ℕ) → d.simple ≡ o → Taken k d → (p : Operand) → o ≡ Some p → operand_words f p ≤ k
  simple_words o d k is h p same =
      let e = h free 0 (omega arith) in
      let w : operand_of d free ≡ p = ap (λ (x : Option Operand). simple_operand x free) (is ∙ same) in
      let u : operand_words f (operand_of d free) ≡ operand_words f p = ap (operand_words f) w in
      omega arith

  converted_words_less : (s : Scalar) → is_integer s ≡ true → (o : Option Operand) (d : ExprCode) (k : ℕ) → d.simple ≡ o → Taken k d → (p : Operand) → (o >>= converted s) ≡ Some p → operand_words f p ≤ k
  converted_words_less s z None d k is h p e = cc
  converted_words_less s z (Some o) d k is h p e =
      let w = simple_words (Some o) d k is h o refl in
      let l = converted_less f s z o p e in
      omega arith

  operand_there : (s : Scalar) → is_integer s ≡ true → (o : Option Operand) → AreIntegers o → (t : ℕ) → IsThere (converted s (simple_operand o t))
  operand_there s z None h t = converted_there s (Temporary t) z tt
  operand_there s z (Some o) h t = converted_there s o z h

  if_in : {k a q s : ℕ} → (b : Bool) (d e : ExprCode) → In k a q s d → In k a q s e → In k a q s (if b then d else e)
  if_in true d e h i = h
  if_in false d e h i = i

  -- of an operand the conversion is one
  there_or : {k a q s : ℕ} → (o : Option Operand) (d : ExprCode) → IsThere o → ((p : Operand) → o ≡ Some p → In k a q s (by_operand p)) → In k a q s (simple_or o d)
  there_or None d h i = absurd h
  there_or (Some p) d h i = i p refl

  of_there : (s : Scalar) (o : Option Operand) → is_integer s ≡ true → AreIntegers o → IsThere o → IsThere (o >>= converted s)
  of_there s None h k l = l
  of_there s (Some o) h k l = converted_there s o h k

  conversion_by :
      (z : Bool) (s : Scalar) (idle : Bool) (e : CoreExprTree) (d : ExprCode) → is_operand e ≡ z → is_integer s ≡ true → AreIntegers d.simple
      → (z ≡ true → IsThere d.simple) → Good e d
      → In (converted_words z (use_of e as_operand) (read_words e) as_operand + read_words e) (converted_words z (use_of e as_operand) (read_words e) as_address)
      (converted_words z (use_of e as_operand) (read_words e) as_condition) (converted_words z (use_of e as_operand) (read_words e) as_assigned) (of_conversion s idle d)
  conversion_by true s idle e d is int ints there h =
      there_or (d.simple >>= converted s) _ (of_there s d.simple int ints (there refl))
      (λ p same.
      let w = converted_words_less s int d.simple d (taken_words e) refl h.taken_fits p same in
      operand_within f free near p (omega arith) (omega arith) (omega arith) (omega arith))
  conversion_by false s idle e d is int ints there h =
      let r = held_read e is in
      simple_or_in (d.simple >>= converted s) _
      (λ p same.
      let w = converted_words_less s int d.simple d (taken_words e) refl h.taken_fits p same in
      operand_within f free near p (omega arith) (omega arith) (omega arith) (omega arith))
      (if_in idle d _
      (itself_in e d h (omega arith) (omega arith) (omega arith) (omega arith))
      (convert_within f free near s d (taken_words e) h.taken_fits (operand_there s int d.simple ints) (converted_less f s int) (omega arith) (omega arith) (omega arith) (omega arith)))

  -- ---- `&&`, `||`, `?:`

  and_in : (known : Option Bool) (j : Bool) (a b : CoreExprTree) (d e : ExprCode) → Good a d → Good b e → Good (core.logical_and a b) (of_and known j d e)
  and_in None j a b d e h k = both_tests_within f free near d e (tested_words a) (tested_words b) (tested_words (core.logical_and a b)) h.test_fits k.test_fits (omega arith) (omega arith) (omega arith) (omega arith)
  and_in (Some true) j a b d e h k =
      let m = taken_tested b in
      let n = some_tested a in
      truth_in j b e k (omega arith) (omega arith) (omega arith) (omega arith)
  and_in (Some false) j a b d e h k =
      let m = some_tested a in
      let n = some_tested b in
      constant_in (truth_operand false) (0, refl) (omega arith) (omega arith) (omega arith) (omega arith)

  or_in : (known : Option Bool) (j : Bool) (a b : CoreExprTree) (d e : ExprCode) → Good a d → Good b e → Good (core.logical_or a b) (of_or known j d e)
  or_in None j a b d e h k = either_test_within f free near d e (tested_words a) (tested_words b) (tested_words (core.logical_or a b)) h.test_fits k.test_fits (omega arith) (omega arith) (omega arith) (omega arith)
  or_in (Some true) j a b d e h k =
      let m = some_tested a in
      let n = some_tested b in
      constant_in (truth_operand true) (1, refl) (omega arith) (omega arith) (omega arith) (omega arith)
  or_in (Some false) j a b d e h k =
      let m = taken_tested b in
      let n = some_tested a in
      truth_in j b e k (omega arith) (omega arith) (omega arith) (omega arith)

  choice_in : (known : Option Bool) (q a b : CoreExprTree) (d e i : ExprCode) → Good q d → Good a e → Good b i → Good (core.conditional q a b) (of_conditional known d e i)
  choice_in None q a b d e i h k l =
      let m = assigned_taken a in
      let n = assigned_taken b in
      choice_within f free near d e i (tested_words q) (taken_words a) (taken_words b) (assigned_words a) (assigned_words b) h.test_fits k.near_fits k.into_fits l.near_fits l.into_fits
      (omega arith) (omega arith) (omega arith) (omega arith)
  choice_in (Some true) q a b d e i h k l = itself_in a e k (omega arith) (omega arith) (omega arith) (omega arith)
  choice_in (Some false) q a b d e i h k l = itself_in b i l (omega arith) (omega arith) (omega arith) (omega arith)

  -- ---- expressions

  pub expr_words : (e : CoreExprTree) → expr_fits c g e ≡ true → Good e (lowered v e)
  expr_words (core.literal s n) h = let w = constant_small f free near n in operand_within f free near (Constant n) (omega arith) (omega arith) (omega arith) (omega arith)
  expr_words core.null_pointer h = operand_within f free near Null (omega arith) (omega arith) (omega arith) (omega arith)
  expr_words (core.variable s x) h = any_operand (Temporary x) (omega arith) (omega arith) (omega arith) (omega arith)
  expr_words (core.temporary s k) h = any_operand (Temporary (v + k)) (omega arith) (omega arith) (omega arith) (omega arith)
  expr_words (core.address_of b) h = any_operand (block_operand b) (omega arith) (omega arith) (omega arith) (omega arith)
  expr_words (core.load s a) h =
      load_within f free near (address_words a) s (lowered v a) (expr_words a (and_parts (expr_fits c g a) _ h).0).address_fits (omega arith) (omega arith) (omega arith) (omega arith)
  expr_words (core.member offset a) h =
      let two = and_parts _ (nat_le offset largest_size) h in
      let same : further None offset ≡ offset = omega arith in
      let w : is_word (further None offset) ≡ true = ap is_word same ∙ small_word offset two.1 in
      widened f free near (of_member offset (lowered v a)) (omega arith) (omega arith) (omega arith) (omega arith)
      (member_by (is_block a) a offset refl w (expr_words a (and_parts (expr_fits c g a) _ two.0).0))
  expr_words (core.unary op a) h =
      let first = expr_words a (and_parts (expr_fits c g a) _ h).0 in
      let m = some_taken a in
      simple_or_in ((lowered v a).simple >>= unary_of op) _ (λ p same. any_operand p (omega arith) (omega arith) (omega arith) (omega arith))
      (compound_in op (gives_integer a) (gives_truth a) a (lowered v a) first)
  expr_words (core.binary op a b) h =
      let two = and_parts (expr_fits c g a) (expr_fits c g b) (and_parts _ (binary_takes op _ _) h).0 in
      let first = expr_words a two.0 in
      let second = expr_words b two.1 in
      let m = some_taken a in
      let n = some_taken b in
      simple_or_in (folded op (lowered v a).simple (lowered v b).simple) _
      (λ p same. any_constant p (subst AreConstants same (folded_constant op (lowered v a).simple (lowered v b).simple)))
      (stepped_in op (constant_step op (lowered v b).simple) a b (lowered v a) _ first (operation_in op a b (lowered v a) (lowered v b) first second))
    where
      any_constant : (p : Operand) → (n : ℕ) × (p ≡ Constant n) → Good (core.binary op a b) (by_operand p)
      any_constant p e =
          let m = some_taken a in
          let n = some_taken b in
          constant_in p e (omega arith) (omega arith) (omega arith) (omega arith)
  expr_words (core.conversion s a) h =
      let two = and_parts (expr_fits c g a) (conversion_takes s (type_of a)) h in
      let types = converts s (type_of a) two.1 in
      conversion_by (is_operand a) s (is_idle s a) a (lowered v a) refl types.to (integers c g v a two.0 types.from) (operands_there c g v a two.0) (expr_words a two.0)
  expr_words (core.logical_and a b) h =
      let two = and_parts (expr_fits c g a) (expr_fits c g b) h in
      and_in (lowered v a).known (gives_truth b) a b (lowered v a) (lowered v b) (expr_words a two.0) (expr_words b two.1)
  expr_words (core.logical_or a b) h =
      let two = and_parts (expr_fits c g a) (expr_fits c g b) h in
      or_in (lowered v a).known (gives_truth b) a b (lowered v a) (lowered v b) (expr_words a two.0) (expr_words b two.1)
  expr_words (core.conditional q a b) h =
      let three = and_parts _ (expr_fits c g b) (and_parts _ (same_scalar (type_of a) (type_of b)) h).0 in
      let two = and_parts (expr_fits c g q) (expr_fits c g a) three.0 in
      choice_in (lowered v q).known q a b (lowered v q) (lowered v a) (lowered v b) (expr_words q two.0) (expr_words a two.1) (expr_words b three.1)

  -- ---- arguments

  pub arguments_words :
      (es : List CoreExprTree) → exprs_fit c g es ≡ true → (t at : ℕ) → free ≤ t
      → code_words f free near (all_code (map (lowered v) es) t at) + sum_by (operand_words f) (all_operands (map (lowered v) es) t) ≤ all_taken_words es
  arguments_words [] h t at le = omega arith
  arguments_words (e ∷ es) h t at le =
      let two = and_parts (expr_fits c g e) (exprs_fit c g es) h in
      let d = lowered v e in
      let first = (expr_words e two.0).taken_fits t at le in
      let rest = arguments_words es two.1 (t + own d) (at + size_of d) (omega arith) in
      let w = words_both f free near (code_of d t at) (all_code (map (lowered v) es) (t + own d) (at + size_of d)) in
      let s = sum_by-cons (operand_words f) (operand_of d t) (all_operands (map (lowered v) es) (t + own d)) in
      omega arith
