-- The words of the code of expressions: at most those of core, where what holds their parts is in reach.
use Rattle.std.proofs.Common.{◌≡◌, ℕ, ◌+◌, ◌≤◌, Bool, true, false, List, [], ◌∷◌, ◌++◌, Option, Some, None, unwrap_or, refl, ap, arith}
use Rattle.std.specs.Prelude.{nat_lt, if◌then◌else◌, sum_by}
use Rattle.std.proofs.lemmas.List.Sums.{sum_by-cons, sum_by-append}
use Rattle.qs_memory.specs.declared.scalar.Scalar.{Scalar}
use Rattle.qs_memory.specs.declared.operation.Signedness.{Signedness}
use Rattle.qs_memory.specs.declared.operation.UnaryOperation.{UnaryOperation}
use Rattle.qs_memory.specs.declared.operation.BinaryOperation.{BinaryOperation}
use Rattle.qs_tac.specs.Trees.{InstructionTree, move, unary, binary, address_of, load, jump, branch, TacFunctionTree}
use Rattle.qs_tac.specs.Sizes.{reach, is_near, slot_words, constant_words, operand_words, base_words, offset_words, index_offset, address_words, operation_words, condition_words, instruction_words}
use Rattle.qs_tac.specs.Fits.{is_word}
use Rattle.qs_tac.specs.declared.operands.Operand.{Operand}
use Rattle.qs_tac.specs.declared.operands.Operand.TheVariants.{Temporary, Integer, Byte, Constant, Null, Local, Data}
use Rattle.qs_tac.specs.declared.operands.Condition.{Condition}
use Rattle.qs_tac.specs.declared.operands.Condition.TheVariants as conditions
use Rattle.qs_lower_expressions.specs.Exits.{Exit, falls, goes, settled, exit_code, opposite, branch_code}
use Rattle.qs_lower_expressions.specs.Operands.{converted, truth_of, swaps}
use Rattle.qs_lower_expressions.specs.Expressions.{IndexCode, ExprCode, size_of, code_of, operand_of, own, based, known_code, by_operand, by_value, number_of, by_test, index_at, address_at, of_load, further, behind_parts, behind, unindexed, indexed_by, by_address, of_unary_value, with_test, converting, converting_instruction, of_convert, pair_code, binary_instruction, of_binary_value, with_condition, of_both_tests, of_either_test, of_choice}
use Rattle.qs_lower_expressions.proofs.SimpleOperands.{IsThere}

-- where both exits are jumps
abbrev pub jumps : (met unmet : Exit) → ℕ
jumps (falls p) y = 0
jumps (goes p) (falls q) = 0
jumps (goes p) (goes q) = 1

module _ (f : TacFunctionTree) (free : ℕ) (near : (t : ℕ) → free ≤ t → is_near f t ≡ true) where
  abbrev pub code_words : List InstructionTree → ℕ
  code_words code = sum_by (instruction_words f) code

  pub words_both : (a b : List InstructionTree) → code_words (a ++ b) ≡ code_words a + code_words b
  words_both a b = sum_by-append (instruction_words f) a b

  pub words_cons : (i : InstructionTree) (code : List InstructionTree) → code_words (i ∷ code) ≡ instruction_words f i + code_words code
  words_cons i code = sum_by-cons (instruction_words f) i code

  pub words_last : (code : List InstructionTree) (i : InstructionTree) → code_words (code ++ i ∷ []) ≡ code_words code + instruction_words f i
  words_last code i = let e = words_both code (i ∷ []) in let d = words_cons i [] in omega arith

  -- ---- slots and operands

  slot_by : (b : Bool) → (if b then 1 else 3) ≤ 3
  slot_by true = omega arith
  slot_by false = omega arith

  pub slot_small : (t : ℕ) → slot_words f t ≤ 3
  slot_small t = slot_by (is_near f t)

  pub slot_near : (t : ℕ) → free ≤ t → slot_words f t ≡ 1
  slot_near t h = ap (λ (b : Bool). if b then 1 else 3) (near t h)

  constant_by : (b : Bool) → (if b then 1 else 2) ≤ 2
  constant_by true = omega arith
  constant_by false = omega arith

  pub constant_small : (n : ℕ) → constant_words n ≤ 2
  constant_small n = constant_by (nat_lt n reach)

  pub operand_small : (o : Operand) → operand_words f o ≤ 3
  operand_small (Temporary t) = slot_small t
  operand_small (Integer t) = slot_small t
  operand_small (Byte t) = slot_small t
  operand_small (Constant n) = omega (arith, constant_small n)
  operand_small Null = omega arith
  operand_small (Local i) = omega arith
  operand_small (Data i) = omega arith

  base_small : (o : Operand) → base_words f o ≤ operand_words f o
  base_small (Temporary t) = omega arith
  base_small (Integer t) = omega arith
  base_small (Byte t) = omega arith
  base_small (Constant n) = omega arith
  base_small Null = omega arith
  base_small (Local i) = omega arith
  base_small (Data i) = omega arith

  offset_by : (b : Bool) → (if b then 0 else 2) ≤ 2
  offset_by true = omega arith
  offset_by false = omega arith

  offset_small : (o : Operand) (n : ℕ) → offset_words o n ≤ 2
  offset_small (Temporary t) n = offset_by (nat_lt n reach)
  offset_small (Integer t) n = offset_by (nat_lt n reach)
  offset_small (Byte t) n = offset_by (nat_lt n reach)
  offset_small (Constant m) n = offset_by (nat_lt n reach)
  offset_small Null n = offset_by (nat_lt n reach)
  offset_small (Local i) n = omega arith
  offset_small (Data i) n = omega arith

  no_offset : (o : Operand) → offset_words o 0 ≡ 0
  no_offset (Temporary t) = refl
  no_offset (Integer t) = refl
  no_offset (Byte t) = refl
  no_offset (Constant m) = refl
  no_offset Null = refl
  no_offset (Local i) = refl
  no_offset (Data i) = refl

  -- ---- exits and branches

  pub exit_small : (x : Exit) → code_words (exit_code x) ≤ 1
  exit_small (falls p) = omega arith
  exit_small (goes p) = let e = words_cons (jump p) [] in omega arith

  condition_some : (c : Condition) → 2 ≤ condition_words f c
  condition_some (conditions.NotZero o) = omega arith
  condition_some (conditions.Zero o) = omega arith
  condition_some (conditions.Compare op s o p) = omega arith
  condition_some (conditions.ComparePointers op o p) = omega arith

  opposite_same : (c : Condition) → condition_words f (opposite c) ≡ condition_words f c
  opposite_same (conditions.NotZero o) = refl
  opposite_same (conditions.Zero o) = refl
  opposite_same (conditions.Compare op s o p) = refl
  opposite_same (conditions.ComparePointers op o p) = refl

  branch_small : (c : Condition) (x y : Exit) → code_words (branch_code c x y) ≤ condition_words f c + jumps x y
  branch_small c (falls p) (falls q) = let e = words_cons (branch c p) [] in omega arith
  branch_small c (falls p) (goes q) = let e = words_cons (branch (opposite c) q) [] in let o = opposite_same c in omega arith
  branch_small c (goes p) (falls q) = let e = words_cons (branch c p) [] in omega arith
  branch_small c (goes p) (goes q) = let e = words_cons (branch c p) (jump q ∷ []) in let d = words_cons (jump q) [] in omega arith

  known_small : (k : Option Bool) (code : List InstructionTree) (c : Condition) (x y : Exit) → code_words (known_code k code c x y) ≤ code_words code + condition_words f c + jumps x y
  known_small None code c x y = let e = words_both code (branch_code c x y) in let b = branch_small c x y in omega arith
  known_small (Some true) code c x y = let e = exit_small x in let s = condition_some c in omega arith
  known_small (Some false) code c x y = let e = exit_small y in let s = condition_some c in omega arith

  -- ---- what holds of the code of an expression

  -- computed and read; as an address; tested; assigned
  pub record Within (taken address tested assigned : ℕ) (c : ExprCode) : Type 0 where
    pub taken_fits : (t at : ℕ) → free ≤ t → code_words (code_of c t at) + operand_words f (operand_of c t) ≤ taken
    pub near_fits : (x t at : ℕ) → free ≤ x → free ≤ t → code_words (c.into x t at) ≤ taken + 1
    pub into_fits : (x t at : ℕ) → free ≤ t → code_words (c.into x t at) ≤ assigned
    pub address_fits : (t at : ℕ) → free ≤ t → code_words (c.base_code t at) + address_words f (address_at c t) ≤ address
    pub test_fits : (x y : Exit) (t at : ℕ) → free ≤ t → code_words (c.test x y t at) ≤ tested + jumps x y

  pub widened : {k a q s l b r u : ℕ} → (c : ExprCode) → k ≤ l → a ≤ b → q ≤ r → s ≤ u → Within k a q s c → Within l b r u c
  widened c i j m n h = record {
    taken_fits = λ t at le. let e = h.taken_fits t at le in omega arith;
    near_fits = λ x t at lx le. let e = h.near_fits x t at lx le in omega arith;
    into_fits = λ x t at le. let e = h.into_fits x t at le in omega arith;
    address_fits = λ t at le. let e = h.address_fits t at le in omega arith;
    test_fits = λ x y t at le. let e = h.test_fits x y t at le in omega arith;
  }

  -- ---- operands

  pub operand_within : {k a q s : ℕ} → (o : Operand) → operand_words f o ≤ k → operand_words f o ≤ a → operand_words f o + 2 ≤ q → operand_words f o + 3 ≤ s → Within k a q s (by_operand o)
  operand_within o i j m n = record {
    taken_fits = λ t at le. omega arith;
    near_fits = λ x t at lx le. let e = words_cons (move x o) [] in let p = slot_near x lx in omega arith;
    into_fits = λ x t at le. let e = words_cons (move x o) [] in let p = slot_small x in omega arith;
    address_fits = λ t at le. let b = base_small o in let z = no_offset o in omega arith;
    test_fits = λ x y t at le. let p = known_small (truth_of o) [] (conditions.NotZero o) x y in omega arith;
  }

  -- ---- values that code makes

  pub value_within :
      {k a q s : ℕ} → (size used : ℕ) (into : (x t at : ℕ) → List InstructionTree)
      → ((x t at : ℕ) → free ≤ x → free ≤ t → code_words (into x t at) + 1 ≤ k)
      → ((x t at : ℕ) → free ≤ t → code_words (into x t at) ≤ s)
      → k ≤ a → k + 2 ≤ q → Within k a q s (by_value size used into)
  value_within size used into h g i j = record {
    taken_fits = λ t at le. let e = h t t at le le in let p = slot_near t le in omega arith;
    near_fits = λ x t at lx le. let e = h x t at lx le in omega arith;
    into_fits = g;
    address_fits = λ t at le. let e = h t t at le le in let p = slot_near t le in omega arith;
    test_fits = λ x y t at le.
        let e = h t t at le le in
        let p = slot_near t le in
        let b = known_small None (into t t at) (conditions.NotZero (Temporary t)) x y in
        omega arith;
  }

  -- where the last instruction alone writes the value
  pub made_within :
      {k a q s : ℕ} → (m size used : ℕ) (into : (x t at : ℕ) → List InstructionTree)
      → ((x t at : ℕ) → free ≤ t → code_words (into x t at) ≤ m + slot_words f x)
      → m + 2 ≤ k → m + 3 ≤ s → k ≤ a → k + 2 ≤ q → Within k a q s (by_value size used into)
  made_within m size used into h i j l n =
      value_within size used into
      (λ x t at lx le. let e = h x t at le in let p = slot_near x lx in omega arith)
      (λ x t at le. let e = h x t at le in let p = slot_small x in omega arith)
      l n

  -- ---- addresses

  abbrev AddressWithin : ℕ → ExprCode → Type 0
  AddressWithin a p = (t at : ℕ) → free ≤ t → code_words (p.base_code t at) + address_words f (address_at p t) ≤ a

  pub load_within : {k a q s : ℕ} → (n : ℕ) (sort : Scalar) (p : ExprCode) → AddressWithin n p → n + 1 + 2 ≤ k → n + 1 + 3 ≤ s → k ≤ a → k + 2 ≤ q → Within k a q s (of_load sort p)
  load_within n sort p h i j l m =
      made_within (n + 1) (p.base_size + 1) p.base_used _
      (λ x t at le. let e = words_last (p.base_code t at) (load sort x (address_at p t)) in let b = h t at le in omega arith) i j l m

  pub by_address_within : {k q s : ℕ} → (n : ℕ) (p : ExprCode) → AddressWithin n p → n + 1 + 2 ≤ k → n + 1 + 3 ≤ s → k + 2 ≤ q → Within k n q s (by_address p)
  by_address_within {k} {q} {s} n p h i j m =
      let v : Within k k q s (by_value (p.base_size + 1) p.base_used (λ x t at. p.base_code t at ++ address_of x (address_at p t) ∷ [])) =
      made_within (n + 1) (p.base_size + 1) p.base_used _
      (λ x t at le. let e = words_last (p.base_code t at) (address_of x (address_at p t)) in let b = h t at le in omega arith) i j (omega arith) m in
      record { taken_fits = v.taken_fits; near_fits = v.near_fits; into_fits = v.into_fits; address_fits = h; test_fits = v.test_fits }

  based_address : (c : ExprCode) (n k : ℕ) → ((t at : ℕ) → free ≤ t → code_words (code_of c t at) + operand_words f (operand_of c t) ≤ k) → AddressWithin (k + 2) (record (based c) { offset = Some n })
  based_address c n k h t at le =
      let e = h t at le in
      let b = base_small (operand_of c t) in
      let o = offset_small (operand_of c t) (n + 0) in
      omega arith

  behind_address : (o : Option IndexCode) (c : ExprCode) (bytes k a m : ℕ) → c.index ≡ o → ((t at : ℕ) → free ≤ t → code_words (code_of c t at) + operand_words f (operand_of c t) ≤ k) → AddressWithin a c → k + 2 ≤ m → a + 2 ≤ m → AddressWithin m (behind_parts o c bytes)
  behind_address None c bytes k a m is h g i j t at le = by (is_word (further c.offset bytes))
    where
      by : (b : Bool) → code_words (ExprCode.base_code (if b then record c { offset = Some (further c.offset bytes) } else record (based c) { offset = Some bytes }) t at) + address_words f (address_at (if b then record c { offset = Some (further c.offset bytes) } else record (based c) { offset = Some bytes }) t) ≤ m
      by true = let e = g t at le in let o = offset_small (c.base t) (further c.offset bytes + index_offset (index_at c.index t)) in omega arith
      by false = let e = based_address c bytes k h t at le in omega arith
  behind_address (Some i) c bytes k a m is h g l j t at le = by (is_word (further i.offset bytes))
    where
      with_index : code_words (c.base_code t at) + (base_words f (c.base t) + (operand_words f (i.count t) + 4)) ≤ a
      with_index =
          let e = g t at le in
          let d : address_words f (address_at c t) ≡ address_words f (address_at (record c { index = Some i }) t) = ap (λ (o : Option IndexCode). address_words f (address_at (record c { index = o }) t)) is in
          omega arith

      by : (b : Bool) → code_words (ExprCode.base_code (if b then record c { index = Some (record i { offset = Some (further i.offset bytes) }) } else record (based c) { offset = Some bytes }) t at) + address_words f (address_at (if b then record c { index = Some (record i { offset = Some (further i.offset bytes) }) } else record (based c) { offset = Some bytes }) t) ≤ m
      by true = let e = with_index in let o = offset_small (c.base t) (unwrap_or c.offset 0 + further i.offset bytes) in omega arith
      by false = let e = based_address c bytes k h t at le in omega arith

  pub member_within : {k q s : ℕ} → (n : ℕ) (a : ExprCode) (bytes l b : ℕ) → ((t at : ℕ) → free ≤ t → code_words (code_of a t at) + operand_words f (operand_of a t) ≤ l) → AddressWithin b a → l + 2 ≤ n → b + 2 ≤ n → n + 1 + 2 ≤ k → n + 1 + 3 ≤ s → k + 2 ≤ q → Within k n q s (by_address (behind a bytes))
  member_within n a bytes l b h g i j m o p = by_address_within n (behind a bytes) (behind_address a.index a bytes l b n refl h g i j) m o p

  -- the address without an index, no more than the value
  unindexed_address : (o : Option IndexCode) (c : ExprCode) (k a : ℕ) → a ≤ k → ((t at : ℕ) → free ≤ t → code_words (code_of c t at) + operand_words f (operand_of c t) ≤ k) → AddressWithin a c → AddressWithin k (unindexed o c)
  unindexed_address None c k a i h g t at le = let e = g t at le in omega arith
  unindexed_address (Some j) c k a i h g t at le =
      let e = h t at le in
      let b = base_small (operand_of c t) in
      let z = no_offset (operand_of c t) in
      omega arith

  no_index : (o : Option IndexCode) (c : ExprCode) → c.index ≡ o → (unindexed o c).index ≡ None
  no_index None c is = is
  no_index (Some i) c is = refl

  indexed_address : (s : Signedness) (element : ℕ) (p b : ExprCode) (a k : ℕ) → p.index ≡ None → AddressWithin a p → ((t at : ℕ) → free ≤ t → code_words (code_of b t at) + operand_words f (operand_of b t) ≤ k) → AddressWithin (a + k + 4) (indexed_by s element p b)
  indexed_address s element p b a k is g h t at le =
      let e = g t at le in
      let d : address_words f (address_at p t) ≡ address_words f (address_at (record p { index = None }) t) = ap (λ (o : Option IndexCode). address_words f (address_at (record p { index = o }) t)) is in
      let m = h (t + p.base_own) (at + p.base_size) (omega arith) in
      let w = words_both (p.base_code t at) (code_of b (t + p.base_own) (at + p.base_size)) in
      omega arith

  pub element_within :
      {k q s : ℕ} → (n : ℕ) (sort : Signedness) (element : ℕ) (a b : ExprCode) (l i m : ℕ) → i ≤ l
      → ((t at : ℕ) → free ≤ t → code_words (code_of a t at) + operand_words f (operand_of a t) ≤ l) → AddressWithin i a
      → ((t at : ℕ) → free ≤ t → code_words (code_of b t at) + operand_words f (operand_of b t) ≤ m)
      → l + m + 4 ≤ n → n + 1 + 2 ≤ k → n + 1 + 3 ≤ s → k + 2 ≤ q → Within k n q s (by_address (indexed_by sort element (unindexed a.index a) b))
  element_within n sort element a b l i m less h g j fits p o r =
      by_address_within n (indexed_by sort element (unindexed a.index a) b)
      (λ t at le.
      let e = indexed_address sort element (unindexed a.index a) b l m (no_index a.index a refl) (unindexed_address a.index a l i less h g) j t at le in
      omega arith) p o r

  -- ---- operations

  abbrev TakenWithin : ℕ → ExprCode → Type 0
  TakenWithin k c = (t at : ℕ) → free ≤ t → code_words (code_of c t at) + operand_words f (operand_of c t) ≤ k

  pub unary_value_within : {k a q s : ℕ} → (op : UnaryOperation) (c : ExprCode) (m : ℕ) → TakenWithin m c → m + 1 + 2 ≤ k → m + 1 + 3 ≤ s → k ≤ a → k + 2 ≤ q → Within k a q s (of_unary_value op c)
  unary_value_within op c m h i j l n =
      made_within (m + 1) _ _ _ (λ x t at le. let e = words_last (code_of c t at) (unary op x (operand_of c t)) in let b = h t at le in omega arith) i j l n

  pub with_test_within : {k a q s : ℕ} → (c : ExprCode) (size : (met unmet : Bool) → ℕ) (test : (met unmet : Exit) → (t at : ℕ) → List InstructionTree) (used r : ℕ)
      → ((x y : Exit) (t at : ℕ) → free ≤ t → code_words (test x y t at) ≤ q + jumps x y) → Within k a r s c → Within k a q s (with_test c size test used)
  with_test_within c size test used r g h = record { taken_fits = h.taken_fits; near_fits = h.near_fits; into_fits = h.into_fits; address_fits = h.address_fits; test_fits = g }

  converting_small : (read : Option Operand) (s : Scalar) (x : ℕ) (o : Operand) → IsThere read → ((p : Operand) → read ≡ Some p → operand_words f p ≤ operand_words f o) → instruction_words f (converting read s x o) ≤ operand_words f o + slot_words f x
  converting_small None s x o there less = absurd there
  converting_small (Some p) s x o there less = let e = less p refl in omega arith

  pub convert_within :
      {k a q s : ℕ} → (sort : Scalar) (c : ExprCode) (m : ℕ) → TakenWithin m c → ((t : ℕ) → IsThere (converted sort (operand_of c t)))
      → ((o p : Operand) → converted sort o ≡ Some p → operand_words f p ≤ operand_words f o)
      → m + 2 ≤ k → m + 3 ≤ s → k ≤ a → k + 2 ≤ q → Within k a q s (of_convert sort c)
  convert_within sort c m h there less i j l n =
      made_within m _ _ _
      (λ x t at le.
      let e = words_last (code_of c t at) (converting_instruction sort x (operand_of c t)) in
      let d = converting_small (converted sort (operand_of c t)) sort x (operand_of c t) (there t) (less (operand_of c t)) in
      let b = h t at le in
      omega arith) i j l n

  -- two operands
  pub pair_words : (a b : ExprCode) (m n : ℕ) → TakenWithin m a → TakenWithin n b → (t at : ℕ) → free ≤ t
      → code_words (pair_code a b t at) + operand_words f (operand_of a t) + operand_words f (operand_of b (t + own a)) ≤ m + n
  pair_words a b m n h k t at le =
      let e = h t at le in
      let d = k (t + own a) (at + size_of a) (omega arith) in
      let w = words_both (code_of a t at) (code_of b (t + own a) (at + size_of a)) in
      omega arith

  swapped_words : (z : Bool) (op : BinaryOperation) (x : ℕ) (o p : Operand) → instruction_words f (if z then binary op x p o else binary op x o p) ≡ operand_words f o + operand_words f p + operation_words op + slot_words f x
  swapped_words true op x o p = omega arith
  swapped_words false op x o p = refl

  pub binary_value_within : {k a q s : ℕ} → (op : BinaryOperation) (c d : ExprCode) (m n : ℕ) → TakenWithin m c → TakenWithin n d
      → m + n + operation_words op + 2 ≤ k → m + n + operation_words op + 3 ≤ s → k ≤ a → k + 2 ≤ q → Within k a q s (of_binary_value op c d)
  binary_value_within op c d m n h g i j l r =
      made_within (m + n + operation_words op) _ _ _
      (λ x t at le.
      let e = words_last (pair_code c d t at) (binary_instruction op x (operand_of c t) (operand_of d (t + own c))) in
      let w = swapped_words (swaps op (operand_of c t)) op x (operand_of c t) (operand_of d (t + own c)) in
      let p = pair_words c d m n h g t at le in
      omega arith) i j l r

  pub with_condition_within : {k a q s : ℕ} → (c : ExprCode) (w : Operand → Operand → Condition) (b d : ExprCode) (m n r : ℕ)
      → ((o p : Operand) → condition_words f (w o p) ≤ operand_words f o + operand_words f p + 2) → TakenWithin m b → TakenWithin n d → m + n + 2 ≤ q
      → Within k a r s c → Within k a q s (with_condition c w b d)
  with_condition_within c w b d m n r few h g i v =
      with_test_within c _ _ _ r
      (λ x y t at le.
      let e = words_both (pair_code b d t at) (branch_code (w (operand_of b t) (operand_of d (t + own b))) x y) in
      let u = branch_small (w (operand_of b t) (operand_of d (t + own b))) x y in
      let z = few (operand_of b t) (operand_of d (t + own b)) in
      let p = pair_words b d m n h g t at le in
      omega arith) v

  -- ---- `&&`, `||`, `?:`

  abbrev TestWithin : ℕ → ((met unmet : Exit) → (t at : ℕ) → List InstructionTree) → Type 0
  TestWithin q test = (x y : Exit) (t at : ℕ) → free ≤ t → code_words (test x y t at) ≤ q + jumps x y

  answer_words : (x n m : ℕ) → code_words (move x (Constant 1) ∷ jump n ∷ move x (Constant 0) ∷ []) ≡ 3 + slot_words f x + slot_words f x
  answer_words x n m =
      let a = words_cons (move x (Constant 1)) (jump n ∷ move x (Constant 0) ∷ []) in
      let b = words_cons (jump n) (move x (Constant 0) ∷ []) in
      let c = words_cons (move x (Constant 0)) [] in
      omega arith

  pub by_test_within : {k a s : ℕ} → (used q : ℕ) (size : (met unmet : Bool) → ℕ) (test : (met unmet : Exit) → (t at : ℕ) → List InstructionTree) → TestWithin q test
      → q + 6 ≤ k → q + 9 ≤ s → k ≤ a → Within k a q s (by_test used size test)
  by_test_within {k} {a} {s} used q size test h i j l =
      let v : Within k a (k + 2) s (by_value (size true false + 3) used (number_of size test)) =
      value_within _ _ (number_of size test)
      (λ x t at lx le.
      let e = number x t at le in
      let p = slot_near x lx in
      omega arith)
      (λ x t at le.
      let e = number x t at le in
      let p = slot_small x in
      omega arith)
      l (omega arith) in
      record { taken_fits = v.taken_fits; near_fits = v.near_fits; into_fits = v.into_fits; address_fits = v.address_fits; test_fits = h }
    where
      number : (x t at : ℕ) → free ≤ t → code_words (number_of size test x t at) ≤ q + 3 + slot_words f x + slot_words f x
      number x t at le =
          let met : ℕ = at + size true false in
          let e = words_both (test (falls met) (goes (met + 2)) t at) (move x (Constant 1) ∷ jump (met + 2 + 1) ∷ move x (Constant 0) ∷ []) in
          let b = answer_words x (met + 2 + 1) 0 in
          let c = h (falls met) (goes (met + 2)) t at le in
          omega arith

  pub both_tests_within : {k a s : ℕ} → (c d : ExprCode) (m n q : ℕ) → TestWithin m c.test → TestWithin n d.test → m + n ≤ q → q + 6 ≤ k → q + 9 ≤ s → k ≤ a → Within k a q s (of_both_tests c d)
  both_tests_within c d m n q h g r i j l =
      by_test_within _ q _ _
      (λ x y t at le.
      let second : ℕ = at + c.test_size true false in
      let e = words_both (c.test (falls second) (settled y) t at) (d.test x y t second) in
      let b = h (falls second) (settled y) t at le in
      let u = g x y t second le in
      omega arith) i j l

  settled_jumps : (x : Exit) (n : ℕ) → jumps (settled x) (falls n) ≡ 0
  settled_jumps (falls p) n = refl
  settled_jumps (goes p) n = refl

  pub either_test_within : {k a s : ℕ} → (c d : ExprCode) (m n q : ℕ) → TestWithin m c.test → TestWithin n d.test → m + n ≤ q → q + 6 ≤ k → q + 9 ≤ s → k ≤ a → Within k a q s (of_either_test c d)
  either_test_within c d m n q h g r i j l =
      by_test_within _ q _ _
      (λ x y t at le.
      let second : ℕ = at + c.test_size false true in
      let e = words_both (c.test (settled x) (falls second) t at) (d.test x y t second) in
      let b = h (settled x) (falls second) t at le in
      let z = settled_jumps x second in
      let u = g x y t second le in
      omega arith) i j l

  pub choice_within :
      {k a q s : ℕ} → (c d e : ExprCode) (r m n i j : ℕ) → TestWithin r c.test
      → ((x t at : ℕ) → free ≤ x → free ≤ t → code_words (d.into x t at) ≤ m + 1) → ((x t at : ℕ) → free ≤ t → code_words (d.into x t at) ≤ i)
      → ((x t at : ℕ) → free ≤ x → free ≤ t → code_words (e.into x t at) ≤ n + 1) → ((x t at : ℕ) → free ≤ t → code_words (e.into x t at) ≤ j)
      → r + (m + 1) + 1 + (n + 1) + 1 ≤ k → r + i + 1 + j ≤ s → k ≤ a → k + 2 ≤ q → Within k a q s (of_choice c d e)
  choice_within c d e r m n i j test near_d far_d near_e far_e fits far l p =
      value_within _ _ _
      (λ x t at lx le.
      let first : ℕ = at + c.test_size true false in
      let second : ℕ = first + d.size + 1 in
      let w = chosen x t at le in
      let b = near_d x t first lx le in
      let u = near_e x t second lx le in
      omega arith)
      (λ x t at le.
      let first : ℕ = at + c.test_size true false in
      let second : ℕ = first + d.size + 1 in
      let w = chosen x t at le in
      let b = far_d x t first le in
      let u = far_e x t second le in
      omega arith)
      l p
    where
      chosen : (x t at : ℕ) → free ≤ t → code_words ((of_choice c d e).into x t at) ≤ r + code_words (d.into x t (at + c.test_size true false)) + 1 + code_words (e.into x t (at + c.test_size true false + d.size + 1))
      chosen x t at le =
          let first : ℕ = at + c.test_size true false in
          let second : ℕ = first + d.size + 1 in
          let w = words_both (c.test (falls first) (goes second) t at) (d.into x t first ++ jump (second + e.size) ∷ e.into x t second) in
          let y = words_both (d.into x t first) (jump (second + e.size) ∷ e.into x t second) in
          let z = words_cons (jump (second + e.size)) (e.into x t second) in
          let b = test (falls first) (goes second) t at le in
          omega arith
