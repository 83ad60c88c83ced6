-- The code of expressions fits: it names temporaries and blocks that there are, its numbers are in range, and its jumps
-- lead into the code.
use Rattle.std.proofs.Common.{◌≡◌, ℕ, ◌+◌, ◌<◌, ◌≤◌, max, Bool, true, false, List, [], ◌∷◌, ◌++◌, length, Option, Some, None, refl, subst, arith}
use Rattle.std.specs.Prelude.{◌&&◌, nat_lt, if◌then◌else◌}
use Rattle.std.specs.List.{list_all}
use Rattle.std.proofs.lemmas.Bool.Decides.{nat_tests}
use Rattle.qs_memory.specs.Partial.{◌>>=◌}
use Rattle.qs_memory.specs.Sizes.{is_element}
use Rattle.qs_memory.specs.declared.scalar.Scalar.{Scalar}
use Rattle.qs_memory.specs.declared.operation.Signedness.{Signedness}
use Rattle.qs_memory.specs.declared.operation.Direction.TheVariants.{Up, Down}
use Rattle.qs_memory.specs.declared.operation.UnaryOperation.{UnaryOperation}
use Rattle.qs_memory.specs.declared.operation.UnaryOperation.TheVariants as unaries
use Rattle.qs_memory.specs.declared.operation.BinaryOperation.{BinaryOperation}
use Rattle.qs_memory.specs.declared.operation.BinaryOperation.TheVariants as binaries
use Rattle.qs_core.proofs.FitLaws.{both}
use Rattle.qs_tac.specs.Trees.{InstructionTree, move, unary, binary, address_of, load, jump, branch, TacFunctionTree, TacUnitTree}
use Rattle.qs_tac.specs.declared.operands.Operand.{Operand}
use Rattle.qs_tac.specs.declared.operands.Operand.TheVariants.{Constant}
use Rattle.qs_tac.specs.declared.operands.Condition.{Condition}
use Rattle.qs_tac.specs.declared.operands.Condition.TheVariants as conditions
use Rattle.qs_tac.specs.Fits.{is_word, operand_fits, option_fits, offset_fits, index_fits, address_fits, condition_fits, operation_fits, instruction_fits}
use Rattle.qs_lower_expressions.specs.Exits.{Exit, falls, goes, is_fall, place_of, settled, exit_code, opposite, branch_size, branch_code}
use Rattle.qs_lower_expressions.specs.Operands.{converted, truth_of, truth_operand, swaps}
use Rattle.qs_lower_expressions.specs.Expressions.{IndexCode, ExprCode, simple_size, size_of, simple_code, code_of, simple_operand, operand_of, own, used_by, based, known_size, known_code, tested, no_code, by_operand, by_value, number_of, by_test, index_at, address_at, of_load, further, behind_parts, behind, unindexed, indexed_by, by_address, of_member, of_element, of_unary_value, with_test, of_truth, of_plus, of_compound, simple_or, converting, converting_instruction, of_convert, pair_size, pair_code, pair_used, binary_instruction, of_binary_value, with_condition, of_operation, stepped_or, both_size, of_both_tests, either_size, of_either_test, of_choice, of_and, of_or, of_conditional}

pub together : {a b : Bool} → a ≡ true → b ≡ true → (a && b) ≡ true
together {a = true} h k = k
together {a = false} h k = cc

pub below : {a b : ℕ} → a < b → nat_lt a b ≡ true
below h = grind (arith, nat_tests, h)

branch_some : (met unmet : Bool) → 1 ≤ branch_size met unmet
branch_some true unmet = omega arith
branch_some false true = omega arith
branch_some false false = omega arith

module _ (u : TacUnitTree) (f : TacFunctionTree) where
  abbrev pub Fit : List InstructionTree → Type 0
  Fit code = list_all (instruction_fits u f) code ≡ true

  pub fit_cons : (i : InstructionTree) (code : List InstructionTree) → instruction_fits u f i ≡ true → Fit code → Fit (i ∷ code)
  fit_cons i code h k = together h k

  pub fit_one : (i : InstructionTree) → instruction_fits u f i ≡ true → Fit (i ∷ [])
  fit_one i h = fit_cons i [] h refl

  pub fit_both : (a b : List InstructionTree) → Fit a → Fit b → Fit (a ++ b)
  fit_both [] b h k = k
  fit_both (i ∷ a) b h k =
      let two = both (instruction_fits u f i) (list_all (instruction_fits u f) a) h in fit_cons i (a ++ b) two.0 (fit_both a b two.1 k)

  -- ---- exits

  -- an exit of code that ends here leads into the code, and where it falls something stands behind
  abbrev pub Lands : Exit → (end : ℕ) → Type 0
  Lands (falls p) end = (p < length f.code) × (end < length f.code)
  Lands (goes p) end = p < length f.code

  pub place_in : (x : Exit) (end : ℕ) → Lands x end → place_of x < length f.code
  place_in (falls p) end h = h.0
  place_in (goes p) end h = h

  -- where it falls something stands behind
  abbrev pub Behind : Exit → (end : ℕ) → Type 0
  Behind (falls p) end = end < length f.code
  Behind (goes p) end = Unit {0}

  pub lands_behind : (x : Exit) (end : ℕ) → Lands x end → Behind x end
  lands_behind (falls p) end h = h.1
  lands_behind (goes p) end h = tt

  pub lands_at : (x : Exit) (m n : ℕ) → m ≡ n → Lands x m → Lands x n
  lands_at x m n e h = subst (λ (k : ℕ). Lands x k) e h

  pub settled_lands : (x : Exit) (m n : ℕ) → Lands x m → Lands (settled x) n
  settled_lands (falls p) m n h = h.0
  settled_lands (goes p) m n h = h

  pub exit_fits : (x : Exit) (end : ℕ) → Lands x end → Fit (exit_code x)
  exit_fits (falls p) end h = refl
  exit_fits (goes p) end h = fit_one (jump p) (below h)

  opposite_fits : (c : Condition) → condition_fits u f c ≡ true → condition_fits u f (opposite c) ≡ true
  opposite_fits (conditions.NotZero o) h = h
  opposite_fits (conditions.Zero o) h = h
  opposite_fits (conditions.Compare op s o p) h = h
  opposite_fits (conditions.ComparePointers op o p) h = h

  branch_fits : (c : Condition) (x y : Exit) → condition_fits u f c ≡ true → place_of x < length f.code → place_of y < length f.code → Fit (branch_code c x y)
  branch_fits c (falls p) (falls q) h met unmet = fit_one (branch c p) (together h (below met))
  branch_fits c (falls p) (goes q) h met unmet = fit_one (branch (opposite c) q) (together (opposite_fits c h) (below unmet))
  branch_fits c (goes p) (falls q) h met unmet = fit_one (branch c p) (together h (below met))
  branch_fits c (goes p) (goes q) h met unmet =
      fit_cons (branch c p) (jump q ∷ []) (together h (below met)) (fit_one (jump q) (below unmet))

  -- where a test is made there is code
  pub test_starts :
      (size : (met unmet : Bool) → ℕ) (x y : Exit) (at : ℕ) → 1 ≤ size false false → at + size (is_fall x) (is_fall y) ≤ length f.code
      → Behind x (at + size (is_fall x) (is_fall y)) → Behind y (at + size (is_fall x) (is_fall y)) → at < length f.code
  test_starts size (falls p) y at some room met unmet = omega (arith, met)
  test_starts size (goes p) (falls q) at some room met unmet = omega (arith, unmet)
  test_starts size (goes p) (goes q) at some room met unmet = omega arith

  -- ---- what holds of the code of an expression

  abbrev IntoFits : ExprCode → Type 0
  IntoFits c = (x t at : ℕ) → x < f.temporaries → t + c.used ≤ f.temporaries → at + c.size < length f.code → Fit (c.into x t at)

  abbrev TestFits : (used : ℕ) → (size : (met unmet : Bool) → ℕ) → (test : (met unmet : Exit) → (t at : ℕ) → List InstructionTree) → Type 0
  TestFits used size test =
      (x y : Exit) (t at : ℕ) → t + used ≤ f.temporaries → at + size (is_fall x) (is_fall y) ≤ length f.code
      → Lands x (at + size (is_fall x) (is_fall y)) → Lands y (at + size (is_fall x) (is_fall y)) → Fit (test x y t at)

  pub record ExprFits (c : ExprCode) : Type 0 where
    pub simple : option_fits u f c.simple ≡ true
    pub into : IntoFits c
    pub base_code : (t at : ℕ) → t + c.base_used ≤ f.temporaries → at + c.base_size < length f.code → Fit (c.base_code t at)
    pub base : (t : ℕ) → t + c.base_used ≤ f.temporaries → operand_fits u f (c.base t) ≡ true
    pub offset : offset_fits c.offset ≡ true
    pub index : (t : ℕ) → t + c.base_used ≤ f.temporaries → index_fits u f (index_at c.index t) ≡ true
    pub test : TestFits c.test_used c.test_size c.test
    pub some_test : 1 ≤ c.test_size false false

  -- ---- operands

  code_fits : (c : ExprCode) → IntoFits c → (t at : ℕ) → t + used_by c ≤ f.temporaries → at + size_of c < length f.code → Fit (code_of c t at)
  code_fits c h t at used there = by_simple c.simple used there
    where
      by_simple : (o : Option Operand) → t + simple_size o (max 1 c.used) ≤ f.temporaries → at + simple_size o c.size < length f.code → Fit (simple_code o (c.into t t at))
      by_simple None used there = h t t at (omega arith) (omega arith) there
      by_simple (Some o) used there = refl

  operand_fit : (c : ExprCode) → option_fits u f c.simple ≡ true → (t : ℕ) → t + used_by c ≤ f.temporaries → operand_fits u f (operand_of c t) ≡ true
  operand_fit c h t used = by_simple c.simple h used
    where
      by_simple : (o : Option Operand) → option_fits u f o ≡ true → t + simple_size o (max 1 c.used) ≤ f.temporaries → operand_fits u f (simple_operand o t) ≡ true
      by_simple None h used = let there : t < f.temporaries = omega arith in below there
      by_simple (Some o) h used = h

  pub code_of_fits : (c : ExprCode) → ExprFits c → (t at : ℕ) → t + used_by c ≤ f.temporaries → at + size_of c < length f.code → Fit (code_of c t at)
  code_of_fits c h t at used there = code_fits c h.into t at used there

  pub operand_of_fits : (c : ExprCode) → ExprFits c → (t : ℕ) → t + used_by c ≤ f.temporaries → operand_fits u f (operand_of c t) ≡ true
  operand_of_fits c h t used = operand_fit c h.simple t used

  known_fits :
      (k : Option Bool) (code : List InstructionTree) (q : Condition) (x y : Exit) (at n : ℕ)
      → at + known_size k n (is_fall x) (is_fall y) ≤ length f.code
      → Lands x (at + known_size k n (is_fall x) (is_fall y)) → Lands y (at + known_size k n (is_fall x) (is_fall y))
      → (at + n < length f.code → Fit code) → condition_fits u f q ≡ true → Fit (known_code k code q x y)
  known_fits None code q x y at n room met unmet h c =
      let some = branch_some (is_fall x) (is_fall y) in
      fit_both code (branch_code q x y) (h (omega (arith, some))) (branch_fits q x y c (place_in x _ met) (place_in y _ unmet))
  known_fits (Some true) code q x y at n room met unmet h c = exit_fits x _ met
  known_fits (Some false) code q x y at n room met unmet h c = exit_fits y _ unmet

  known_some : (k : Option Bool) (n : ℕ) → 1 ≤ known_size k n false false
  known_some None n = omega arith
  known_some (Some true) n = omega arith
  known_some (Some false) n = omega arith

  value_fits : (c : ExprCode) → option_fits u f c.simple ≡ true → IntoFits c → ExprFits (tested (based c))
  value_fits c s h = record {
    simple = s;
    into = h;
    base_code = λ t at used there. code_fits c h t at used there;
    base = λ t used. operand_fit c s t used;
    offset = refl;
    index = λ t used. refl;
    test = λ x y t at used room met unmet.
        known_fits (c.simple >>= truth_of) (code_of c t at) (conditions.NotZero (operand_of c t)) x y at (size_of c) room met unmet
        (λ there. code_fits c h t at used there) (operand_fit c s t used);
    some_test = known_some (c.simple >>= truth_of) (size_of c);
  }

  based_fits : (c : ExprCode) → ExprFits c → ExprFits (based c)
  based_fits c h = record {
    simple = h.simple;
    into = h.into;
    base_code = λ t at used there. code_fits c h.into t at used there;
    base = λ t used. operand_fit c h.simple t used;
    offset = refl;
    index = λ t used. refl;
    test = h.test;
    some_test = h.some_test;
  }

  pub operand_fits_all : (o : Operand) → operand_fits u f o ≡ true → ExprFits (by_operand o)
  operand_fits_all o h =
      value_fits (record no_code { simple = Some o; size = 1; into = λ x t at. move x o ∷ [] }) h
      (λ x t at there used room. fit_one (move x o) (together (below there) h))

  by_value_fits : (size used : ℕ) (into : (x t at : ℕ) → List InstructionTree)
      → ((x t at : ℕ) → x < f.temporaries → t + used ≤ f.temporaries → at + size < length f.code → Fit (into x t at))
      → ExprFits (by_value size used into)
  by_value_fits size used into h = value_fits (record no_code { size = size; into = into; used = used }) refl h

  number_fits : (used : ℕ) (size : (met unmet : Bool) → ℕ) (test : (met unmet : Exit) → (t at : ℕ) → List InstructionTree) → TestFits used size test
      → (x t at : ℕ) → x < f.temporaries → t + used ≤ f.temporaries → at + (size true false + 3) < length f.code → Fit (number_of size test x t at)
  number_fits used size test h x t at there used_fits room =
      let met : ℕ = at + size true false in
      let met_in : met < length f.code = omega (arith, room) in
      let unmet_in : met + 2 < length f.code = omega (arith, room) in
      let end_in : met + 2 + 1 < length f.code = omega (arith, room) in
      fit_both (test (falls met) (goes (met + 2)) t at) (move x (Constant 1) ∷ jump (met + 2 + 1) ∷ move x (Constant 0) ∷ [])
      (h (falls met) (goes (met + 2)) t at used_fits (omega (arith, room)) (met_in, met_in) unmet_in)
      (fit_cons (move x (Constant 1)) (jump (met + 2 + 1) ∷ move x (Constant 0) ∷ []) (together (below there) refl)
      (fit_cons (jump (met + 2 + 1)) (move x (Constant 0) ∷ []) (below end_in)
      (fit_one (move x (Constant 0)) (together (below there) refl))))

  by_test_fits : (used : ℕ) (size : (met unmet : Bool) → ℕ) (test : (met unmet : Exit) → (t at : ℕ) → List InstructionTree)
      → 1 ≤ size false false → TestFits used size test → ExprFits (by_test used size test)
  by_test_fits used size test some h =
      let v = by_value_fits (size true false + 3) used (number_of size test) (number_fits used size test h) in
      record { simple = v.simple; into = v.into; base_code = v.base_code; base = v.base; offset = v.offset; index = v.index; test = h; some_test = some }

  -- ---- loads and addresses

  pub address_at_fits : (p : ExprCode) → ExprFits p → (t : ℕ) → t + p.base_used ≤ f.temporaries → address_fits u f (address_at p t) ≡ true
  address_at_fits p h t used = together (together (h.base t used) (h.index t used)) h.offset

  pub load_fits : (s : Scalar) (p : ExprCode) → ExprFits p → ExprFits (of_load s p)
  load_fits s p h =
      by_value_fits (p.base_size + 1) p.base_used _
      (λ x t at there used room.
      fit_both (p.base_code t at) _ (h.base_code t at used (omega (arith, room)))
      (fit_one (load s x (address_at p t)) (together (below there) (address_at_fits p h t used))))

  with_offset : (p : ExprCode) (n : ℕ) → is_word n ≡ true → ExprFits p → ExprFits (record p { offset = Some n })
  with_offset p n w h = record {
    simple = h.simple;
    into = h.into;
    base_code = h.base_code;
    base = h.base;
    offset = w;
    index = h.index;
    test = h.test;
    some_test = h.some_test;
  }

  with_index : (p : ExprCode) (i : IndexCode) (n : ℕ) → p.index ≡ Some i → is_word n ≡ true → ExprFits p → ExprFits (record p { index = Some (record i { offset = Some n }) })
  with_index p i n is w h = record {
    simple = h.simple;
    into = h.into;
    base_code = h.base_code;
    base = h.base;
    offset = h.offset;
    index = λ t used.
        let whole : (operand_fits u f (i.count t) && is_element i.element && offset_fits i.offset) ≡ true =
        subst (λ (o : Option IndexCode). index_fits u f (index_at o t) ≡ true) is (h.index t used) in
        together (both _ (offset_fits i.offset) whole).0 w;
    test = h.test;
    some_test = h.some_test;
  }

  behind_none : (p : ExprCode) (bytes : ℕ) (b : Bool) → is_word (further p.offset bytes) ≡ b → is_word bytes ≡ true → ExprFits p
      → ExprFits (if b then record p { offset = Some (further p.offset bytes) } else record (based p) { offset = Some bytes })
  behind_none p bytes true is w h = with_offset p _ is h
  behind_none p bytes false is w h = with_offset (based p) bytes w (based_fits p h)

  behind_some : (p : ExprCode) (i : IndexCode) (bytes : ℕ) (b : Bool) → p.index ≡ Some i → is_word (further i.offset bytes) ≡ b → is_word bytes ≡ true → ExprFits p
      → ExprFits (if b then record p { index = Some (record i { offset = Some (further i.offset bytes) }) } else record (based p) { offset = Some bytes })
  behind_some p i bytes true has is w h = with_index p i _ has is h
  behind_some p i bytes false has is w h = with_offset (based p) bytes w (based_fits p h)

  behind_fits : (p : ExprCode) (bytes : ℕ) → is_word bytes ≡ true → ExprFits p → ExprFits (behind p bytes)
  behind_fits p bytes w h = by_index p.index refl
    where
      by_index : (o : Option IndexCode) → p.index ≡ o → ExprFits (behind_parts o p bytes)
      by_index None is = behind_none p bytes _ refl w h
      by_index (Some i) is = behind_some p i bytes _ is refl w h

  unindexed_fits : (o : Option IndexCode) (p : ExprCode) → ExprFits p → ExprFits (unindexed o p)
  unindexed_fits None p h = h
  unindexed_fits (Some i) p h = based_fits p h

  address_fits_all : (p : ExprCode) → ExprFits p → ExprFits (by_address p)
  address_fits_all p h =
      let v = by_value_fits (p.base_size + 1) p.base_used (λ x t at. p.base_code t at ++ address_of x (address_at p t) ∷ [])
      (λ x t at there used room.
      fit_both (p.base_code t at) _ (h.base_code t at used (omega (arith, room)))
      (fit_one (address_of x (address_at p t)) (together (below there) (address_at_fits p h t used)))) in
      record { simple = v.simple; into = v.into; base_code = h.base_code; base = h.base; offset = h.offset; index = h.index; test = v.test; some_test = v.some_test }

  pub member_fits : (a : ExprCode) (bytes : ℕ) → is_word bytes ≡ true → ExprFits a → ExprFits (of_member bytes a)
  member_fits a bytes w h = address_fits_all (behind a bytes) (behind_fits a bytes w h)

  indexed_fits : (s : Signedness) (element : ℕ) (p b : ExprCode) → is_element element ≡ true → ExprFits p → ExprFits b → ExprFits (indexed_by s element p b)
  indexed_fits s element p b e h k = record {
    simple = h.simple;
    into = h.into;
    base_code = λ t at used there.
        fit_both (p.base_code t at) _ (h.base_code t at (omega (arith, used)) (omega (arith, there)))
        (code_of_fits b k (t + p.base_own) (at + p.base_size) (omega (arith, used)) (omega (arith, there)));
    base = λ t used. h.base t (omega (arith, used));
    offset = h.offset;
    index = λ t used. together (together (operand_of_fits b k (t + p.base_own) (omega (arith, used))) e) refl;
    test = h.test;
    some_test = h.some_test;
  }

  element_fits : (s : Signedness) (element : ℕ) (a b : ExprCode) → is_element element ≡ true → ExprFits a → ExprFits b → ExprFits (of_element s element a b)
  element_fits s element a b e h k =
      address_fits_all _ (indexed_fits s element (unindexed a.index a) b e (unindexed_fits a.index a h) k)

  -- ---- operations

  unary_value_fits : (op : UnaryOperation) (a : ExprCode) → ExprFits a → ExprFits (of_unary_value op a)
  unary_value_fits op a h =
      by_value_fits (size_of a + 1) (used_by a) _
      (λ x t at there used room.
      fit_both (code_of a t at) _ (code_of_fits a h t at used (omega (arith, room)))
      (fit_one (unary op x (operand_of a t)) (together (below there) (operand_of_fits a h t used))))

  with_test_fits : (c : ExprCode) (size : (met unmet : Bool) → ℕ) (test : (met unmet : Exit) → (t at : ℕ) → List InstructionTree) (used : ℕ)
      → ExprFits c → 1 ≤ size false false → TestFits used size test → ExprFits (with_test c size test used)
  with_test_fits c size test used h some k = record {
    simple = h.simple;
    into = h.into;
    base_code = h.base_code;
    base = h.base;
    offset = h.offset;
    index = h.index;
    test = k;
    some_test = some;
  }

  truth_fits : (j : Bool) (a : ExprCode) → ExprFits a → ExprFits (of_truth j a)
  truth_fits true a h = h
  truth_fits false a h = with_test_fits _ _ _ _ (unary_value_fits unaries.Truth a h) h.some_test h.test

  plus_fits : (i : Bool) (s : Signedness) (a : ExprCode) → ExprFits a → ExprFits (of_plus i s a)
  plus_fits true s a h = h
  plus_fits false s a h = unary_value_fits (unaries.Plus s) a h

  pub compound_fits : (op : UnaryOperation) (i j : Bool) (a : ExprCode) → ExprFits a → ExprFits (of_compound op i j a)
  compound_fits (unaries.Plus s) i j a h = plus_fits i s a h
  compound_fits (unaries.Minus s) i j a h = unary_value_fits (unaries.Minus s) a h
  compound_fits (unaries.Complement s) i j a h = unary_value_fits (unaries.Complement s) a h
  compound_fits unaries.Not i j a h =
      with_test_fits _ _ _ _ (unary_value_fits unaries.Not a h) h.some_test (λ x y t at used room met unmet. h.test y x t at used room unmet met)
  compound_fits unaries.Truth i j a h = truth_fits j a h

  pub simple_or_fits : (o : Option Operand) (c : ExprCode) → option_fits u f o ≡ true → ExprFits c → ExprFits (simple_or o c)
  simple_or_fits None c s h = h
  simple_or_fits (Some o) c s h = operand_fits_all o s

  pub if_fits : (b : Bool) (c d : ExprCode) → ExprFits c → ExprFits d → ExprFits (if b then c else d)
  if_fits true c d h k = h
  if_fits false c d h k = k

  converting_fits : (read : Option Operand) (s : Scalar) (x : ℕ) (o : Operand) → x < f.temporaries → option_fits u f read ≡ true → operand_fits u f o ≡ true
      → instruction_fits u f (converting read s x o) ≡ true
  converting_fits (Some p) s x o there h k = together (below there) h
  converting_fits None s x o there h k = together (below there) k

  pub convert_fits : (s : Scalar) (a : ExprCode) → ((o : Operand) → operand_fits u f o ≡ true → option_fits u f (converted s o) ≡ true) → ExprFits a
      → ExprFits (of_convert s a)
  convert_fits s a c h =
      by_value_fits (size_of a + 1) (used_by a) _
      (λ x t at there used room.
      fit_both (code_of a t at) _ (code_of_fits a h t at used (omega (arith, room)))
      (fit_one (converting_instruction s x (operand_of a t))
      (converting_fits (converted s (operand_of a t)) s x (operand_of a t) there (c (operand_of a t) (operand_of_fits a h t used)) (operand_of_fits a h t used))))

  pair_fits : (a b : ExprCode) → ExprFits a → ExprFits b → (t at : ℕ) → t + pair_used a b ≤ f.temporaries → at + pair_size a b < length f.code → Fit (pair_code a b t at)
  pair_fits a b h k t at used room =
      fit_both (code_of a t at) _ (code_of_fits a h t at (omega (arith, used)) (omega (arith, room)))
      (code_of_fits b k (t + own a) (at + size_of a) (omega (arith, used)) (omega (arith, room)))

  instruction_fits_if : (b : Bool) (op : BinaryOperation) (x : ℕ) (o p : Operand) → x < f.temporaries → operation_fits op ≡ true
      → operand_fits u f o ≡ true → operand_fits u f p ≡ true → instruction_fits u f (if b then binary op x p o else binary op x o p) ≡ true
  instruction_fits_if true op x o p there w h k = together (together (together (below there) k) h) w
  instruction_fits_if false op x o p there w h k = together (together (together (below there) h) k) w

  binary_value_fits : (op : BinaryOperation) (a b : ExprCode) → operation_fits op ≡ true → ExprFits a → ExprFits b → ExprFits (of_binary_value op a b)
  binary_value_fits op a b w h k =
      by_value_fits (pair_size a b + 1) (pair_used a b) _
      (λ x t at there used room.
      fit_both (pair_code a b t at) _ (pair_fits a b h k t at used (omega (arith, room)))
      (fit_one (binary_instruction op x (operand_of a t) (operand_of b (t + own a)))
      (instruction_fits_if (swaps op (operand_of a t)) op x (operand_of a t) (operand_of b (t + own a)) there w
      (operand_of_fits a h t (omega (arith, used))) (operand_of_fits b k (t + own a) (omega (arith, used))))))

  condition_fits_all : (e : ExprCode) (q : Operand → Operand → Condition)
      → ((o p : Operand) → operand_fits u f o ≡ true → operand_fits u f p ≡ true → condition_fits u f (q o p) ≡ true)
      → (a b : ExprCode) → ExprFits e → ExprFits a → ExprFits b → ExprFits (with_condition e q a b)
  condition_fits_all e q c a b g h k =
      with_test_fits e _ _ _ g (omega arith)
      (λ x y t at used room met unmet.
      let some = branch_some (is_fall x) (is_fall y) in
      fit_both (pair_code a b t at) _ (pair_fits a b h k t at used (omega (arith, room, some)))
      (branch_fits (q (operand_of a t) (operand_of b (t + own a))) x y
      (c _ _ (operand_of_fits a h t (omega (arith, used))) (operand_of_fits b k (t + own a) (omega (arith, used))))
      (place_in x _ met) (place_in y _ unmet)))

  pub of_operation_fits : (op : BinaryOperation) (a b : ExprCode) → operation_fits op ≡ true → ExprFits a → ExprFits b → ExprFits (of_operation op a b)
  of_operation_fits (binaries.Arithmetic op s) a b w h k = binary_value_fits (binaries.Arithmetic op s) a b w h k
  of_operation_fits (binaries.Compare op s) a b w h k =
      condition_fits_all _ (conditions.Compare op s) (λ o p g l. together g l) a b (binary_value_fits (binaries.Compare op s) a b w h k) h k
  of_operation_fits (binaries.Move Up s element) a b w h k = element_fits s element a b w h k
  of_operation_fits (binaries.Move Down s element) a b w h k = binary_value_fits (binaries.Move Down s element) a b w h k
  of_operation_fits (binaries.Difference element) a b w h k = binary_value_fits (binaries.Difference element) a b w h k
  of_operation_fits (binaries.ComparePointers op) a b w h k =
      condition_fits_all _ (conditions.ComparePointers op) (λ o p g l. together g l) a b (binary_value_fits (binaries.ComparePointers op) a b w h k) h k

  pub stepped_fits : (o : Option ℕ) (a c : ExprCode) → ((bytes : ℕ) → o ≡ Some bytes → is_word bytes ≡ true) → ExprFits a → ExprFits c → ExprFits (stepped_or o a c)
  stepped_fits None a c w h k = k
  stepped_fits (Some bytes) a c w h k = address_fits_all (behind a bytes) (behind_fits a bytes (w bytes refl) h)

  -- ---- `&&`, `||`, `?:`

  -- where the second test begins
  abbrev Ahead : ExprCode → Exit → Exit → (second : ℕ) → Type 0
  Ahead b x y second =
      (second + b.test_size (is_fall x) (is_fall y) ≤ length f.code)
      × Lands x (second + b.test_size (is_fall x) (is_fall y)) × Lands y (second + b.test_size (is_fall x) (is_fall y)) × (second < length f.code)

  ahead : (b : ExprCode) → 1 ≤ b.test_size false false → (x y : Exit) (at n : ℕ) → at + (n + b.test_size (is_fall x) (is_fall y)) ≤ length f.code
      → Lands x (at + (n + b.test_size (is_fall x) (is_fall y))) → Lands y (at + (n + b.test_size (is_fall x) (is_fall y))) → Ahead b x y (at + n)
  ahead b some x y at n room met unmet =
      let same : at + (n + b.test_size (is_fall x) (is_fall y)) ≡ at + n + b.test_size (is_fall x) (is_fall y) = omega arith in
      let fits : at + n + b.test_size (is_fall x) (is_fall y) ≤ length f.code = omega (arith, room) in
      let first = lands_at x _ _ same met in
      let second = lands_at y _ _ same unmet in
      (fits, first, second, test_starts b.test_size x y (at + n) some fits (lands_behind x _ first) (lands_behind y _ second))

  both_tests_fits : (a b : ExprCode) → ExprFits a → ExprFits b → ExprFits (of_both_tests a b)
  both_tests_fits a b h k =
      by_test_fits _ _ _ (let some = k.some_test in omega (arith, some))
      (λ x y t at used room met unmet.
      let behind = ahead b k.some_test x y at (a.test_size true false) room met unmet in
      let there = behind.3 in
      fit_both (a.test (falls (at + a.test_size true false)) (settled y) t at) (b.test x y t (at + a.test_size true false))
      (h.test (falls (at + a.test_size true false)) (settled y) t at (omega (arith, used)) (omega (arith, there)) (there, there) (settled_lands y (at + both_size a b (is_fall x) (is_fall y)) 0 unmet))
      (k.test x y t (at + a.test_size true false) (omega (arith, used)) behind.0 behind.1 behind.2))

  either_test_fits : (a b : ExprCode) → ExprFits a → ExprFits b → ExprFits (of_either_test a b)
  either_test_fits a b h k =
      by_test_fits _ _ _ (let some = k.some_test in omega (arith, some))
      (λ x y t at used room met unmet.
      let behind = ahead b k.some_test x y at (a.test_size false true) room met unmet in
      let there = behind.3 in
      fit_both (a.test (settled x) (falls (at + a.test_size false true)) t at) (b.test x y t (at + a.test_size false true))
      (h.test (settled x) (falls (at + a.test_size false true)) t at (omega (arith, used)) (omega (arith, there)) (settled_lands x (at + either_size a b (is_fall x) (is_fall y)) 0 met) (there, there))
      (k.test x y t (at + a.test_size false true) (omega (arith, used)) behind.0 behind.1 behind.2))

  choice_fits : (c a b : ExprCode) → ExprFits c → ExprFits a → ExprFits b → ExprFits (of_choice c a b)
  choice_fits c a b g h k =
      by_value_fits (c.test_size true false + a.size + 1 + b.size) (max c.test_used (max a.used b.used)) _
      (λ x t at there used room.
      let first : ℕ = at + c.test_size true false in
      let second : ℕ = first + a.size + 1 in
      let first_in : first < length f.code = omega (arith, room) in
      let second_in : second < length f.code = omega (arith, room) in
      let end_in : second + b.size < length f.code = omega (arith, room) in
      fit_both (c.test (falls first) (goes second) t at) (a.into x t first ++ jump (second + b.size) ∷ b.into x t second)
      (g.test (falls first) (goes second) t at (omega (arith, used)) (omega (arith, first_in)) (first_in, first_in) second_in)
      (fit_both (a.into x t first) (jump (second + b.size) ∷ b.into x t second) (h.into x t first there (omega (arith, used)) (omega (arith, room)))
      (fit_cons (jump (second + b.size)) (b.into x t second) (below end_in) (k.into x t second there (omega (arith, used)) end_in))))

  pub and_fits : (known : Option Bool) (j : Bool) (a b : ExprCode) → ExprFits a → ExprFits b → ExprFits (of_and known j a b)
  and_fits None j a b h k = both_tests_fits a b h k
  and_fits (Some true) j a b h k = truth_fits j b k
  and_fits (Some false) j a b h k = operand_fits_all (truth_operand false) refl

  pub or_fits : (known : Option Bool) (j : Bool) (a b : ExprCode) → ExprFits a → ExprFits b → ExprFits (of_or known j a b)
  or_fits None j a b h k = either_test_fits a b h k
  or_fits (Some true) j a b h k = operand_fits_all (truth_operand true) refl
  or_fits (Some false) j a b h k = truth_fits j b k

  pub conditional_fits : (known : Option Bool) (c a b : ExprCode) → ExprFits c → ExprFits a → ExprFits b → ExprFits (of_conditional known c a b)
  conditional_fits None c a b g h k = choice_fits c a b g h k
  conditional_fits (Some true) c a b g h k = h
  conditional_fits (Some false) c a b g h k = k
