-- The code of expressions and statements uses no more temporaries than core holds values.
use Rattle.std.proofs.Common.{◌≡◌, ℕ, ◌+◌, ◌≤◌, max, Bool, true, false, List, [], ◌∷◌, map, Option, Some, None, refl, arith}
use Rattle.std.specs.Prelude.{if◌then◌else◌}
use Rattle.std.proofs.lemmas.Bool.{and_parts}
use Rattle.qs_memory.specs.Partial.{◌>>=◌}
use Rattle.qs_memory.specs.Scalars.{is_integer, same_scalar}
use Rattle.qs_memory.specs.Operands.{binary_takes, conversion_takes}
use Rattle.qs_memory.specs.declared.scalar.Scalar.{Scalar}
use Rattle.qs_memory.specs.declared.operation.Direction.TheVariants.{Up, Down}
use Rattle.qs_memory.specs.declared.operation.Signedness.{Signedness}
use Rattle.qs_memory.specs.declared.operation.UnaryOperation.{UnaryOperation}
use Rattle.qs_memory.specs.declared.operation.UnaryOperation.TheVariants as unaries
use Rattle.qs_memory.specs.declared.operation.BinaryOperation.{BinaryOperation}
use Rattle.qs_memory.specs.declared.operation.BinaryOperation.TheVariants as binaries
use Rattle.qs_core.specs.Trees as core
use Rattle.qs_core.specs.Trees.{CoreExprTree, CoreStmtTree, CoreStmts, no_stmts, stmt_and, CoreFunctionTree, CoreUnitTree}
use Rattle.qs_core.specs.Expressions.{type_of}
use Rattle.qs_core.specs.Fits.{expr_fits, exprs_fit, pointer_fits, stmt_fits, stmts_fit}
use Rattle.qs_core.specs.Sizes as counts
use Rattle.qs_core.specs.Sizes.{is_operand, parts_held, held, all_held, held_in, held_in_all}
use Rattle.qs_tac.specs.Trees.{InstructionTree}
use Rattle.qs_tac.specs.declared.operands.Operand.{Operand}
use Rattle.qs_tac.specs.declared.operands.Condition.{Condition}
use Rattle.qs_tac.specs.declared.operands.Condition.TheVariants as conditions
use Rattle.qs_tac.specs.Fits.{is_word}
use Rattle.qs_lower_expressions.specs.Exits.{Exit}
use Rattle.qs_lower_expressions.specs.Operands.{converted, truth_operand, unary_of, folded, gives_integer, gives_truth, is_idle, constant_step}
use Rattle.qs_lower_expressions.specs.Expressions.{IndexCode, ExprCode, own, used_by, simple_size, by_operand, by_value, number_of, by_test, further, behind_parts, behind, unindexed, indexed_by, by_address, based, with_test, of_truth, of_plus, of_compound, simple_or, of_conversion, pair_used, of_binary_value, with_condition, of_operation, stepped_or, of_and, of_or, of_conditional, lowered, all_used}
use Rattle.qs_lower.specs.Statements.{StmtCode, Way, of_before, of_ways, of_branch, stmt_code, stmts_code}
use Rattle.qs_lower.proofs.StmtSizeLaws.{row}
use Rattle.qs_lower_expressions.proofs.SimpleOperands.{AreIntegers, IsThere, converted_there, converts, integers, operands_there}

-- ---- what core holds

own_by : (z : Bool) → (if z then 0 else 1) ≤ 1
own_by true = omega arith
own_by false = omega arith

own_small : (e : CoreExprTree) → counts.own e ≤ 1
own_small e = own_by (is_operand e)

own_below : (z : Bool) (n : ℕ) → (if z then 0 else 1) ≤ (if z then 0 else max 1 n)
own_below true n = omega arith
own_below false n = omega arith

own_held : (e : CoreExprTree) → counts.own e ≤ held e
own_held e = own_below (is_operand e) (parts_held e)

none_held : (z : Bool) (n : ℕ) → z ≡ true → (if z then 0 else n) ≡ 0
none_held true n h = refl
none_held false n h = cc

no_parts : (e : CoreExprTree) → is_operand e ≡ true → parts_held e ≡ 0
no_parts (core.literal s n) h = refl
no_parts core.null_pointer h = refl
no_parts (core.variable s x) h = refl
no_parts (core.temporary s k) h = refl
no_parts (core.address_of b) h = refl
no_parts (core.load s a) h = cc
no_parts (core.member offset a) h = cc
no_parts (core.unary op a) h = cc
no_parts (core.binary op a b) h = cc
no_parts (core.conversion s a) h = none_held (is_operand a) _ h
no_parts (core.logical_and a b) h = cc
no_parts (core.logical_or a b) h = cc
no_parts (core.conditional q a b) h = cc

parts_by : (z : Bool) (n : ℕ) → (z ≡ true → n ≡ 0) → n ≤ (if z then 0 else max 1 n)
parts_by true n h = let e = h refl in omega arith
parts_by false n h = omega arith

parts_small : (e : CoreExprTree) → parts_held e ≤ held e
parts_small e = parts_by (is_operand e) (parts_held e) (no_parts e)

-- ---- what the code of an expression uses: its own value, all that is held, what its parts hold

pub record Holds (o h p : ℕ) (d : ExprCode) : Type 0 where
  pub own_fits : own d ≤ o
  pub used_fits : used_by d ≤ h
  pub parts_fit : d.used ≤ p
  pub base_fits : d.base_used ≤ h
  pub base_own_fits : d.base_own ≤ h
  pub base_few : d.base_own ≤ 2
  -- a pointer alone
  pub direct : d.index ≡ None → d.base_own ≤ o
  pub test_fits : d.test_used ≤ h

more : {o h p r i q : ℕ} → (d : ExprCode) → o ≤ r → h ≤ i → p ≤ q → Holds o h p d → Holds r i q d
more d a b c k = record {
  own_fits = let e = k.own_fits in omega arith;
  used_fits = let e = k.used_fits in omega arith;
  parts_fit = let e = k.parts_fit in omega arith;
  base_fits = let e = k.base_fits in omega arith;
  base_own_fits = let e = k.base_own_fits in omega arith;
  base_few = k.base_few;
  direct = λ is. let e = k.direct is in omega arith;
  test_fits = let e = k.test_fits in omega arith;
}

operand_holds : {o h p : ℕ} → (x : Operand) → Holds o h p (by_operand x)
operand_holds x = record {
  own_fits = omega arith;
  used_fits = omega arith;
  parts_fit = omega arith;
  base_fits = omega arith;
  base_own_fits = omega arith;
  base_few = omega arith;
  direct = λ is. omega arith;
  test_fits = omega arith;
}

value_holds : {h p : ℕ} → (size used : ℕ) (into : (x t at : ℕ) → List InstructionTree) → used ≤ p → max 1 p ≤ h → Holds 1 h p (by_value size used into)
value_holds size used into a b = record {
  own_fits = omega arith;
  used_fits = omega arith;
  parts_fit = a;
  base_fits = omega arith;
  base_own_fits = omega arith;
  base_few = omega arith;
  direct = λ is. omega arith;
  test_fits = omega arith;
}

-- ---- addresses

pub record AddressHolds (o h : ℕ) (d : ExprCode) : Type 0 where
  pub base_fits : d.base_used ≤ h
  pub base_own_fits : d.base_own ≤ h
  pub base_few : d.base_own ≤ 2
  pub direct : d.index ≡ None → d.base_own ≤ o

by_address_holds : {h p : ℕ} → (d : ExprCode) → AddressHolds 1 p d → max 1 p ≤ h → Holds 1 h p (by_address d)
by_address_holds d k b = record {
  own_fits = omega arith;
  used_fits = let e = k.base_fits in omega arith;
  parts_fit = k.base_fits;
  base_fits = let e = k.base_fits in omega arith;
  base_own_fits = let e = k.base_own_fits in omega arith;
  base_few = k.base_few;
  direct = k.direct;
  test_fits = let e = k.base_fits in omega arith;
}

if_address : {o h : ℕ} → (z : Bool) (d e : ExprCode) → AddressHolds o h d → AddressHolds o h e → AddressHolds o h (if z then d else e)
if_address true d e a b = a
if_address false d e a b = b

behind_holds : {o h p : ℕ} → (i : Option IndexCode) (d : ExprCode) (bytes : ℕ) → d.index ≡ i → o ≤ 1 → Holds o h p d → AddressHolds 1 h (behind_parts i d bytes)
behind_holds None d bytes is a k =
    if_address (is_word (further d.offset bytes)) _ _
    (record { base_fits = k.base_fits; base_own_fits = k.base_own_fits; base_few = k.base_few; direct = λ e. let b = k.direct e in omega arith })
    (based_holds d bytes a k)
  where
    based_holds : {o h p : ℕ} → (d : ExprCode) (bytes : ℕ) → o ≤ 1 → Holds o h p d → AddressHolds 1 h (record (based d) { offset = Some bytes })
    based_holds d bytes a k = record {
      base_fits = k.used_fits;
      base_own_fits = let e = k.used_fits in let b = own_used d in omega arith;
      base_few = let e = k.own_fits in omega arith;
      direct = λ is. let e = k.own_fits in omega arith;
    }
      where
        own_used : (d : ExprCode) → own d ≤ used_by d
        own_used d = by d.simple
          where
            by : (s : Option Operand) → simple_size s 1 ≤ simple_size s (max 1 d.used)
            by None = omega arith
            by (Some x) = omega arith
behind_holds (Some i) d bytes is a k =
    if_address (is_word (further i.offset bytes)) _ _
    (record { base_fits = k.base_fits; base_own_fits = k.base_own_fits; base_few = k.base_few; direct = λ e. absurd (cc) })
    (record {
      base_fits = k.used_fits;
      base_own_fits = let e = k.used_fits in let b = own_used d in omega arith;
      base_few = let e = k.own_fits in omega arith;
      direct = λ is. let e = k.own_fits in omega arith;
    })
  where
    own_used : (d : ExprCode) → own d ≤ used_by d
    own_used d = by d.simple
      where
        by : (s : Option Operand) → simple_size s 1 ≤ simple_size s (max 1 d.used)
        by None = omega arith
        by (Some x) = omega arith

-- without an index: no more than the value itself
pub record PointerHolds (o h : ℕ) (d : ExprCode) : Type 0 where
  pub base_fits : d.base_used ≤ h
  pub own_fits : d.base_own ≤ o

unindexed_holds : {o h p : ℕ} → (i : Option IndexCode) (d : ExprCode) → d.index ≡ i → Holds o h p d → PointerHolds o h (unindexed i d)
unindexed_holds None d is k = record { base_fits = k.base_fits; own_fits = k.direct is }
unindexed_holds (Some i) d is k = record { base_fits = k.used_fits; own_fits = k.own_fits }

-- ---- expressions

module _ (c : CoreUnitTree) (g : CoreFunctionTree) (v : ℕ) where
  abbrev pub Good : CoreExprTree → ExprCode → Type 0
  Good e d = Holds (counts.own e) (held e) (parts_held e) d

  -- a part stands for the whole
  itself : {h p : ℕ} → (e : CoreExprTree) (d : ExprCode) → Good e d → held e ≤ p → max 1 p ≤ h → Holds 1 h p d
  itself e d k a b = let o = own_small e in let s = parts_small e in more d o (omega arith) (omega arith) k

  simple_or_holds : {o h p : ℕ} → (x : Option Operand) (d : ExprCode) → Holds o h p d → Holds o h p (simple_or x d)
  simple_or_holds None d k = k
  simple_or_holds (Some x) d k = operand_holds x

  with_test_holds : {o h p : ℕ} → (d : ExprCode) (size : (met unmet : Bool) → ℕ) (test : (met unmet : Exit) → (t at : ℕ) → List InstructionTree) (used : ℕ) → used ≤ h → Holds o h p d → Holds o h p (with_test d size test used)
  with_test_holds d size test used a k = record {
    own_fits = k.own_fits;
    used_fits = k.used_fits;
    parts_fit = k.parts_fit;
    base_fits = k.base_fits;
    base_own_fits = k.base_own_fits;
    base_few = k.base_few;
    direct = k.direct;
    test_fits = a;
  }

  truth_holds : {h p : ℕ} → (j : Bool) (e : CoreExprTree) (d : ExprCode) → Good e d → held e ≤ p → max 1 p ≤ h → Holds 1 h p (of_truth j d)
  truth_holds true e d k a b = itself e d k a b
  truth_holds false e d k a b =
      let u = k.used_fits in
      let t = k.test_fits in
      with_test_holds _ _ _ d.test_used (omega arith) (value_holds _ (used_by d) _ (omega arith) b)

  plus_holds : (i : Bool) (s : Signedness) (e : CoreExprTree) (d : ExprCode) → Good e d → Good (core.unary (unaries.Plus s) e) (of_plus i s d)
  plus_holds true s e d k = itself e d k (omega arith) (omega arith)
  plus_holds false s e d k = value_holds _ (used_by d) _ k.used_fits (omega arith)

  compound_holds : (op : UnaryOperation) (i j : Bool) (e : CoreExprTree) (d : ExprCode) → Good e d → Good (core.unary op e) (of_compound op i j d)
  compound_holds (unaries.Plus s) i j e d k = plus_holds i s e d k
  compound_holds (unaries.Minus s) i j e d k = value_holds _ (used_by d) _ k.used_fits (omega arith)
  compound_holds (unaries.Complement s) i j e d k = value_holds _ (used_by d) _ k.used_fits (omega arith)
  compound_holds unaries.Not i j e d k =
      let t = k.test_fits in
      with_test_holds _ _ _ d.test_used (omega arith) (value_holds _ (used_by d) _ k.used_fits (omega arith))
  compound_holds unaries.Truth i j e d k = truth_holds j e d k (omega arith) (omega arith)

  pair_holds : (a b : CoreExprTree) (d e : ExprCode) → Good a d → Good b e → pair_used d e ≤ max (held a) (counts.own a + held b)
  pair_holds a b d e k l = let i = k.used_fits in let j = k.own_fits in let m = l.used_fits in omega arith

  value_of_both : (op : BinaryOperation) (a b : CoreExprTree) (d e : ExprCode) → Good a d → Good b e → Good (core.binary op a b) (of_binary_value op d e)
  value_of_both op a b d e k l = value_holds _ (pair_used d e) _ (pair_holds a b d e k l) (omega arith)

  condition_of_both : (op : BinaryOperation) (w : Operand → Operand → Condition) (a b : CoreExprTree) (d e : ExprCode) → Good a d → Good b e → Good (core.binary op a b) (with_condition (of_binary_value op d e) w d e)
  condition_of_both op w a b d e k l =
      let i = pair_holds a b d e k l in with_test_holds _ _ _ (pair_used d e) (omega arith) (value_of_both op a b d e k l)

  element_holds : (op : BinaryOperation) (s : Signedness) (element : ℕ) (a b : CoreExprTree) (d e : ExprCode) → Good a d → Good b e → Good (core.binary op a b) (by_address (indexed_by s element (unindexed d.index d) e))
  element_holds op s element a b d e k l =
      let p = unindexed_holds d.index d refl k in
      let i = p.base_fits in
      let j = p.own_fits in
      let m = l.used_fits in
      let n = l.own_fits in
      let x = own_small a in
      let y = own_small b in
      let z = own_held b in
      by_address_holds (indexed_by s element (unindexed d.index d) e)
      (record { base_fits = omega arith; base_own_fits = omega arith; base_few = omega arith; direct = λ is. absurd (cc) })
      (omega arith)

  operation_holds : (op : BinaryOperation) (a b : CoreExprTree) (d e : ExprCode) → Good a d → Good b e → Good (core.binary op a b) (of_operation op d e)
  operation_holds (binaries.Arithmetic op s) a b d e k l = value_of_both (binaries.Arithmetic op s) a b d e k l
  operation_holds (binaries.Compare op s) a b d e k l = condition_of_both (binaries.Compare op s) (conditions.Compare op s) a b d e k l
  operation_holds (binaries.Move Up s element) a b d e k l = element_holds (binaries.Move Up s element) s element a b d e k l
  operation_holds (binaries.Move Down s element) a b d e k l = value_of_both (binaries.Move Down s element) a b d e k l
  operation_holds (binaries.Difference element) a b d e k l = value_of_both (binaries.Difference element) a b d e k l
  operation_holds (binaries.ComparePointers op) a b d e k l = condition_of_both (binaries.ComparePointers op) (conditions.ComparePointers op) a b d e k l

  more_address : {o h i : ℕ} → (d : ExprCode) → h ≤ i → AddressHolds o h d → AddressHolds o i d
  more_address d a k = record {
    base_fits = let e = k.base_fits in omega arith;
    base_own_fits = let e = k.base_own_fits in omega arith;
    base_few = k.base_few;
    direct = k.direct;
  }

  stepped_holds : (op : BinaryOperation) (n : Option ℕ) (a b : CoreExprTree) (d e : ExprCode) → Good a d → Good (core.binary op a b) e → Good (core.binary op a b) (stepped_or n d e)
  stepped_holds op None a b d e k l = l
  stepped_holds op (Some bytes) a b d e k l =
      by_address_holds (behind d bytes) (more_address (behind d bytes) (omega arith) (behind_holds d.index d bytes refl (own_small a) k)) (omega arith)

  if_holds : {o h p : ℕ} → (z : Bool) (d e : ExprCode) → Holds o h p d → Holds o h p e → Holds o h p (if z then d else e)
  if_holds true d e a b = a
  if_holds false d e a b = b

  there_holds : {o h p : ℕ} → (x : Option Operand) (d : ExprCode) → IsThere x → Holds o h p (simple_or x d)
  there_holds None d h = absurd h
  there_holds (Some x) d h = operand_holds x

  of_there : (s : Scalar) (o : Option Operand) → is_integer s ≡ true → AreIntegers o → IsThere o → IsThere (o >>= converted s)
  of_there s None h k l = l
  of_there s (Some o) h k l = converted_there s o h k

  conversion_holds :
      (z : Bool) (s : Scalar) (idle : Bool) (e : CoreExprTree) (d : ExprCode) → is_integer s ≡ true → AreIntegers d.simple → (z ≡ true → IsThere d.simple) → Good e d
      → Holds (if z then 0 else 1) (if z then 0 else max 1 (held e)) (held e) (of_conversion s idle d)
  conversion_holds true s idle e d int ints there k = there_holds (d.simple >>= converted s) _ (of_there s d.simple int ints (there refl))
  conversion_holds false s idle e d int ints there k =
      simple_or_holds (d.simple >>= converted s) _
      (if_holds idle d _ (itself e d k (omega arith) (omega arith)) (value_holds _ (used_by d) _ k.used_fits (omega arith)))

  by_test_holds : {h p : ℕ} → (used : ℕ) (size : (met unmet : Bool) → ℕ) (test : (met unmet : Exit) → (t at : ℕ) → List InstructionTree) → used ≤ p → max 1 p ≤ h → Holds 1 h p (by_test used size test)
  by_test_holds used size test a b =
      let k = value_holds (size true false + 3) used (number_of size test) a b in
      record {
        own_fits = k.own_fits;
        used_fits = k.used_fits;
        parts_fit = k.parts_fit;
        base_fits = k.base_fits;
        base_own_fits = k.base_own_fits;
        base_few = k.base_few;
        direct = k.direct;
        test_fits = omega arith;
      }

  and_holds : (known : Option Bool) (j : Bool) (a b : CoreExprTree) (d e : ExprCode) → Good a d → Good b e → Good (core.logical_and a b) (of_and known j d e)
  and_holds None j a b d e k l = let i = k.test_fits in let m = l.test_fits in by_test_holds _ _ _ (omega arith) (omega arith)
  and_holds (Some true) j a b d e k l = truth_holds j b e l (omega arith) (omega arith)
  and_holds (Some false) j a b d e k l = operand_holds (truth_operand false)

  or_holds : (known : Option Bool) (j : Bool) (a b : CoreExprTree) (d e : ExprCode) → Good a d → Good b e → Good (core.logical_or a b) (of_or known j d e)
  or_holds None j a b d e k l = let i = k.test_fits in let m = l.test_fits in by_test_holds _ _ _ (omega arith) (omega arith)
  or_holds (Some true) j a b d e k l = operand_holds (truth_operand true)
  or_holds (Some false) j a b d e k l = truth_holds j b e l (omega arith) (omega arith)

  choice_holds : (known : Option Bool) (q a b : CoreExprTree) (d e i : ExprCode) → Good q d → Good a e → Good b i → Good (core.conditional q a b) (of_conditional known d e i)
  choice_holds None q a b d e i k l m =
      let r = k.test_fits in
      let s = l.parts_fit in
      let t = m.parts_fit in
      let x = parts_small a in
      let y = parts_small b in
      value_holds _ _ _ (omega arith) (omega arith)
  choice_holds (Some true) q a b d e i k l m = itself a e l (omega arith) (omega arith)
  choice_holds (Some false) q a b d e i k l m = itself b i m (omega arith) (omega arith)

  pub expr_holds : (e : CoreExprTree) → expr_fits c g e ≡ true → Good e (lowered v e)
  expr_holds (core.literal s n) h = operand_holds _
  expr_holds core.null_pointer h = operand_holds _
  expr_holds (core.variable s x) h = operand_holds _
  expr_holds (core.temporary s k) h = operand_holds _
  expr_holds (core.address_of b) h = operand_holds _
  expr_holds (core.load s a) h = value_holds _ (lowered v a).base_used _ (expr_holds a (and_parts (expr_fits c g a) _ h).0).base_fits (omega arith)
  expr_holds (core.member offset a) h =
      by_address_holds (behind (lowered v a) offset) (behind_holds (lowered v a).index (lowered v a) offset refl (own_small a) (expr_holds a (and_parts (expr_fits c g a) _ (and_parts _ _ h).0).0)) (omega arith)
  expr_holds (core.unary op a) h =
      simple_or_holds ((lowered v a).simple >>= unary_of op) _ (compound_holds op (gives_integer a) (gives_truth a) a (lowered v a) (expr_holds a (and_parts (expr_fits c g a) _ h).0))
  expr_holds (core.binary op a b) h =
      let two = and_parts (expr_fits c g a) (expr_fits c g b) (and_parts _ (binary_takes op _ _) h).0 in
      let first = expr_holds a two.0 in
      simple_or_holds (folded op (lowered v a).simple (lowered v b).simple) _
      (stepped_holds op (constant_step op (lowered v b).simple) a b (lowered v a) _ first (operation_holds op a b (lowered v a) (lowered v b) first (expr_holds b two.1)))
  expr_holds (core.conversion s a) h =
      let two = and_parts (expr_fits c g a) (conversion_takes s (type_of a)) h in
      let types = converts s (type_of a) two.1 in
      conversion_holds (is_operand a) s (is_idle s a) a (lowered v a) types.to (integers c g v a two.0 types.from) (operands_there c g v a two.0) (expr_holds a two.0)
  expr_holds (core.logical_and a b) h =
      let two = and_parts (expr_fits c g a) (expr_fits c g b) h in
      and_holds (lowered v a).known (gives_truth b) a b (lowered v a) (lowered v b) (expr_holds a two.0) (expr_holds b two.1)
  expr_holds (core.logical_or a b) h =
      let two = and_parts (expr_fits c g a) (expr_fits c g b) h in
      or_holds (lowered v a).known (gives_truth b) a b (lowered v a) (lowered v b) (expr_holds a two.0) (expr_holds b two.1)
  expr_holds (core.conditional q a b) h =
      let three = and_parts _ (expr_fits c g b) (and_parts _ (same_scalar (type_of a) (type_of b)) h).0 in
      let two = and_parts (expr_fits c g q) (expr_fits c g a) three.0 in
      choice_holds (lowered v q).known q a b (lowered v q) (lowered v a) (lowered v b) (expr_holds q two.0) (expr_holds a two.1) (expr_holds b three.1)

  arguments_hold : (es : List CoreExprTree) → exprs_fit c g es ≡ true → all_used (map (lowered v) es) ≤ all_held es
  arguments_hold [] h = omega arith
  arguments_hold (e ∷ es) h =
      let two = and_parts (expr_fits c g e) (exprs_fit c g es) h in
      let first = expr_holds e two.0 in
      let i = first.used_fits in
      let j = first.own_fits in
      let k = arguments_hold es two.1 in
      omega arith

  -- ---- statements

  branch_used : {q m n : ℕ} → (known : Option Bool) (t : ℕ) (e : ExprCode) (a b : StmtCode) → e.test_used ≤ q → a.used ≤ m → b.used ≤ n → (of_branch known t e a b).used ≤ max q (max m n)
  branch_used None t e a b i j k = omega arith
  branch_used (Some true) t e a b i j k = omega arith
  branch_used (Some false) t e a b i j k = omega arith

  before_used : {m n : ℕ} → (a : StmtCode) (w : Option Way) (b : StmtCode) → a.used ≤ m → b.used ≤ n → (of_before a w b).used ≤ max m n
  before_used a None b i j = omega arith
  before_used a (Some w) b i j = omega arith

  ways_used : {m n : ℕ} → (w : Option Way) (a b : StmtCode) → a.used ≤ m → b.used ≤ n → (of_ways w a b).used ≤ max m n
  ways_used None a b i j = before_used a b.way b i j
  ways_used (Some w) a b i j = omega arith

  both_used : {m n : ℕ} → (z : Bool) (a b : StmtCode) → a.used ≤ m → b.used ≤ n → (if z then a else of_ways a.way a b).used ≤ max m n
  both_used true a b i j = omega arith
  both_used false a b i j = ways_used a.way a b i j

  access_used : (a b : CoreExprTree) (p d : ExprCode) (used : ℕ) → Good a p → used ≤ held b → max p.base_used (p.base_own + used) ≤ counts.access_held a b
  access_used a b p d used k i = let l = k.base_fits in let m = k.base_own_fits in let n = k.base_few in omega arith

  mutual
    pub stmt_holds : (t : ℕ) (b q : Bool) (s : CoreStmtTree) → stmt_fits c g b q s ≡ true → (stmt_code v t s).used ≤ held_in s
    stmt_holds t b q core.skip h = omega arith
    stmt_holds t b q (core.seq ss) h = stmts_hold t b q ss h
    stmt_holds t b q (core.assign x e) h = (expr_holds e (and_parts (expr_fits c g e) _ h).0).parts_fit
    stmt_holds t b q (core.store s a e) h =
        let two = and_parts (pointer_fits c g a) (expr_fits c g e) (and_parts _ _ h).0 in
        access_used a e (lowered v a) (lowered v e) (used_by (lowered v e)) (expr_holds a (and_parts (expr_fits c g a) _ two.0).0) (expr_holds e two.1).used_fits
    stmt_holds t b q (core.copy size alignment a e) h =
        let two = and_parts (pointer_fits c g a) (pointer_fits c g e) (and_parts _ _ (and_parts _ _ h).0).0 in
        access_used a e (lowered v a) (lowered v e) (lowered v e).base_used (expr_holds a (and_parts (expr_fits c g a) _ two.0).0)
        (expr_holds e (and_parts (expr_fits c g e) _ two.1).0).base_fits
    stmt_holds t b q (core.fill blank a) h = (expr_holds a (and_parts (expr_fits c g a) _ (and_parts (pointer_fits c g a) _ h).0).0).base_fits
    stmt_holds t b q (core.call x to es) h = arguments_hold es (and_parts (exprs_fit c g es) _ h).0
    stmt_holds t b q (core.branch e s r) h =
        let two = and_parts _ (stmt_fits c g b q r) h in
        let one = and_parts (expr_fits c g e) (stmt_fits c g b q s) two.0 in
        branch_used (lowered v e).known t (lowered v e) (stmt_code v t s) (stmt_code v t r) (expr_holds e one.0).test_fits (stmt_holds t b q s one.1) (stmt_holds t b q r two.1)
    stmt_holds t b q (core.loop body step) h =
        let two = and_parts (stmt_fits c g true true body) (stmt_fits c g true false step) h in
        let i = stmt_holds t true true body two.0 in
        let j = stmt_holds t true false step two.1 in
        omega arith
    stmt_holds t b q (core.switch e labels ss) h =
        let four = and_parts _ (stmts_fit c g true q ss) h in
        let i = (expr_holds e (and_parts (expr_fits c g e) _ (and_parts _ _ four.0).0).0).used_fits in
        let j = row_holds t true q ss four.1 in
        omega arith
    stmt_holds t b q core.break h = omega arith
    stmt_holds t b q core.continue h = omega arith
    stmt_holds t b q (core.return None) h = omega arith
    stmt_holds t b q (core.return (Some e)) h = (expr_holds e (and_parts (expr_fits c g e) _ h).0).used_fits

    pub stmts_hold : (t : ℕ) (b q : Bool) (ss : CoreStmts) → stmts_fit c g b q ss ≡ true → (stmts_code v t ss).used ≤ held_in_all ss
    stmts_hold t b q no_stmts h = omega arith
    stmts_hold t b q (stmt_and s no_stmts) h = let i = stmt_holds t b q s (and_parts (stmt_fits c g b q s) _ h).0 in omega arith
    stmts_hold t b q (stmt_and s (stmt_and r ss)) h =
        let two = and_parts (stmt_fits c g b q s) (stmts_fit c g b q (stmt_and r ss)) h in
        both_used (stmt_code v t s).ends (stmt_code v t s) (stmts_code v t (stmt_and r ss)) (stmt_holds t b q s two.0) (stmts_hold t b q (stmt_and r ss) two.1)

    -- the parts of a switch, of which each may use the same
    pub row_holds : (t : ℕ) (b q : Bool) (ss : CoreStmts) → stmts_fit c g b q ss ≡ true → (row v t ss).used ≤ held_in_all ss
    row_holds t b q no_stmts h = omega arith
    row_holds t b q (stmt_and s no_stmts) h = let i = stmt_holds t b q s (and_parts (stmt_fits c g b q s) _ h).0 in omega arith
    row_holds t b q (stmt_and s (stmt_and r ss)) h =
        let two = and_parts (stmt_fits c g b q s) (stmts_fit c g b q (stmt_and r ss)) h in
        let i = stmt_holds t b q s two.0 in
        let j = row_holds t b q (stmt_and r ss) two.1 in
        omega arith
