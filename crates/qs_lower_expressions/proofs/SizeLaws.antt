-- The code of a part has as many instructions as its size says.
use Rattle.std.proofs.Common.{◌≡◌, ℕ, ◌+◌, Bool, true, false, List, [], ◌∷◌, ◌++◌, length, map, Option, Some, None, refl, ap, ◌∙◌, arith, length-append}
use Rattle.std.specs.Prelude.{if◌then◌else◌}
use Rattle.qs_memory.specs.Partial.{◌>>=◌}
use Rattle.qs_memory.specs.declared.scalar.Scalar.{Scalar}
use Rattle.qs_memory.specs.declared.operation.Signedness.{Signedness}
use Rattle.qs_memory.specs.declared.operation.Direction.TheVariants.{Up, Down}
use Rattle.qs_memory.specs.declared.operation.UnaryOperation.{UnaryOperation}
use Rattle.qs_memory.specs.declared.operation.UnaryOperation.TheVariants as unaries
use Rattle.qs_memory.specs.declared.operation.BinaryOperation.{BinaryOperation}
use Rattle.qs_memory.specs.declared.operation.BinaryOperation.TheVariants as binaries
use Rattle.qs_core.specs.Trees as core
use Rattle.qs_core.specs.Trees.{CoreExprTree}
use Rattle.qs_tac.specs.Trees.{InstructionTree, move, jump}
use Rattle.qs_tac.specs.declared.operands.Operand.{Operand}
use Rattle.qs_tac.specs.declared.operands.Condition.{Condition}
use Rattle.qs_tac.specs.declared.operands.Condition.TheVariants as conditions
use Rattle.qs_lower_expressions.specs.Exits.{Exit, falls, goes, is_fall, exit_size, exit_code, branch_size, branch_code}
use Rattle.qs_tac.specs.Fits.{is_word}
use Rattle.qs_lower_expressions.specs.Operands.{converted, truth_of, truth_operand, unary_of, folded, gives_integer, gives_truth, is_idle, constant_step}
use Rattle.qs_lower_expressions.specs.Expressions.{IndexCode, ExprCode, simple_size, size_of, simple_code, code_of, based, known_size, known_code, tested, no_code, by_operand, by_value, number_of, by_test, of_load, further, behind_parts, behind, unindexed, indexed_by, by_address, of_element, of_unary_value, with_test, of_truth, of_plus, of_compound, simple_or, of_conversion, pair_size, pair_code, of_binary_value, with_condition, of_operation, stepped_or, of_both_tests, of_either_test, of_choice, of_and, of_or, of_conditional, lowered, all_size, all_code}

pub one_more : (a : List InstructionTree) (i : InstructionTree) (n : ℕ) → length a ≡ n → length (a ++ i ∷ []) ≡ n + 1
one_more a i n h = length-append a (i ∷ []) ∙ ap (λ n. n + 1) h

pub both : (a b : List InstructionTree) (m n : ℕ) → length a ≡ m → length b ≡ n → length (a ++ b) ≡ m + n
both a b m n h g = let l = length-append a b in omega arith

pub cons : (i : InstructionTree) (a : List InstructionTree) (n k : ℕ) → length a ≡ n → n + 1 ≡ k → length (i ∷ a) ≡ k
cons i a n k h e = omega arith

four : (c a b : ℕ) → c + (a + (b + 1)) ≡ c + a + 1 + b
four c a b = omega arith

pub exit_length : (x : Exit) → length (exit_code x) ≡ exit_size (is_fall x)
exit_length (falls p) = refl
exit_length (goes p) = refl

pub branch_length : (c : Condition) (x y : Exit) → length (branch_code c x y) ≡ branch_size (is_fall x) (is_fall y)
branch_length c (falls p) (falls q) = refl
branch_length c (falls p) (goes q) = refl
branch_length c (goes p) (falls q) = refl
branch_length c (goes p) (goes q) = refl

-- ---- expressions

pub record Sized (c : ExprCode) : Type 0 where
  pub into : (x t at : ℕ) → length (c.into x t at) ≡ c.size
  pub base : (t at : ℕ) → length (c.base_code t at) ≡ c.base_size
  pub test : (x y : Exit) (t at : ℕ) → length (c.test x y t at) ≡ c.test_size (is_fall x) (is_fall y)

simple_length : (o : Option Operand) (code : List InstructionTree) (n : ℕ) → length code ≡ n → length (simple_code o code) ≡ simple_size o n
simple_length None code n h = h
simple_length (Some o) code n h = refl

pub code_length : (c : ExprCode) → ((x t at : ℕ) → length (c.into x t at) ≡ c.size) → (t at : ℕ) → length (code_of c t at) ≡ size_of c
code_length c h t at = simple_length c.simple (c.into t t at) c.size (h t t at)

known_length :
    (k : Option Bool) (code : List InstructionTree) (c : Condition) (x y : Exit) (n : ℕ) → length code ≡ n
    → length (known_code k code c x y) ≡ known_size k n (is_fall x) (is_fall y)
known_length None code c x y n h = both code (branch_code c x y) n _ h (branch_length c x y)
known_length (Some true) code c x y n h = exit_length x
known_length (Some false) code c x y n h = exit_length y

value_sized : (c : ExprCode) → ((x t at : ℕ) → length (c.into x t at) ≡ c.size) → Sized (tested (based c))
value_sized c h = record {
  into = h;
  base = code_length c h;
  test = λ x y t at. known_length (c.simple >>= truth_of) (code_of c t at) _ x y (size_of c) (code_length c h t at);
}

pub based_sized : (c : ExprCode) → Sized c → Sized (based c)
based_sized c s = record { into = s.into; base = code_length c s.into; test = s.test }

pub operand_sized : (o : Operand) → Sized (by_operand o)
operand_sized o = value_sized (record no_code { simple = Some o; size = 1; into = λ x t at. move x o ∷ [] }) (λ x t at. refl)

pub by_value_sized : (size used : ℕ) (into : (x t at : ℕ) → List InstructionTree) → ((x t at : ℕ) → length (into x t at) ≡ size) → Sized (by_value size used into)
by_value_sized size used into h = value_sized (record no_code { size = size; into = into; used = used }) h

-- a list of tests
abbrev pub TestSized : (test_size : (met unmet : Bool) → ℕ) → (test : (met unmet : Exit) → (t at : ℕ) → List InstructionTree) → Type 0
TestSized n test = (x y : Exit) (t at : ℕ) → length (test x y t at) ≡ n (is_fall x) (is_fall y)

pub by_test_sized : (used : ℕ) (n : (met unmet : Bool) → ℕ) (test : (met unmet : Exit) → (t at : ℕ) → List InstructionTree) → TestSized n test → Sized (by_test used n test)
by_test_sized used n test h =
    let v = by_value_sized (n true false + 3) used (number_of n test) (λ x t at. both _ _ (n true false) 3 (h _ _ t at) refl) in
    record { into = v.into; base = v.base; test = h }

pub load_sized : (s : Scalar) (p : ExprCode) → Sized p → Sized (of_load s p)
load_sized s p h = by_value_sized _ _ _ (λ x t at. one_more _ _ _ (h.base t at))

if_sized : (b : Bool) (c d : ExprCode) → Sized c → Sized d → Sized (if b then c else d)
if_sized true c d h k = h
if_sized false c d h k = k

behind_parts_sized : (o : Option IndexCode) (p : ExprCode) (bytes : ℕ) → Sized p → Sized (behind_parts o p bytes)
behind_parts_sized None p bytes h =
    let b = based_sized p h in
    if_sized (is_word (further p.offset bytes)) _ _
    (record { into = h.into; base = h.base; test = h.test })
    (record { into = b.into; base = b.base; test = b.test })
behind_parts_sized (Some i) p bytes h =
    let b = based_sized p h in
    if_sized (is_word (further i.offset bytes)) _ _
    (record { into = h.into; base = h.base; test = h.test })
    (record { into = b.into; base = b.base; test = b.test })

pub behind_sized : (p : ExprCode) (bytes : ℕ) → Sized p → Sized (behind p bytes)
behind_sized p bytes h = behind_parts_sized p.index p bytes h

pub unindexed_sized : (o : Option IndexCode) (p : ExprCode) → Sized p → Sized (unindexed o p)
unindexed_sized None p h = h
unindexed_sized (Some i) p h = based_sized p h

pub address_sized : (p : ExprCode) → Sized p → Sized (by_address p)
address_sized p h =
    let v = by_value_sized (p.base_size + 1) p.base_used _ (λ x t at. one_more _ _ _ (h.base t at)) in
    record { into = v.into; base = h.base; test = v.test }

pub indexed_sized : (s : Signedness) (element : ℕ) (p q : ExprCode) → Sized p → Sized q → Sized (indexed_by s element p q)
indexed_sized s element p q h k = record { into = h.into; base = λ t at. both _ _ _ _ (h.base t at) (code_length q k.into _ _); test = h.test }

pub element_sized : (s : Signedness) (element : ℕ) (a b : ExprCode) → Sized a → Sized b → Sized (of_element s element a b)
element_sized s element a b h k =
    address_sized (indexed_by s element (unindexed a.index a) b)
    (indexed_sized s element (unindexed a.index a) b (unindexed_sized a.index a h) k)

pub unary_value_sized : (op : UnaryOperation) (a : ExprCode) → Sized a → Sized (of_unary_value op a)
unary_value_sized op a h = by_value_sized _ _ _ (λ x t at. one_more _ _ _ (code_length a h.into t at))

pub with_test_sized :
    (c : ExprCode) (n : (met unmet : Bool) → ℕ) (test : (met unmet : Exit) → (t at : ℕ) → List InstructionTree) (used : ℕ)
    → Sized c → TestSized n test → Sized (with_test c n test used)
with_test_sized c n test used s h = record { into = s.into; base = s.base; test = h }

pub truth_sized : (j : Bool) (a : ExprCode) → Sized a → Sized (of_truth j a)
truth_sized true a h = h
truth_sized false a h = with_test_sized _ _ _ _ (unary_value_sized unaries.Truth a h) h.test

pub plus_sized : (i : Bool) (s : Signedness) (a : ExprCode) → Sized a → Sized (of_plus i s a)
plus_sized true s a h = h
plus_sized false s a h = unary_value_sized (unaries.Plus s) a h

compound_sized : (op : UnaryOperation) (i j : Bool) (a : ExprCode) → Sized a → Sized (of_compound op i j a)
compound_sized (unaries.Plus s) i j a h = plus_sized i s a h
compound_sized (unaries.Minus s) i j a h = unary_value_sized (unaries.Minus s) a h
compound_sized (unaries.Complement s) i j a h = unary_value_sized (unaries.Complement s) a h
compound_sized unaries.Not i j a h =
    with_test_sized _ _ _ _ (unary_value_sized unaries.Not a h) (λ x y t at. h.test y x t at)
compound_sized unaries.Truth i j a h = truth_sized j a h

pub simple_or_sized : (o : Option Operand) (c : ExprCode) → Sized c → Sized (simple_or o c)
simple_or_sized None c h = h
simple_or_sized (Some o) c h = operand_sized o

conversion_sized : (s : Scalar) (i : Bool) (a : ExprCode) → Sized a → Sized (of_conversion s i a)
conversion_sized s i a h =
    simple_or_sized (a.simple >>= converted s) _
    (if_sized i a _ h (by_value_sized _ _ _ (λ x t at. one_more _ _ _ (code_length a h.into t at))))

pub pair_length : (a b : ExprCode) → Sized a → Sized b → (t at : ℕ) → length (pair_code a b t at) ≡ pair_size a b
pair_length a b h k t at = both _ _ _ _ (code_length a h.into t at) (code_length b k.into _ _)

pub binary_value_sized : (op : BinaryOperation) (a b : ExprCode) → Sized a → Sized b → Sized (of_binary_value op a b)
binary_value_sized op a b h k = by_value_sized _ _ _ (λ x t at. one_more _ _ _ (pair_length a b h k t at))

pub condition_sized : (c : ExprCode) (f : Operand → Operand → Condition) (a b : ExprCode) → Sized c → Sized a → Sized b → Sized (with_condition c f a b)
condition_sized c f a b s h k =
    with_test_sized c _ _ _ s (λ x y t at. both _ _ _ _ (pair_length a b h k t at) (branch_length _ x y))

operation_sized : (op : BinaryOperation) (a b : ExprCode) → Sized a → Sized b → Sized (of_operation op a b)
operation_sized (binaries.Arithmetic op s) a b h k = binary_value_sized (binaries.Arithmetic op s) a b h k
operation_sized (binaries.Compare op s) a b h k = condition_sized _ (conditions.Compare op s) a b (binary_value_sized (binaries.Compare op s) a b h k) h k
operation_sized (binaries.Move Up s element) a b h k = element_sized s element a b h k
operation_sized (binaries.Move Down s element) a b h k = binary_value_sized (binaries.Move Down s element) a b h k
operation_sized (binaries.Difference element) a b h k = binary_value_sized (binaries.Difference element) a b h k
operation_sized (binaries.ComparePointers op) a b h k = condition_sized _ (conditions.ComparePointers op) a b (binary_value_sized (binaries.ComparePointers op) a b h k) h k

stepped_sized : (o : Option ℕ) (a c : ExprCode) → Sized a → Sized c → Sized (stepped_or o a c)
stepped_sized None a c h k = k
stepped_sized (Some bytes) a c h k = address_sized _ (behind_sized a bytes h)

pub both_tests_sized : (a b : ExprCode) → Sized a → Sized b → Sized (of_both_tests a b)
both_tests_sized a b h k = by_test_sized _ _ _ (λ x y t at. both _ _ _ _ (h.test _ _ t at) (k.test x y t _))

pub either_test_sized : (a b : ExprCode) → Sized a → Sized b → Sized (of_either_test a b)
either_test_sized a b h k = by_test_sized _ _ _ (λ x y t at. both _ _ _ _ (h.test _ _ t at) (k.test x y t _))

pub choice_sized : (c a b : ExprCode) → Sized c → Sized a → Sized b → Sized (of_choice c a b)
choice_sized c a b g h k =
    by_value_sized _ _ _
    (λ x t at.
    both _ _ _ (a.size + (b.size + 1)) (g.test _ _ t at) (both _ _ a.size (b.size + 1) (h.into x t _) (cons (jump (at + c.test_size true false + a.size + 1 + b.size)) _ b.size (b.size + 1) (k.into x t _) refl))
    ∙ four (c.test_size true false) a.size b.size)

and_sized : (known : Option Bool) (j : Bool) (a b : ExprCode) → Sized a → Sized b → Sized (of_and known j a b)
and_sized None j a b h k = both_tests_sized a b h k
and_sized (Some true) j a b h k = truth_sized j b k
and_sized (Some false) j a b h k = operand_sized (truth_operand false)

or_sized : (known : Option Bool) (j : Bool) (a b : ExprCode) → Sized a → Sized b → Sized (of_or known j a b)
or_sized None j a b h k = either_test_sized a b h k
or_sized (Some true) j a b h k = operand_sized (truth_operand true)
or_sized (Some false) j a b h k = truth_sized j b k

conditional_sized : (known : Option Bool) (c a b : ExprCode) → Sized c → Sized a → Sized b → Sized (of_conditional known c a b)
conditional_sized None c a b g h k = choice_sized c a b g h k
conditional_sized (Some true) c a b g h k = h
conditional_sized (Some false) c a b g h k = k

pub sized : (v : ℕ) (e : CoreExprTree) → Sized (lowered v e)
sized v (core.literal s n) = operand_sized _
sized v core.null_pointer = operand_sized _
sized v (core.variable s x) = operand_sized _
sized v (core.temporary s k) = operand_sized _
sized v (core.address_of b) = operand_sized _
sized v (core.load s a) = load_sized s (lowered v a) (sized v a)
sized v (core.member offset a) = address_sized _ (behind_sized (lowered v a) offset (sized v a))
sized v (core.unary op a) = simple_or_sized ((lowered v a).simple >>= unary_of op) _ (compound_sized op (gives_integer a) (gives_truth a) (lowered v a) (sized v a))
sized v (core.binary op a b) =
    simple_or_sized (folded op (lowered v a).simple (lowered v b).simple) _
    (stepped_sized (constant_step op (lowered v b).simple) (lowered v a) _ (sized v a)
    (operation_sized op (lowered v a) (lowered v b) (sized v a) (sized v b)))
sized v (core.conversion s a) = conversion_sized s (is_idle s a) (lowered v a) (sized v a)
sized v (core.logical_and a b) = and_sized (lowered v a).known (gives_truth b) _ _ (sized v a) (sized v b)
sized v (core.logical_or a b) = or_sized (lowered v a).known (gives_truth b) _ _ (sized v a) (sized v b)
sized v (core.conditional c a b) = conditional_sized (lowered v c).known _ _ _ (sized v c) (sized v a) (sized v b)

pub all_length : (v : ℕ) (es : List CoreExprTree) (t at : ℕ) → length (all_code (map (lowered v) es) t at) ≡ all_size (map (lowered v) es)
all_length v [] t at = refl
all_length v (e ∷ es) t at = both _ _ _ _ (code_length (lowered v e) (sized v e).into t at) (all_length v es _ _)
