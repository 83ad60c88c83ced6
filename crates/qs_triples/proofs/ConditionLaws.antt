-- The condition of an expression holds exactly where the expression isn't 0.
use Rattle.std.proofs.Common.{◌≡◌, ℕ, ◌<◌, ◌==◌, Bool, true, false, if◌then◌else◌, List, Option, Some, None, refl, sym, ap, ◌∙◌, subst, arith}
use Rattle.std.specs.Prelude.{ℤ, pos, ◌-ℤ◌, ◌&&◌, ◌||◌, int_le, int_lt, nat_lt, option_map}
use Rattle.std.specs.Prelude.{not as flip}
use Rattle.std.specs.Ordering.{int_eq}
use Rattle.std.proofs.lemmas.Int.{ints}
use Rattle.std.proofs.lemmas.Bool.Decides.{nat_tests}
use Rattle.std.proofs.lemmas.Option.{same_Some}
use Rattle.std.proofs.Math.Bool.{and-true, or-false}
use Rattle.qs_base.specs.Words.{signed}
use Rattle.qs_memory.specs.Partial.{◌>>=◌}
use Rattle.qs_memory.specs.Values.{Value, integer, has_type}
use Rattle.qs_memory.specs.Memory.{Memory}
use Rattle.qs_memory.specs.Pointers.{truth}
use Rattle.qs_memory.specs.Integers.{reading, compares}
use Rattle.qs_memory.specs.Operations.{of_truth, apply_binary, integer_type}
use Rattle.qs_memory.specs.Scalars.{same_scalar, is_integer}
use Rattle.qs_memory.specs.Operands.{unary_takes, binary_takes}
use Rattle.qs_memory.proofs.ScalarLaws.{scalar_same}
use Rattle.qs_memory.specs.declared.scalar.Scalar.{Scalar}
use Rattle.qs_memory.specs.declared.scalar.Scalar.TheVariants as scalars
use Rattle.qs_memory.specs.declared.operation.Signedness.{Signedness}
use Rattle.qs_memory.specs.declared.operation.Signedness.TheVariants.{Signed, Unsigned}
use Rattle.qs_memory.specs.declared.operation.Comparison.{Comparison}
use Rattle.qs_memory.specs.declared.operation.Comparison.TheVariants as comparisons
use Rattle.qs_memory.specs.declared.operation.UnaryOperation.TheVariants as unaries
use Rattle.qs_memory.specs.declared.operation.BinaryOperation.TheVariants as binaries
use Rattle.qs_memory.proofs.Options.{followed}
use Rattle.qs_calls.specs.World.{World, Environment}
use Rattle.qs_assert.specs.Trees.{TermTree, CondTree}
use Rattle.qs_assert.specs.Values.{State, Extended, term_value, holds}
use Rattle.qs_core.specs.Trees.{CoreExprTree, literal, null_pointer, variable, temporary, address_of, load, member, unary, binary, conversion, logical_and, logical_or, conditional, CoreFunctionTree, CoreUnitTree}
use Rattle.qs_core.specs.Expressions.{Locals, value, truth_value, type_of}
use Rattle.qs_core.specs.Fits.{expr_fits}
use Rattle.qs_core.specs.Ranges.{IsInRange}
use Rattle.qs_core.specs.TermTrees.{CoreTermTree, CoreConditionTree, and, or}
use Rattle.qs_core.specs.Terms.{term_of, comparison, nonzero, comparison_of, condition_of}
use Rattle.qs_core.proofs.FitLaws as fit_laws
use Rattle.qs_core.proofs.TypeLaws.{value_is_of}
use Rattle.qs_triples.specs.Valuations.{number_of, number_type}
use Rattle.qs_triples.specs.ExpressionTerms.{term_tree, condition_tree, expression_condition}
use Rattle.qs_triples.proofs.TermLaws.{numbered, size, bits_of, wide_small, wide_integer, unsigned_numbered, signed_numbered, char_numbered, Stands, state, stands}

-- ---- comparisons of numbers

equal_numbers : (x y : ℕ) → int_eq (pos x) (pos y) ≡ (x == y)
equal_numbers x y = grind (arith, ints, nat_tests)

abbrev signed_by : Bool → ℕ → ℤ
signed_by b x = if b then pos x else pos x -ℤ pos 4294967296

equal_signed : (x y : ℕ) → x < 4294967296 → y < 4294967296 → int_eq (signed x) (signed y) ≡ (x == y)
equal_signed x y h k = by (nat_lt x 2147483648) (nat_lt y 2147483648) refl refl
  where
    by : (b c : Bool) → nat_lt x 2147483648 ≡ b → nat_lt y 2147483648 ≡ c → int_eq (signed_by b x) (signed_by c y) ≡ (x == y)
    by true true e f = grind (arith, ints, nat_tests)
    by true false e f = grind (arith, ints, nat_tests, e, f, h, k)
    by false true e f = grind (arith, ints, nat_tests, e, f, h, k)
    by false false e f = grind (arith, ints, nat_tests)

pub equal_numbered : (s : Scalar) (x y : ℕ) → is_integer s ≡ true → x < size s → y < size s → int_eq (numbered s x) (numbered s y) ≡ (x == y)
equal_numbered scalars.Char x y i h k = ap (λ z. int_eq z (numbered scalars.Char y)) (char_numbered x h) ∙ ap (int_eq (pos x)) (char_numbered y k) ∙ equal_numbers x y
equal_numbered scalars.Int x y i h k = ap (λ z. int_eq z (numbered scalars.Int y)) (signed_numbered x h) ∙ ap (int_eq (signed x)) (signed_numbered y k) ∙ equal_signed x y h k
equal_numbered scalars.Unsigned x y i h k = ap (λ z. int_eq z (numbered scalars.Unsigned y)) (unsigned_numbered x h) ∙ ap (int_eq (pos x)) (unsigned_numbered y k) ∙ equal_numbers x y
equal_numbered scalars.Pointer x y i h k = cc

zero_numbered : (s : Scalar) → is_integer s ≡ true → numbered s 0 ≡ pos 0
zero_numbered scalars.Char i = refl
zero_numbered scalars.Int i = refl
zero_numbered scalars.Unsigned i = refl
zero_numbered scalars.Pointer i = cc

some_size : (s : Scalar) → is_integer s ≡ true → 0 < size s
some_size scalars.Char i = omega arith
some_size scalars.Int i = omega arith
some_size scalars.Unsigned i = omega arith
some_size scalars.Pointer i = cc

read_numbered : (s : Signedness) (x : ℕ) → x < 4294967296 → numbered (integer_type s) x ≡ reading s x
read_numbered Signed x h = signed_numbered x h
read_numbered Unsigned x h = unsigned_numbered x h

at_most_turned : (a b : ℤ) → int_le a b ≡ flip (int_lt b a)
at_most_turned a b = grind (arith, ints)

-- ---- truth

truth_of : (m : Memory) (b d : Bool) → truth m (of_truth b) ≡ Some d → b ≡ d
truth_of m true d h = same_Some true d h
truth_of m false d h = same_Some false d h

module _ (st : State) (m : Memory) where
  nonzero_holds : (s : Scalar) (v : Value) (t : TermTree) (d : Bool) → has_type s v ≡ true → Stands s v (term_value t st) → truth m v ≡ Some d → holds (CondTree.ne t (TermTree.number (pos 0))) st ≡ d
  nonzero_holds s v t d typed h j =
      let b = bits_of s v h.integer typed in
      let reads : term_value t st ≡ numbered s b.bits = h.number ∙ ap (λ (v : Value). number_of v (number_type s)) b.is in
      let told : flip (b.bits == 0) ≡ d = same_Some (flip (b.bits == 0)) d (ap (truth m) (sym b.is) ∙ j) in
      ap flip (ap (λ z. int_eq z (pos 0)) reads ∙ ap (int_eq (numbered s b.bits)) (sym (zero_numbered s h.integer)) ∙ equal_numbered s b.bits 0 h.integer b.small (some_size s h.integer)) ∙ told

  compared_holds :
      (op : Comparison) (s : Signedness) (t u : CoreTermTree) (x y : ℕ) → x < 4294967296 → y < 4294967296
      → term_value (term_tree t) st ≡ numbered (integer_type s) x → term_value (term_tree u) st ≡ numbered (integer_type s) y
      → holds (condition_tree (comparison op t u)) st ≡ compares op s x y
  compared_holds comparisons.Less s t u x y xs ys h k = ap (λ z. int_lt z (term_value (term_tree u) st)) (h ∙ read_numbered s x xs) ∙ ap (int_lt (reading s x)) (k ∙ read_numbered s y ys)
  compared_holds comparisons.LessOrEqual s t u x y xs ys h k = ap (λ z. int_le z (term_value (term_tree u) st)) (h ∙ read_numbered s x xs) ∙ ap (int_le (reading s x)) (k ∙ read_numbered s y ys) ∙ at_most_turned (reading s x) (reading s y)
  compared_holds comparisons.Greater s t u x y xs ys h k = ap (λ z. int_lt z (term_value (term_tree t) st)) (k ∙ read_numbered s y ys) ∙ ap (int_lt (reading s y)) (h ∙ read_numbered s x xs)
  compared_holds comparisons.GreaterOrEqual s t u x y xs ys h k = ap (λ z. int_le z (term_value (term_tree t) st)) (k ∙ read_numbered s y ys) ∙ ap (int_le (reading s y)) (h ∙ read_numbered s x xs) ∙ at_most_turned (reading s y) (reading s x)
  compared_holds comparisons.Equal s t u x y xs ys h k = ap (λ z. int_eq z (term_value (term_tree u) st)) h ∙ ap (int_eq (numbered (integer_type s) x)) k ∙ equal_numbered (integer_type s) x y (wide_integer s) (small s x xs) (small s y ys)
    where
      small : (s : Signedness) (x : ℕ) → x < 4294967296 → x < size (integer_type s)
      small Signed x h = h
      small Unsigned x h = h
  compared_holds comparisons.NotEqual s t u x y xs ys h k = ap flip (ap (λ z. int_eq z (term_value (term_tree u) st)) h ∙ ap (int_eq (numbered (integer_type s) x)) k ∙ equal_numbered (integer_type s) x y (wide_integer s) (small s x xs) (small s y ys))
    where
      small : (s : Signedness) (x : ℕ) → x < 4294967296 → x < size (integer_type s)
      small Signed x h = h
      small Unsigned x h = h

module _ (u : CoreUnitTree) (f : CoreFunctionTree) (l : Locals) (w : World) (range : IsInRange u f l w) (old : Environment) (costs : ℕ → ℕ) (names : List ℕ → Option Extended) where
  abbrev here : State
  here = state u f l w range old costs names

  abbrev Holds : CoreConditionTree → Bool → Type 0
  Holds c d = holds (condition_tree c) here ≡ d

  at_condition : (c k : CoreConditionTree) (d : Bool) → c ≡ k → Holds c d → Holds k d
  at_condition c k d e h = subst (λ (c : CoreConditionTree). Holds c d) e h

  term_stands : (e : CoreExprTree) (c : CoreTermTree) (v : Value) → expr_fits u f e ≡ true → term_of e ≡ Some c → value e l w.memory ≡ Some v → Stands (type_of e) v (term_value (term_tree c) here)
  term_stands e c v fits h j = stands u f l w range old costs names e c v fits h j

  has_its_type : (e : CoreExprTree) (v : Value) → expr_fits u f e ≡ true → value e l w.memory ≡ Some v → has_type (type_of e) v ≡ true
  has_its_type e v fits h = (value_is_of u f e l w v fits range h).typed

  number_case : (e : CoreExprTree) (k : CoreConditionTree) (v : Value) (d : Bool) → expr_fits u f e ≡ true → nonzero (term_of e) ≡ Some k → value e l w.memory ≡ Some v → truth w.memory v ≡ Some d → Holds k d
  number_case e k v d fits h j t =
      let a = followed (term_of e) _ k h in
      at_condition _ k d (same_Some _ k a.then)
      (nonzero_holds here w.memory (type_of e) v (term_tree a.value) d (has_its_type e v fits j) (term_stands e a.value v fits a.first j) t)

  compare_case :
      (op : Comparison) (s : Signedness) (a b : CoreExprTree) (k : CoreConditionTree) (v : Value) (d : Bool)
      → expr_fits u f (binary (binaries.Compare op s) a b) ≡ true → comparison_of op (term_of a) (term_of b) ≡ Some k
      → value (binary (binaries.Compare op s) a b) l w.memory ≡ Some v → truth w.memory v ≡ Some d → Holds k d
  compare_case op s a b k v d fits h j t =
      let takes = fit_laws.both (expr_fits u f a && expr_fits u f b) (binary_takes (binaries.Compare op s) (type_of a) (type_of b)) fits in
      let fit = fit_laws.both (expr_fits u f a) (expr_fits u f b) takes.0 in
      let types = fit_laws.both (same_scalar (type_of a) (integer_type s)) (same_scalar (type_of b) (integer_type s)) takes.1 in
      let ta = scalar_same (type_of a) (integer_type s) types.0 in
      let tb = scalar_same (type_of b) (integer_type s) types.1 in
      let c = followed (term_of a) _ k h in
      let e = followed (term_of b) _ k c.then in
      let p = followed (value a l w.memory) _ v j in
      let q = followed (value b l w.memory) _ v p.then in
      let pb = bits_of (type_of a) p.value (ap is_integer ta ∙ wide_integer s) (has_its_type a p.value fit.0 p.first) in
      let qb = bits_of (type_of b) q.value (ap is_integer tb ∙ wide_integer s) (has_its_type b q.value fit.1 q.first) in
      let xs = wide_small s pb.bits (subst (λ (t : Scalar). pb.bits < size t) ta pb.small) in
      let ys = wide_small s qb.bits (subst (λ (t : Scalar). qb.bits < size t) tb qb.small) in
      let reads_a = (term_stands a c.value p.value fit.0 c.first p.first).number ∙ ap (λ (v : Value). number_of v (number_type (type_of a))) pb.is ∙ ap (λ (t : Scalar). numbered t pb.bits) ta in
      let reads_b = (term_stands b e.value q.value fit.1 e.first q.first).number ∙ ap (λ (v : Value). number_of v (number_type (type_of b))) qb.is ∙ ap (λ (t : Scalar). numbered t qb.bits) tb in
      let told : of_truth (compares op s pb.bits qb.bits) ≡ v =
      same_Some _ v (ap (λ (p : Value). apply_binary (binaries.Compare op s) w.memory p (integer qb.bits)) (sym pb.is) ∙ ap (λ (q : Value). apply_binary (binaries.Compare op s) w.memory p.value q) (sym qb.is) ∙ q.then) in
      at_condition (comparison op c.value e.value) k d (same_Some _ k e.then)
      (compared_holds here w.memory op s c.value e.value pb.bits qb.bits xs ys reads_a reads_b ∙ truth_of w.memory (compares op s pb.bits qb.bits) d (ap (truth w.memory) told ∙ t))

  -- what the second operand of `&&` or `||` tells
  second_told : (o : Option Value) (v : Value) (d : Bool) → (o >>= λ x. truth_value w.memory x) ≡ Some v → truth w.memory v ≡ Some d → (x : Value) × (o ≡ Some x) × (truth w.memory x ≡ Some d)
  second_told o v d h t =
      let a = followed o _ v h in
      let b = followed (truth w.memory a.value) _ v a.then in
      (a.value, a.first, b.first ∙ ap Some (truth_of w.memory b.value d (ap (truth w.memory) (same_Some _ v b.then) ∙ t)))

  and_case :
      (c k : CoreConditionTree) (first : Bool) (o : Option Value) (v : Value) (d : Bool)
      → holds (condition_tree c) here ≡ first → (if first then (o >>= λ x. truth_value w.memory x) else Some (of_truth false)) ≡ Some v
      → truth w.memory v ≡ Some d
      → ((x : Value) → o ≡ Some x → truth w.memory x ≡ Some d → Holds k d) → Holds (and c k) d
  and_case c k true o v d is h t second =
      let a = second_told o v d h t in
      ap (λ b. b && (holds (condition_tree k) here && true)) is ∙ and-true (holds (condition_tree k) here) ∙ second a.0 a.1 a.2
  and_case c k false o v d is h t second =
      ap (λ b. b && (holds (condition_tree k) here && true)) is ∙ truth_of w.memory false d (ap (truth w.memory) (same_Some (of_truth false) v h) ∙ t)

  or_case :
      (c k : CoreConditionTree) (first : Bool) (o : Option Value) (v : Value) (d : Bool)
      → holds (condition_tree c) here ≡ first → (if first then Some (of_truth true) else (o >>= λ x. truth_value w.memory x)) ≡ Some v
      → truth w.memory v ≡ Some d
      → ((x : Value) → o ≡ Some x → truth w.memory x ≡ Some d → Holds k d) → Holds (or c k) d
  or_case c k false o v d is h t second =
      let a = second_told o v d h t in
      ap (λ b. b || (holds (condition_tree k) here || false)) is ∙ or-false (holds (condition_tree k) here) ∙ second a.0 a.1 a.2
  or_case c k true o v d is h t second =
      ap (λ b. b || (holds (condition_tree k) here || false)) is ∙ truth_of w.memory true d (ap (truth w.memory) (same_Some (of_truth true) v h) ∙ t)

  pub condition_holds : (e : CoreExprTree) (k : CoreConditionTree) (v : Value) (d : Bool) → expr_fits u f e ≡ true → condition_of e ≡ Some k → value e l w.memory ≡ Some v → truth w.memory v ≡ Some d → Holds k d
  condition_holds (literal s n) k v d fits h j t = number_case (literal s n) k v d fits h j t
  condition_holds null_pointer k v d fits h j t = cc
  condition_holds (variable s x) k v d fits h j t = number_case (variable s x) k v d fits h j t
  condition_holds (temporary s x) k v d fits h j t = number_case (temporary s x) k v d fits h j t
  condition_holds (address_of b) k v d fits h j t = cc
  condition_holds (load s a) k v d fits h j t = cc
  condition_holds (member offset a) k v d fits h j t = cc
  condition_holds (unary (unaries.Plus s) a) k v d fits h j t = number_case (unary (unaries.Plus s) a) k v d fits h j t
  condition_holds (unary (unaries.Minus s) a) k v d fits h j t = number_case (unary (unaries.Minus s) a) k v d fits h j t
  condition_holds (unary (unaries.Complement s) a) k v d fits h j t = cc
  condition_holds (unary unaries.Not a) k v d fits h j t =
      let fit = fit_laws.both (expr_fits u f a) (unary_takes unaries.Not (type_of a)) fits in
      let c = followed (condition_of a) _ k h in
      let p = followed (value a l w.memory) _ v j in
      let b = followed (truth w.memory p.value) _ v p.then in
      at_condition _ k d (same_Some _ k c.then)
      (ap flip (condition_holds a c.value p.value b.value fit.0 c.first p.first b.first) ∙ truth_of w.memory (flip b.value) d (ap (truth w.memory) (same_Some _ v b.then) ∙ t))
  condition_holds (unary unaries.Truth a) k v d fits h j t = cc
  condition_holds (binary (binaries.Arithmetic op s) a b) k v d fits h j t = number_case (binary (binaries.Arithmetic op s) a b) k v d fits h j t
  condition_holds (binary (binaries.Compare op s) a b) k v d fits h j t = compare_case op s a b k v d fits h j t
  condition_holds (binary (binaries.Move direction s element) a b) k v d fits h j t = cc
  condition_holds (binary (binaries.Difference element) a b) k v d fits h j t = cc
  condition_holds (binary (binaries.ComparePointers op) a b) k v d fits h j t = cc
  condition_holds (conversion s a) k v d fits h j t = number_case (conversion s a) k v d fits h j t
  condition_holds (logical_and a b) k v d fits h j t =
      let fit = fit_laws.both (expr_fits u f a) (expr_fits u f b) fits in
      let c = followed (condition_of a) _ k h in
      let e = followed (condition_of b) _ k c.then in
      let p = followed (value a l w.memory) _ v j in
      let q = followed (truth w.memory p.value) _ v p.then in
      at_condition _ k d (same_Some _ k e.then)
      (and_case c.value e.value q.value (value b l w.memory) v d (condition_holds a c.value p.value q.value fit.0 c.first p.first q.first) q.then t
      (λ x is told. condition_holds b e.value x d fit.1 e.first is told))
  condition_holds (logical_or a b) k v d fits h j t =
      let fit = fit_laws.both (expr_fits u f a) (expr_fits u f b) fits in
      let c = followed (condition_of a) _ k h in
      let e = followed (condition_of b) _ k c.then in
      let p = followed (value a l w.memory) _ v j in
      let q = followed (truth w.memory p.value) _ v p.then in
      at_condition _ k d (same_Some _ k e.then)
      (or_case c.value e.value q.value (value b l w.memory) v d (condition_holds a c.value p.value q.value fit.0 c.first p.first q.first) q.then t
      (λ x is told. condition_holds b e.value x d fit.1 e.first is told))
  condition_holds (conditional e a b) k v d fits h j t = cc

  -- the condition of an expression that has one
  pub expression_holds : (e : CoreExprTree) (c : CondTree) (v : Value) (d : Bool) → expr_fits u f e ≡ true → expression_condition e ≡ Some c → value e l w.memory ≡ Some v → truth w.memory v ≡ Some d → holds c here ≡ d
  expression_holds e c v d fits h j t = by (condition_of e) refl h
    where
      by : (o : Option CoreConditionTree) → condition_of e ≡ o → option_map condition_tree o ≡ Some c → holds c here ≡ d
      by None is h = cc
      by (Some k) is h = subst (λ (c : CondTree). holds c here ≡ d) (same_Some (condition_tree k) c h) (condition_holds e k v d fits is j t)
