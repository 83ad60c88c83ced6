-- The assertions of a called function at a call of it.
use Rattle.std.proofs.Common.{◌≡◌, ℕ, zero, suc, true, false, if◌then◌else◌, List, [], ◌∷◌, map, Option, Some, None, ◌⊎◌, inl, inr, ⊎_elim, refl, sym, ap, ◌∙◌}
use Rattle.std.specs.Prelude.{is_none, ℤ}
use Rattle.std.specs.List.{slice_get}
use Rattle.std.proofs.lemmas.Bool.{or_parts, and_parts}
use Rattle.std.proofs.lemmas.Option.{same_Some}
use Rattle.qs_memory.specs.Partial.{◌>>=◌}
use Rattle.qs_memory.specs.Values.{Value, integer}
use Rattle.qs_memory.specs.Memory.{Memory}
use Rattle.qs_memory.specs.Integers.{calculate, minus}
use Rattle.qs_memory.specs.Operations.{on_integer, on_integers}
use Rattle.qs_memory.specs.Values.{convert}
use Rattle.qs_memory.specs.declared.scalar.Scalar.{Scalar}
use Rattle.qs_memory.specs.declared.operation.Signedness.{Signedness}
use Rattle.qs_memory.specs.declared.operation.Arithmetic.{Arithmetic}
use Rattle.qs_memory.specs.declared.operation.Arithmetic.TheVariants as arithmetics
use Rattle.qs_memory.specs.declared.operation.UnaryOperation.{UnaryOperation}
use Rattle.qs_memory.specs.declared.operation.UnaryOperation.TheVariants as unaries
use Rattle.qs_memory.specs.declared.operation.BinaryOperation.{BinaryOperation}
use Rattle.qs_memory.specs.declared.operation.BinaryOperation.TheVariants as binaries
use Rattle.qs_memory.proofs.Options.{followed, only_if_some}
use Rattle.qs_events.specs.Weights.{Costs}
use Rattle.qs_assert.specs.declared.define.Define.{Define}
use Rattle.qs_assert.specs.declared.variable.VarKind.{VarKind}
use Rattle.qs_assert.specs.declared.variable.VarKind.TheVariants as kinds
use Rattle.qs_assert.specs.declared.variable.Var.{Var}
use Rattle.qs_assert.specs.Images.{assertion_image}
use Rattle.qs_assert.specs.Simultaneous.{first_without}
use Rattle.qs_assert.specs.Trees.{TermTree, AssertionTree}
use Rattle.qs_assert.specs.Values.{State, term_value, value}
use Rattle.qs_assert.specs.Variables.{variables}
use Rattle.qs_assert.proofs.Agreement.{value_agrees}
use Rattle.qs_assert.proofs.SamenessLaws.{assertion_same}
use Rattle.qs_assert.proofs.VariableLaws.{of_its_variables}
use Rattle.qs_core.specs.Trees.{CoreExprTree, literal, null_pointer, variable, temporary, address_of, load, member, unary, binary, conversion, logical_and, logical_or, conditional, CoreFunctionTree}
use Rattle.qs_core.specs.Expressions.{Locals, type_of}
use Rattle.qs_core.specs.Expressions as expressions
use Rattle.qs_core.specs.Interfaces.{parameter_types}
use Rattle.qs_core.specs.Fits.{mentions, any_mentions, parameters_fit}
use Rattle.qs_core.specs.TermTrees.{CoreTermTree}
use Rattle.qs_core.specs.Terms.{literal_of, arithmetic_term, wrapped_both, divisor, power, term_of}
use Rattle.qs_core.specs.declared.term.TermOperation.{TermOperation}
use Rattle.qs_core.specs.declared.term.TermOperation.TheVariants.{Add, Subtract, Multiply}
use Rattle.qs_triples.specs.Derivations.{SpecTree}
use Rattle.qs_triples.specs.Valuations.{is_own, number_at, entered, at_entry, at_exit}
use Rattle.qs_triples.specs.Mentions.{in_pre, in_post, may_mention, destination_term, pre_term, post_term, pre_images, post_images, as_old}
use Rattle.qs_triples.specs.Rules.{at_call, is_balanced}
use Rattle.qs_triples.proofs.Answers.{none_found, some_there}
use Rattle.qs_triples.proofs.Names.{seen}
use Rattle.qs_triples.proofs.ValuationLaws.{Means, image_value}
use Rattle.qs_triples.proofs.ArgumentLaws.{TermsAre, parameter_number}
use Rattle.qs_triples.proofs.MomentLaws.{landed}

module _ (cost : Costs) (ds : List Define) (g : CoreFunctionTree) (fits : parameters_fit g.blocks 0 g.parameters g.variables ≡ true) (es : List CoreExprTree) (vs : List Value) (types : map type_of es ≡ parameter_types g) (numbers : Var → ℤ) (are : TermsAre g fits es vs types (seen cost ds numbers)) where
  abbrev here : State
  here = seen cost ds numbers

  pre_means : Means (pre_images g es) here (number_at g (at_entry g vs))
  pre_means x t is =
      let a = only_if_some (may_mention g (in_pre g) x) (pre_term es x x.kind) t is in
      let may = and_parts (in_pre g x.kind) (is_own g x) a.0 in
      by x.kind refl may.0 may.1 a.1
    where
      by : (k : VarKind) → x.kind ≡ k → in_pre g k ≡ true → is_own g x ≡ true → pre_term es x k ≡ Some t → term_value t here ≡ number_at g (at_entry g vs) x
      by (kinds.Plain i) kind plain own term = parameter_number g fits es vs types here are (at_entry g vs) kinds.Plain (λ i. refl) (λ i. refl) i x t kind plain own term
      by (kinds.Temporary i) kind plain own term = cc
      by (kinds.Old i) kind plain own term = cc
      by kinds.Returned kind plain own term = cc

  -- the precondition has the value that it has at the arguments
  pub pre_at_call : (a : AssertionTree) → first_without (pre_images g es) a ≡ None → value (at_call (pre_images g es) a) here ≡ value a (seen cost ds (number_at g (at_entry g vs)))
  pre_at_call a none = image_value (pre_images g es) a cost ds numbers (number_at g (at_entry g vs)) none pre_means

  -- what the destination of the call must be: the result
  abbrev pub ResultsAre : Option ℕ → Option Value → Type 0
  ResultsAre destination result =
      (x : Var) (t : TermTree) → x.kind ≡ kinds.Returned → is_own g x ≡ true → destination_term destination x ≡ Some t
      → term_value t here ≡ number_at g (at_exit (entered g vs) result) x

  post_means : (destination : Option ℕ) (result : Option Value) → ResultsAre destination result → Means (post_images g destination es) here (number_at g (at_exit (entered g vs) result))
  post_means destination result results x t is =
      let a = only_if_some (may_mention g (in_post g) x) (post_term destination es x x.kind) t is in
      let may = and_parts (in_post g x.kind) (is_own g x) a.0 in
      by x.kind refl may.0 may.1 a.1
    where
      by : (k : VarKind) → x.kind ≡ k → in_post g k ≡ true → is_own g x ≡ true → post_term destination es x k ≡ Some t → term_value t here ≡ number_at g (at_exit (entered g vs) result) x
      by (kinds.Plain i) kind plain own term = cc
      by (kinds.Temporary i) kind plain own term = cc
      by (kinds.Old i) kind plain own term = parameter_number g fits es vs types here are (at_exit (entered g vs) result) kinds.Old (λ i. refl) (λ i. refl) i x t kind plain own term
      by kinds.Returned kind plain own term = results x t kind own term

  -- the postcondition has the value that it has at the return
  pub post_at_call :
      (destination : Option ℕ) (result : Option Value) → ResultsAre destination result → (a : AssertionTree)
      → first_without (post_images g destination es) a ≡ None
      → value (at_call (post_images g destination es) a) here ≡ value a (seen cost ds (number_at g (at_exit (entered g vs) result)))
  post_at_call destination result results a none =
      image_value (post_images g destination es) a cost ds numbers (number_at g (at_exit (entered g vs) result)) none (post_means destination result results)

-- a balanced specification has the same value at the return
pub balanced_at_call :
    (cost : Costs) (ds : List Define) (g : CoreFunctionTree) (es : List CoreExprTree) (vs : List Value) (spec : SpecTree) → is_balanced spec ≡ true
    → first_without (pre_images g es) spec.pre ≡ None → (result : Option Value)
    → value spec.post (seen cost ds (number_at g (at_exit (entered g vs) result))) ≡ value spec.pre (seen cost ds (number_at g (at_entry g vs)))
balanced_at_call cost ds g es vs spec even none result =
    let exit : State = seen cost ds (number_at g (at_exit (entered g vs) result)) in
    ap (λ (a : AssertionTree). value a exit) (assertion_same spec.post (assertion_image as_old spec.pre) even)
    ∙ value_agrees as_old spec.pre exit
    ∙ of_its_variables spec.pre exit (λ x. term_value (as_old x) exit) (number_at g (at_entry g vs)) (λ x mention.
    let t = some_there (pre_images g es x) (none_found (λ x. is_none (pre_images g es x)) (variables spec.pre) x none mention) in
    let a = only_if_some (may_mention g (in_pre g) x) (pre_term es x x.kind) t.0 t.1 in
    let may = and_parts (in_pre g x.kind) (is_own g x) a.0 in
    by x x.kind refl may.0)
  where
    by : (x : Var) (k : VarKind) → x.kind ≡ k → in_pre g k ≡ true → term_value (as_old x) (seen cost ds (number_at g (at_exit (entered g vs) result))) ≡ number_at g (at_entry g vs) x
    by x (kinds.Plain i) kind plain =
        ap (λ (k : VarKind). term_value (as_old (record { kind = k; number = x.number })) (seen cost ds (number_at g (at_exit (entered g vs) result)))) kind
        ∙ ap (λ (k : VarKind). number_at g (at_entry g vs) (record { kind = k; number = x.number })) (sym kind)
    by x (kinds.Temporary i) kind plain = cc
    by x (kinds.Old i) kind plain = cc
    by x kinds.Returned kind plain = cc

-- ---- an expression with a term reads or_parts the memory nor the temporary that a call's result goes to

abbrev pub IsApart : (destination : Option ℕ) → CoreExprTree → Type 0
IsApart None e = Unit {0}
IsApart (Some k) e = mentions k e ≡ false

apart_parts : (x : Option ℕ) (op : BinaryOperation) (a b : CoreExprTree) → IsApart x (binary op a b) → IsApart x a × IsApart x b
apart_parts None op a b h = (tt, tt)
apart_parts (Some k) op a b h = or_parts (mentions k a) (mentions k b) h

apart_of_unary : (x : Option ℕ) (op : UnaryOperation) (a : CoreExprTree) → IsApart x (unary op a) → IsApart x a
apart_of_unary None op a h = tt
apart_of_unary (Some k) op a h = h

apart_of_conversion : (x : Option ℕ) (s : Scalar) (a : CoreExprTree) → IsApart x (conversion s a) → IsApart x a
apart_of_conversion None s a h = tt
apart_of_conversion (Some k) s a h = h

pub apart_at : (x : Option ℕ) (k : ℕ) (es : List CoreExprTree) (i : ℕ) (e : CoreExprTree) → any_mentions k es ≡ false → slice_get es i ≡ Some e → mentions k e ≡ false
apart_at x k [] i e h is = cc
apart_at x k (a ∷ es) zero e h is = ap (mentions k) (sym (same_Some a e is)) ∙ (or_parts (mentions k a) (any_mentions k es) h).0
apart_at x k (a ∷ es) (suc i) e h is = apart_at x k es i e (or_parts (mentions k a) (any_mentions k es) h).1 is

landed_variable : (x : Option ℕ) (l : Locals) (v : Value) (y : ℕ) → (landed x l v).variables y ≡ l.variables y
landed_variable None l v y = refl
landed_variable (Some k) l v y = refl

landed_temporary : (x : Option ℕ) (l : Locals) (v : Value) (s : Scalar) (j : ℕ) → IsApart x (temporary s j) → (landed x l v).temporaries j ≡ l.temporaries j
landed_temporary None l v s j h = refl
landed_temporary (Some k) l v s j h = ap (λ b. if b then Some v else l.temporaries j) h

-- the operands of an operation with a term: the left one has a term, and the right one has one or is a literal
record Operands (left right : Option CoreTermTree) (bits : Option ℕ) : Type 0 where
  first : CoreTermTree
  left_is : left ≡ Some first
  right_is : ((t : CoreTermTree) × (right ≡ Some t)) ⊎ ((k : ℕ) × (bits ≡ Some k))

operands_of_both : (op : TermOperation) (s : Signedness) (left right : Option CoreTermTree) (bits : Option ℕ) (c : CoreTermTree) → wrapped_both op s left right ≡ Some c → Operands left right bits
operands_of_both op s left right bits c h =
    let a = followed left _ c h in
    let b = followed right _ c a.then in
    record { first = a.value; left_is = a.first; right_is = inl (b.value, b.first) }

literal_bits : {A : Type 0} (bits : Option ℕ) (f : ℕ → Option A) (y : A) → (bits >>= f) ≡ Some y → (k : ℕ) × (bits ≡ Some k)
literal_bits bits f y h = let a = followed bits f y h in (a.value, a.first)

operands_of_literal : (left right : Option CoreTermTree) (bits by : Option ℕ) (f : CoreTermTree → ℕ → CoreTermTree) (c : CoreTermTree) → (left >>= λ t. by >>= λ k. Some (f t k)) ≡ Some c → ((k : ℕ) → by ≡ Some k → (j : ℕ) × (bits ≡ Some j)) → Operands left right bits
operands_of_literal left right bits by f c h is =
    let a = followed left _ c h in
    let b = followed by _ c a.then in
    record { first = a.value; left_is = a.first; right_is = inr (is b.value b.first) }

operands : (op : Arithmetic) (s : Signedness) (left right : Option CoreTermTree) (bits : Option ℕ) (c : CoreTermTree) → arithmetic_term op s left right bits ≡ Some c → Operands left right bits
operands arithmetics.Add s left right bits c h = operands_of_both Add s left right bits c h
operands arithmetics.Subtract s left right bits c h = operands_of_both Subtract s left right bits c h
operands arithmetics.Multiply s left right bits c h = operands_of_both Multiply s left right bits c h
operands arithmetics.Divide s left right bits c h = operands_of_literal left right bits (divisor bits) _ c (only_if_some _ _ c h).1 (λ k is. literal_bits bits _ k is)
operands arithmetics.Remainder s left right bits c h = operands_of_literal left right bits (divisor bits) _ c (only_if_some _ _ c h).1 (λ k is. literal_bits bits _ k is)
operands arithmetics.ShiftLeft s left right bits c h = operands_of_literal left right bits (power bits) _ c h (λ k is. literal_bits bits _ k is)
operands arithmetics.ShiftRight s left right bits c h = operands_of_literal left right bits (power bits) _ c (only_if_some _ _ c h).1 (λ k is. literal_bits bits _ k is)
operands arithmetics.And s left right bits c h = cc
operands arithmetics.Or s left right bits c h = cc
operands arithmetics.Xor s left right bits c h = cc

literal_apart : (e : CoreExprTree) (k : ℕ) (l j : Locals) (m n : Memory) → literal_of e ≡ Some k → expressions.value e l m ≡ expressions.value e j n
literal_apart (literal s b) k l j m n h = refl
literal_apart _ k l j m n h = cc

pub value_apart : (x : Option ℕ) (l : Locals) (v : Value) (m n : Memory) (e : CoreExprTree) (c : CoreTermTree) → term_of e ≡ Some c → IsApart x e → expressions.value e (landed x l v) n ≡ expressions.value e l m
value_apart x l v m n (literal s b) c h away = refl
value_apart x l v m n null_pointer c h away = cc
value_apart x l v m n (variable s y) c h away = landed_variable x l v y
value_apart x l v m n (temporary s j) c h away = landed_temporary x l v s j away
value_apart x l v m n (address_of b) c h away = cc
value_apart x l v m n (load s a) c h away = cc
value_apart x l v m n (member offset a) c h away = cc
value_apart x l v m n (unary (unaries.Plus s) a) c h away = ap (λ (o : Option Value). o >>= on_integer (λ i. i)) (value_apart x l v m n a c h (apart_of_unary x (unaries.Plus s) a away))
value_apart x l v m n (unary (unaries.Minus s) a) c h away =
    let b = followed (term_of a) _ c h in
    ap (λ (o : Option Value). o >>= on_integer minus) (value_apart x l v m n a b.value b.first (apart_of_unary x (unaries.Minus s) a away))
value_apart x l v m n (unary (unaries.Complement s) a) c h away = cc
value_apart x l v m n (unary unaries.Not a) c h away = cc
value_apart x l v m n (unary unaries.Truth a) c h away = cc
value_apart x l v m n (binary (binaries.Arithmetic op s) a b) c h away =
    let parts = apart_parts x (binaries.Arithmetic op s) a b away in
    let two = operands op s (term_of a) (term_of b) (literal_of b) c h in
    let first = value_apart x l v m n a two.first two.left_is parts.0 in
    let second : expressions.value b (landed x l v) n ≡ expressions.value b l m =
    ⊎_elim (λ (t : (t : CoreTermTree) × (term_of b ≡ Some t)). value_apart x l v m n b t.0 t.1 parts.1)
    (λ (k : (k : ℕ) × (literal_of b ≡ Some k)). literal_apart b k.0 (landed x l v) l n m k.1) two.right_is in
    λ i. first i >>= λ p. second i >>= λ q. on_integers (λ y z. calculate op s y z >>= λ r. Some (integer r)) p q
value_apart x l v m n (binary (binaries.Compare op s) a b) c h away = cc
value_apart x l v m n (binary (binaries.Move direction s element) a b) c h away = cc
value_apart x l v m n (binary (binaries.Difference element) a b) c h away = cc
value_apart x l v m n (binary (binaries.ComparePointers op) a b) c h away = cc
value_apart x l v m n (conversion s a) c h away =
    let b = followed (term_of a) _ c h in
    ap (λ (o : Option Value). o >>= convert s) (value_apart x l v m n a b.value b.first (apart_of_conversion x s a away))
value_apart x l v m n (logical_and a b) c h away = cc
value_apart x l v m n (logical_or a b) c h away = cc
value_apart x l v m n (conditional e a b) c h away = cc
