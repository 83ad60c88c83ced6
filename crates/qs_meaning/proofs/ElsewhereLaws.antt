-- A run of a unit whose tree fits comes to no place where the meaning has no answer for none of the nine cases.
use Rattle.std.proofs.Common.{◌≡◌, ◌⊎◌, inl, inr, ℕ, zero, suc, ◌+◌, ◌-◌, ◌%◌, ◌^◌, ◌<◌, ◌≤◌, ◌&&◌, not, Bool, true, false, List, [], ◌∷◌, length, map, Option, Some, None, is_some, IsSome, option_map, ◌||◌, refl, sym, ap, ◌∙◌, subst, arith, if◌then◌else◌}
use Rattle.std.specs.Prelude.{All}
use Rattle.std.specs.List.{slice_get, list_all}
use Rattle.std.proofs.lemmas.Bool.Decides.{nat_tests}
use Rattle.std.proofs.lemmas.List.Elements.{All-head, All-tail}
use Rattle.std.proofs.lemmas.Option.{slice_get-map}
use Rattle.std.proofs.Math.Nat.{zero-mul}
use Rattle.std.proofs.lemmas.Bool.{and_parts, and_from, cases_eq}
use Rattle.std.proofs.lemmas.Option.{slice_get_within, get_or_from_slice_get}
use Rattle.qs_memory.specs.Partial.{◌>>=◌}
use Rattle.qs_memory.specs.Values.{into, Value, integer, address, width, as_integer, as_pointer, has_type}
use Rattle.qs_memory.specs.Memory.{Cell, Block, Memory, block_at, range, cells_of, write_cells, new_block, load, make, release}
use Rattle.qs_memory.specs.Memory as blocks
use Rattle.qs_memory.specs.Pointers.{member_of, truth}
use Rattle.qs_memory.specs.Operations.{apply_unary, apply_binary, integer_type, binary_type}
use Rattle.qs_memory.specs.Soundness.{IsLive, IsSoundPointer, ComesAfter}
use Rattle.qs_memory.specs.Accesses.{AreWritten}
use Rattle.qs_memory.specs.Scalars.{same_scalar, is_pointer, is_type}
use Rattle.qs_memory.specs.Operands.{unary_takes, right_takes, binary_takes}
use Rattle.qs_memory.proofs.ScalarLaws.{scalar_same, type_is}
use Rattle.qs_memory.specs.declared.scalar.Scalar.{Scalar}
use Rattle.qs_memory.specs.declared.scalar.Scalar.TheVariants as scalars
use Rattle.qs_memory.specs.declared.operation.Signedness.{Signedness}
use Rattle.qs_memory.specs.declared.operation.Signedness.TheVariants.{Signed, Unsigned}
use Rattle.qs_memory.specs.declared.operation.Arithmetic.{Arithmetic}
use Rattle.qs_memory.specs.declared.operation.Arithmetic.TheVariants as arithmetics
use Rattle.qs_memory.specs.declared.operation.UnaryOperation.{UnaryOperation}
use Rattle.qs_memory.specs.declared.operation.UnaryOperation.TheVariants as unaries
use Rattle.qs_memory.specs.declared.operation.BinaryOperation.{BinaryOperation}
use Rattle.qs_memory.specs.declared.operation.BinaryOperation.TheVariants as binaries
use Rattle.qs_memory.proofs.Options.{followed}
use Rattle.qs_memory.proofs.BlockLaws.{after_make, after_release, after_same, after_next, blocks_are_fresh}
use Rattle.qs_memory.proofs.StepLaws.{memory_goes_on}
use Rattle.qs_memory.proofs.WriteLaws.{writes_are_exact}
use Rattle.qs_memory.proofs.SoundLaws.{soundness_is_kept}
use Rattle.qs_memory.proofs.ValueLaws.{values_are_sound}
use Rattle.qs_events.specs.Events as events
use Rattle.qs_events.specs.Runs.{emit, given}
use Rattle.qs_calls.specs.World.{World, with_memory, RootRun, Return, leaves, Environment, no_values, with_value}
use Rattle.qs_calls.specs.Calls.{CallsOf, take_byte, get_char, put_char, invoke, Entered, pass}
use Rattle.qs_calls.specs.Starts.{Signature, Interface, signature_of, result_type_of, IsOf, AreOf, ResultIsOf, IsReady, Takes, IsReturn}
use Rattle.qs_calls.proofs.StartLaws.{is_of_later, are_of_later, result_is_of_later, ready_later}
use Rattle.qs_calls.specs.declared.callee.Callee.{Callee}
use Rattle.qs_calls.specs.declared.callee.Callee.TheVariants as callees
use Rattle.qs_calls.specs.declared.parameter.Parameter.{Parameter}
use Rattle.qs_calls.specs.declared.parameter.Parameter.TheVariants.{Plain, Placed}
use Rattle.qs_meaning.specs.Typed.{Conversion, unchanged, Order, as_written, exchanged, Object, local, static, Expr, constant, value, pointer_to, member, called, stepped_after, unary, cast, binary, logical_and, logical_or, conditional, assigned, sequence, Lvalue, variable, object, Arguments, no_arguments, argument_and, Assignment, set, update, Effect, nothing, discard, assign, perform, copy, fill, in_order, Stmt, evaluate, block, branch, switch, case_label, default_label, while_loop, do_loop, for_loop, break, continue, return, return_nothing, Stmts, no_stmts, stmt_and, Function}
use Rattle.qs_meaning.specs.Interfaces.{types_of, signature, interface_of}
use Rattle.qs_meaning.specs.Fits.{type_after, assigned_type, type_of, conversion_fits, is_null, amount_type, is_size, takes_in_order, object_there, taken, is_whole_local, becomes, result_fits, operand_fits, labels_fit, expr_fits, lvalue_fits, arguments_fit, assignment_fits, effect_fits, returned_fits, option_fits, stmt_fits, stmts_fit, place_fits, parameters_placed, end_fits, function_fits}
use Rattle.qs_meaning.specs.States.{Next, Here, choose, test, convert_by, pointer_at, Place, in_variable, in_object, read, write}
use Rattle.qs_meaning.specs.Meaning.{in_their_order, operation_value, updated_value, step_amount, expression, lvalue, arguments, assignment, effect, Targets, in_loop, in_switch, is_case, is_default, turns, condition, for_condition, statement, statements, behind_label}
use Rattle.qs_meaning.specs.Runs.{result_at_end, calls_within}
use Rattle.qs_meaning.specs.Ranges.{VariablesAreOf, IsMoment, NextInRange, ReturnsInRange, CallsInRange}
use Rattle.qs_meaning.specs.Elsewhere as elsewhere
use Rattle.qs_meaning.specs.Elsewhere.{is_number, is_address, takes_value, takes_values}
use Rattle.qs_meaning.specs.NineCases.{NoOtherPlace}
use Rattle.qs_meaning.proofs.Options.{goes, never}
use Rattle.qs_meaning.proofs.StepNeeds.{is_integer_at, no_integer, word_is_integer, promoted_no_pointer, steps_on_types_are_defined}
use Rattle.qs_meaning.proofs.TypedValues.{all_at, number_is_of, converted_is_of, unary_is_of, operation_is_of, updated_is_of, variables_later, no_values_are_of, with_value_are_of, moment_later, moment_stepped, moment_assigned, now, onward_from, PlaceIsOf, read_is_of}

-- ---- values of the kinds that operations take

number_kind : (m : Memory) (s : Scalar) (x : Value) → is_pointer s ≡ false → IsOf m s x → is_number x ≡ true
number_kind m s (integer n) e of = refl
number_kind m s (address p) e of = is_integer_at m s p e of.typed

address_kind : (m : Memory) (s : Scalar) (x : Value) → is_pointer s ≡ true → IsOf m s x → is_address x ≡ true
address_kind m s (integer n) e of = no_integer s n e of.typed
address_kind m s (address p) e of = refl

word_number : (m : Memory) (s : Scalar) (n : Signedness) (x : Value) → same_scalar s (integer_type n) ≡ true → IsOf m s x → is_number x ≡ true
word_number m s n x fit of = number_kind m (integer_type n) x (word_is_integer n) (subst (λ (t : Scalar). IsOf m t x) (scalar_same s (integer_type n) fit) of)

word_amount : (m : Memory) (s : Signedness) → IsOf m (integer_type s) (integer 1)
word_amount m Signed = number_is_of m scalars.Int 1 refl
word_amount m Unsigned = number_is_of m scalars.Unsigned 1 refl

right_number : (op : Arithmetic) (m : Memory) (n : Signedness) (t : Scalar) (x : Value) → right_takes op n t ≡ true → IsOf m t x → is_number x ≡ true
right_number arithmetics.Add m n t x fit of = word_number m t n x fit of
right_number arithmetics.Subtract m n t x fit of = word_number m t n x fit of
right_number arithmetics.Multiply m n t x fit of = word_number m t n x fit of
right_number arithmetics.Divide m n t x fit of = word_number m t n x fit of
right_number arithmetics.Remainder m n t x fit of = word_number m t n x fit of
right_number arithmetics.ShiftLeft m n t x fit of = number_kind m t x (promoted_no_pointer t fit) of
right_number arithmetics.ShiftRight m n t x fit of = number_kind m t x (promoted_no_pointer t fit) of
right_number arithmetics.And m n t x fit of = word_number m t n x fit of
right_number arithmetics.Or m n t x fit of = word_number m t n x fit of
right_number arithmetics.Xor m n t x fit of = word_number m t n x fit of

one_kind : (op : UnaryOperation) (s : Scalar) (m : Memory) (x : Value) → unary_takes op s ≡ true → IsOf m s x → takes_value op x ≡ true
one_kind (unaries.Plus n) s m x fit of = word_number m s n x fit of
one_kind (unaries.Minus n) s m x fit of = word_number m s n x fit of
one_kind (unaries.Complement n) s m x fit of = word_number m s n x fit of
one_kind unaries.Not s m x fit of = refl
one_kind unaries.Truth s m x fit of = refl

two_kinds : (op : BinaryOperation) (s t : Scalar) (m : Memory) (x y : Value) → binary_takes op s t ≡ true → IsOf m s x → IsOf m t y → takes_values op x y ≡ true
two_kinds (binaries.Arithmetic op n) s t m x y fit of og =
    let two = and_parts (same_scalar s (integer_type n)) _ fit in
    and_from _ _ (word_number m s n x two.0 of) (right_number op m n t y two.1 og)
two_kinds (binaries.Compare op n) s t m x y fit of og =
    let two = and_parts (same_scalar s (integer_type n)) _ fit in
    and_from _ _ (word_number m s n x two.0 of) (word_number m t n y two.1 og)
two_kinds (binaries.Move direction n element) s t m x y fit of og =
    let two = and_parts (is_pointer s && same_scalar t (integer_type n)) _ fit in
    let one = and_parts (is_pointer s) _ two.0 in
    and_from _ _ (address_kind m s x one.0 of) (word_number m t n y one.1 og)
two_kinds (binaries.Difference element) s t m x y fit of og =
    let two = and_parts (is_pointer s && is_pointer t) _ fit in
    let one = and_parts (is_pointer s) _ two.0 in
    and_from _ _ (address_kind m s x one.0 of) (address_kind m t y one.1 og)
two_kinds (binaries.ComparePointers op) s t m x y fit of og =
    let two = and_parts (is_pointer s) _ fit in
    and_from _ _ (address_kind m s x two.0 of) (address_kind m t y two.1 og)

-- ---- steps

-- a value of this type, which is 0 where it is that of a null constant
record Operand (m : Memory) (s : Scalar) (null : Bool) (x : Value) : Type 0 where
  of : IsOf m s x
  zero_is : null ≡ true → x ≡ integer 0

-- of an expression that is no constant
some_operand : {m : Memory} {s : Scalar} {x : Value} → IsOf m s x → Operand m s false x
some_operand of = record { of = of; zero_is = λ e. cc }

converts : (c : Conversion) (s : Scalar) (null : Bool) (m : Memory) (x : Value) → conversion_fits c s null ≡ true → Operand m s null x → IsSome (convert_by c x)
converts c s true m x fit h = subst (λ (y : Value). IsSome (convert_by c y)) (sym (h.zero_is refl)) (steps_on_types_are_defined.null_constant c s fit)
converts c s false m x fit h = steps_on_types_are_defined.conversion c s m x fit h.of

given_same : {A : Type 0} (o : Option A) (f g : A → RootRun) → ((a : A) → o ≡ Some a → f a ≡ g a) → given o f ≡ given o g
given_same None f g h = refl
given_same (Some a) f g h = h a refl

given_then : {A B : Type 0} (o : Option A) (next : A → Option B) (f : B → RootRun) → given (o >>= next) f ≡ given o (λ a. given (next a) f)
given_then None next f = refl
given_then (Some a) next f = refl

module _ (other : RootRun) where
  expected_same : {A : Type 0} (o : Option A) (f g : A → RootRun) → IsSome o → ((a : A) → o ≡ Some a → f a ≡ g a) → given o f ≡ elsewhere.expected other o g
  expected_same None f g e h = cc
  expected_same (Some a) f g e h = h a refl

  expected_on : {A B : Type 0} (o : Option A) (next : A → Option B) (f : B → RootRun) (g : A → RootRun) → IsSome o → ((a : A) → o ≡ Some a → given (next a) f ≡ g a)
      → given (o >>= next) f ≡ elsewhere.expected other o g
  expected_on None next f g e h = cc
  expected_on (Some a) next f g e h = h a refl

  so_same : (b : Bool) (r s : RootRun) → b ≡ true → r ≡ s → r ≡ elsewhere.where_so other b s
  so_same true r s e h = h
  so_same false r s e h = cc

  converted_same : (c : Conversion) (s : Scalar) (null : Bool) (m : Memory) (x : Value) (f g : Value → RootRun) → conversion_fits c s null ≡ true → Operand m s null x
      → ((y : Value) → convert_by c x ≡ Some y → f y ≡ g y) → given (convert_by c x) f ≡ elsewhere.converted other c x g
  converted_same c s null m x f g fit h k = expected_same (convert_by c x) f g (converts c s null m x fit h) k

  unary_same : (op : UnaryOperation) (c : Conversion) (s : Scalar) (null : Bool) (m : Memory) (x : Value) (f g : Value → RootRun) → conversion_fits c s null ≡ true
      → unary_takes op (type_after c s) ≡ true → Operand m s null x → ((y : Value) → (convert_by c x >>= λ x. apply_unary op m x) ≡ Some y → f y ≡ g y)
      → given (convert_by c x >>= λ x. apply_unary op m x) f ≡ elsewhere.converted other c x (λ x. elsewhere.unary_step other op m x g)
  unary_same op c s null m x f g fit takes h k =
      expected_on (convert_by c x) (λ x. apply_unary op m x) f _ (converts c s null m x fit h) (λ y e.
      so_same (takes_value op y) _ _ (one_kind op (type_after c s) m y takes (converted_is_of c s m x y h.of e))
      (given_same (apply_unary op m y) f g (λ z i. k z (goes (convert_by c x) y (λ x. apply_unary op m x) (Some z) e i))))

  binary_same : (op : BinaryOperation) (s t : Scalar) (m : Memory) (x y : Value) (f g : Value → RootRun) → binary_takes op s t ≡ true → IsOf m s x → IsOf m t y
      → ((z : Value) → apply_binary op m x y ≡ Some z → f z ≡ g z) → given (apply_binary op m x y) f ≡ elsewhere.binary_step other op m x y g
  binary_same op s t m x y f g fit of og h = so_same (takes_values op x y) _ _ (two_kinds op s t m x y fit of og) (given_same (apply_binary op m x y) f g h)

  ordered_same : (order : Order) (op : BinaryOperation) (s t : Scalar) (m : Memory) (x y : Value) (f g : Value → RootRun) → takes_in_order order op s t ≡ true → IsOf m s x → IsOf m t y
      → ((z : Value) → in_their_order order op m x y ≡ Some z → f z ≡ g z) → given (in_their_order order op m x y) f ≡ elsewhere.in_their_order other order op m x y g
  ordered_same as_written op s t m x y f g fit of og h = binary_same op s t m x y f g fit of og h
  ordered_same exchanged op s t m x y f g fit of og h = binary_same op t s m y x f g fit og of h

  operation_same : (op : BinaryOperation) (order : Order) (left right : Conversion) (s t : Scalar) (p q : Bool) (m : Memory) (x y : Value) (f g : Value → RootRun)
      → conversion_fits left s p ≡ true → conversion_fits right t q ≡ true → takes_in_order order op (type_after left s) (type_after right t) ≡ true → Operand m s p x → Operand m t q y
      → ((z : Value) → operation_value op order left right m x y ≡ Some z → f z ≡ g z)
      → given (operation_value op order left right m x y) f ≡ elsewhere.operation_step other op order left right m x y g
  operation_same op order left right s t p q m x y f g fl fr fit h k same =
      expected_on (convert_by left x) (λ x. convert_by right y >>= λ y. in_their_order order op m x y) f _ (converts left s p m x fl h) (λ a d.
      expected_on (convert_by right y) (λ y. in_their_order order op m a y) f _ (converts right t q m y fr k) (λ b e.
      ordered_same order op (type_after left s) (type_after right t) m a b f g fit (converted_is_of left s m x a h.of d) (converted_is_of right t m y b k.of e)
      (λ z i. same z (goes (convert_by left x) a (λ x. convert_by right y >>= λ y. in_their_order order op m x y) (Some z) d
      (goes (convert_by right y) b (λ y. in_their_order order op m a y) (Some z) e i)))))

  updated_same : (op : BinaryOperation) (left right back : Conversion) (s t : Scalar) (p q : Bool) (m : Memory) (x y : Value) (f g : Value → RootRun)
      → conversion_fits left s p ≡ true → conversion_fits right t q ≡ true → binary_takes op (type_after left s) (type_after right t) ≡ true
      → conversion_fits back (binary_type op) false ≡ true → Operand m s p x → Operand m t q y
      → ((z : Value) → updated_value op left right back m x y ≡ Some z → f z ≡ g z)
      → given (updated_value op left right back m x y) f ≡ elsewhere.updated_step other op left right back m x y g
  updated_same op left right back s t p q m x y f g fl fr fit fb h k same =
      given_then (operation_value op as_written left right m x y) (convert_by back) f
      ∙ operation_same op as_written left right s t p q m x y (λ z. given (convert_by back z) f) (λ z. elsewhere.converted other back z g) fl fr fit h k
      (λ z e. converted_same back (binary_type op) false m z f g fb (some_operand (operation_is_of op as_written left right m x y z h.of.sound k.of.sound e))
      (λ u i. same u (goes (operation_value op as_written left right m x y) z (convert_by back) (Some u) e i)))

  stored_same : (s : Scalar) (m : Memory) (a y : Value) (f g : Memory → RootRun) → IsSome (as_pointer a) → IsOf m s y
      → ((n : Memory) → (as_pointer a >>= λ p. blocks.store s m p y) ≡ Some n → f n ≡ g n)
      → given (as_pointer a >>= λ p. blocks.store s m p y) f ≡ elsewhere.stored other s m a y g
  stored_same s m a y f g there of h =
      expected_on (as_pointer a) (λ p. blocks.store s m p y) f _ there (λ p e.
      so_same (has_type s y) _ _ of.typed (given_same (blocks.store s m p y) f g (λ n i. h n (goes (as_pointer a) p (λ p. blocks.store s m p y) (Some n) e i))))

  -- ---- the given functions

  module _ (i : Interface) where
    number_returned : (w x : World) (n : ℕ) → n < 2 ^ 32 → w.memory ≡ x.memory → IsReady i x → IsReturn i (Some scalars.Int) w.memory (Some (integer n)) x
    number_returned w x n small same ready = record {
      typed = number_is_of x.memory scalars.Int n (grind (arith, nat_tests));
      ready = ready;
      after = subst (λ (m : Memory). ComesAfter w.memory m) same (after_same w.memory);
    }

    put_same : (xs : List Value) (k j : Return) (w : World) → AreOf w.memory (scalars.Int ∷ []) xs → IsReady i w → ReturnsInRange ◌≡◌ i (Some scalars.Int) w.memory k j
        → put_char xs k w ≡ elsewhere.put_char other xs j w
    put_same [] k j w are ready h = absurd are
    put_same (address p ∷ others) k j w are ready h = let e : false ≡ true = are.0.typed in cc
    put_same (integer n ∷ x ∷ others) k j w are ready h = absurd are.1
    put_same (integer n ∷ []) k j w are ready h = ap (emit (events.Puts (n % 256))) (h (Some (integer (n % 256))) w (number_returned w w (n % 256) (omega arith) refl ready))

    take_same : (input : List ℕ) (k j : Return) (w : World) → IsReady i w → All (λ byte. byte < 256) input → ReturnsInRange ◌≡◌ i (Some scalars.Int) w.memory k j
        → take_byte input k w ≡ take_byte input j w
    take_same [] k j w ready are h = ap (emit events.TakesEnd) (h (Some (integer (2 ^ 32 - 1))) w (number_returned w w (2 ^ 32 - 1) (omega arith) refl ready))
    take_same (b ∷ input) k j w ready are h =
        let small : b < 256 = All-head (λ byte. byte < 256) b input are in
        ap (emit (events.Takes b)) (h (Some (integer b)) (record w { input = input }) (number_returned w (record w { input = input }) b (omega arith) refl
        (record { sound = ready.sound; data_blocks = ready.data_blocks; input = All-tail (λ byte. byte < 256) b input are })))

    get_same : (xs : List Value) (k j : Return) (w : World) → AreOf w.memory [] xs → IsReady i w → ReturnsInRange ◌≡◌ i (Some scalars.Int) w.memory k j
        → get_char xs k w ≡ elsewhere.get_char other xs j w
    get_same [] k j w are ready h = take_same w.input k j w ready ready.input h
    get_same (x ∷ others) k j w are ready h = absurd are

    -- ---- a call of a function

    module _ (m : ℕ) (c d : CallsOf) (cd : CallsInRange ◌≡◌ i c d) (g : Function) (first : ℕ) where
      abbrev here : Here
      here = record { turns = m; first_block = first; calls = c }

      abbrev there : Here
      there = record { turns = m; first_block = first; calls = d }

      abbrev At : Memory → Environment → World → Type 0
      At start v w = IsMoment i g first start v w

      abbrev Nexts : Memory → Next → Next → Type 0
      Nexts start k j = NextInRange ◌≡◌ i g first start k j

      -- behind a value of this type
      abbrev Values : Memory → Scalar → (null : Bool) → (k j : Value → Next) → Type 0
      Values start s null k j = (x : Value) (v : Environment) (w : World) → At start v w → Operand w.memory s null x → k x v w ≡ j x v w

      -- a variable of this type, or an object, at a pointer
      abbrev IsPlace : Scalar → Place → Type 0
      IsPlace s (in_variable x) = slice_get g.variables x ≡ Some s
      IsPlace s (in_object a) = IsSome (as_pointer a)

      place_is : (s : Scalar) (p : Place) → IsPlace s p → PlaceIsOf i g first s p
      place_is s (in_variable x) h = h
      place_is s (in_object a) h = tt

      choose_same : (b : Bool) (k k' l l' : Next) (v : Environment) (w : World) → k v w ≡ l v w → k' v w ≡ l' v w → choose b k k' v w ≡ choose b l l' v w
      choose_same true k k' l l' v w p q = p
      choose_same false k k' l l' v w p q = q

      test_same : (x : Value) (k k' l l' : Next) (v : Environment) (w : World) → k v w ≡ l v w → k' v w ≡ l' v w → test x k k' v w ≡ test x l l' v w
      test_same x k k' l l' v w p q = given_same (truth w.memory x) _ _ (λ b e. choose_same b k k' l l' v w p q)

      read_same : (s : Scalar) (p : Place) (v : Environment) (w : World) (k j : Value → RootRun) → IsPlace s p → ((x : Value) → read s p v w ≡ Some x → k x ≡ j x)
          → given (read s p v w) k ≡ elsewhere.read other s p v w j
      read_same s (in_variable x) v w k j place h = given_same (v x) k j h
      read_same s (in_object a) v w k j place h =
          expected_on (as_pointer a) (load s w.memory) k _ place (λ p e.
          given_same (load s w.memory p) k j (λ x f. h x (goes (as_pointer a) p (load s w.memory) (Some x) e f)))

      write_same : (s : Scalar) (p : Place) (y : Value) (k j : Next) (start : Memory) (v : Environment) (w : World) → IsPlace s p → IsOf w.memory s y → At start v w
          → ((v' : Environment) (w' : World) → At start v' w' → ComesAfter w.memory w'.memory → k v' w' ≡ j v' w') → write s p y k v w ≡ elsewhere.write other s p y j v w
      write_same s (in_variable x) y k j start v w place of is h = h (with_value v x y) w (moment_assigned i g first start v w x s y place of is) (after_same w.memory)
      write_same s (in_object a) y k j start v w place of is h = stored_same s w.memory a y _ _ place of (λ n e.
          let p = followed (as_pointer a) (λ p. blocks.store s w.memory p y) n e in
          let on = memory_goes_on.store s w.memory n p.value y p.then in
          let sound = soundness_is_kept.store s w.memory n p.value y is.range.ready.sound of.sound p.then in
          h v (with_memory w n) (moment_stepped i g first start v w n is on sound) on)

      truth_number : (n : Memory) (b : ℕ) → b < 2 → Operand n scalars.Int false (integer b)
      truth_number n b small = some_operand (number_is_of n scalars.Int b (grind (arith, nat_tests)))

      object_sound : (start : Memory) (v : Environment) (w : World) → At start v w → (o : Object) → object_there i g o ≡ true → IsSoundPointer w.memory (pointer_at o first)
      object_sound start v w is (local k) h = record {
        made = let room = is.range.blocks in let below : k < length g.blocks = grind (arith, nat_tests, h) in omega arith;
        in_range = λ live. least (block_at w.memory (first + k)).size;
      }
        where
          least : (n : ℕ) → 0 ≤ n
          least n = omega arith
      object_sound start v w is (static k) h = record {
        made = let room = is.range.ready.data_blocks.count in let below : k < length i.data_blocks = grind (arith, nat_tests, h) in omega arith;
        in_range = λ live. least (block_at w.memory k).size;
      }
        where
          least : (n : ℕ) → 0 ≤ n
          least n = omega arith

      returned_moment : (start : Memory) (v : Environment) (w x : World) (s : Option Scalar) (result : Option Value) → At start v w → IsReturn i s w.memory result x → At start v x
      returned_moment start v w x s result is r = moment_later i g first start v w x is r.after r.ready

      invoke_same : (f : Callee) (xs : List Value) (k j : Return) (w : World) → is_some (signature_of i f) ≡ true → AreOf w.memory (taken (signature_of i f)) xs → IsReady i w
          → ReturnsInRange ◌≡◌ i (result_type_of (signature_of i f)) w.memory k j → invoke f c xs k w ≡ elsewhere.invoke other f d xs j w
      invoke_same (callees.Function f) xs k j w there are ready h = cd f.0 xs k j w (record { takes = takes (slice_get i.functions f.0) there are; ready = ready }) h
        where
          takes : (o : Option Signature) → is_some o ≡ true → AreOf w.memory (taken o) xs → Takes w.memory o xs
          takes None e a = cc
          takes (Some t) e a = a
      invoke_same callees.PutChar xs k j w there are ready h = put_same xs k j w are ready h
      invoke_same callees.GetChar xs k j w there are ready h = get_same xs k j w are ready h

      result_there : (o : Option Signature) (s : Scalar) → result_fits o s ≡ true → (is_some o ≡ true) × (result_type_of o ≡ Some s)
      result_there None s h = cc
      result_there (Some t) s h = (refl, type_is t.result_type s h)

      used_result : (n : Memory) (o : Option Scalar) (s : Scalar) (x : Value) → o ≡ Some s → ResultIsOf n o (Some x) → IsOf n s x
      used_result n o s x e r = subst (λ (z : Option Scalar). ResultIsOf n z (Some x)) e r

      -- a value that is converted to the type that takes it
      becomes_same : (n : Memory) (a : Expr) (e : Conversion) (s : Scalar) (x : Value) (k j : Value → RootRun) → becomes e a s ≡ true → Operand n (type_of a) (is_null a) x
          → ((y : Value) → IsOf n s y → k y ≡ j y) → given (convert_by e x) k ≡ elsewhere.converted other e x j
      becomes_same n a e s x k j fit h same =
          let two = and_parts (conversion_fits e (type_of a) (is_null a)) _ fit in
          converted_same e (type_of a) (is_null a) n x k j two.0 h
          (λ y f. same y (subst (λ (t : Scalar). IsOf n t y) (scalar_same _ s two.1) (converted_is_of e (type_of a) n x y h.of f)))

      operand_later : (s : Scalar) (null : Bool) (n later : Memory) (x : Value) → ComesAfter n later → Operand n s null x → Operand later s null x
      operand_later s null n later x after h = record { of = is_of_later n later s x after h.of; zero_is = h.zero_is }

      amount : (n : Memory) (op : BinaryOperation) → IsOf n (amount_type op) (integer 1)
      amount n (binaries.Arithmetic op s) = word_amount n s
      amount n (binaries.Compare op s) = word_amount n s
      amount n (binaries.Move direction s element) = word_amount n s
      amount n (binaries.Difference element) = number_is_of n scalars.Int 1 refl
      amount n (binaries.ComparePointers op) = number_is_of n scalars.Int 1 refl

      -- what is filled is the object of a local
      local_pointer : (a : Expr) (n : ℕ) → is_whole_local g n a ≡ true → is_pointer (type_of a) ≡ true
      local_pointer (constant s k) n e = cc
      local_pointer (value s l) n e = cc
      local_pointer (pointer_to o) n e = refl
      local_pointer (member offset a) n e = cc
      local_pointer (called s f es) n e = cc
      local_pointer (stepped_after s l op left back) n e = cc
      local_pointer (unary op c a) n e = cc
      local_pointer (cast c a) n e = cc
      local_pointer (binary op order left right a b) n e = cc
      local_pointer (logical_and a b) n e = cc
      local_pointer (logical_or a b) n e = cc
      local_pointer (conditional s a second third b c) n e = cc
      local_pointer (assigned a) n e = cc
      local_pointer (sequence a b) n e = cc

      pointer_there : (n : Memory) (s : Scalar) (x : Value) → is_pointer s ≡ true → IsOf n s x → IsSome (as_pointer x)
      pointer_there n s x fit of = steps_on_types_are_defined.pointer n x (subst (λ (t : Scalar). IsOf n t x) (scalar_same s scalars.Pointer fit) of)

      mutual
        expression_same : (a : Expr) → expr_fits i g a ≡ true → (start : Memory) (k j : Value → Next) → Values start (type_of a) (is_null a) k j
            → Nexts start (expression a here k) (elsewhere.expression other a there j)
        expression_same (constant s n) fit start k j h v w is =
            h (integer n) v w is (record { of = number_is_of w.memory s n fit; zero_is = λ e. let z : n ≡ 0 = grind (arith, nat_tests, e) in ap integer z })
        expression_same (value s l) fit start k j h v w is =
            lvalue_same l s fit start _ _ (λ p v w is place. read_same s p v w _ _ place (λ x e.
            h x v w is (some_operand (read_is_of i g first s p start v w x (place_is s p place) is e)))) v w is
        expression_same (pointer_to o) fit start k j h v w is =
            h (address (pointer_at o first)) v w is (some_operand (record { typed = refl; sound = object_sound start v w is o fit }))
        expression_same (member offset a) fit start k j h v w is =
            let two = and_parts (expr_fits i g a) _ fit in
            let one = and_parts (is_pointer (type_of a)) _ two.1 in
            expression_same a two.0 start _ _ (λ x v w is of.
            expected_on (as_pointer x) (λ p. member_of w.memory p offset) _ _ (pointer_there w.memory (type_of a) x one.0 of.of) (λ p e.
            given_same (member_of w.memory p offset) _ _ (λ q f.
            h (address q) v w is (some_operand (record { typed = refl; sound = values_are_sound.member w.memory p q offset f }))))) v w is
        expression_same (called s f es) fit start k j h v w is =
            let two = and_parts (arguments_fit i g (taken (signature_of i f)) es) _ fit in
            let result = result_there (signature_of i f) s two.1 in
            arguments_same (taken (signature_of i f)) es two.0 start _ _ (λ xs v w is are.
            invoke_same f xs _ _ w result.0 are is.range.ready (λ o x r. given_same o _ _ (λ y e.
            h y v x (returned_moment start v w x (result_type_of (signature_of i f)) o is r)
            (some_operand (used_result x.memory (result_type_of (signature_of i f)) s y result.1
            (subst (λ (z : Option Value). ResultIsOf x.memory (result_type_of (signature_of i f)) z) e r.typed)))))) v w is
        expression_same (stepped_after s l op left back) fit start k j h v w is =
            let two = and_parts (lvalue_fits i g s l) _ fit in
            let three = and_parts (conversion_fits left s false) _ two.1 in
            let four = and_parts (binary_takes op (type_after left s) (amount_type op)) _ three.1 in
            let five = and_parts (conversion_fits back _ false) _ four.1 in
            lvalue_same l s two.0 start _ _ (λ p v w is place. read_same s p v w _ _ place (λ x e.
            let of = read_is_of i g first s p start v w x (place_is s p place) is e in
            updated_same op left unchanged back s (amount_type op) false false w.memory x step_amount _ _ three.0 refl four.0 five.0 (some_operand of) (some_operand (amount w.memory op)) (λ y f.
            let new = subst (λ (t : Scalar). IsOf w.memory t y) (scalar_same _ s five.1) (updated_is_of op left unchanged back w.memory x step_amount y of.sound (omega arith) f) in
            write_same s p y _ _ start v w place new is (λ v' w' is' after. h x v' w' is' (some_operand (is_of_later w.memory w'.memory s x after of)))))) v w is
        expression_same (unary op e a) fit start k j h v w is =
            let two = and_parts (expr_fits i g a) _ fit in
            let three = and_parts (conversion_fits e (type_of a) (is_null a)) _ two.1 in
            expression_same a two.0 start _ _ (λ x v w is of. unary_same op e (type_of a) (is_null a) w.memory x _ _ three.0 three.1 of (λ y f.
            h y v w is (some_operand (unary_is_of op e w.memory x y of.of.sound f)))) v w is
        expression_same (cast e a) fit start k j h v w is =
            let two = and_parts (expr_fits i g a) _ fit in
            expression_same a two.0 start _ _ (λ x v w is of. converted_same e (type_of a) (is_null a) w.memory x _ _ two.1 of (λ y f.
            h y v w is (some_operand (converted_is_of e (type_of a) w.memory x y of.of f)))) v w is
        expression_same (binary op order left right a b) fit start k j h v w is =
            let two = and_parts (expr_fits i g a && expr_fits i g b) _ fit in
            let parts = and_parts (expr_fits i g a) _ two.0 in
            let three = and_parts (conversion_fits left (type_of a) (is_null a) && conversion_fits right (type_of b) (is_null b)) _ two.1 in
            let both = and_parts (conversion_fits left (type_of a) (is_null a)) _ three.0 in
            expression_same a parts.0 start _ _ (λ x v w is of.
            expression_same b parts.1 w.memory _ _ (λ y v' w' is' of'.
            let old = operand_later (type_of a) (is_null a) w.memory w'.memory x is'.after of in
            operation_same op order left right (type_of a) (type_of b) (is_null a) (is_null b) w'.memory x y _ _ both.0 both.1 three.1 old of' (λ z e.
            h z v' w' (onward_from i g first start w.memory v' w' is.after is')
            (some_operand (operation_is_of op order left right w'.memory x y z old.of.sound of'.of.sound e))))
            v w (now i g first start v w is)) v w is
        expression_same (logical_and a b) fit start k j h v w is =
            let two = and_parts (expr_fits i g a) _ fit in
            expression_same a two.0 start _ _ (λ x v w is of. test_same x _ _ _ _ v w
            (expression_same b two.1 start _ _ (λ y v w is of. test_same y _ _ _ _ v w
            (h (integer 1) v w is (truth_number w.memory 1 (omega arith))) (h (integer 0) v w is (truth_number w.memory 0 (omega arith)))) v w is)
            (h (integer 0) v w is (truth_number w.memory 0 (omega arith)))) v w is
        expression_same (logical_or a b) fit start k j h v w is =
            let two = and_parts (expr_fits i g a) _ fit in
            expression_same a two.0 start _ _ (λ x v w is of. test_same x _ _ _ _ v w
            (h (integer 1) v w is (truth_number w.memory 1 (omega arith)))
            (expression_same b two.1 start _ _ (λ y v w is of. test_same y _ _ _ _ v w
            (h (integer 1) v w is (truth_number w.memory 1 (omega arith))) (h (integer 0) v w is (truth_number w.memory 0 (omega arith)))) v w is)) v w is
        expression_same (conditional s a second third b e) fit start k j h v w is =
            let two = and_parts (expr_fits i g a) _ fit in
            let branches = and_parts (expr_fits i g b && becomes second b s) _ two.1 in
            let one = and_parts (expr_fits i g b) _ branches.0 in
            let last = and_parts (expr_fits i g e) _ branches.1 in
            expression_same a two.0 start _ _ (λ x v w is of. test_same x _ _ _ _ v w
            (expression_same b one.0 start _ _ (λ y v w is of. becomes_same w.memory b second s y _ _ one.1 of (λ z f. h z v w is (some_operand f))) v w is)
            (expression_same e last.0 start _ _ (λ y v w is of. becomes_same w.memory e third s y _ _ last.1 of (λ z f. h z v w is (some_operand f))) v w is)) v w is
        expression_same (assigned a) fit start k j h v w is = assignment_same a fit start k j (λ x v w is of. h x v w is (some_operand of)) v w is
        expression_same (sequence a b) fit start k j h v w is =
            let two = and_parts (effect_fits i g a) _ fit in
            effect_same a two.0 start _ _ (expression_same b two.1 start k j (λ x v w is of. h x v w is (some_operand of.of))) v w is

        lvalue_same : (l : Lvalue) (s : Scalar) → lvalue_fits i g s l ≡ true → (start : Memory) (k j : Place → Next)
            → ((p : Place) (v : Environment) (w : World) → At start v w → IsPlace s p → k p v w ≡ j p v w)
            → Nexts start (lvalue l here k) (elsewhere.lvalue other l there j)
        lvalue_same (variable x) s fit start k j h v w is = h (in_variable x) v w is (type_is (slice_get g.variables x) s fit)
        lvalue_same (object a) s fit start k j h v w is =
            let two = and_parts (expr_fits i g a) _ fit in
            expression_same a two.0 start _ _ (λ x v w is of. h (in_object x) v w is (pointer_there w.memory (type_of a) x two.1 of.of)) v w is

        arguments_same : (types : List Scalar) (es : Arguments) → arguments_fit i g types es ≡ true → (start : Memory) (k j : List Value → Next)
            → ((xs : List Value) (v : Environment) (w : World) → At start v w → AreOf w.memory types xs → k xs v w ≡ j xs v w)
            → Nexts start (arguments es here k) (elsewhere.arguments other es there j)
        arguments_same [] no_arguments fit start k j h v w is = h [] v w is tt
        arguments_same [] (argument_and e a es) fit start k j h v w is = cc
        arguments_same (s ∷ types) no_arguments fit start k j h v w is = cc
        arguments_same (s ∷ types) (argument_and e a es) fit start k j h v w is =
            let two = and_parts (expr_fits i g a && becomes e a s) _ fit in
            let one = and_parts (expr_fits i g a) _ two.0 in
            expression_same a one.0 start _ _ (λ x v w is of.
            arguments_same types es two.1 w.memory _ _ (λ ys v' w' is' are.
            becomes_same w'.memory a e s x _ _ one.1 (operand_later (type_of a) (is_null a) w.memory w'.memory x is'.after of) (λ y f.
            h (y ∷ ys) v' w' (onward_from i g first start w.memory v' w' is.after is') (f, are)))
            v w (now i g first start v w is)) v w is

        assignment_same : (a : Assignment) → assignment_fits i g a ≡ true → (start : Memory) (k j : Value → Next)
            → ((x : Value) (v : Environment) (w : World) → At start v w → IsOf w.memory (assigned_type a) x → k x v w ≡ j x v w)
            → Nexts start (assignment a here k) (elsewhere.assignment other a there j)
        assignment_same (set s l e a) fit start k j h v w is =
            let two = and_parts (lvalue_fits i g s l) _ fit in
            let one = and_parts (expr_fits i g a) _ two.1 in
            lvalue_same l s two.0 start _ _ (λ p v w is place.
            expression_same a one.0 start _ _ (λ x v w is of. becomes_same w.memory a e s x _ _ one.1 of (λ y new.
            write_same s p y _ _ start v w place new is (λ v' w' is' after. h y v' w' is' (is_of_later w.memory w'.memory s y after new)))) v w is) v w is
        assignment_same (update s l op left right back a) fit start k j h v w is =
            let two = and_parts (lvalue_fits i g s l && expr_fits i g a) _ fit in
            let one = and_parts (lvalue_fits i g s l) _ two.0 in
            let three = and_parts (conversion_fits left s false && conversion_fits right (type_of a) (is_null a)) _ two.1 in
            let both = and_parts (conversion_fits left s false) _ three.0 in
            let four = and_parts (binary_takes op (type_after left s) (type_after right (type_of a))) _ three.1 in
            let five = and_parts (conversion_fits back _ false) _ four.1 in
            lvalue_same l s one.0 start _ _ (λ p v w is place. read_same s p v w _ _ place (λ x e.
            let old = read_is_of i g first s p start v w x (place_is s p place) is e in
            expression_same a one.1 w.memory _ _ (λ y v' w' is' of.
            let still = is_of_later w.memory w'.memory s x is'.after old in
            updated_same op left right back s (type_of a) false (is_null a) w'.memory x y _ _ both.0 both.1 four.0 five.0 (some_operand still) of (λ z f.
            let new = subst (λ (t : Scalar). IsOf w'.memory t z) (scalar_same _ s five.1) (updated_is_of op left right back w'.memory x y z still.sound of.of.sound f) in
            write_same s p z _ _ start v' w' place new (onward_from i g first start w.memory v' w' is.after is')
            (λ v'' w'' is'' after. h z v'' w'' is'' (is_of_later w'.memory w''.memory s z after new))))
            v w (now i g first start v w is))) v w is

        effect_same : (a : Effect) → effect_fits i g a ≡ true → (start : Memory) (k j : Next) → Nexts start k j → Nexts start (effect a here k) (elsewhere.effect other a there j)
        effect_same nothing fit start k j h v w is = h v w is
        effect_same (discard a) fit start k j h v w is = expression_same a fit start _ _ (λ x v w is of. h v w is) v w is
        effect_same (assign a) fit start k j h v w is = assignment_same a fit start _ _ (λ x v w is of. h v w is) v w is
        effect_same (perform f es) fit start k j h v w is =
            let two = and_parts (is_some (signature_of i f)) _ fit in
            arguments_same (taken (signature_of i f)) es two.1 start _ _ (λ xs v w is are.
            invoke_same f xs _ _ w two.0 are is.range.ready (λ o x r. h v x (returned_moment start v w x (result_type_of (signature_of i f)) o is r))) v w is
        effect_same (copy size alignment a b) fit start k j h v w is =
            let two = and_parts (expr_fits i g a && is_pointer (type_of a)) _ fit in
            let one = and_parts (expr_fits i g a) _ two.0 in
            let last = and_parts (expr_fits i g b) _ (and_parts (expr_fits i g b && is_pointer (type_of b)) _ two.1).0 in
            expression_same a one.0 start _ _ (λ x v w is of. expression_same b last.0 w.memory _ _ (λ y v' w' is' of'.
            expected_on (as_pointer x) (λ to. as_pointer y >>= λ from. blocks.copy size alignment w'.memory to from) _ _
            (pointer_there w'.memory (type_of a) x one.1 (is_of_later w.memory w'.memory (type_of a) x is'.after of.of)) (λ to e.
            expected_on (as_pointer y) (λ from. blocks.copy size alignment w'.memory to from) _ _ (pointer_there w'.memory (type_of b) y last.1 of'.of) (λ from f.
            given_same (blocks.copy size alignment w'.memory to from) _ _ (λ n copied.
            h v' (with_memory w' n) (moment_stepped i g first start v' w' n (onward_from i g first start w.memory v' w' is.after is')
            (memory_goes_on.copy size alignment w'.memory n to from copied) (soundness_is_kept.copy size alignment w'.memory n to from is'.range.ready.sound copied))))))
            v w (now i g first start v w is)) v w is
        effect_same (fill blank a) fit start k j h v w is =
            let two = and_parts (expr_fits i g a) _ fit in
            expression_same a two.0 start _ _ (λ x v w is of.
            expected_on (as_pointer x) (λ p. blocks.fill blank w.memory p) _ _ (pointer_there w.memory (type_of a) x (local_pointer a _ two.1) of.of) (λ p e.
            given_same (blocks.fill blank w.memory p) _ _ (λ n filled.
            h v (with_memory w n) (moment_stepped i g first start v w n is (memory_goes_on.fill blank w.memory n p filled)
            (soundness_is_kept.fill blank w.memory n p is.range.ready.sound filled))))) v w is
        effect_same (in_order a b) fit start k j h v w is =
            let two = and_parts (effect_fits i g a) _ fit in
            effect_same a two.0 start _ _ (effect_same b two.1 start k j h) v w is

      -- ---- statements

      -- where a `break` and a `continue` may stand what follows them is the same
      record TargetsSame (breaks continues : Bool) (start : Memory) (t u : Targets) : Type 0 where
        behind : Nexts start t.behind u.behind
        at_break : breaks ≡ true → Nexts start t.at_break u.at_break
        at_continue : continues ≡ true → Nexts start t.at_continue u.at_continue
        at_return : ReturnsInRange ◌≡◌ i g.result start t.at_return u.at_return

      condition_same : (e : Expr) → expr_fits i g e ≡ true → (start : Memory) (k k' l l' : Next) → Nexts start k l → Nexts start k' l'
          → Nexts start (condition e here k k') (elsewhere.condition other e there l l')
      condition_same e fit start k k' l l' h f v w is =
          expression_same e fit start _ _ (λ x v w is of. test_same x k k' l l' v w (h v w is) (f v w is)) v w is

      for_condition_same : (e : Option Expr) → option_fits i g e ≡ true → (start : Memory) (k k' l l' : Next) → Nexts start k l → Nexts start k' l'
          → Nexts start (for_condition e here k k') (elsewhere.for_condition other e there l l')
      for_condition_same None fit start k k' l l' h f = h
      for_condition_same (Some e) fit start k k' l l' h f = condition_same e fit start k k' l l' h f

      turns_same : (n : ℕ) (start : Memory) (t u : Next → Next) → ((k l : Next) → Nexts start k l → Nexts start (t k) (u l)) → Nexts start (turns n t) (turns n u)
      turns_same zero start t u h v w is = refl
      turns_same (suc n) start t u h v w is = h _ _ (turns_same n start t u h) v w is

      loop_same : (b may : Bool) (start : Memory) (t u : Targets) → TargetsSame b may start t u → (k l : Next) → Nexts start k l → TargetsSame true true start (in_loop t k) (in_loop u l)
      loop_same b may start t u h k l f = record { behind = f; at_break = λ e. h.behind; at_continue = λ e. f; at_return = h.at_return }

      switch_same : (b may : Bool) (start : Memory) (t u : Targets) → TargetsSame b may start t u → TargetsSame true may start (in_switch t) (in_switch u)
      switch_same b may start t u h = record { behind = h.behind; at_break = λ e. h.behind; at_continue = h.at_continue; at_return = h.at_return }

      chosen_same : (b : Bool) (start : Memory) (k k' l l' : Next) → Nexts start k l → Nexts start k' l' → Nexts start (if b then k else k') (if b then l else l')
      chosen_same true start k k' l l' h f = h
      chosen_same false start k k' l l' h f = f

      returned_same : (e : Conversion) (a : Expr) (o : Option Scalar) → returned_fits i g e a o ≡ true → (start : Memory) (k j : Return) → ReturnsInRange ◌≡◌ i o start k j
          → Nexts start (expression a here (λ x v w. given (convert_by e x) (λ y. k (Some y) w)))
          (elsewhere.expression other a there (λ x v w. elsewhere.converted other e x (λ y. j (Some y) w)))
      returned_same e a None fit start k j h v w is = cc
      returned_same e a (Some s) fit start k j h v w is =
          let two = and_parts (expr_fits i g a) _ fit in
          expression_same a two.0 start _ _ (λ x v w is of. becomes_same w.memory a e s x _ _ two.1 of (λ y f.
          h (Some y) w (record { typed = f; ready = is.range.ready; after = is.after }))) v w is

      mutual
        statement_same : (b may : Bool) (s : Stmt) → stmt_fits i g b may s ≡ true → (start : Memory) (t u : Targets) → TargetsSame b may start t u
            → Nexts start (statement s here t) (elsewhere.statement other s there u)
        statement_same b may (evaluate a) fit start t u h v w is = effect_same a fit start _ _ h.behind v w is
        statement_same b may (block ss) fit start t u h v w is = statements_same b may ss fit start t u h v w is
        statement_same b may (branch e p q) fit start t u h v w is =
            let two = and_parts (expr_fits i g e) _ fit in
            let parts = and_parts (stmt_fits i g b may p) _ two.1 in
            condition_same e two.0 start _ _ _ _ (statement_same b may p parts.0 start t u h) (statement_same b may q parts.1 start t u h) v w is
        statement_same b may (switch to e ss) fit start t u h v w is =
            let two = and_parts (expr_fits i g e) _ fit in
            let three = and_parts (operand_fits to e) _ two.1 in
            let operand = and_parts (conversion_fits to (type_of e) (is_null e)) _ three.0 in
            let items = (and_parts (labels_fit ss) _ three.1).1 in
            let inside = switch_same b may start t u h in
            expression_same e two.0 start _ _ (λ x v w is of. converted_same to (type_of e) (is_null e) w.memory x _ _ operand.0 of (λ y f.
            expected_same (as_integer y) _ _ (steps_on_types_are_defined.operand (type_after to (type_of e)) w.memory y operand.1 (converted_is_of to (type_of e) w.memory x y of.of f)) (λ n q.
            label_same may (is_case n) ss items start _ _ inside _ _ (label_same may is_default ss items start _ _ inside _ _ h.behind) v w is))) v w is
        statement_same b may (case_label n) fit start t u h v w is = h.behind v w is
        statement_same b may default_label fit start t u h v w is = h.behind v w is
        statement_same b may (while_loop e p) fit start t u h v w is =
            let two = and_parts (expr_fits i g e) _ fit in
            turns_same m start _ _ (λ k l f. condition_same e two.0 start _ _ _ _
            (statement_same true true p two.1 start _ _ (loop_same b may start t u h k l f)) h.behind) v w is
        statement_same b may (do_loop p e) fit start t u h v w is =
            let two = and_parts (stmt_fits i g true true p) _ fit in
            turns_same m start _ _ (λ k l f. statement_same true true p two.0 start _ _
            (loop_same b may start t u h _ _ (condition_same e two.1 start _ _ _ _ f h.behind))) v w is
        statement_same b may (for_loop begin e step p) fit start t u h v w is =
            let two = and_parts (effect_fits i g begin) _ fit in
            let three = and_parts (option_fits i g e) _ two.1 in
            let four = and_parts (effect_fits i g step) _ three.1 in
            effect_same begin two.0 start _ _ (turns_same m start _ _ (λ k l f.
            for_condition_same e three.0 start _ _ _ _
            (statement_same true true p four.1 start _ _ (loop_same b may start t u h _ _ (effect_same step four.0 start k l f))) h.behind)) v w is
        statement_same b may break fit start t u h v w is = h.at_break fit v w is
        statement_same b may continue fit start t u h v w is = h.at_continue fit v w is
        statement_same b may (return e a) fit start t u h v w is = returned_same e a g.result fit start t.at_return u.at_return h.at_return v w is
        statement_same b may return_nothing fit start t u h v w is = h.at_return None w (record { typed = tt; ready = is.range.ready; after = is.after })

        statements_same : (b may : Bool) (ss : Stmts) → stmts_fit i g b may ss ≡ true → (start : Memory) (t u : Targets) → TargetsSame b may start t u
            → Nexts start (statements ss here t) (elsewhere.statements other ss there u)
        statements_same b may no_stmts fit start t u h v w is = h.behind v w is
        statements_same b may (stmt_and s ss) fit start t u h v w is =
            let two = and_parts (stmt_fits i g b may s) _ fit in
            statement_same b may s two.0 start _ _
            (record { behind = statements_same b may ss two.1 start t u h; at_break = h.at_break; at_continue = h.at_continue; at_return = h.at_return }) v w is

        -- behind a label of a switch
        label_same : (may : Bool) (is_label : Stmt → Bool) (ss : Stmts) → stmts_fit i g true may ss ≡ true → (start : Memory) (t u : Targets) → TargetsSame true may start t u
            → (k l : Next) → Nexts start k l → Nexts start (behind_label is_label ss here t k) (elsewhere.behind_label other is_label ss there u l)
        label_same may is_label no_stmts fit start t u h k l f v w is = f v w is
        label_same may is_label (stmt_and s ss) fit start t u h k l f v w is =
            let two = and_parts (stmt_fits i g true may s) _ fit in
            chosen_same (is_label s) start _ _ _ _ (statements_same true may ss two.1 start t u h) (label_same may is_label ss two.1 start t u h k l f) v w is

    -- ---- passing arguments

    -- a block in which a value of so many bytes may be stored
    record IsOpen (m : Memory) (b size : ℕ) : Type 0 where
      live : IsLive m b
      size_is : (block_at m b).size ≡ size
      writable : (block_at m b).is_writable ≡ true

    open_when_made : (sizes : List ℕ) (m : Memory) (k size : ℕ) → slice_get sizes k ≡ Some size → IsOpen (make sizes m) (length m + k) size
    open_when_made sizes m k size e =
        let new = (blocks_are_fresh sizes m).new k (slice_get_within sizes k size e) in
        let same : block_at (make sizes m) (length m + k) ≡ new_block size = new ∙ ap new_block (get_or_from_slice_get sizes k size 0 e) in
        record { live = ap (λ (b : Block). b.is_live) same; size_is = ap (λ (b : Block). b.size) same; writable = ap (λ (b : Block). b.is_writable) same }

    kept_open : (m after : Memory) (b c : ℕ) (new : List Cell) (size : ℕ) → AreWritten m c 0 new after → IsOpen m b size → IsOpen after b size
    kept_open m after b c new size written is = by (cases_eq b c)
      where
        here : IsOpen m c size → IsOpen after c size
        here at = record { live = written.is_live ∙ at.live; size_is = written.size ∙ at.size_is; writable = written.is_writable ∙ at.writable }

        by : (b ≡ c) ⊎ (b ≡ c → ⊥) → IsOpen after b size
        by (inl same) = subst (λ d. IsOpen after d size) (sym same) (here (subst (λ d. IsOpen m d size) same is))
        by (inr apart) =
            let same = written.others b apart in
            record { live = ap (λ (b : Block). b.is_live) same ∙ is.live; size_is = ap (λ (b : Block). b.size) same ∙ is.size_is; writable = ap (λ (b : Block). b.is_writable) same ∙ is.writable }

    still_open : (s : Scalar) (m after : Memory) (b c : ℕ) (y : Value) (size : ℕ) → blocks.store s m (into c 0) y ≡ Some after → IsOpen m b size → IsOpen after b size
    still_open s m after b c y size e is =
        let place = followed (range m (into c 0) (width s) (width s)) (λ t. cells_of s y >>= λ new. write_cells m t new) after e in
        let new = followed (cells_of s y) (λ new. write_cells m place.value new) after place.then in
        kept_open m after b c new.value size (writes_are_exact.store s m after (into c 0) y new.value e new.first) is

    takes_value_of : (s : Scalar) (m : Memory) (b : ℕ) (y : Value) → IsOpen m b (width s) → IsOf m s y → IsSome (blocks.store s m (into b 0) y)
    takes_value_of s m b y is of =
        (steps_on_types_are_defined.store s m (into b 0) y of).1
        (record { live = is.live; inside = let same = is.size_is in omega arith; multiple = 0; aligned = sym (zero-mul (width s)) }, is.writable)

    record Passed (g : Function) (start : Memory) (first : ℕ) (v : Environment) (w : World) : Type 0 where
      variables : VariablesAreOf w.memory g.variables v
      ready : IsReady i w
      after : ComesAfter start w.memory
      blocks : first + length g.blocks ≤ length w.memory
      places : (k size : ℕ) → slice_get g.blocks k ≡ Some size → IsOpen w.memory (first + k) size

    module _ (g : Function) (start : Memory) (first : ℕ) where
      -- the variables from this number on
      abbrev From : ℕ → List Scalar → Type 0
      From n vs = (x : ℕ) → slice_get g.variables (n + x) ≡ slice_get vs x

      next_from : (n : ℕ) (s : Scalar) (vs : List Scalar) → From n (s ∷ vs) → From (n + 1) vs
      next_from n s vs from x =
          let same : n + 1 + x ≡ n + suc x = omega arith in
          ap (slice_get g.variables) same ∙ from (suc x)

      type_from : (n : ℕ) (s : Scalar) (vs : List Scalar) → From n (s ∷ vs) → slice_get g.variables n ≡ Some s
      type_from n s vs from =
          let same : n ≡ n + 0 = omega arith in
          ap (slice_get g.variables) same ∙ from 0

      one_passed : (n : ℕ) (s : Scalar) (p : Parameter) (ps : List Parameter) (y : Value) (ys : List Value) (v : Environment) (w : World) (k j : Entered)
          → place_fits g.blocks n s p ≡ true → slice_get g.variables n ≡ Some s → IsOf w.memory s y → Passed g start first v w
          → ((v : Environment) (x : World) → ComesAfter w.memory x.memory → Passed g start first v x → pass ps ys first v x k ≡ elsewhere.pass other ps ys first v x j)
          → pass (p ∷ ps) (y ∷ ys) first v w k ≡ elsewhere.pass other (p ∷ ps) (y ∷ ys) first v w j
      one_passed n s (Plain x) ps y ys v w k j fit type of is h =
          let same : n ≡ x = grind (arith, nat_tests, fit) in
          h (with_value v x y) w (after_same w.memory) (record {
            variables = with_value_are_of w.memory g.variables v x s y is.variables (ap (slice_get g.variables) (sym same) ∙ type) of;
            ready = is.ready;
            after = is.after;
            blocks = is.blocks;
            places = is.places;
          })
      one_passed n s (Placed b t) ps y ys v w k j fit type of is h =
          let two = and_parts (same_scalar t s) _ fit in
          let scalar : t ≡ s = scalar_same t s two.0 in
          let place = is.places b (width t) (sized (slice_get g.blocks b) (width s) two.1 ∙ ap (λ (z : Scalar). Some (width z)) (sym scalar)) in
          let value = subst (λ (z : Scalar). IsOf w.memory z y) (sym scalar) of in
          expected_same (blocks.store t w.memory (into (first + b) 0) y) _ _ (takes_value_of t w.memory (first + b) y place value) (λ m stored.
          let on = memory_goes_on.store t w.memory m (into (first + b) 0) y stored in
          let sound = soundness_is_kept.store t w.memory m (into (first + b) 0) y is.ready.sound of.sound stored in
          h v (with_memory w m) on (record {
            variables = variables_later w.memory m g.variables v on is.variables;
            ready = ready_later i w m is.ready on sound;
            after = after_next start w.memory m is.after on;
            blocks = let longer = on.longer in let room = is.blocks in omega arith;
            places = λ k size e. still_open t w.memory m (first + k) (first + b) y size stored (is.places k size e);
          }))
        where
          sized : (o : Option ℕ) (n : ℕ) → is_size o n ≡ true → o ≡ Some n
          sized None n e = cc
          sized (Some m) n e = let same : m ≡ n = grind (arith, nat_tests, e) in ap Some same

      pass_same : (n : ℕ) (ps : List Parameter) (vs : List Scalar) (ys : List Value) (v : Environment) (w : World) (k j : Entered)
          → From n vs → parameters_placed g.blocks n ps vs ≡ true → AreOf w.memory (types_of ps vs) ys → Passed g start first v w
          → ((v : Environment) (w : World) → Passed g start first v w → k v w ≡ j v w)
          → pass ps ys first v w k ≡ elsewhere.pass other ps ys first v w j
      pass_same n [] vs [] v w k j from fit are is h = h v w is
      pass_same n [] vs (y ∷ ys) v w k j from fit are is h = absurd are
      pass_same n (p ∷ ps) [] ys v w k j from fit are is h = cc
      pass_same n (p ∷ ps) (s ∷ vs) [] v w k j from fit are is h = absurd are
      pass_same n (p ∷ ps) (s ∷ vs) (y ∷ ys) v w k j from fit are is h =
          let two = and_parts (place_fits g.blocks n s p) _ fit in
          one_passed n s p ps y ys v w k j two.0 (type_from n s vs from) are.0 is (λ v x on passed.
          pass_same (n + 1) ps vs ys v x k j (next_from n s vs from) two.1 (are_of_later w.memory x.memory (types_of ps vs) ys on are.1) passed h)

    -- ---- calls

    returned_later : (result : Option Scalar) (start : Memory) (first : ℕ) (x : Option Value) (w : World) → IsReturn i result start x w
        → IsReturn i result start x (with_memory w (release first w.memory))
    returned_later result start first x w h =
        let on = after_release first w.memory in
        record {
          typed = result_is_of_later w.memory (release first w.memory) result x on h.typed;
          ready = ready_later i w (release first w.memory) h.ready on (soundness_is_kept.release first w.memory h.ready.sound);
          after = after_next start w.memory (release first w.memory) h.after on;
        }

    -- main returns 0 at its end
    end_is_of : (n : Memory) (b : Bool) (o : Option Scalar) → (not b || is_type o scalars.Int) ≡ true → ResultIsOf n o (result_at_end b)
    end_is_of n false o fit = tt
    end_is_of n true o fit = subst (λ (z : Option Scalar). ResultIsOf n z (Some (integer 0))) (sym (type_is o scalars.Int fit)) (number_is_of n scalars.Int 0 refl)

    -- what may start is a function
    function_there : (n : Memory) (o : Option Function) (xs : List Value) → Takes n (option_map signature o) xs → IsSome o
    function_there n None xs h = absurd h
    function_there n (Some g) xs h = refl

    calls_same : (fs : List Function) → i.functions ≡ map signature fs → list_all (function_fits i) fs ≡ true → (turns depth : ℕ)
        → CallsInRange ◌≡◌ i (calls_within fs turns depth) (elsewhere.calls_within other fs turns depth)
    calls_same fs same all m zero f xs k j w may h = refl
    calls_same fs same all m (suc depth) f xs k j w may h =
        let found : slice_get i.functions f ≡ option_map signature (slice_get fs f) = ap (λ z. slice_get z f) same ∙ slice_get-map signature fs f in
        expected_same (slice_get fs f) _ _ (function_there w.memory (slice_get fs f) xs (subst (λ (o : Option Signature). Takes w.memory o xs) found may.takes)) (λ g is.
        let known : slice_get i.functions f ≡ Some (signature g) = found ∙ ap (option_map signature) is in
        let fit = all_at (function_fits i) fs f g all is in
        let two = and_parts (parameters_placed g.blocks 0 g.parameters g.variables) _ fit in
        let body = and_parts (end_fits g) _ two.1 in
        let first : ℕ = length w.memory in
        let n : Memory = make g.blocks w.memory in
        let on = after_make g.blocks w.memory in
        let count = (blocks_are_fresh g.blocks w.memory).count in
        let are = subst (λ (o : Option Signature). Takes w.memory o xs) known may.takes in
        let returns = subst (λ (o : Option Signature). ReturnsInRange ◌≡◌ i (result_type_of o) w.memory k j) known h in
        ap (emit (events.Calls f)) (pass_same g w.memory first 0 g.parameters g.variables xs no_values (with_memory w n) _ _
        (λ x. ap (slice_get g.variables) (omega arith)) two.0 (are_of_later w.memory n (types_of g.parameters g.variables) xs on are)
        (record {
          variables = no_values_are_of n g.variables;
          ready = ready_later i w n may.ready on (soundness_is_kept.make g.blocks w.memory may.ready.sound);
          after = on;
          blocks = omega (arith, count);
          places = open_when_made g.blocks w.memory;
        })
        (λ v x passed.
        statements_same m _ _ (calls_same fs same all m depth) g first false false g.body (and_parts (stmts_fit i g false false g.body) _ body.1).0 w.memory _ _
        (record {
          behind = λ v x moment. ap (emit (events.Returns f)) (returns (result_at_end g.is_main) _ (returned_later g.result w.memory first (result_at_end g.is_main) x
              (record { typed = end_is_of x.memory g.is_main g.result body.0; ready = moment.range.ready; after = moment.after })));
          at_break = λ e. never e;
          at_continue = λ e. never e;
          at_return = λ result x r. ap (emit (events.Returns f)) (returns result _ (returned_later g.result w.memory first result x r));
        }) v x
        (record { range = record { variables = passed.variables; blocks = passed.blocks; ready = passed.ready }; after = passed.after }))))

pub no_other_place : NoOtherPlace
no_other_place other u root xs w n fits may =
    calls_same other (interface_of u) u.functions refl fits n n root xs leaves leaves w may (λ result x r. refl)
