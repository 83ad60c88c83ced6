-- Every moment that a run of a unit whose tree fits comes to is in range.
use Rattle.std.proofs.Common.{◌≡◌, ℕ, zero, suc, ◌+◌, ◌-◌, ◌%◌, ◌^◌, ◌<◌, ◌≤◌, ◌&&◌, not, Bool, true, false, List, [], ◌∷◌, length, map, Option, Some, None, is_some, option_map, ◌||◌, refl, sym, ap, ◌∙◌, subst, arith, if◌then◌else◌}
use Rattle.std.specs.Prelude.{All}
use Rattle.std.specs.List.{slice_get, list_all}
use Rattle.std.proofs.lemmas.Bool.Decides.{nat_tests}
use Rattle.std.proofs.lemmas.List.{length-map}
use Rattle.std.proofs.lemmas.List.Elements.{All-head, All-tail}
use Rattle.std.proofs.lemmas.Option.{slice_get-map, same_Some}
use Rattle.std.proofs.lemmas.Bool.{and_parts}
use Rattle.qs_memory.specs.Partial.{◌>>=◌}
use Rattle.qs_memory.specs.Values.{into, Value, integer, address, as_integer, as_pointer}
use Rattle.qs_memory.specs.Memory.{Memory, block_at, make, release}
use Rattle.qs_memory.specs.Memory as blocks
use Rattle.qs_memory.specs.Pointers.{member_of, truth}
use Rattle.qs_memory.specs.Operations.{apply_unary}
use Rattle.qs_memory.specs.Soundness.{IsSoundPointer, ComesAfter}
use Rattle.qs_memory.specs.Scalars.{is_pointer, is_type}
use Rattle.qs_memory.specs.Operands.{binary_takes}
use Rattle.qs_memory.proofs.ScalarLaws.{scalar_same, type_is}
use Rattle.qs_memory.specs.declared.scalar.Scalar.{Scalar}
use Rattle.qs_memory.specs.declared.scalar.Scalar.TheVariants as scalars
use Rattle.qs_memory.proofs.Options.{followed}
use Rattle.qs_memory.proofs.BlockLaws.{after_make, after_release, after_same, after_next, blocks_are_fresh}
use Rattle.qs_memory.proofs.StepLaws.{memory_goes_on}
use Rattle.qs_memory.proofs.SoundLaws.{soundness_is_kept}
use Rattle.qs_memory.proofs.ValueLaws.{values_are_sound}
use Rattle.qs_events.specs.Runs.{emit, short, given, has_ended, ending_of, Left}
use Rattle.qs_calls.specs.World.{World, with_memory, RootRun, Return, leaves, Environment, no_values, with_value}
use Rattle.qs_calls.specs.Calls.{CallsOf, take_byte, get_char, put_char, invoke, Entered, pass}
use Rattle.qs_calls.specs.Relations.{Relation, Keeps}
use Rattle.qs_calls.specs.Starts.{Signature, DataExtent, Interface, IsDataExtent, signature_of, result_type_of, IsOf, AreOf, ResultIsOf, IsReady, Takes, IsReturn}
use Rattle.qs_calls.proofs.StartLaws.{is_of_later, are_of_later, result_is_of_later, ready_later}
use Rattle.qs_calls.specs.declared.callee.Callee.{Callee}
use Rattle.qs_calls.specs.declared.callee.Callee.TheVariants as callees
use Rattle.qs_calls.specs.declared.parameter.Parameter.{Parameter}
use Rattle.qs_calls.specs.declared.parameter.Parameter.TheVariants.{Plain, Placed}
use Rattle.qs_meaning.specs.Typed.{Conversion, unchanged, Object, local, static, Expr, constant, value, pointer_to, member, called, stepped_after, unary, cast, binary, logical_and, logical_or, conditional, assigned, sequence, Lvalue, variable, object, Arguments, no_arguments, argument_and, Assignment, set, update, Effect, nothing, discard, assign, perform, copy, fill, in_order, Stmt, evaluate, block, branch, switch, case_label, default_label, while_loop, do_loop, for_loop, break, continue, return, return_nothing, Stmts, no_stmts, stmt_and, Function, StaticBlock}
use Rattle.qs_meaning.specs.Interfaces.{types_of, signature, data_extent, interface_of}
use Rattle.qs_meaning.specs.Fits.{type_after, assigned_type, type_of, conversion_fits, is_null, amount_type, object_there, taken, becomes, result_fits, operand_fits, labels_fit, expr_fits, lvalue_fits, arguments_fit, assignment_fits, effect_fits, returned_fits, option_fits, stmt_fits, stmts_fit, place_fits, parameters_placed, end_fits, function_fits}
use Rattle.qs_meaning.specs.States.{Next, Here, choose, test, convert_by, pointer_at, Place, in_variable, in_object, read, write}
use Rattle.qs_meaning.specs.Meaning.{operation_value, updated_value, step_amount, expression, lvalue, arguments, assignment, effect, Targets, in_loop, in_switch, is_case, is_default, turns, condition, for_condition, statement, statements, behind_label}
use Rattle.qs_meaning.specs.Runs.{result_at_end, calls_within}
use Rattle.qs_meaning.specs.Ranges.{VariablesAreOf, IsMoment, NextInRange, ValueInRange, ReturnsInRange, TargetsInRange, result_at, CallsInRange, ExpressionsHaveTypes, CallsStayInRange, BodiesStayInRange, RunsLeaveSound, InitialMemoryIsReady}
use Rattle.qs_meaning.specs.Units.{block_of}
use Rattle.qs_meaning.proofs.InitialMemory.{initial_memory_is_sound}
use Rattle.qs_meaning.proofs.TypedValues.{all_at, number_is_of, converted_is_of, unary_is_of, operation_is_of, updated_is_of, variables_later, no_values_are_of, with_value_are_of, moment_later, moment_stepped, moment_assigned, now, onward_from, PlaceIsOf, read_is_of}

module _ (R : Relation) (keeps : Keeps R) (shorts : R short short) (i : Interface) where
  given_in_range : {A : Type 0} (o : Option A) (f g : A → RootRun) → ((a : A) → o ≡ Some a → R (f a) (g a)) → R (given o f) (given o g)
  given_in_range None f g h = keeps.undefined
  given_in_range (Some a) f g h = h a refl

  -- ---- the given functions

  number_returned : (w x : World) (n : ℕ) → n < 2 ^ 32 → w.memory ≡ x.memory → IsReady i x → IsReturn i (Some scalars.Int) w.memory (Some (integer n)) x
  number_returned w x n small same ready = record {
    typed = number_is_of x.memory scalars.Int n (grind (arith, nat_tests));
    ready = ready;
    after = subst (λ (m : Memory). ComesAfter w.memory m) same (after_same w.memory);
  }

  put_in_range : (xs : List Value) (k j : Return) (w : World) → IsReady i w → ReturnsInRange R i (Some scalars.Int) w.memory k j → R (put_char xs k w) (put_char xs j w)
  put_in_range [] k j w ready h = keeps.undefined
  put_in_range (address p ∷ others) k j w ready h = keeps.undefined
  put_in_range (integer n ∷ x ∷ others) k j w ready h = keeps.undefined
  put_in_range (integer n ∷ []) k j w ready h = keeps.emit _ _ _ (h (Some (integer (n % 256))) w (number_returned w w (n % 256) (omega arith) refl ready))

  take_in_range : (input : List ℕ) (k j : Return) (w : World) → IsReady i w → All (λ byte. byte < 256) input → ReturnsInRange R i (Some scalars.Int) w.memory k j
      → R (take_byte input k w) (take_byte input j w)
  take_in_range [] k j w ready are h = keeps.emit _ _ _ (h (Some (integer (2 ^ 32 - 1))) w (number_returned w w (2 ^ 32 - 1) (omega arith) refl ready))
  take_in_range (b ∷ input) k j w ready are h =
      let small : b < 256 = All-head (λ byte. byte < 256) b input are in
      keeps.emit _ _ _ (h (Some (integer b)) (record w { input = input }) (number_returned w (record w { input = input }) b (omega arith) refl
      (record { sound = ready.sound; data_blocks = ready.data_blocks; input = All-tail (λ byte. byte < 256) b input are })))

  get_in_range : (xs : List Value) (k j : Return) (w : World) → IsReady i w → ReturnsInRange R i (Some scalars.Int) w.memory k j → R (get_char xs k w) (get_char xs j w)
  get_in_range [] k j w ready h = take_in_range w.input k j w ready ready.input h
  get_in_range (x ∷ others) k j w ready h = keeps.undefined

  -- ---- a call of a function

  module _ (m : ℕ) (c d : CallsOf) (cd : CallsInRange R i c d) (g : Function) (first : ℕ) where
    abbrev here : Here
    here = record { turns = m; first_block = first; calls = c }

    abbrev there : Here
    there = record { turns = m; first_block = first; calls = d }

    abbrev At : Memory → Environment → World → Type 0
    At start v w = IsMoment i g first start v w

    abbrev Nexts : Memory → Next → Next → Type 0
    Nexts start k j = NextInRange R i g first start k j

    abbrev Values : Memory → Scalar → (k j : Value → Next) → Type 0
    Values start s k j = ValueInRange R i g first start s k j

    choose_in_range : (b : Bool) (k k' l l' : Next) (v : Environment) (w : World) → R (k v w) (l v w) → R (k' v w) (l' v w) → R (choose b k k' v w) (choose b l l' v w)
    choose_in_range true k k' l l' v w p q = p
    choose_in_range false k k' l l' v w p q = q

    test_in_range : (x : Value) (k k' l l' : Next) (v : Environment) (w : World) → R (k v w) (l v w) → R (k' v w) (l' v w) → R (test x k k' v w) (test x l l' v w)
    test_in_range x k k' l l' v w p q = given_in_range (truth w.memory x) _ _ (λ b e. choose_in_range b k k' l l' v w p q)

    write_in_range : (s : Scalar) (p : Place) (y : Value) (k j : Next) (start : Memory) (v : Environment) (w : World) → PlaceIsOf i g first s p → IsOf w.memory s y → At start v w
        → ((v' : Environment) (w' : World) → At start v' w' → ComesAfter w.memory w'.memory → R (k v' w') (j v' w')) → R (write s p y k v w) (write s p y j v w)
    write_in_range s (in_variable x) y k j start v w place of is h = h (with_value v x y) w (moment_assigned i g first start v w x s y place of is) (after_same w.memory)
    write_in_range s (in_object a) y k j start v w place of is h = given_in_range (as_pointer a >>= λ p. blocks.store s w.memory p y) _ _ (λ n e.
        let p = followed (as_pointer a) (λ p. blocks.store s w.memory p y) n e in
        let on = memory_goes_on.store s w.memory n p.value y p.then in
        let sound = soundness_is_kept.store s w.memory n p.value y is.range.ready.sound of.sound p.then in
        h v (with_memory w n) (moment_stepped i g first start v w n is on sound) on)

    truth_number : (n : Memory) (b : ℕ) → b < 2 → IsOf n scalars.Int (integer b)
    truth_number n b small = number_is_of n scalars.Int b (grind (arith, nat_tests))

    object_sound : (start : Memory) (v : Environment) (w : World) → At start v w → (o : Object) → object_there i g o ≡ true → IsSoundPointer w.memory (pointer_at o first)
    object_sound start v w is (local k) h = record {
      made = let room = is.range.blocks in let below : k < length g.blocks = grind (arith, nat_tests, h) in omega arith;
      in_range = λ live. least (block_at w.memory (first + k)).size;
    }
      where
        least : (n : ℕ) → 0 ≤ n
        least n = omega arith
    object_sound start v w is (static k) h = record {
      made = let room = is.range.ready.data_blocks.count in let below : k < length i.data_blocks = grind (arith, nat_tests, h) in omega arith;
      in_range = λ live. least (block_at w.memory k).size;
    }
      where
        least : (n : ℕ) → 0 ≤ n
        least n = omega arith

    returned_moment : (start : Memory) (v : Environment) (w x : World) (s : Option Scalar) (result : Option Value) → At start v w → IsReturn i s w.memory result x → At start v x
    returned_moment start v w x s result is r = moment_later i g first start v w x is r.after r.ready

    invoke_in_range : (f : Callee) (xs : List Value) (k j : Return) (w : World) → is_some (signature_of i f) ≡ true → AreOf w.memory (taken (signature_of i f)) xs → IsReady i w
        → ReturnsInRange R i (result_type_of (signature_of i f)) w.memory k j → R (invoke f c xs k w) (invoke f d xs j w)
    invoke_in_range (callees.Function f) xs k j w there are ready h = cd f.0 xs k j w (record { takes = takes (slice_get i.functions f.0) there are; ready = ready }) h
      where
        takes : (o : Option Signature) → is_some o ≡ true → AreOf w.memory (taken o) xs → Takes w.memory o xs
        takes None e a = cc
        takes (Some t) e a = a
    invoke_in_range callees.PutChar xs k j w there are ready h = put_in_range xs k j w ready h
    invoke_in_range callees.GetChar xs k j w there are ready h = get_in_range xs k j w ready h

    result_there : (o : Option Signature) (s : Scalar) → result_fits o s ≡ true → (is_some o ≡ true) × (result_type_of o ≡ Some s)
    result_there None s h = cc
    result_there (Some t) s h = (refl, type_is t.result_type s h)

    used_result : (n : Memory) (o : Option Scalar) (s : Scalar) (x : Value) → o ≡ Some s → ResultIsOf n o (Some x) → IsOf n s x
    used_result n o s x e r = subst (λ (z : Option Scalar). ResultIsOf n z (Some x)) e r

    becomes_is_of : (n : Memory) (a : Expr) (e : Conversion) (s : Scalar) (x y : Value) → becomes e a s ≡ true → IsOf n (type_of a) x → convert_by e x ≡ Some y → IsOf n s y
    becomes_is_of n a e s x y fit of h =
        subst (λ (t : Scalar). IsOf n t y) (scalar_same _ s (and_parts (conversion_fits e (type_of a) (is_null a)) _ fit).1) (converted_is_of e (type_of a) n x y of h)

    mutual
      expression_in_range : (a : Expr) → expr_fits i g a ≡ true → (start : Memory) (k j : Value → Next) → Values start (type_of a) k j
          → Nexts start (expression a here k) (expression a there j)
      expression_in_range (constant s n) fit start k j h v w is = h (integer n) v w is (number_is_of w.memory s n fit)
      expression_in_range (value s l) fit start k j h v w is =
          lvalue_in_range l s fit start _ _ (λ p v w is place. given_in_range (read s p v w) _ _ (λ x e.
          h x v w is (read_is_of i g first s p start v w x place is e))) v w is
      expression_in_range (pointer_to o) fit start k j h v w is =
          h (address (pointer_at o first)) v w is (record { typed = refl; sound = object_sound start v w is o fit })
      expression_in_range (member offset a) fit start k j h v w is =
          let two = and_parts (expr_fits i g a) _ fit in
          expression_in_range a two.0 start _ _ (λ x v w is of. given_in_range (as_pointer x >>= λ p. member_of w.memory p offset) _ _ (λ q e.
          let f = followed (as_pointer x) _ q e in
          h (address q) v w is (record { typed = refl; sound = values_are_sound.member w.memory f.value q offset f.then }))) v w is
      expression_in_range (called s f es) fit start k j h v w is =
          let two = and_parts (arguments_fit i g (taken (signature_of i f)) es) _ fit in
          let result = result_there (signature_of i f) s two.1 in
          arguments_in_range (taken (signature_of i f)) es two.0 start _ _ (λ xs v w is are.
          invoke_in_range f xs _ _ w result.0 are is.range.ready (λ o x r. given_in_range o _ _ (λ y e.
          h y v x (returned_moment start v w x (result_type_of (signature_of i f)) o is r)
          (used_result x.memory (result_type_of (signature_of i f)) s y result.1
          (subst (λ (z : Option Value). ResultIsOf x.memory (result_type_of (signature_of i f)) z) e r.typed))))) v w is
      expression_in_range (stepped_after s l op left back) fit start k j h v w is =
          let two = and_parts (lvalue_fits i g s l) _ fit in
          let three = and_parts (conversion_fits left s false) _ two.1 in
          let four = and_parts (binary_takes op (type_after left s) (amount_type op)) _ three.1 in
          let five = and_parts (conversion_fits back _ false) _ four.1 in
          lvalue_in_range l s two.0 start _ _ (λ p v w is place. given_in_range (read s p v w) _ _ (λ x e.
          let of = read_is_of i g first s p start v w x place is e in
          given_in_range (updated_value op left unchanged back w.memory x step_amount) _ _ (λ y f.
          let new = subst (λ (t : Scalar). IsOf w.memory t y) (scalar_same _ s five.1) (updated_is_of op left unchanged back w.memory x step_amount y of.sound (omega arith) f) in
          write_in_range s p y _ _ start v w place new is (λ v' w' is' after. h x v' w' is' (is_of_later w.memory w'.memory s x after of))))) v w is
      expression_in_range (unary op e a) fit start k j h v w is =
          let two = and_parts (expr_fits i g a) _ fit in
          expression_in_range a two.0 start _ _ (λ x v w is of. given_in_range (convert_by e x >>= λ x. apply_unary op w.memory x) _ _ (λ y f.
          h y v w is (unary_is_of op e w.memory x y of.sound f))) v w is
      expression_in_range (cast e a) fit start k j h v w is =
          let two = and_parts (expr_fits i g a) _ fit in
          expression_in_range a two.0 start _ _ (λ x v w is of. given_in_range (convert_by e x) _ _ (λ y f.
          h y v w is (converted_is_of e (type_of a) w.memory x y of f))) v w is
      expression_in_range (binary op order left right a b) fit start k j h v w is =
          let two = and_parts (expr_fits i g a && expr_fits i g b) _ fit in
          let parts = and_parts (expr_fits i g a) _ two.0 in
          expression_in_range a parts.0 start _ _ (λ x v w is of.
          expression_in_range b parts.1 w.memory _ _ (λ y v' w' is' of'.
          given_in_range (operation_value op order left right w'.memory x y) _ _ (λ z e.
          h z v' w' (onward_from i g first start w.memory v' w' is.after is')
          (operation_is_of op order left right w'.memory x y z (is_of_later w.memory w'.memory (type_of a) x is'.after of).sound of'.sound e)))
          v w (now i g first start v w is)) v w is
      expression_in_range (logical_and a b) fit start k j h v w is =
          let two = and_parts (expr_fits i g a) _ fit in
          expression_in_range a two.0 start _ _ (λ x v w is of. test_in_range x _ _ _ _ v w
          (expression_in_range b two.1 start _ _ (λ y v w is of. test_in_range y _ _ _ _ v w
          (h (integer 1) v w is (truth_number w.memory 1 (omega arith))) (h (integer 0) v w is (truth_number w.memory 0 (omega arith)))) v w is)
          (h (integer 0) v w is (truth_number w.memory 0 (omega arith)))) v w is
      expression_in_range (logical_or a b) fit start k j h v w is =
          let two = and_parts (expr_fits i g a) _ fit in
          expression_in_range a two.0 start _ _ (λ x v w is of. test_in_range x _ _ _ _ v w
          (h (integer 1) v w is (truth_number w.memory 1 (omega arith)))
          (expression_in_range b two.1 start _ _ (λ y v w is of. test_in_range y _ _ _ _ v w
          (h (integer 1) v w is (truth_number w.memory 1 (omega arith))) (h (integer 0) v w is (truth_number w.memory 0 (omega arith)))) v w is)) v w is
      expression_in_range (conditional s a second third b e) fit start k j h v w is =
          let two = and_parts (expr_fits i g a) _ fit in
          let branches = and_parts (expr_fits i g b && becomes second b s) _ two.1 in
          let one = and_parts (expr_fits i g b) _ branches.0 in
          let other = and_parts (expr_fits i g e) _ branches.1 in
          expression_in_range a two.0 start _ _ (λ x v w is of. test_in_range x _ _ _ _ v w
          (expression_in_range b one.0 start _ _ (λ y v w is of. given_in_range (convert_by second y) _ _ (λ z f.
          h z v w is (becomes_is_of w.memory b second s y z one.1 of f))) v w is)
          (expression_in_range e other.0 start _ _ (λ y v w is of. given_in_range (convert_by third y) _ _ (λ z f.
          h z v w is (becomes_is_of w.memory e third s y z other.1 of f))) v w is)) v w is
      expression_in_range (assigned a) fit start k j h v w is = assignment_in_range a fit start k j h v w is
      expression_in_range (sequence a b) fit start k j h v w is =
          let two = and_parts (effect_fits i g a) _ fit in
          effect_in_range a two.0 start _ _ (expression_in_range b two.1 start k j h) v w is

      lvalue_in_range : (l : Lvalue) (s : Scalar) → lvalue_fits i g s l ≡ true → (start : Memory) (k j : Place → Next)
          → ((p : Place) (v : Environment) (w : World) → At start v w → PlaceIsOf i g first s p → R (k p v w) (j p v w))
          → Nexts start (lvalue l here k) (lvalue l there j)
      lvalue_in_range (variable x) s fit start k j h v w is = h (in_variable x) v w is (type_is (slice_get g.variables x) s fit)
      lvalue_in_range (object a) s fit start k j h v w is =
          let two = and_parts (expr_fits i g a) _ fit in
          expression_in_range a two.0 start _ _ (λ x v w is of. h (in_object x) v w is tt) v w is

      arguments_in_range : (types : List Scalar) (es : Arguments) → arguments_fit i g types es ≡ true → (start : Memory) (k j : List Value → Next)
          → ((xs : List Value) (v : Environment) (w : World) → At start v w → AreOf w.memory types xs → R (k xs v w) (j xs v w))
          → Nexts start (arguments es here k) (arguments es there j)
      arguments_in_range [] no_arguments fit start k j h v w is = h [] v w is tt
      arguments_in_range [] (argument_and e a es) fit start k j h v w is = cc
      arguments_in_range (s ∷ types) no_arguments fit start k j h v w is = cc
      arguments_in_range (s ∷ types) (argument_and e a es) fit start k j h v w is =
          let two = and_parts (expr_fits i g a && becomes e a s) _ fit in
          let one = and_parts (expr_fits i g a) _ two.0 in
          expression_in_range a one.0 start _ _ (λ x v w is of.
          arguments_in_range types es two.1 w.memory _ _ (λ ys v' w' is' are. given_in_range (convert_by e x) _ _ (λ y f.
          h (y ∷ ys) v' w' (onward_from i g first start w.memory v' w' is.after is')
          (becomes_is_of w'.memory a e s x y one.1 (is_of_later w.memory w'.memory (type_of a) x is'.after of) f, are)))
          v w (now i g first start v w is)) v w is

      assignment_in_range : (a : Assignment) → assignment_fits i g a ≡ true → (start : Memory) (k j : Value → Next) → Values start (assigned_type a) k j
          → Nexts start (assignment a here k) (assignment a there j)
      assignment_in_range (set s l e a) fit start k j h v w is =
          let two = and_parts (lvalue_fits i g s l) _ fit in
          let one = and_parts (expr_fits i g a) _ two.1 in
          lvalue_in_range l s two.0 start _ _ (λ p v w is place.
          expression_in_range a one.0 start _ _ (λ x v w is of. given_in_range (convert_by e x) _ _ (λ y f.
          let new = becomes_is_of w.memory a e s x y one.1 of f in
          write_in_range s p y _ _ start v w place new is (λ v' w' is' after. h y v' w' is' (is_of_later w.memory w'.memory s y after new)))) v w is) v w is
      assignment_in_range (update s l op left right back a) fit start k j h v w is =
          let two = and_parts (lvalue_fits i g s l && expr_fits i g a) _ fit in
          let one = and_parts (lvalue_fits i g s l) _ two.0 in
          let three = and_parts (conversion_fits left s false && conversion_fits right (type_of a) (is_null a)) _ two.1 in
          let four = and_parts (binary_takes op (type_after left s) (type_after right (type_of a))) _ three.1 in
          let five = and_parts (conversion_fits back _ false) _ four.1 in
          lvalue_in_range l s one.0 start _ _ (λ p v w is place. given_in_range (read s p v w) _ _ (λ x e.
          let old = read_is_of i g first s p start v w x place is e in
          expression_in_range a one.1 w.memory _ _ (λ y v' w' is' of. given_in_range (updated_value op left right back w'.memory x y) _ _ (λ z f.
          let new = subst (λ (t : Scalar). IsOf w'.memory t z) (scalar_same _ s five.1)
          (updated_is_of op left right back w'.memory x y z (is_of_later w.memory w'.memory s x is'.after old).sound of.sound f) in
          write_in_range s p z _ _ start v' w' place new (onward_from i g first start w.memory v' w' is.after is')
          (λ v'' w'' is'' after. h z v'' w'' is'' (is_of_later w'.memory w''.memory s z after new))))
          v w (now i g first start v w is))) v w is

      effect_in_range : (a : Effect) → effect_fits i g a ≡ true → (start : Memory) (k j : Next) → Nexts start k j → Nexts start (effect a here k) (effect a there j)
      effect_in_range nothing fit start k j h v w is = h v w is
      effect_in_range (discard a) fit start k j h v w is = expression_in_range a fit start _ _ (λ x v w is of. h v w is) v w is
      effect_in_range (assign a) fit start k j h v w is = assignment_in_range a fit start _ _ (λ x v w is of. h v w is) v w is
      effect_in_range (perform f es) fit start k j h v w is =
          let two = and_parts (is_some (signature_of i f)) _ fit in
          arguments_in_range (taken (signature_of i f)) es two.1 start _ _ (λ xs v w is are.
          invoke_in_range f xs _ _ w two.0 are is.range.ready (λ o x r. h v x (returned_moment start v w x (result_type_of (signature_of i f)) o is r))) v w is
      effect_in_range (copy size alignment a b) fit start k j h v w is =
          let two = and_parts (expr_fits i g a && is_pointer (type_of a)) _ fit in
          let one = and_parts (expr_fits i g a) _ two.0 in
          let other = and_parts (expr_fits i g b) _ (and_parts (expr_fits i g b && is_pointer (type_of b)) _ two.1).0 in
          expression_in_range a one.0 start _ _ (λ x v w is of. expression_in_range b other.0 start _ _ (λ y v w is of.
          given_in_range (as_pointer x >>= λ to. as_pointer y >>= λ from. blocks.copy size alignment w.memory to from) _ _ (λ n e.
          let to = followed (as_pointer x) _ n e in
          let from = followed (as_pointer y) _ n to.then in
          h v (with_memory w n) (moment_stepped i g first start v w n is (memory_goes_on.copy size alignment w.memory n to.value from.value from.then)
          (soundness_is_kept.copy size alignment w.memory n to.value from.value is.range.ready.sound from.then)))) v w is) v w is
      effect_in_range (fill blank a) fit start k j h v w is =
          let two = and_parts (expr_fits i g a) _ fit in
          expression_in_range a two.0 start _ _ (λ x v w is of. given_in_range (as_pointer x >>= λ p. blocks.fill blank w.memory p) _ _ (λ n e.
          let p = followed (as_pointer x) _ n e in
          h v (with_memory w n) (moment_stepped i g first start v w n is (memory_goes_on.fill blank w.memory n p.value p.then)
          (soundness_is_kept.fill blank w.memory n p.value is.range.ready.sound p.then)))) v w is
      effect_in_range (in_order a b) fit start k j h v w is =
          let two = and_parts (effect_fits i g a) _ fit in
          effect_in_range a two.0 start _ _ (effect_in_range b two.1 start k j h) v w is

    -- ---- statements

    abbrev AllTargets : Memory → Targets → Targets → Type 0
    AllTargets start t u = TargetsInRange R i g first start t u

    condition_in_range : (e : Expr) → expr_fits i g e ≡ true → (start : Memory) (k k' l l' : Next) → Nexts start k l → Nexts start k' l'
        → Nexts start (condition e here k k') (condition e there l l')
    condition_in_range e fit start k k' l l' h f v w is =
        expression_in_range e fit start _ _ (λ x v w is of. test_in_range x k k' l l' v w (h v w is) (f v w is)) v w is

    for_condition_in_range : (e : Option Expr) → option_fits i g e ≡ true → (start : Memory) (k k' l l' : Next) → Nexts start k l → Nexts start k' l'
        → Nexts start (for_condition e here k k') (for_condition e there l l')
    for_condition_in_range None fit start k k' l l' h f = h
    for_condition_in_range (Some e) fit start k k' l l' h f = condition_in_range e fit start k k' l l' h f

    turns_in_range : (n : ℕ) (start : Memory) (t u : Next → Next) → ((k l : Next) → Nexts start k l → Nexts start (t k) (u l)) → Nexts start (turns n t) (turns n u)
    turns_in_range zero start t u h v w is = shorts
    turns_in_range (suc n) start t u h v w is = h _ _ (turns_in_range n start t u h) v w is

    loop_in_range : (start : Memory) (t u : Targets) → AllTargets start t u → (k l : Next) → Nexts start k l → AllTargets start (in_loop t k) (in_loop u l)
    loop_in_range start t u h k l f = record { behind = f; at_break = h.behind; at_continue = f; at_return = h.at_return }

    switch_in_range : (start : Memory) (t u : Targets) → AllTargets start t u → AllTargets start (in_switch t) (in_switch u)
    switch_in_range start t u h = record { behind = h.behind; at_break = h.behind; at_continue = h.at_continue; at_return = h.at_return }

    chosen_in_range : (b : Bool) (start : Memory) (k k' l l' : Next) → Nexts start k l → Nexts start k' l' → Nexts start (if b then k else k') (if b then l else l')
    chosen_in_range true start k k' l l' h f = h
    chosen_in_range false start k k' l l' h f = f

    returned_in_range : (e : Conversion) (a : Expr) (o : Option Scalar) → returned_fits i g e a o ≡ true → (start : Memory) (k j : Return) → ReturnsInRange R i o start k j
        → Nexts start (expression a here (λ x v w. given (convert_by e x) (λ y. k (Some y) w))) (expression a there (λ x v w. given (convert_by e x) (λ y. j (Some y) w)))
    returned_in_range e a None fit start k j h v w is = cc
    returned_in_range e a (Some s) fit start k j h v w is =
        let two = and_parts (expr_fits i g a) _ fit in
        expression_in_range a two.0 start _ _ (λ x v w is of. given_in_range (convert_by e x) _ _ (λ y f.
        h (Some y) w (record { typed = becomes_is_of w.memory a e s x y two.1 of f; ready = is.range.ready; after = is.after }))) v w is

    mutual
      statement_in_range : (b c : Bool) (s : Stmt) → stmt_fits i g b c s ≡ true → (start : Memory) (t u : Targets) → AllTargets start t u
          → Nexts start (statement s here t) (statement s there u)
      statement_in_range b c (evaluate a) fit start t u h v w is = effect_in_range a fit start _ _ h.behind v w is
      statement_in_range b c (block ss) fit start t u h v w is = statements_in_range b c ss fit start t u h v w is
      statement_in_range b c (branch e p q) fit start t u h v w is =
          let two = and_parts (expr_fits i g e) _ fit in
          let parts = and_parts (stmt_fits i g b c p) _ two.1 in
          condition_in_range e two.0 start _ _ _ _ (statement_in_range b c p parts.0 start t u h) (statement_in_range b c q parts.1 start t u h) v w is
      statement_in_range b c (switch to e ss) fit start t u h v w is =
          let two = and_parts (expr_fits i g e) _ fit in
          let three = and_parts (operand_fits to e) _ two.1 in
          let items = (and_parts (labels_fit ss) _ three.1).1 in
          let inside = switch_in_range start t u h in
          expression_in_range e two.0 start _ _ (λ x v w is of. given_in_range (convert_by to x) _ _ (λ y f. given_in_range (as_integer y) _ _ (λ n f.
          label_in_range c (is_case n) ss items start _ _ inside _ _ (label_in_range c is_default ss items start _ _ inside _ _ h.behind) v w is))) v w is
      statement_in_range b c (case_label n) fit start t u h v w is = h.behind v w is
      statement_in_range b c default_label fit start t u h v w is = h.behind v w is
      statement_in_range b c (while_loop e p) fit start t u h v w is =
          let two = and_parts (expr_fits i g e) _ fit in
          turns_in_range m start _ _ (λ k l f. condition_in_range e two.0 start _ _ _ _
          (statement_in_range true true p two.1 start _ _ (loop_in_range start t u h k l f)) h.behind) v w is
      statement_in_range b c (do_loop p e) fit start t u h v w is =
          let two = and_parts (stmt_fits i g true true p) _ fit in
          turns_in_range m start _ _ (λ k l f. statement_in_range true true p two.0 start _ _
          (loop_in_range start t u h _ _ (condition_in_range e two.1 start _ _ _ _ f h.behind))) v w is
      statement_in_range b c (for_loop begin e step p) fit start t u h v w is =
          let two = and_parts (effect_fits i g begin) _ fit in
          let three = and_parts (option_fits i g e) _ two.1 in
          let four = and_parts (effect_fits i g step) _ three.1 in
          effect_in_range begin two.0 start _ _ (turns_in_range m start _ _ (λ k l f.
          for_condition_in_range e three.0 start _ _ _ _
          (statement_in_range true true p four.1 start _ _ (loop_in_range start t u h _ _ (effect_in_range step four.0 start k l f))) h.behind)) v w is
      statement_in_range b c break fit start t u h v w is = h.at_break v w is
      statement_in_range b c continue fit start t u h v w is = h.at_continue v w is
      statement_in_range b c (return e a) fit start t u h v w is = returned_in_range e a g.result fit start t.at_return u.at_return h.at_return v w is
      statement_in_range b c return_nothing fit start t u h v w is = h.at_return None w (record { typed = tt; ready = is.range.ready; after = is.after })

      statements_in_range : (b c : Bool) (ss : Stmts) → stmts_fit i g b c ss ≡ true → (start : Memory) (t u : Targets) → AllTargets start t u
          → Nexts start (statements ss here t) (statements ss there u)
      statements_in_range b c no_stmts fit start t u h v w is = h.behind v w is
      statements_in_range b c (stmt_and s ss) fit start t u h v w is =
          let two = and_parts (stmt_fits i g b c s) _ fit in
          statement_in_range b c s two.0 start _ _
          (record { behind = statements_in_range b c ss two.1 start t u h; at_break = h.at_break; at_continue = h.at_continue; at_return = h.at_return }) v w is

      -- behind a label of a switch
      label_in_range : (c : Bool) (is_label : Stmt → Bool) (ss : Stmts) → stmts_fit i g true c ss ≡ true → (start : Memory) (t u : Targets) → AllTargets start t u
          → (k l : Next) → Nexts start k l → Nexts start (behind_label is_label ss here t k) (behind_label is_label ss there u l)
      label_in_range c is_label no_stmts fit start t u h k l f v w is = f v w is
      label_in_range c is_label (stmt_and s ss) fit start t u h k l f v w is =
          let two = and_parts (stmt_fits i g true c s) _ fit in
          chosen_in_range (is_label s) start _ _ _ _ (statements_in_range true c ss two.1 start t u h) (label_in_range c is_label ss two.1 start t u h k l f) v w is

  -- ---- passing arguments

  record Passed (g : Function) (start : Memory) (first : ℕ) (v : Environment) (w : World) : Type 0 where
    variables : VariablesAreOf w.memory g.variables v
    ready : IsReady i w
    after : ComesAfter start w.memory
    blocks : first + length g.blocks ≤ length w.memory

  module _ (g : Function) (start : Memory) (first : ℕ) where
    -- the variables from this number on
    abbrev From : ℕ → List Scalar → Type 0
    From n vs = (x : ℕ) → slice_get g.variables (n + x) ≡ slice_get vs x

    next_from : (n : ℕ) (s : Scalar) (vs : List Scalar) → From n (s ∷ vs) → From (n + 1) vs
    next_from n s vs from x =
        let same : n + 1 + x ≡ n + suc x = omega arith in
        ap (slice_get g.variables) same ∙ from (suc x)

    type_from : (n : ℕ) (s : Scalar) (vs : List Scalar) → From n (s ∷ vs) → slice_get g.variables n ≡ Some s
    type_from n s vs from =
        let same : n ≡ n + 0 = omega arith in
        ap (slice_get g.variables) same ∙ from 0

    one_passed : (n : ℕ) (s : Scalar) (p : Parameter) (ps : List Parameter) (y : Value) (ys : List Value) (v : Environment) (w : World) (k j : Entered)
        → place_fits g.blocks n s p ≡ true → slice_get g.variables n ≡ Some s → IsOf w.memory s y → Passed g start first v w
        → ((v : Environment) (x : World) → ComesAfter w.memory x.memory → Passed g start first v x → R (pass ps ys first v x k) (pass ps ys first v x j))
        → R (pass (p ∷ ps) (y ∷ ys) first v w k) (pass (p ∷ ps) (y ∷ ys) first v w j)
    one_passed n s (Plain x) ps y ys v w k j fit type of is h =
        let here : n ≡ x = grind (arith, nat_tests, fit) in
        h (with_value v x y) w (after_same w.memory) (record {
          variables = with_value_are_of w.memory g.variables v x s y is.variables (ap (slice_get g.variables) (sym here) ∙ type) of;
          ready = is.ready;
          after = is.after;
          blocks = is.blocks;
        })
    one_passed n s (Placed b t) ps y ys v w k j fit type of is h = given_in_range (blocks.store t w.memory (into (first + b) 0) y) _ _ (λ m stored.
        let on = memory_goes_on.store t w.memory m (into (first + b) 0) y stored in
        let sound = soundness_is_kept.store t w.memory m (into (first + b) 0) y is.ready.sound of.sound stored in
        h v (with_memory w m) on (record {
          variables = variables_later w.memory m g.variables v on is.variables;
          ready = ready_later i w m is.ready on sound;
          after = after_next start w.memory m is.after on;
          blocks = let longer = on.longer in let room = is.blocks in omega arith;
        }))

    pass_in_range : (n : ℕ) (ps : List Parameter) (vs : List Scalar) (ys : List Value) (v : Environment) (w : World) (k j : Entered)
        → From n vs → parameters_placed g.blocks n ps vs ≡ true → AreOf w.memory (types_of ps vs) ys → Passed g start first v w
        → ((v : Environment) (w : World) → Passed g start first v w → R (k v w) (j v w))
        → R (pass ps ys first v w k) (pass ps ys first v w j)
    pass_in_range n [] vs [] v w k j from fit are is h = h v w is
    pass_in_range n [] vs (y ∷ ys) v w k j from fit are is h = absurd are
    pass_in_range n (p ∷ ps) [] ys v w k j from fit are is h = cc
    pass_in_range n (p ∷ ps) (s ∷ vs) [] v w k j from fit are is h = absurd are
    pass_in_range n (p ∷ ps) (s ∷ vs) (y ∷ ys) v w k j from fit are is h =
        let two = and_parts (place_fits g.blocks n s p) _ fit in
        one_passed n s p ps y ys v w k j two.0 (type_from n s vs from) are.0 is (λ v x on passed.
        pass_in_range (n + 1) ps vs ys v x k j (next_from n s vs from) two.1 (are_of_later w.memory x.memory (types_of ps vs) ys on are.1) passed h)

  -- ---- calls

  returned_later : (result : Option Scalar) (start : Memory) (first : ℕ) (x : Option Value) (w : World) → IsReturn i result start x w
      → IsReturn i result start x (with_memory w (release first w.memory))
  returned_later result start first x w h =
      let on = after_release first w.memory in
      record {
        typed = result_is_of_later w.memory (release first w.memory) result x on h.typed;
        ready = ready_later i w (release first w.memory) h.ready on (soundness_is_kept.release first w.memory h.ready.sound);
        after = after_next start w.memory (release first w.memory) h.after on;
      }

  -- main returns 0 at its end
  end_is_of : (n : Memory) (b : Bool) (o : Option Scalar) → (not b || is_type o scalars.Int) ≡ true → ResultIsOf n o (result_at_end b)
  end_is_of n false o fit = tt
  end_is_of n true o fit = subst (λ (z : Option Scalar). ResultIsOf n z (Some (integer 0))) (sym (type_is o scalars.Int fit)) (number_is_of n scalars.Int 0 refl)

  pub calls_in_range : (fs : List Function) → i.functions ≡ map signature fs → list_all (function_fits i) fs ≡ true → (turns depth : ℕ)
      → CallsInRange R i (calls_within fs turns depth) (calls_within fs turns depth)
  calls_in_range fs same all m zero f xs k j w may h = shorts
  calls_in_range fs same all m (suc depth) f xs k j w may h = given_in_range (slice_get fs f) _ _ (λ g is.
      let known : slice_get i.functions f ≡ Some (signature g) = ap (λ z. slice_get z f) same ∙ (slice_get-map signature fs f ∙ ap (option_map signature) is) in
      let fit = all_at (function_fits i) fs f g all is in
      let two = and_parts (parameters_placed g.blocks 0 g.parameters g.variables) _ fit in
      let body = and_parts (end_fits g) _ two.1 in
      let first : ℕ = length w.memory in
      let n : Memory = make g.blocks w.memory in
      let on = after_make g.blocks w.memory in
      let count = (blocks_are_fresh g.blocks w.memory).count in
      let are = subst (λ (o : Option Signature). Takes w.memory o xs) known may.takes in
      let returns = subst (λ (o : Option Signature). ReturnsInRange R i (result_type_of o) w.memory k j) known h in
      keeps.emit _ _ _ (pass_in_range g w.memory first 0 g.parameters g.variables xs no_values (with_memory w n) _ _
      (λ x. ap (slice_get g.variables) (omega arith)) two.0 (are_of_later w.memory n (types_of g.parameters g.variables) xs on are)
      (record {
        variables = no_values_are_of n g.variables;
        ready = ready_later i w n may.ready on (soundness_is_kept.make g.blocks w.memory may.ready.sound);
        after = on;
        blocks = omega (arith, count);
      })
      (λ v x passed.
      statements_in_range m _ _ (calls_in_range fs same all m depth) g first false false g.body (and_parts (stmts_fit i g false false g.body) _ body.1).0 w.memory _ _
      (record {
        behind = λ v x moment. keeps.emit _ _ _ (returns (result_at_end g.is_main) _ (returned_later g.result w.memory first (result_at_end g.is_main) x
            (record { typed = end_is_of x.memory g.is_main g.result body.0; ready = moment.range.ready; after = moment.after })));
        at_break = λ v x moment. keeps.undefined;
        at_continue = λ v x moment. keeps.undefined;
        at_return = λ result x r. keeps.emit _ _ _ (returns result _ (returned_later g.result w.memory first result x r));
      }) v x
      (record { range = record { variables = passed.variables; blocks = passed.blocks; ready = passed.ready }; after = passed.after }))))

-- ---- what follows at other moments makes no difference

same_keeps : Keeps ◌≡◌
same_keeps = record { emit = λ event o p h. ap (emit event) h; undefined = refl }

pub calls_stay_in_range : CallsStayInRange
calls_stay_in_range u turns depth fits = calls_in_range ◌≡◌ same_keeps refl (interface_of u) u.functions refl fits turns depth

pub expressions_have_types : ExpressionsHaveTypes
expressions_have_types u turns depth first g e start k j fits fit h =
    expression_in_range ◌≡◌ same_keeps refl (interface_of u) turns _ _ (calls_stay_in_range u turns depth fits) g first e fit start k j h

pub bodies_stay_in_range : BodiesStayInRange
bodies_stay_in_range u turns depth first g ss start t r fits fit h =
    statements_in_range ◌≡◌ same_keeps refl (interface_of u) turns _ _ (calls_stay_in_range u turns depth fits) g first true true ss fit start t r h

-- ---- what a run leaves

-- what the first run leaves is in range
abbrev Leaves : Interface → (result : Option Scalar) → (start : Memory) → Relation
Leaves i result start o p =
    (left : Left Value Memory) → ending_of o ≡ has_ended left → IsReturn i result start left.result (record { memory = left.memory; input = left.input })

leaves_keeps : (i : Interface) (result : Option Scalar) (start : Memory) → Keeps (Leaves i result start)
leaves_keeps i result start = record { emit = λ event o p h. h; undefined = λ left is. cc }

pub runs_leave_sound : RunsLeaveSound
runs_leave_sound u root xs w n left fits may is =
    calls_in_range (Leaves (interface_of u) (result_at (interface_of u) root) w.memory) (leaves_keeps (interface_of u) (result_at (interface_of u) root) w.memory) (λ left is. cc) (interface_of u) u.functions refl fits n n
    root xs leaves leaves w may
    (λ result v r other ended. subst (λ (x : Left Value Memory). IsReturn (interface_of u) (result_at (interface_of u) root) w.memory x.result (record { memory = x.memory; input = x.input }))
    (ended_same _ other ended) r)
    left is
  where
    ended_same : (x y : Left Value Memory) → has_ended x ≡ has_ended y → x ≡ y
    ended_same x y h = cc

-- ---- the memory in which a run of main begins

extents_there : (bs : List StaticBlock) (b : ℕ) (d : DataExtent) → slice_get (map data_extent bs) b ≡ Some d → IsDataExtent (map block_of bs) b d
extents_there [] b d h = cc
extents_there (x ∷ xs) zero d h =
    let same = same_Some (data_extent x) d h in
    subst (λ (z : DataExtent). IsDataExtent (map block_of (x ∷ xs)) zero z) same (record { size = refl; writable = refl })
extents_there (x ∷ xs) (suc b) d h = let r = extents_there xs b d h in record { size = r.size; writable = r.writable }

pub initial_memory_is_ready : InitialMemoryIsReady
initial_memory_is_ready unit u input bytes typed are = record {
  sound = initial_memory_is_sound unit u bytes typed;
  data_blocks = record {
    count = let m = length-map u.blocks data_extent in let n = length-map u.blocks block_of in omega arith;
    each = extents_there u.blocks;
  };
  input = are;
}
