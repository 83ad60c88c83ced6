-- A run in which what it can't touch is hidden is the run in the whole memory, and leaves that as it was.
use Rattle.std.proofs.Common.{◌≡◌, ℕ, zero, suc, ◌+◌, ◌-◌, ◌%◌, ◌^◌, ◌==◌, ◌≤◌, ◌&&◌, Bool, true, false, List, [], ◌∷◌, length, Option, Some, None, refl, sym, ap, subst, arith, if◌then◌else◌}
use Rattle.std.specs.Prelude.{option_map}
use Rattle.std.specs.List.{slice_get, list_all}
use Rattle.std.proofs.lemmas.Bool.{and_parts, and_from}
use Rattle.std.proofs.lemmas.Option.{same_Some}
use Rattle.qs_memory.specs.Partial.{◌>>=◌}
use Rattle.qs_memory.specs.Values.{into, Value, integer, address, as_integer, as_pointer}
use Rattle.qs_memory.specs.Memory.{Memory, make, release}
use Rattle.qs_memory.specs.Memory as blocks
use Rattle.qs_memory.specs.Pointers.{member_of, truth}
use Rattle.qs_memory.specs.Operations.{apply_unary}
use Rattle.qs_memory.specs.declared.scalar.Scalar.{Scalar}
use Rattle.qs_events.specs.Events.{Returns}
use Rattle.qs_events.specs.Runs.{emit, short, given}
use Rattle.qs_calls.specs.World.{World, with_memory, RootRun, Return, leaves, Environment, no_values, with_value}
use Rattle.qs_calls.specs.Calls.{CallsOf, take_byte, get_char, put_char, invoke, Entered, pass}
use Rattle.qs_calls.specs.Relations.{Relation, Keeps}
use Rattle.qs_calls.specs.declared.callee.Callee.{Callee}
use Rattle.qs_calls.specs.declared.callee.Callee.TheVariants as callees
use Rattle.qs_calls.specs.declared.parameter.Parameter.{Parameter}
use Rattle.qs_calls.specs.declared.parameter.Parameter.TheVariants.{Plain, Placed}
use Rattle.qs_meaning.specs.Typed.{Conversion, unchanged, Object, local, static, Expr, constant, value, pointer_to, member, called, stepped_after, unary, cast, binary, logical_and, logical_or, conditional, assigned, sequence, Lvalue, variable, object, Arguments, no_arguments, argument_and, Assignment, set, update, Effect, nothing, discard, assign, perform, copy, fill, in_order, Stmt, evaluate, block, branch, switch, case_label, default_label, while_loop, do_loop, for_loop, break, continue, return, return_nothing, Stmts, no_stmts, stmt_and, Function}
use Rattle.qs_meaning.specs.States.{Next, Here, choose, test, convert_by, conversion_then, pointer_at, Place, in_variable, in_object, read, write}
use Rattle.qs_meaning.specs.Meaning.{operation_value, updated_value, step_amount, expression, lvalue, arguments, assignment, effect, Targets, in_loop, in_switch, is_case, is_default, turns, condition, for_condition, statement, statements, behind_label}
use Rattle.qs_meaning.specs.Runs.{result_at_end, targets, body_of, calls_within}
use Rattle.qs_hiding.specs.Hidden.{Reach, hidden, hidden_world, value_stays, option_stays, object_stays, callee_stays, expression_stays, lvalue_stays, arguments_stay, assignment_stays, effect_stays, condition_stays, statement_stays, statements_stay, IsReach, IsBehind, IsHidden, HidingKeepsRuns}
use Rattle.qs_hiding.proofs.HiddenMemory.{length-hidden, store_hidden, store_behind, make_hidden, make_behind, release_hidden, release_behind}
use Rattle.qs_hiding.proofs.HiddenValues.{Stays, conversion_stays, truth_hidden, member_hidden, member_stays, unary_value_hidden, unary_value_stays, operation_hidden, operation_stays, updated_hidden, updated_stays, place_stays, HoldsStaying, read_hidden, read_stays, store_at_hidden, store_at_behind, copy_at_hidden, copy_at_behind, fill_at_hidden, fill_at_behind}

module _ (r : Reach) (R : Relation) (keeps : Keeps R) (shorts : R short short) where
  given_at : {A : Type 0} (o : Option A) (f g : A → RootRun) → ((a : A) → o ≡ Some a → R (f a) (g a)) → R (given o f) (given o g)
  given_at None f g h = keeps.undefined
  given_at (Some a) f g h = h a refl

  given_same : {A : Type 0} (o p : Option A) (f g : A → RootRun) → p ≡ o → ((a : A) → o ≡ Some a → R (f a) (g a)) → R (given o f) (given p g)
  given_same {A} o p f g e h = subst (λ (q : Option A). R (given o f) (given q g)) (sym e) (given_at o f g h)

  mapped_at : (o : Option Memory) (f g : Memory → RootRun) → ((m : Memory) → o ≡ Some m → R (f m) (g (hidden r m))) → R (given o f) (given (option_map (hidden r) o) g)
  mapped_at None f g h = keeps.undefined
  mapped_at (Some m) f g h = h m refl

  given_mapped : (o p : Option Memory) (f g : Memory → RootRun) → p ≡ option_map (hidden r) o → ((m : Memory) → o ≡ Some m → R (f m) (g (hidden r m)))
      → R (given o f) (given p g)
  given_mapped o p f g e h = subst (λ (q : Option Memory). R (given o f) (given q g)) (sym e) (mapped_at o f g h)

  -- the unit's blocks are the first ones, and were there when the run began
  module _ (functions : List Function) (count : ℕ) (reach : IsReach r functions count) (start : Memory) (there : count ≤ length start) where
    record IsMoment (v : Environment) (w : World) : Type 0 where
      values : HoldsStaying r v
      memory : IsBehind r start w.memory

    abbrev Nexts : (k j : Next) → Type 0
    Nexts k j = (v : Environment) (w : World) → IsMoment v w → R (k v w) (j v (hidden_world r w))

    abbrev ReturnsAlike : (k j : Return) → Type 0
    ReturnsAlike k j = (x : Option Value) (w : World) → option_stays r x ≡ true → IsBehind r start w.memory → R (k x w) (j x (hidden_world r w))

    abbrev AllStay : List Value → Type 0
    AllStay xs = list_all (value_stays r) xs ≡ true

    abbrev CallsAlike : CallsOf → Type 0
    CallsAlike c =
        (f : ℕ) (xs : List Value) (k j : Return) (w : World) → r.may_call f ≡ true → AllStay xs → IsBehind r start w.memory → ReturnsAlike k j
        → R (c f xs k w) (c f xs j (hidden_world r w))

    -- ---- the given functions

    put_alike : (xs : List Value) (k j : Return) (w : World) → IsBehind r start w.memory → ReturnsAlike k j → R (put_char xs k w) (put_char xs j (hidden_world r w))
    put_alike [] k j w is h = keeps.undefined
    put_alike (address p ∷ others) k j w is h = keeps.undefined
    put_alike (integer n ∷ x ∷ others) k j w is h = keeps.undefined
    put_alike (integer n ∷ []) k j w is h = keeps.emit _ _ _ (h (Some (integer (n % 256))) w refl is)

    take_alike : (input : List ℕ) (k j : Return) (w : World) → IsBehind r start w.memory → ReturnsAlike k j → R (take_byte input k w) (take_byte input j (hidden_world r w))
    take_alike [] k j w is h = keeps.emit _ _ _ (h (Some (integer (2 ^ 32 - 1))) w refl is)
    take_alike (b ∷ input) k j w is h = keeps.emit _ _ _ (h (Some (integer b)) (record w { input = input }) refl is)

    get_alike : (xs : List Value) (k j : Return) (w : World) → IsBehind r start w.memory → ReturnsAlike k j → R (get_char xs k w) (get_char xs j (hidden_world r w))
    get_alike [] k j w is h = take_alike w.input k j w is h
    get_alike (x ∷ others) k j w is h = keeps.undefined

    -- ---- variables

    no_values_stay : HoldsStaying r no_values
    no_values_stay = record { each = λ x y h. cc }

    with_value_stays : (v : Environment) (x : ℕ) (y : Value) → HoldsStaying r v → Stays r y → HoldsStaying r (with_value v x y)
    with_value_stays v x y holds e = record { each = λ z w is. at z w (z == x) is }
      where
        at : (z : ℕ) (w : Value) (b : Bool) → (if b then Some y else v z) ≡ Some w → Stays r w
        at z w true is = subst (Stays r) (same_Some y w is) e
        at z w false is = holds.each z w is

    -- ---- in a call

    module _ (m : ℕ) (c : CallsOf) (calls : CallsAlike c) (first : ℕ) (behind_unit : count ≤ first) where
      abbrev here : Here
      here = record { turns = m; first_block = first; calls = c }

      choose_alike : (b : Bool) (k k' l l' : Next) (v : Environment) (w : World) → R (k v w) (l v (hidden_world r w)) → R (k' v w) (l' v (hidden_world r w))
          → R (choose b k k' v w) (choose b l l' v (hidden_world r w))
      choose_alike true k k' l l' v w p q = p
      choose_alike false k k' l l' v w p q = q

      test_alike : (x : Value) (k k' l l' : Next) (v : Environment) (w : World) → Stays r x → R (k v w) (l v (hidden_world r w)) → R (k' v w) (l' v (hidden_world r w))
          → R (test x k k' v w) (test x l l' v (hidden_world r w))
      test_alike x k k' l l' v w e p q =
          given_same (truth w.memory x) (truth (hidden r w.memory) x) _ _ (truth_hidden r w.memory x e) (λ b is. choose_alike b k k' l l' v w p q)

      conversion_alike : (to : Conversion) (x : Value) (k j : Value → Next) (v : Environment) (w : World) → Stays r x → IsMoment v w → ((y : Value) → Stays r y → Nexts (k y) (j y))
          → R (conversion_then to x k v w) (conversion_then to x j v (hidden_world r w))
      conversion_alike to x k j v w e is h = given_at (convert_by to x) _ _ (λ y a. h y (conversion_stays r to x y e a) v w is)

      write_alike : (s : Scalar) (p : Place) (y : Value) (k j : Next) (v : Environment) (w : World) → place_stays r p ≡ true → Stays r y → IsMoment v w → Nexts k j
          → R (write s p y k v w) (write s p y j v (hidden_world r w))
      write_alike s (in_variable x) y k j v w place e is h = h (with_value v x y) w (record { values = with_value_stays v x y is.values e; memory = is.memory })
      write_alike s (in_object a) y k j v w place e is h =
          given_mapped (as_pointer a >>= λ p. blocks.store s w.memory p y) (as_pointer a >>= λ p. blocks.store s (hidden r w.memory) p y) _ _ (store_at_hidden r s w.memory a y place)
          (λ n stored. h v (with_memory w n) (record { values = is.values; memory = store_at_behind r start s w.memory a y n is.memory place e stored }))

      read_alike : (s : Scalar) (p : Place) (k j : Value → Next) (v : Environment) (w : World) → place_stays r p ≡ true → IsMoment v w
          → ((x : Value) → Stays r x → R (k x v w) (j x v (hidden_world r w)))
          → R (given (read s p v w) (λ x. k x v w)) (given (read s p v (hidden_world r w)) (λ x. j x v (hidden_world r w)))
      read_alike s p k j v w place is h =
          given_same (read s p v w) (read s p v (hidden_world r w)) _ _ (read_hidden r s p v w place) (λ x a. h x (read_stays r s p v w x place is.values is.memory.closed a))

      object_is_kept : (o : Object) → object_stays r o ≡ true → Stays r (address (pointer_at o first))
      object_is_kept (local k) e = reach.blocks (first + k) (omega arith)
      object_is_kept (static k) e = e

      invoke_alike : (f : Callee) (xs : List Value) (k j : Return) (w : World) → callee_stays r f ≡ true → AllStay xs → IsBehind r start w.memory → ReturnsAlike k j
          → R (invoke f c xs k w) (invoke f c xs j (hidden_world r w))
      invoke_alike (callees.Function f) xs k j w may are is h = calls f.0 xs k j w may are is h
      invoke_alike callees.PutChar xs k j w may are is h = put_alike xs k j w is h
      invoke_alike callees.GetChar xs k j w may are is h = get_alike xs k j w is h

      mutual
        expression_alike : (a : Expr) → expression_stays r a ≡ true → (k j : Value → Next) → ((x : Value) → Stays r x → Nexts (k x) (j x))
            → Nexts (expression a here k) (expression a here j)
        expression_alike (constant s n) e k j h v w is = h (integer n) refl v w is
        expression_alike (value s l) e k j h v w is = lvalue_alike l e _ _ (λ p place v w is. read_alike s p k j v w place is (λ x of. h x of v w is)) v w is
        expression_alike (pointer_to o) e k j h v w is = h (address (pointer_at o first)) (object_is_kept o e) v w is
        expression_alike (member offset a) e k j h v w is =
            expression_alike a e _ _ (λ x of v w is.
            given_same (as_pointer x >>= λ p. member_of w.memory p offset) (as_pointer x >>= λ p. member_of (hidden r w.memory) p offset) _ _ (member_hidden r w.memory x offset of)
            (λ q a. h (address q) (member_stays r w.memory x offset q of a) v w is)) v w is
        expression_alike (called s f es) e k j h v w is =
            let two = and_parts (callee_stays r f) (arguments_stay r es) e in
            arguments_alike es two.1 _ _ (λ xs are v w is. invoke_alike f xs _ _ w two.0 are is.memory (λ o x stays behind.
            given_at o _ _ (λ y a. h y (subst (λ (z : Option Value). option_stays r z ≡ true) a stays) v x (record { values = is.values; memory = behind })))) v w is
        expression_alike (stepped_after s l op left back) e k j h v w is =
            lvalue_alike l e _ _ (λ p place v w is.
            read_alike s p (λ x v w. given (updated_value op left unchanged back w.memory x step_amount) (λ y. write s p y (k x) v w))
            (λ x v w. given (updated_value op left unchanged back w.memory x step_amount) (λ y. write s p y (j x) v w)) v w place is (λ x of.
            given_same (updated_value op left unchanged back w.memory x step_amount) (updated_value op left unchanged back (hidden r w.memory) x step_amount)
            (λ y. write s p y (k x) v w) (λ y. write s p y (j x) v (hidden_world r w)) (updated_hidden r op left unchanged back w.memory x step_amount of refl) (λ y a.
            write_alike s p y (k x) (j x) v w place (updated_stays r op left unchanged back w.memory x step_amount y of refl a) is (h x of)))) v w is
        expression_alike (unary op to a) e k j h v w is =
            expression_alike a e _ _ (λ x of v w is.
            given_same (convert_by to x >>= λ x. apply_unary op w.memory x) (convert_by to x >>= λ x. apply_unary op (hidden r w.memory) x) _ _ (unary_value_hidden r op to w.memory x of)
            (λ y a. h y (unary_value_stays r op to w.memory x y a) v w is)) v w is
        expression_alike (cast to a) e k j h v w is = expression_alike a e _ _ (λ x of v w is. conversion_alike to x k j v w of is h) v w is
        expression_alike (binary op order left right a b) e k j h v w is =
            let two = and_parts (expression_stays r a) (expression_stays r b) e in
            expression_alike a two.0 _ _ (λ x of. expression_alike b two.1 _ _ (λ y of' v w is.
            given_same (operation_value op order left right w.memory x y) (operation_value op order left right (hidden r w.memory) x y) _ _
            (operation_hidden r op order left right w.memory x y of of') (λ z a. h z (operation_stays r op order left right w.memory x y z of of' a) v w is))) v w is
        expression_alike (logical_and a b) e k j h v w is =
            let two = and_parts (expression_stays r a) (expression_stays r b) e in
            expression_alike a two.0 _ _ (λ x of v w is. test_alike x _ _ _ _ v w of
            (expression_alike b two.1 _ _ (λ y of v w is. test_alike y _ _ _ _ v w of (h (integer 1) refl v w is) (h (integer 0) refl v w is)) v w is)
            (h (integer 0) refl v w is)) v w is
        expression_alike (logical_or a b) e k j h v w is =
            let two = and_parts (expression_stays r a) (expression_stays r b) e in
            expression_alike a two.0 _ _ (λ x of v w is. test_alike x _ _ _ _ v w of (h (integer 1) refl v w is)
            (expression_alike b two.1 _ _ (λ y of v w is. test_alike y _ _ _ _ v w of (h (integer 1) refl v w is) (h (integer 0) refl v w is)) v w is)) v w is
        expression_alike (conditional s a second third b d) e k j h v w is =
            let two = and_parts (expression_stays r a) (expression_stays r b && expression_stays r d) e in
            let branches = and_parts (expression_stays r b) (expression_stays r d) two.1 in
            expression_alike a two.0 _ _ (λ x of v w is. test_alike x _ _ _ _ v w of
            (expression_alike b branches.0 _ _ (λ y of v w is. conversion_alike second y k j v w of is h) v w is)
            (expression_alike d branches.1 _ _ (λ y of v w is. conversion_alike third y k j v w of is h) v w is)) v w is
        expression_alike (assigned a) e k j h v w is = assignment_alike a e k j h v w is
        expression_alike (sequence a b) e k j h v w is =
            let two = and_parts (effect_stays r a) (expression_stays r b) e in
            effect_alike a two.0 _ _ (expression_alike b two.1 k j h) v w is

        lvalue_alike : (l : Lvalue) → lvalue_stays r l ≡ true → (k j : Place → Next) → ((p : Place) → place_stays r p ≡ true → Nexts (k p) (j p))
            → Nexts (lvalue l here k) (lvalue l here j)
        lvalue_alike (variable x) e k j h v w is = h (in_variable x) refl v w is
        lvalue_alike (object a) e k j h v w is = expression_alike a e _ _ (λ x of v w is. h (in_object x) of v w is) v w is

        arguments_alike : (es : Arguments) → arguments_stay r es ≡ true → (k j : List Value → Next) → ((xs : List Value) → AllStay xs → Nexts (k xs) (j xs))
            → Nexts (arguments es here k) (arguments es here j)
        arguments_alike no_arguments e k j h v w is = h [] refl v w is
        arguments_alike (argument_and to a es) e k j h v w is =
            let two = and_parts (expression_stays r a) (arguments_stay r es) e in
            expression_alike a two.0 _ _ (λ x of. arguments_alike es two.1 _ _ (λ ys are v w is.
            conversion_alike to x (λ y. k (y ∷ ys)) (λ y. j (y ∷ ys)) v w of is (λ y of'. h (y ∷ ys) (and_from (value_stays r y) (list_all (value_stays r) ys) of' are)))) v w is

        assignment_alike : (a : Assignment) → assignment_stays r a ≡ true → (k j : Value → Next) → ((x : Value) → Stays r x → Nexts (k x) (j x))
            → Nexts (assignment a here k) (assignment a here j)
        assignment_alike (set s l to a) e k j h v w is =
            let two = and_parts (lvalue_stays r l) (expression_stays r a) e in
            lvalue_alike l two.0 _ _ (λ p place. expression_alike a two.1 _ _ (λ x of v w is.
            conversion_alike to x (λ y. write s p y (k y)) (λ y. write s p y (j y)) v w of is (λ y of' v w is. write_alike s p y (k y) (j y) v w place of' is (h y of')))) v w is
        assignment_alike (update s l op left right back a) e k j h v w is =
            let two = and_parts (lvalue_stays r l) (expression_stays r a) e in
            lvalue_alike l two.0 _ _ (λ p place v w is. given_same (read s p v w) (read s p v (hidden_world r w)) _ _ (read_hidden r s p v w place) (λ x was.
            let of = read_stays r s p v w x place is.values is.memory.closed was in
            expression_alike a two.1 _ _ (λ y of' v w is.
            given_same (updated_value op left right back w.memory x y) (updated_value op left right back (hidden r w.memory) x y)
            (λ z. write s p z (k z) v w) (λ z. write s p z (j z) v (hidden_world r w))
            (updated_hidden r op left right back w.memory x y of of') (λ z new.
            let of'' = updated_stays r op left right back w.memory x y z of of' new in
            write_alike s p z (k z) (j z) v w place of'' is (h z of''))) v w is)) v w is

        effect_alike : (a : Effect) → effect_stays r a ≡ true → (k j : Next) → Nexts k j → Nexts (effect a here k) (effect a here j)
        effect_alike nothing e k j h v w is = h v w is
        effect_alike (discard a) e k j h v w is = expression_alike a e _ _ (λ x of. h) v w is
        effect_alike (assign a) e k j h v w is = assignment_alike a e _ _ (λ x of. h) v w is
        effect_alike (perform f es) e k j h v w is =
            let two = and_parts (callee_stays r f) (arguments_stay r es) e in
            arguments_alike es two.1 _ _ (λ xs are v w is. invoke_alike f xs _ _ w two.0 are is.memory (λ o x stays behind.
            h v x (record { values = is.values; memory = behind }))) v w is
        effect_alike (copy size alignment a b) e k j h v w is =
            let two = and_parts (expression_stays r a) (expression_stays r b) e in
            expression_alike a two.0 _ _ (λ x of. expression_alike b two.1 _ _ (λ y of' v w is.
            given_mapped (as_pointer x >>= λ to. as_pointer y >>= λ from. blocks.copy size alignment w.memory to from)
            (as_pointer x >>= λ to. as_pointer y >>= λ from. blocks.copy size alignment (hidden r w.memory) to from) _ _ (copy_at_hidden r size alignment w.memory x y of of')
            (λ n done. h v (with_memory w n) (record { values = is.values; memory = copy_at_behind r start size alignment w.memory x y n is.memory of of' done })))) v w is
        effect_alike (fill blank a) e k j h v w is =
            expression_alike a e _ _ (λ x of v w is.
            given_mapped (as_pointer x >>= λ p. blocks.fill blank w.memory p) (as_pointer x >>= λ p. blocks.fill blank (hidden r w.memory) p) _ _ (fill_at_hidden r blank w.memory x of)
            (λ n done. h v (with_memory w n) (record { values = is.values; memory = fill_at_behind r start blank w.memory x n is.memory of done }))) v w is
        effect_alike (in_order a b) e k j h v w is =
            let two = and_parts (effect_stays r a) (effect_stays r b) e in
            effect_alike a two.0 _ _ (effect_alike b two.1 k j h) v w is

      -- ---- statements

      record TargetsAlike (t u : Targets) : Type 0 where
        behind : Nexts t.behind u.behind
        at_break : Nexts t.at_break u.at_break
        at_continue : Nexts t.at_continue u.at_continue
        at_return : ReturnsAlike t.at_return u.at_return

      condition_alike : (a : Expr) → expression_stays r a ≡ true → (k k' l l' : Next) → Nexts k l → Nexts k' l' → Nexts (condition a here k k') (condition a here l l')
      condition_alike a e k k' l l' h f v w is = expression_alike a e _ _ (λ x of v w is. test_alike x k k' l l' v w of (h v w is) (f v w is)) v w is

      for_condition_alike : (a : Option Expr) → condition_stays r a ≡ true → (k k' l l' : Next) → Nexts k l → Nexts k' l'
          → Nexts (for_condition a here k k') (for_condition a here l l')
      for_condition_alike None e k k' l l' h f = h
      for_condition_alike (Some a) e k k' l l' h f = condition_alike a e k k' l l' h f

      turns_alike : (n : ℕ) (t u : Next → Next) → ((k l : Next) → Nexts k l → Nexts (t k) (u l)) → Nexts (turns n t) (turns n u)
      turns_alike zero t u h v w is = shorts
      turns_alike (suc n) t u h v w is = h _ _ (turns_alike n t u h) v w is

      loop_alike : (t u : Targets) → TargetsAlike t u → (k l : Next) → Nexts k l → TargetsAlike (in_loop t k) (in_loop u l)
      loop_alike t u h k l f = record { behind = f; at_break = h.behind; at_continue = f; at_return = h.at_return }

      switch_alike : (t u : Targets) → TargetsAlike t u → TargetsAlike (in_switch t) (in_switch u)
      switch_alike t u h = record { behind = h.behind; at_break = h.behind; at_continue = h.at_continue; at_return = h.at_return }

      chosen_alike : (b : Bool) (k k' l l' : Next) → Nexts k l → Nexts k' l' → Nexts (if b then k else k') (if b then l else l')
      chosen_alike true k k' l l' h f = h
      chosen_alike false k k' l l' h f = f

      mutual
        statement_alike : (s : Stmt) → statement_stays r s ≡ true → (t u : Targets) → TargetsAlike t u → Nexts (statement s here t) (statement s here u)
        statement_alike (evaluate a) e t u h v w is = effect_alike a e _ _ h.behind v w is
        statement_alike (block ss) e t u h v w is = statements_alike ss e t u h v w is
        statement_alike (branch a p q) e t u h v w is =
            let two = and_parts (expression_stays r a) (statement_stays r p && statement_stays r q) e in
            let parts = and_parts (statement_stays r p) (statement_stays r q) two.1 in
            condition_alike a two.0 _ _ _ _ (statement_alike p parts.0 t u h) (statement_alike q parts.1 t u h) v w is
        statement_alike (switch to a ss) e t u h v w is =
            let two = and_parts (expression_stays r a) (statements_stay r ss) e in
            let inside = switch_alike t u h in
            expression_alike a two.0 _ _ (λ x of v w is. given_at (convert_by to x) _ _ (λ y f. given_at (as_integer y) _ _ (λ n f.
            label_alike (is_case n) ss two.1 _ _ inside _ _ (label_alike is_default ss two.1 _ _ inside _ _ h.behind) v w is))) v w is
        statement_alike (case_label n) e t u h v w is = h.behind v w is
        statement_alike default_label e t u h v w is = h.behind v w is
        statement_alike (while_loop a p) e t u h v w is =
            let two = and_parts (expression_stays r a) (statement_stays r p) e in
            turns_alike m _ _ (λ k l f. condition_alike a two.0 _ _ _ _ (statement_alike p two.1 _ _ (loop_alike t u h k l f)) h.behind) v w is
        statement_alike (do_loop p a) e t u h v w is =
            let two = and_parts (statement_stays r p) (expression_stays r a) e in
            turns_alike m _ _ (λ k l f. statement_alike p two.0 _ _ (loop_alike t u h _ _ (condition_alike a two.1 _ _ _ _ f h.behind))) v w is
        statement_alike (for_loop begin a step p) e t u h v w is =
            let two = and_parts (effect_stays r begin) (condition_stays r a && (effect_stays r step && statement_stays r p)) e in
            let three = and_parts (condition_stays r a) (effect_stays r step && statement_stays r p) two.1 in
            let four = and_parts (effect_stays r step) (statement_stays r p) three.1 in
            effect_alike begin two.0 _ _ (turns_alike m _ _ (λ k l f. for_condition_alike a three.0 _ _ _ _
            (statement_alike p four.1 _ _ (loop_alike t u h _ _ (effect_alike step four.0 k l f))) h.behind)) v w is
        statement_alike break e t u h v w is = h.at_break v w is
        statement_alike continue e t u h v w is = h.at_continue v w is
        statement_alike (return to a) e t u h v w is =
            expression_alike a e _ _ (λ x of v w is. conversion_alike to x (λ y v. t.at_return (Some y)) (λ y v. u.at_return (Some y)) v w of is (λ y of' v w is. h.at_return (Some y) w of' is.memory)) v w is
        statement_alike return_nothing e t u h v w is = h.at_return None w refl is.memory

        statements_alike : (ss : Stmts) → statements_stay r ss ≡ true → (t u : Targets) → TargetsAlike t u → Nexts (statements ss here t) (statements ss here u)
        statements_alike no_stmts e t u h v w is = h.behind v w is
        statements_alike (stmt_and s ss) e t u h v w is =
            let two = and_parts (statement_stays r s) (statements_stay r ss) e in
            statement_alike s two.0 _ _ (record { behind = statements_alike ss two.1 t u h; at_break = h.at_break; at_continue = h.at_continue; at_return = h.at_return }) v w is

        -- behind a label of a switch
        label_alike : (is_label : Stmt → Bool) (ss : Stmts) → statements_stay r ss ≡ true → (t u : Targets) → TargetsAlike t u → (k l : Next) → Nexts k l
            → Nexts (behind_label is_label ss here t k) (behind_label is_label ss here u l)
        label_alike is_label no_stmts e t u h k l f v w is = f v w is
        label_alike is_label (stmt_and s ss) e t u h k l f v w is =
            let two = and_parts (statement_stays r s) (statements_stay r ss) e in
            chosen_alike (is_label s) _ _ _ _ (statements_alike ss two.1 t u h) (label_alike is_label ss two.1 t u h k l f) v w is

    -- ---- passing arguments

    pass_alike : (ps : List Parameter) (xs : List Value) (first : ℕ) (v : Environment) (w : World) (k j : Entered) → count ≤ first → AllStay xs → IsMoment v w → Nexts k j
        → R (pass ps xs first v w k) (pass ps xs first v (hidden_world r w) j)
    pass_alike [] [] first v w k j past are is h = h v w is
    pass_alike [] (x ∷ xs) first v w k j past are is h = keeps.undefined
    pass_alike (Plain n ∷ ps) [] first v w k j past are is h = keeps.undefined
    pass_alike (Placed b s ∷ ps) [] first v w k j past are is h = keeps.undefined
    pass_alike (Plain n ∷ ps) (x ∷ xs) first v w k j past are is h =
        let two = and_parts (value_stays r x) (list_all (value_stays r) xs) are in
        pass_alike ps xs first (with_value v n x) w k j past two.1 (record { values = with_value_stays v n x is.values two.0; memory = is.memory }) h
    pass_alike (Placed b s ∷ ps) (x ∷ xs) first v w k j past are is h =
        let two = and_parts (value_stays r x) (list_all (value_stays r) xs) are in
        let kept = reach.blocks (first + b) (omega arith) in
        given_mapped (blocks.store s w.memory (into (first + b) 0) x) (blocks.store s (hidden r w.memory) (into (first + b) 0) x) _ _
        (store_hidden r s w.memory (into (first + b) 0) x kept) (λ n stored.
        pass_alike ps xs first v (with_memory w n) k j past two.1
        (record { values = is.values; memory = store_behind r start s w.memory (into (first + b) 0) x n is.memory kept two.0 stored }) h)

    -- ---- calls

    returned_alike : (first : ℕ) (k j : Return) → count ≤ first → ReturnsAlike k j → (f : ℕ)
        → ReturnsAlike (λ x u. emit (Returns f) (k x (with_memory u (release first u.memory)))) (λ x u. emit (Returns f) (j x (with_memory u (release first u.memory))))
    returned_alike first k j past h f x w stays is =
        keeps.emit _ _ _ (subst (λ (n : Memory). R (k x (with_memory w (release first w.memory))) (j x (with_memory (hidden_world r w) n))) (sym (release_hidden r first w.memory))
        (h x (with_memory w (release first w.memory)) stays (release_behind r count reach.blocks start there first w.memory past is)))

    -- main returns 0 at its end
    end_stays : (b : Bool) → option_stays r (result_at_end b) ≡ true
    end_stays true = refl
    end_stays false = refl

    body_alike : (m : ℕ) (c : CallsOf) → CallsAlike c → (g : Function) → statements_stay r g.body ≡ true → (first : ℕ) → count ≤ first → (k j : Return) → ReturnsAlike k j
        → Nexts (body_of g m c first k) (body_of g m c first j)
    body_alike m c calls g e first past k j h v w is =
        statements_alike m c calls first past g.body e (targets g k) (targets g j) (record {
          behind = λ v w is. h (result_at_end g.is_main) w (end_stays g.is_main) is.memory;
          at_break = λ v w is. keeps.undefined;
          at_continue = λ v w is. keeps.undefined;
          at_return = h;
        }) v w is

    -- what follows where the call with these blocks has ended
    abbrev ending : (first f : ℕ) → Return → Return
    ending first f k x u = emit (Returns f) (k x (with_memory u (release first u.memory)))

    calls_alike : (m depth : ℕ) → CallsAlike (calls_within functions m depth)
    calls_alike m zero f xs k j w may are is h = shorts
    calls_alike m (suc depth) f xs k j w may are is h = given_at (slice_get functions f) _ _ (λ g known.
        let n = length w.memory in
        let past : count ≤ n = let longer = is.longer in omega arith in
        let made = make g.blocks w.memory in
        keeps.emit _ _ _
        (subst (λ (first : ℕ). R (pass g.parameters xs n no_values (with_memory w made) (body_of g m (calls_within functions m depth) n (ending n f k)))
        (pass g.parameters xs first no_values (with_memory (hidden_world r w) (make g.blocks (hidden r w.memory))) (body_of g m (calls_within functions m depth) first (ending first f j))))
        (sym (length-hidden r w.memory))
        (subst (λ (x : Memory). R (pass g.parameters xs n no_values (with_memory w made) (body_of g m (calls_within functions m depth) n (ending n f k)))
        (pass g.parameters xs n no_values (with_memory (hidden_world r w) x) (body_of g m (calls_within functions m depth) n (ending n f j))))
        (sym (make_hidden r count reach.blocks start there g.blocks w.memory is))
        (pass_alike g.parameters xs n no_values (with_memory w made) _ _ past are
        (record { values = no_values_stay; memory = make_behind r count reach.blocks start there g.blocks w.memory is })
        (body_alike m (calls_within functions m depth) (calls_alike m depth) g (reach.bodies f g may known) n past (ending n f k) (ending n f j) (returned_alike n k j past h f))))))

-- ---- the law

hidden_keeps : (r : Reach) (start : Memory) → Keeps (IsHidden r start)
hidden_keeps r start = record {
  emit = λ event o p h. record { same = ap (emit event) h.same; alone = h.alone };
  undefined = record { same = refl; alone = tt };
}

pub hiding_keeps_runs : HidingKeepsRuns
hiding_keeps_runs r u root xs w n reach may are closed longer =
    calls_alike r (IsHidden r w.memory) (hidden_keeps r w.memory) (record { same = refl; alone = tt }) u.functions (length u.blocks) reach w.memory longer n n root xs leaves leaves w may are
    (record { closed = closed; longer = least (length w.memory); others = λ b hid. refl })
    (λ x v stays is. record { same = refl; alone = (is, stays) })
  where
    least : (n : ℕ) → n ≤ n
    least n = omega arith
