-- Elaboration keeps runs: each expression, by induction.
use Rattle.std.proofs.Common.{◌≡◌, ℕ, ◌||◌, Bool, true, false, List, [], ◌∷◌, ◌++◌, Option, Some, None, refl, sym, ap, ◌∙◌, arith}
use Rattle.std.proofs.Math.Path.{fun_ext}
use Rattle.qs_memory.specs.Partial.{◌>>=◌}
use Rattle.qs_memory.specs.Values.{Value, address, as_pointer}
use Rattle.qs_memory.specs.Memory.{BlankTree}
use Rattle.qs_memory.specs.Memory as memory
use Rattle.qs_memory.specs.Pointers.{member_of}
use Rattle.qs_memory.specs.Operations.{apply_unary}
use Rattle.qs_memory.specs.declared.scalar.Scalar.{Scalar}
use Rattle.qs_memory.specs.declared.operation.UnaryOperation.{UnaryOperation}
use Rattle.qs_memory.specs.declared.operation.BinaryOperation.{BinaryOperation}
use Rattle.qs_events.specs.Runs.{given}
use Rattle.qs_calls.specs.World.{World, with_memory, Return, Environment, with_value}
use Rattle.qs_calls.specs.Calls.{invoke, used}
use Rattle.qs_calls.specs.declared.callee.Callee.{Callee}
use Rattle.qs_core.specs.Trees.{CoreExprTree, CoreStmtTree}
use Rattle.qs_core.specs.Trees as core
use Rattle.qs_core.specs.Expressions.{values}
use Rattle.qs_meaning.specs.Typed.{Conversion, Order, Object, local, static, Expr, constant, value, pointer_to, member, called, stepped_after, unary, cast, binary, logical_and, logical_or, conditional, assigned, sequence, Lvalue, variable, object, Arguments, no_arguments, argument_and, Assignment, set, update, Effect, nothing, discard, assign, perform, copy, fill, in_order}
use Rattle.qs_meaning.specs.States.{Next, Here, convert_by, pointer_at}
use Rattle.qs_meaning.specs.Meaning.{operation_value, expression, lvalue, arguments, assignment, effect}
use Rattle.qs_elaborate_bodies.specs.Literals.{converted_core}
use Rattle.qs_elaborate_bodies.specs.Acting.{acts, arguments_act}
use Rattle.qs_elaborate_bodies.specs.Parts.{Temporaries, next_number, Valued, saved_if, joined, plain}
use Rattle.qs_elaborate_bodies.specs.Expressions.{block_of, operation_core, ValuedAll, argument_before, call_valued, call_listed, write_valued, write_discarded, discarded, copied, expression_core, lvalue_core, arguments_core, assignment_core, effect_core}
use Rattle.qs_elaborate_bodies.proofs.Options.{given_and, given_same, and_assoc, and_same, and_swap, copy_is}
use Rattle.qs_elaborate_bodies.proofs.Lists.{run_list, then_next, run-append, with-same, kept_same, kept_with, next_is}
use Rattle.qs_elaborate_bodies.proofs.Values.{converted_is, operation_is}
use Rattle.qs_elaborate_bodies.proofs.ActingLaws.{quiet, quiet_arguments}
use Rattle.qs_elaborate_bodies.proofs.OperandLaws.{Worth, Source, value_ext, locals, context, worth, Gives, Does, pure_gives, like_gives, map_gives, GivesValued, saved_lasts, operands, does_then, does_both, gives_then}
use Rattle.qs_elaborate_bodies.proofs.Branches.{converted_gives, and_gives, or_gives, choice_gives}
use Rattle.qs_elaborate_bodies.proofs.Writes.{place_worth, GivesLocated, address_gives, read_gives, write_used, write_done, step_gives, set_writes, update_writes}

or_left : (a b : Bool) → (a || b) ≡ false → a ≡ false
or_left true b h = cc
or_left false b h = refl

or_right : (a b : Bool) → (a || b) ≡ false → b ≡ false
or_right true b h = cc
or_right false b h = h

pub return_ext : (f g : Return) → ((result : Option Value) (w : World) → f result w ≡ g result w) → f ≡ g
return_ext f g h = fun_ext (λ result. fun_ext (λ w. h result w))

module _ (h : Here) where
  -- ---- operations

  unary_gives : (m : ℕ) (operation : UnaryOperation) (c : Conversion) (g : Valued) (source : Source Value) → GivesValued h m g source → Gives h Value m g.statements (next_number g.temporaries) (worth h (core.unary operation (converted_core c g.value))) (λ k. source (λ x v w. given (convert_by c x >>= λ x. apply_unary operation w.memory x) (λ y. k y v w)))
  unary_gives m operation c g source a =
      like_gives h m g.statements (next_number g.temporaries) _ (worth h (core.unary operation (converted_core c g.value))) _ _
      (λ v t w. ap (λ o. o >>= λ x. apply_unary operation w.memory x) (converted_is c g.value (locals h v t) w.memory) ∙ and_assoc (worth h g.value v t w) (convert_by c) _) (λ k v w. refl)
      (map_gives h m g.statements (next_number g.temporaries) (worth h g.value) source a (λ x v w. convert_by c x >>= λ x. apply_unary operation w.memory x))

  member_gives : (m offset : ℕ) (g : Valued) (source : Source Value) → GivesValued h m g source → Gives h Value m g.statements (next_number g.temporaries) (worth h (core.member offset g.value)) (λ k. source (λ x v w. given (as_pointer x >>= λ p. member_of w.memory p offset) (λ p. k (address p) v w)))
  member_gives m offset g source a =
      like_gives h m g.statements (next_number g.temporaries) _ (worth h (core.member offset g.value)) _ _
      (λ v t w. refl)
      (λ k v w. ap (λ (next : Value → Next). source next v w) (value_ext _ _ (λ x v w.
      given_and (as_pointer x) (λ p. member_of w.memory p offset >>= λ q. Some (address q)) (λ y. k y v w)
      ∙ given_same (as_pointer x) _ _ (λ p. given_and (member_of w.memory p offset) (λ q. Some (address q)) (λ y. k y v w))
      ∙ sym (given_and (as_pointer x) (λ p. member_of w.memory p offset) (λ p. k (address p) v w)))))
      (map_gives h m g.statements (next_number g.temporaries) (worth h g.value) source a (λ x v w. as_pointer x >>= λ p. member_of w.memory p offset >>= λ q. Some (address q)))

  binary_gives : (z : Bool) (m : ℕ) (operation : BinaryOperation) (order : Order) (left right : Conversion) (g : Valued) (first : Source Value) → GivesValued h m g first → (b : Valued) (second : Source Value) → GivesValued h (next_number (saved_if z g).temporaries) b second → (z ≡ false → b.statements ≡ []) → GivesValued h m (joined (operation_core operation order left right) (saved_if z g) b) (λ k. first (λ x. second (λ y v w. given (operation_value operation order left right w.memory x y) (λ z. k z v w))))
  binary_gives z m operation order left right g first a b second gb none =
      like_gives h m _ (next_number b.temporaries) _ (worth h (operation_core operation order left right (saved_if z g).value b.value)) _ _
      (λ v t w. operation_is operation order left right (saved_if z g).value b.value (locals h v t) w.memory) (λ k v w. refl)
      (operands h z m g first a b.statements (next_number b.temporaries) (worth h b.value) second gb none (λ x y v w. operation_value operation order left right w.memory x y))

  -- ---- calls

  abbrev pub worths : List CoreExprTree → Worth (List Value)
  worths es v t w = values es (locals h v t) w.memory

  abbrev pub GivesAll : ℕ → ValuedAll → Source (List Value) → Type 0
  GivesAll m g source = Gives h (List Value) m g.statements (next_number g.temporaries) (worths g.values) source

  argument_gives : (z : Bool) (m : ℕ) (c : Conversion) (g : Valued) (first : Source Value) → GivesValued h m g first → (r : ValuedAll) (second : Source (List Value)) → GivesAll (next_number (saved_if z g).temporaries) r second → (z ≡ false → r.statements ≡ []) → GivesAll m (argument_before c (saved_if z g) r) (λ k. first (λ x. second (λ ys v w. given (convert_by c x) (λ y. k (y ∷ ys) v w))))
  argument_gives z m c g first a r second gr none =
      like_gives h m _ (next_number r.temporaries) _ (worths (converted_core c (saved_if z g).value ∷ r.values)) _ _
      (λ v t w.
      ap (λ o. o >>= λ x. worths r.values v t w >>= λ ys. Some (x ∷ ys)) (converted_is c (saved_if z g).value (locals h v t) w.memory)
      ∙ and_assoc (worth h (saved_if z g).value v t w) (convert_by c) _
      ∙ and_same (worth h (saved_if z g).value v t w) _ _ (λ x. and_swap (convert_by c x) (worths r.values v t w) (λ y ys. Some (y ∷ ys))))
      (λ k v w. ap (λ (next : Value → Next). first next v w) (fun_ext (λ x. ap (λ (next : List Value → Next). second next) (value_ext _ _ (λ ys v w. given_and (convert_by c x) (λ y. Some (y ∷ ys)) (λ zs. k zs v w))))))
      (operands h z m g first a r.statements (next_number r.temporaries) (worths r.values) second gr none (λ x ys v w. convert_by c x >>= λ y. Some (y ∷ ys)))

  called_gives : (m : ℕ) (s : Scalar) (f : Callee) (g : ValuedAll) (source : Source (List Value)) → GivesAll m g source → GivesValued h m (call_valued s f g) (λ k. source (λ xs v. invoke f h.calls xs (λ result w. used result (λ x. k x v w))))
  called_gives m s f g source a =
      let n = next_number g.temporaries in
      let is = next_is g.temporaries s in
      let rest : List CoreStmtTree = core.call (Some n) f g.values ∷ [] in
      record {
        more = let le = a.more in omega (arith, is);
        steady = λ v t r w k. k n (omega (arith, is));
        gives = λ k kk v t w q.
            run-append g.statements rest (context h) kk (locals h v t) w
            ∙ a.gives (λ xs v. invoke f h.calls xs (λ result w. used result (λ x. k x v w))) (then_next kk (run_list rest (context h) kk)) v t w (λ v1 t1 w1 kept.
            given_same (worths g.values v1 t1 w1) _ _ (λ xs. ap (λ (r : Return). invoke f h.calls xs r w1) (return_ext _ _ (λ result w2. given_same result _ _ (λ x.
            q v1 (with_value t1 n x) w2 (kept_with m t t1 n x a.more kept) ∙ ap (λ o. given o (λ z. k z v1 w2)) (with-same t1 n x))))));
      }

  performed_does : (m : ℕ) (f : Callee) (g : ValuedAll) (source : Source (List Value)) → GivesAll m g source → Does h m (call_listed f g).statements (next_number g.temporaries) (λ k. source (λ xs v. invoke f h.calls xs (λ result. k v)))
  performed_does m f g source a =
      gives_then h m g.statements (next_number g.temporaries) (worths g.values) source a (core.call None f g.values ∷ []) (λ k xs v. invoke f h.calls xs (λ result. k v)) (λ k kk t v1 t1 w1 kept q.
      given_same (worths g.values v1 t1 w1) _ _ (λ xs. ap (λ (r : Return). invoke f h.calls xs r w1) (return_ext _ _ (λ result w2. q v1 t1 w2 kept))))

  -- ---- effects

  discarded_does : (m : ℕ) (g : Valued) (source : Source Value) → GivesValued h m g source → Does h m (discarded g).statements (next_number (discarded g).temporaries) (λ k. source (λ x. k))
  discarded_does m g source a =
      let d = saved_lasts h m g source a in
      record { more = d.more; gives = λ k kk v t w q. d.gives (λ x. k) kk v t w (λ x v1 t1 w1 kept is. q v1 t1 w1 kept) }

  copied_does : (z : Bool) (m size alignment : ℕ) (g : Valued) (first : Source Value) → GivesValued h m g first → (b : Valued) (second : Source Value) → GivesValued h (next_number (saved_if z g).temporaries) b second → (z ≡ false → b.statements ≡ []) → Does h m (copied size alignment (saved_if z g) b).statements (next_number b.temporaries) (λ k. first (λ x. second (λ y v w. given (as_pointer x >>= λ to. as_pointer y >>= λ from. memory.copy size alignment w.memory to from) (λ n. k v (with_memory w n)))))
  copied_does z m size alignment g first a b second gb none =
      gives_then h m _ (next_number b.temporaries) _ _ (operands h z m g first a b.statements (next_number b.temporaries) (worth h b.value) second gb none (λ x y v w. as_pointer x >>= λ to. as_pointer y >>= λ from. memory.copy size alignment w.memory to from))
      (core.copy size alignment (saved_if z g).value b.value ∷ []) (λ k n v w. k v (with_memory w n)) (λ k kk t v1 t1 w1 kept q.
      copy_is (worth h (saved_if z g).value v1 t1 w1) (worth h b.value v1 t1 w1) (λ to from. memory.copy size alignment w1.memory to from) (λ n. kk.next (locals h v1 t1) (with_memory w1 n))
      ∙ given_same (worth h (saved_if z g).value v1 t1 w1 >>= λ x. worth h b.value v1 t1 w1 >>= λ y. as_pointer x >>= λ to. as_pointer y >>= λ from. memory.copy size alignment w1.memory to from) _ _ (λ n. q v1 t1 (with_memory w1 n) kept))

  filled_does : (m : ℕ) (blank : BlankTree) (g : Valued) (source : Source Value) → GivesValued h m g source → Does h m (g.statements ++ core.fill blank g.value ∷ []) (next_number g.temporaries) (λ k. source (λ x v w. given (as_pointer x >>= λ p. memory.fill blank w.memory p) (λ n. k v (with_memory w n))))
  filled_does m blank g source a =
      gives_then h m g.statements (next_number g.temporaries) (worth h g.value) source a (core.fill blank g.value ∷ []) (λ k x v w. given (as_pointer x >>= λ p. memory.fill blank w.memory p) (λ n. k v (with_memory w n))) (λ k kk t v1 t1 w1 kept q.
      given_same (worth h g.value v1 t1 w1) _ _ (λ x.
      sym (given_and (as_pointer x) (λ p. memory.fill blank w1.memory p) (λ n. kk.next (locals h v1 t1) (with_memory w1 n)))
      ∙ given_same (as_pointer x >>= λ p. memory.fill blank w1.memory p) _ _ (λ n. q v1 t1 (with_memory w1 n) kept)))

  -- ---- expressions

  object_is : (o : Object) (v t : Environment) (w : World) → worth h (core.address_of (block_of o)) v t w ≡ Some (address (pointer_at o h.first_block))
  object_is (local k) v t w = refl
  object_is (static k) v t w = refl

  mutual
    pub expression_gives : (a : Expr) (ts : Temporaries) → GivesValued h (next_number ts) (expression_core a ts) (expression a h)
    expression_gives (constant s n) ts = pure_gives h (next_number ts) (worth h (core.literal s n)) (expression (constant s n) h) (λ v t r w k. refl) (λ k v t w. refl)
    expression_gives (value s l) ts = read_gives h (next_number ts) s (lvalue_core l ts) (lvalue l h) (lvalue_gives l ts)
    expression_gives (pointer_to o) ts =
        pure_gives h (next_number ts) (worth h (core.address_of (block_of o))) (expression (pointer_to o) h) (λ v t r w k. object_is o v r w ∙ sym (object_is o v t w)) (λ k v t w. ap (λ o. given o (λ x. k x v w)) (object_is o v t w))
    expression_gives (member offset a) ts = member_gives (next_number ts) offset (expression_core a ts) (expression a h) (expression_gives a ts)
    expression_gives (called s f es) ts = called_gives (next_number ts) s f (arguments_core es ts) (arguments es h) (arguments_give es ts)
    expression_gives (stepped_after s l operation left back) ts = step_gives h (next_number ts) s operation left back (lvalue_core l ts) (lvalue l h) (lvalue_gives l ts)
    expression_gives (unary operation c a) ts = unary_gives (next_number ts) operation c (expression_core a ts) (expression a h) (expression_gives a ts)
    expression_gives (cast c a) ts = converted_gives h (next_number ts) c (expression_core a ts) (expression a h) (expression_gives a ts)
    expression_gives (binary operation order left right a b) ts =
        binary_gives (acts b) (next_number ts) operation order left right (expression_core a ts) (expression a h) (expression_gives a ts) _ (expression b h) (expression_gives b _) (quiet b _)
    expression_gives (logical_and a b) ts =
        and_gives h (acts b) (next_number ts) (expression_core a ts) (expression a h) (expression_gives a ts) _ (expression b h) (expression_gives b _) (quiet b _)
    expression_gives (logical_or a b) ts =
        or_gives h (acts b) (next_number ts) (expression_core a ts) (expression a h) (expression_gives a ts) _ _ (expression b h) (expression_gives b _) (expression_gives b _) (quiet b _)
    expression_gives (conditional s a second third b c) ts =
        choice_gives h s (acts b || acts c) (next_number ts) second third (expression_core a ts) (expression a h) (expression_gives a ts) _ (expression b h) (expression_gives b _) _ _ (expression c h) (expression_gives c _) (expression_gives c _)
        (λ none. quiet b _ (or_left _ _ none)) (λ none. quiet c _ (or_right (acts b) _ none))
    expression_gives (assigned a) ts = assignment_used a ts
    expression_gives (sequence a b) ts = does_then h (next_number ts) _ _ (effect a h) (effect_does a ts) _ _ _ (expression b h) (expression_gives b _)

    pub lvalue_gives : (l : Lvalue) (ts : Temporaries) → GivesLocated h (next_number ts) (lvalue_core l ts) (lvalue l h)
    lvalue_gives (variable x) ts = pure_gives h (next_number ts) (place_worth h (plain x)) (lvalue (variable x) h) (λ v t r w k. refl) (λ k v t w. refl)
    lvalue_gives (object a) ts = address_gives h (next_number ts) (expression_core a ts) (expression a h) (expression_gives a ts)

    pub arguments_give : (es : Arguments) (ts : Temporaries) → GivesAll (next_number ts) (arguments_core es ts) (arguments es h)
    arguments_give no_arguments ts = pure_gives h (next_number ts) (worths []) (arguments no_arguments h) (λ v t r w k. refl) (λ k v t w. refl)
    arguments_give (argument_and c a es) ts =
        argument_gives (arguments_act es) (next_number ts) c (expression_core a ts) (expression a h) (expression_gives a ts) (arguments_core es (saved_if (arguments_act es) (expression_core a ts)).temporaries) (arguments es h) (arguments_give es _) (quiet_arguments es _)

    pub assignment_used : (a : Assignment) (ts : Temporaries) → GivesValued h (next_number ts) (write_valued (assignment_core a ts)) (assignment a h)
    assignment_used (set s l c a) ts =
        write_used h (next_number ts) s _ _ _ _ _ (set_writes h (acts a) (next_number ts) c (lvalue_core l ts) (lvalue l h) (lvalue_gives l ts) _ (expression a h) (expression_gives a _) (quiet a _))
    assignment_used (update s l operation left right back a) ts =
        write_used h (next_number ts) s _ _ _ _ _ (update_writes h (acts a) (next_number ts) s operation left right back (lvalue_core l ts) (lvalue l h) (lvalue_gives l ts) _ (expression a h) (expression_gives a _) (quiet a _))

    pub assignment_does : (a : Assignment) (ts : Temporaries) → Does h (next_number ts) (write_discarded (assignment_core a ts)).statements (next_number (write_discarded (assignment_core a ts)).temporaries) (λ k. assignment a h (λ x. k))
    assignment_does (set s l c a) ts =
        write_done h (next_number ts) s _ _ _ _ _ (set_writes h (acts a) (next_number ts) c (lvalue_core l ts) (lvalue l h) (lvalue_gives l ts) _ (expression a h) (expression_gives a _) (quiet a _))
    assignment_does (update s l operation left right back a) ts =
        write_done h (next_number ts) s _ _ _ _ _ (update_writes h (acts a) (next_number ts) s operation left right back (lvalue_core l ts) (lvalue l h) (lvalue_gives l ts) _ (expression a h) (expression_gives a _) (quiet a _))

    pub effect_does : (a : Effect) (ts : Temporaries) → Does h (next_number ts) (effect_core a ts).statements (next_number (effect_core a ts).temporaries) (effect a h)
    effect_does nothing ts = record { more = omega arith; gives = λ k kk v t w q. q v t w (kept_same (next_number ts) t) }
    effect_does (discard a) ts = discarded_does (next_number ts) (expression_core a ts) (expression a h) (expression_gives a ts)
    effect_does (assign a) ts = assignment_does a ts
    effect_does (perform f es) ts = performed_does (next_number ts) f (arguments_core es ts) (arguments es h) (arguments_give es ts)
    effect_does (copy size alignment a b) ts =
        copied_does (acts b) (next_number ts) size alignment (expression_core a ts) (expression a h) (expression_gives a ts) _ (expression b h) (expression_gives b _) (quiet b _)
    effect_does (fill blank a) ts = filled_does (next_number ts) blank (expression_core a ts) (expression a h) (expression_gives a ts)
    effect_does (in_order a b) ts = does_both h (next_number ts) _ _ (effect a h) (effect_does a ts) _ _ (effect b h) (effect_does b _)
