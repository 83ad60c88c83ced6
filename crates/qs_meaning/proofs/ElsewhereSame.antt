-- What has another run where the meaning has no answer for none of the nine cases is the meaning, where that run is undefined.
use Rattle.std.proofs.Common.{◌≡◌, ℕ, zero, suc, ◌+◌, ◌-◌, ◌%◌, ◌^◌, Bool, true, false, List, [], ◌∷◌, length, Option, Some, None, IsSome, refl, ap, ◌∙◌, if◌then◌else◌}
use Rattle.std.specs.List.{slice_get}
use Rattle.qs_memory.specs.Partial.{◌>>=◌}
use Rattle.qs_memory.specs.Values.{Pointer, into, Value, integer, address, as_integer, as_pointer, has_type}
use Rattle.qs_memory.specs.Memory.{Memory, load, make, release}
use Rattle.qs_memory.specs.Memory as blocks
use Rattle.qs_memory.specs.Pointers.{member_of, truth}
use Rattle.qs_memory.specs.Operations.{apply_unary, apply_binary}
use Rattle.qs_memory.specs.declared.scalar.Scalar.{Scalar}
use Rattle.qs_memory.specs.declared.operation.UnaryOperation.{UnaryOperation}
use Rattle.qs_memory.specs.declared.operation.UnaryOperation.TheVariants as unaries
use Rattle.qs_memory.specs.declared.operation.BinaryOperation.{BinaryOperation}
use Rattle.qs_memory.specs.declared.operation.BinaryOperation.TheVariants as binaries
use Rattle.qs_memory.proofs.DefinedLaws.{steps_are_defined}
use Rattle.qs_events.specs.Events as events
use Rattle.qs_events.specs.Runs.{emit, undefined, given}
use Rattle.qs_calls.specs.World.{World, with_memory, RootRun, Return, Environment, no_values, with_value}
use Rattle.qs_calls.specs.Calls.{CallsOf, take_byte, get_char, put_char, invoke, Entered, pass}
use Rattle.qs_calls.specs.declared.callee.Callee.{Callee}
use Rattle.qs_calls.specs.declared.callee.Callee.TheVariants as callees
use Rattle.qs_calls.specs.declared.parameter.Parameter.{Parameter}
use Rattle.qs_calls.specs.declared.parameter.Parameter.TheVariants.{Plain, Placed}
use Rattle.qs_meaning.specs.Typed.{Conversion, unchanged, Order, as_written, exchanged, Expr, constant, value, pointer_to, member, called, stepped_after, unary, cast, binary, logical_and, logical_or, conditional, assigned, sequence, Lvalue, variable, object, Arguments, no_arguments, argument_and, Assignment, set, update, Effect, nothing, discard, assign, perform, copy, fill, in_order, Stmt, evaluate, block, branch, switch, case_label, default_label, while_loop, do_loop, for_loop, break, continue, return, return_nothing, Stmts, no_stmts, stmt_and, Function}
use Rattle.qs_meaning.specs.States.{Next, Here, choose, test, convert_by, Place, in_variable, in_object, read, write}
use Rattle.qs_meaning.specs.Meaning.{in_their_order, operation_value, updated_value, step_amount, expression, lvalue, arguments, assignment, effect, Targets, in_loop, in_switch, is_case, is_default, turns, condition, for_condition, statement, statements, behind_label}
use Rattle.qs_meaning.specs.Runs.{calls_within, result_at_end}
use Rattle.qs_meaning.specs.Elsewhere as elsewhere
use Rattle.qs_meaning.specs.NineCases.{ElsewhereIsTheMeaning}

-- ---- steps

expected_is : {A B : Type 0} (o : Option A) (next : A → Option B) (f : A → RootRun) (g : B → RootRun) → ((a : A) → f a ≡ given (next a) g)
    → elsewhere.expected undefined o f ≡ given (o >>= next) g
expected_is None next f g h = refl
expected_is (Some a) next f g h = h a

expected_is_given : {A : Type 0} (o : Option A) (f g : A → RootRun) → ((a : A) → f a ≡ g a) → elsewhere.expected undefined o f ≡ given o g
expected_is_given None f g h = refl
expected_is_given (Some a) f g h = h a

given_is : {A : Type 0} (o : Option A) (f g : A → RootRun) → ((a : A) → f a ≡ g a) → given o f ≡ given o g
given_is None f g h = refl
given_is (Some a) f g h = h a

given_then : {A B : Type 0} (o : Option A) (next : A → Option B) (f : B → RootRun) → given o (λ a. given (next a) f) ≡ given (o >>= next) f
given_then None next f = refl
given_then (Some a) next f = refl

unary_is : (op : UnaryOperation) (m : Memory) (x : Value) (f g : Value → RootRun) → ((y : Value) → f y ≡ g y) → elsewhere.unary_step undefined op m x f ≡ given (apply_unary op m x) g
unary_is (unaries.Plus s) m (integer n) f g h = h (integer n)
unary_is (unaries.Plus s) m (address p) f g h = refl
unary_is (unaries.Minus s) m (integer n) f g h = h _
unary_is (unaries.Minus s) m (address p) f g h = refl
unary_is (unaries.Complement s) m (integer n) f g h = h _
unary_is (unaries.Complement s) m (address p) f g h = refl
unary_is unaries.Not m x f g h = given_is (apply_unary unaries.Not m x) f g h
unary_is unaries.Truth m x f g h = given_is (apply_unary unaries.Truth m x) f g h

binary_is : (op : BinaryOperation) (m : Memory) (x y : Value) (f g : Value → RootRun) → ((z : Value) → f z ≡ g z) → elsewhere.binary_step undefined op m x y f ≡ given (apply_binary op m x y) g
binary_is (binaries.Arithmetic op s) m (integer x) (integer y) f g h = given_is (apply_binary (binaries.Arithmetic op s) m (integer x) (integer y)) f g h
binary_is (binaries.Arithmetic op s) m (integer x) (address q) f g h = refl
binary_is (binaries.Arithmetic op s) m (address p) y f g h = refl
binary_is (binaries.Compare op s) m (integer x) (integer y) f g h = given_is (apply_binary (binaries.Compare op s) m (integer x) (integer y)) f g h
binary_is (binaries.Compare op s) m (integer x) (address q) f g h = refl
binary_is (binaries.Compare op s) m (address p) y f g h = refl
binary_is (binaries.Move direction s element) m (integer x) y f g h = refl
binary_is (binaries.Move direction s element) m (address p) (integer y) f g h = given_is (apply_binary (binaries.Move direction s element) m (address p) (integer y)) f g h
binary_is (binaries.Move direction s element) m (address p) (address q) f g h = refl
binary_is (binaries.Difference element) m (integer x) y f g h = refl
binary_is (binaries.Difference element) m (address p) (integer y) f g h = refl
binary_is (binaries.Difference element) m (address p) (address q) f g h = given_is (apply_binary (binaries.Difference element) m (address p) (address q)) f g h
binary_is (binaries.ComparePointers op) m (integer x) y f g h = refl
binary_is (binaries.ComparePointers op) m (address p) (integer y) f g h = refl
binary_is (binaries.ComparePointers op) m (address p) (address q) f g h = given_is (apply_binary (binaries.ComparePointers op) m (address p) (address q)) f g h

ordered_is : (order : Order) (op : BinaryOperation) (m : Memory) (x y : Value) (f g : Value → RootRun) → ((z : Value) → f z ≡ g z)
    → elsewhere.in_their_order undefined order op m x y f ≡ given (in_their_order order op m x y) g
ordered_is as_written op m x y f g h = binary_is op m x y f g h
ordered_is exchanged op m x y f g h = binary_is op m y x f g h

operation_is : (op : BinaryOperation) (order : Order) (left right : Conversion) (m : Memory) (x y : Value) (f g : Value → RootRun) → ((z : Value) → f z ≡ g z)
    → elsewhere.operation_step undefined op order left right m x y f ≡ given (operation_value op order left right m x y) g
operation_is op order left right m x y f g h =
    expected_is (convert_by left x) (λ x. convert_by right y >>= λ y. in_their_order order op m x y) _ g (λ a.
    expected_is (convert_by right y) (λ y. in_their_order order op m a y) _ g (λ b. ordered_is order op m a b f g h))

updated_is : (op : BinaryOperation) (left right back : Conversion) (m : Memory) (x y : Value) (f g : Value → RootRun) → ((z : Value) → f z ≡ g z)
    → elsewhere.updated_step undefined op left right back m x y f ≡ given (updated_value op left right back m x y) g
updated_is op left right back m x y f g h =
    operation_is op as_written left right m x y _ (λ z. given (convert_by back z) g) (λ z. expected_is_given (convert_by back z) f g h)
    ∙ given_then (operation_value op as_written left right m x y) (convert_by back) g

-- a value of another type isn't stored
kept_out : {A : Type 0} (o : Option A) (f : A → RootRun) → (IsSome o → false ≡ true) → undefined ≡ given o f
kept_out None f h = refl
kept_out (Some a) f h = let e : false ≡ true = h refl in cc

store_is : (s : Scalar) (m : Memory) (p : Pointer) (y : Value) (f g : Memory → RootRun) → ((n : Memory) → f n ≡ g n)
    → elsewhere.where_so undefined (has_type s y) (given (blocks.store s m p y) f) ≡ given (blocks.store s m p y) g
store_is s m p y f g h = by (has_type s y) (λ e. ((steps_are_defined.store s m p y).0 e).1)
  where
    by : (b : Bool) → (IsSome (blocks.store s m p y) → b ≡ true) → elsewhere.where_so undefined b (given (blocks.store s m p y) f) ≡ given (blocks.store s m p y) g
    by true typed = given_is (blocks.store s m p y) f g h
    by false typed = kept_out (blocks.store s m p y) g typed

-- ---- what follows is the same

module _ (m first : ℕ) (c d : CallsOf) (cd : (f : ℕ) (xs : List Value) (k j : Return) (w : World) → ((x : Option Value) (w : World) → k x w ≡ j x w) → c f xs k w ≡ d f xs j w) where
  abbrev here : Here
  here = record { turns = m; first_block = first; calls = c }

  abbrev there : Here
  there = record { turns = m; first_block = first; calls = d }

  abbrev Nexts : Next → Next → Type 0
  Nexts k j = (v : Environment) (w : World) → k v w ≡ j v w

  abbrev Behind : {A : Type 0} → (k j : A → Next) → Type 0
  Behind {A = A} k j = (x : A) (v : Environment) (w : World) → k x v w ≡ j x v w

  abbrev ReturnsAlike : (k j : Return) → Type 0
  ReturnsAlike k j = (x : Option Value) (w : World) → k x w ≡ j x w

  choose_is : (b : Bool) (k k' l l' : Next) (v : Environment) (w : World) → k v w ≡ l v w → k' v w ≡ l' v w → choose b k k' v w ≡ choose b l l' v w
  choose_is true k k' l l' v w p q = p
  choose_is false k k' l l' v w p q = q

  test_is : (x : Value) (k k' l l' : Next) → Nexts k l → Nexts k' l' → Nexts (test x k k') (test x l l')
  test_is x k k' l l' p q v w = given_is (truth w.memory x) _ _ (λ b. choose_is b k k' l l' v w (p v w) (q v w))

  read_is : (s : Scalar) (p : Place) (v : Environment) (w : World) (f g : Value → RootRun) → ((x : Value) → f x ≡ g x) → elsewhere.read undefined s p v w f ≡ given (read s p v w) g
  read_is s (in_variable x) v w f g h = given_is (v x) f g h
  read_is s (in_object a) v w f g h = expected_is (as_pointer a) (load s w.memory) _ g (λ p. given_is (load s w.memory p) f g h)

  write_is : (s : Scalar) (p : Place) (y : Value) (k j : Next) → Nexts k j → Nexts (elsewhere.write undefined s p y k) (write s p y j)
  write_is s (in_variable x) y k j h v w = h (with_value v x y) w
  write_is s (in_object a) y k j h v w =
      expected_is (as_pointer a) (λ p. blocks.store s w.memory p y) _ _ (λ p. store_is s w.memory p y _ _ (λ n. h v (with_memory w n)))

  convert_is : (e : Conversion) (x : Value) (k j : Value → Next) → Behind k j → Nexts (elsewhere.conversion_then undefined e x k) (λ v w. given (convert_by e x) (λ y. j y v w))
  convert_is e x k j h v w = expected_is_given (convert_by e x) _ _ (λ y. h y v w)

  take_is : (input : List ℕ) (k j : Return) (w : World) → ReturnsAlike k j → take_byte input k w ≡ take_byte input j w
  take_is [] k j w h = ap (emit events.TakesEnd) (h (Some (integer (2 ^ 32 - 1))) w)
  take_is (b ∷ input) k j w h = ap (emit (events.Takes b)) (h (Some (integer b)) (record w { input = input }))

  put_is : (xs : List Value) (k j : Return) (w : World) → ReturnsAlike k j → elsewhere.put_char undefined xs k w ≡ put_char xs j w
  put_is [] k j w h = refl
  put_is (address p ∷ others) k j w h = refl
  put_is (integer n ∷ x ∷ others) k j w h = refl
  put_is (integer n ∷ []) k j w h = ap (emit (events.Puts (n % 256))) (h (Some (integer (n % 256))) w)

  get_is : (xs : List Value) (k j : Return) (w : World) → ReturnsAlike k j → elsewhere.get_char undefined xs k w ≡ get_char xs j w
  get_is [] k j w h = take_is w.input k j w h
  get_is (x ∷ others) k j w h = refl

  invoke_is : (f : Callee) (xs : List Value) (k j : Return) (w : World) → ReturnsAlike k j → elsewhere.invoke undefined f c xs k w ≡ invoke f d xs j w
  invoke_is (callees.Function f) xs k j w h = cd f.0 xs k j w h
  invoke_is callees.PutChar xs k j w h = put_is xs k j w h
  invoke_is callees.GetChar xs k j w h = get_is xs k j w h

  mutual
    expression_is : (a : Expr) (k j : Value → Next) → Behind k j → Nexts (elsewhere.expression undefined a here k) (expression a there j)
    expression_is (constant s n) k j h v w = h (integer n) v w
    expression_is (value s l) k j h v w = lvalue_is l _ _ (λ p v w. read_is s p v w _ _ (λ x. h x v w)) v w
    expression_is (pointer_to o) k j h v w = h _ v w
    expression_is (member offset a) k j h v w =
        expression_is a _ _ (λ x v w. expected_is (as_pointer x) (λ p. member_of w.memory p offset) _ _ (λ p. given_is (member_of w.memory p offset) _ _ (λ q. h (address q) v w))) v w
    expression_is (called s f es) k j h v w =
        arguments_is es _ _ (λ xs v w. invoke_is f xs _ _ w (λ o w. given_is o _ _ (λ x. h x v w))) v w
    expression_is (stepped_after s l op left back) k j h v w =
        lvalue_is l _ _ (λ p v w. read_is s p v w _ _ (λ x. updated_is op left unchanged back w.memory x step_amount _ _ (λ y. write_is s p y _ _ (h x) v w))) v w
    expression_is (unary op e a) k j h v w =
        expression_is a _ _ (λ x v w. expected_is (convert_by e x) (λ x. apply_unary op w.memory x) _ _ (λ y. unary_is op w.memory y _ _ (λ z. h z v w))) v w
    expression_is (cast e a) k j h v w = expression_is a _ _ (λ x v w. convert_is e x k j h v w) v w
    expression_is (binary op order left right a b) k j h v w =
        expression_is a _ _ (λ x v w. expression_is b _ _ (λ y v w. operation_is op order left right w.memory x y _ _ (λ z. h z v w)) v w) v w
    expression_is (logical_and a b) k j h v w =
        expression_is a _ _ (λ x v w. test_is x _ _ _ _ (λ v w. expression_is b _ _ (λ y v w. test_is y _ _ _ _ (h (integer 1)) (h (integer 0)) v w) v w) (h (integer 0)) v w) v w
    expression_is (logical_or a b) k j h v w =
        expression_is a _ _ (λ x v w. test_is x _ _ _ _ (h (integer 1)) (λ v w. expression_is b _ _ (λ y v w. test_is y _ _ _ _ (h (integer 1)) (h (integer 0)) v w) v w) v w) v w
    expression_is (conditional s a second third b e) k j h v w =
        expression_is a _ _ (λ x v w. test_is x _ _ _ _
        (λ v w. expression_is b _ _ (λ y v w. convert_is second y k j h v w) v w) (λ v w. expression_is e _ _ (λ y v w. convert_is third y k j h v w) v w) v w) v w
    expression_is (assigned a) k j h v w = assignment_is a k j h v w
    expression_is (sequence a b) k j h v w = effect_is a _ _ (λ v w. expression_is b k j h v w) v w

    lvalue_is : (l : Lvalue) (k j : Place → Next) → Behind k j → Nexts (elsewhere.lvalue undefined l here k) (lvalue l there j)
    lvalue_is (variable x) k j h v w = h (in_variable x) v w
    lvalue_is (object a) k j h v w = expression_is a _ _ (λ x v w. h (in_object x) v w) v w

    arguments_is : (es : Arguments) (k j : List Value → Next) → Behind k j → Nexts (elsewhere.arguments undefined es here k) (arguments es there j)
    arguments_is no_arguments k j h v w = h [] v w
    arguments_is (argument_and e a es) k j h v w =
        expression_is a _ _ (λ x v w. arguments_is es _ _ (λ ys v w. convert_is e x _ _ (λ y v w. h (y ∷ ys) v w) v w) v w) v w

    assignment_is : (a : Assignment) (k j : Value → Next) → Behind k j → Nexts (elsewhere.assignment undefined a here k) (assignment a there j)
    assignment_is (set s l e a) k j h v w =
        lvalue_is l _ _ (λ p v w. expression_is a _ _ (λ x v w. convert_is e x _ _ (λ y v w. write_is s p y _ _ (h y) v w) v w) v w) v w
    assignment_is (update s l op left right back a) k j h v w =
        lvalue_is l _ _ (λ p v w. read_is s p v w _ _ (λ x.
        expression_is a _ _ (λ y v w. updated_is op left right back w.memory x y _ _ (λ z. write_is s p z _ _ (h z) v w)) v w)) v w

    effect_is : (a : Effect) (k j : Next) → Nexts k j → Nexts (elsewhere.effect undefined a here k) (effect a there j)
    effect_is nothing k j h v w = h v w
    effect_is (discard a) k j h v w = expression_is a _ _ (λ x v w. h v w) v w
    effect_is (assign a) k j h v w = assignment_is a _ _ (λ x v w. h v w) v w
    effect_is (perform f es) k j h v w = arguments_is es _ _ (λ xs v w. invoke_is f xs _ _ w (λ o w. h v w)) v w
    effect_is (copy size alignment a b) k j h v w =
        expression_is a _ _ (λ x v w. expression_is b _ _ (λ y v w.
        expected_is (as_pointer x) (λ to. as_pointer y >>= λ from. blocks.copy size alignment w.memory to from) _ _ (λ to.
        expected_is (as_pointer y) (λ from. blocks.copy size alignment w.memory to from) _ _ (λ from.
        given_is (blocks.copy size alignment w.memory to from) _ _ (λ n. h v (with_memory w n))))) v w) v w
    effect_is (fill blank a) k j h v w =
        expression_is a _ _ (λ x v w. expected_is (as_pointer x) (λ p. blocks.fill blank w.memory p) _ _ (λ p.
        given_is (blocks.fill blank w.memory p) _ _ (λ n. h v (with_memory w n)))) v w
    effect_is (in_order a b) k j h v w = effect_is a _ _ (λ v w. effect_is b k j h v w) v w

  -- ---- statements

  record SameTargets (t u : Targets) : Type 0 where
    behind : Nexts t.behind u.behind
    at_break : Nexts t.at_break u.at_break
    at_continue : Nexts t.at_continue u.at_continue
    at_return : ReturnsAlike t.at_return u.at_return

  condition_is : (e : Expr) (k k' l l' : Next) → Nexts k l → Nexts k' l' → Nexts (elsewhere.condition undefined e here k k') (condition e there l l')
  condition_is e k k' l l' p q v w = expression_is e _ _ (λ x v w. test_is x k k' l l' p q v w) v w

  for_condition_is : (e : Option Expr) (k k' l l' : Next) → Nexts k l → Nexts k' l' → Nexts (elsewhere.for_condition undefined e here k k') (for_condition e there l l')
  for_condition_is None k k' l l' p q = p
  for_condition_is (Some e) k k' l l' p q = condition_is e k k' l l' p q

  turns_is : (n : ℕ) (t u : Next → Next) → ((k l : Next) → Nexts k l → Nexts (t k) (u l)) → Nexts (turns n t) (turns n u)
  turns_is zero t u h v w = refl
  turns_is (suc n) t u h v w = h _ _ (turns_is n t u h) v w

  loop_is : (t u : Targets) → SameTargets t u → (k l : Next) → Nexts k l → SameTargets (in_loop t k) (in_loop u l)
  loop_is t u h k l f = record { behind = f; at_break = h.behind; at_continue = f; at_return = h.at_return }

  switch_is : (t u : Targets) → SameTargets t u → SameTargets (in_switch t) (in_switch u)
  switch_is t u h = record { behind = h.behind; at_break = h.behind; at_continue = h.at_continue; at_return = h.at_return }

  chosen_is : (b : Bool) (k k' l l' : Next) → Nexts k l → Nexts k' l' → Nexts (if b then k else k') (if b then l else l')
  chosen_is true k k' l l' p q = p
  chosen_is false k k' l l' p q = q

  mutual
    statement_is : (s : Stmt) (t u : Targets) → SameTargets t u → Nexts (elsewhere.statement undefined s here t) (statement s there u)
    statement_is (evaluate a) t u h v w = effect_is a _ _ h.behind v w
    statement_is (block ss) t u h v w = statements_is ss t u h v w
    statement_is (branch e p q) t u h v w = condition_is e _ _ _ _ (statement_is p t u h) (statement_is q t u h) v w
    statement_is (switch e a ss) t u h v w =
        expression_is a _ _ (λ x v w. convert_is e x _ _ (λ y v w. expected_is_given (as_integer y) _ _ (λ n.
        label_is (is_case n) ss _ _ (switch_is t u h) _ _ (label_is is_default ss _ _ (switch_is t u h) _ _ h.behind) v w)) v w) v w
    statement_is (case_label n) t u h v w = h.behind v w
    statement_is default_label t u h v w = h.behind v w
    statement_is (while_loop e p) t u h v w =
        turns_is m _ _ (λ k l f. condition_is e _ _ _ _ (statement_is p _ _ (loop_is t u h k l f)) h.behind) v w
    statement_is (do_loop p e) t u h v w =
        turns_is m _ _ (λ k l f. statement_is p _ _ (loop_is t u h _ _ (condition_is e _ _ _ _ f h.behind))) v w
    statement_is (for_loop begin e step p) t u h v w =
        effect_is begin _ _ (turns_is m _ _ (λ k l f. for_condition_is e _ _ _ _ (statement_is p _ _ (loop_is t u h _ _ (effect_is step k l f))) h.behind)) v w
    statement_is break t u h v w = h.at_break v w
    statement_is continue t u h v w = h.at_continue v w
    statement_is (return e a) t u h v w = expression_is a _ _ (λ x v w. convert_is e x _ _ (λ y v w. h.at_return (Some y) w) v w) v w
    statement_is return_nothing t u h v w = h.at_return None w

    statements_is : (ss : Stmts) (t u : Targets) → SameTargets t u → Nexts (elsewhere.statements undefined ss here t) (statements ss there u)
    statements_is no_stmts t u h v w = h.behind v w
    statements_is (stmt_and s ss) t u h v w =
        statement_is s _ _ (record { behind = statements_is ss t u h; at_break = h.at_break; at_continue = h.at_continue; at_return = h.at_return }) v w

    label_is : (is_label : Stmt → Bool) (ss : Stmts) (t u : Targets) → SameTargets t u → (k l : Next) → Nexts k l
        → Nexts (elsewhere.behind_label undefined is_label ss here t k) (behind_label is_label ss there u l)
    label_is is_label no_stmts t u h k l f v w = f v w
    label_is is_label (stmt_and s ss) t u h k l f v w = chosen_is (is_label s) _ _ _ _ (statements_is ss t u h) (label_is is_label ss t u h k l f) v w

-- ---- calls

pass_is : (ps : List Parameter) (xs : List Value) (first : ℕ) (v : Environment) (w : World) (k j : Entered) → ((v : Environment) (w : World) → k v w ≡ j v w)
    → elsewhere.pass undefined ps xs first v w k ≡ pass ps xs first v w j
pass_is [] [] first v w k j h = h v w
pass_is [] (x ∷ xs) first v w k j h = refl
pass_is (p ∷ ps) [] first v w k j h = refl
pass_is (Plain n ∷ ps) (x ∷ xs) first v w k j h = pass_is ps xs first (with_value v n x) w k j h
pass_is (Placed b s ∷ ps) (x ∷ xs) first v w k j h = expected_is_given (blocks.store s w.memory (into (first + b) 0) x) _ _ (λ n. pass_is ps xs first v (with_memory w n) k j h)

calls_is : (fs : List Function) (turns depth f : ℕ) (xs : List Value) (k j : Return) (w : World) → ((x : Option Value) (w : World) → k x w ≡ j x w)
    → elsewhere.calls_within undefined fs turns depth f xs k w ≡ calls_within fs turns depth f xs j w
calls_is fs m zero f xs k j w h = refl
calls_is fs m (suc depth) f xs k j w h =
    expected_is_given (slice_get fs f) _ _ (λ (g : Function).
    ap (emit (events.Calls f)) (pass_is g.parameters xs _ no_values (with_memory w (make g.blocks w.memory)) _ _ (λ v u.
    statements_is m _ _ _ (calls_is fs m depth) g.body _ _
    (record { behind = λ v u. ap (emit (events.Returns f)) (h (result_at_end g.is_main) (with_memory u (release (length w.memory) u.memory))); at_break = λ v u. refl; at_continue = λ v u. refl; at_return = λ x u. ap (emit (events.Returns f)) (h x (with_memory u (release (length w.memory) u.memory))) }) v u)))

pub elsewhere_is_the_meaning : ElsewhereIsTheMeaning
elsewhere_is_the_meaning u root xs w n = calls_is u.functions n n root xs _ _ w (λ x w. refl)
