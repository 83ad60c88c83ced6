-- The same meaning, but that a run goes on otherwise at each place where the meaning has no answer and none of the nine cases of what is
-- undefined is met: at a value of another kind than the step takes, at a call of no function or with other arguments than there are
-- parameters, at an argument that its parameter's block doesn't take, at a `break` or `continue` nowhere.
use Rattle.std.specs.Prelude.{ℕ, zero, suc, ◌+◌, ◌%◌, ◌&&◌, Bool, true, false, List, [], ◌∷◌, length, Option, Some, None, slice_get, if◌then◌else◌}
use Rattle.qs_memory.specs.declared.scalar.Scalar.{Scalar}
use Rattle.qs_memory.specs.declared.operation.UnaryOperation.{UnaryOperation}
use Rattle.qs_memory.specs.declared.operation.UnaryOperation.TheVariants as unaries
use Rattle.qs_memory.specs.declared.operation.BinaryOperation.{BinaryOperation}
use Rattle.qs_memory.specs.declared.operation.BinaryOperation.TheVariants as binaries
use Rattle.qs_memory.specs.Values.{Value, into, integer, address, as_integer, as_pointer, has_type}
use Rattle.qs_memory.specs.Memory.{Memory, load, store, make, release}
use Rattle.qs_memory.specs.Memory as blocks
use Rattle.qs_memory.specs.Pointers.{member_of}
use Rattle.qs_memory.specs.Operations.{apply_unary, apply_binary}
use Rattle.qs_events.specs.Events.{Calls, Returns, Puts}
use Rattle.qs_events.specs.Runs.{emit, short, given}
use Rattle.qs_calls.specs.World.{World, with_memory, RootRun, Return, leaves, Environment, no_values, with_value}
use Rattle.qs_calls.specs.Calls.{CallsOf, Frame, Entered, Body, take_byte, used}
use Rattle.qs_calls.specs.declared.callee.Callee.{Callee}
use Rattle.qs_calls.specs.declared.callee.Callee.TheVariants.{Function as function, PutChar, GetChar}
use Rattle.qs_calls.specs.declared.parameter.Parameter.{Parameter}
use Rattle.qs_calls.specs.declared.parameter.Parameter.TheVariants.{Plain, Placed}
use Rattle.qs_meaning.specs.Typed.{Conversion, unchanged, Order, as_written, exchanged, Expr, constant, value, pointer_to, member, called, stepped_after, unary, cast, binary, logical_and, logical_or, conditional, assigned, sequence, Lvalue, variable, object, Arguments, no_arguments, argument_and, Assignment, set, update, Effect, nothing, discard, assign, perform, copy, fill, in_order, Stmt, evaluate, block, branch, switch, case_label, default_label, while_loop, do_loop, for_loop, break, continue, return, return_nothing, Stmts, no_stmts, stmt_and, Function, TypedProgram}
use Rattle.qs_meaning.specs.States.{Next, Here, test, convert_by, pointer_at, Place, in_variable, in_object}
use Rattle.qs_meaning.specs.Meaning.{step_amount, Targets, in_loop, in_switch, is_case, is_default, turns}
use Rattle.qs_meaning.specs.Runs.{frame_of, result_at_end}

-- ---- steps

-- what the step takes, or else the other run
abbrev pub expected : {A : Type 0} → RootRun → Option A → (A → RootRun) → RootRun
expected other None next = other
expected other (Some a) next = next a

abbrev pub where_so : RootRun → Bool → RootRun → RootRun
where_so other true run = run
where_so other false run = other

abbrev pub is_number : Value → Bool
is_number (integer n) = true
is_number (address p) = false

abbrev pub is_address : Value → Bool
is_address (integer n) = false
is_address (address p) = true

-- values of the kind that an operation takes
abbrev pub takes_value : UnaryOperation → Value → Bool
takes_value (unaries.Plus s) x = is_number x
takes_value (unaries.Minus s) x = is_number x
takes_value (unaries.Complement s) x = is_number x
takes_value unaries.Not x = true
takes_value unaries.Truth x = true

abbrev pub takes_values : BinaryOperation → (x y : Value) → Bool
takes_values (binaries.Arithmetic op s) x y = is_number x && is_number y
takes_values (binaries.Compare op s) x y = is_number x && is_number y
takes_values (binaries.Move direction s element) x y = is_address x && is_number y
takes_values (binaries.Difference element) x y = is_address x && is_address y
takes_values (binaries.ComparePointers op) x y = is_address x && is_address y

abbrev pub converted : RootRun → Conversion → Value → (Value → RootRun) → RootRun
converted other c x next = expected other (convert_by c x) next

abbrev pub conversion_then : RootRun → Conversion → Value → (Value → Next) → Next
conversion_then other c x next v w = converted other c x (λ y. next y v w)

abbrev pub read : RootRun → Scalar → Place → Environment → World → (Value → RootRun) → RootRun
read other s (in_variable x) v w next = given (v x) next
read other s (in_object a) v w next = expected other (as_pointer a) (λ p. given (load s w.memory p) next)

-- a value of the type that is stored
abbrev pub stored : RootRun → Scalar → Memory → (pointer : Value) → Value → (Memory → RootRun) → RootRun
stored other s m a y next = expected other (as_pointer a) (λ p. where_so other (has_type s y) (given (store s m p y) next))

abbrev pub write : RootRun → Scalar → Place → Value → Next → Next
write other s (in_variable x) y next v w = next (with_value v x y) w
write other s (in_object a) y next v w = stored other s w.memory a y (λ m. next v (with_memory w m))

abbrev pub unary_step : RootRun → UnaryOperation → Memory → Value → (Value → RootRun) → RootRun
unary_step other operation m x next = where_so other (takes_value operation x) (given (apply_unary operation m x) next)

abbrev pub binary_step : RootRun → BinaryOperation → Memory → (x y : Value) → (Value → RootRun) → RootRun
binary_step other operation m x y next = where_so other (takes_values operation x y) (given (apply_binary operation m x y) next)

abbrev pub in_their_order : RootRun → Order → BinaryOperation → Memory → (x y : Value) → (Value → RootRun) → RootRun
in_their_order other as_written operation m x y next = binary_step other operation m x y next
in_their_order other exchanged operation m x y next = binary_step other operation m y x next

abbrev pub operation_step : RootRun → BinaryOperation → Order → (left right : Conversion) → Memory → (x y : Value) → (Value → RootRun) → RootRun
operation_step other operation order left right m x y next =
    converted other left x (λ x. converted other right y (λ y. in_their_order other order operation m x y next))

abbrev pub updated_step : RootRun → BinaryOperation → (left right back : Conversion) → Memory → (x y : Value) → (Value → RootRun) → RootRun
updated_step other operation left right back m x y next =
    operation_step other operation as_written left right m x y (λ z. converted other back z next)

-- ---- calls

abbrev pub get_char : RootRun → (arguments : List Value) → Return → World → RootRun
get_char other [] k w = take_byte w.input k w
get_char other (v ∷ others) k w = other

abbrev pub put_char : RootRun → (arguments : List Value) → Return → World → RootRun
put_char other [] k w = other
put_char other (integer c ∷ []) k w = emit (Puts (c % 256)) (k (Some (integer (c % 256))) w)
put_char other (integer c ∷ v ∷ others) k w = other
put_char other (address p ∷ others) k w = other

abbrev pub invoke : RootRun → Callee → CallsOf → (arguments : List Value) → Return → World → RootRun
invoke other (function f) calls arguments k w = calls f.0 arguments k w
invoke other PutChar calls arguments k w = put_char other arguments k w
invoke other GetChar calls arguments k w = get_char other arguments k w

abbrev pub pass : RootRun → List Parameter → (arguments : List Value) → (first_block : ℕ) → Environment → World → Entered → RootRun
pass other [] [] first e w k = k e w
pass other [] (v ∷ arguments) first e w k = other
pass other (p ∷ parameters) [] first e w k = other
pass other (Plain x ∷ parameters) (v ∷ arguments) first e w k = pass other parameters arguments first (with_value e x v) w k
-- an argument is of its parameter's type, and is stored in a block that was made for it
pass other (Placed i s ∷ parameters) (v ∷ arguments) first e w k =
    expected other (store s w.memory (into (first + i) 0) v) (λ m. pass other parameters arguments first e (with_memory w m) k)

abbrev pub activate : RootRun → (function : ℕ) → Frame → Body → (arguments : List Value) → Return → World → RootRun
activate other f frame body arguments k w =
    let first = length w.memory in
    emit (Calls f) (pass other frame.parameters arguments first no_values (with_memory w (make frame.blocks w.memory))
    (body first (λ result u. emit (Returns f) (k result (with_memory u (release first u.memory))))))

-- ---- expressions

abbrev mutual
  pub expression : RootRun → Expr → Here → (Value → Next) → Next
  expression other (constant s n) h next = next (integer n)
  expression other (value s l) h next = lvalue other l h (λ p v w. read other s p v w (λ x. next x v w))
  expression other (pointer_to o) h next = next (address (pointer_at o h.first_block))
  expression other (member offset a) h next =
      expression other a h (λ x v w. expected other (as_pointer x) (λ p. given (member_of w.memory p offset) (λ p. next (address p) v w)))
  expression other (called s f es) h next = arguments other es h (λ xs v. invoke other f h.calls xs (λ result w. used result (λ x. next x v w)))
  expression other (stepped_after s l operation left back) h next =
      lvalue other l h (λ p v w. read other s p v w (λ x.
      updated_step other operation left unchanged back w.memory x step_amount (λ y. write other s p y (next x) v w)))
  expression other (unary operation c a) h next =
      expression other a h (λ x v w. converted other c x (λ x. unary_step other operation w.memory x (λ y. next y v w)))
  expression other (cast c a) h next = expression other a h (λ x. conversion_then other c x next)
  expression other (binary operation order left right a b) h next =
      expression other a h (λ x. expression other b h (λ y v w. operation_step other operation order left right w.memory x y (λ z. next z v w)))
  expression other (logical_and a b) h next =
      expression other a h (λ x. test x (expression other b h (λ y. test y (next (integer 1)) (next (integer 0)))) (next (integer 0)))
  expression other (logical_or a b) h next =
      expression other a h (λ x. test x (next (integer 1)) (expression other b h (λ y. test y (next (integer 1)) (next (integer 0)))))
  expression other (conditional s a second third b c) h next =
      expression other a h (λ x. test x (expression other b h (λ y. conversion_then other second y next)) (expression other c h (λ y. conversion_then other third y next)))
  expression other (assigned a) h next = assignment other a h next
  expression other (sequence a b) h next = effect other a h (expression other b h next)

  pub lvalue : RootRun → Lvalue → Here → (Place → Next) → Next
  lvalue other (variable x) h next = next (in_variable x)
  lvalue other (object a) h next = expression other a h (λ x. next (in_object x))

  pub arguments : RootRun → Arguments → Here → (List Value → Next) → Next
  arguments other no_arguments h next = next []
  arguments other (argument_and c a es) h next = expression other a h (λ x. arguments other es h (λ ys. conversion_then other c x (λ y. next (y ∷ ys))))

  pub assignment : RootRun → Assignment → Here → (Value → Next) → Next
  assignment other (set s l c a) h next =
      lvalue other l h (λ p. expression other a h (λ x. conversion_then other c x (λ y. write other s p y (next y))))
  assignment other (update s l operation left right back a) h next =
      lvalue other l h (λ p v w. read other s p v w (λ x.
      expression other a h (λ y v w. updated_step other operation left right back w.memory x y (λ z. write other s p z (next z) v w)) v w))

  pub effect : RootRun → Effect → Here → Next → Next
  effect other nothing h next = next
  effect other (discard a) h next = expression other a h (λ x. next)
  effect other (assign a) h next = assignment other a h (λ x. next)
  effect other (perform f es) h next = arguments other es h (λ xs v. invoke other f h.calls xs (λ result. next v))
  effect other (copy size alignment a b) h next =
      expression other a h (λ x. expression other b h (λ y v w.
      expected other (as_pointer x) (λ to. expected other (as_pointer y) (λ from. given (blocks.copy size alignment w.memory to from) (λ m. next v (with_memory w m))))))
  effect other (fill blank a) h next =
      expression other a h (λ x v w. expected other (as_pointer x) (λ p. given (blocks.fill blank w.memory p) (λ m. next v (with_memory w m))))
  effect other (in_order a b) h next = effect other a h (effect other b h next)

-- ---- statements

abbrev pub condition : RootRun → Expr → Here → (met unmet : Next) → Next
condition other e h met unmet = expression other e h (λ x. test x met unmet)

abbrev pub for_condition : RootRun → Option Expr → Here → (met unmet : Next) → Next
for_condition other None h met unmet = met
for_condition other (Some e) h met unmet = condition other e h met unmet

abbrev mutual
  pub statement : RootRun → Stmt → Here → Targets → Next
  statement other (evaluate a) h t = effect other a h t.behind
  statement other (block ss) h t = statements other ss h t
  statement other (branch e a b) h t = condition other e h (statement other a h t) (statement other b h t)
  statement other (switch c e ss) h t =
      expression other e h (λ x. conversion_then other c x (λ y v w. expected other (as_integer y) (λ n.
      behind_label other (is_case n) ss h (in_switch t) (behind_label other is_default ss h (in_switch t) t.behind) v w)))
  statement other (case_label n) h t = t.behind
  statement other default_label h t = t.behind
  statement other (while_loop e a) h t = turns h.turns (λ again. condition other e h (statement other a h (in_loop t again)) t.behind)
  statement other (do_loop a e) h t = turns h.turns (λ again. statement other a h (in_loop t (condition other e h again t.behind)))
  statement other (for_loop start e step a) h t =
      effect other start h (turns h.turns (λ again. for_condition other e h (statement other a h (in_loop t (effect other step h again))) t.behind))
  statement other break h t = t.at_break
  statement other continue h t = t.at_continue
  statement other (return c e) h t = expression other e h (λ x. conversion_then other c x (λ y v. t.at_return (Some y)))
  statement other return_nothing h t = λ v. t.at_return None

  pub statements : RootRun → Stmts → Here → Targets → Next
  statements other no_stmts h t = t.behind
  statements other (stmt_and s ss) h t = statement other s h (record t { behind = statements other ss h t })

  pub behind_label : RootRun → (is_label : Stmt → Bool) → Stmts → Here → Targets → (without : Next) → Next
  behind_label other is_label no_stmts h t without = without
  behind_label other is_label (stmt_and s ss) h t without = if is_label s then statements other ss h t else behind_label other is_label ss h t without

-- ---- functions

abbrev pub nowhere : RootRun → Next
nowhere other v w = other

abbrev pub targets : RootRun → Function → Return → Targets
targets other g k = record { behind = λ v. k (result_at_end g.is_main); at_break = nowhere other; at_continue = nowhere other; at_return = k }

abbrev pub body_of : RootRun → Function → (turns : ℕ) → CallsOf → Body
body_of other g n calls first k v w = statements other g.body (record { turns = n; first_block = first; calls = calls }) (targets other g k) v w

abbrev pub calls_within : RootRun → List Function → (turns depth : ℕ) → CallsOf
calls_within other functions n zero f xs k w = short
calls_within other functions n (suc depth) f xs k w =
    expected other (slice_get functions f) (λ g. activate other f (frame_of g) (body_of other g n (calls_within other functions n depth)) xs k w)

abbrev pub run_of : RootRun → TypedProgram → (root : ℕ) → List Value → World → (n : ℕ) → RootRun
run_of other unit root xs w n = calls_within other unit.functions n n root xs leaves w
