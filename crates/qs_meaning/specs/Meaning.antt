-- The meaning of expressions and statements (C11 6.5, 6.8): what is done, in order, and what follows. Operands, arguments and the sides of
-- an assignment are evaluated left to right.
use Rattle.std.specs.Prelude.{ℕ, zero, suc, ◌==◌, Bool, true, false, List, [], ◌∷◌, Option, Some, None, if◌then◌else◌}
use Rattle.qs_memory.specs.declared.operation.BinaryOperation.{BinaryOperation}
use Rattle.qs_memory.specs.Partial.{◌>>=◌}
use Rattle.qs_memory.specs.Values.{Value, integer, address, as_integer, as_pointer}
use Rattle.qs_memory.specs.Memory.{Memory}
use Rattle.qs_memory.specs.Memory as blocks
use Rattle.qs_memory.specs.Pointers.{member_of}
use Rattle.qs_memory.specs.Operations.{apply_unary, apply_binary}
use Rattle.qs_events.specs.Runs.{short, given}
use Rattle.qs_calls.specs.World.{with_memory, Return}
use Rattle.qs_calls.specs.Calls.{invoke, used}
use Rattle.qs_meaning.specs.Typed.{Conversion, unchanged, Order, as_written, exchanged, Expr, constant, value, pointer_to, member, called, stepped_after, unary, cast, binary, logical_and, logical_or, conditional, assigned, sequence, Lvalue, variable, object, Arguments, no_arguments, argument_and, Assignment, set, update, Effect, nothing, discard, assign, perform, copy, fill, in_order, Stmt, evaluate, block, branch, switch, case_label, default_label, while_loop, do_loop, for_loop, break, continue, return, return_nothing, Stmts, no_stmts, stmt_and}
use Rattle.qs_meaning.specs.States.{Next, Here, test, convert_by, conversion_then, pointer_at, Place, in_variable, in_object, read, write}

-- ---- operations

abbrev pub in_their_order : Order → BinaryOperation → Memory → (x y : Value) → Option Value
in_their_order as_written operation m x y = apply_binary operation m x y
in_their_order exchanged operation m x y = apply_binary operation m y x

abbrev pub operation_value : BinaryOperation → Order → (left right : Conversion) → Memory → (x y : Value) → Option Value
operation_value operation order left right m x y = convert_by left x >>= λ x. convert_by right y >>= λ y. in_their_order order operation m x y

-- 6.5.16.2p3: what a compound assignment writes
abbrev pub updated_value : BinaryOperation → (left right back : Conversion) → Memory → (x y : Value) → Option Value
updated_value operation left right back m x y = operation_value operation as_written left right m x y >>= convert_by back

-- 6.5.2.4p2: the amount of a step
abbrev pub step_amount : Value
step_amount = integer 1

-- ---- expressions

abbrev mutual
  pub expression : Expr → Here → (Value → Next) → Next
  -- 6.5.1p3
  expression (constant s n) h next = next (integer n)
  -- 6.3.2.1p2
  expression (value s l) h next = lvalue l h (λ p v w. given (read s p v w) (λ x. next x v w))
  -- 6.5.3.2p3
  expression (pointer_to o) h next = next (address (pointer_at o h.first_block))
  -- 6.5.2.3p3, p4
  expression (member offset a) h next =
      expression a h (λ x v w. given (as_pointer x >>= λ p. member_of w.memory p offset) (λ p. next (address p) v w))
  -- 6.5.2.2p4, p5, p10
  expression (called s f es) h next = arguments es h (λ xs v. invoke f h.calls xs (λ result w. used result (λ x. next x v w)))
  -- 6.5.2.4p2
  expression (stepped_after s l operation left back) h next =
      lvalue l h (λ p v w. given (read s p v w) (λ x.
      given (updated_value operation left unchanged back w.memory x step_amount) (λ y. write s p y (next x) v w)))
  -- 6.5.3.3
  expression (unary operation c a) h next =
      expression a h (λ x v w. given (convert_by c x >>= λ x. apply_unary operation w.memory x) (λ y. next y v w))
  -- 6.5.4p5
  expression (cast c a) h next = expression a h (λ x. conversion_then c x next)
  -- 6.5.5 to 6.5.12
  expression (binary operation order left right a b) h next =
      expression a h (λ x. expression b h (λ y v w. given (operation_value operation order left right w.memory x y) (λ z. next z v w)))
  -- 6.5.13p4: the right operand isn't evaluated where the left one is 0
  expression (logical_and a b) h next =
      expression a h (λ x. test x (expression b h (λ y. test y (next (integer 1)) (next (integer 0)))) (next (integer 0)))
  -- 6.5.14p4
  expression (logical_or a b) h next =
      expression a h (λ x. test x (next (integer 1)) (expression b h (λ y. test y (next (integer 1)) (next (integer 0)))))
  -- 6.5.15p4: one of the two is evaluated
  expression (conditional s a second third b c) h next =
      expression a h (λ x. test x (expression b h (λ y. conversion_then second y next)) (expression c h (λ y. conversion_then third y next)))
  -- 6.5.16p3
  expression (assigned a) h next = assignment a h next
  -- 6.5.17p2
  expression (sequence a b) h next = effect a h (expression b h next)

  -- 6.3.2.1p1
  pub lvalue : Lvalue → Here → (Place → Next) → Next
  lvalue (variable x) h next = next (in_variable x)
  lvalue (object a) h next = expression a h (λ x. next (in_object x))

  -- 6.5.2.2p4, p7: each is converted to the type of its parameter when all are evaluated
  pub arguments : Arguments → Here → (List Value → Next) → Next
  arguments no_arguments h next = next []
  arguments (argument_and c a es) h next = expression a h (λ x. arguments es h (λ ys. conversion_then c x (λ y. next (y ∷ ys))))

  pub assignment : Assignment → Here → (Value → Next) → Next
  -- 6.5.16.1p2: the left side, the right side, the write
  assignment (set s l c a) h next = lvalue l h (λ p. expression a h (λ x. conversion_then c x (λ y. write s p y (next y))))
  -- 6.5.16.2p3: the left side, the value that stands there, the right side, the write
  assignment (update s l operation left right back a) h next =
      lvalue l h (λ p v w. given (read s p v w) (λ x.
      expression a h (λ y v w. given (updated_value operation left right back w.memory x y) (λ z. write s p z (next z) v w)) v w))

  pub effect : Effect → Here → Next → Next
  effect nothing h next = next
  effect (discard a) h next = expression a h (λ x. next)
  effect (assign a) h next = assignment a h (λ x. next)
  effect (perform f es) h next = arguments es h (λ xs v. invoke f h.calls xs (λ result. next v))
  -- 6.5.16.1p2, 6.7.9p14
  effect (copy size alignment a b) h next =
      expression a h (λ x. expression b h (λ y v w.
      given (as_pointer x >>= λ to. as_pointer y >>= λ from. blocks.copy size alignment w.memory to from) (λ m. next v (with_memory w m))))
  -- 6.7.9p19, p21
  effect (fill blank a) h next =
      expression a h (λ x v w. given (as_pointer x >>= λ p. blocks.fill blank w.memory p) (λ m. next v (with_memory w m)))
  effect (in_order a b) h next = effect a h (effect b h next)

-- ---- statements

-- where a statement goes on: behind it, at a `break`, at a `continue`, at a `return` (6.8.6)
pub record Targets : Type 0 where
  pub behind : Next
  pub at_break : Next
  pub at_continue : Next
  pub at_return : Return

-- the body of a loop (6.8.6.2p2, 6.8.6.3p2): its end and `continue` lead to the rest of the turn, `break` leads behind the loop
abbrev pub in_loop : Targets → (rest : Next) → Targets
in_loop t rest = record { behind = rest; at_break = t.behind; at_continue = rest; at_return = t.at_return }

-- the items of a switch (6.8.6.2p2, 6.8.6.3p2): `break` leads behind the switch, `continue` out of it
abbrev pub in_switch : Targets → Targets
in_switch t = record t { at_break = t.behind }

-- 6.8.4.2p5: the labels that a value goes to
abbrev pub is_case : (value : ℕ) → Stmt → Bool
is_case n (case_label m) = m == n
is_case n _ = false

abbrev pub is_default : Stmt → Bool
is_default default_label = true
is_default _ = false

-- so many turns at most
abbrev pub turns : ℕ → (turn : Next → Next) → Next
turns zero turn = λ v w. short
turns (suc n) turn = turn (turns n turn)

-- 6.8.5p4
abbrev pub condition : Expr → Here → (met unmet : Next) → Next
condition e h met unmet = expression e h (λ x. test x met unmet)

-- 6.8.5.3p2: an omitted condition is replaced by one that holds
abbrev pub for_condition : Option Expr → Here → (met unmet : Next) → Next
for_condition None h met unmet = met
for_condition (Some e) h met unmet = condition e h met unmet

abbrev mutual
  pub statement : Stmt → Here → Targets → Next
  -- 6.8.3
  statement (evaluate a) h t = effect a h t.behind
  -- 6.8.2
  statement (block ss) h t = statements ss h t
  -- 6.8.4.1
  statement (branch e a b) h t = condition e h (statement a h t) (statement b h t)
  -- 6.8.4.2p4, p5: it goes on behind the `case` of the value, else behind `default`; where there is neither, none of its items is done
  statement (switch c e ss) h t =
      expression e h (λ x. conversion_then c x (λ y v w. given (as_integer y) (λ n.
      behind_label (is_case n) ss h (in_switch t) (behind_label is_default ss h (in_switch t) t.behind) v w)))
  -- 6.8.1p4: a label doesn't alter the flow of control
  statement (case_label n) h t = t.behind
  statement default_label h t = t.behind
  -- 6.8.5.1: a turn begins with the condition
  statement (while_loop e a) h t = turns h.turns (λ again. condition e h (statement a h (in_loop t again)) t.behind)
  -- 6.8.5.2: a turn begins with the body
  statement (do_loop a e) h t = turns h.turns (λ again. statement a h (in_loop t (condition e h again t.behind)))
  -- 6.8.5.3
  statement (for_loop start e step a) h t =
      effect start h (turns h.turns (λ again. for_condition e h (statement a h (in_loop t (effect step h again))) t.behind))
  -- 6.8.6.3
  statement break h t = t.at_break
  -- 6.8.6.2
  statement continue h t = t.at_continue
  -- 6.8.6.4
  statement (return c e) h t = expression e h (λ x. conversion_then c x (λ y v. t.at_return (Some y)))
  statement return_nothing h t = λ v. t.at_return None

  -- 6.8p3
  pub statements : Stmts → Here → Targets → Next
  statements no_stmts h t = t.behind
  statements (stmt_and s ss) h t = statement s h (record t { behind = statements ss h t })

  -- the statements behind the first label that passes a test, or what is done without such a label
  pub behind_label : (is_label : Stmt → Bool) → Stmts → Here → Targets → (without : Next) → Next
  behind_label is_label no_stmts h t without = without
  behind_label is_label (stmt_and s ss) h t without = if is_label s then statements ss h t else behind_label is_label ss h t without
