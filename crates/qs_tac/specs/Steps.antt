-- What linear code does, step by step; the activations that wait for calls stand on a stack.
use Rattle.std.specs.Prelude.{ℕ, zero, suc, ◌+◌, if◌then◌else◌, List, [], ◌∷◌, Option, Some, None}
use Rattle.std.specs.List.{slice_get}
use Rattle.qs_memory.specs.Partial.{◌>>=◌}
use Rattle.qs_memory.specs.Values as values
use Rattle.qs_memory.specs.Values.{Value, address}
use Rattle.qs_memory.specs.Memory as memory
use Rattle.qs_memory.specs.Memory.{Memory, release}
use Rattle.qs_memory.specs.Operations.{apply_unary, apply_binary}
use Rattle.qs_events.specs.Events.{Returns}
use Rattle.qs_events.specs.Runs.{emit, undefined, short, given}
use Rattle.qs_calls.specs.World.{World, with_memory, RootRun, Return, leaves}
use Rattle.qs_calls.specs.Calls.{CallsOf, invoke, Frame, Body, activate, used}
use Rattle.qs_tac.specs.Trees.{InstructionTree, move, unary, binary, convert, address_of, load, store}
use Rattle.qs_tac.specs.Trees.{copy, fill, call, jump, branch, return, TacFunctionTree, TacUnitTree}
use Rattle.qs_tac.specs.Holders.{Holder}
use Rattle.qs_tac.specs.Values.{Activation, operand, operands, pointer, holds}

-- one that waits for a call that it made, and the temporary that takes the result
pub record Waiting (S : Type 0) : Type 0 where
  pub activation : Activation S
  pub taken_by : Option ℕ

-- what follows a step
abbrev pub Next : Type 0 → Type 0
Next S = Activation S → World → (stack : List (Waiting S)) → RootRun

-- ---- within a function

abbrev pub going_to : {S : Type 0} → (index : ℕ) → Activation S → Activation S
going_to index a = record a { at = index }

abbrev pub onward : {S : Type 0} → Activation S → Activation S
onward a = going_to (a.at + 1) a

abbrev pub written : {S : Type 0} → Holder S → (x : ℕ) → Value → Activation S → Activation S
written h x v a = record a { held = h.write a.function a.held x v }

-- goes on with a value in a temporary
abbrev pub gives : {S : Type 0} → Holder S → Next S → (x : ℕ) → Option Value → Next S
gives h next x o a w stack = given o (λ v. next (onward (written h x v a)) w stack)

-- goes on with another memory
abbrev pub leaves_memory : {S : Type 0} → Next S → Option Memory → Next S
leaves_memory next o a w stack = given o (λ m. next (onward a) (with_memory w m) stack)

-- ---- calls (6.5.2.2)

-- where a call's result goes
abbrev pub take_result :
    {S : Type 0} → Holder S → Next S → Option ℕ → Activation S → (stack : List (Waiting S)) → Return
take_result h next None a stack result w = next a w stack
take_result h next (Some x) a stack result w = used result (λ v. next (written h x v a) w stack)

-- where a function has ended the one that called it goes on
abbrev pub resume : {S : Type 0} → Holder S → Next S → (stack : List (Waiting S)) → Return
resume h next [] result w = leaves result w
resume h next (c ∷ stack) result w = take_result h next c.taken_by c.activation stack result w

-- a function begins; what it returns to stands on the stack
abbrev pub begins : {S : Type 0} → Holder S → Next S → (stack : List (Waiting S)) → (function : ℕ) → Body
begins h next stack f first k e w =
    next (record { function = f; at = 0; first_block = first; held = h.enter f e }) w stack

abbrev pub frame_of : TacFunctionTree → Frame
frame_of f = record { parameters = f.parameters; blocks = f.blocks }

-- a number that no function has can't be called
abbrev pub enters : {S : Type 0} → Holder S → TacUnitTree → Next S → (stack : List (Waiting S)) → CallsOf
enters h u next stack f arguments k w =
    given (slice_get u.functions f)
    (λ g. activate f (frame_of g) (begins h next stack f) arguments k w)

-- a function ends, as a call does: its event, its blocks are released, and then its result goes on
abbrev pub ends : {S : Type 0} → Holder S → Next S → Activation S → (stack : List (Waiting S)) → Return
ends h next a stack result w =
    emit (Returns a.function)
    (resume h next stack result (with_memory w (release a.first_block w.memory)))

-- what waits for a call goes on behind it, with what the call leaves of its values
abbrev pub waits : {S : Type 0} → Holder S → Activation S → Activation S
waits h a = onward (record a { held = h.keep a.held })

-- ---- steps

abbrev pub step : {S : Type 0} → Holder S → TacUnitTree → Option InstructionTree → Next S → Next S
step h u None next a w stack = undefined
step h u (Some (move x o)) next a w stack = gives h next x (operand h o a) a w stack
step h u (Some (unary op x o)) next a w stack =
    gives h next x (operand h o a >>= λ v. apply_unary op w.memory v) a w stack
step h u (Some (binary op x o p)) next a w stack =
    gives h next x (operand h o a >>= λ v. operand h p a >>= λ y. apply_binary op w.memory v y) a w stack
step h u (Some (convert s x o)) next a w stack =
    gives h next x (operand h o a >>= λ v. values.convert s v) a w stack
step h u (Some (address_of x p)) next a w stack =
    gives h next x (pointer h p a w.memory >>= λ q. Some (address q)) a w stack
step h u (Some (load s x p)) next a w stack =
    gives h next x (pointer h p a w.memory >>= λ q. memory.load s w.memory q) a w stack
step h u (Some (store s p o)) next a w stack =
    leaves_memory next
    (pointer h p a w.memory >>= λ q. operand h o a >>= λ v. memory.store s w.memory q v) a w stack
step h u (Some (copy size alignment p q)) next a w stack =
    leaves_memory next
    (pointer h p a w.memory >>= λ to. pointer h q a w.memory >>= λ from. memory.copy size alignment w.memory to from)
    a w stack
step h u (Some (fill blank p)) next a w stack =
    leaves_memory next (pointer h p a w.memory >>= λ q. memory.fill blank w.memory q) a w stack
step h u (Some (call x f arguments)) next a w stack =
    given (operands h arguments a)
    (λ vs. invoke f (enters h u next (record { activation = waits h a; taken_by = x } ∷ stack)) vs
    (take_result h next x (waits h a) stack) w)
step h u (Some (jump to)) next a w stack = next (going_to to a) w stack
step h u (Some (branch c to)) next a w stack =
    given (holds h c a w.memory) (λ yes. next (going_to (if yes then to else (a.at + 1)) a) w stack)
step h u (Some (return None)) next a w stack = ends h next a stack None w
step h u (Some (return (Some o))) next a w stack = given (operand h o a) (λ v. ends h next a stack (Some v) w)

-- code has no instruction behind its end
abbrev pub instruction_at : {S : Type 0} → TacUnitTree → Activation S → Option InstructionTree
instruction_at u a = slice_get u.functions a.function >>= λ f. slice_get f.code a.at

-- at most so many steps
abbrev pub steps : {S : Type 0} → Holder S → TacUnitTree → ℕ → Next S
steps h u zero a w stack = short
steps h u (suc m) a w stack = step h u (instruction_at u a) (steps h u m) a w stack
