-- Calls (C11 6.5.2.2, 6.9.1).
use Rattle.std.specs.Prelude.{ℕ, ◌+◌, ◌-◌, ◌%◌, ◌^◌, List, [], ◌∷◌, length, Option, Some}
use Rattle.qs_memory.specs.Values.{into, Value, integer, address}
use Rattle.qs_memory.specs.Memory.{store, make, release}
use Rattle.qs_events.specs.Events.{Calls, Returns, Takes, TakesEnd, Puts}
use Rattle.qs_events.specs.Runs.{emit, undefined, given}
use Rattle.qs_calls.specs.World.{World, with_memory, RootRun, Return, Environment, no_values, with_value}
use Rattle.qs_calls.specs.declared.callee.Callee.{Callee}
use Rattle.qs_calls.specs.declared.callee.Callee.TheVariants.{Function, PutChar, GetChar}
use Rattle.qs_calls.specs.declared.parameter.Parameter.{Parameter}
use Rattle.qs_calls.specs.declared.parameter.Parameter.TheVariants.{Plain, Placed}

-- what calls of functions with a body do
abbrev pub CallsOf : Type 0
CallsOf = (function : ℕ) → (arguments : List Value) → Return → World → RootRun

-- ---- the functions that the environment gives; they have no call and no return among their events

-- 7.21.7.6: the next byte of the input, or -1 at its end
abbrev pub take_byte : (input : List ℕ) → Return → World → RootRun
take_byte [] k w = emit TakesEnd (k (Some (integer (2 ^ 32 - 1))) w)
take_byte (b ∷ input) k w = emit (Takes b) (k (Some (integer b)) (record w { input = input }))

-- 6.5.2.2p6: getchar takes no argument
abbrev pub get_char : (arguments : List Value) → Return → World → RootRun
get_char [] k w = take_byte w.input k w
get_char (v ∷ others) k w = undefined

-- 7.21.7.8 and 7.21.7.3: the byte is put on the output, and returned; putchar takes one `int`
abbrev pub put_char : (arguments : List Value) → Return → World → RootRun
put_char [] k w = undefined
put_char (integer c ∷ []) k w = emit (Puts (c % 256)) (k (Some (integer (c % 256))) w)
put_char (integer c ∷ v ∷ others) k w = undefined
put_char (address p ∷ others) k w = undefined

abbrev pub invoke : Callee → CallsOf → (arguments : List Value) → Return → World → RootRun
invoke (Function f) calls arguments k w = calls f.0 arguments k w
invoke PutChar calls arguments k w = put_char arguments k w
invoke GetChar calls arguments k w = get_char arguments k w

-- ---- functions with a body

-- what a call of a function begins with: where its arguments go, and the sizes of the blocks that
-- it makes, for its parameters and locals whose address is taken or that are no scalars
pub record Frame : Type 0 where
  pub parameters : List Parameter
  pub blocks : List ℕ

-- what follows where the parameters have their values
abbrev pub Entered : Type 0
Entered = Environment → World → RootRun

-- 6.9.1p10: each parameter gets the value of its argument. 6.5.2.2p6: there are as many arguments
-- as parameters
abbrev pub pass :
    List Parameter → (arguments : List Value) → (first_block : ℕ) → Environment → World → Entered
    → RootRun
pass [] [] first e w k = k e w
pass [] (v ∷ arguments) first e w k = undefined
pass (p ∷ parameters) [] first e w k = undefined
pass (Plain x ∷ parameters) (v ∷ arguments) first e w k =
    pass parameters arguments first (with_value e x v) w k
pass (Placed i s ∷ parameters) (v ∷ arguments) first e w k =
    given (store s w.memory (into (first + i) 0) v)
    (λ m. pass parameters arguments first e (with_memory w m) k)

-- what a body does that begins with these variables, where the call's first block has this number
abbrev pub Body : Type 0
Body = (first_block : ℕ) → Return → Environment → World → RootRun

-- a call: its event, its blocks, its arguments, its body; then the event of its return, and its
-- blocks are released. They live as long as the call, where C11 ends their life with the block in
-- which they are declared (6.2.4p6)
abbrev pub activate :
    (function : ℕ) → Frame → Body → (arguments : List Value) → Return → World → RootRun
activate f frame body arguments k w =
    let first = length w.memory in
    emit (Calls f) (pass frame.parameters arguments first no_values
    (with_memory w (make frame.blocks w.memory))
    (body first (λ result u. emit (Returns f) (k result (with_memory u (release first u.memory))))))

-- UNDEFINED 9 (6.9.1p12): the result is used, where the function ended without one
abbrev pub used : Option Value → (Value → RootRun) → RootRun
used = given
