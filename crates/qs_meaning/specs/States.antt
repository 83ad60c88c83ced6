-- What a run of the source goes through, and what may follow a step of it (C11 5.1.2.3, 6.2.4).
use Rattle.std.specs.Prelude.{ℕ, ◌+◌, Bool, true, false, Option, Some}
use Rattle.qs_memory.specs.declared.scalar.Scalar.{Scalar}
use Rattle.qs_memory.specs.Partial.{◌>>=◌}
use Rattle.qs_memory.specs.Values.{Pointer, into, Value, as_pointer, convert}
use Rattle.qs_memory.specs.Memory.{load, store}
use Rattle.qs_memory.specs.Pointers.{truth}
use Rattle.qs_events.specs.Runs.{given}
use Rattle.qs_calls.specs.World.{World, with_memory, Environment, with_value}
use Rattle.qs_calls.specs.Calls.{CallsOf}
-- what follows in the same call, from its plain variables; one that has no value yet is None (6.2.4p6)
pub use Rattle.qs_calls.specs.Calls.{Entered as Next}
use Rattle.qs_meaning.specs.Typed.{Conversion, unchanged, converted, Object, local, static}

-- what stays the same in a call: how many turns a loop makes at most, the number of the first block of the call, and its calls
pub record Here : Type 0 where
  pub turns : ℕ
  pub first_block : ℕ
  pub calls : CallsOf

-- ---- steps

abbrev pub choose : Bool → Next → Next → Next
choose true met unmet = met
choose false met unmet = unmet

-- 6.8.4.1p2, 6.5.13p3, 6.5.14p3, 6.5.15p4: whether a value compares unequal to 0
abbrev pub test : Value → Next → Next → Next
test x met unmet v w = given (truth w.memory x) (λ b. choose b met unmet v w)

-- 6.3
abbrev pub convert_by : Conversion → Value → Option Value
convert_by unchanged x = Some x
convert_by (converted from to) x = convert to x

abbrev pub conversion_then : Conversion → Value → (Value → Next) → Next
conversion_then c x next v w = given (convert_by c x) (λ y. next y v w)

-- ---- objects

-- the unit's blocks are the first ones of the memory, those of the call stand behind the ones that were there when it began
abbrev pub pointer_at : Object → (first_block : ℕ) → Pointer
pointer_at (local k) first_block = into (first_block + k) 0
pointer_at (static k) first_block = into k 0

-- what an lvalue designates (6.3.2.1p1)
pub data Place : Type 0 where
  in_variable : ℕ → Place
  in_object : (address : Value) → Place

-- UNDEFINED 1 (6.3.2.1p2): a plain variable that has no value
abbrev pub read : Scalar → Place → Environment → World → Option Value
read s (in_variable x) v w = v x
read s (in_object a) v w = as_pointer a >>= load s w.memory

abbrev pub write : Scalar → Place → Value → Next → Next
write s (in_variable x) y next v w = next (with_value v x y) w
write s (in_object a) y next v w = given (as_pointer a >>= λ p. store s w.memory p y) (λ m. next v (with_memory w m))
