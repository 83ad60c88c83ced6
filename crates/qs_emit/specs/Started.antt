-- What an image does from its start: main is called, and its result is the status.
use Rattle.std.specs.Prelude.{◌≡◌, ◌⊎◌, ℕ, ◌+◌, ◌-◌, ◌%◌, ◌^◌, ◌<◌, ◌≤◌, true, List, ◌++◌, length, All, Option, Some, slice_get}
use Rattle.qs_memory.specs.Values.{Value, integer}
use Rattle.qs_memory.specs.Memory.{Memory}
use Rattle.qs_events.specs.Events.{Event, output_of}
use Rattle.qs_events.specs.Runs.{Left, Ending, has_ended, is_undefined, is_short, events_of, ending_of}
use Rattle.qs_events.specs.Weights.{weight}
use Rattle.qs_calls.specs.World.{World, RootRun}
use Rattle.qs_isa.specs.Addresses.{code_start}
use Rattle.qs_isa.specs.Registers.{a0}
use Rattle.qs_machine.specs.declared.answers.Cause.{Cause}
use Rattle.qs_machine.specs.State.{register, stack_pointer}
use Rattle.qs_tac.specs.Holders.{is_saved_register}
use Rattle.qs_tac.specs.Units.{tac_run, world_after}
use Rattle.qs_emit.specs.Machine.{Watched, exits, traps, breaks, base, watched}
use Rattle.qs_emit.specs.Lies.{AreBytes, StandsFor}
use Rattle.qs_emit.specs.Surroundings.{Lay, ground, HasBlocks}
use Rattle.qs_emit.specs.Relation.{Setup, cost, function_at, around}
use Rattle.qs_emit.specs.Entries.{GoesOn, CameFar}

-- the run of main, within n steps
abbrev pub main_run : Setup → List Value → World → (n : ℕ) → RootRun
main_run s arguments w n = tac_run s.unit s.unit.main arguments w n

-- the world that it has there
abbrev pub main_world : Setup → List Value → World → (n : ℕ) → World
main_world s arguments w n = world_after s.unit s.unit.main arguments w n

-- the machine stands at the start of its code, with main's arguments, of which there are at most eight, in a0 and the next
-- registers; the memory to start from is the unit's
pub record IsStart (s : Setup) (arguments : List Value) (w : World) (l : Lay) (m : Watched) : Type 0 where
  pub pc : m.now.pc ≡ code_start
  pub return_to : s.return_to ≡ code_start + 4
  pub x2 : stack_pointer m.now ≡ s.room.ceiling
  pub aligned : s.room.ceiling % 16 ≡ 0
  pub low : m.low ≡ stack_pointer m.now
  pub count : length arguments ≡ length (function_at s.unit s.unit.main).parameters
  pub arguments_in :
      (i : ℕ) (v : Value) → slice_get arguments i ≡ Some v
      → StandsFor w.memory l.address_of v (register m.now (a0 + i))
  pub blocks : HasBlocks (around s) (ground w.memory l m.now.memory) (stack_pointer m.now)
  pub first : s.first ≡ length w.memory
  pub saved :
      (r : ℕ) → is_saved_register r ≡ true → (m.now.registers r ≡ s.root_registers r) × (m.now.registers r < 2 ^ 32)
  pub input : m.now.input ≡ w.input
  pub input_bytes : All (λ byte. byte < 256) w.input
  pub bytes : AreBytes m.now.memory

-- the stack has the weight of the run
abbrev pub HasRoom : Setup → List Value → World → Watched → (n : ℕ) → Type 0
HasRoom s arguments w m n = base s.room + weight (cost s) (events_of (main_run s arguments w n)) ≤ stack_pointer m.now

-- the machine exits behind these events, and its least x2 is x2 at the start less the weight
pub record ExitsBehind (s : Setup) (m : Watched) (trace : List Event) (result : Option Value) : Type 0 where
  pub steps : ℕ
  pub status : ℕ
  pub comes :
      watched s.image s.room steps m
      ≡ exits (m.now.output ++ output_of trace) status (stack_pointer m.now - weight (cost s) trace)
  pub is : (v : ℕ) → result ≡ Some (integer v) → status ≡ v % 256

abbrev pub StartsTo : Setup → (n : ℕ) → Watched → List Event → Ending (Left Value Memory) → World → Type 0
StartsTo s n m trace (has_ended left) w = ExitsBehind s m trace left.result
StartsTo s n m trace is_undefined w = CameFar (around s) m trace
StartsTo s n m trace is_short w = GoesOn (around s) n m trace w

-- an exit is that of the run
pub record IsExitOf (s : Setup) (m : Watched) (run : RootRun) (output : List ℕ) (status low : ℕ) : Type 0 where
  pub left : Left Value Memory
  pub ending : ending_of run ≡ has_ended left
  pub output_is : output ≡ m.now.output ++ output_of (events_of run)
  pub status_is : (v : ℕ) → left.result ≡ Some (integer v) → status ≡ v % 256
  pub low_is : low ≡ stack_pointer m.now - weight (cost s) (events_of run)

-- both ways: the machine goes on, exits and stops as the run does
pub record FollowsFromStart (s : Setup) (arguments : List Value) (w : World) (m : Watched) : Type 0 where
  pub runs :
      (n : ℕ) → HasRoom s arguments w m n
      → StartsTo s n m (events_of (main_run s arguments w n)) (ending_of (main_run s arguments w n)) (main_world s arguments w n)
  pub exits :
      (n : ℕ) (output : List ℕ) (status low : ℕ) → HasRoom s arguments w m n
      → watched s.image s.room n m ≡ exits output status low
      → (ending_of (main_run s arguments w n) ≡ is_undefined) ⊎ IsExitOf s m (main_run s arguments w n) output status low
  pub traps :
      (n : ℕ) (cause : Cause) (pc : ℕ) (output : List ℕ) → HasRoom s arguments w m n
      → watched s.image s.room n m ≡ traps cause pc output → ending_of (main_run s arguments w n) ≡ is_undefined
  pub breaks :
      (n : ℕ) → HasRoom s arguments w m n
      → watched s.image s.room n m ≡ breaks → ending_of (main_run s arguments w n) ≡ is_undefined

abbrev pub EmittedCodeFollowsFromStart : Type 0
EmittedCodeFollowsFromStart =
    (s : Setup) (arguments : List Value) (w : World) (l : Lay) (m : Watched)
    → IsStart s arguments w l m → FollowsFromStart s arguments w m
