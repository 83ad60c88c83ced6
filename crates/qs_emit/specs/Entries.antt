-- How a function is entered, and what follows: on every stack that has the weight of the run.
use Rattle.std.specs.Prelude.{◌≡◌, ℕ, ◌+◌, ◌-◌, ◌*◌, ◌%◌, ◌^◌, ◌<◌, ◌≤◌, nat_lt, min, true, if◌then◌else◌, List, [], ◌∷◌, ◌++◌, length}
use Rattle.std.specs.Prelude.{All, Option, Some, None, slice_get}
use Rattle.qs_base.specs.Parameters.{most_register_arguments, stack_arguments}
use Rattle.qs_memory.specs.Values.{Value}
use Rattle.qs_memory.specs.Memory.{Memory}
use Rattle.qs_memory.specs.Soundness.{IsLive}
use Rattle.qs_events.specs.Events.{Event, Calls, Returns, Takes, TakesEnd, Puts, output_of}
use Rattle.qs_events.specs.Runs.{Left, Ending, has_ended, is_undefined, is_short, events_of, ending_of}
use Rattle.qs_events.specs.Weights.{Costs, weight}
use Rattle.qs_calls.specs.World.{World, RootRun}
use Rattle.qs_machine.specs.State.{State, register, stack_pointer, stack_top}
use Rattle.qs_isa.specs.Registers.{ra, a0}
use Rattle.qs_tac.specs.Holders.{is_saved_register}
use Rattle.qs_tac.specs.Trees.{TacUnitTree}
use Rattle.qs_tac.specs.Units.{tac_run, world_after}
use Rattle.qs_frames.specs.Layout.{argument_at}
use Rattle.qs_emit.specs.Machine.{Watched, goes, base, watched}
use Rattle.qs_emit.specs.Lies.{number_at, AreBytes, StandsFor}
use Rattle.qs_emit.specs.Surroundings.{Surroundings, Lay, ground, HasBlocks}
use Rattle.qs_emit.specs.Relation.{Setup, entry, function_at, around}

-- where an argument is passed: the first eight in a0 and the next registers, and each further one in a word from x2 on, in
-- order (RISC-V ELF psABI, "Integer Calling Convention")
abbrev pub argument_word : State → (i : ℕ) → ℕ
argument_word s i =
    if nat_lt i most_register_arguments then register s (a0 + i)
    else number_at 4 s.memory (stack_pointer s + argument_at (stack_arguments i))

-- the root is entered as a call enters it: arguments in registers and from x2 on, below the top of the stack, the return
-- address in x1, and x2 a multiple of 16; the live blocks of the memory to start from lie in the data, since none is in the
-- stack that is left; all other registers and bytes are any
pub record IsEntry (u : TacUnitTree) (t : Surroundings) (address root : ℕ) (arguments : List Value) (w : World)
    (l : Lay) (m : Watched) : Type 0 where
  pub known : root < length u.functions
  pub pc : m.now.pc ≡ address
  pub return_address : register m.now ra ≡ t.return_to
  pub x2 : stack_pointer m.now ≡ t.room.ceiling
  pub aligned : t.room.ceiling % 16 ≡ 0
  pub low : m.low ≡ stack_pointer m.now
  pub count : length arguments ≡ length (function_at u root).parameters
  pub arguments_in :
      (i : ℕ) (v : Value) → slice_get arguments i ≡ Some v
      → StandsFor w.memory l.address_of v (argument_word m.now i)
  pub arguments_below : stack_pointer m.now + 4 * stack_arguments (length arguments) ≤ stack_top
  pub blocks : HasBlocks t (ground w.memory l m.now.memory) (stack_pointer m.now)
  pub first : t.first ≡ length w.memory
  pub saved :
      (r : ℕ) → is_saved_register r ≡ true → (m.now.registers r ≡ t.root_registers r) × (m.now.registers r < 2 ^ 32)
  pub input : m.now.input ≡ w.input
  pub input_bytes : All (λ byte. byte < 256) w.input
  pub bytes : AreBytes m.now.memory

-- x2 behind these events: a call lowers it by its cost, and its return raises it again
abbrev pub x2_behind : Costs → List Event → (x2 : ℕ) → ℕ
x2_behind costs [] x2 = x2
x2_behind costs (Calls f ∷ trace) x2 = x2_behind costs trace (x2 - costs f)
x2_behind costs (Returns f ∷ trace) x2 = x2_behind costs trace (x2 + costs f)
x2_behind costs (Takes byte ∷ trace) x2 = x2_behind costs trace x2
x2_behind costs (TakesEnd ∷ trace) x2 = x2_behind costs trace x2
x2_behind costs (Puts byte ∷ trace) x2 = x2_behind costs trace x2

-- the output, x2 and the least x2 behind these events
pub record HasSeen (t : Surroundings) (m to : Watched) (trace : List Event) : Type 0 where
  pub output : to.now.output ≡ m.now.output ++ output_of trace
  pub x2 : stack_pointer to.now ≡ x2_behind t.costs trace (stack_pointer m.now)
  pub low : to.low ≡ min m.low (stack_pointer m.now - weight t.costs trace)

-- the machine goes on behind these events, for at least as many steps as the run; where the run then has this world, its
-- live blocks lie in the stack from x2 on and in the data, no byte is of two of them, their bytes hold their cells, a pointer
-- as the address of its target, and the input that is left is the run's
pub record GoesOn (t : Surroundings) (n : ℕ) (m : Watched) (trace : List Event) (w : World) : Type 0 where
  pub steps : ℕ
  pub to : Watched
  pub lay : Lay
  pub enough : n ≤ steps
  pub comes : watched t.image t.room steps m ≡ goes to
  pub seen : HasSeen t m to trace
  pub blocks : HasBlocks t (ground w.memory lay to.now.memory) (stack_pointer to.now)
  pub input : to.now.input ≡ w.input

-- where a result is returned a0 has it
abbrev pub IsResult : Memory → Lay → Option Value → (word : ℕ) → Type 0
IsResult m l None word = Unit {0}
IsResult m l (Some v) word = StandsFor m l.address_of v word

-- the root has returned: pc is the return address, x2 and the saved registers are as at the entry, only blocks of the
-- memory to start from live, they lie where they lay, and the input that is left is the run's
pub record HasReturned (t : Surroundings) (m : Watched) (trace : List Event) (left : Left Value Memory) : Type 0 where
  pub steps : ℕ
  pub to : Watched
  pub lay : Lay
  pub comes : watched t.image t.room steps m ≡ goes to
  pub seen : HasSeen t m to trace
  pub pc : to.now.pc ≡ t.return_to
  pub x2 : stack_pointer to.now ≡ t.room.ceiling
  pub saved : (r : ℕ) → is_saved_register r ≡ true → to.now.registers r ≡ t.root_registers r
  pub result : IsResult left.memory lay left.result (register to.now a0)
  pub only_old : (block : ℕ) → IsLive left.memory block → block < t.first
  pub blocks : HasBlocks t (ground left.memory lay to.now.memory) (stack_pointer to.now)
  pub input : to.now.input ≡ left.input

-- before the run became undefined its events were seen
pub record CameFar (t : Surroundings) (m : Watched) (trace : List Event) : Type 0 where
  pub steps : ℕ
  pub to : Watched
  pub comes : watched t.image t.room steps m ≡ goes to
  pub output : to.now.output ≡ m.now.output ++ output_of trace

abbrev pub ComesTo : Surroundings → (n : ℕ) → Watched → List Event → Ending (Left Value Memory) → World → Type 0
ComesTo t n m trace (has_ended left) w = HasReturned t m trace left
ComesTo t n m trace is_undefined w = CameFar t m trace
ComesTo t n m trace is_short w = GoesOn t n m trace w

-- the run of a root within n steps, where the stack has its weight; this is its world where it goes on
abbrev pub Follows : Surroundings → (n : ℕ) → Watched → RootRun → World → Type 0
Follows t n m run w =
    base t.room + weight t.costs (events_of run) ≤ stack_pointer m.now
    → ComesTo t n m (events_of run) (ending_of run) w

abbrev pub EmittedCodeFollows : Type 0
EmittedCodeFollows =
    (s : Setup) (root : ℕ) (arguments : List Value) (w : World) (l : Lay) (m : Watched) (n : ℕ)
    → IsEntry s.unit (around s) (entry s root) root arguments w l m
    → Follows (around s) n m (tac_run s.unit root arguments w n) (world_after s.unit root arguments w n)
