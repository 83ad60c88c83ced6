-- Runs of tasks, computed from the definitions.
use Rattle.std.specs.Prelude.{◌≡◌, ℕ, List, [], ◌∷◌, ◌++◌, codes, Option, Some, None, refl, Bool, true, false}
use Rattle.hex.specs.Hex.{encode_with}
use Rattle.qs_isa.specs.Table.{decode_of}
use Rattle.qs_image.specs.Image.{Image}
use Rattle.qs_image.specs.declared.version.Version.TheVariants.{Second}
use Rattle.qs_machine.specs.declared.answers.Cause.{Cause}
use Rattle.qs_machine.specs.declared.answers.Cause.TheVariants.{Overflow, JumpMisaligned, UnknownCall}
use Rattle.qs_tasks_run.specs.Tasks.{Task, Arrival}
use Rattle.qs_tasks_run.specs.Contexts.{byte_of_word, stored, word_at}
use Rattle.qs_tasks_run.specs.TasksRun.{System, Outcome, going, trapped, progress_of, is_over, lines_of, tasks_run}
use Rattle.qs_tasks_run.specs.StackSize.{stack_for}

-- `lo` puts `x`, `hi` puts `B`: li a7, 1; li a0, K; ecall; ret. `out` exits: li a7, 0; ecall. `raise` returns with x2 at the
-- top: addi sp, sp, 128; ret. `odd` writes 1 over the pc of the context: li t0, 1; sw t0, 0(sp); ret. `sink` writes 0 over
-- its x2: sw x0, 8(sp); ret
abbrev image : Image
image = record {
  version = Second;
  entry = 65536;
  parameters = 0;
  unsigned_set = 0;
  functions =
      record { name = codes "lo"; address = 65536; cost = 16; parameters = Some 0 }
      ∷ record { name = codes "hi"; address = 65552; cost = 16; parameters = Some 0 }
      ∷ record { name = codes "out"; address = 65568; cost = 16; parameters = Some 0 }
      ∷ record { name = codes "raise"; address = 65576; cost = 16; parameters = Some 0 }
      ∷ record { name = codes "odd"; address = 65584; cost = 16; parameters = Some 0 }
      ∷ record { name = codes "sink"; address = 65596; cost = 16; parameters = Some 0 }
      ∷ [];
  code =
      0x00100893 ∷ 0x07800513 ∷ 0x00000073 ∷ 0x00008067
      ∷ 0x00100893 ∷ 0x04200513 ∷ 0x00000073 ∷ 0x00008067
      ∷ 0x00000893 ∷ 0x00000073
      ∷ 0x08010113 ∷ 0x00008067
      ∷ 0x00100293 ∷ 0x00512023 ∷ 0x00008067
      ∷ 0x00012423 ∷ 0x00008067 ∷ [];
  bytes = [];
}

abbrev task : (function : ℕ) → (name : List ℕ) → (priority : ℕ) → Task
task function name priority = record { function = function; name = name; priority = priority; input = [] }

abbrev lo : Task
lo = task 0 (codes "lo") 1

abbrev arrival : (at task : ℕ) → Arrival
arrival at task = record { at = at; task = task }

abbrev system : (size : ℕ) → List Task → System
system size tasks = record { image = image; size = size; tasks = tasks }

abbrev has_ended : Outcome → Bool
has_ended (going s) = is_over s
has_ended (trapped task cause pc p) = false

-- ---- a task of greater priority interrupts, one of equal priority waits

abbrev two : System
two = system 256 (lo ∷ task 1 (codes "hi") 2 ∷ [])

abbrev three_arrivals : List Arrival
three_arrivals = arrival 0 0 ∷ arrival 1 1 ∷ arrival 2 1 ∷ []

outputs : lines_of two (progress_of (tasks_run two three_arrivals 12)).written ≡ codes "hi 42\n" ++ codes "hi 42\n" ++ codes "lo 78\n"
unfolding decode_of stored word_at byte_of_word encode_with
outputs = refl

-- after so many instructions nothing is left, and the returns after the last still happen
ends : has_ended (tasks_run two three_arrivals 12) ≡ true
unfolding decode_of stored word_at byte_of_word
ends = refl

goes_on : has_ended (tasks_run two three_arrivals 11) ≡ false
unfolding decode_of stored word_at byte_of_word
goes_on = refl

returned_lo : (progress_of (tasks_run two three_arrivals 12)).returned 0 ≡ 1
unfolding decode_of stored word_at byte_of_word
returned_lo = refl

returned_hi : (progress_of (tasks_run two three_arrivals 12)).returned 1 ≡ 2
unfolding decode_of stored word_at byte_of_word
returned_hi = refl

-- of equal priority, the one that came first goes first
abbrev equals : System
equals = system 256 (lo ∷ task 1 (codes "hi") 1 ∷ [])

outputs_of_equals : lines_of equals (progress_of (tasks_run equals three_arrivals 12)).written ≡ codes "lo 78\n" ++ codes "hi 42\n" ++ codes "hi 42\n"
unfolding decode_of stored word_at byte_of_word encode_with
outputs_of_equals = refl

-- where nobody runs, the next arrival comes at once
late : lines_of two (progress_of (tasks_run two (arrival 1000 0 ∷ []) 4)).written ≡ codes "lo 78\n"
unfolding decode_of stored word_at byte_of_word encode_with
late = refl

-- ---- the stack: a context of 128 bytes for each level

room_for_two : stack_for (record { priority = 1; bound = 0 } ∷ record { priority = 2; bound = 0 } ∷ []) ≡ 256
room_for_two = refl

room_for_equals : stack_for (record { priority = 7; bound = 16 } ∷ record { priority = 7; bound = 48 } ∷ []) ≡ 176
room_for_equals = refl

-- ---- which of those that wait begins

abbrev four : System
four = system 256 (task 1 (codes "a") 3 ∷ task 1 (codes "b") 1 ∷ task 1 (codes "c") 2 ∷ task 1 (codes "d") 2 ∷ [])

-- the greatest priority first, and the earliest of equals
in_order : lines_of four (progress_of (tasks_run four (arrival 0 0 ∷ arrival 1 1 ∷ arrival 2 2 ∷ arrival 3 3 ∷ []) 16)).written ≡ codes "a 42\n" ++ codes "c 42\n" ++ codes "d 42\n" ++ codes "b 42\n"
unfolding decode_of stored word_at byte_of_word encode_with
in_order = refl

-- one that waits doesn't begin before an interrupted one of equal priority goes on
abbrev three : System
three = system 256 (lo ∷ task 1 (codes "top") 3 ∷ task 1 (codes "other") 1 ∷ [])

below_interrupted : lines_of three (progress_of (tasks_run three (arrival 0 0 ∷ arrival 1 1 ∷ arrival 2 2 ∷ []) 12)).written ≡ codes "top 42\n" ++ codes "lo 78\n" ++ codes "other 42\n"
unfolding decode_of stored word_at byte_of_word encode_with
below_interrupted = refl

-- ---- when an arrival comes

-- `lo` puts its byte by its third instruction: behind two it is interrupted, behind three it has put it
behind_two : lines_of two (progress_of (tasks_run two (arrival 0 0 ∷ arrival 2 1 ∷ []) 8)).written ≡ codes "hi 42\n" ++ codes "lo 78\n"
unfolding decode_of stored word_at byte_of_word encode_with
behind_two = refl

behind_three : lines_of two (progress_of (tasks_run two (arrival 0 0 ∷ arrival 3 1 ∷ []) 8)).written ≡ codes "lo 78\n" ++ codes "hi 42\n"
unfolding decode_of stored word_at byte_of_word encode_with
behind_three = refl

-- a return comes before an arrival of the same moment: one level is enough
return_first : has_ended (tasks_run (system 128 (lo ∷ task 1 (codes "hi") 2 ∷ [])) (arrival 0 0 ∷ arrival 4 1 ∷ []) 8) ≡ true
unfolding decode_of stored word_at byte_of_word
return_first = refl

-- ---- traps: the task, the pc and how many of its activations have returned

abbrev trap_of : Outcome → List ℕ
trap_of (going s) = []
trap_of (trapped task cause pc p) = task ∷ pc ∷ p.returned task ∷ []

abbrev cause_of : Outcome → Option Cause
cause_of (going s) = None
cause_of (trapped task cause pc p) = Some cause

-- with a byte less the second level has no room
abbrev full : Outcome
full = tasks_run (system 255 (lo ∷ task 1 (codes "hi") 2 ∷ [])) three_arrivals 12

no_room : cause_of full ≡ Some Overflow
unfolding decode_of stored word_at byte_of_word
no_room = refl

no_room_there : trap_of full ≡ 1 ∷ 65540 ∷ 0 ∷ []
unfolding decode_of stored word_at byte_of_word
no_room_there = refl

-- a task may not exit
abbrev exited : Outcome
exited = tasks_run (system 256 (task 2 (codes "out") 0 ∷ [])) (arrival 0 0 ∷ []) 12

exits : cause_of exited ≡ Some UnknownCall
unfolding decode_of stored word_at byte_of_word
exits = refl

exits_there : trap_of exited ≡ 0 ∷ 65572 ∷ 0 ∷ []
unfolding decode_of stored word_at byte_of_word
exits_there = refl

-- a return with x2 at the top, where no context stands
abbrev raised : Outcome
raised = tasks_run (system 256 (task 3 (codes "raise") 0 ∷ [])) (arrival 0 0 ∷ []) 12

raises : cause_of raised ≡ Some Overflow
unfolding decode_of stored word_at byte_of_word
raises = refl

raises_there : trap_of raised ≡ 0 ∷ 0 ∷ 1 ∷ []
unfolding decode_of stored word_at byte_of_word
raises_there = refl

-- a return to an address that is no multiple of 4: the context's pc was overwritten with 1
abbrev overwritten : Outcome
overwritten = tasks_run (system 256 (task 4 (codes "odd") 0 ∷ [])) (arrival 0 0 ∷ []) 12

is_odd : cause_of overwritten ≡ Some JumpMisaligned
unfolding decode_of stored word_at byte_of_word
is_odd = refl

is_odd_there : trap_of overwritten ≡ 0 ∷ 0 ∷ 1 ∷ []
unfolding decode_of stored word_at byte_of_word
is_odd_there = refl

-- and one to below the stack: its x2 was overwritten with 0
abbrev lowered : Outcome
lowered = tasks_run (system 256 (task 5 (codes "sink") 0 ∷ [])) (arrival 0 0 ∷ []) 12

leaves : cause_of lowered ≡ Some Overflow
unfolding decode_of stored word_at byte_of_word
leaves = refl
