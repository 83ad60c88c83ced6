-- Tasks with priorities on one hart and one stack: what happens, one instruction, arrival or return after the other.
--
-- An activation of a task runs the task's function. One that begins stores the context of the one that it interrupts in the
-- 128 bytes below x2, and returns to address 0, where no instruction stands.
use Rattle.std.specs.Prelude.{ℕ, zero, suc, ◌+◌, ◌-◌, ◌*◌, ◌%◌, ◌==◌, ◌&&◌, ◌||◌, nat_lt, nat_le, Bool, true}
use Rattle.std.specs.Prelude.{if◌then◌else◌, List, [], ◌∷◌, ◌++◌, length, drop, Option, Some, None, slice_index_or}
use Rattle.hex.specs.Hex.{encode_lower}
use Rattle.qs_base.specs.Characters.{new_line, space}
use Rattle.qs_isa.specs.Registers.{ra, sp}
use Rattle.qs_image.specs.Image.{Image, FunctionRecord}
use Rattle.qs_machine.specs.declared.answers.Cause.{Cause}
use Rattle.qs_machine.specs.declared.answers.Cause.TheVariants.{Overflow, JumpMisaligned, UnknownCall}
use Rattle.qs_machine.specs.State.{State, with_value, stack_base, stack_top}
use Rattle.qs_machine.specs.Step.{StepResult, Next, Exits, Traps, step}
use Rattle.qs_machine.specs.Run.{start_memory}
use Rattle.qs_tasks_run.specs.Tasks.{Task, Arrival}
use Rattle.qs_tasks_run.specs.Contexts.{Context, stack_pointer_of, context_bytes, stored, taken_back}

-- ---- what runs

pub record System : Type 0 where
  pub image : Image
  -- the bytes of the stack
  pub size : ℕ
  pub tasks : List Task

abbrev pub no_task : Task
no_task = record { function = 0; name = []; priority = 0; input = [] }

abbrev pub task_at : List Task → (task : ℕ) → Task
task_at tasks task = slice_index_or tasks task no_task

abbrev pub no_record : FunctionRecord
no_record = record { name = []; address = 0; cost = 0; parameters = None }

-- where the function of a task begins
abbrev pub entry_of : System → (task : ℕ) → ℕ
entry_of y task = (slice_index_or y.image.functions (task_at y.tasks task).function no_record).address

abbrev pub priority_of : System → (task : ℕ) → ℕ
priority_of y task = (task_at y.tasks task).priority

-- ---- where everything stands

-- an output byte, and the task that put it
pub record Put : Type 0 where
  pub task : ℕ
  pub byte : ℕ

-- what has come about so far
pub record Progress : Type 0 where
  pub memory : ℕ → ℕ
  -- of each task the bytes of the input that are left
  pub inputs : (task : ℕ) → List ℕ
  pub written : List Put
  -- of each task how many activations have returned
  pub returned : (task : ℕ) → ℕ

pub record Scene : Type 0 where
  -- pc and the registers of the hart
  pub context : Context
  pub progress : Progress
  -- the tasks of the activations that run or are interrupted, the running one first
  pub running : List ℕ
  -- the tasks of the arrivals that wait, the earliest first
  pub waiting : List ℕ
  -- the arrivals that are still to come
  pub coming : List Arrival
  -- how many instructions there were
  pub time : ℕ

pub data Outcome : Type 0 where
  going : Scene → Outcome
  trapped : (task : ℕ) (cause : Cause) (pc : ℕ) → Progress → Outcome

abbrev pub and_then : Outcome → (Scene → Outcome) → Outcome
and_then (going s) next = next s
and_then (trapped task cause pc p) next = trapped task cause pc p

-- ---- an activation begins

-- at its function's entry with x1 = 0, the other registers as they stand
abbrev pub entered : System → (task : ℕ) → Context → Context
entered y task c = record {
  pc = entry_of y task;
  registers = with_value (with_value c.registers ra 0) sp (stack_pointer_of c - context_bytes);
}

abbrev pub begun : System → (task : ℕ) → Scene → Scene
begun y task s = record s {
  context = entered y task s.context;
  progress = record s.progress { memory = stored s.context (stack_pointer_of s.context - context_bytes) s.progress.memory };
  running = task ∷ s.running;
}

-- the stack has no room for the context
abbrev pub is_full : System → Scene → Bool
is_full y s = nat_lt (stack_pointer_of s.context) (stack_base y.size + context_bytes)

abbrev pub begin : System → (task : ℕ) → Scene → Outcome
begin y task s = if is_full y s then trapped task Overflow s.context.pc s.progress else going (begun y task s)

-- ---- arrivals

-- the task has a greater priority than the one that runs; where none runs, each comes first
abbrev pub comes_first : System → (task : ℕ) → (running : List ℕ) → Bool
comes_first y task [] = true
comes_first y task (other ∷ running) = nat_lt (priority_of y other) (priority_of y task)

abbrev pub wait : (task : ℕ) → Scene → Scene
wait task s = record s { waiting = s.waiting ++ task ∷ [] }

abbrev pub arrive : System → (task : ℕ) → Scene → Outcome
arrive y task s = if comes_first y task s.running then begin y task s else going (wait task s)

-- ---- returns

-- of arrivals that wait one task, and the others in their order
pub record Choice : Type 0 where
  pub task : ℕ
  pub others : List ℕ

abbrev pub chosen_among : System → (task : ℕ) → (waiting : List ℕ) → Option Choice → Choice
chosen_among y task waiting None = record { task = task; others = waiting }
chosen_among y task waiting (Some c) =
    if nat_lt (priority_of y task) (priority_of y c.task) then record { task = c.task; others = task ∷ c.others }
    else record { task = task; others = waiting }

-- the one of greatest priority, the earliest among equals
abbrev pub choice : System → (waiting : List ℕ) → Option Choice
choice y [] = None
choice y (task ∷ waiting) = Some (chosen_among y task waiting (choice y waiting))

-- it begins where it comes before the activation that goes on
abbrev pub start_waiting : System → Option Choice → Scene → Outcome
start_waiting y None s = going s
start_waiting y (Some c) s =
    if comes_first y c.task s.running then begin y c.task (record s { waiting = c.others }) else going s

abbrev pub one_more : (returned : ℕ → ℕ) → (task : ℕ) → ℕ → ℕ
one_more returned task = with_value returned task (returned task + 1)

-- one more has returned
abbrev pub with_return : (task : ℕ) → Progress → Progress
with_return task p = record p { returned = one_more p.returned task }

-- the one below goes on with this context
abbrev pub left_by : (task : ℕ) → (running : List ℕ) → Context → Scene → Scene
left_by task running c s = record s { context = c; progress = with_return task s.progress; running = running }

-- no context stands between x2 and the top of the stack, or the one that does would leave the stack
abbrev pub is_off_stack : System → Scene → Context → Bool
is_off_stack y s c =
    nat_lt stack_top (stack_pointer_of s.context + context_bytes)
    || (nat_lt (stack_pointer_of c) (stack_base y.size) || nat_lt stack_top (stack_pointer_of c))

abbrev pub give_back : System → (task : ℕ) → (running : List ℕ) → Context → Scene → Outcome
give_back y task running c s =
    if is_off_stack y s c then trapped task Overflow 0 (with_return task s.progress)
    else if c.pc % 4 == 0 then start_waiting y (choice y s.waiting) (left_by task running c s)
    else trapped task JumpMisaligned 0 (with_return task s.progress)

-- pc and x1 to x31 are taken back from the 128 bytes at x2
abbrev pub return_from : System → (task : ℕ) → (running : List ℕ) → Scene → Outcome
return_from y task running s =
    give_back y task running (taken_back s.progress.memory (stack_pointer_of s.context)) s

-- ---- instructions

abbrev pub bytes_by : (task : ℕ) → List Put → List ℕ
bytes_by task [] = []
bytes_by task (put ∷ puts) = if put.task == task then put.byte ∷ bytes_by task puts else bytes_by task puts

abbrev pub puts_by : (task : ℕ) → List ℕ → List Put
puts_by task [] = []
puts_by task (byte ∷ bytes) = record { task = task; byte = byte } ∷ puts_by task bytes

abbrev pub with_input : (inputs : ℕ → List ℕ) → (task : ℕ) → List ℕ → ℕ → List ℕ
with_input inputs task input other = if other == task then input else inputs other

-- the state of the machine as a task sees it: each has an input and an output of its own
abbrev pub seen_by : (task : ℕ) → Context → Progress → State
seen_by task c p = record {
  pc = c.pc;
  registers = c.registers;
  memory = p.memory;
  input = p.inputs task;
  output = bytes_by task p.written;
}

-- the output that is new in the next state
abbrev pub new_output : (s next : State) → List ℕ
new_output s next = drop (length s.output) next.output

abbrev pub progress_behind : (task : ℕ) → (s next : State) → Progress → Progress
progress_behind task s next p = record p {
  memory = next.memory;
  inputs = with_input p.inputs task next.input;
  written = p.written ++ puts_by task (new_output s next);
}

abbrev pub behind : (task : ℕ) → (next : State) → Scene → Scene
behind task next s = record s {
  context = record { pc = next.pc; registers = next.registers };
  progress = progress_behind task (seen_by task s.context s.progress) next s.progress;
  time = s.time + 1;
}

-- a program may exit, a task may not
abbrev pub stepped : (task : ℕ) → Scene → StepResult → Outcome
stepped task s (Next next) = going (behind task next s)
stepped task s (Exits status) = trapped task UnknownCall s.context.pc s.progress
stepped task s (Traps cause) = trapped task cause s.context.pc s.progress

abbrev pub instruct : System → (task : ℕ) → Scene → Outcome
instruct y task s = stepped task s (step y.image y.size (seen_by task s.context s.progress))

-- ---- what comes before an instruction

-- an arrival comes before the first instruction after so many
abbrev pub arrival_due : System → List Arrival → Scene → Option Outcome
arrival_due y [] s = None
arrival_due y (a ∷ coming) s = if nat_le a.at s.time then Some (arrive y a.task (record s { coming = coming })) else None

-- A return comes before an arrival of the same moment. Where no activation runs, the next arrival comes at once.
abbrev pub due_by : System → (running : List ℕ) → (coming : List Arrival) → Scene → Option Outcome
due_by y [] [] s = None
due_by y [] (a ∷ coming) s = Some (arrive y a.task (record s { coming = coming }))
due_by y (task ∷ running) coming s =
    if s.context.pc == 0 then Some (return_from y task running s) else arrival_due y coming s

abbrev pub due : System → Scene → Option Outcome
due y s = due_by y s.running s.coming s

abbrev pub or_here : Option Outcome → Scene → (Scene → Outcome) → Outcome
or_here None s next = going s
or_here (Some outcome) s next = and_then outcome next

-- at most so many returns and arrivals
abbrev pub settled : System → (turns : ℕ) → Scene → Outcome
settled y zero s = going s
settled y (suc turns) s = or_here (due y s) s (settled y turns)

-- as many as there can be: each arrival comes once, begins once and returns once
abbrev pub most_due : Scene → ℕ
most_due s = 3 * length s.coming + 2 * length s.waiting + length s.running

-- whatever comes before the next instruction
abbrev pub settle : System → Scene → Outcome
settle y s = settled y (most_due s) s

-- ---- runs

-- the instruction of the activation that runs
abbrev pub instructed_by : System → (running : List ℕ) → Scene → Outcome
instructed_by y [] s = going s
instructed_by y (task ∷ running) s = instruct y task s

abbrev pub instructed : System → Scene → Outcome
instructed y s = instructed_by y s.running s

-- at most so many instructions; what comes before the next one still happens
abbrev pub run : System → (instructions : ℕ) → Scene → Outcome
run y zero s = settle y s
run y (suc instructions) s = and_then (and_then (settle y s) (instructed y)) (run y instructions)

-- at the start x2 is top, and pc and the other registers are 0
abbrev pub start_context : Context
start_context = record { pc = 0; registers = with_value (λ r. 0) sp stack_top }

abbrev pub start_progress : System → Progress
start_progress y = record {
  memory = start_memory y.image;
  inputs = λ task. (task_at y.tasks task).input;
  written = [];
  returned = λ task. 0;
}

abbrev pub start : System → List Arrival → Scene
start y arrivals = record {
  context = start_context;
  progress = start_progress y;
  running = [];
  waiting = [];
  coming = arrivals;
  time = 0;
}

abbrev pub tasks_run : System → List Arrival → (instructions : ℕ) → Outcome
tasks_run y arrivals instructions = run y instructions (start y arrivals)

-- ---- what is seen of a run

-- no activation runs or waits, and no arrival is left
abbrev pub is_over : Scene → Bool
is_over s = length s.running == 0 && (length s.waiting == 0 && length s.coming == 0)

abbrev pub progress_of : Outcome → Progress
progress_of (going s) = s.progress
progress_of (trapped task cause pc p) = p

-- the line `NAME HH` of an output byte
abbrev pub line_of : System → Put → List ℕ
line_of y put = (task_at y.tasks put.task).name ++ space ∷ (encode_lower (put.byte ∷ []) ++ new_line ∷ [])

abbrev pub lines_of : System → List Put → List ℕ
lines_of y [] = []
lines_of y (put ∷ puts) = line_of y put ++ lines_of y puts
