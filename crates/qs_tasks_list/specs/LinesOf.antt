-- Lines and faults in code, seen as the pure ones.
use Rattle.std.specs.Prelude.{◌≡◌, ℕ, List, map, option_map, Option, Result, Ok, Err, IfOk, Vec}
use Rattle.std.specs.declared.alloc.Global.{Global}
use Rattle.qs_base.specs.declared.memory.NoMemory.{NoMemory as NoMemoryFound}
use Rattle.qs_syntax.specs.declared.unit.Unit.{Unit as SourceUnit}
use Rattle.qs_syntax.specs.UnitTrees.{unit_tree}
use Rattle.qs_tasks_list.specs.declared.lines.Line.{Line as DeclaredLine}
use Rattle.qs_tasks_list.specs.declared.lines.Line.TheVariants as lines
use Rattle.qs_tasks_list.specs.declared.placed.Placed.{Placed as DeclaredPlaced}
use Rattle.qs_tasks_list.specs.declared.placed.Counts.{Counts as DeclaredCounts}
use Rattle.qs_tasks_list.specs.declared.listing.Said.{Said as DeclaredSaid}
use Rattle.qs_tasks_list.specs.declared.fault.TasksFault.{TasksFault}
use Rattle.qs_tasks_list.specs.declared.fault.TasksFault.TheVariants.{NoMemory, BadLine, NoFunction, Twice, NoTask, Order}
use Rattle.qs_tasks_run.specs.declared.tasks.Task.{Task as DeclaredTask}
use Rattle.qs_tasks_run.specs.declared.tasks.Arrival.{Arrival as DeclaredArrival}
use Rattle.qs_tasks_run.specs.Tasks.{task_of, arrival_of}
use Rattle.qs_tasks_list.specs.Lines.{Line, task_line, arrival_line}
use Rattle.qs_tasks_list.specs.Listing.{Placed, Counts, Lines, all_lines, bad_at, Said, Listing, listed, faulty, said_by}
use Rattle.qs_tasks_list.specs.Listing.{bad_line, no_function, twice, no_task, out_of_order}

abbrev pub bytes_of : Vec ℕ Global → List ℕ
bytes_of v = v.items

abbrev pub line_tree : DeclaredLine → Line
line_tree (lines.Task name priority input) = task_line name priority (bytes_of input)
line_tree (lines.Arrival at name) = arrival_line at name

-- this line was made, or none; memory may have been wanting
abbrev pub MakesLine : Option Line → Result (Option DeclaredLine) NoMemoryFound → Type 0
MakesLine line result = IfOk result (λ made. option_map line_tree made ≡ line)

abbrev pub placed_tree : DeclaredPlaced → Placed
placed_tree p = record { at = p.at; line = line_tree p.line }

abbrev pub counts_tree : DeclaredCounts → Counts
counts_tree c = record { tasks = c.tasks; arrivals = c.arrivals }

abbrev pub said_tree : DeclaredSaid → Said
said_tree s = record {
  tasks = map task_of s.tasks.items;
  arrivals = map arrival_of s.arrivals.items;
  last = s.last;
}

-- memory was wanting, or the lines are bad there
abbrev pub IsLinesFault : Lines → TasksFault → Type 0
IsLinesFault ls NoMemory = Unit {0}
IsLinesFault ls (BadLine at) = ls ≡ bad_at at
IsLinesFault ls (NoFunction at) = ⊥
IsLinesFault ls (Twice at) = ⊥
IsLinesFault ls (NoTask at) = ⊥
IsLinesFault ls (Order at) = ⊥

-- these are all lines, or this is the fault of the first bad one
abbrev pub ReadsLines : Lines → Result (Vec DeclaredPlaced Global) TasksFault → Type 0
ReadsLines ls (Ok ps) = ls ≡ all_lines (map placed_tree ps.items)
ReadsLines ls (Err fault) = IsLinesFault ls fault

-- memory was wanting, or this is the first fault of the list
abbrev pub IsListFault : Listing → TasksFault → Type 0
IsListFault l NoMemory = Unit {0}
IsListFault l (BadLine at) = l ≡ faulty (bad_line at)
IsListFault l (NoFunction at) = l ≡ faulty (no_function at)
IsListFault l (Twice at) = l ≡ faulty (twice at)
IsListFault l (NoTask at) = l ≡ faulty (no_task at)
IsListFault l (Order at) = l ≡ faulty (out_of_order at)

-- what a list says has become what the line at this place adds, or this is the fault of the line
abbrev pub Adds : SourceUnit → (old new : DeclaredSaid) → (place : ℕ) → Line → Result Unit TasksFault → Type 0
Adds unit old new place line (Ok t) = said_by (unit_tree unit) (said_tree old) place line ≡ listed (said_tree new)
Adds unit old new place line (Err fault) = IsListFault (said_by (unit_tree unit) (said_tree old) place line) fault

-- the list has no fault, and says these tasks and arrivals
pub record SaysAll (l : Listing) (tasks : List DeclaredTask) (arrivals : List DeclaredArrival) : Type 0 where
  pub said : Said
  pub listed_is : l ≡ listed said
  pub tasks_are : said.tasks ≡ map task_of tasks
  pub arrivals_are : said.arrivals ≡ map arrival_of arrivals
