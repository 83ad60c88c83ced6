-- A list of tasks and arrivals: what it says, or the first fault in it.
use Rattle.std.specs.Prelude.{ℕ, ◌+◌, ◌==◌, ◌&&◌, not, nat_lt, if◌then◌else◌, Bool}
use Rattle.std.specs.Prelude.{List, [], ◌∷◌, ◌++◌, length, Option, Some, None}
use Rattle.std.specs.List.{slice_split}
use Rattle.qs_base.specs.Bytes.{same_bytes}
use Rattle.qs_base.specs.Characters.{new_line}
use Rattle.qs_syntax.specs.Trees.{structure, forward, typedef, function, variables, DeclTree, UnitTree, FunctionTree, Stmts}
use Rattle.qs_types.specs.GivenFunctions.{main_name}
use Rattle.qs_tasks_run.specs.Tasks.{Task, Arrival}
use Rattle.qs_tasks_list.specs.Lines.{Line, task_line, arrival_line, line_of}

-- ---- functions

abbrev pub defined_by : FunctionTree → (body : Option Stmts) → Option FunctionTree
defined_by f None = None
defined_by f (Some body) = Some f

-- the function that a declaration defines: one with a body
abbrev pub defined_of : DeclTree → Option FunctionTree
defined_of (structure d) = None
defined_of (forward d) = None
defined_of (typedef d) = None
defined_of (function f) = defined_by f f.body
defined_of (variables d) = None

abbrev pub before : Option FunctionTree → List FunctionTree → List FunctionTree
before None fs = fs
before (Some f) fs = f ∷ fs

-- the functions with a body, in the order of their definitions
abbrev pub defined_in : UnitTree → List FunctionTree
defined_in [] = []
defined_in (d ∷ ds) = before (defined_of d) (defined_in ds)

-- one that a task may have: without parameters, and not main
abbrev pub may_be_task : FunctionTree → Bool
may_be_task f = length f.parameters == 0 && not (same_bytes f.name main_name)

-- the number of the function of this name, if it may be a task's; those here have numbers from this one on
abbrev pub function_from : (number : ℕ) → (name : List ℕ) → List FunctionTree → Option ℕ
function_from number name [] = None
function_from number name (f ∷ fs) =
    if same_bytes f.name name && may_be_task f then Some number else function_from (number + 1) name fs

abbrev pub task_function : UnitTree → (name : List ℕ) → Option ℕ
task_function unit name = function_from 0 name (defined_in unit)

-- ---- faults

-- each stands at the first byte of its line
pub data Fault : Type 0 where
  -- the line isn't of the form that may stand there, or is one too many
  bad_line : (at : ℕ) → Fault
  no_function : (at : ℕ) → Fault
  twice : (at : ℕ) → Fault
  no_task : (at : ℕ) → Fault
  out_of_order : (at : ℕ) → Fault

-- ---- lines

-- a line that has its form, and where it begins
pub record Placed : Type 0 where
  pub at : ℕ
  pub line : Line

-- how many lines of tasks and of arrivals there were
pub record Counts : Type 0 where
  pub tasks : ℕ
  pub arrivals : ℕ

abbrev pub most_tasks : ℕ
most_tasks = 64

abbrev pub most_arrivals : ℕ
most_arrivals = 10000

-- first 1 to 64 tasks, then up to 10,000 arrivals
abbrev pub may_follow : Counts → Line → Bool
may_follow c (task_line name priority input) = c.arrivals == 0 && nat_lt c.tasks most_tasks
may_follow c (arrival_line at name) = nat_lt 0 c.tasks && nat_lt c.arrivals most_arrivals

abbrev pub counted : Counts → Line → Counts
counted c (task_line name priority input) = record c { tasks = c.tasks + 1 }
counted c (arrival_line at name) = record c { arrivals = c.arrivals + 1 }

-- all lines, or where the first bad one begins
pub data Lines : Type 0 where
  all_lines : List Placed → Lines
  bad_at : (at : ℕ) → Lines

abbrev pub behind : Placed → Lines → Lines
behind p (all_lines ps) = all_lines (p ∷ ps)
behind p (bad_at at) = bad_at at

-- each line ends with a new line, so that behind the last of these nothing stands; a list has some line
abbrev pub ends : Counts → (at : ℕ) → (rest : List ℕ) → Lines
ends c at rest = if length rest == 0 && nat_lt 0 c.tasks then all_lines [] else bad_at at

abbrev pub where_follows : Counts → (at : ℕ) → Option Line → (next : Counts → Lines) → Lines
where_follows c at None next = bad_at at
where_follows c at (Some line) next =
    if may_follow c line then behind (record { at = at; line = line }) (next (counted c line)) else bad_at at

-- the lines of a text from this byte on, given by what stands between its new lines
abbrev pub lines_from : Counts → (at : ℕ) → List (List ℕ) → Lines
lines_from c at [] = all_lines []
lines_from c at (rest ∷ []) = ends c at rest
lines_from c at (line ∷ next ∷ pieces) =
    where_follows c at (line_of line) (λ d. lines_from d (at + length line + 1) (next ∷ pieces))

abbrev pub pieces_of : (text : List ℕ) → List (List ℕ)
pieces_of text = slice_split (λ byte. byte == new_line) text

abbrev pub no_lines : Counts
no_lines = record { tasks = 0; arrivals = 0 }

abbrev pub lines_of : (text : List ℕ) → Lines
lines_of text = lines_from no_lines 0 (pieces_of text)

-- ---- tasks and arrivals

-- what a list says so far; `last` is when the last arrival comes
pub record Said : Type 0 where
  pub tasks : List Task
  pub arrivals : List Arrival
  pub last : ℕ

pub data Listing : Type 0 where
  listed : Said → Listing
  faulty : (fault : Fault) → Listing

-- the number of the task of this name, those here having numbers from this one on
abbrev pub number_among : (number : ℕ) → (name : List ℕ) → List Task → Option ℕ
number_among number name [] = None
number_among number name (t ∷ ts) = if same_bytes t.name name then Some number else number_among (number + 1) name ts

abbrev pub with_task : Said → Task → Said
with_task said task = record said { tasks = said.tasks ++ task ∷ [] }

abbrev pub with_arrival : Said → Arrival → Said
with_arrival said arrival = record said { arrivals = said.arrivals ++ arrival ∷ []; last = arrival.at }

-- a task's function is there, and its name is new; the line begins at `place`
abbrev pub where_new :
    Said → (place : ℕ) → (name : List ℕ) → (priority : ℕ) → (input : List ℕ) → (function known : Option ℕ) → Listing
where_new said place name priority input None known = faulty (no_function place)
where_new said place name priority input (Some number) (Some other) = faulty (twice place)
where_new said place name priority input (Some number) None =
    listed (with_task said (record { function = number; name = name; priority = priority; input = input }))

-- an arrival's task is there, and it comes no earlier than the one before
abbrev pub where_known : Said → (place : ℕ) → (at : ℕ) → (task : Option ℕ) → Listing
where_known said place at None = faulty (no_task place)
where_known said place at (Some task) =
    if nat_lt at said.last then faulty (out_of_order place) else listed (with_arrival said (record { at = at; task = task }))

abbrev pub said_by : UnitTree → Said → (place : ℕ) → Line → Listing
said_by unit said place (task_line name priority input) =
    where_new said place name priority input (task_function unit name) (number_among 0 name said.tasks)
said_by unit said place (arrival_line at name) = where_known said place at (number_among 0 name said.tasks)

abbrev pub and_then : Listing → (Said → Listing) → Listing
and_then (listed said) next = next said
and_then (faulty fault) next = faulty fault

abbrev pub said_from : UnitTree → Said → List Placed → Listing
said_from unit said [] = listed said
said_from unit said (p ∷ ps) = and_then (said_by unit said p.at p.line) (λ more. said_from unit more ps)

abbrev pub nothing_said : Said
nothing_said = record { tasks = []; arrivals = []; last = 0 }

-- a bad line comes before any other fault
abbrev pub listing_of_lines : UnitTree → Lines → Listing
listing_of_lines unit (all_lines ps) = said_from unit nothing_said ps
listing_of_lines unit (bad_at at) = faulty (bad_line at)

abbrev pub listing_of : UnitTree → (text : List ℕ) → Listing
listing_of unit text = listing_of_lines unit (lines_of text)
