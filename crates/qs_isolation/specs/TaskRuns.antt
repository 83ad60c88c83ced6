-- A task runs on what it touches alone.
use Rattle.std.specs.Prelude.{◌≡◌, ◌↔◌, ℕ, ◌<◌, ◌≤◌, true, false, List, [], length, Some}
use Rattle.std.specs.List.{slice_get}
use Rattle.qs_syntax.specs.Trees.{UnitTree}
use Rattle.qs_calls.specs.World.{World}
use Rattle.qs_meaning.specs.Typed.{TypedProgram}
use Rattle.qs_meaning.specs.Runs.{run_of}
use Rattle.qs_meaning.specs.Units.{file_variables_in, typed_of, initial_memory}
use Rattle.qs_hiding.specs.Hidden.{Reach, hidden_world, IsClosed, IsReach, IsHidden}
use Rattle.qs_isolation.specs.Links.{links_of}
use Rattle.qs_isolation.specs.Touches.{Reaches, Touches}
use Rattle.qs_isolation.specs.Isolation.{AreIsolated}

-- what a task may call and touch: the functions that it can reach, and the variables that it touches. Of what is no function and no variable
-- nothing is taken away: such blocks are texts and those of calls
pub record IsReachOf (unit : UnitTree) (u : TypedProgram) (task : ℕ) (r : Reach) : Type 0 where
  pub functions : (f : ℕ) → f < length u.functions → (r.may_call f ≡ true) ↔ Reaches (links_of unit u) task f
  pub other_functions : (f : ℕ) → length u.functions ≤ f → r.may_call f ≡ true
  pub variables : (x : ℕ) → x < length (file_variables_in unit) → (r.keeps x ≡ true) ↔ Touches (links_of unit u) task x
  pub other_blocks : (b : ℕ) → length (file_variables_in unit) ≤ b → r.keeps b ≡ true

-- so its functions stay in that reach, and no pointer leads out of it at the start
pub record StaysInReach (u : TypedProgram) (r : Reach) : Type 0 where
  pub functions : IsReach r u.functions (length u.blocks)
  pub closed : IsClosed r (initial_memory u)

abbrev pub TasksStayInReach : Type 0
TasksStayInReach =
    (unit : UnitTree) (u : TypedProgram) (task : ℕ) (r : Reach) → typed_of unit ≡ Some u → IsReachOf unit u task r → StaysInReach u r

-- an activation of the task, from a memory in which it may begin, is the same where all variables are hidden that it doesn't touch, and
-- leaves these as they were; so the next may begin in what it leaves
abbrev pub TasksRunAlone : Type 0
TasksRunAlone =
    (unit : UnitTree) (u : TypedProgram) (task : ℕ) (r : Reach) (w : World) (n : ℕ) → typed_of unit ≡ Some u → IsReachOf unit u task r
    → task < length u.functions → IsClosed r w.memory → length u.blocks ≤ length w.memory
    → IsHidden r w.memory (run_of u task [] w n) (run_of u task [] (hidden_world r w) n)

-- of isolated tasks none keeps a variable that another does
abbrev pub IsolatedReachesAreApart : Type 0
IsolatedReachesAreApart =
    (unit : UnitTree) (u : TypedProgram) (tasks : List ℕ) (i j first second x : ℕ) (r q : Reach) → AreIsolated (links_of unit u) tasks
    → i < j → slice_get tasks i ≡ Some first → slice_get tasks j ≡ Some second → IsReachOf unit u first r → IsReachOf unit u second q
    → x < length (file_variables_in unit) → r.keeps x ≡ true → q.keeps x ≡ false
