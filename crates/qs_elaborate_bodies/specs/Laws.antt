-- What is promised of core: it runs as the source does.
use Rattle.std.specs.Prelude.{◌≡◌, ℕ, Bool, true, false, All, List, [], ◌∷◌, Some}
use Rattle.qs_memory.specs.Values.{Value}
use Rattle.qs_calls.specs.World.{World}
use Rattle.qs_core.specs.Trees.{CoreStmtTree}
use Rattle.qs_core.specs.Units.{core_run}
use Rattle.qs_core.specs.Units as core
use Rattle.qs_meaning.specs.Typed.{Expr, TypedProgram}
use Rattle.qs_meaning.specs.Whole.{AreWhole}
use Rattle.qs_meaning.specs.Runs.{run_of, main_from, main_run}
use Rattle.qs_elaborate_bodies.specs.Acting.{acts}
use Rattle.qs_elaborate_bodies.specs.Parts.{Temporaries}
use Rattle.qs_elaborate_bodies.specs.Expressions.{expression_core}
use Rattle.qs_elaborate_bodies.specs.Names.{FunctionNames}
use Rattle.qs_elaborate_bodies.specs.Units.{unit_core}

abbrev pub has_any : List CoreStmtTree → Bool
has_any [] = false
has_any (s ∷ ss) = true

-- an expression acts exactly where it has statements
abbrev pub ActsExactly : Type 0
ActsExactly = (a : Expr) (ts : Temporaries) → has_any (expression_core a ts).statements ≡ acts a

-- the same result, events, memory and input left, within each bound, for each root, arguments, memory and input
abbrev pub CoreFollows : Type 0
CoreFollows =
    (names : List FunctionNames) (u : TypedProgram) (main root : ℕ) (xs : List Value) (w : World) (n : ℕ)
    → core_run (unit_core names u main) root xs w n ≡ run_of u root xs w n

-- the same of main, from the initial memory, where the cells of the unit's blocks are bytes and whole pointers
abbrev pub MainFollows : Type 0
MainFollows =
    (names : List FunctionNames) (u : TypedProgram) (main : ℕ) (xs : List Value) (input : List ℕ) (n : ℕ)
    → main_from 0 u.functions ≡ Some main → All (λ b. AreWhole b.cells) u.blocks
    → core.main_run (unit_core names u main) xs input n ≡ main_run u xs input n
