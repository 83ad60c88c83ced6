-- Values in the range of their types, at every moment of a run.
use Rattle.std.specs.Prelude.{◌≡◌, ℕ, ◌+◌, ◌<◌, ◌≤◌, Bool, true, List, length, All, Option, Some}
use Rattle.std.specs.List.{slice_get}
use Rattle.qs_memory.specs.Values.{Value}
use Rattle.qs_memory.specs.Memory.{Memory}
use Rattle.qs_memory.specs.Soundness.{ComesAfter}
use Rattle.qs_memory.specs.declared.scalar.Scalar.{Scalar}
use Rattle.qs_events.specs.Runs.{has_ended, ending_of, Left}
use Rattle.qs_calls.specs.World.{World, Environment, Return}
use Rattle.qs_calls.specs.Calls.{CallsOf}
use Rattle.qs_calls.specs.Relations.{Relation}
use Rattle.qs_calls.specs.Starts.{result_type_of, IsOf, IsReady, MayStart, IsReturn}
use Rattle.qs_core.specs.Trees.{CoreExprTree, CoreStmts, CoreFunctionTree, CoreUnitTree}
use Rattle.qs_core.specs.Expressions.{Locals, value, type_of}
use Rattle.qs_core.specs.Statements.{Continuation, Continuations, runs_all}
use Rattle.qs_core.specs.Units.{calls_within, core_run, initial_memory}
use Rattle.qs_core.specs.Interfaces.{variable_type, temporary_type, interface_of}
use Rattle.qs_core.specs.Fits.{expr_fits, stmts_fit, unit_fits}

-- ---- moments

-- what has a value has one of its type
pub record VariablesAreOf (m : Memory) (types : ℕ → Option Scalar) (e : Environment) : Type 0 where
  pub each : (x : ℕ) (s : Scalar) (v : Value) → types x ≡ Some s → e x ≡ Some v → IsOf m s v

-- a moment of a call of the function: the value of each variable is in the range of its type, that
-- of each temporary too, and the memory is sound and has the unit's data and the blocks of the call
pub record IsInRange (u : CoreUnitTree) (f : CoreFunctionTree) (l : Locals)
    (w : World) : Type 0 where
  pub variables : VariablesAreOf w.memory (variable_type f) l.variables
  pub temporaries : VariablesAreOf w.memory (temporary_type f) l.temporaries
  pub blocks : l.first_block + length f.blocks ≤ length w.memory
  pub ready : IsReady (interface_of u) w

-- a moment after this memory
pub record IsMoment (u : CoreUnitTree) (f : CoreFunctionTree) (start : Memory) (l : Locals)
    (w : World) : Type 0 where
  pub range : IsInRange u f l w
  pub after : ComesAfter start w.memory

-- ---- relations of what follows at such moments alone

abbrev pub RelatedInRange :
    Relation → CoreUnitTree → CoreFunctionTree → (start : Memory) → Continuation → Continuation
    → Type 0
RelatedInRange R u f start k j =
    (l : Locals) (w : World) → IsMoment u f start l w → R (k l w) (j l w)

abbrev pub ReturnsInRange :
    Relation → CoreUnitTree → (result_type : Option Scalar) → (start : Memory) → Return → Return
    → Type 0
ReturnsInRange R u result_type start k j =
    (result : Option Value) (w : World) → IsReturn (interface_of u) result_type start result w
    → R (k result w) (j result w)

pub record AllInRange (R : Relation) (u : CoreUnitTree) (f : CoreFunctionTree) (start : Memory)
    (k j : Continuations) : Type 0 where
  pub next : RelatedInRange R u f start k.next j.next
  pub on_break : RelatedInRange R u f start k.on_break j.on_break
  pub on_continue : RelatedInRange R u f start k.on_continue j.on_continue
  pub on_return : ReturnsInRange R u f.result_type start k.on_return j.on_return

-- the type of the results of the function with this number
abbrev pub result_type_at : CoreUnitTree → ℕ → Option Scalar
result_type_at u f = result_type_of (slice_get (interface_of u).functions f)

abbrev pub CallsInRange : Relation → CoreUnitTree → CallsOf → CallsOf → Type 0
CallsInRange R u c d =
    (f : ℕ) (arguments : List Value) (k j : Return) (w : World)
    → MayStart (interface_of u) f arguments w
    → ReturnsInRange R u (result_type_at u f) w.memory k j
    → R (c f arguments k w) (d f arguments j w)

-- ---- what is promised

-- the value of an expression has the expression's type
abbrev pub ExpressionsHaveTypes : Type 0
ExpressionsHaveTypes =
    (u : CoreUnitTree) (f : CoreFunctionTree) (e : CoreExprTree) (l : Locals) (w : World)
    (v : Value)
    → expr_fits u f e ≡ true → IsInRange u f l w → value e l w.memory ≡ Some v
    → IsOf w.memory (type_of e) v

-- Every moment that a run comes to is in range: what follows at other moments, and after results of
-- another type, makes no difference to it.
abbrev pub CallsStayInRange : Type 0
CallsStayInRange =
    (u : CoreUnitTree) (turns depth : ℕ) → unit_fits u ≡ true
    → CallsInRange ◌≡◌ u (calls_within u turns depth) (calls_within u turns depth)

abbrev pub BodiesStayInRange : Type 0
BodiesStayInRange =
    (u : CoreUnitTree) (turns depth : ℕ) (f : CoreFunctionTree) (may_break may_continue : Bool)
    (ss : CoreStmts) (start : Memory) (k j : Continuations)
    → unit_fits u ≡ true → stmts_fit u f may_break may_continue ss ≡ true
    → AllInRange ◌≡◌ u f start k j
    → (l : Locals) (w : World) → IsMoment u f start l w
    → runs_all ss (record { turns = turns; calls = calls_within u turns depth }) k l w
    ≡ runs_all ss (record { turns = turns; calls = calls_within u turns depth }) j l w

-- what a run leaves is sound too, so another one may start from it
abbrev pub RunsLeaveSound : Type 0
RunsLeaveSound =
    (u : CoreUnitTree) (root : ℕ) (arguments : List Value) (w : World) (n : ℕ)
    (left : Left Value Memory)
    → unit_fits u ≡ true → MayStart (interface_of u) root arguments w
    → ending_of (core_run u root arguments w n) ≡ has_ended left
    → IsReturn (interface_of u) (result_type_at u root) w.memory left.result
    (record { memory = left.memory; input = left.input })

-- main's initial memory is sound, and its blocks are the unit's data
abbrev pub InitialMemoryIsReady : Type 0
InitialMemoryIsReady =
    (u : CoreUnitTree) (input : List ℕ) → unit_fits u ≡ true → All (λ byte. byte < 256) input
    → IsReady (interface_of u) (record { memory = initial_memory u; input = input })
