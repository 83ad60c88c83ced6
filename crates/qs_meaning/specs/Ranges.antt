-- Values of their types, at every moment of a run of a unit whose tree fits.
use Rattle.std.specs.Prelude.{◌≡◌, ℕ, ◌+◌, ◌<◌, All, ◌≤◌, true, List, length, Option, Some}
use Rattle.std.specs.List.{slice_get}
use Rattle.qs_syntax.specs.Trees.{UnitTree}
use Rattle.qs_memory.specs.Values.{Value}
use Rattle.qs_memory.specs.Memory.{Memory}
use Rattle.qs_memory.specs.Soundness.{ComesAfter}
use Rattle.qs_memory.specs.declared.scalar.Scalar.{Scalar}
use Rattle.qs_events.specs.Runs.{has_ended, ending_of, Left}
use Rattle.qs_calls.specs.World.{World, Environment, Return}
use Rattle.qs_calls.specs.Calls.{CallsOf}
use Rattle.qs_calls.specs.Relations.{Relation}
use Rattle.qs_calls.specs.Starts.{Interface, result_type_of, IsOf, IsReady, MayStart, IsReturn}
use Rattle.qs_meaning.specs.Typed.{Expr, Function, Stmts, TypedProgram}
use Rattle.qs_meaning.specs.Interfaces.{interface_of}
use Rattle.qs_meaning.specs.Fits.{type_of, expr_fits, stmts_fit, program_fits}
use Rattle.qs_meaning.specs.States.{Next, Here}
use Rattle.qs_meaning.specs.Meaning.{Targets, expression, statements}
use Rattle.qs_meaning.specs.Runs.{calls_within, run_of, start_world}
use Rattle.qs_meaning.specs.Units.{typed_of}
use Rattle.qs_meaning.specs.InitialLaws.{texts_are_bytes}

-- ---- moments

-- each variable that has a value has one of its type
pub record VariablesAreOf (m : Memory) (types : List Scalar) (v : Environment) : Type 0 where
  pub each : (x : ℕ) (s : Scalar) (y : Value) → slice_get types x ≡ Some s → v x ≡ Some y → IsOf m s y

-- a moment of a call of the function, whose first block has this number: the variables have values of their types, and the memory is
-- sound and has the unit's blocks and those of the call
pub record IsInRange (i : Interface) (g : Function) (first : ℕ) (v : Environment) (w : World) : Type 0 where
  pub variables : VariablesAreOf w.memory g.variables v
  pub blocks : first + length g.blocks ≤ length w.memory
  pub ready : IsReady i w

-- a moment after this memory
pub record IsMoment (i : Interface) (g : Function) (first : ℕ) (start : Memory) (v : Environment) (w : World) : Type 0 where
  pub range : IsInRange i g first v w
  pub after : ComesAfter start w.memory

-- ---- what follows at such moments alone

abbrev pub NextInRange : Relation → Interface → Function → (first : ℕ) → (start : Memory) → Next → Next → Type 0
NextInRange R i g first start k j = (v : Environment) (w : World) → IsMoment i g first start v w → R (k v w) (j v w)

-- behind a value of this type
abbrev pub ValueInRange : Relation → Interface → Function → (first : ℕ) → (start : Memory) → Scalar → (k j : Value → Next) → Type 0
ValueInRange R i g first start s k j =
    (x : Value) (v : Environment) (w : World) → IsMoment i g first start v w → IsOf w.memory s x → R (k x v w) (j x v w)

abbrev pub ReturnsInRange : Relation → Interface → (result : Option Scalar) → (start : Memory) → Return → Return → Type 0
ReturnsInRange R i result start k j = (x : Option Value) (w : World) → IsReturn i result start x w → R (k x w) (j x w)

pub record TargetsInRange (R : Relation) (i : Interface) (g : Function) (first : ℕ) (start : Memory) (t u : Targets) : Type 0 where
  pub behind : NextInRange R i g first start t.behind u.behind
  pub at_break : NextInRange R i g first start t.at_break u.at_break
  pub at_continue : NextInRange R i g first start t.at_continue u.at_continue
  pub at_return : ReturnsInRange R i g.result start t.at_return u.at_return

-- the type of the results of the function with this number
abbrev pub result_at : Interface → ℕ → Option Scalar
result_at i f = result_type_of (slice_get i.functions f)

abbrev pub CallsInRange : Relation → Interface → CallsOf → CallsOf → Type 0
CallsInRange R i c d =
    (f : ℕ) (xs : List Value) (k j : Return) (w : World) → MayStart i f xs w → ReturnsInRange R i (result_at i f) w.memory k j
    → R (c f xs k w) (d f xs j w)

-- ---- what is promised

-- in a call of a function, whose first block has this number
abbrev pub in_call : TypedProgram → (turns depth first : ℕ) → Here
in_call u turns depth first = record { turns = turns; first_block = first; calls = calls_within u.functions turns depth }

-- the values that an expression has are of its type: what would follow others makes no difference to a run
abbrev pub ExpressionsHaveTypes : Type 0
ExpressionsHaveTypes =
    (u : TypedProgram) (turns depth first : ℕ) (g : Function) (e : Expr) (start : Memory) (k j : Value → Next)
    → program_fits u ≡ true → expr_fits (interface_of u) g e ≡ true → ValueInRange ◌≡◌ (interface_of u) g first start (type_of e) k j
    → NextInRange ◌≡◌ (interface_of u) g first start (expression e (in_call u turns depth first) k) (expression e (in_call u turns depth first) j)

-- at every moment that a run comes to variables have values of their types and the memory is sound: what would follow at others, and
-- after results of another type, makes no difference to it
abbrev pub CallsStayInRange : Type 0
CallsStayInRange =
    (u : TypedProgram) (turns depth : ℕ) → program_fits u ≡ true
    → CallsInRange ◌≡◌ (interface_of u) (calls_within u.functions turns depth) (calls_within u.functions turns depth)

abbrev pub BodiesStayInRange : Type 0
BodiesStayInRange =
    (u : TypedProgram) (turns depth first : ℕ) (g : Function) (ss : Stmts) (start : Memory) (t r : Targets)
    → program_fits u ≡ true → stmts_fit (interface_of u) g true true ss ≡ true → TargetsInRange ◌≡◌ (interface_of u) g first start t r
    → NextInRange ◌≡◌ (interface_of u) g first start (statements ss (in_call u turns depth first) t) (statements ss (in_call u turns depth first) r)

-- what a run leaves is sound too, so another one may start from it
abbrev pub RunsLeaveSound : Type 0
RunsLeaveSound =
    (u : TypedProgram) (root : ℕ) (xs : List Value) (w : World) (n : ℕ) (left : Left Value Memory)
    → program_fits u ≡ true → MayStart (interface_of u) root xs w → ending_of (run_of u root xs w n) ≡ has_ended left
    → IsReturn (interface_of u) (result_at (interface_of u) root) w.memory left.result (record { memory = left.memory; input = left.input })

-- the memory in which a run of main begins is such a memory
abbrev pub InitialMemoryIsReady : Type 0
InitialMemoryIsReady =
    (unit : UnitTree) (u : TypedProgram) (input : List ℕ) → texts_are_bytes unit ≡ true → typed_of unit ≡ Some u
    → All (λ byte. byte < 256) input → IsReady (interface_of u) (start_world u input)
