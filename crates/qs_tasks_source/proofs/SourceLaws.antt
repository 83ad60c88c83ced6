-- What a source is and its core and its linear code are: they run as the source, from the same memory.
use Rattle.std.proofs.Common.{◌≡◌, ◌∙◌, ℕ, zero, suc, ◌<◌, true, List, [], ◌∷◌, length, map, Option, Some, sym, ap, subst, arith}
use Rattle.std.specs.Prelude.{slice_index_or}
use Rattle.std.specs.List.{slice_get}
use Rattle.std.proofs.lemmas.List.{length-map}
use Rattle.std.proofs.lemmas.Option.{same_Some, slice_get_within}
use Rattle.qs_syntax.specs.Trees.{UnitTree}
use Rattle.qs_memory.specs.Partial.{◌>>=◌}
use Rattle.qs_memory.specs.Values.{Value}
use Rattle.qs_memory.proofs.Options.{followed}
use Rattle.qs_calls.specs.World.{World}
use Rattle.qs_meaning.specs.Typed.{TypedProgram}
use Rattle.qs_meaning.specs.Units.{typed_of, initial_memory}
use Rattle.qs_meaning.specs.Runs.{main_from, run_of}
use Rattle.qs_meaning.proofs.FitBlocks.{typed_data_is_whole}
use Rattle.qs_meaning.proofs.FitReadings.{read_is_as_read}
use Rattle.qs_core.specs.Trees.{CoreFunctionTree, CoreUnitTree, DataBlockTree}
use Rattle.qs_core.specs.Units.{core_run, data_block}
use Rattle.qs_core.specs.Units as core
use Rattle.qs_core.specs.Fits.{unit_fits}
use Rattle.qs_elaborate_bodies.specs.Data.{data_core}
use Rattle.qs_elaborate_bodies.specs.Names.{names_in}
use Rattle.qs_elaborate_bodies.specs.Units.{unit_core, core_of}
use Rattle.qs_elaborate_laws.proofs.Data.{memory_kept}
use Rattle.qs_elaborate_laws.proofs.FitCore.{units_have_cores}
use Rattle.qs_lower.specs.Units.{parameter_places, straight_function, lower_functions}
use Rattle.qs_lower_expressions.specs.Threads.{threaded_function}
use Rattle.qs_emit.specs.Relation.{no_function, function_at}
use Rattle.qs_compile.specs.Units.{linear}
use Rattle.qs_tasks_source.specs.Safe.{Source, IsBuilt}

-- ---- the core

data_is : (unit : UnitTree) (u : TypedProgram) (c : CoreUnitTree) → typed_of unit ≡ Some u → core_of unit ≡ Some c → c.data_blocks ≡ map data_core u.blocks
data_is unit u c meant is =
    let e : core_of unit ≡ (main_from 0 u.functions >>= λ main. Some (unit_core (names_in unit) u main)) =
    ap (λ (o : Option TypedProgram). o >>= λ (u : TypedProgram). main_from 0 u.functions >>= λ main. Some (unit_core (names_in unit) u main)) meant
    in
    let made = followed (main_from 0 u.functions) (λ main. Some (unit_core (names_in unit) u main)) c (sym e ∙ is) in
    ap (λ (k : CoreUnitTree). k.data_blocks) (sym (same_Some _ c made.then))

pub record RunsAsSource (s : Source) : Type 0 where
  pub fits : unit_fits s.core ≡ true
  pub follows : (root : ℕ) (xs : List Value) (w : World) (n : ℕ) → core_run s.core root xs w n ≡ run_of s.program root xs w n
  pub memory : core.initial_memory s.core ≡ initial_memory s.program

pub runs_as_source : (s : Source) → IsBuilt s → RunsAsSource s
runs_as_source s built =
    let h = units_have_cores s.unit built.read built.well_typed built.limits in
    let same_core : h.core ≡ s.core = same_Some h.core s.core (sym h.is ∙ built.core_is) in
    let same_program : h.typed ≡ s.program = same_Some h.typed s.program (sym h.tree ∙ built.meant) in
    let whole = typed_data_is_whole s.unit s.program (read_is_as_read s.unit built.read) built.well_typed built.limits built.meant in
    record {
      fits = subst (λ (c : CoreUnitTree). unit_fits c ≡ true) same_core h.fits;
      follows = λ root xs w n.
          ap (λ (c : CoreUnitTree). core_run c root xs w n) (sym same_core)
          ∙ h.follows root xs w n
          ∙ ap (λ (u : TypedProgram). run_of u root xs w n) same_program;
      memory =
          ap (λ (blocks : List DataBlockTree). map data_block blocks) (data_is s.unit s.program s.core built.meant built.core_is)
          ∙ memory_kept s.program.blocks whole.whole;
    }

-- ---- its linear code

parameters_at : (functions : List CoreFunctionTree) (f : ℕ) (body : CoreFunctionTree) → slice_get functions f ≡ Some body
    → (slice_index_or (lower_functions functions) f no_function).parameters ≡ parameter_places body.parameters
parameters_at [] f body is = absurd (let never : ⊥ = cc in never)
parameters_at (g ∷ functions) zero body is = ap (λ (h : CoreFunctionTree). parameter_places h.parameters) (same_Some g body is)
parameters_at (g ∷ functions) (suc f) body is = parameters_at functions f body is

pub no_parameters : (u : CoreUnitTree) (f : ℕ) (body : CoreFunctionTree) → slice_get u.functions f ≡ Some body → body.parameters ≡ [] → length (function_at (linear u) f).parameters ≡ 0
no_parameters u f body is none =
    ap length (parameters_at u.functions f body is ∙ ap parameter_places none)

pub function_there : (u : CoreUnitTree) (f : ℕ) (body : CoreFunctionTree) → slice_get u.functions f ≡ Some body → f < length (linear u).functions
function_there u f body is =
    let within = slice_get_within u.functions f body is in
    let one = length-map (map straight_function u.functions) threaded_function in
    let two = length-map u.functions straight_function in
    omega (arith, within, one, two)
