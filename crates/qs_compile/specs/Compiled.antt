-- The image of a source: what it is made of, what its calls cost, and that it does what the source does.
use Rattle.std.specs.Prelude.{◌≡◌, ℕ, ◌+◌, ◌*◌, ◌/◌, ◌<◌, ◌≤◌, ℤ, List, length, map, All, Some, slice_index_or}
use Rattle.std.specs.List.{slice_get}
use Rattle.qs_syntax.specs.Trees.{UnitTree}
use Rattle.qs_syntax.specs.Nodes.{unit_count}
use Rattle.qs_syntax.specs.Units.{IsRead}
use Rattle.qs_types.specs.Limits.{IsWithinLimits}
use Rattle.qs_types.specs.WellTyped.{WellTyped}
use Rattle.qs_events.specs.Weights.{Costs, run_weight}
use Rattle.qs_typing_findings.specs.TypedOf.{typed_tree}
use Rattle.qs_typing_findings.specs.declared.typed_unit.TypedUnit.{TypedUnit}
use Rattle.qs_core.specs.Trees.{CoreUnitTree}
use Rattle.qs_core.specs.Units.{initial_memory}
use Rattle.qs_meaning.specs.Typed.{TypedProgram}
use Rattle.qs_meaning.specs.Units.{functions_in, typed_of}
use Rattle.qs_meaning.specs.Runs.{main_run, source_run}
use Rattle.qs_elaborate_bodies.specs.Units.{core_of}
use Rattle.qs_elaborate_limits.specs.Caps.{caps, EachBelow}
use Rattle.qs_image.specs.Image.{Image}
use Rattle.qs_machine.specs.Arguments.{AreArguments, words_of}
use Rattle.qs_machine.specs.State.{stack_limit}
use Rattle.qs_machine.specs.Run.{machine, least_stack_pointer}
use Rattle.qs_emit.specs.Agree.{Agree, Accounts}
use Rattle.qs_emit.specs.Emitted.{Emitted}
use Rattle.qs_tac.specs.Trees.{TacFunctionTree, TacUnitTree}
use Rattle.qs_tac.specs.Places.{PlacesTree, no_places}
use Rattle.qs_tac.specs.Laws.{ArePacked}
use Rattle.qs_frames.specs.Layout.{total, outgoing_words, kept}
use Rattle.qs_emit.specs.Images.{AreCosts, record_at}
use Rattle.qs_compile.specs.AgreesWithCore.{values_of, DoesAsCore}
use Rattle.qs_compile.specs.Built.{IsBuiltFrom}
use Rattle.qs_compile.specs.Limits.{Passes}
use Rattle.qs_compile.specs.Units.{linear, MainReturns}
use Rattle.qs_compile.specs.declared.fault.BuildFault.{BuildFault}
use Rattle.qs_compile.specs.declared.fault.BuildFault.TheVariants.{NoMemory}
use Rattle.qs_compile.specs.Names.{HasRoomForNames}

-- ---- agreement

-- the arguments are main's, the input has bytes, and the stack has the weight of each run by these costs
pub record SourceHasStack (program : TypedProgram) (image : Image) (costs : Costs) (args : List ℤ) (input : List ℕ) (size : ℕ)
    : Type 0 where
  pub arguments : AreArguments image args
  pub bytes : All (λ byte. byte < 256) input
  pub most : size ≤ stack_limit
  pub enough : (n : ℕ) → run_weight costs (main_run program (values_of args) input n) ≤ size

-- by the costs of its records the image does what the source does, and its least x2 is the top of the stack less the weight
pub record DoesAsSource (program : TypedProgram) (image : Image) : Type 0 where
  pub agree :
      (costs : Costs) (args : List ℤ) (input : List ℕ) (size : ℕ) → AreCosts image costs
      → SourceHasStack program image costs args input size
      → Agree (source_run program (values_of args) input) (machine image size (words_of args) input)
  pub accounts :
      (costs : Costs) (args : List ℤ) (input : List ℕ) (size : ℕ) → AreCosts image costs
      → SourceHasStack program image costs args input size
      → Accounts costs (source_run program (values_of args) input) (machine image size (words_of args) input)
      (least_stack_pointer image size (words_of args) input)

-- ---- costs

-- What a call costs is at most the bytes of a frame of places that are packed, rounded up to 16: the return address, the
-- blocks, and a word for each temporary in a slot, for each register that is given back, and for each argument past the
-- eighth of one call.
pub record AreCostsOfPacked (t : TacUnitTree) (image : Image) : Type 0 where
  pub places : List PlacesTree
  pub packed : ArePacked t places
  pub each :
      (f : ℕ) (g : TacFunctionTree) → slice_get t.functions f ≡ Some g
      → (record_at image f).cost
      ≤ 16 * ((4 + total g.blocks + 4 * (kept (slice_index_or places f no_places) + outgoing_words g) + 15) / 16)

-- ---- the whole

pub record IsCompiled (unit : UnitTree) (image : Image) : Type 0 where
  pub program : TypedProgram
  pub tree : typed_of unit ≡ Some program
  pub core : CoreUnitTree
  pub core_is : core_of unit ≡ Some core
  -- its records, its arguments, its code and its data are those of the source's core
  pub built : IsBuiltFrom core image
  -- what a call of a function costs is at most the cap of its source
  pub capped : EachBelow (map (λ f. f.cost) image.functions) (caps unit)
  pub costs_packed : AreCostsOfPacked (linear core) image
  -- its code has at most 24 words for each node of the source, and 32 for each function with a body
  pub code_few : length image.code ≤ 24 * unit_count unit + 32 * length (functions_in unit)
  pub does : DoesAsSource program image
  -- each function does what its linear code does
  pub emitted : Emitted (linear core) (initial_memory core) image

-- the same, as contracts have it
unfoldable pub IsImageOfSource : UnitTree → Image → Type 0
IsImageOfSource unit image = IsCompiled unit image

-- of each typed unit that has this core
abbrev pub IsImageOfSourcesWith : CoreUnitTree → Image → Type 0
IsImageOfSourcesWith core image =
    (typed : TypedUnit) → core_of (typed_tree typed) ≡ Some core → IsImageOfSource (typed_tree typed) image

-- the image of the core of such a unit is the unit's, where it does what the core does
abbrev pub BuiltImagesAreCompiled : Type 0
BuiltImagesAreCompiled =
    (unit : UnitTree) (core : CoreUnitTree) (image : Image) → IsRead unit → WellTyped unit → IsWithinLimits unit
    → core_of unit ≡ Some core → IsBuiltFrom core image → (MainReturns core → DoesAsCore core image)
    → IsCompiled unit image

-- ---- sizes

-- a unit within the limits, whose names have room, passes no size of images: only memory may be wanting
abbrev pub UnitsPassNoSize : Type 0
UnitsPassNoSize =
    (unit : UnitTree) (core : CoreUnitTree) (fault : BuildFault) → IsRead unit → WellTyped unit → IsWithinLimits unit
    → core_of unit ≡ Some core → HasRoomForNames unit → Passes core fault → fault ≡ NoMemory
