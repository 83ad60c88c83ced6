-- The parts that an image is put together from.
use Rattle.std.specs.Prelude.{◌≡◌, ℕ, ◌<◌, ◌≤◌, ◌^◌, List, length, All, None}
use Rattle.qs_asm.specs.Assembly.{IsAssembly}
use Rattle.qs_asm.specs.Counting.{reached_words}
use Rattle.qs_core.specs.Trees.{CoreUnitTree}
use Rattle.qs_core.specs.Units.{initial_memory}
use Rattle.qs_image.specs.Image.{FunctionRecord}
use Rattle.qs_tac.specs.Trees.{TacUnitTree}
use Rattle.qs_tac.specs.Places.{PlacesTree}
use Rattle.qs_emit_selection.specs.Limits.{first_fault}
use Rattle.qs_emit_selection.specs.Data.{data_address}
use Rattle.qs_emit_selection.specs.Units.{selected}
use Rattle.qs_emit.specs.Images.{data_bytes}
use Rattle.qs_tac.specs.Laws.{ArePacked}
use Rattle.qs_compile.specs.Units.{linear}
use Rattle.qs_compile.specs.Records.{HaveRecords}
use Rattle.qs_compile.specs.Limits.{HasFewFunctions, HasShortNames}

-- a unit's records, code and data, by its linear code and the places of its values; it passes no size
pub record AreParts (u : CoreUnitTree) (t : TacUnitTree) (ps : List PlacesTree) (functions : List FunctionRecord)
    (code bytes : List ℕ) : Type 0 where
  pub few : HasFewFunctions u
  pub short : HasShortNames u
  pub free : first_fault t ps ≡ None
  pub records : HaveRecords u.functions t.functions ps (selected t ps) functions
  pub assembly : IsAssembly (selected t ps) code
  pub reached : length code ≤ reached_words
  pub words : All (λ word. word < 2 ^ 32) code
  pub octets : bytes ≡ data_bytes (data_address t.data_blocks) (initial_memory u)

-- with its values in some places that are packed
pub record ArePartsOf (u : CoreUnitTree) (functions : List FunctionRecord) (code bytes : List ℕ) : Type 0 where
  pub places : List PlacesTree
  pub packed : ArePacked (linear u) places
  pub parts : AreParts u (linear u) places functions code bytes
