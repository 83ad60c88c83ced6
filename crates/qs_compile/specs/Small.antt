-- Units that are small enough: they pass no size.
use Rattle.std.specs.Prelude.{◌≡◌, ℕ, ◌<◌, ◌≤◌, ◌^◌, true, length, map, All}
use Rattle.qs_asm.specs.Counting.{reached_words}
use Rattle.qs_core.specs.Trees.{CoreUnitTree}
use Rattle.qs_core.specs.Units.{data_block}
use Rattle.qs_core.specs.Interfaces.{main_types}
use Rattle.qs_core.specs.Fits.{unit_fits}
use Rattle.qs_core.specs.Sizes.{values, unit_words}
use Rattle.qs_lower.specs.WordLaws.{IsInReach}
use Rattle.qs_frames.specs.Layout.{total}
use Rattle.qs_emit_selection.specs.Limits.{largest_data}
use Rattle.qs_compile.specs.Units.{most_main_parameters, most_parameters}
use Rattle.qs_compile.specs.Limits.{HasFewFunctions, HasShortNames, Passes}
use Rattle.qs_compile.specs.declared.fault.BuildFault.{BuildFault}
use Rattle.qs_compile.specs.declared.fault.BuildFault.TheVariants.{NoMemory}

-- a frame has room for so many bytes of blocks, and for so many values
abbrev pub most_block_bytes : ℕ
most_block_bytes = 2 ^ 27

abbrev pub most_values : ℕ
most_values = 2 ^ 24

pub record IsSmall (u : CoreUnitTree) : Type 0 where
  pub functions : HasFewFunctions u
  pub names : HasShortNames u
  pub parameters : All (λ f. length f.parameters ≤ most_parameters) u.functions
  pub main_parameters : length (main_types u) ≤ most_main_parameters
  pub blocks : All (λ f. total f.blocks ≤ most_block_bytes) u.functions
  pub values : All (λ f. values f ≤ most_values) u.functions
  pub held : All IsInReach u.functions
  pub code : unit_words u < reached_words
  pub data_bytes : total (map (λ d. (data_block d).size) u.data_blocks) ≤ largest_data

-- then want of memory is the one reason why there is no image
abbrev pub SmallUnitsPassNoSize : Type 0
SmallUnitsPassNoSize =
    (u : CoreUnitTree) (fault : BuildFault) → unit_fits u ≡ true → IsSmall u → Passes u fault → fault ≡ NoMemory
