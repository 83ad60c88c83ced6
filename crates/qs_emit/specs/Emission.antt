-- What is promised of the machine code of a unit: how many words it has, and what the images do that are made of it.
use Rattle.std.specs.Prelude.{◌≡◌, ℕ, ◌<◌, ◌≤◌, List, length, sum_by, Some, slice_get, slice_index_or}
use Rattle.std.specs.declared.alloc.Global.{Global}
use Rattle.std.specs.declared.vec.Vec.{Vec}
use Rattle.qs_memory.specs.Memory.{Memory}
use Rattle.qs_asm.specs.declared.item.Item.{Item}
use Rattle.qs_asm.specs.Items.{item_words}
use Rattle.qs_asm.specs.Counting.{reached_words, HasAssembly}
use Rattle.qs_image.specs.Image.{Image}
use Rattle.qs_image.specs.Limits.{most_code_words}
use Rattle.qs_tac.specs.Trees.{TacFunctionTree, TacUnitTree}
use Rattle.qs_tac.specs.Places.{PlacesTree, no_places}
use Rattle.qs_tac.specs.Sizes.{words, unit_words}
use Rattle.qs_emit_selection.specs.Units.{function_items_at}
use Rattle.qs_emit.specs.Images.{IsFirstMemory, IsImageOf}
use Rattle.qs_emit.specs.Emitted.{Emitted}

-- the code of each function has at most its words, and all has at most the unit's
pub record HasFewWords (u : TacUnitTree) (ps : List PlacesTree) (items : Vec Item Global) : Type 0 where
  pub each :
      (f : ℕ) (g : TacFunctionTree) → slice_get u.functions f ≡ Some g
      → sum_by item_words (function_items_at u f g (slice_index_or ps f no_places)) ≤ words g
  pub all : sum_by item_words items.items ≤ unit_words u

-- where the unit's words are so few, each jump reaches: the code has an assembly
abbrev pub AllReachWhereFew : TacUnitTree → Vec Item Global → Type 0
AllReachWhereFew u items = unit_words u < reached_words → HasAssembly items.items

-- An image that has the code, the records and the data of the unit does what the unit does, from the memory that the data
-- are and on. Its code has to be short enough for an image, as it is where the unit's words are.
abbrev pub ImagesAreEmitted : TacUnitTree → List PlacesTree → Type 0
ImagesAreEmitted u ps =
    (first : Memory) (image : Image) → IsFirstMemory u first → IsImageOf u ps first image
    → length image.code ≤ most_code_words → Emitted u first image
