-- What an image of a unit of linear code is: its code, its entry, its records and its data.
use Rattle.std.specs.Prelude.{◌≡◌, ℕ, ◌+◌, ◌-◌, ◌/◌, ◌%◌, ◌^◌, ◌<◌, ◌≤◌, List, [], ◌∷◌, ◌++◌, length, map, replicate, None}
use Rattle.std.specs.Prelude.{slice_index_or}
use Rattle.qs_memory.specs.Values.{Pointer, null, into}
use Rattle.qs_memory.specs.Memory.{Cell, unset, byte, part, Block, Memory, cells_from}
use Rattle.qs_memory.specs.Soundness.{IsLive, IsSound}
use Rattle.qs_events.specs.Weights.{Costs}
use Rattle.qs_isa.specs.Addresses.{code_start}
use Rattle.qs_asm.specs.Assembly.{label_at, IsAssembly}
use Rattle.qs_image.specs.Image.{Image, FunctionRecord}
use Rattle.qs_image.specs.Limits.{most_code_words, most_data_bytes}
use Rattle.qs_tac.specs.Trees.{TacUnitTree}
use Rattle.qs_tac.specs.Places.{PlacesTree}
use Rattle.qs_tac.specs.declared.units.TacData.{TacData}
use Rattle.qs_frames.specs.Layout.{rounded}
use Rattle.qs_emit_selection.specs.Emission.{first_label}
use Rattle.qs_emit_selection.specs.Units.{selected}
use Rattle.qs_emit_selection.specs.Data.{data_address}
use Rattle.qs_emit.specs.Relation.{function_at, cost_at}

-- ---- data

-- a pointer is the address of its target; null is 0
abbrev pub pointer_word : (address_of : ℕ → ℕ) → Pointer → ℕ
pointer_word address_of null = 0
pointer_word address_of (into block offset) = address_of block + offset

-- the byte of a cell; one without a value is 0
abbrev pub cell_byte : (address_of : ℕ → ℕ) → Cell → ℕ
cell_byte address_of unset = 0
cell_byte address_of (byte b) = b
cell_byte address_of (part p k) = pointer_word address_of p / 256 ^ k % 256

abbrev pub block_bytes : (address_of : ℕ → ℕ) → Block → List ℕ
block_bytes address_of b = map (cell_byte address_of) (cells_from b.cells 0 b.size)

-- zeros up to the next multiple of 4
abbrev pub gap : (size : ℕ) → List ℕ
gap size = replicate (rounded size - size) 0

-- the blocks one behind the other, each at a multiple of 4, and nothing behind the last
abbrev pub data_bytes : (address_of : ℕ → ℕ) → Memory → List ℕ
data_bytes address_of [] = []
data_bytes address_of (b ∷ []) = block_bytes address_of b
data_bytes address_of (b ∷ c ∷ blocks) =
    block_bytes address_of b ++ (gap b.size ++ data_bytes address_of (c ∷ blocks))

-- ---- the memory to start from

abbrev pub data_of : Block → TacData
data_of b = record { size = b.size; is_writable = b.is_writable }

-- it has the unit's data alone, all live, and what they hold is sound
pub record IsFirstMemory (u : TacUnitTree) (m : Memory) : Type 0 where
  pub blocks : map data_of m ≡ u.data_blocks
  pub live : (block : ℕ) → block < length m → IsLive m block
  pub sound : IsSound m

-- ---- records

abbrev pub no_record : FunctionRecord
no_record = record { name = []; address = 0; cost = 0; parameters = None }

-- the record of the function with this number
abbrev pub record_at : Image → (f : ℕ) → FunctionRecord
record_at image f = slice_index_or image.functions f no_record

-- calls take of the stack what the image's records say
pub record AreCosts (image : Image) (costs : Costs) : Type 0 where
  pub each : (f : ℕ) → f < length image.functions → costs f ≡ (record_at image f).cost

-- ---- images

-- where a function begins
abbrev pub function_address : TacUnitTree → List PlacesTree → (f : ℕ) → ℕ
function_address u ps f = label_at (selected u ps) code_start (first_label u.functions f)

pub record IsImageOf (u : TacUnitTree) (ps : List PlacesTree) (m : Memory) (image : Image) : Type 0 where
  pub code : IsAssembly (selected u ps) image.code
  pub entry : image.entry ≡ code_start
  pub parameters : image.parameters ≡ length (function_at u u.main).parameters
  pub count : length image.functions ≡ length u.functions
  pub addresses : (f : ℕ) → f < length u.functions → (record_at image f).address ≡ function_address u ps f
  pub costs : (f : ℕ) → f < length u.functions → (record_at image f).cost ≡ cost_at u ps f
  pub bytes : image.bytes ≡ data_bytes (data_address u.data_blocks) m

-- its code and its data have room
pub record IsWithinLimits (image : Image) : Type 0 where
  pub code : length image.code ≤ most_code_words
  pub bytes : length image.bytes ≤ most_data_bytes
