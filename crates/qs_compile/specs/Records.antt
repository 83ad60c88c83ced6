-- The records of functions: where each begins, and the bytes of its frame.
use Rattle.std.specs.Prelude.{◌≡◌, ℕ, ◌+◌, ◌<◌, ◌≤◌, List, length, map, Option, Some, unwrap_or, slice_index_or}
use Rattle.qs_isa.specs.Addresses.{code_start}
use Rattle.qs_asm.specs.declared.item.Item.{Item}
use Rattle.qs_asm.specs.Assembly.{label_at}
use Rattle.qs_core.specs.Trees.{CoreFunctionTree}
use Rattle.qs_image.specs.Image.{FunctionRecord}
use Rattle.qs_machine.specs.State.{stack_limit}
use Rattle.qs_tac.specs.Trees.{TacFunctionTree}
use Rattle.qs_tac.specs.Places.{PlacesTree, no_places}
use Rattle.qs_frames.specs.Layout.{layout}
use Rattle.qs_emit_selection.specs.Emission.{first_label}
use Rattle.qs_emit.specs.Relation.{no_function}
use Rattle.qs_emit.specs.Images.{no_record}

-- where a label stands
abbrev pub place_of : (labels : ℕ → Option ℕ) → (label : ℕ) → ℕ
place_of labels label = code_start + unwrap_or (labels label) 0

-- the addresses of functions
pub record AreAddresses (labels : ℕ → Option ℕ) (functions : List TacFunctionTree) (addresses : List ℕ) : Type 0 where
  pub count : length addresses ≡ length functions
  pub each :
      (f : ℕ) → f < length functions → slice_index_or addresses f 0 ≡ place_of labels (first_label functions f)

-- the bytes of the frame of a function
abbrev pub frame_bytes : List TacFunctionTree → List PlacesTree → (f : ℕ) → ℕ
frame_bytes functions places f =
    (layout (slice_index_or functions f no_function) (slice_index_or places f no_places)).cost

pub record FramesFit (functions : List TacFunctionTree) (places : List PlacesTree) : Type 0 where
  pub each : (f : ℕ) → f < length functions → frame_bytes functions places f ≤ stack_limit

pub record AreFrameCosts (functions : List TacFunctionTree) (places : List PlacesTree) (costs : List ℕ) : Type 0 where
  pub count : length costs ≡ length functions
  pub each : (f : ℕ) → f < length functions → slice_index_or costs f 0 ≡ frame_bytes functions places f

-- records with the functions' names and counts of parameters, these addresses and these costs
pub record AreRecords (functions : List CoreFunctionTree) (starts amounts : List ℕ) (records : List FunctionRecord)
    : Type 0 where
  pub names : map (λ r. r.name) records ≡ map (λ f. f.name) functions
  pub addresses : map (λ r. r.address) records ≡ starts
  pub costs : map (λ r. r.cost) records ≡ amounts
  pub counts : map (λ r. r.parameters) records ≡ map (λ f. Some (length f.parameters)) functions

-- ---- the records of a unit

-- the record with this number
abbrev pub record_in : List FunctionRecord → (f : ℕ) → FunctionRecord
record_in records f = slice_index_or records f no_record

-- each function has the record of its number, with its name, the address of its label, the bytes of its frame, and the
-- count of its parameters
pub record HaveRecords (functions : List CoreFunctionTree) (linear : List TacFunctionTree) (places : List PlacesTree)
    (items : List Item) (records : List FunctionRecord) : Type 0 where
  pub names : map (λ r. r.name) records ≡ map (λ f. f.name) functions
  pub addresses :
      (f : ℕ) → f < length linear
      → (record_in records f).address ≡ label_at items code_start (first_label linear f)
  pub costs : (f : ℕ) → f < length linear → (record_in records f).cost ≡ frame_bytes linear places f
  pub counts : map (λ r. r.parameters) records ≡ map (λ f. Some (length f.parameters)) functions
