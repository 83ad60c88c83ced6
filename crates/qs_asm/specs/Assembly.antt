-- The words of items.
use Rattle.std.specs.Prelude.{◌≡◌, ℕ, ◌+◌, ◌*◌, ◌%◌, ◌^◌, ◌==◌, ◌&&◌, nat_eq, nat_lt, Bool, if◌then◌else◌, List, [], ◌∷◌, ◌++◌, length, map, Option, Some, None, unwrap_or}
use Rattle.std.specs.Option.{option_or}
use Rattle.std.specs.HashMap.{HashMap, get}
use Rattle.std.specs.declared.alloc.Global.{Global}
use Rattle.std.specs.declared.vec.Vec.{Vec}
use Rattle.qs_base.specs.Words.{sub}
use Rattle.qs_isa.specs.declared.instruction.Instr.{Instr}
use Rattle.qs_isa.specs.declared.instruction.Instr.TheVariants as instructions
use Rattle.qs_isa.specs.declared.instruction.BranchKind.{BranchKind}
use Rattle.qs_isa.specs.Table.{decode_of}
use Rattle.qs_asm.specs.declared.fault.AssemblyFault.{AssemblyFault}
use Rattle.qs_asm.specs.declared.fault.AssemblyFault.TheVariants.{BadLabel}
use Rattle.qs_asm.specs.declared.item.Item.{Item}
use Rattle.qs_asm.specs.declared.sized_item.SizedItem.{SizedItem}
use Rattle.qs_asm.specs.declared.sized_item.SizedItem.TheVariants as sizes
use Rattle.qs_asm.specs.Items.{inverse, Lays}
use Rattle.qs_asm.specs.Sizing.{item_bytes, label_of, label_among, branch_distance, sized_items}

-- ---- where labels stand

-- the places of labels, as far as they are known
abbrev pub places : {S : Type 0} → HashMap ℕ ℕ S → (l : ℕ) → Option ℕ
places labels = get nat_eq labels

-- labels as they are known with those of an item too
pub record Notes (old new : ℕ → Option ℕ) (from : ℕ) (i : SizedItem) : Type 0 where
  pub each : (l : ℕ) → new l ≡ option_or (label_of from i l) (old l)

pub record AreLabels (labels : ℕ → Option ℕ) (items : List SizedItem) : Type 0 where
  pub each : (l : ℕ) → labels l ≡ label_among 0 items l

-- the bytes before the label
abbrev pub label_offset : List Item → (l : ℕ) → Option ℕ
label_offset items = label_among 0 (sized_items items)

pub record AreOffsets (labels : ℕ → Option ℕ) (items : List Item) : Type 0 where
  pub each : (l : ℕ) → labels l ≡ label_offset items l

-- ---- instructions

-- a distance that JAL has: even, and of 21 bits with its sign (RISC-V Unprivileged ISA 20191213, 2.5)
abbrev pub is_reached : (distance : ℕ) → Bool
is_reached distance = nat_lt ((distance + 2 ^ 20) % 2 ^ 32) (2 ^ 21) && (distance % 2 == 0)

abbrev pub distance_to : (from : ℕ) → (place : Option ℕ) → Option ℕ
distance_to from None = None
distance_to from (Some place) = if is_reached (sub place from) then Some (sub place from) else None

abbrev pub jump_code : (rd : ℕ) → (distance : Option ℕ) → Option (List Instr)
jump_code rd None = None
jump_code rd (Some distance) = Some (instructions.Jal rd distance ∷ [])

abbrev pub short_code : BranchKind → (a b : ℕ) → (distance : Option ℕ) → Option (List Instr)
short_code kind a b None = None
short_code kind a b (Some distance) = Some (instructions.Branch kind a b distance ∷ [])

abbrev pub long_code : BranchKind → (a b : ℕ) → (distance : Option ℕ) → Option (List Instr)
long_code kind a b None = None
long_code kind a b (Some distance) =
    Some (instructions.Branch (inverse kind) a b 8 ∷ instructions.Jal 0 distance ∷ [])

-- no instruction where it is so, and else no code
abbrev pub nothing_if : Bool → Option (List Instr)
nothing_if is = if is then Some [] else None

abbrev pub label_code : (from : ℕ) → (place : Option ℕ) → Option (List Instr)
label_code from None = None
label_code from (Some place) = nothing_if (place == from)

-- None where a label that is jumped to stands nowhere or out of reach, and where a label stands again further on
abbrev pub item_code : (labels : ℕ → Option ℕ) → (from : ℕ) → SizedItem → Option (List Instr)
item_code labels from (sizes.Plain i) = Some (i ∷ [])
item_code labels from (sizes.Label l) = label_code from (labels l)
item_code labels from (sizes.Jump rd l) = jump_code rd (distance_to from (labels l))
item_code labels from (sizes.Short kind a b l) = short_code kind a b (branch_distance from (labels l))
item_code labels from (sizes.Long kind a b l) = long_code kind a b (distance_to (from + 4) (labels l))

abbrev pub item_code_by : {S : Type 0} → HashMap ℕ ℕ S → (from : ℕ) → SizedItem → Option (List Instr)
item_code_by labels from item = item_code (places labels) from item

abbrev pub before : List Instr → Option (List Instr) → Option (List Instr)
before code None = None
before code (Some more) = Some (code ++ more)

-- there is more code, and it was put behind the instructions
abbrev pub Appends : Vec Instr Global → Vec Instr Global → Option (List Instr) → Type 0
Appends old new more = before old.items more ≡ Some new.items

-- these instructions are the code
abbrev pub IsCode : Option (List Instr) → Vec Instr Global → Type 0
IsCode code instructions = code ≡ Some instructions.items

-- a label is named as the fault only where there is no code
abbrev pub BadLabelIsNoCode : Option (List Instr) → AssemblyFault → Type 0
BadLabelIsNoCode code fault = fault ≡ BadLabel → code ≡ None

abbrev pub joined : Option (List Instr) → Option (List Instr) → Option (List Instr)
joined None rest = None
joined (Some code) rest = before code rest

abbrev pub code_from : (labels : ℕ → Option ℕ) → (from : ℕ) → List SizedItem → Option (List Instr)
code_from labels from [] = Some []
code_from labels from (i ∷ items) = joined (item_code labels from i) (code_from labels (from + item_bytes i) items)

abbrev pub code_by : {S : Type 0} → HashMap ℕ ℕ S → List SizedItem → Option (List Instr)
code_by labels items = code_from (places labels) 0 items

abbrev pub assembled : List Item → Option (List Instr)
assembled items = code_from (label_offset items) 0 (sized_items items)

-- ---- words

-- the words lie from an address on
abbrev pub HasWords : (at : ℕ → Option Instr) → (from : ℕ) → (words : List ℕ) → Type 0
HasWords at from [] = Unit {0}
HasWords at from (word ∷ words) = (at from ≡ decode_of word) × HasWords at (from + 4) words

-- where a label lies in words that lie from an address on
abbrev pub label_at : List Item → (start l : ℕ) → ℕ
label_at items start l = start + unwrap_or (label_offset items l) 0

-- the words are those of the instructions, and wherever they lie, the items lie there
pub record IsAssembly (items : List Item) (words : List ℕ) : Type 0 where
  pub code : List Instr
  pub is : assembled items ≡ Some code
  pub decodes : map decode_of words ≡ map Some code
  pub lays :
      (at : ℕ → Option Instr) (start : ℕ) → HasWords at start words
      → Lays at (label_at items start) start items (start + 4 * length words)
