-- How a run of linear code, its values in places, stands to the machine that runs its emitted code.
use Rattle.std.specs.Prelude.{◌≡◌, ◌⊎◌, ℕ, ◌+◌, ◌*◌, ◌%◌, ◌^◌, ◌<◌, ◌≤◌, ◌==◌, true, if◌then◌else◌}
use Rattle.std.specs.Prelude.{List, [], ◌∷◌, length, All, Some, slice_get, slice_index_or}
use Rattle.qs_base.specs.Parameters.{most_main_parameters}
use Rattle.qs_memory.specs.Values.{Value}
use Rattle.qs_memory.specs.Memory.{Memory, block_at}
use Rattle.qs_memory.specs.Soundness.{IsLive}
use Rattle.qs_calls.specs.World.{World}
use Rattle.qs_isa.specs.Addresses.{code_start}
use Rattle.qs_isa.specs.Registers.{ra}
use Rattle.qs_image.specs.Image.{Image}
use Rattle.qs_image.specs.Limits.{most_code_words, most_data_bytes}
use Rattle.qs_machine.specs.State.{stack_pointer, stack_top, stack_limit}
use Rattle.qs_asm.specs.Items.{Lays, plain}
use Rattle.qs_tac.specs.Trees.{InstructionTree, TacFunctionTree, TacUnitTree}
use Rattle.qs_tac.specs.Fits.{unit_fits}
use Rattle.qs_tac.specs.Places.{PlacesTree, place_of, no_places, is_for_values}
use Rattle.qs_tac.specs.Holders.{File, is_saved_register, is_kept}
use Rattle.qs_tac.specs.Values.{Activation}
use Rattle.qs_tac.specs.Steps.{Waiting}
use Rattle.qs_tac.specs.Laws.{AreAccepted}
use Rattle.qs_tac.specs.declared.places.Place.{Place}
use Rattle.qs_tac.specs.declared.places.Place.TheVariants.{Slot, Register}
use Rattle.qs_tac.specs.declared.units.TacData.{TacData}
use Rattle.qs_frames.specs.Layout.{rounded, HasSlot, register_at}
use Rattle.qs_emit.specs.Machine.{Room, Watched, base, instruction_at}
use Rattle.qs_emit_selection.specs.Data.{data_address}
use Rattle.qs_emit_selection.specs.Laws.{HasFewArguments}
use Rattle.qs_emit_selection.specs.Limits.{most_arguments}
use Rattle.qs_emit_selection.specs.Operands.{Context, frame_of, stored, slot_offset, local_offset}
use Rattle.qs_emit_selection.specs.Emission.{first_label, unit_items, take_result}
use Rattle.qs_emit.specs.Lies.{number_at, AreBytes, StandsFor, frame, IsInReach}
use Rattle.qs_emit.specs.Surroundings.{Surroundings, Ground, Lay, ground, HasBlocks}

-- ---- the functions of a unit

abbrev pub no_function : TacFunctionTree
no_function = record { parameters = []; temporaries = 0; blocks = []; code = [] }

abbrev pub function_at : TacUnitTree → (f : ℕ) → TacFunctionTree
function_at u f = slice_index_or u.functions f no_function

abbrev pub context_at : TacUnitTree → List PlacesTree → (f : ℕ) → Context
context_at u ps f = record {
  function = function_at u f;
  places = slice_index_or ps f no_places;
  data_at = data_address u.data_blocks;
}

abbrev pub cost_at : TacUnitTree → List PlacesTree → (f : ℕ) → ℕ
cost_at u ps f = (frame_of (context_at u ps f)).cost

-- ---- what linear code is emitted from

-- the condition of emission: places that are accepted, frames no larger than the largest stack, and few parameters and
-- arguments, those of main in registers alone
pub record IsEmittable (u : TacUnitTree) (ps : List PlacesTree) : Type 0 where
  pub fits : unit_fits u ≡ true
  pub places : AreAccepted u ps
  pub cost : (f : ℕ) → f < length u.functions → cost_at u ps f ≤ stack_limit
  pub parameters : (f : ℕ) → length (function_at u f).parameters ≤ most_arguments
  pub main_parameters : length (function_at u u.main).parameters ≤ most_main_parameters
  pub arguments : (f k : ℕ) (i : InstructionTree) → slice_get (function_at u f).code k ≡ Some i → HasFewArguments i

-- the least data that have room for all blocks
abbrev pub data_end : List TacData → ℕ
data_end [] = 0
data_end (d ∷ []) = d.size
data_end (d ∷ e ∷ data_blocks) = rounded d.size + data_end (e ∷ data_blocks)

-- an image whose code is that of the unit, with each label at its address, and whose data have room for the unit's
pub record Setup : Type 0 where
  pub unit : TacUnitTree
  pub places : List PlacesTree
  pub emittable : IsEmittable unit places
  pub image : Image
  pub label_at : ℕ → ℕ
  pub code_end : ℕ
  pub laid : Lays (instruction_at image) label_at code_start (unit_items unit places (data_address unit.data_blocks)) code_end
  pub short : code_end ≤ code_start + 4 * most_code_words
  pub data_fits : data_end unit.data_blocks ≤ length image.bytes
  pub data_limit : length image.bytes ≤ most_data_bytes
  pub room : Room
  pub others_bytes :
      (time : ℕ) (flat : ℕ → ℕ) → AreBytes flat → AreBytes (room.others time flat)
  pub stack_fits : room.size ≤ stack_limit
  pub ceiling : room.ceiling ≤ stack_top
  -- where the root returns to, and the registers that it gives back
  pub return_to : ℕ
  pub return_aligned : return_to % 4 ≡ 0
  pub return_low : return_to < 2 ^ 32
  pub root_registers : ℕ → ℕ
  -- how many blocks the memory to start from has, and where they lie; the unit's data, which are the first of them, lie
  -- where the image has them
  pub first : ℕ
  pub addresses : (block : ℕ) → ℕ
  pub data_there : length unit.data_blocks ≤ first
  pub data_lie :
      (block : ℕ) → block < length unit.data_blocks → addresses block ≡ data_address unit.data_blocks block

-- what a run in it finds
abbrev pub around : Setup → Surroundings
around s = record {
  image = s.image;
  room = s.room;
  costs = cost_at s.unit s.places;
  return_to = s.return_to;
  root_registers = s.root_registers;
  first = s.first;
  addresses = s.addresses;
}

module _ (s : Setup) where
  abbrev pub context : (f : ℕ) → Context
  context f = context_at s.unit s.places f

  abbrev pub cost : (f : ℕ) → ℕ
  cost f = cost_at s.unit s.places f

  -- where a function begins, and where the code of one of its instructions does
  abbrev pub entry : (f : ℕ) → ℕ
  entry f = s.label_at (first_label s.unit.functions f)

  abbrev pub place : (f k : ℕ) → ℕ
  place f k = s.label_at (first_label s.unit.functions f + 1 + k)

-- ---- frames

abbrev pub word_in : Context → (registers flat : ℕ → ℕ) → (sp : ℕ) → Place → ℕ
word_in c registers flat sp (Slot k) = number_at 4 flat (sp + slot_offset c k)
word_in c registers flat sp (Register r) = registers r

abbrev pub IsAmong : List ℕ → (r : ℕ) → Type 0
IsAmong [] r = ⊥
IsAmong (q ∷ registers) r = (r ≡ q) ⊎ IsAmong registers r

-- a place that the frame has: one of its slots, or a register that holds values; what the caller finds as it was is stored
abbrev pub HasPlace : Context → Place → Type 0
HasPlace c (Slot k) = HasSlot c.places k
HasPlace c (Register r) =
    (is_for_values r ≡ true) × (is_saved_register r ≡ true → IsAmong (stored c) r)

-- a place of the frame at x2 holds a value
pub record IsHeld (c : Context) (m : Memory) (address_of registers flat : ℕ → ℕ) (sp : ℕ) (p : Place) (v : Value)
    : Type 0 where
  pub has : HasPlace c p
  pub stands : StandsFor m address_of v (word_in c registers flat sp p)

-- the registers as the caller left them, the return address in x1: a frame has those that its function stores, behind so
-- many bytes of arguments
abbrev pub saved_in : (outgoing : ℕ) → List ℕ → (registers flat : ℕ → ℕ) → (sp i r : ℕ) → ℕ
saved_in outgoing [] registers flat sp i r = registers r
saved_in outgoing (q ∷ used) registers flat sp i r =
    if r == q then number_at 4 flat (sp + register_at outgoing i) else saved_in outgoing used registers flat sp (i + 1) r

abbrev pub caller_registers : Context → (registers flat : ℕ → ℕ) → (sp r : ℕ) → ℕ
caller_registers c registers flat sp r = saved_in (frame_of c).outgoing (stored c) registers flat sp 0 r

-- the bytes from x2 on that belong to the frame alone, the arguments of its calls among them: they end where its blocks begin
abbrev pub private_end : Context → (sp : ℕ) → ℕ
private_end c sp = sp + (frame_of c).placed

-- a frame at x2 holds the values of an activation whose first block has this number; its blocks lie in it, and live
-- older ones outside
pub record HasFrame (s : Setup) (g : Ground) (f : ℕ) (registers : ℕ → ℕ) (sp number : ℕ) (values : File) : Type 0 where
  pub holds :
      (p : Place) (v : Value) → values p ≡ Some v
      → IsHeld (context s f) g.memory g.address_of registers g.flat sp p v
  pub words : (r : ℕ) → is_saved_register r ≡ true → registers r < 2 ^ 32
  pub private : (at : ℕ) → sp ≤ at → at < private_end (context s f) sp → g.owner at ≡ frame
  pub placed :
      (i : ℕ) → i < length (function_at s.unit f).blocks
      → g.address_of (number + i) ≡ sp + local_offset (context s f) i
  pub made : number + length (function_at s.unit f).blocks ≤ length g.memory
  pub apart :
      (block : ℕ) → block < number → IsLive g.memory block
      → IsInReach s.image s.room (sp + cost s f) (block_at g.memory block) (g.address_of block)

-- x2 is that of a frame that lies in the stack
pub record IsInRoom (r : Room) (sp bytes : ℕ) : Type 0 where
  pub aligned : sp % 16 ≡ 0
  pub above : base r ≤ sp
  pub below : sp + bytes ≤ r.ceiling

-- ---- the stack

-- an activation that waits for a call: what the call returns to, by x1, takes its result, and then the activation's next
-- instruction follows
pub record IsWaiting (s : Setup) (g : Ground) (w : Waiting File) (registers : ℕ → ℕ) (sp : ℕ) : Type 0 where
  pub takes :
      Lays (instruction_at s.image) s.label_at (registers ra) (plain (take_result (context s w.activation.function) w.taken_by))
      (place s w.activation.function w.activation.at)
  pub known : w.activation.function < length s.unit.functions
  pub inside : w.activation.at ≤ length (function_at s.unit w.activation.function).code
  pub taken :
      (x : ℕ) → w.taken_by ≡ Some x
      → HasPlace (context s w.activation.function) (place_of (context s w.activation.function).places x)
  pub frame : HasFrame s g w.activation.function registers sp w.activation.first_block w.activation.held
  -- its values stand where calls leave them
  pub stays : (p : Place) (v : Value) → w.activation.held p ≡ Some v → is_kept p ≡ true
  pub in_room : IsInRoom s.room sp (cost s w.activation.function)
  pub aligned : registers ra % 4 ≡ 0
  pub low : registers ra < 2 ^ 32

-- frames one above the other, up to x2 as it was at the root's entry; the registers are those that the upmost call is to
-- give back
abbrev pub HasStack : Setup → Ground → List (Waiting File) → (registers : ℕ → ℕ) → (sp : ℕ) → Type 0
HasStack s g [] registers sp =
    (sp ≡ s.room.ceiling)
    × ((registers ra ≡ s.return_to) × ((r : ℕ) → is_saved_register r ≡ true → registers r ≡ s.root_registers r))
HasStack s g (w ∷ stack) registers sp =
    IsWaiting s g w registers sp
    × HasStack s g stack (caller_registers (context s w.activation.function) registers g.flat sp)
    (sp + cost s w.activation.function)

-- the number of the first block of the root's call
abbrev pub root_block : (number : ℕ) → List (Waiting File) → ℕ
root_block number [] = number
root_block number (w ∷ stack) = root_block w.activation.first_block stack

-- ---- the relation

-- a run of linear code, and the machine's registers and bytes
pub record IsRelated (s : Setup) (a : Activation File) (m : Memory) (stack : List (Waiting File)) (l : Lay)
    (registers : ℕ → ℕ) (sp : ℕ) (flat : ℕ → ℕ) : Type 0 where
  pub known : a.function < length s.unit.functions
  pub frame : HasFrame s (ground m l flat) a.function registers sp a.first_block a.held
  pub in_room : IsInRoom s.room sp (cost s a.function)
  pub above :
      HasStack s (ground m l flat) stack (caller_registers (context s a.function) registers flat sp)
      (sp + cost s a.function)
  pub blocks : HasBlocks (around s) (ground m l flat) sp
  pub root : root_block a.first_block stack ≡ s.first

-- the machine stands where the code of the next instruction begins
pub record StandsAt (s : Setup) (a : Activation File) (w : World) (stack : List (Waiting File)) (l : Lay) (m : Watched)
    : Type 0 where
  pub pc : m.now.pc ≡ place s a.function a.at
  pub related : IsRelated s a w.memory stack l m.now.registers (stack_pointer m.now) m.now.memory
  pub input : m.now.input ≡ w.input
  pub input_bytes : All (λ byte. byte < 256) w.input
  pub bytes : AreBytes m.now.memory
  pub low : m.low ≤ stack_pointer m.now
