-- What is promised of frames.
use Rattle.std.specs.Prelude.{◌≡◌, ◌≢◌, ◌⊎◌, ℕ, ◌+◌, ◌*◌, ◌/◌, ◌%◌, ◌<◌, ◌≤◌, true, false}
use Rattle.std.specs.Prelude.{List, length, Option, Some, slice_get, slice_index_or}
use Rattle.qs_base.specs.declared.function.FnId.{FnId}
use Rattle.qs_calls.specs.declared.callee.Callee.TheVariants.{Function}
use Rattle.qs_tac.specs.Trees.{call, TacFunctionTree}
use Rattle.qs_tac.specs.declared.operands.Operand.{Operand}
use Rattle.qs_tac.specs.Places.{PlacesTree, Accepted}
use Rattle.qs_tac.specs.Sizes.{values, reach}
use Rattle.qs_frames.specs.Layout.{total, outgoing_words, outgoing, keeps_return_address, stored_registers, kept, layout, HasSlot, argument_at, register_at, slot_at, block_offset}

-- what lies in a frame: arguments past the eighth of the calls that it makes, registers, slots and blocks; where it keeps the
-- return address, this is the first of its registers
pub data Part : Type 0 where
  argument : (i : ℕ) → Part
  register : (i : ℕ) → Part
  slot : (k : ℕ) → Part
  block : (i : ℕ) → Part

-- the frame has such a part
abbrev pub HasPart : TacFunctionTree → PlacesTree → Part → Type 0
HasPart f p (argument i) = i < outgoing_words f
HasPart f p (register i) = i < length (stored_registers f p)
HasPart f p (slot k) = HasSlot p k
HasPart f p (block i) = i < length f.blocks

-- its offset from x2
abbrev pub part_from : TacFunctionTree → PlacesTree → Part → ℕ
part_from f p (argument i) = argument_at i
part_from f p (register i) = register_at (outgoing f) i
part_from f p (slot k) = slot_at f p k
part_from f p (block i) = block_offset f (layout f p) i

abbrev pub part_size : TacFunctionTree → Part → ℕ
part_size f (argument i) = 4
part_size f (register i) = 4
part_size f (slot k) = 4
part_size f (block i) = slice_index_or f.blocks i 0

abbrev pub part_end : TacFunctionTree → PlacesTree → Part → ℕ
part_end f p a = part_from f p a + part_size f a

-- code calls a function of the program
pub record CallsFunction (f : TacFunctionTree) : Type 0 where
  pub at : ℕ
  pub x : Option ℕ
  pub callee : FnId
  pub arguments : List Operand
  pub is : slice_get f.code at ≡ Some (call x (Function callee) arguments)

pub record IsLaidOut (f : TacFunctionTree) (p : PlacesTree) : Type 0 where
  pub positive : 0 < (layout f p).cost
  pub multiple : (layout f p).cost % 16 ≡ 0
  pub bound : (layout f p).cost ≤ 16 * ((4 + total f.blocks + 4 * (kept p + outgoing_words f) + 15) / 16)
  pub aligned : (a : Part) → HasPart f p a → part_from f p a % 4 ≡ 0
  pub inside : (a : Part) → HasPart f p a → part_end f p a ≤ (layout f p).cost
  pub apart :
      (a b : Part) → HasPart f p a → HasPart f p b → a ≢ b
      → (part_end f p a ≤ part_from f p b) ⊎ (part_end f p b ≤ part_from f p a)
  -- the return address is kept where code calls a function; where it isn't, each part begins in the reach of an immediate
  pub keeps : CallsFunction f → keeps_return_address f p ≡ true
  pub near : keeps_return_address f p ≡ false → (a : Part) → HasPart f p a → part_from f p a < reach

abbrev pub FramesAreLaidOut : Type 0
FramesAreLaidOut = (f : TacFunctionTree) (p : PlacesTree) → IsLaidOut f p

abbrev pub NoMoreIsKeptThanValues : Type 0
NoMoreIsKeptThanValues = (f : TacFunctionTree) (p : PlacesTree) → Accepted f p → kept p ≤ values f
