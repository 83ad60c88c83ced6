-- The frame of a function: what a call takes of the stack, and where its parts lie.
--
--   x2 on             the arguments past the eighth of the calls that it makes, in the order of the arguments
--   x2 + outgoing on  the registers that the entry stores: first the return address, where the function keeps it here, and
--                     then those that the function gives back to its caller as they were
--   up to placed      the slots, in falling order of the last temporary that stands in each
--   x2 + placed on    the placed blocks in order, each at a multiple of 4
--
-- What holds parts of expressions has the last numbers among the temporaries; so it lies nearest to x2, in the
-- reach of an immediate, whichever number its slot has.
use Rattle.std.specs.Prelude.{◌≡◌, ◌<◌, ◌≤◌, ℕ, zero, suc, ◌+◌, ◌-◌, ◌*◌, ◌/◌, ◌^◌, ◌==◌, ◌||◌, Bool, true, false, if◌then◌else◌}
use Rattle.std.specs.Prelude.{nat_lt, nat_le, List, [], ◌∷◌, ◌++◌, length, Option, Some, None, unwrap_or}
use Rattle.std.specs.List.{list_any}
use Rattle.std.specs.Option.{option_or}
use Rattle.qs_calls.specs.declared.callee.Callee.{Callee}
use Rattle.qs_calls.specs.declared.callee.Callee.TheVariants.{Function, PutChar, GetChar}
use Rattle.qs_tac.specs.Trees.{InstructionTree, move, unary, binary, convert, address_of, load, store}
use Rattle.qs_tac.specs.Trees.{copy, fill, call, jump, branch, return, TacFunctionTree}
use Rattle.qs_tac.specs.Sizes.{most_passed, reach}
use Rattle.qs_tac.specs.Places.{PlacesTree, slots_among, slot_count}
use Rattle.qs_tac.specs.Holders.{same_place}
use Rattle.qs_tac.specs.declared.places.Place.{Place}
use Rattle.qs_tac.specs.declared.places.Place.TheVariants.{Slot, Register}
use Rattle.qs_frames.specs.declared.frame.Frame.{Frame}

-- ---- limits, in bytes

-- the largest frame; its blocks together are no larger, nor are the blocks of a unit's data
abbrev pub largest_frame : ℕ
largest_frame = 2 ^ 28

-- ---- blocks, one after the other

-- the least multiple of 4 that is no less
unfoldable pub rounded : (size : ℕ) → ℕ
rounded size = (size + 3) / 4 * 4

-- the bytes of blocks of these sizes
abbrev pub total : (sizes : List ℕ) → ℕ
total [] = 0
total (size ∷ sizes) = rounded size + total sizes

-- where the block with this number lies behind the beginning of the first
abbrev pub offset : (sizes : List ℕ) → (i : ℕ) → ℕ
offset [] i = 0
offset (size ∷ sizes) zero = 0
offset (size ∷ sizes) (suc i) = rounded size + offset sizes i

-- ---- arguments

-- how many words the frame has for the arguments that one call passes on the stack
abbrev pub outgoing_words : TacFunctionTree → ℕ
outgoing_words f = most_passed f.code

-- their bytes, from x2 on
abbrev pub outgoing : TacFunctionTree → ℕ
outgoing f = 4 * outgoing_words f

-- ---- values

abbrev pub is_among : List Place → (register : ℕ) → Bool
is_among [] r = false
is_among (Slot k ∷ places) r = is_among places r
is_among (Register q ∷ places) r = if q == r then true else is_among places r

abbrev pub used_among : List Place → (registers : List ℕ) → List ℕ
used_among places [] = []
used_among places (r ∷ registers) = if is_among places r then r ∷ used_among places registers else used_among places registers

-- x8, x9 and x18 to x27: a function gives them back to its caller as they were
abbrev pub saved_registers : List ℕ
saved_registers = 8 ∷ 9 ∷ 18 ∷ 19 ∷ 20 ∷ 21 ∷ 22 ∷ 23 ∷ 24 ∷ 25 ∷ 26 ∷ 27 ∷ []

-- those of them in which a temporary stands
abbrev pub used_registers : PlacesTree → List ℕ
used_registers p = used_among p.at saved_registers

-- how many words a frame keeps beside the return address and the arguments: a register or a slot each
abbrev pub kept : PlacesTree → ℕ
kept p = length (used_registers p) + slot_count p

-- ---- the return address

-- putchar and getchar are calls of the environment, which change no register but for a0
abbrev pub is_function : Callee → Bool
is_function (Function f) = true
is_function PutChar = false
is_function GetChar = false

abbrev pub calls_function : InstructionTree → Bool
calls_function (move x o) = false
calls_function (unary op x o) = false
calls_function (binary op x o p) = false
calls_function (convert s x o) = false
calls_function (address_of x p) = false
calls_function (load s x p) = false
calls_function (store s p o) = false
calls_function (copy size alignment p q) = false
calls_function (fill b p) = false
calls_function (call x f arguments) = is_function f
calls_function (jump to) = false
calls_function (branch c to) = false
calls_function (return o) = false

-- A leaf function calls none, and leaves the return address in x1. Where x1 is for something else, for a call of a function
-- or for a word that is out of the reach of an immediate and is written through x1, the frame keeps it.
unfoldable pub keeps_return_address : TacFunctionTree → PlacesTree → Bool
keeps_return_address f p = list_any calls_function f.code || nat_le reach (4 * (outgoing_words f + kept p) + total f.blocks)

abbrev pub return_words : TacFunctionTree → PlacesTree → ℕ
return_words f p = if keeps_return_address f p then 1 else 0

abbrev pub return_register : (is_kept : Bool) → List ℕ
return_register is_kept = if is_kept then 1 ∷ [] else []

-- the registers that the entry stores: x1, where the frame keeps it, and those that are given back
abbrev pub stored_registers : TacFunctionTree → PlacesTree → List ℕ
stored_registers f p = return_register (keeps_return_address f p) ++ used_registers p

-- ---- slots

-- how many temporaries that stand in slots come behind the last one that stands in this slot
abbrev pub behind_last : List Place → (k : ℕ) → Option ℕ
behind_last [] k = None
behind_last (p ∷ places) k = option_or (behind_last places k) (if same_place p (Slot k) then Some (slots_among places) else None)

abbrev pub words_before_slots : TacFunctionTree → PlacesTree → ℕ
words_before_slots f p = outgoing_words f + return_words f p + length (used_registers p)

-- a slot lies by the last temporary that stands in it: the frame has a word for each temporary in a slot, the last one's
-- first. Slots have numbers below the count of these temporaries.
abbrev pub slot_at : TacFunctionTree → PlacesTree → (k : ℕ) → ℕ
slot_at f p k = 4 * (words_before_slots f p + (if nat_lt k (slot_count p) then unwrap_or (behind_last p.at k) 0 else 0))

-- a temporary stands in the slot, so the frame has a word for it
pub record HasSlot (p : PlacesTree) (k : ℕ) : Type 0 where
  pub below : k < slot_count p
  pub behind : ℕ
  pub last : behind_last p.at k ≡ Some behind

-- ---- the frame

-- its words before the blocks
abbrev pub frame_words : TacFunctionTree → PlacesTree → ℕ
frame_words f p = outgoing_words f + return_words f p + kept p

-- the least multiple of 16 that has room for so many words and for the blocks, and isn't 0
unfoldable pub frame_cost : (words blocks : ℕ) → ℕ
frame_cost words blocks = (4 * words + blocks - 1) / 16 * 16 + 16

abbrev pub layout : TacFunctionTree → PlacesTree → Frame
layout f p = record {
  cost = frame_cost (frame_words f p) (total f.blocks);
  outgoing = outgoing f;
  slots = slot_at f p 0;
  placed = 4 * frame_words f p;
}

abbrev pub IsFrame : TacFunctionTree → PlacesTree → Frame → Type 0
IsFrame f p frame = frame ≡ layout f p

-- it has at most as many bytes as the largest
abbrev pub FrameFits : TacFunctionTree → PlacesTree → Type 0
FrameFits f p = (layout f p).cost ≤ largest_frame

-- ---- its parts

-- argument 8 + i of a call
abbrev pub argument_at : (i : ℕ) → ℕ
argument_at i = 4 * i

-- the register with this number among those that are stored, behind so many bytes of arguments
abbrev pub register_at : (outgoing i : ℕ) → ℕ
register_at outgoing i = outgoing + 4 * i

abbrev pub block_offset : TacFunctionTree → Frame → (i : ℕ) → ℕ
block_offset f frame i = frame.placed + offset f.blocks i
