-- What is promised of instruction selection.
use Rattle.std.specs.Prelude.{◌≡◌, ℕ, ◌+◌, ◌*◌, ◌^◌, ◌<◌, ◌≤◌, true, List, [], ◌∷◌, length, sum_by, Option, Some, slice_get}
use Rattle.qs_base.specs.Parameters.{most_stack_arguments}
use Rattle.qs_isa.specs.Encoding.{IsInstr}
use Rattle.qs_isa.specs.declared.instruction.Instr.{Instr}
use Rattle.qs_asm.specs.declared.item.Item.{Item}
use Rattle.qs_asm.specs.declared.item.Item.TheVariants.{Plain, Label, Jump, Branch}
use Rattle.qs_asm.specs.Items.{Lays, plain, item_words}
use Rattle.qs_tac.specs.Trees.{InstructionTree, call, TacFunctionTree, TacUnitTree}
use Rattle.qs_tac.specs.Fits.{instruction_fits}
use Rattle.qs_tac.specs.Places.{PlacesTree, place_of, Accepted}
use Rattle.qs_tac.specs.Laws.{AreAccepted}
use Rattle.qs_tac.specs.Sizes.{most_passed, instruction_words, enter_words, words, unit_words}
use Rattle.qs_tac.specs.declared.places.Place.{Place}
use Rattle.qs_tac.specs.declared.places.Place.TheVariants.{Slot, Register}
use Rattle.qs_tac.specs.declared.operands.Operand.{Operand}
use Rattle.qs_frames.specs.Layout.{largest_frame}
use Rattle.qs_calls.specs.declared.callee.Callee.{Callee}
use Rattle.qs_emit_selection.specs.Operands.{Context, frame_of}
use Rattle.qs_emit_selection.specs.Limits.{most_arguments}
use Rattle.qs_emit_selection.specs.Emission.{Labels, instruction_items, enter, leave, function_items, unit_items}

-- ---- few arguments

-- a call passes at most as many words on the stack as one with the most arguments
abbrev pub PassesFew : TacFunctionTree → Type 0
PassesFew f = most_passed f.code ≤ most_stack_arguments

abbrev pub AllPassFew : TacUnitTree → Type 0
AllPassFew u = (f : ℕ) (g : TacFunctionTree) → slice_get u.functions f ≡ Some g → PassesFew g

-- ---- words

-- of a jump or a branch the registers; where it leads is assembly's matter
abbrev pub IsItem : Item → Type 0
IsItem (Plain i) = IsInstr i
IsItem (Label l) = Unit {0}
IsItem (Jump rd l) = rd < 32
IsItem (Branch kind left right l) = (left < 32) × (right < 32)

abbrev pub AreItems : List Item → Type 0
AreItems [] = Unit {0}
AreItems (i ∷ items) = IsItem i × AreItems items

abbrev pub IsPlace : Place → Type 0
IsPlace (Slot k) = Unit {0}
IsPlace (Register r) = r < 32

-- the registers of places are registers, the data have addresses, calls pass few arguments, and the frame is no larger than
-- the largest
pub record IsContext (c : Context) : Type 0 where
  pub places : (t : ℕ) → IsPlace (place_of c.places t)
  pub data_at : (block : ℕ) → c.data_at block < 2 ^ 32
  pub passes : PassesFew c.function
  pub cost : (frame_of c).cost ≤ largest_frame

abbrev pub HasFewArguments : InstructionTree → Type 0
HasFewArguments i = (x : Option ℕ) (f : Callee) (arguments : List Operand) → i ≡ call x f arguments → length arguments ≤ most_arguments

pub record AreSelectedWords (u : TacUnitTree) (c : Context) (labels : Labels) : Type 0 where
  pub enter : AreItems (plain (enter c))
  pub instruction :
      (i : InstructionTree) → instruction_fits u c.function i ≡ true → HasFewArguments i
      → AreItems (instruction_items c labels i)
  pub leave : AreItems (plain (leave c))

abbrev pub WhatIsSelectedAreWords : Type 0
WhatIsSelectedAreWords = (u : TacUnitTree) (c : Context) (labels : Labels) → IsContext c → AreSelectedWords u c labels

-- ---- how many

pub record KeepsWords (c : Context) (labels : Labels) : Type 0 where
  pub enter : length (enter c) ≤ enter_words c.function
  pub instruction : (i : InstructionTree) → sum_by item_words (instruction_items c labels i) ≤ instruction_words c.function i
  -- and at least one, so that no step of linear code takes no step
  pub some : (i : InstructionTree) → 1 ≤ length (instruction_items c labels i)

abbrev pub WordsAreKept : Type 0
WordsAreKept =
    (c : Context) (labels : Labels) → Accepted c.function c.places → PassesFew c.function → KeepsWords c labels

-- ---- functions and units

abbrev pub FunctionsKeepWords : Type 0
FunctionsKeepWords =
    (c : Context) (labels : Labels) (f : ℕ) → Accepted c.function c.places → PassesFew c.function
    → sum_by item_words (function_items c labels f) ≤ words c.function

-- wherever a unit's items lie, they end at most so many words further on
pub record UnitKeepsWords (u : TacUnitTree) (ps : List PlacesTree) (data_at : ℕ → ℕ) : Type 0 where
  pub items : sum_by item_words (unit_items u ps data_at) ≤ unit_words u
  pub laid :
      (at : ℕ → Option Instr) (place : ℕ → ℕ) (from to : ℕ) → Lays at place from (unit_items u ps data_at) to
      → to ≤ from + 4 * unit_words u

abbrev pub UnitsKeepWords : Type 0
UnitsKeepWords =
    (u : TacUnitTree) (ps : List PlacesTree) (data_at : ℕ → ℕ) → AreAccepted u ps → AllPassFew u
    → UnitKeepsWords u ps data_at
