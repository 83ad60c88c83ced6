-- Items that have an assembly where their words are few, and why they have none.
use Rattle.std.specs.Prelude.{ℕ, ◌≤◌, List, sum_by}
use Rattle.qs_asm.specs.declared.item.Item.{Item}
use Rattle.qs_asm.specs.Items.{item_words}
use Rattle.qs_asm.specs.Counting.{CountUp, LeadBelow, reached_words}
use Rattle.qs_compile.specs.declared.fault.BuildFault.{BuildFault}
use Rattle.qs_compile.specs.declared.fault.BuildFault.TheVariants.{NoMemory, TooManyFunctions, NamesTooLong, TooManyParameters, FrameTooLarge, DataTooLarge, CodeTooLong}

-- their labels count up, and each jump leads to one of them
pub record AreCounted (items : List Item) : Type 0 where
  pub end : ℕ
  pub up : CountUp 0 items end
  pub lead : LeadBelow end items

-- no memory was found, or the words are more than jumps reach
abbrev pub IsCodeFault : List Item → BuildFault → Type 0
IsCodeFault items NoMemory = Unit {0}
IsCodeFault items CodeTooLong = reached_words ≤ sum_by item_words items
IsCodeFault items TooManyFunctions = ⊥
IsCodeFault items NamesTooLong = ⊥
IsCodeFault items TooManyParameters = ⊥
IsCodeFault items FrameTooLarge = ⊥
IsCodeFault items DataTooLarge = ⊥
