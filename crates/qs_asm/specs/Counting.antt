-- Items whose labels count up: they have an assembly where their words are few.
use Rattle.std.specs.Prelude.{◌≡◌, ℕ, ◌+◌, ◌<◌, ◌^◌, List, [], ◌∷◌, sum_by, Some}
use Rattle.qs_isa.specs.declared.instruction.Instr.{Instr}
use Rattle.qs_asm.specs.declared.item.Item.{Item}
use Rattle.qs_asm.specs.declared.item.Item.TheVariants.{Plain, Label, Jump, Branch}
use Rattle.qs_asm.specs.Items.{item_words}
use Rattle.qs_asm.specs.Assembly.{assembled}

-- the labels, in the order of the items, are the numbers from the first on, up to the end
abbrev pub CountUp : (first : ℕ) → List Item → (end : ℕ) → Type 0
CountUp first [] end = first ≡ end
CountUp first (Plain i ∷ items) end = CountUp first items end
CountUp first (Label l ∷ items) end = (l ≡ first) × CountUp (first + 1) items end
CountUp first (Jump rd l ∷ items) end = CountUp first items end
CountUp first (Branch kind a b l ∷ items) end = CountUp first items end

-- what is jumped to is a label below this one
abbrev pub LeadBelow : (end : ℕ) → List Item → Type 0
LeadBelow end [] = Unit {0}
LeadBelow end (Plain i ∷ items) = LeadBelow end items
LeadBelow end (Label l ∷ items) = LeadBelow end items
LeadBelow end (Jump rd l ∷ items) = (l < end) × LeadBelow end items
LeadBelow end (Branch kind a b l ∷ items) = (l < end) × LeadBelow end items

-- so few words that JAL reaches from each to each
abbrev pub reached_words : ℕ
reached_words = 2 ^ 18

pub record HasAssembly (items : List Item) : Type 0 where
  pub code : List Instr
  pub is : assembled items ≡ Some code

abbrev pub CountedItemsAreAssembled : Type 0
CountedItemsAreAssembled =
    (items : List Item) (end : ℕ) → CountUp 0 items end → LeadBelow end items
    → sum_by item_words items < reached_words → HasAssembly items
