-- What is promised of items.
use Rattle.std.specs.Prelude.{◌↔◌, ℕ, ◌+◌, ◌*◌, ◌≤◌, List, ◌++◌, sum_by, Option}
use Rattle.qs_isa.specs.declared.instruction.Instr.{Instr}
use Rattle.qs_asm.specs.declared.item.Item.{Item}
use Rattle.qs_asm.specs.Items.{Lays, item_words}

abbrev pub ItemsAreLaidOneAfterTheOther : Type 0
ItemsAreLaidOneAfterTheOther =
    (at : ℕ → Option Instr) (place : ℕ → ℕ) (from : ℕ) (a b : List Item) (to : ℕ)
    → Lays at place from (a ++ b) to ↔ ((middle : ℕ) × (Lays at place from a middle × Lays at place middle b to))

-- the bytes that items take
pub record TakesWords (from : ℕ) (items : List Item) (to : ℕ) : Type 0 where
  pub most : to ≤ from + 4 * sum_by item_words items
  pub on : from ≤ to

abbrev pub ItemsTakeTheirWords : Type 0
ItemsTakeTheirWords =
    (at : ℕ → Option Instr) (place : ℕ → ℕ) (from : ℕ) (items : List Item) (to : ℕ)
    → Lays at place from items to → TakesWords from items to
