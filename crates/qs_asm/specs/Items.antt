-- Items, and where they lie in code.
use Rattle.std.specs.Prelude.{◌≡◌, ◌⊎◌, ℕ, ◌+◌, List, [], ◌∷◌, map, Option, Some}
use Rattle.qs_base.specs.Words.{sub}
use Rattle.qs_isa.specs.declared.instruction.Instr.{Instr}
use Rattle.qs_isa.specs.declared.instruction.Instr.TheVariants as instructions
use Rattle.qs_isa.specs.declared.instruction.BranchKind.{BranchKind}
use Rattle.qs_isa.specs.declared.instruction.BranchKind.TheVariants.{Beq, Bne, Blt, Bge, Bltu, Bgeu}
use Rattle.qs_asm.specs.declared.item.Item.{Item}
use Rattle.qs_asm.specs.declared.item.Item.TheVariants.{Plain, Label, Jump, Branch}

-- the branch that is taken exactly where the other one isn't (RISC-V Unprivileged ISA 20191213, 2.5)
abbrev pub inverse : BranchKind → BranchKind
inverse Beq = Bne
inverse Bne = Beq
inverse Blt = Bge
inverse Bge = Blt
inverse Bltu = Bgeu
inverse Bgeu = Bltu

-- at: the instruction at an address; place: the address of a label. The items lie from an address to another. A branch
-- stands as itself, or inverted over a jump; that two words on is 8 bytes
abbrev pub Lays : (at : ℕ → Option Instr) → (place : ℕ → ℕ) → (from : ℕ) → List Item → (to : ℕ) → Type 0
Lays at place from [] to = from ≡ to
Lays at place from (Plain i ∷ items) to = (at from ≡ Some i) × Lays at place (from + 4) items to
Lays at place from (Label l ∷ items) to = (place l ≡ from) × Lays at place from items to
Lays at place from (Jump rd l ∷ items) to =
    (at from ≡ Some (instructions.Jal rd (sub (place l) from))) × Lays at place (from + 4) items to
Lays at place from (Branch kind a b l ∷ items) to =
    ((at from ≡ Some (instructions.Branch kind a b (sub (place l) from))) × Lays at place (from + 4) items to)
    ⊎ ((at from ≡ Some (instructions.Branch (inverse kind) a b 8))
    × ((at (from + 4) ≡ Some (instructions.Jal 0 (sub (place l) (from + 4)))) × Lays at place (from + 8) items to))

abbrev pub plain : List Instr → List Item
plain = map Plain

-- the words of an item, at most
abbrev pub item_words : Item → ℕ
item_words (Plain i) = 1
item_words (Label l) = 0
item_words (Jump rd l) = 1
item_words (Branch kind a b l) = 2
