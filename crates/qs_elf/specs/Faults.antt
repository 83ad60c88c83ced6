-- The tests of bytes that are read as an executable, in their order, and the fault of the first that fails.
use Rattle.std.specs.Prelude.{◌≡◌, ◌≢◌, ℕ, ◌+◌, ◌*◌, List, [], ◌∷◌, length, nat_le, ◌==◌, not, if◌then◌else◌, Option, Some, None, option_map, Result, MatchResult}
use Rattle.std.specs.declared.vec.Vec.{Vec}
use Rattle.std.specs.declared.alloc.Global.{Global}
use Rattle.qs_image.specs.Bytes.{word, entry_word, code_count, byte_count}
use Rattle.qs_image.specs.Faults as image
use Rattle.qs_elf.specs.Elf.{Parts, file_bytes, elf_bytes, image_of, head_at}
use Rattle.qs_elf.specs.Parts.{parts_in, stated_head, stated_code, stated_data}
use Rattle.qs_elf.specs.declared.fault.StatedWord.{StatedWord}
use Rattle.qs_elf.specs.declared.fault.StatedWord.TheVariants.{Entry, Code, Data}
use Rattle.qs_elf.specs.declared.fault.ElfFault.{ElfFault}
use Rattle.qs_elf.specs.declared.fault.ElfFault.TheVariants.{Short, Length, Field, Image, Differs, NoMemory}

abbrev pub stated_number : StatedWord → ℕ
stated_number Entry = 0
stated_number Code = 1
stated_number Data = 2

-- the first fault, where there is one, comes before the next
abbrev pub or_else : Option ElfFault → Option ElfFault → Option ElfFault
or_else None next = next
or_else (Some fault) next = Some fault

-- the first place, from this number on, where a list is not the other
abbrev pub difference_from : (at : ℕ) → List ℕ → List ℕ → Option ℕ
difference_from at [] others = None
difference_from at (a ∷ more) [] = Some at
difference_from at (a ∷ more) (b ∷ others) = if a == b then difference_from (at + 1) more others else Some at

-- the bytes of the file that the sizes ask for
abbrev pub stated_bytes : List ℕ → ℕ
stated_bytes file = file_bytes (stated_head file) (stated_code file) (stated_data file)

-- the first byte that isn't the one of each file with these parts
abbrev pub field_fault : List ℕ → Option ElfFault
field_fault file = option_map Field (difference_from 0 file (elf_bytes (parts_in file)))

-- the first word that isn't the image's
abbrev pub word_fault : Parts → Option ElfFault
word_fault p =
    if p.entry == word entry_word (image_of p) then
    (if length p.code == 4 * code_count (image_of p) then
    (if length p.data_bytes == byte_count (image_of p) then None else Some (Differs Data))
    else Some (Differs Code))
    else Some (Differs Entry)

abbrev pub image_fault : Parts → Option ElfFault
image_fault p = or_else (option_map Image (image.first_fault (image_of p))) (word_fault p)

-- the fault of the first test that fails, or `None`, which is where the bytes are an executable of an image
unfoldable pub first_fault : List ℕ → Option ElfFault
first_fault file =
    if not (nat_le head_at (length file)) then Some Short else
    if not (length file == stated_bytes file) then Some (Length (stated_bytes file)) else
    or_else (field_fault file) (image_fault (parts_in file))

-- the fault that is answered is that of these tests, or there was no memory
abbrev pub Halts : Option ElfFault → ElfFault → Type 0
Halts first fault = fault ≢ NoMemory → first ≡ Some fault

-- it is that of the first test that fails
abbrev pub Comes : List ℕ → ElfFault → Type 0
Comes file fault = Halts (first_fault file) fault

-- the answer is this image, or there was no memory
abbrev pub Answers : Result (Vec ℕ Global) ElfFault → List ℕ → Type 0
Answers result image = MatchResult result (λ bytes. bytes.items ≡ image) (λ fault. fault ≡ NoMemory)
