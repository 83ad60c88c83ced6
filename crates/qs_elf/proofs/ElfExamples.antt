-- Parts of a file by hand: what a reader of ELF looks at first, the note, and where the code begins.
use Rattle.std.proofs.Common.{◌≡◌, [], ◌∷◌, take, drop, replicate, refl}
use Rattle.qs_elf.specs.Elf.{Parts, code_at, data_at, elf_bytes}

-- two words of code, no data, and as many bytes before the code as an image with one function has
abbrev small : Parts
small = record { entry = 65536; head = replicate 52 7; code = replicate 8 9; data_bytes = [] }

-- an executable for RISC-V, of version 1
the_type : take 8 (drop 16 (elf_bytes small)) ≡ 2 ∷ 0 ∷ 243 ∷ 0 ∷ 1 ∷ 0 ∷ 0 ∷ 0 ∷ []
the_type = refl

-- the code is loaded from its page to its address
the_code_segment : take 16 (drop 52 (elf_bytes small)) ≡ 1 ∷ 0 ∷ 0 ∷ 0 ∷ 0 ∷ 16 ∷ 0 ∷ 0 ∷ 0 ∷ 0 ∷ 1 ∷ 0 ∷ 0 ∷ 0 ∷ 1 ∷ 0 ∷ []
the_code_segment = refl

-- the bytes of the owner's name, those of the head, the type, the name
the_note : take 16 (drop 148 (elf_bytes small)) ≡ 4 ∷ 0 ∷ 0 ∷ 0 ∷ 52 ∷ 0 ∷ 0 ∷ 0 ∷ 1 ∷ 0 ∷ 0 ∷ 0 ∷ 81 ∷ 83 ∷ 67 ∷ 0 ∷ []
the_note = refl

-- the head is followed by zeros
the_head : take 3 (drop 214 (elf_bytes small)) ≡ 7 ∷ 7 ∷ 0 ∷ []
the_head = refl

the_places : (code_at 52 ≡ 4096) × (data_at 52 8 ≡ 8192) × (code_at 3932 ≡ 4096) × (code_at 3933 ≡ 8192)
the_places = (refl, refl, refl, refl)
