-- What is appended to bytes, and parts whose sizes fit a word.
use Rattle.std.specs.Prelude.{◌≡◌, ℕ, ◌<◌, ◌^◌, List, ◌++◌, length}
use Rattle.qs_elf.specs.Elf.{Parts, Segment, file_bytes}
use Rattle.qs_elf.specs.declared.framing.Segment as declared

-- these bytes were put behind the others
abbrev pub Appends : List ℕ → List ℕ → List ℕ → Type 0
Appends before after bytes = after ≡ before ++ bytes

-- the size of the file, and so each size in it, fits a word
abbrev pub IsSmall : Parts → Type 0
IsSmall p = file_bytes (length p.head) (length p.code) (length p.data_bytes) < 2 ^ 32

abbrev pub segment_tree : declared.Segment → Segment
segment_tree s = record { kind = s.kind; offset = s.offset; address = s.address; size = s.size; flags = s.flags; alignment = s.alignment }
