-- The executable of an image (Tool Interface Standard, ELF 1.2, book I; RISC-V ELF psABI, "File Header"): two segments to load,
-- the code and the data, and a note that holds what the image says besides.
use Rattle.std.specs.Prelude.{ℕ, ◌+◌, ◌-◌, ◌*◌, ◌/◌, ◌%◌, List, [], ◌∷◌, ◌++◌, length, replicate}
use Rattle.qs_isa.specs.Addresses.{code_start, data_start}
use Rattle.qs_image.specs.Image.{words_bytes}

-- the bytes of a file that is read
abbrev pub most_file_bytes : ℕ
most_file_bytes = 33554432

-- what a file is made from
pub record Parts : Type 0 where
  -- the address of the first instruction to run
  pub entry : ℕ
  -- the bytes of the image before its code
  pub head : List ℕ
  -- the bytes of the code, and of the data
  pub code : List ℕ
  pub data_bytes : List ℕ

-- the bytes of the image, which stand in the file one behind the other
abbrev pub image_of : Parts → List ℕ
image_of p = p.head ++ (p.code ++ p.data_bytes)

-- ---- where what stands

-- the least multiple of a unit that is at least so many
abbrev pub rounded_up : (unit count : ℕ) → ℕ
rounded_up unit count = (count + (unit - 1)) / unit * unit

-- the bytes of a page, at whose multiples segments begin
abbrev pub page : ℕ
page = 4096

-- the header of the file, three headers of segments
abbrev pub note_at : ℕ
note_at = 52 + 3 * 32

-- three words, a name of four bytes
abbrev pub head_at : ℕ
head_at = note_at + 3 * 4 + 4

-- the note's bytes, by those of the head
abbrev pub note_bytes : (head : ℕ) → ℕ
note_bytes head = 3 * 4 + 4 + rounded_up 4 head

abbrev pub code_at : (head : ℕ) → ℕ
code_at head = rounded_up page (note_at + note_bytes head)

abbrev pub data_at : (head code : ℕ) → ℕ
data_at head code = rounded_up page (code_at head + code)

-- the bytes of the file, by those of head, code and data
abbrev pub file_bytes : (head code size : ℕ) → ℕ
file_bytes head code size = data_at head code + size

-- ---- the file

-- a half of a word, the lowest byte first
abbrev pub half_bytes : ℕ → List ℕ
half_bytes half = half % 256 ∷ half / 256 % 256 ∷ []

abbrev pub halves_bytes : List ℕ → List ℕ
halves_bytes [] = []
halves_bytes (half ∷ halves) = half_bytes half ++ halves_bytes halves

-- ELF, of 32 bits, the lowest byte first, version 1, of no particular system
abbrev pub identification : List ℕ
identification = 127 ∷ 69 ∷ 76 ∷ 70 ∷ 1 ∷ 1 ∷ 1 ∷ 0 ∷ 0 ∷ 0 ∷ 0 ∷ 0 ∷ 0 ∷ 0 ∷ 0 ∷ 0 ∷ []

-- the type of an executable, and the machine RISC-V
abbrev pub executable : ℕ
executable = 2

abbrev pub risc_v : ℕ
risc_v = 243

-- types of segments
abbrev pub to_load : ℕ
to_load = 1

abbrev pub note : ℕ
note = 4

-- flags of segments
abbrev pub may_run : ℕ
may_run = 1

abbrev pub may_write : ℕ
may_write = 2

abbrev pub may_read : ℕ
may_read = 4

-- the version 1, the entry, the offset of the headers of segments, no sections, no flags
abbrev pub first_words : (entry : ℕ) → List ℕ
first_words entry = 1 ∷ entry ∷ 52 ∷ 0 ∷ 0 ∷ []

-- the bytes of this header, those of a segment's header and how many there are, no sections
abbrev pub last_halves : List ℕ
last_halves = 52 ∷ 32 ∷ 3 ∷ 0 ∷ 0 ∷ 0 ∷ []

abbrev pub file_header : (entry : ℕ) → List ℕ
file_header entry = identification ++ (halves_bytes (executable ∷ risc_v ∷ []) ++ (words_bytes (first_words entry) ++ halves_bytes last_halves))

-- the header of a segment: both addresses are the same, and so are its bytes in the file and in memory
pub record Segment : Type 0 where
  pub kind : ℕ
  pub offset : ℕ
  pub address : ℕ
  pub size : ℕ
  pub flags : ℕ
  pub alignment : ℕ

abbrev pub segment_words : Segment → List ℕ
segment_words s = s.kind ∷ s.offset ∷ s.address ∷ s.address ∷ s.size ∷ s.size ∷ s.flags ∷ s.alignment ∷ []

abbrev pub code_segment : (head code : ℕ) → Segment
code_segment head code = record { kind = to_load; offset = code_at head; address = code_start; size = code; flags = may_read + may_run; alignment = page }

abbrev pub data_segment : (head code size : ℕ) → Segment
data_segment head code size =
    record { kind = to_load; offset = data_at head code; address = data_start; size = size; flags = may_read + may_write; alignment = page }

abbrev pub note_segment : (head : ℕ) → Segment
note_segment head = record { kind = note; offset = note_at; address = 0; size = note_bytes head; flags = may_read; alignment = 4 }

abbrev pub segments : (head code size : ℕ) → List ℕ
segments head code size =
    words_bytes (segment_words (code_segment head code))
    ++ (words_bytes (segment_words (data_segment head code size)) ++ words_bytes (segment_words (note_segment head)))

-- the bytes of its name, those of the head, the type 1
abbrev pub note_words : (head : ℕ) → List ℕ
note_words head = 4 ∷ head ∷ 1 ∷ []

-- the name of the note's owner
abbrev pub owner : List ℕ
owner = 81 ∷ 83 ∷ 67 ∷ 0 ∷ []

-- what stands before the head
abbrev pub front : (entry head code size : ℕ) → List ℕ
front entry head code size = file_header entry ++ (segments head code size ++ (words_bytes (note_words head) ++ owner))

-- from the end of the code on
abbrev pub behind_code : Parts → List ℕ
behind_code p = replicate (data_at (length p.head) (length p.code) - (code_at (length p.head) + length p.code)) 0 ++ p.data_bytes

-- from the end of the head on
abbrev pub behind_head : Parts → List ℕ
behind_head p = replicate (code_at (length p.head) - (head_at + length p.head)) 0 ++ (p.code ++ behind_code p)

abbrev pub elf_bytes : Parts → List ℕ
elf_bytes p = front p.entry (length p.head) (length p.code) (length p.data_bytes) ++ (p.head ++ behind_head p)
