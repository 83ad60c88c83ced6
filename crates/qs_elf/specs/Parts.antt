-- The parts of an image and of a file, by what the bytes say.
use Rattle.std.specs.Prelude.{◌≡◌, ℕ, ◌+◌, ◌-◌, ◌*◌, List, length, take, drop}
use Rattle.qs_image.specs.Bytes.{word, entry_word, code_count, byte_count}
use Rattle.qs_image.specs.Faults.{HasNoFault}
use Rattle.qs_elf.specs.Elf.{Parts, head_at, code_at, data_at, elf_bytes}
use Rattle.qs_elf.specs.declared.parts.Parts as declared

-- how many bytes stand before the code of an image
abbrev pub head_bytes : List ℕ → ℕ
head_bytes image = length image - (4 * code_count image + byte_count image)

abbrev pub parts_of : List ℕ → Parts
parts_of image = record {
  entry = word entry_word image;
  head = take (head_bytes image) image;
  code = take (4 * code_count image) (drop (head_bytes image) image);
  data_bytes = drop (4 * code_count image) (drop (head_bytes image) image);
}

-- the file of an image
abbrev pub elf_of : List ℕ → List ℕ
elf_of image = elf_bytes (parts_of image)

-- the words of a file that say its sizes in bytes, by their offsets divided by 4: of the head, the code, the data
abbrev pub stated_entry : List ℕ → ℕ
stated_entry file = word 6 file

abbrev pub stated_head : List ℕ → ℕ
stated_head file = word 38 file

abbrev pub stated_code : List ℕ → ℕ
stated_code file = word 17 file

abbrev pub stated_data : List ℕ → ℕ
stated_data file = word 25 file

-- what a file carries, by the sizes that it states
abbrev pub parts_in : List ℕ → Parts
parts_in file = record {
  entry = stated_entry file;
  head = take (stated_head file) (drop head_at file);
  code = take (stated_code file) (drop (code_at (stated_head file)) file);
  data_bytes = drop (data_at (stated_head file) (stated_code file)) file;
}

-- the code's parts
abbrev pub parts_tree : declared.Parts → Parts
parts_tree p = record { entry = p.entry; head = p.head.now; code = p.code.now; data_bytes = p.data_bytes.now }

-- the file is that of the image
pub record IsElfOf (file image : List ℕ) : Type 0 where
  pub accepted : HasNoFault image
  pub made : file ≡ elf_of image
