-- A line of a list of files: the name of a source, and behind a blank that of its proof file, where it has one.
use Rattle.std.specs.Prelude.{ℕ, Bool, true, false, ◌&&◌, List, [], ◌∷◌, ◌++◌, Option, Some, None, option_map, string_bytes}
use Rattle.std.specs.List.{list_all}
use Rattle.qs_base.specs.Bytes.{is_between}
use Rattle.qs_base.specs.Characters.{new_line, space}
use Rattle.qs_link_list.specs.declared.entry.Entry.{Entry}

pub record Line : Type 0 where
  pub source : List ℕ
  pub proof : Option (List ℕ)

-- a character of ASCII that can be seen: `!` to `~`
abbrev pub is_graphic : ℕ → Bool
is_graphic byte = is_between 33 126 byte

-- at least one byte, all of which can be seen
abbrev pub is_file_name : List ℕ → Bool
is_file_name [] = false
is_file_name (byte ∷ bytes) = is_graphic byte && list_all is_graphic bytes

abbrev pub is_option_name : Option (List ℕ) → Bool
is_option_name None = true
is_option_name (Some name) = is_file_name name

abbrev pub has_names : Line → Bool
has_names line = is_file_name line.source && is_option_name line.proof

-- what stands behind the source
abbrev pub behind_source : Option (List ℕ) → List ℕ
behind_source None = new_line ∷ []
behind_source (Some name) = space ∷ (name ++ new_line ∷ [])

abbrev pub line_text : Line → List ℕ
line_text line = line.source ++ behind_source line.proof

-- ---- as the code holds them

abbrev pub line_of : Entry → Line
line_of entry = record { source = string_bytes entry.source; proof = option_map string_bytes entry.proof }
