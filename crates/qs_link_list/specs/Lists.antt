-- Lists of files: 1 to 64 lines, and the first byte at which a text is none.
use Rattle.std.specs.Prelude.{◌≡◌, ℕ, suc, ◌<◌, ◌≤◌, true, List, [], ◌∷◌, ◌++◌, length, take, flat_map}
use Rattle.std.specs.List.{list_all}
use Rattle.qs_link_list.specs.Lines.{Line, has_names, line_text}

-- the most lines
abbrev pub line_limit : ℕ
line_limit = 64

abbrev pub lines_text : List Line → List ℕ
lines_text [] = []
lines_text (line ∷ lines) = line_text line ++ lines_text lines

-- the text is these lines, at least one
pub record IsList (text : List ℕ) (lines : List Line) : Type 0 where
  pub some : 1 ≤ length lines
  pub few : length lines ≤ line_limit
  pub named : list_all has_names lines ≡ true
  pub is : text ≡ lines_text lines

-- some text behind it makes it a list
pub record BeginsList (text : List ℕ) : Type 0 where
  pub rest : List ℕ
  pub lines : List Line
  pub is : IsList (text ++ rest) lines

-- The bytes before this one begin a list, and with it they begin none; or they are all and are none.
pub record IsBadAt (text : List ℕ) (at : ℕ) : Type 0 where
  pub within : at ≤ length text
  pub before : BeginsList (take at text)
  pub not_with : at < length text → BeginsList (take (suc at) text) → ⊥
  pub none : (lines : List Line) → IsList text lines → ⊥
