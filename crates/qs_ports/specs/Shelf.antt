-- Files in memory: one list of bytes that only grows, and where each file lies in it, the oldest first. A file hides the
-- older ones of its name.
use Rattle.std.specs.Prelude.{◌≡◌, ℕ, ◌≤◌, ◌<◌, List, [], ◌∷◌, length, Bool, true, false, bytes_eq, nat_eq, if◌then◌else◌, slice_range, Option, Some, None, fold}
use Rattle.qs_ports.specs.Cells.{spans_of}
use Rattle.qs_ports.specs.StoreView.{Files}
use Rattle.qs_ports.specs.declared.memory.cells.Cells.{Cells}
use Rattle.qs_ports.specs.declared.memory.span.Span.{Span}

-- the name of a file, and its content
abbrev pub name_at : List ℕ → Span → List ℕ
name_at bytes s = slice_range bytes s.name s.content

abbrev pub content_at : List ℕ → Span → List ℕ
content_at bytes s = slice_range bytes s.content s.end

-- this file, where it has the name, and else the one that was found before
abbrev pub named_or : List ℕ → List ℕ → Option Span → Span → Option Span
named_or bytes name found s = if bytes_eq (name_at bytes s) name then Some s else found

-- the newest file of this name
abbrev pub find : List ℕ → List Span → List ℕ → Option Span
find bytes spans name = fold (named_or bytes name) None spans

-- the content of a file that may be there
abbrev pub content_of : List ℕ → Option Span → Option (List ℕ)
content_of bytes None = None
content_of bytes (Some s) = Some (content_at bytes s)

-- the files by their names
abbrev pub files_of : List ℕ → List Span → Files
files_of bytes spans name = content_of bytes (find bytes spans name)

-- the name of a file that may be there
abbrev pub name_of : List ℕ → Option Span → Option (List ℕ)
name_of bytes None = None
name_of bytes (Some s) = Some (name_at bytes s)

-- the name of the newest file
abbrev pub newest_name : List ℕ → List Span → List ℕ
newest_name bytes spans = fold (λ _ s. name_at bytes s) [] spans

-- the name of the newest file, where it is open for writing
abbrev pub writing_name : List ℕ → List Span → Bool → Option (List ℕ)
writing_name bytes spans false = None
writing_name bytes spans true = Some (newest_name bytes spans)

-- the file lies within so many bytes
pub record IsWithin (s : Span) (n : ℕ) : Type 0 where
  pub named : s.name ≤ s.content
  pub started : s.content ≤ s.end
  pub ended : s.end ≤ n

-- all files do
abbrev pub AreWithin : List Span → ℕ → Type 0
AreWithin [] n = Unit {0}
AreWithin (s ∷ ss) n = IsWithin s n × AreWithin ss n

-- a file does that may be there
abbrev pub OptionWithin : Option Span → ℕ → Type 0
OptionWithin None n = Unit {0}
OptionWithin (Some s) n = IsWithin s n

-- there is a file
abbrev pub HasFiles : Cells → Type 0
HasFiles c = 0 < length (spans_of c.parts.items)

-- a file that may be there is the newest of its name
abbrev pub IsNewest : Option Span → List ℕ → List Span → Type 0
IsNewest None bytes spans = Unit {0}
IsNewest (Some s) bytes spans = find bytes spans (name_at bytes s) ≡ Some s

-- the same of files in cells
abbrev pub IsCurrent : Option Span → Cells → Type 0
IsCurrent reading c = IsNewest reading c.bytes.items (spans_of c.parts.items)

-- the file that was created, where it has the name of this one
abbrev pub newer_of : List ℕ → Span → Span → Span
newer_of bytes s created = if bytes_eq (name_at bytes s) (name_at bytes created) then created else s

-- the same of a file that may be there
abbrev pub renewed : List ℕ → Option Span → Span → Option Span
renewed bytes None created = None
renewed bytes (Some s) created = Some (newer_of bytes s created)

-- a file that may be there: if it ended at the first place, it ends at the second
abbrev pub extended : Option Span → ℕ → ℕ → Option Span
extended None end to = None
extended (Some s) end to = Some (if nat_eq s.end end then record s { end = to } else s)
