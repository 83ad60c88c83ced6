-- Files in one list of bytes: of each a byte where it starts, its name and its content. Beside each byte stands what part
-- of a file it is.
use Rattle.std.specs.Prelude.{◌≡◌, ℕ, ◌+◌, ◌-◌, ◌≤◌, List, [], ◌∷◌, ◌++◌, length, replicate, min, vec_len, vec_capacity}
use Rattle.qs_ports.specs.declared.memory.span.Span.{Span}
use Rattle.qs_ports.specs.declared.memory.cells.Cells.{Cells}
use Rattle.qs_ports.specs.declared.memory.cells.Part.{Part}
use Rattle.qs_ports.specs.declared.memory.cells.Part.TheVariants.{Start, Name, Content}

-- What the parts tell that were seen so far, from the last one to the front: where the content begins and ends of the file
-- whose start is looked for, and the files whose starts were seen, the oldest first.
pub record Seen : Type 0 where
  pub content : ℕ
  pub end : ℕ
  pub files : List Span

-- nothing is seen of so many parts
abbrev pub none_seen : ℕ → Seen
none_seen total = record { content = total; end = total; files = [] }

-- one more part is seen, the one at this place
abbrev pub see : ℕ → Part → Seen → Seen
see place Start s = record { content = place; end = place; files = record { name = place + 1; content = s.content; end = s.end } ∷ s.files }
see place Name s = s
see place Content s = record s { content = place }

-- all of these are seen, of which the first is at this place
abbrev pub seen : ℕ → List Part → Seen → Seen
seen place [] s = s
seen place (part ∷ parts) s = see place part (seen (place + 1) parts s)

-- where the files lie, the oldest first
abbrev pub spans_of : List Part → List Span
spans_of parts = (seen 0 parts (none_seen (length parts))).files

-- how many bytes more there is room for
abbrev pub room_of : Cells → ℕ
room_of c = min (vec_capacity c.bytes - vec_len c.bytes) (vec_capacity c.parts - vec_len c.parts)

-- at most so many bytes of the room were taken
abbrev pub TakesRoom : Cells → Cells → ℕ → Type 0
TakesRoom c d taken = room_of c ≤ room_of d + taken

-- there is no file
pub record IsEmpty (c : Cells) : Type 0 where
  pub bytes : c.bytes.items ≡ []
  pub parts : c.parts.items ≡ []

-- the cells are as before
pub record HasSameCells (c d : Cells) : Type 0 where
  pub bytes : d.bytes.items ≡ c.bytes.items
  pub parts : d.parts.items ≡ c.parts.items

-- these bytes were added, all of this part
pub record Adds (c d : Cells) (part : Part) (piece : List ℕ) : Type 0 where
  pub bytes : d.bytes.items ≡ c.bytes.items ++ piece
  pub parts : d.parts.items ≡ c.parts.items ++ replicate (length piece) part

-- a file of this name was started, with no content, and lies there
pub record Starts (c d : Cells) (name : List ℕ) (file : Span) : Type 0 where
  pub bytes : d.bytes.items ≡ c.bytes.items ++ 0 ∷ name
  pub parts : d.parts.items ≡ c.parts.items ++ Start ∷ replicate (length name) Name
  pub named : file.name ≡ length c.bytes.items + 1
  pub started : file.content ≡ file.name + length name
  pub ended : file.end ≡ file.content

-- the piece was added to the content of the newest file
abbrev pub Extends : Cells → Cells → List ℕ → Type 0
Extends c d piece = Adds c d Content piece
