-- A list of files byte by byte: how far it is read, and what the next byte makes of that.
use Rattle.std.specs.Prelude.{ℕ, ◌+◌, ◌==◌, nat_lt, Bool, true, false, ◌&&◌, not, List, [], ◌∷◌, ◌++◌, length, map, Option, Some, None, Result, Ok, Err, string_bytes, if◌then◌else◌}
use Rattle.qs_base.specs.Characters.{new_line, space}
use Rattle.qs_link_list.specs.Lines.{Line, is_graphic, line_of}
use Rattle.qs_link_list.specs.Lists.{line_limit}
use Rattle.qs_link_list.specs.declared.reading.Place as code
use Rattle.qs_link_list.specs.declared.reading.Place.TheVariants as places
use Rattle.qs_link_list.specs.declared.reading.Reader.{Reader}

-- where a line is read: nothing of it yet, so much of its source, or its source and so much of its proof file's name
pub data Place : Type 0 where
  at_line : Place
  in_source : List ℕ → Place
  in_proof : List ℕ → List ℕ → Place

-- the lines that are whole, and where the next one is read
pub record Progress : Type 0 where
  pub lines : List Line
  pub place : Place

abbrev pub progress : List Line → Place → Progress
progress lines place = record { lines = lines; place = place }

abbrev pub line : List ℕ → Option (List ℕ) → Line
line source proof = record { source = source; proof = proof }

abbrev pub with_line : List Line → List ℕ → Option (List ℕ) → Progress
with_line lines source proof = progress (lines ++ line source proof ∷ []) at_line

abbrev pub is_empty : {A : Type 0} → List A → Bool
is_empty [] = true
is_empty (x ∷ xs) = false

-- behind one more byte; none where it fits nothing
abbrev pub behind : List Line → Place → ℕ → Option Progress
behind lines at_line byte =
    if nat_lt (length lines) line_limit && is_graphic byte then Some (progress lines (in_source (byte ∷ []))) else None
behind lines (in_source s) byte =
    if is_graphic byte then Some (progress lines (in_source (s ++ byte ∷ []))) else
    if byte == space then Some (progress lines (in_proof s [])) else
    if byte == new_line then Some (with_line lines s None) else None
behind lines (in_proof s p) byte =
    if is_graphic byte then Some (progress lines (in_proof s (p ++ byte ∷ []))) else
    if byte == new_line && not (is_empty p) then Some (with_line lines s (Some p)) else None

-- where all bytes are read: the last line is whole, and there is one
abbrev pub finished : List Line → Place → Option (List Line)
finished lines at_line = if is_empty lines then None else Some lines
finished lines (in_source s) = None
finished lines (in_proof s p) = None

abbrev pub or_at : {A : Type 0} → ℕ → Option A → Result A ℕ
or_at at None = Err at
or_at at (Some a) = Ok a

-- what follows behind a byte, which had so many before it, where it fits
abbrev pub go_on : {A : Type 0} → ℕ → Option Progress → (Progress → Result A ℕ) → Result A ℕ
go_on at None further = Err at
go_on at (Some to) further = further to

-- the lines, or the number of the first byte that fits nothing, where so many are read
abbrev pub scanned_from : (at : ℕ) → Progress → List ℕ → Result (List Line) ℕ
scanned_from at r [] = or_at at (finished r.lines r.place)
scanned_from at r (byte ∷ bytes) = go_on at (behind r.lines r.place byte) (λ to. scanned_from (at + 1) to bytes)

abbrev pub scanned_on : (at : ℕ) → Option Progress → List ℕ → Result (List Line) ℕ
scanned_on at next bytes = go_on at next (λ to. scanned_from (at + 1) to bytes)

abbrev pub start : Progress
start = progress [] at_line

abbrev pub scanned : List ℕ → Result (List Line) ℕ
scanned text = scanned_from 0 start text

-- ---- as the code holds it

abbrev pub place_of : code.Place → Place
place_of places.Line = at_line
place_of (places.Source s) = in_source (string_bytes s)
place_of (places.Proof s p) = in_proof (string_bytes s) (string_bytes p)

abbrev pub progress_of : Reader → Progress
progress_of r = progress (map line_of r.entries.items) (place_of r.place)
