-- What an answer says of a text, and what it must be.
use Rattle.std.specs.Prelude.{◌≡◌, ◌⊎◌, ℕ, List, map, Option, Some, option_map, Result, Ok, Err, String, Vec, string_bytes}
use Rattle.std.specs.declared.alloc.Global.{Global}
use Rattle.qs_link_list.specs.Lines.{Line, line_of}
use Rattle.qs_link_list.specs.Lists.{IsList, IsBadAt}
use Rattle.qs_link_list.specs.Reading.{Progress, behind, finished, place_of, progress_of, with_line}
use Rattle.qs_link_list.specs.declared.reading.Place.{Place}
use Rattle.qs_link_list.specs.declared.reading.Reader.{Reader}
use Rattle.qs_link_list.specs.declared.entry.Entry.{Entry}
use Rattle.qs_link_list.specs.declared.fault.ListFault.{ListFault}
use Rattle.qs_link_list.specs.declared.fault.ListFault.TheVariants.{NoMemory, BadByte}

abbrev pub SaysFault : List ℕ → ListFault → Type 0
SaysFault text NoMemory = Unit {0}
SaysFault text (BadByte at) = IsBadAt text at

-- what an answer says of the text; want of memory says nothing
abbrev pub Says : List ℕ → Result (Vec Entry Global) ListFault → Type 0
Says text (Ok entries) = IsList text (map line_of entries.items)
Says text (Err fault) = SaysFault text fault

-- the answer has these lines, if memory was found
abbrev pub GivesLines : List Line → Result (Vec Entry Global) ListFault → Type 0
GivesLines lines (Ok entries) = map line_of entries.items ≡ lines
GivesLines lines (Err fault) = fault ≡ NoMemory

-- the answer is this fault, if memory was found
abbrev pub GivesFault : ℕ → Result (Vec Entry Global) ListFault → Type 0
GivesFault at (Ok entries) = ⊥
GivesFault at (Err fault) = (fault ≡ BadByte at) ⊎ (fault ≡ NoMemory)

-- the answer is what is due, if memory was found
abbrev pub Gives : Result (List Line) ℕ → Result (Vec Entry Global) ListFault → Type 0
Gives due (Ok entries) = due ≡ Ok (map line_of entries.items)
Gives due (Err NoMemory) = Unit {0}
Gives due (Err (BadByte at)) = due ≡ Err at

-- entries of these lines, or none
abbrev pub AreLines : Option (List Line) → Option (Vec Entry Global) → Type 0
AreLines due result = option_map (λ v. map line_of v.items) result ≡ due

-- the reader behind a byte
abbrev pub Reads : Option Progress → Option Reader → Type 0
Reads due result = option_map progress_of result ≡ due

-- behind one more byte, where a line is read here, behind these
abbrev pub Follows : List Entry → Place → (byte : ℕ) → Option Reader → Type 0
Follows entries place byte result = Reads (behind (map line_of entries) (place_of place) byte) result

-- behind the end of the line with these names
abbrev pub EndsLine : List Entry → String Global → Option (String Global) → Option Reader → Type 0
EndsLine entries source proof result =
    Reads (Some (with_line (map line_of entries) (string_bytes source) (option_map string_bytes proof))) result

-- the lines of what is read, where all bytes are
abbrev pub Finishes : List Entry → Place → Option (Vec Entry Global) → Type 0
Finishes entries place result = AreLines (finished (map line_of entries) (place_of place)) result
