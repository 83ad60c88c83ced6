-- Lists of files, and texts that are none.
use Rattle.std.proofs.Common.{◌≡◌, ℕ, List, [], ◌∷◌, None, Some, Ok, Err, codes, refl}
use Rattle.qs_link_list.specs.Reading.{line, scanned}

-- a source, and one with a proof file
two_lines : scanned (codes "a.c\nb.c b.drv\n") ≡ Ok (line (codes "a.c") None ∷ line (codes "b.c") (Some (codes "b.drv")) ∷ [])
two_lines = refl

-- there is no line
nothing : scanned [] ≡ Err 0
nothing = refl

-- the last line isn't ended
not_ended : scanned (codes "a.c") ≡ Err 3
not_ended = refl

-- a second blank, and a name behind the proof file's
second_blank : scanned (codes "a.c  p\n") ≡ Err 4
second_blank = refl

third_name : scanned (codes "a.c p q\n") ≡ Err 5
third_name = refl

-- a blank with no name behind it
no_proof : scanned (codes "a.c \n") ≡ Err 4
no_proof = refl

empty_line : scanned (codes "a.c\n\n") ≡ Err 4
empty_line = refl
