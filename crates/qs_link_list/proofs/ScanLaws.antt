-- Lists of files are scanned as the lines that they are, and what is scanned is a list; where the scan stops, the bytes before begin a list.
use Rattle.std.proofs.Common.{◌≡◌, ℕ, zero, suc, ◌+◌, ◌<◌, ◌≤◌, Bool, true, false, ◌&&◌, ◌==◌, nat_lt, not, List, [], ◌∷◌, ◌++◌, length, Option, Some, None, Result, Ok, Err, refl, ap, sym, ◌∙◌, subst, arith, append_assoc, length-append, if◌then◌else◌}
use Rattle.std.proofs.lemmas.Bool.Decides.{Decides-eqb, nat_tests}
use Rattle.std.specs.List.{list_all}
use Rattle.qs_base.specs.Characters.{new_line, space}
use Rattle.qs_link_list.specs.Lines.{Line, is_graphic, is_file_name, has_names, line_text}
use Rattle.qs_link_list.specs.Lists.{line_limit, lines_text, IsList, BeginsList}
use Rattle.qs_link_list.specs.Reading.{Place, at_line, in_source, in_proof, Progress, progress, line, with_line, is_empty, behind, finished, or_at, scanned_from, scanned_on, start, scanned}
use Rattle.qs_link_list.proofs.LineLaws.{both, first_of, second_of, all_with, name_with, name_of_one, name_bytes, text_append, append_nil, text_with, place_text, read_text}

-- ---- what is read begins a list

-- so many lines are whole, and what is read of the next one begins a line
abbrev pub IsPlace : ℕ → Place → Type 0
IsPlace n at_line = n ≤ line_limit
IsPlace n (in_source s) = (n < line_limit) × (is_file_name s ≡ true)
IsPlace n (in_proof s p) = (n < line_limit) × (is_file_name s ≡ true) × (list_all is_graphic p ≡ true)

pub record IsGood (r : Progress) : Type 0 where
  pub named : list_all has_names r.lines ≡ true
  pub place : IsPlace (length r.lines) r.place

-- one more byte is read
pub record Goes (lines : List Line) (place : Place) (byte : ℕ) (to : Progress) : Type 0 where
  pub good : IsGood to
  pub text : read_text to ≡ read_text (progress lines place) ++ byte ∷ []

goes_to : (lines : List Line) (place : Place) (byte : ℕ) (from to : Progress) → Some from ≡ Some to → Goes lines place byte from → Goes lines place byte to
goes_to lines place byte from to e g = let same : from ≡ to = cc in let P : Progress → Type 0 = Goes lines place byte in subst P same g

more_bytes : (a b : List ℕ) (byte : ℕ) → a ++ (b ++ byte ∷ []) ≡ (a ++ b) ++ byte ∷ []
more_bytes a b byte = sym (append_assoc a b (byte ∷ []))

-- a line that ends
line_ends : (lines : List Line) (l : Line) (read : List ℕ) → line_text l ≡ read ++ new_line ∷ [] → lines_text (lines ++ l ∷ []) ++ [] ≡ (lines_text lines ++ read) ++ new_line ∷ []
line_ends lines l read e = append_nil (lines_text (lines ++ l ∷ [])) ∙ text_with lines l ∙ ap (λ t. lines_text lines ++ t) e ∙ more_bytes (lines_text lines) read new_line

one_line_more : (lines : List Line) (l : Line) → length lines < line_limit → length (lines ++ l ∷ []) ≤ line_limit
one_line_more lines l h = omega (arith, length-append lines (l ∷ []))

ended_good : (lines : List Line) (l : Line) → list_all has_names lines ≡ true → length lines < line_limit → has_names l ≡ true → IsGood (progress (lines ++ l ∷ []) at_line)
ended_good lines l named few h = record { named = all_with has_names lines l named h; place = one_line_more lines l few }

goes_line : (lines : List Line) (byte : ℕ) (to : Progress) (b g : Bool) → nat_lt (length lines) line_limit ≡ b → is_graphic byte ≡ g → list_all has_names lines ≡ true
    → (if b && g then Some (progress lines (in_source (byte ∷ []))) else None) ≡ Some to → Goes lines at_line byte to
goes_line lines byte to true true few g named h =
    goes_to lines at_line byte (progress lines (in_source (byte ∷ []))) to h
    (record { good = record { named = named; place = (grind (arith, nat_tests), name_of_one byte g) }; text = ap (λ t. t ++ byte ∷ []) (sym (append_nil (lines_text lines))) })
goes_line lines byte to true false few g named h = cc
goes_line lines byte to false g few k named h = cc

goes_source : (lines : List Line) (s : List ℕ) (byte : ℕ) (to : Progress) (g b c : Bool) → is_graphic byte ≡ g → (byte == space) ≡ b → (byte == new_line) ≡ c
    → list_all has_names lines ≡ true → length lines < line_limit → is_file_name s ≡ true
    → (if g then Some (progress lines (in_source (s ++ byte ∷ []))) else if b then Some (progress lines (in_proof s [])) else if c then Some (with_line lines s None) else None) ≡ Some to
    → Goes lines (in_source s) byte to
goes_source lines s byte to true b c g p q named few name h =
    goes_to lines (in_source s) byte (progress lines (in_source (s ++ byte ∷ []))) to h
    (record { good = record { named = named; place = (few, name_with s byte name g) }; text = more_bytes (lines_text lines) s byte })
goes_source lines s byte to false true c g p q named few name h =
    let e : byte ≡ space = (Decides-eqb byte space).0 p in
    goes_to lines (in_source s) byte (progress lines (in_proof s [])) to h
    (record { good = record { named = named; place = (few, name, refl) }; text = rw e (more_bytes (lines_text lines) s space) })
goes_source lines s byte to false false true g p q named few name h =
    let e : byte ≡ new_line = (Decides-eqb byte new_line).0 q in
    goes_to lines (in_source s) byte (with_line lines s None) to h
    (record { good = ended_good lines (line s None) named few (both (is_file_name s) true name refl); text = rw e (line_ends lines (line s None) s refl) })
goes_source lines s byte to false false false g p q named few name h = cc

option_named : (p : List ℕ) (byte : ℕ) → list_all is_graphic p ≡ true → not (is_empty p) ≡ true → is_file_name p ≡ true
option_named [] byte h k = cc
option_named (b ∷ bs) byte h k = h

goes_proof : (lines : List Line) (s p : List ℕ) (byte : ℕ) (to : Progress) (g c n : Bool) → is_graphic byte ≡ g → (byte == new_line) ≡ c → not (is_empty p) ≡ n
    → list_all has_names lines ≡ true → length lines < line_limit → is_file_name s ≡ true → list_all is_graphic p ≡ true
    → (if g then Some (progress lines (in_proof s (p ++ byte ∷ []))) else if c && n then Some (with_line lines s (Some p)) else None) ≡ Some to
    → Goes lines (in_proof s p) byte to
goes_proof lines s p byte to true c n g q r named few name bytes h =
    goes_to lines (in_proof s p) byte (progress lines (in_proof s (p ++ byte ∷ []))) to h
    (record { good = record { named = named; place = (few, name, all_with is_graphic p byte bytes g) }; text = simp append_assoc })
goes_proof lines s p byte to false true true g q r named few name bytes h =
    let e : byte ≡ new_line = (Decides-eqb byte new_line).0 q in
    goes_to lines (in_proof s p) byte (with_line lines s (Some p)) to h
    (record {
      good = ended_good lines (line s (Some p)) named few (both (is_file_name s) (is_file_name p) name (option_named p byte bytes r));
      text = rw e (line_ends lines (line s (Some p)) (s ++ space ∷ p) (simp append_assoc));
    })
goes_proof lines s p byte to false true false g q r named few name bytes h = cc
goes_proof lines s p byte to false false n g q r named few name bytes h = cc

goes : (lines : List Line) (place : Place) (byte : ℕ) (to : Progress) → IsGood (progress lines place) → behind lines place byte ≡ Some to → Goes lines place byte to
goes lines at_line byte to good h = goes_line lines byte to (nat_lt (length lines) line_limit) (is_graphic byte) refl refl good.named h
goes lines (in_source s) byte to good h = goes_source lines s byte to (is_graphic byte) (byte == space) (byte == new_line) refl refl refl good.named good.place.0 good.place.1 h
goes lines (in_proof s p) byte to good h =
    goes_proof lines s p byte to (is_graphic byte) (byte == new_line) (not (is_empty p)) refl refl refl good.named good.place.0 good.place.1 good.place.2 h

pub start_good : IsGood start
start_good = record { named = refl; place = omega arith }

-- ---- what is scanned is a list

pub record Scans (r : Progress) (bytes : List ℕ) (lines : List Line) : Type 0 where
  pub text : read_text r ++ bytes ≡ lines_text lines
  pub named : list_all has_names lines ≡ true
  pub some : 1 ≤ length lines
  pub few : length lines ≤ line_limit

some_lines : (lines : List Line) → is_empty lines ≡ false → 1 ≤ length lines
some_lines [] h = cc
some_lines (l ∷ ls) h = omega arith

ends_line : (at : ℕ) (lines found : List Line) (e : Bool) → is_empty lines ≡ e → IsGood (progress lines at_line) → or_at at (if e then None else Some lines) ≡ Ok found → Scans (progress lines at_line) [] found
ends_line at lines found true e good h = cc
ends_line at lines found false e good h =
    let same : lines ≡ found = cc in
    let P : List Line → Type 0 = λ ls. Scans (progress lines at_line) [] ls in
    subst P same (record { text = append_nil (lines_text lines ++ []) ∙ append_nil (lines_text lines); named = good.named; some = some_lines lines e; few = good.place })

ends : (at : ℕ) (lines : List Line) (place : Place) (found : List Line) → IsGood (progress lines place) → or_at at (finished lines place) ≡ Ok found → Scans (progress lines place) [] found
ends at lines at_line found good h = ends_line at lines found (is_empty lines) refl good h
ends at lines (in_source s) found good h = cc
ends at lines (in_proof s p) found good h = cc

scans_on : (at : ℕ) (r : Progress) (byte : ℕ) (bytes : List ℕ) (found : List Line) (next : Option Progress) → behind r.lines r.place byte ≡ next → IsGood r
    → ((to : Progress) → IsGood to → scanned_from (at + 1) to bytes ≡ Ok found → Scans to bytes found) → scanned_on at next bytes ≡ Ok found → Scans r (byte ∷ bytes) found
scans_on at r byte bytes found None e good further h = cc
scans_on at r byte bytes found (Some to) e good further h =
    let g : Goes r.lines r.place byte to = goes r.lines r.place byte to good e in
    let s : Scans to bytes found = further to g.good h in
    record { text = sym (append_assoc (read_text r) (byte ∷ []) bytes) ∙ (ap (λ t. t ++ bytes) (sym g.text) ∙ s.text); named = s.named; some = s.some; few = s.few }

pub scans : (bytes : List ℕ) (at : ℕ) (r : Progress) (found : List Line) → IsGood r → scanned_from at r bytes ≡ Ok found → Scans r bytes found
scans [] at r found good h = ends at r.lines r.place found good h
scans (byte ∷ bytes) at r found good h =
    scans_on at r byte bytes found (behind r.lines r.place byte) refl good (λ to g k. scans bytes (at + 1) to found g k) h

pub scanned_is_list : (text : List ℕ) (lines : List Line) → scanned text ≡ Ok lines → IsList text lines
scanned_is_list text lines h =
    let s : Scans start text lines = scans text 0 start lines start_good h in
    record { some = s.some; few = s.few; named = s.named; is = s.text }

-- ---- a list is scanned

abbrev GoesOn : ℕ → Progress → List ℕ → Progress → Type 0
GoesOn at from bytes to = (rest : List ℕ) → (later : ℕ) × (scanned_from at from (bytes ++ rest) ≡ scanned_from later to rest)

source_byte : (at : ℕ) (lines : List Line) (s : List ℕ) (b : ℕ) (rest : List ℕ) → is_graphic b ≡ true
    → scanned_from at (progress lines (in_source s)) (b ∷ rest) ≡ scanned_from (at + 1) (progress lines (in_source (s ++ b ∷ []))) rest
source_byte at lines s b rest g = rw g refl

proof_byte : (at : ℕ) (lines : List Line) (s p : List ℕ) (b : ℕ) (rest : List ℕ) → is_graphic b ≡ true
    → scanned_from at (progress lines (in_proof s p)) (b ∷ rest) ≡ scanned_from (at + 1) (progress lines (in_proof s (p ++ b ∷ []))) rest
proof_byte at lines s p b rest g = rw g refl

first_byte : (at : ℕ) (lines : List Line) (b : ℕ) (rest : List ℕ) → nat_lt (length lines) line_limit ≡ true → is_graphic b ≡ true
    → scanned_from at (progress lines at_line) (b ∷ rest) ≡ scanned_from (at + 1) (progress lines (in_source (b ∷ []))) rest
first_byte at lines b rest l g = rw (l, g) refl

source_goes : (bytes : List ℕ) (at : ℕ) (lines : List Line) (s : List ℕ) → list_all is_graphic bytes ≡ true → GoesOn at (progress lines (in_source s)) bytes (progress lines (in_source (s ++ bytes)))
source_goes [] at lines s h rest = (at, ap (λ t. scanned_from at (progress lines (in_source t)) rest) (sym (append_nil s)))
source_goes (b ∷ bs) at lines s h rest =
    let g : is_graphic b ≡ true = first_of (is_graphic b) (list_all is_graphic bs) h in
    let k : (later : ℕ) × (scanned_from (at + 1) (progress lines (in_source (s ++ b ∷ []))) (bs ++ rest) ≡ scanned_from later (progress lines (in_source ((s ++ b ∷ []) ++ bs))) rest) =
    source_goes bs (at + 1) lines (s ++ b ∷ []) (second_of (is_graphic b) (list_all is_graphic bs) h) rest in
    let e : (s ++ b ∷ []) ++ bs ≡ s ++ b ∷ bs = append_assoc s (b ∷ []) bs in
    (k.0, source_byte at lines s b (bs ++ rest) g ∙ (k.1 ∙ ap (λ t. scanned_from k.0 (progress lines (in_source t)) rest) e))

proof_goes : (bytes : List ℕ) (at : ℕ) (lines : List Line) (s p : List ℕ) → list_all is_graphic bytes ≡ true → GoesOn at (progress lines (in_proof s p)) bytes (progress lines (in_proof s (p ++ bytes)))
proof_goes [] at lines s p h rest = (at, ap (λ t. scanned_from at (progress lines (in_proof s t)) rest) (sym (append_nil p)))
proof_goes (b ∷ bs) at lines s p h rest =
    let g : is_graphic b ≡ true = first_of (is_graphic b) (list_all is_graphic bs) h in
    let k : (later : ℕ) × (scanned_from (at + 1) (progress lines (in_proof s (p ++ b ∷ []))) (bs ++ rest) ≡ scanned_from later (progress lines (in_proof s ((p ++ b ∷ []) ++ bs))) rest) =
    proof_goes bs (at + 1) lines s (p ++ b ∷ []) (second_of (is_graphic b) (list_all is_graphic bs) h) rest in
    let e : (p ++ b ∷ []) ++ bs ≡ p ++ b ∷ bs = append_assoc p (b ∷ []) bs in
    (k.0, proof_byte at lines s p b (bs ++ rest) g ∙ (k.1 ∙ ap (λ t. scanned_from k.0 (progress lines (in_proof s t)) rest) e))

name_goes : (s : List ℕ) (at : ℕ) (lines : List Line) → is_file_name s ≡ true → length lines < line_limit → GoesOn at (progress lines at_line) s (progress lines (in_source s))
name_goes [] at lines h few rest = cc
name_goes (b ∷ bs) at lines h few rest =
    let g : is_graphic b ≡ true = first_of (is_graphic b) (list_all is_graphic bs) h in
    let l : nat_lt (length lines) line_limit ≡ true = grind (arith, nat_tests) in
    let k : (later : ℕ) × (scanned_from (at + 1) (progress lines (in_source (b ∷ []))) (bs ++ rest) ≡ scanned_from later (progress lines (in_source (b ∷ bs))) rest) =
    source_goes bs (at + 1) lines (b ∷ []) (second_of (is_graphic b) (list_all is_graphic bs) h) rest in
    (k.0, first_byte at lines b (bs ++ rest) l g ∙ k.1)

-- a whole line
line_goes : (s : List ℕ) (proof : Option (List ℕ)) (at : ℕ) (lines : List Line) → has_names (line s proof) ≡ true → length lines < line_limit
    → GoesOn at (progress lines at_line) (line_text (line s proof)) (progress (lines ++ line s proof ∷ []) at_line)
line_goes s None at lines h few rest =
    let k : (later : ℕ) × (scanned_from at (progress lines at_line) (s ++ (new_line ∷ rest)) ≡ scanned_from later (progress lines (in_source s)) (new_line ∷ rest)) =
    name_goes s at lines (first_of (is_file_name s) true h) few (new_line ∷ rest) in
    let e : (s ++ new_line ∷ []) ++ rest ≡ s ++ (new_line ∷ rest) = append_assoc s (new_line ∷ []) rest in
    (k.0 + 1, ap (λ t. scanned_from at (progress lines at_line) t) e ∙ k.1)
line_goes s (Some p) at lines h few rest =
    let name : is_file_name s ≡ true = first_of (is_file_name s) (is_file_name p) h in
    let proof : is_file_name p ≡ true = second_of (is_file_name s) (is_file_name p) h in
    let k : (later : ℕ) × (scanned_from at (progress lines at_line) (s ++ (space ∷ (p ++ (new_line ∷ rest)))) ≡ scanned_from later (progress lines (in_source s)) (space ∷ (p ++ (new_line ∷ rest)))) =
    name_goes s at lines name few (space ∷ (p ++ (new_line ∷ rest))) in
    let m : (later : ℕ) × (scanned_from (k.0 + 1) (progress lines (in_proof s [])) (p ++ (new_line ∷ rest)) ≡ scanned_from later (progress lines (in_proof s p)) (new_line ∷ rest)) =
    proof_goes p (k.0 + 1) lines s [] (name_bytes p proof) (new_line ∷ rest) in
    let e : (s ++ space ∷ (p ++ new_line ∷ [])) ++ rest ≡ s ++ (space ∷ (p ++ (new_line ∷ rest))) = simp append_assoc in
    (m.0 + 1, ap (λ t. scanned_from at (progress lines at_line) t) e ∙ (k.1 ∙ (m.1 ∙ proof_ends p m.0 lines s rest proof)))
  where
    proof_ends : (p : List ℕ) (at : ℕ) (lines : List Line) (s rest : List ℕ) → is_file_name p ≡ true
        → scanned_from at (progress lines (in_proof s p)) (new_line ∷ rest) ≡ scanned_from (at + 1) (progress (lines ++ line s (Some p) ∷ []) at_line) rest
    proof_ends [] at lines s rest h = cc
    proof_ends (b ∷ bs) at lines s rest h = refl

lines_go : (more : List Line) (at : ℕ) (lines : List Line) → list_all has_names more ≡ true → length lines + length more ≤ line_limit
    → GoesOn at (progress lines at_line) (lines_text more) (progress (lines ++ more) at_line)
lines_go [] at lines h few rest = (at, ap (λ t. scanned_from at (progress t at_line) rest) (sym (append_nil lines)))
lines_go (l ∷ ls) at lines h few rest =
    let below : length lines < line_limit = omega arith in
    let k : (later : ℕ) × (scanned_from at (progress lines at_line) (line_text l ++ (lines_text ls ++ rest)) ≡ scanned_from later (progress (lines ++ l ∷ []) at_line) (lines_text ls ++ rest)) =
    line_goes l.source l.proof at lines (first_of (has_names l) (list_all has_names ls) h) below (lines_text ls ++ rest) in
    let fewer : length (lines ++ l ∷ []) + length ls ≤ line_limit = omega (arith, length-append lines (l ∷ [])) in
    let m : (later : ℕ) × (scanned_from k.0 (progress (lines ++ l ∷ []) at_line) (lines_text ls ++ rest) ≡ scanned_from later (progress ((lines ++ l ∷ []) ++ ls) at_line) rest) =
    lines_go ls k.0 (lines ++ l ∷ []) (second_of (has_names l) (list_all has_names ls) h) fewer rest in
    let e : (line_text l ++ lines_text ls) ++ rest ≡ line_text l ++ (lines_text ls ++ rest) = append_assoc (line_text l) (lines_text ls) rest in
    let f : (lines ++ l ∷ []) ++ ls ≡ lines ++ l ∷ ls = append_assoc lines (l ∷ []) ls in
    (m.0, ap (λ t. scanned_from at (progress lines at_line) t) e ∙ (k.1 ∙ (m.1 ∙ ap (λ t. scanned_from m.0 (progress t at_line) rest) f)))

finished_lines : (at : ℕ) (lines : List Line) → 1 ≤ length lines → scanned_from at (progress lines at_line) [] ≡ Ok lines
finished_lines at [] h = absurd (omega arith)
finished_lines at (l ∷ ls) h = refl

pub list_is_scanned : (text : List ℕ) (lines : List Line) → IsList text lines → scanned text ≡ Ok lines
list_is_scanned text lines h =
    let k : (later : ℕ) × (scanned_from 0 start (lines_text lines ++ []) ≡ scanned_from later (progress lines at_line) []) = lines_go lines 0 [] h.named (let f = h.few in omega arith) [] in
    ap (λ t. scanned t) (h.is ∙ sym (append_nil (lines_text lines))) ∙ (k.1 ∙ finished_lines k.0 lines h.some)

-- ---- where a scan stops

-- nothing is left and the lines aren't finished, or the next byte fits nothing
abbrev pub FailsAt : Progress → List ℕ → Type 0
FailsAt r [] = finished r.lines r.place ≡ None
FailsAt r (byte ∷ bytes) = behind r.lines r.place byte ≡ None

pub record Stop (from : ℕ) (r : Progress) (bytes : List ℕ) (at : ℕ) : Type 0 where
  pub front : List ℕ
  pub back : List ℕ
  pub split : bytes ≡ front ++ back
  pub place : at ≡ from + length front
  pub reached : Progress
  pub good : IsGood reached
  pub text : read_text reached ≡ read_text r ++ front
  pub leads : (rest : List ℕ) → scanned_from from r (front ++ rest) ≡ scanned_from at reached rest
  pub fails : FailsAt reached back

stop_here : (from at : ℕ) (r : Progress) (bytes : List ℕ) → from ≡ at → IsGood r → FailsAt r bytes → Stop from r bytes at
stop_here from at r bytes e good fails = record {
  front = [];
  back = bytes;
  split = refl;
  place = omega arith;
  reached = r;
  good = good;
  text = sym (append_nil (read_text r));
  leads = λ rest. ap (λ n. scanned_from n r rest) e;
  fails = fails;
}

stops_end : (from at : ℕ) (r : Progress) (found : Option (List Line)) → finished r.lines r.place ≡ found → IsGood r → or_at from found ≡ Err at → Stop from r [] at
stops_end from at r None e good h = stop_here from at r [] (cc) good e
stops_end from at r (Some lines) e good h = cc

stops_on : (from at : ℕ) (r : Progress) (byte : ℕ) (bytes : List ℕ) (next : Option Progress) → behind r.lines r.place byte ≡ next → IsGood r
    → ((to : Progress) → IsGood to → scanned_from (from + 1) to bytes ≡ Err at → Stop (from + 1) to bytes at) → scanned_on from next bytes ≡ Err at → Stop from r (byte ∷ bytes) at
stops_on from at r byte bytes None e good further h = stop_here from at r (byte ∷ bytes) (cc) good e
stops_on from at r byte bytes (Some to) e good further h =
    let g : Goes r.lines r.place byte to = goes r.lines r.place byte to good e in
    let s : Stop (from + 1) to bytes at = further to g.good h in
    record {
      front = byte ∷ s.front;
      back = s.back;
      split = ap (λ t. byte ∷ t) s.split;
      place = let p = s.place in omega arith;
      reached = s.reached;
      good = s.good;
      text = s.text ∙ (ap (λ t. t ++ s.front) g.text ∙ append_assoc (read_text r) (byte ∷ []) s.front);
      leads = λ rest. ap (λ n. scanned_on from n (s.front ++ rest)) e ∙ s.leads rest;
      fails = s.fails;
    }

pub stops : (bytes : List ℕ) (from at : ℕ) (r : Progress) → IsGood r → scanned_from from r bytes ≡ Err at → Stop from r bytes at
stops [] from at r good h = stops_end from at r (finished r.lines r.place) refl good h
stops (byte ∷ bytes) from at r good h = stops_on from at r byte bytes (behind r.lines r.place byte) refl good (λ to g k. stops bytes (from + 1) at to g k) h

-- ---- what is read begins a list

begins_by : (text rest : List ℕ) (lines : List Line) → 1 ≤ length lines → length lines ≤ line_limit → list_all has_names lines ≡ true → text ++ rest ≡ lines_text lines → BeginsList text
begins_by text rest lines some few named e = record { rest = rest; lines = lines; is = record { some = some; few = few; named = named; is = e } }

begins_with : (lines : List Line) (read rest : List ℕ) (l : Line) → list_all has_names lines ≡ true → length lines < line_limit → has_names l ≡ true → line_text l ≡ read ++ rest → BeginsList (lines_text lines ++ read)
begins_with lines read rest l named few name e =
    let more = length-append lines (l ∷ []) in
    begins_by (lines_text lines ++ read) rest (lines ++ l ∷ []) (omega arith) (omega arith) (all_with has_names lines l named name)
    (append_assoc (lines_text lines) read rest ∙ (ap (λ t. lines_text lines ++ t) (sym e) ∙ sym (text_with lines l)))

pub begins : (lines : List Line) (place : Place) → IsGood (progress lines place) → BeginsList (read_text (progress lines place))
begins [] at_line good = begins_by [] (97 ∷ new_line ∷ []) (line (97 ∷ []) None ∷ []) (omega arith) (omega arith) refl refl
begins (l ∷ ls) at_line good =
    begins_by (lines_text (l ∷ ls) ++ []) [] (l ∷ ls) (omega arith) good.place good.named (append_nil (lines_text (l ∷ ls) ++ []) ∙ append_nil (lines_text (l ∷ ls)))
begins lines (in_source s) good = begins_with lines s (new_line ∷ []) (line s None) good.named good.place.0 (both (is_file_name s) true good.place.1 refl) refl
begins lines (in_proof s p) good =
    begins_with lines (s ++ space ∷ p) (97 ∷ new_line ∷ []) (line s (Some (p ++ 97 ∷ []))) good.named good.place.0
    (both (is_file_name s) (is_file_name (p ++ 97 ∷ [])) good.place.1 (longer p good.place.2)) (simp append_assoc)
  where
    longer : (p : List ℕ) → list_all is_graphic p ≡ true → is_file_name (p ++ 97 ∷ []) ≡ true
    longer [] h = refl
    longer (b ∷ bs) h = name_with (b ∷ bs) 97 h refl
