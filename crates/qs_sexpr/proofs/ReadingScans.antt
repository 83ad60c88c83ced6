-- Each reading and each fault of a text is what its scan gives.
use Rattle.std.proofs.Common.{arith, ◌≡◌, ℕ, suc, ◌+◌, ◌<◌, ◌≤◌, Bool, List, [], ◌∷◌, ◌++◌, length, take, drop, refl, sym, ap, subst, ◌∙◌, append_assoc, if◌then◌else◌, Ok, Err, le-ltb}
use Rattle.std.proofs.lemmas.List.{append-nil}
use Rattle.qs_sexpr.specs.Pieces.{first_piece}
use Rattle.qs_sexpr.specs.Trees.{Sexp, number, symbol, list, Sexps, no_parts, part_and}
use Rattle.qs_sexpr.specs.Reading.{Reads, nothing, white_space, a_number, a_symbol, a_list, Reading, Within, outside, inside, Stops, bad_byte, bad_number, closes_nothing, ends_open, too_deep, Fault}
use Rattle.qs_sexpr.specs.Scan.{Layer, Rest, act, parts_of, scan, scanned}
use Rattle.qs_sexpr.specs.declared.fault.SexprFault.{SexprFault}
use Rattle.qs_sexpr.specs.declared.fault.SexprFault.TheVariants as faults
use Rattle.qs_sexpr.specs.declared.pieces.Piece.{Piece}
use Rattle.qs_sexpr.specs.declared.pieces.Piece.TheVariants.{White, Open, Close, Number, Symbol, BadByte, BadNumber}
use Rattle.qs_sexpr.proofs.ScanLaws.{IsIn, piece_in, skipped, open_acts}

abbrev pub parts_list : Sexps → List Sexp
parts_list no_parts = []
parts_list (part_and part parts) = part ∷ parts_list parts

pub parts_of_list : (parts : Sexps) → parts_of (parts_list parts) ≡ parts
parts_of_list no_parts = refl
parts_of_list (part_and part parts) = ap (λ (ps : Sexps). part_and part ps) (parts_of_list parts)

pub piece_is_in : (byte : ℕ) (bytes : List ℕ) (p : Piece) → first_piece byte bytes ≡ p → IsIn (length bytes) p
piece_is_in byte bytes p e = let P : Piece → Type 0 = λ x. IsIn (length bytes) x in subst P e (piece_in byte bytes)

pub acts_on : (outer : List Layer) (done : List Sexp) (at byte : ℕ) (bytes : List ℕ) (p : Piece) → first_piece byte bytes ≡ p
    → scan outer done at 0 (byte ∷ bytes) ≡ act p outer done at byte bytes (λ o d more. scan o d (at + 1) more bytes)
acts_on outer done at byte bytes p e = ap (λ (q : Piece). act q outer done at byte bytes (λ o d more. scan o d (at + 1) more bytes)) e

pub passes : (outer : List Layer) (done now : List Sexp) (at more byte : ℕ) (bytes : List ℕ) (p : Piece) → first_piece byte bytes ≡ p → more ≤ length bytes → ((go : Rest) → act p outer done at byte bytes go ≡ go outer now more)
    → scan outer done at 0 (byte ∷ bytes) ≡ scan outer now (at + 1 + more) 0 (drop more bytes)
passes outer done now at more byte bytes p e h a =
    acts_on outer done at byte bytes p e ∙ (a (λ o d more. scan o d (at + 1) more bytes) ∙ skipped outer now (at + 1) more bytes h)

pub opens : (outer : List Layer) (done : List Sexp) (at byte : ℕ) (bytes : List ℕ) → first_piece byte bytes ≡ Open → length outer < 1024
    → scan outer done at 0 (byte ∷ bytes) ≡ scan (record { place = at; before = done } ∷ outer) [] (at + 1) 0 bytes
opens outer done at byte bytes e h = acts_on outer done at byte bytes Open e ∙ open_acts outer done at byte bytes (λ o d more. scan o d (at + 1) more bytes) h

-- ---- readings

pub reads_scan : {depth at end : ℕ} {text rest : List ℕ} {parts : Sexps} → Reads depth at text parts end rest
    → (outer : List Layer) (done : List Sexp) → length outer ≡ depth → scan outer done at 0 text ≡ scan outer (done ++ parts_list parts) end 0 rest
reads_scan {at = at} {text = text} nothing outer done h = ap (λ (d : List Sexp). scan outer d at 0 text) (sym (append-nil done))
reads_scan (white_space {at = at} {more = more} {byte = byte} {bytes = bytes} e r) outer done h =
    passes outer done done at more byte bytes (White more) e (piece_is_in byte bytes (White more) e) (λ go. refl) ∙ reads_scan r outer done h
reads_scan {end = end} {rest = rest} (a_number {at = at} {more = more} {byte = byte} {value = value} {bytes = bytes} {parts = parts} e r) outer done h =
    passes outer done (done ++ number at value ∷ []) at more byte bytes (Number more value) e (piece_is_in byte bytes (Number more value) e) (λ go. refl)
    ∙ (reads_scan r outer (done ++ number at value ∷ []) h ∙ ap (λ (d : List Sexp). scan outer d end 0 rest) (append_assoc done (number at value ∷ []) (parts_list parts)))
reads_scan {end = end} {rest = rest} (a_symbol {at = at} {more = more} {byte = byte} {bytes = bytes} {parts = parts} e r) outer done h =
    let s : Sexp = symbol at (byte ∷ take more bytes) in
    passes outer done (done ++ s ∷ []) at more byte bytes (Symbol more) e (piece_is_in byte bytes (Symbol more) e) (λ go. refl)
    ∙ (reads_scan r outer (done ++ s ∷ []) h ∙ ap (λ (d : List Sexp). scan outer d end 0 rest) (append_assoc done (s ∷ []) (parts_list parts)))
reads_scan {end = end} {rest = rest} (a_list {depth = depth} {at = at} {byte = byte} {closed = closed} {last = last} {bytes = bytes} {after = after} {inner = inner} {parts = parts} e deep i c r) outer done h =
    let l : Layer = record { place = at; before = done } in
    opens outer done at byte bytes e (omega (arith, h, deep))
    ∙ (reads_scan i (l ∷ outer) [] (ap suc h)
    ∙ (acts_on (l ∷ outer) (parts_list inner) closed last after Close c
    ∙ (ap (λ (ps : Sexps). scan outer (done ++ list at ps ∷ []) (closed + 1) 0 after) (parts_of_list inner)
    ∙ (reads_scan r outer (done ++ list at inner ∷ []) h
    ∙ ap (λ (d : List Sexp). scan outer d end 0 rest) (append_assoc done (list at inner ∷ []) (parts_list parts))))))

pub reading_scanned : (text : List ℕ) (parts : Sexps) → Reading text parts → scanned text ≡ Ok (parts_list parts)
reading_scanned text parts r = reads_scan r.reads [] [] refl

-- ---- faults

record Reached (text : List ℕ) (depth at : ℕ) (rest : List ℕ) : Type 0 where
  outer : List Layer
  done : List Sexp
  depth_is : length outer ≡ depth
  same : scanned text ≡ scan outer done at 0 rest

reached : {text rest : List ℕ} {depth at : ℕ} → Within text depth at rest → Reached text depth at rest
reached (outside {parts = parts} r) = record { outer = []; done = parts_list parts; depth_is = refl; same = reads_scan r [] [] refl }
reached {text = text} (inside {depth = depth} {opened = opened} {byte = byte} {bytes = bytes} {parts = parts} w e deep r) =
    let a : Reached text depth opened (byte ∷ bytes) = reached w in
    let d = a.depth_is in
    let l : Layer = record { place = opened; before = a.done } in
    record {
      outer = l ∷ a.outer;
      done = parts_list parts;
      depth_is = ap suc d;
      same = a.same ∙ (opens a.outer a.done opened byte bytes e (omega (arith, d, deep)) ∙ reads_scan r (l ∷ a.outer) [] (ap suc d));
    }

closes_none : (outer : List Layer) (done : List Sexp) (at byte : ℕ) (bytes : List ℕ) → length outer ≡ 0 → first_piece byte bytes ≡ Close → scan outer done at 0 (byte ∷ bytes) ≡ Err (faults.Unbalanced at)
closes_none [] done at byte bytes h e = acts_on [] done at byte bytes Close e
closes_none (layer ∷ outer) done at byte bytes h e = absurd (omega (arith, h))

ends_in_list : (outer : List Layer) (done : List Sexp) (at depth : ℕ) → length outer ≡ suc depth → scan outer done at 0 [] ≡ Err (faults.Unbalanced at)
ends_in_list [] done at depth h = absurd (omega (arith, h))
ends_in_list (layer ∷ outer) done at depth h = refl

stops_scan : {depth at : ℕ} {rest : List ℕ} {fault : SexprFault} → Stops depth at rest fault → (outer : List Layer) (done : List Sexp) → length outer ≡ depth → scan outer done at 0 rest ≡ Err fault
stops_scan (bad_byte {at = at} {more = more} {byte = byte} {bytes = bytes} e) outer done h = acts_on outer done at byte bytes (BadByte more) e
stops_scan (bad_number {at = at} {byte = byte} {bytes = bytes} e) outer done h = acts_on outer done at byte bytes BadNumber e
stops_scan (closes_nothing {at = at} {byte = byte} {bytes = bytes} e) outer done h = closes_none outer done at byte bytes h e
stops_scan (ends_open {depth = depth} {at = at}) outer done h = ends_in_list outer done at depth h
stops_scan (too_deep {at = at} {byte = byte} {bytes = bytes} e deep) outer done h =
    acts_on outer done at byte bytes Open e ∙ ap (λ (b : Bool). if b then scan (record { place = at; before = done } ∷ outer) [] (at + 1) 0 bytes else Err (faults.TooDeep at)) (le-ltb (length outer) 1024 (omega (arith, h, deep)))

pub fault_scanned : (text : List ℕ) (fault : SexprFault) → Fault text fault → scanned text ≡ Err fault
fault_scanned text fault f =
    let a : Reached text f.depth f.at f.rest = reached f.within in
    a.same ∙ stops_scan f.stops a.outer a.done a.depth_is
