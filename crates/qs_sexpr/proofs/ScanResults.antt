-- What the scan of a text gives is a reading of it, or its first fault.
use Rattle.std.proofs.Common.{arith, ◌≡◌, ℕ, zero, suc, ◌+◌, ◌<◌, ◌≤◌, Bool, true, false, List, [], ◌∷◌, ◌++◌, length, take, drop, refl, sym, ap, subst, nat_lt, if◌then◌else◌, Ok, Err, ltb-true, ltb-false}
use Rattle.std.proofs.lemmas.List.{append-nil, length-drop}
use Rattle.qs_sexpr.specs.Pieces.{first_piece}
use Rattle.qs_sexpr.specs.Trees.{Sexp, number, symbol, list, Sexps, no_parts, part_and}
use Rattle.qs_sexpr.specs.Reading.{Reads, nothing, white_space, a_number, a_symbol, a_list, Reading, Within, outside, inside, Stops, bad_byte, bad_number, closes_nothing, ends_open, too_deep, Fault}
use Rattle.qs_sexpr.specs.Scan.{Layer, Answer, act, parts_of, scan, scanned}
use Rattle.qs_sexpr.specs.declared.fault.SexprFault.{SexprFault}
use Rattle.qs_sexpr.specs.declared.fault.SexprFault.TheVariants as faults
use Rattle.qs_sexpr.specs.declared.pieces.Piece.{Piece}
use Rattle.qs_sexpr.specs.declared.pieces.Piece.TheVariants.{White, Open, Close, Number, Symbol, BadByte, BadNumber}
use Rattle.qs_sexpr.proofs.ScanLaws.{skipped}
use Rattle.qs_sexpr.proofs.ReadingScans.{acts_on, piece_is_in}

-- ---- parts behind parts

joined : Sexps → Sexps → Sexps
joined no_parts others = others
joined (part_and part parts) others = part_and part (joined parts others)

parts_of-append : (ss ts : List Sexp) → joined (parts_of ss) (parts_of ts) ≡ parts_of (ss ++ ts)
unfolding joined
parts_of-append [] ts = refl
parts_of-append (s ∷ ss) ts = ap (λ (ps : Sexps). part_and s ps) (parts_of-append ss ts)

appended : {depth at middle end : ℕ} {text between rest : List ℕ} {parts others : Sexps} → Reads depth at text parts middle between → Reads depth middle between others end rest → Reads depth at text (joined parts others) end rest
unfolding joined
appended nothing s = s
appended (white_space e r) s = white_space e (appended r s)
appended (a_number e r) s = a_number e (appended r s)
appended (a_symbol e r) s = a_symbol e (appended r s)
appended (a_list e deep i c r) s = a_list e deep i c (appended r s)

goes_on : (depth at middle end : ℕ) (text between rest : List ℕ) (done more : List Sexp) → Reads depth at text (parts_of done) middle between → Reads depth middle between (parts_of more) end rest → Reads depth at text (parts_of (done ++ more)) end rest
goes_on depth at middle end text between rest done more r s =
    let P : Sexps → Type 0 = λ ps. Reads depth at text ps end rest in
    subst P (parts_of-append done more) (appended r s)

-- ---- what stands before a byte: these lists are open, and the innermost has these parts so far

data Standing (text : List ℕ) : List Layer → List Sexp → ℕ → List ℕ → Type 0 where
  at_top : {done : List Sexp} {at : ℕ} {rest : List ℕ} → Reads 0 0 text (parts_of done) at rest → Standing text [] done at rest
  in_list : {layer : Layer} {outer : List Layer} {done : List Sexp} {byte at : ℕ} {bytes rest : List ℕ} → Standing text outer layer.before layer.place (byte ∷ bytes) → first_piece byte bytes ≡ Open → length outer < 1024
      → Reads (suc (length outer)) (layer.place + 1) bytes (parts_of done) at rest → Standing text (layer ∷ outer) done at rest

extends : {text : List ℕ} {outer : List Layer} {done : List Sexp} {at : ℕ} {rest : List ℕ} → Standing text outer done at rest → (more : List Sexp) (end : ℕ) (after : List ℕ) → Reads (length outer) at rest (parts_of more) end after → Standing text outer (done ++ more) end after
extends {text = text} {done = done} {at = at} {rest = rest} (at_top r) more end after s = at_top (goes_on 0 0 at end text rest after done more r s)
extends {done = done} {at = at} {rest = rest} (in_list {layer = layer} {outer = outer} {bytes = bytes} w e deep r) more end after s =
    in_list w e deep (goes_on (suc (length outer)) (layer.place + 1) at end bytes rest after done more r s)

passed : {text : List ℕ} {outer : List Layer} {done : List Sexp} {at : ℕ} {rest : List ℕ} → Standing text outer done at rest → (end : ℕ) (after : List ℕ) → Reads (length outer) at rest no_parts end after → Standing text outer done end after
passed {text = text} {outer = outer} {done = done} s end after r =
    let P : List Sexp → Type 0 = λ d. Standing text outer d end after in
    subst P (append-nil done) (extends s [] end after r)

within : {text : List ℕ} {outer : List Layer} {done : List Sexp} {at : ℕ} {rest : List ℕ} → Standing text outer done at rest → Within text (length outer) at rest
within (at_top r) = outside r
within (in_list w e deep r) = inside (within w) e deep r

-- ---- the scan from there on

abbrev pub Told : List ℕ → Answer → Type 0
Told text (Ok parts) = Reading text (parts_of parts)
Told text (Err fault) = Fault text fault

stopped : (text : List ℕ) (outer : List Layer) (done : List Sexp) (at : ℕ) (rest : List ℕ) (fault : SexprFault) → Standing text outer done at rest → Stops (length outer) at rest fault → Fault text fault
stopped text outer done at rest fault s h = record { depth = length outer; at = at; rest = rest; within = within s; stops = h }

-- the scan of shorter texts
abbrev Shorter : List ℕ → ℕ → Type 0
Shorter text n = (outer : List Layer) (done : List Sexp) (at : ℕ) (rest : List ℕ) → length rest ≤ n → Standing text outer done at rest → Told text (scan outer done at 0 rest)

later : (text : List ℕ) (n : ℕ) → Shorter text n → (outer : List Layer) (done : List Sexp) (at more : ℕ) (bytes : List ℕ) → length bytes ≤ n → more ≤ length bytes → Standing text outer done (at + 1 + more) (drop more bytes) → Told text (scan outer done (at + 1) more bytes)
later text n go outer done at more bytes l h s =
    let k = length-drop more bytes in
    let P : Answer → Type 0 = Told text in
    subst P (sym (skipped outer done (at + 1) more bytes h)) (go outer done (at + 1 + more) (drop more bytes) (omega (arith, k, l)) s)

by_depth : (text : List ℕ) (n : ℕ) → Shorter text n → (outer : List Layer) (done : List Sexp) (at byte : ℕ) (bytes : List ℕ) → length bytes ≤ n → first_piece byte bytes ≡ Open → Standing text outer done at (byte ∷ bytes)
    → (b : Bool) → nat_lt (length outer) 1024 ≡ b → Told text (if b then scan (record { place = at; before = done } ∷ outer) [] (at + 1) 0 bytes else Err (faults.TooDeep at))
by_depth text n go outer done at byte bytes l e s true h =
    go (record { place = at; before = done } ∷ outer) [] (at + 1) bytes l (in_list s e (ltb-true (length outer) 1024 h) nothing)
by_depth text n go outer done at byte bytes l e s false h = stopped text outer done at (byte ∷ bytes) (faults.TooDeep at) s (too_deep e (ltb-false (length outer) 1024 h))

closes : (text : List ℕ) (n : ℕ) → Shorter text n → (outer : List Layer) (done : List Sexp) (at byte : ℕ) (bytes : List ℕ) → length bytes ≤ n → first_piece byte bytes ≡ Close → Standing text outer done at (byte ∷ bytes)
    → Told text (act Close outer done at byte bytes (λ o d more. scan o d (at + 1) more bytes))
closes text n go [] done at byte bytes l e s = stopped text [] done at (byte ∷ bytes) (faults.Unbalanced at) s (closes_nothing e)
closes text n go (layer ∷ outer) done at byte bytes l e (in_list w f deep r) =
    go outer (layer.before ++ list layer.place (parts_of done) ∷ []) (at + 1) bytes l (extends w (list layer.place (parts_of done) ∷ []) (at + 1) bytes (a_list f deep r e nothing))

by_piece : (text : List ℕ) (n : ℕ) → Shorter text n → (outer : List Layer) (done : List Sexp) (at byte : ℕ) (bytes : List ℕ) → length bytes ≤ n → Standing text outer done at (byte ∷ bytes)
    → (p : Piece) → first_piece byte bytes ≡ p → Told text (act p outer done at byte bytes (λ o d more. scan o d (at + 1) more bytes))
by_piece text n go outer done at byte bytes l s (White more) e =
    later text n go outer done at more bytes l (piece_is_in byte bytes (White more) e) (passed s (at + 1 + more) (drop more bytes) (white_space e nothing))
by_piece text n go outer done at byte bytes l s Open e = by_depth text n go outer done at byte bytes l e s (nat_lt (length outer) 1024) refl
by_piece text n go outer done at byte bytes l s Close e = closes text n go outer done at byte bytes l e s
by_piece text n go outer done at byte bytes l s (Number more value) e =
    later text n go outer (done ++ number at value ∷ []) at more bytes l (piece_is_in byte bytes (Number more value) e) (extends s (number at value ∷ []) (at + 1 + more) (drop more bytes) (a_number e nothing))
by_piece text n go outer done at byte bytes l s (Symbol more) e =
    later text n go outer (done ++ symbol at (byte ∷ take more bytes) ∷ []) at more bytes l (piece_is_in byte bytes (Symbol more) e) (extends s (symbol at (byte ∷ take more bytes) ∷ []) (at + 1 + more) (drop more bytes) (a_symbol e nothing))
by_piece text n go outer done at byte bytes l s (BadByte more) e = stopped text outer done at (byte ∷ bytes) (faults.BadByte (at + more)) s (bad_byte e)
by_piece text n go outer done at byte bytes l s BadNumber e = stopped text outer done at (byte ∷ bytes) (faults.BadNumber at) s (bad_number e)

at_end : (text : List ℕ) (outer : List Layer) (done : List Sexp) (at : ℕ) → Standing text outer done at [] → Told text (scan outer done at 0 [])
at_end text [] done at (at_top r) = record { end = at; reads = r }
at_end text (layer ∷ outer) done at s = stopped text (layer ∷ outer) done at [] (faults.Unbalanced at) s ends_open

told : (text : List ℕ) (n : ℕ) → Shorter text n
told text n outer done at [] l s = at_end text outer done at s
told text zero outer done at (byte ∷ bytes) l s = absurd (omega (arith, l))
told text (suc n) outer done at (byte ∷ bytes) l s =
    let P : Answer → Type 0 = Told text in
    subst P (sym (acts_on outer done at byte bytes (first_piece byte bytes) refl)) (by_piece text n (told text n) outer done at byte bytes (omega (arith, l)) s (first_piece byte bytes) refl)

pub scanned_told : (text : List ℕ) → Told text (scanned text)
scanned_told text = told text (length text) [] [] 0 text (omega arith) (at_top nothing)
