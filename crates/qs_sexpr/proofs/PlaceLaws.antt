-- Where lists, atoms and faults lie in their text.
use Rattle.std.proofs.Common.{arith, ◌≡◌, ℕ, suc, ◌+◌, ◌<◌, ◌≤◌, List, [], ◌∷◌, length, take, drop, refl, sym, ap, ◌∙◌}
use Rattle.std.proofs.lemmas.List.{drop-drop, length-take, length-drop}
use Rattle.qs_sexpr.specs.Reading.{Reads, nothing, white_space, a_number, a_symbol, a_list, Reading, Within, outside, inside, Stops, bad_byte, bad_number, closes_nothing, ends_open, too_deep, Fault}
use Rattle.qs_sexpr.specs.Places.{LieIn, place_of}
use Rattle.qs_sexpr.specs.Trees.{Sexps}
use Rattle.qs_sexpr.specs.declared.fault.SexprFault.{SexprFault}
use Rattle.qs_sexpr.specs.declared.pieces.Piece.TheVariants.{White, Number, Symbol, BadByte}
use Rattle.qs_sexpr.proofs.ReadingScans.{piece_is_in}

-- the text behind a byte
behind : (whole : List ℕ) (at more byte : ℕ) (bytes : List ℕ) → byte ∷ bytes ≡ drop at whole → drop more bytes ≡ drop (at + 1 + more) whole
behind whole at more byte bytes e =
    ap (λ (xs : List ℕ). drop (suc more) xs) e ∙ (drop-drop (suc more) at whole ∙ ap (λ (n : ℕ). drop n whole) (omega arith))

front : (whole : List ℕ) (at more byte : ℕ) (bytes : List ℕ) → byte ∷ bytes ≡ drop at whole → more ≤ length bytes → take (length (byte ∷ take more bytes)) (drop at whole) ≡ byte ∷ take more bytes
front whole at more byte bytes e h =
    let l = length-take more bytes in
    let k : length (take more bytes) ≡ more = omega (arith, l, h) in
    ap (λ (xs : List ℕ). take (length (byte ∷ take more bytes)) xs) (sym e) ∙ ap (λ (n : ℕ). byte ∷ take n bytes) k

-- a byte lies in the text
begins : (whole : List ℕ) (at byte : ℕ) (bytes : List ℕ) → byte ∷ bytes ≡ drop at whole → at < length whole
begins whole at byte bytes e =
    let l = length-drop at whole in
    let k = ap (λ (xs : List ℕ). length xs) e in
    omega (arith, l, k)

record Found (whole : List ℕ) (parts : Sexps) (end : ℕ) (rest : List ℕ) : Type 0 where
  lie : LieIn whole parts
  rest_is : rest ≡ drop end whole

found : {depth at end : ℕ} {text rest : List ℕ} {parts : Sexps} → Reads depth at text parts end rest → (whole : List ℕ) → text ≡ drop at whole → Found whole parts end rest
found nothing whole e = record { lie = tt; rest_is = e }
found (white_space {at = at} {more = more} {byte = byte} {bytes = bytes} p r) whole e = found r whole (behind whole at more byte bytes e)
found {end = end} {rest = rest} (a_number {at = at} {more = more} {byte = byte} {bytes = bytes} {parts = parts} p r) whole e =
    let f : Found whole parts end rest = found r whole (behind whole at more byte bytes e) in
    record { lie = (begins whole at byte bytes e, f.lie); rest_is = f.rest_is }
found {end = end} {rest = rest} (a_symbol {at = at} {more = more} {byte = byte} {bytes = bytes} {parts = parts} p r) whole e =
    let f : Found whole parts end rest = found r whole (behind whole at more byte bytes e) in
    record { lie = ((begins whole at byte bytes e, front whole at more byte bytes e (piece_is_in byte bytes (Symbol more) p)), f.lie); rest_is = f.rest_is }
found {end = end} {rest = rest} (a_list {at = at} {byte = byte} {closed = closed} {last = last} {bytes = bytes} {after = after} {inner = inner} {parts = parts} p deep i c r) whole e =
    let g : Found whole inner closed (last ∷ after) = found i whole (behind whole at 0 byte bytes e ∙ ap (λ (n : ℕ). drop n whole) (omega arith)) in
    let f : Found whole parts end rest = found r whole (behind whole closed 0 last after g.rest_is ∙ ap (λ (n : ℕ). drop n whole) (omega arith)) in
    record { lie = ((begins whole at byte bytes e, g.lie), f.lie); rest_is = f.rest_is }

pub parts_lie : (text : List ℕ) (parts : Sexps) → Reading text parts → LieIn text parts
parts_lie text parts r = let f : Found text parts r.end [] = found r.reads text refl in f.lie

-- ---- faults

-- what has been read has its bytes
reads_bytes : {depth at end : ℕ} {text rest : List ℕ} {parts : Sexps} → Reads depth at text parts end rest → end + length rest ≡ at + length text
reads_bytes nothing = refl
reads_bytes (white_space {at = at} {more = more} {byte = byte} {bytes = bytes} p r) =
    let i = piece_is_in byte bytes (White more) p in let l = length-drop more bytes in let h = reads_bytes r in omega (arith, h, l, i)
reads_bytes (a_number {at = at} {more = more} {byte = byte} {value = value} {bytes = bytes} p r) =
    let i = piece_is_in byte bytes (Number more value) p in let l = length-drop more bytes in let h = reads_bytes r in omega (arith, h, l, i)
reads_bytes (a_symbol {at = at} {more = more} {byte = byte} {bytes = bytes} p r) =
    let i = piece_is_in byte bytes (Symbol more) p in let l = length-drop more bytes in let h = reads_bytes r in omega (arith, h, l, i)
reads_bytes (a_list {at = at} {closed = closed} {bytes = bytes} {after = after} p deep i c r) =
    let h = reads_bytes i in let k = reads_bytes r in omega (arith, h, k)

within_bytes : {text rest : List ℕ} {depth at : ℕ} → Within text depth at rest → at + length rest ≡ length text
within_bytes (outside r) = let h = reads_bytes r in omega (arith, h)
within_bytes (inside w p deep r) = let h = within_bytes w in let k = reads_bytes r in omega (arith, h, k)

stops_in : {depth at : ℕ} {rest : List ℕ} {fault : SexprFault} → Stops depth at rest fault → place_of fault ≤ at + length rest
stops_in (bad_byte {at = at} {more = more} {byte = byte} {bytes = bytes} p) = let i = piece_is_in byte bytes (BadByte more) p in omega (arith, i)
stops_in (bad_number p) = omega arith
stops_in (closes_nothing p) = omega arith
stops_in ends_open = omega arith
stops_in (too_deep p deep) = omega arith

pub fault_lies : (text : List ℕ) (fault : SexprFault) → Fault text fault → place_of fault ≤ length text
fault_lies text fault f = let w = within_bytes f.within in let s = stops_in f.stops in omega (arith, w, s)
