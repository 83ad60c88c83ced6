-- Looking for a file from the last part to the front.
use Rattle.std.proofs.Common.{◌≡◌, ℕ, ◌+◌, ◌<◌, List, [], ◌∷◌, ◌++◌, length, take, drop, true, bytes_eq, cond, sym, ◌∙◌, ap, subst, arith, Option, Some, None, fold, length-drop, slice_index_or}
use Rattle.std.proofs.lemmas.Grind.{common_steps}
use Rattle.std.proofs.lemmas.List.{take-append-drop}
use Rattle.std.proofs.lemmas.List.Sums.{fold-append}
use Rattle.qs_ports.specs.declared.memory.span.Span.{Span}
use Rattle.qs_ports.specs.declared.memory.cells.Part.{Part}
use Rattle.qs_ports.specs.declared.memory.cells.Part.TheVariants.{Start}
use Rattle.qs_ports.specs.Shelf.{IsWithin, name_at, named_or, find}
use Rattle.qs_ports.specs.Cells.{Seen, see, seen, none_seen, spans_of}
use Rattle.qs_ports.proofs.CellLaws.{IsBehind, all_behind, seen_append, seen_later, seen_at, span_at}

-- what is seen from this place on
abbrev pub seen_from : List Part → ℕ → Seen
seen_from parts place = seen place (drop place parts) (none_seen (length parts))

-- no file that starts at this place or behind it has the name
pub record IsScanned (bytes name : List ℕ) (parts : List Part) (place content end : ℕ) : Type 0 where
  pub content_is : (seen_from parts place).content ≡ content
  pub end_is : (seen_from parts place).end ≡ end
  pub unmatched : (a : Option Span) → fold (named_or bytes name) a (seen_from parts place).files ≡ a

-- this part is at this place
pub record IsPart (parts : List Part) (place : ℕ) (part : Part) : Type 0 where
  pub here : drop place parts ≡ part ∷ drop (place + 1) parts
  pub within : place < length parts

-- the part that was read there
pub is_part : (parts : List Part) (place : ℕ) (x part : Part) → place < length parts → x ≡ slice_index_or parts place x → x ≡ part → IsPart parts place part
is_part parts place x part h e f =
    let cut : drop place parts ≡ slice_index_or parts place x ∷ drop (place + 1) parts = grind (arith, common_steps) in
    record { here = cut ∙ ap (λ y. y ∷ drop (place + 1) parts) (sym e ∙ f); within = h }

pub scan_at : (bytes name : List ℕ) (parts : List Part) (n place content end : ℕ) → n ≡ place + 1 → IsScanned bytes name parts n content end → IsScanned bytes name parts (place + 1) content end
scan_at bytes name parts n place content end e s = subst (λ (k : ℕ). IsScanned bytes name parts k content end) e s

one_more_seen : (parts : List Part) (place : ℕ) (part : Part) → IsPart parts place part → seen_from parts place ≡ see place part (seen_from parts (place + 1))
one_more_seen parts place part h = ap (λ ks. seen place ks (none_seen (length parts))) h.here

-- the file that starts at a place
scanned_span : (bytes name : List ℕ) (parts : List Part) (place content end : ℕ) → IsScanned bytes name parts (place + 1) content end → span_at (place + 1) (seen_from parts (place + 1)).content (seen_from parts (place + 1)).end ≡ span_at (place + 1) content end
scanned_span bytes name parts place content end s =
    ap (λ x. span_at (place + 1) x (seen_from parts (place + 1)).end) s.content_is ∙ ap (λ x. span_at (place + 1) content x) s.end_is

pub scan_lies : (bytes name : List ℕ) (parts : List Part) (place content end n : ℕ) → place < length parts → length parts ≡ n → IsScanned bytes name parts (place + 1) content end → IsWithin (span_at (place + 1) content end) n
scan_lies bytes name parts place content end n l same s =
    let b : IsBehind (seen_from parts (place + 1)) (place + 1) (length parts) = all_behind (place + 1) (length parts) (drop (place + 1) parts) (let d = length-drop (place + 1) parts in omega arith) in
    let x = s.content_is in
    let y = s.end_is in
    let p = b.after in
    let q = b.ends in
    let r = b.within in
    record { named = omega arith; started = omega arith; ended = omega arith }

pub scan_finds : (bytes name : List ℕ) (parts : List Part) (place content end : ℕ) → IsPart parts place Start → IsScanned bytes name parts (place + 1) content end → bytes_eq (name_at bytes (span_at (place + 1) content end)) name ≡ true → Some (span_at (place + 1) content end) ≡ find bytes (spans_of parts) name
scan_finds bytes name parts place content end h s same =
    let before = take place parts in
    let r = seen_from parts (place + 1) in
    let it = span_at (place + 1) content end in
    let front = (seen 0 before (seen_at place place [])).files in
    let inside = h.within in
    let len : 0 + length before ≡ place = grind (arith, common_steps) in
    let spans : spans_of parts ≡ front ++ it ∷ r.files =
    ap (λ ks. (seen 0 ks (none_seen (length parts))).files) (sym (take-append-drop place parts))
    ∙ ap (λ x. x.files) (seen_append 0 before (drop place parts) (none_seen (length parts)))
    ∙ ap (λ k. (seen 0 before (seen k (drop place parts) (none_seen (length parts)))).files) len
    ∙ ap (λ x. (seen 0 before x).files) (one_more_seen parts place Start h)
    ∙ ap (λ x. (seen 0 before (seen_at place place (x ∷ r.files))).files) (scanned_span bytes name parts place content end s)
    ∙ ap (λ x. x.files) (seen_later 0 before place place (it ∷ r.files))
    in
    sym (
    ap (λ fs. find bytes fs name) spans
    ∙ fold-append (named_or bytes name) None front (it ∷ r.files)
    ∙ s.unmatched (named_or bytes name (fold (named_or bytes name) None front) it)
    ∙ ap (λ b. cond b (Some it) (fold (named_or bytes name) None front)) same
    )
