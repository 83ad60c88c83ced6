-- Where files lie in a list of bytes, by what part of a file each byte is.
use Rattle.std.proofs.Common.{◌≡◌, ℕ, zero, suc, ◌+◌, ◌<◌, ◌≤◌, List, [], ◌∷◌, ◌++◌, length, replicate, sym, ◌∙◌, ap, refl, arith, length-append, fold}
use Rattle.std.proofs.lemmas.List.{length-replicate}
use Rattle.std.proofs.lemmas.List.Sums.{fold-append}
use Rattle.qs_ports.specs.declared.memory.span.Span.{Span}
use Rattle.qs_ports.specs.declared.memory.cells.Part.{Part}
use Rattle.qs_ports.specs.declared.memory.cells.Part.TheVariants.{Start, Name, Content}
use Rattle.qs_ports.specs.Shelf.{AreWithin}
use Rattle.qs_ports.specs.Cells.{Seen, see, seen, none_seen, spans_of}

pub seen_append : (n : ℕ) (a b : List Part) (s : Seen) → seen n (a ++ b) s ≡ seen n a (seen (n + length a) b s)
seen_append n [] b s = ap (λ k. seen k b s) (omega arith)
seen_append n (x ∷ a) b s =
    let e : n + 1 + length a ≡ n + length (x ∷ a) = omega arith in
    ap (λ r. see n x r) (seen_append (n + 1) a b s ∙ ap (λ k. seen (n + 1) a (seen k b s)) e)

pub from_zero : (n : ℕ) → 0 + n ≡ n
from_zero n = omega arith

-- a name leaves what is seen as it was
seen_name : (n k : ℕ) (s : Seen) → seen n (replicate k Name) s ≡ s
seen_name n zero s = refl
seen_name n (suc k) s = seen_name (n + 1) k s

-- where so much was seen
abbrev pub seen_at : ℕ → ℕ → List Span → Seen
seen_at c e fs = record { content = c; end = e; files = fs }

-- a content begins where its first byte is
seen_content : (n k c e : ℕ) (fs : List Span) → c ≡ n + k → seen n (replicate k Content) (seen_at c e fs) ≡ seen_at n e fs
seen_content n zero c e fs h = let same : c ≡ n = omega arith in ap (λ x. seen_at x e fs) same
seen_content n (suc k) c e fs h = ap (λ r. see n Content r) (seen_content (n + 1) k c e fs (omega arith))

-- files that were seen before stay behind the others
abbrev with_later : Seen → List Span → Seen
with_later s fs = record s { files = s.files ++ fs }

pub seen_later : (n : ℕ) (ks : List Part) (c e : ℕ) (fs : List Span) → seen n ks (seen_at c e fs) ≡ with_later (seen n ks (seen_at c e [])) fs
seen_later n [] c e fs = refl
seen_later n (Start ∷ ks) c e fs = ap (λ r. see n Start r) (seen_later (n + 1) ks c e fs)
seen_later n (Name ∷ ks) c e fs = seen_later (n + 1) ks c e fs
seen_later n (Content ∷ ks) c e fs = ap (λ r. see n Content r) (seen_later (n + 1) ks c e fs)

-- a name from `start` to `middle`, and behind it a content
abbrev pub span_at : ℕ → ℕ → ℕ → Span
span_at start middle end = record { name = start; content = middle; end = end }

-- a file that is started lies behind the others: its name, and no content
abbrev pub new_span : ℕ → ℕ → Span
new_span start end = span_at start end end

pub spans_started : (ks : List Part) (m : ℕ) → spans_of (ks ++ Start ∷ replicate m Name) ≡ spans_of ks ++ new_span (length ks + 1) (length ks + 1 + m) ∷ []
spans_started ks m =
    let total = length (ks ++ Start ∷ replicate m Name) in
    let all : total ≡ length ks + 1 + m = length-append ks (Start ∷ replicate m Name) ∙ (let r = length-replicate m Name in omega arith) in
    ap (λ s. s.files) (seen_append 0 ks (Start ∷ replicate m Name) (none_seen total))
    ∙ ap (λ k. (seen 0 ks (seen k (Start ∷ replicate m Name) (none_seen total))).files) (from_zero (length ks))
    ∙ ap (λ s. (seen 0 ks (see (length ks) Start s)).files) (seen_name (length ks + 1) m (none_seen total))
    ∙ ap (λ s. s.files) (seen_later 0 ks (length ks) (length ks) (new_span (length ks + 1) total ∷ []))
    ∙ ap (λ t. spans_of ks ++ new_span (length ks + 1) t ∷ []) all

-- a file with more bytes of content
abbrev pub grown : Span → ℕ → Span
grown s m = record s { end = s.end + m }

abbrev grow_last : List Span → ℕ → List Span
grow_last [] m = []
grow_last (s ∷ []) m = grown s m ∷ []
grow_last (s ∷ t ∷ ss) m = s ∷ grow_last (t ∷ ss) m

grow_pushed : (ss : List Span) (s : Span) (m : ℕ) → grow_last (ss ++ s ∷ []) m ≡ ss ++ grown s m ∷ []
grow_pushed [] s m = refl
grow_pushed (a ∷ []) s m = refl
grow_pushed (a ∷ b ∷ ss) s m = ap (λ x. a ∷ x) (grow_pushed (b ∷ ss) s m)

-- the bytes are added to the last file that was seen, and else to the one that is looked for
abbrev end_grown : List Span → ℕ → ℕ → ℕ
end_grown [] e m = e + m
end_grown (s ∷ ss) e m = e

abbrev grow : Seen → ℕ → Seen
grow s m = record { content = s.content; end = end_grown s.files s.end m; files = grow_last s.files m }

start_grown : (n m c e : ℕ) (fs : List Span) → see n Start (grow (seen_at c e fs) m) ≡ grow (see n Start (seen_at c e fs)) m
start_grown n m c e [] = refl
start_grown n m c e (f ∷ fs) = refl

seen_grown : (n : ℕ) (ks : List Part) (c e m : ℕ) → seen n ks (seen_at c (e + m) []) ≡ grow (seen n ks (seen_at c e [])) m
seen_grown n [] c e m = refl
seen_grown n (Start ∷ ks) c e m =
    let r = seen (n + 1) ks (seen_at c e []) in
    ap (λ r. see n Start r) (seen_grown (n + 1) ks c e m) ∙ start_grown n m r.content r.end r.files
seen_grown n (Name ∷ ks) c e m = seen_grown (n + 1) ks c e m
seen_grown n (Content ∷ ks) c e m = ap (λ r. see n Content r) (seen_grown (n + 1) ks c e m)

pub spans_grown : (ks : List Part) (m : ℕ) (ss : List Span) (s : Span) → spans_of ks ≡ ss ++ s ∷ [] → spans_of (ks ++ replicate m Content) ≡ ss ++ grown s m ∷ []
spans_grown ks m ss s h =
    let total = length (ks ++ replicate m Content) in
    let all : total ≡ length ks + m = length-append ks (replicate m Content) ∙ ap (λ k. length ks + k) (length-replicate m Content) in
    ap (λ s. s.files) (seen_append 0 ks (replicate m Content) (none_seen total))
    ∙ ap (λ k. (seen 0 ks (seen k (replicate m Content) (none_seen total))).files) (from_zero (length ks))
    ∙ ap (λ t. (seen 0 ks (seen (length ks) (replicate m Content) (none_seen t))).files) all
    ∙ ap (λ s. (seen 0 ks s).files) (seen_content (length ks) m (length ks + m) (length ks + m) [] refl)
    ∙ ap (λ s. s.files) (seen_grown 0 ks (length ks) (length ks) m)
    ∙ ap (λ fs. grow_last fs m) h
    ∙ grow_pushed ss s m

-- what was seen lies in order, behind this place and within so many bytes
pub record IsBehind (s : Seen) (n total : ℕ) : Type 0 where
  pub after : n ≤ s.content
  pub ends : s.content ≤ s.end
  pub within : s.end ≤ total
  pub files : AreWithin s.files total

see_behind : (n : ℕ) (k : Part) (s : Seen) (total : ℕ) → IsBehind s (n + 1) total → IsBehind (see n k s) n total
see_behind n Start s total h =
    let a = h.after in
    let e = h.ends in
    let w = h.within in
    record { after = omega arith; ends = omega arith; within = omega arith; files = (record { named = a; started = e; ended = w }, h.files) }
see_behind n Name s total h = let a = h.after in record { after = omega arith; ends = h.ends; within = h.within; files = h.files }
see_behind n Content s total h =
    let a = h.after in
    let e = h.ends in
    record { after = omega arith; ends = omega arith; within = h.within; files = h.files }

pub seen_behind : (n : ℕ) (ks : List Part) (s : Seen) (total : ℕ) → IsBehind s (n + length ks) total → IsBehind (seen n ks s) n total
seen_behind n [] s total h = let a = h.after in record { after = omega arith; ends = h.ends; within = h.within; files = h.files }
seen_behind n (k ∷ ks) s total h =
    let a = h.after in
    see_behind n k (seen (n + 1) ks s) total (seen_behind (n + 1) ks s total (record { after = omega arith; ends = h.ends; within = h.within; files = h.files }))

pub all_behind : (n total : ℕ) (ks : List Part) → total ≡ n + length ks → IsBehind (seen n ks (none_seen total)) n total
all_behind n total ks e = seen_behind n ks (none_seen total) total (record { after = omega arith; ends = omega arith; within = omega arith; files = tt })

pub spans_within : (ks : List Part) → AreWithin (spans_of ks) (length ks)
spans_within ks = (all_behind 0 (length ks) ks (sym (from_zero (length ks)))).files

-- the last file ends with the bytes

newest_end : ℕ → List Span → ℕ
newest_end e fs = fold (λ _ (s : Span). s.end) e fs

seen_end : (n : ℕ) (ks : List Part) (s : Seen) → newest_end (seen n ks s).end (seen n ks s).files ≡ newest_end s.end s.files
unfolding newest_end
seen_end n [] s = refl
seen_end n (Start ∷ ks) s = seen_end (n + 1) ks s
seen_end n (Name ∷ ks) s = seen_end (n + 1) ks s
seen_end n (Content ∷ ks) s = seen_end (n + 1) ks s

pub last_end : (ks : List Part) (ss : List Span) (s : Span) → spans_of ks ≡ ss ++ s ∷ [] → s.end ≡ length ks
unfolding newest_end
last_end ks ss s h =
    let e = (seen 0 ks (none_seen (length ks))).end in
    sym (fold-append (λ _ (x : Span). x.end) e ss (s ∷ [])) ∙ sym (ap (λ fs. newest_end e fs) h) ∙ seen_end 0 ks (none_seen (length ks))

-- there is a last file, and the others end before it does, and behind a place
pub record HasLast (files : List Span) (end : ℕ) : Type 0 where
  pub place : ℕ
  pub front : List Span
  pub last : Span
  pub is : files ≡ front ++ last ∷ []
  pub front_within : AreWithin front place
  pub before : place < last.end
  pub after : end ≤ place

start_last : (n c e : ℕ) (fs : List Span) → n + 1 ≤ c → c ≤ e → (0 < length fs → HasLast fs e) → HasLast (span_at (n + 1) c e ∷ fs) n
start_last n c e [] a b h = record { place = n; front = []; last = span_at (n + 1) c e; is = refl; front_within = tt; before = omega arith; after = omega arith }
start_last n c e (f ∷ fs) a b h =
    let r : HasLast (f ∷ fs) e = h (omega arith) in
    let x = r.after in
    record {
      place = r.place;
      front = span_at (n + 1) c e ∷ r.front;
      last = r.last;
      is = ap (λ x. span_at (n + 1) c e ∷ x) r.is;
      front_within = (record { named = a; started = b; ended = x }, r.front_within);
      before = r.before;
      after = omega arith;
    }

none_last : (e : ℕ) (fs : List Span) → length fs ≡ 0 → 0 < length fs → HasLast fs e
none_last e fs z h = absurd (omega arith)

seen_last : (n total : ℕ) (ks : List Part) → total ≡ n + length ks → 0 < length (seen n ks (none_seen total)).files → HasLast (seen n ks (none_seen total)).files (seen n ks (none_seen total)).end
seen_last n total [] e h = none_last total [] refl h
seen_last n total (Start ∷ ks) e h =
    let r = seen (n + 1) ks (none_seen total) in
    let b : IsBehind r (n + 1) total = all_behind (n + 1) total ks (omega arith) in
    start_last n r.content r.end r.files b.after b.ends (seen_last (n + 1) total ks (omega arith))
seen_last n total (Name ∷ ks) e h = seen_last (n + 1) total ks (omega arith) h
seen_last n total (Content ∷ ks) e h = seen_last (n + 1) total ks (omega arith) h

-- where the first file starts
abbrev pub first_start : List Part → ℕ
first_start ks = (seen 0 ks (none_seen (length ks))).end

pub has_last : (ks : List Part) → 0 < length (spans_of ks) → HasLast (spans_of ks) (first_start ks)
has_last ks h = seen_last 0 (length ks) ks (sym (from_zero (length ks))) h
