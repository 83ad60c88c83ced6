-- What is found on a shelf once a file was opened, created or appended to.
use Rattle.std.proofs.Common.{◌≡◌, ◌≢◌, ℕ, ◌+◌, ◌<◌, ◌≤◌, List, [], ◌∷◌, ◌++◌, length, take, Bool, true, false, sym, ◌∙◌, ap, subst, refl, arith, Option, Some, None, is_some, append_assoc, length-append, if◌then◌else◌, cond, bytes_eq, nat_eq, slice_range, suc}
use Rattle.std.proofs.lemmas.Grind.{common_steps}
use Rattle.std.proofs.lemmas.List.Sums.{fold-append}
use Rattle.std.proofs.lemmas.Slice.Eq.{bytes_eq-Decides}
use Rattle.qs_ports.specs.declared.memory.span.Span.{Span}
use Rattle.qs_ports.specs.declared.memory.cells.Cells.{Cells}
use Rattle.qs_ports.specs.Cells.{spans_of, IsEmpty, Starts, Extends}
use Rattle.qs_ports.specs.Shelf.{name_at, content_at, find, named_or, files_of, name_of, renewed, extended, writing_name, IsWithin, AreWithin, OptionWithin, IsNewest, IsCurrent, HasFiles}
use Rattle.qs_ports.specs.StoreView.{StoreView, Files, IsSameFiles, bytes_of, file_room}
use Rattle.qs_ports.specs.Memory.{no_files, with_file}
use Rattle.qs_ports.specs.ShelfView.{Created, Appended}
use Rattle.qs_ports.proofs.Shelves.{within_front, within_last, range_grows, range_last, range_none, range_append, are_within_more, same_bytes, other_bytes, name_more, found_more, found_within, find_named, files_more, files_push, newest_found, newest_skipped, newest_name_push}
use Rattle.qs_ports.proofs.CellLaws.{new_span, span_at, grown, spans_started, spans_grown, spans_within, last_end, HasLast, has_last, first_start}

-- the file that is open for reading has the name that was looked up
pub opened_name : (bytes : List ℕ) (ss : List Span) (name : List ℕ) (o : Option Span) (b : Bool) → o ≡ find bytes ss name → b ≡ is_some o → name_of bytes o ≡ (if b then Some name else None)
opened_name bytes ss name None true e h = absurd (cc)
opened_name bytes ss name None false e h = refl
opened_name bytes ss name (Some s) true e h = ap (λ x. Some x) (find_named bytes ss name s (sym e))
opened_name bytes ss name (Some s) false e h = absurd (cc)

-- a file that was found is the newest of its name
pub found_newest : (bytes : List ℕ) (ss : List Span) (name : List ℕ) (o : Option Span) → o ≡ find bytes ss name → IsNewest o bytes ss
found_newest bytes ss name None e = tt
found_newest bytes ss name (Some s) e = ap (λ n. find bytes ss n) (find_named bytes ss name s (sym e)) ∙ sym e

some_within : (o : Option Span) (s : Span) (n : ℕ) → o ≡ Some s → OptionWithin o n → IsWithin s n
some_within None s n e w = absurd (cc)
some_within (Some t) s n e w = let same : t ≡ s = cc in subst (λ (x : Span). IsWithin x n) same w

-- a file that was found lies where all do
pub found_lies : (bytes : List ℕ) (ss : List Span) (name : List ℕ) (s : Span) (n : ℕ) → find bytes ss name ≡ Some s → AreWithin ss n → IsWithin s n
found_lies bytes ss name s n e w = some_within (find bytes ss name) s n e (found_within bytes name ss None n w tt)

pub newest_lies : (o : Option Span) (bytes : List ℕ) (ss : List Span) (n : ℕ) → IsNewest o bytes ss → AreWithin ss n → OptionWithin o n
newest_lies None bytes ss n e w = tt
newest_lies (Some s) bytes ss n e w = found_lies bytes ss (name_at bytes s) s n e w

-- the newest of a name, where one more file is there

find_pushed : (bytes : List ℕ) (ss : List Span) (s : Span) (name : List ℕ) → find bytes (ss ++ s ∷ []) name ≡ named_or bytes name (find bytes ss name) s
find_pushed bytes ss s name = fold-append (named_or bytes name) None ss (s ∷ [])

find_last : (bytes : List ℕ) (ss : List Span) (s : Span) (name : List ℕ) → name_at bytes s ≡ name → find bytes (ss ++ s ∷ []) name ≡ Some s
find_last bytes ss s name e =
    find_pushed bytes ss s name
    ∙ ap (λ b. cond b (Some s) (find bytes ss name)) (ap (λ n. bytes_eq n name) e ∙ same_bytes name)

find_before : (bytes : List ℕ) (ss : List Span) (s : Span) (name : List ℕ) → name_at bytes s ≢ name → find bytes (ss ++ s ∷ []) name ≡ find bytes ss name
find_before bytes ss s name e =
    find_pushed bytes ss s name
    ∙ ap (λ b. cond b (Some s) (find bytes ss name)) (other_bytes (name_at bytes s) name e)

find_more : (bytes p : List ℕ) (ss : List Span) (name : List ℕ) → AreWithin ss (length bytes) → find (bytes ++ p) ss name ≡ find bytes ss name
find_more bytes p ss name w = found_more bytes p name ss None w

renewed_if : (bytes p : List ℕ) (ss : List Span) (s created : Span) (b : Bool) → bytes_eq (name_at (bytes ++ p) s) (name_at (bytes ++ p) created) ≡ b → find bytes ss (name_at bytes s) ≡ Some s → AreWithin ss (length bytes) → IsWithin s (length bytes) → IsNewest (Some (if b then created else s)) (bytes ++ p) (ss ++ created ∷ [])
renewed_if bytes p ss s created true e f w ws = find_last (bytes ++ p) ss created (name_at (bytes ++ p) created) refl
renewed_if bytes p ss s created false e f w ws =
    let differ : name_at (bytes ++ p) created ≢ name_at (bytes ++ p) s = λ h. grind (arith, bytes_eq-Decides (name_at (bytes ++ p) s) (name_at (bytes ++ p) created)) in
    find_before (bytes ++ p) ss created (name_at (bytes ++ p) s) differ
    ∙ find_more bytes p ss (name_at (bytes ++ p) s) w
    ∙ ap (λ n. find bytes ss n) (name_more bytes p s ws) ∙ f

-- the file for reading, once one was created
pub renewed_newest : (bytes p : List ℕ) (ss : List Span) (o : Option Span) (created : Span) → IsNewest o bytes ss → AreWithin ss (length bytes) → IsNewest (renewed (bytes ++ p) o created) (bytes ++ p) (ss ++ created ∷ [])
renewed_newest bytes p ss None created f w = tt
renewed_newest bytes p ss (Some s) created f w =
    renewed_if bytes p ss s created (bytes_eq (name_at (bytes ++ p) s) (name_at (bytes ++ p) created)) refl f w (found_lies bytes ss (name_at bytes s) s (length bytes) f w)

renewed_name_if : (bytes : List ℕ) (s created : Span) (b : Bool) → bytes_eq (name_at bytes s) (name_at bytes created) ≡ b → name_at bytes (if b then created else s) ≡ name_at bytes s
renewed_name_if bytes s created true e = sym ((bytes_eq-Decides (name_at bytes s) (name_at bytes created)).0 e)
renewed_name_if bytes s created false e = refl

renewed_name : (bytes p : List ℕ) (o : Option Span) (created : Span) → OptionWithin o (length bytes) → name_of (bytes ++ p) (renewed (bytes ++ p) o created) ≡ name_of bytes o
renewed_name bytes p None created w = refl
renewed_name bytes p (Some s) created w =
    ap (λ n. Some n) (renewed_name_if (bytes ++ p) s created (bytes_eq (name_at (bytes ++ p) s) (name_at (bytes ++ p) created)) refl ∙ name_more bytes p s w)

-- the newest file keeps its name as it grows
grown_name : (bytes p : List ℕ) (s : Span) → IsWithin s (length bytes) → name_at (bytes ++ p) (grown s (length p)) ≡ name_at bytes s
grown_name bytes p s w = range_append bytes p s.name s.content w.named (let x = w.started in let y = w.ended in omega arith)

-- the file for reading, where it is the last one, and where it isn't
extended_if : (bytes p : List ℕ) (ss : List Span) (last s : Span) (b : Bool) → nat_eq s.end (length bytes) ≡ b → find bytes (ss ++ last ∷ []) (name_at bytes s) ≡ Some s → AreWithin ss (length bytes) → IsWithin last (length bytes) → IsWithin s (length bytes) → (s.end ≡ length bytes → s ≡ last) → last.end ≡ length bytes → IsNewest (Some (if b then record s { end = length bytes + length p } else s)) (bytes ++ p) (ss ++ grown last (length p) ∷ [])
extended_if bytes p ss last s true e f w wl ws only le =
    let ends : s.end ≡ length bytes = grind arith in
    let longer : grown last (length p) ≡ record s { end = length bytes + length p } =
    ap (λ k. record last { end = k + length p }) le ∙ ap (λ (x : Span). record x { end = length bytes + length p }) (sym (only ends))
    in
    let P : Span → Type 0 = λ x. IsNewest (Some x) (bytes ++ p) (ss ++ grown last (length p) ∷ []) in
    subst P longer (find_last (bytes ++ p) ss (grown last (length p)) (name_at (bytes ++ p) (grown last (length p))) refl)
extended_if bytes p ss last s false e f w wl ws only le =
    let differ : name_at bytes last ≢ name_at bytes s =
    λ h. let found : Some last ≡ Some s = sym (find_last bytes ss last (name_at bytes s) h) ∙ f in
    let same : last ≡ s = cc in
    let ends : s.end ≡ length bytes = sym (ap (λ (x : Span). x.end) same) ∙ le in
    grind arith
    in
    find_before (bytes ++ p) ss (grown last (length p)) (name_at (bytes ++ p) s) (λ h. differ (sym (grown_name bytes p last wl) ∙ h ∙ name_more bytes p s ws))
    ∙ find_more bytes p ss (name_at (bytes ++ p) s) w
    ∙ ap (λ n. find bytes ss n) (name_more bytes p s ws)
    ∙ sym (find_before bytes ss last (name_at bytes s) differ)
    ∙ f

-- only the last file ends with the bytes
only_last_if : (bytes : List ℕ) (ss : List Span) (last s : Span) (place : ℕ) (b : Bool) → cond b (Some last) (find bytes ss (name_at bytes s)) ≡ Some s → AreWithin ss place → place < s.end → s ≡ last
only_last_if bytes ss last s place true f w h = cc
only_last_if bytes ss last s place false f w h =
    let lies : IsWithin s place = found_lies bytes ss (name_at bytes s) s place f w in
    let x = lies.ended in
    absurd (omega arith)

only_last : (bytes : List ℕ) (ss : List Span) (last s : Span) (place : ℕ) → find bytes (ss ++ last ∷ []) (name_at bytes s) ≡ Some s → AreWithin ss place → place < s.end → s ≡ last
only_last bytes ss last s place f w h =
    only_last_if bytes ss last s place (bytes_eq (name_at bytes last) (name_at bytes s)) (sym (find_pushed bytes ss last (name_at bytes s)) ∙ f) w h

-- the file for reading, once a piece was added to the last one
extended_newest : (bytes p : List ℕ) (ss : List Span) (last : Span) (place : ℕ) (o : Option Span) → IsNewest o bytes (ss ++ last ∷ []) → AreWithin (ss ++ last ∷ []) (length bytes) → AreWithin ss place → place < last.end → last.end ≡ length bytes → IsNewest (extended o (length bytes) (length bytes + length p)) (bytes ++ p) (ss ++ grown last (length p) ∷ [])
extended_newest bytes p ss last place None f w wf pl le = tt
extended_newest bytes p ss last place (Some s) f w wf pl le =
    extended_if bytes p ss last s (nat_eq s.end (length bytes)) refl f (within_front ss last (length bytes) w) (within_last ss last (length bytes) w)
    (found_lies bytes (ss ++ last ∷ []) (name_at bytes s) s (length bytes) f w)
    (λ h. only_last bytes ss last s place f wf (omega arith)) le

extended_name_if : (bytes : List ℕ) (s : Span) (b : Bool) (to : ℕ) → name_at bytes (if b then record s { end = to } else s) ≡ name_at bytes s
extended_name_if bytes s true to = refl
extended_name_if bytes s false to = refl

extended_name : (bytes p : List ℕ) (o : Option Span) (end to : ℕ) → OptionWithin o (length bytes) → name_of (bytes ++ p) (extended o end to) ≡ name_of bytes o
extended_name bytes p None end to w = refl
extended_name bytes p (Some s) end to w =
    ap (λ n. Some n) (extended_name_if (bytes ++ p) s (nat_eq s.end end) to ∙ name_more bytes p s w)

-- the view of a shelf whose bytes and files changed
abbrev pub reshelved : StoreView → List ℕ → List Span → Option Span → Bool → ℕ → StoreView
reshelved v bytes ss o writing spare = record v { files = files_of bytes ss; reading = name_of bytes o; writing = writing_name bytes ss writing; spare = spare }

-- a file is created

created_named : (bytes name : List ℕ) (s : Span) → s.name ≡ length bytes + 1 → s.content ≡ s.name + length name → name_at (bytes ++ 0 ∷ name) s ≡ name
created_named bytes name s a b =
    ap (λ xs. slice_range xs s.name s.content) (sym (append_assoc bytes (0 ∷ []) name))
    ∙ range_last (bytes ++ 0 ∷ []) name s.name s.content (a ∙ sym (length-append bytes (0 ∷ []))) (b ∙ ap (λ k. k + length name) (a ∙ sym (length-append bytes (0 ∷ []))))

created_is : (v : StoreView) (bytes name : List ℕ) (ss : List Span) (s : Span) (o : Option Span) (spare : ℕ) → s.name ≡ length bytes + 1 → s.content ≡ s.name + length name → s.end ≡ s.content → v.files ≡ files_of bytes ss → v.reading ≡ name_of bytes o → AreWithin ss (length bytes) → OptionWithin o (length bytes) → spare + (length name + file_room) ≡ v.spare → Created v (reshelved v (bytes ++ 0 ∷ name) (ss ++ s ∷ []) (renewed (bytes ++ 0 ∷ name) o s) true spare) name
created_is v bytes name ss s o spare a b c f r w wo e =
    let all = bytes ++ 0 ∷ name in
    let named : name_at all s ≡ name = created_named bytes name s a b in
    let none : content_at all s ≡ [] = ap (λ k. slice_range all s.content k) c ∙ range_none all s.content in (
      record {
        counts = record { faults = refl; misses = refl };
        created = refl;
        writing = λ t. ap (λ x. Some x) (newest_name_push all ss s ∙ named);
        holds = record {
          was_told = λ t. t;
          file = λ t. newest_found all ss s name named ∙ ap (λ x. Some x) none;
          others = λ t n ne. newest_skipped all ss s n (λ g. ne (sym g ∙ named)) ∙ files_more bytes (0 ∷ name) ss n w ∙ sym (ap (λ (g : Files). g n) f);
          tells = λ t h. (t, e);
        };
      },
      record { reading = renewed_name bytes (0 ∷ name) o s wo ∙ sym r; place = refl },
    )

pub creates : (v : StoreView) (bytes bytes' name : List ℕ) (ss ss' : List Span) (s : Span) (o : Option Span) (spare : ℕ) → bytes' ≡ bytes ++ 0 ∷ name → ss' ≡ ss ++ s ∷ [] → s.name ≡ length bytes + 1 → s.content ≡ s.name + length name → s.end ≡ s.content → v.files ≡ files_of bytes ss → v.reading ≡ name_of bytes o → AreWithin ss (length bytes) → OptionWithin o (length bytes) → spare + (length name + file_room) ≡ v.spare → Created v (reshelved v bytes' ss' (renewed bytes' o s) true spare) name
creates v bytes bytes' name ss ss' s o spare eb es a b c f r w wo e = rw (eb, es) (created_is v bytes name ss s o spare a b c f r w wo e)

-- the same of cells: where the files lie once one was started
pub started_spans : (c d : Cells) (name : List ℕ) (s : Span) → Starts c d name s → length c.parts.items ≡ length c.bytes.items → spans_of d.parts.items ≡ spans_of c.parts.items ++ s ∷ []
started_spans c d name s h same =
    let at : s.name ≡ length c.parts.items + 1 = h.named ∙ ap (λ k. k + 1) (sym same) in
    let to : s.content ≡ length c.parts.items + 1 + length name = h.started ∙ ap (λ k. k + length name) at in
    let it : new_span (length c.parts.items + 1) (length c.parts.items + 1 + length name) ≡ s =
    ap (λ k. span_at k (length c.parts.items + 1 + length name) (length c.parts.items + 1 + length name)) (sym at)
    ∙ ap (λ k. span_at s.name k k) (sym to)
    ∙ ap (λ k. span_at s.name s.content k) (sym h.ended)
    in
    ap (λ ks. spans_of ks) h.parts ∙ spans_started c.parts.items (length name) ∙ ap (λ x. spans_of c.parts.items ++ x ∷ []) it

-- there is a file then
pub first_file : (c d : Cells) (name : List ℕ) (s : Span) → Starts c d name s → length c.parts.items ≡ length c.bytes.items → HasFiles d
first_file c d name s h same =
    let n = ap length (started_spans c d name s h same) ∙ length-append (spans_of c.parts.items) (s ∷ []) in
    omega arith

pub cells_within : (c : Cells) → length c.parts.items ≡ length c.bytes.items → AreWithin (spans_of c.parts.items) (length c.bytes.items)
cells_within c same = subst (λ (n : ℕ). AreWithin (spans_of c.parts.items) n) same (spans_within c.parts.items)

pub current_lies : (o : Option Span) (c : Cells) → IsCurrent o c → length c.parts.items ≡ length c.bytes.items → OptionWithin o (length c.bytes.items)
current_lies o c f same = newest_lies o c.bytes.items (spans_of c.parts.items) (length c.bytes.items) f (cells_within c same)

pub started_lies : (c d : Cells) (name : List ℕ) (s : Span) → Starts c d name s → IsWithin s (length d.bytes.items)
started_lies c d name s h =
    let a = h.named in
    let b = h.started in
    let e = h.ended in
    let l = ap length h.bytes ∙ length-append c.bytes.items (0 ∷ name) in
    record { named = omega arith; started = omega arith; ended = omega arith }

pub option_within_more : (o : Option Span) (n k : ℕ) → n ≤ k → OptionWithin o n → OptionWithin o k
option_within_more None n k h w = tt
option_within_more (Some s) n k h w = record { named = w.named; started = w.started; ended = let e = w.ended in omega arith }

pub still_lies : (c d : Cells) (name : List ℕ) (s : Span) (o : Option Span) → Starts c d name s → IsCurrent o c → length c.parts.items ≡ length c.bytes.items → OptionWithin o (length d.bytes.items)
still_lies c d name s o h f same =
    let l = ap length h.bytes ∙ length-append c.bytes.items (0 ∷ name) in
    option_within_more o (length c.bytes.items) (length d.bytes.items) (omega arith) (current_lies o c f same)

pub created_current : (c d : Cells) (name : List ℕ) (s : Span) (o now : Option Span) → Starts c d name s → now ≡ renewed d.bytes.items o s → IsCurrent o c → length c.parts.items ≡ length c.bytes.items → IsCurrent now d
created_current c d name s o now h en f same =
    let P : List ℕ → Type 0 = λ xs. IsNewest (renewed xs o s) xs (spans_of d.parts.items) in
    let Q : List Span → Type 0 = λ fs. IsNewest (renewed (c.bytes.items ++ 0 ∷ name) o s) (c.bytes.items ++ 0 ∷ name) fs in
    let R : Option Span → Type 0 = λ x. IsCurrent x d in
    subst R (sym en) (subst P (sym h.bytes) (subst Q (sym (started_spans c d name s h same))
    (renewed_newest c.bytes.items (0 ∷ name) (spans_of c.parts.items) o s f (cells_within c same))))

pub cells_create : (v : StoreView) (c d : Cells) (name : List ℕ) (s : Span) (o now : Option Span) (spare : ℕ) → Starts c d name s → now ≡ renewed d.bytes.items o s → IsCurrent o c → length c.parts.items ≡ length c.bytes.items → v.files ≡ files_of c.bytes.items (spans_of c.parts.items) → v.reading ≡ name_of c.bytes.items o → spare + (length name + file_room) ≡ v.spare → Created v (reshelved v d.bytes.items (spans_of d.parts.items) now true spare) name
cells_create v c d name s o now spare h en f same vf vr e =
    let P : Option Span → Type 0 = λ x. Created v (reshelved v d.bytes.items (spans_of d.parts.items) x true spare) name in
    subst P (sym en) (creates v c.bytes.items d.bytes.items name (spans_of c.parts.items) (spans_of d.parts.items) s o spare h.bytes (started_spans c d name s h same) h.named h.started h.ended vf vr (cells_within c same) (current_lies o c f same) e)

-- a piece is appended

appended_is : (v : StoreView) (bytes p : List ℕ) (ss : List Span) (s : Span) (o : Option Span) (spare : ℕ) → v.files ≡ files_of bytes (ss ++ s ∷ []) → v.reading ≡ name_of bytes o → v.writing ≡ writing_name bytes (ss ++ s ∷ []) true → AreWithin (ss ++ s ∷ []) (length bytes) → s.end ≡ length bytes → OptionWithin o (length bytes) → spare + length p ≡ v.spare → Appended v (reshelved v (bytes ++ p) (ss ++ grown s (length p) ∷ []) (extended o (length bytes) (length bytes + length p)) true spare) p
appended_is v bytes p ss s o spare f r wr w se wo e =
    let a : IsWithin s (length bytes) = within_last ss s (length bytes) w in
    let b : AreWithin ss (length bytes) = within_front ss s (length bytes) w in
    let more = grown s (length p) in
    let kept : name_at (bytes ++ p) more ≡ name_at bytes s = grown_name bytes p s a in
    let content : content_at (bytes ++ p) more ≡ content_at bytes s ++ p = range_grows bytes p s.content s.end (s.end + length p) a.started se refl in
    let all : take (length p) p ≡ p = grind (arith, common_steps) in
    let open_as : v.writing ≡ Some (name_at bytes s) = wr ∙ ap (λ x. Some x) (newest_name_push bytes ss s) in (
      record {
        counts = record { faults = refl; misses = refl };
        progress = record { within = omega arith; some = λ h. h };
        was_told = λ t. t;
        file = λ n wn t.
            let same : name_at bytes s ≡ n = cc in
            let was : v.files n ≡ Some (content_at bytes s) = ap (λ (g : Files). g n) f ∙ newest_found bytes ss s n same in
            newest_found (bytes ++ p) ss more n (kept ∙ same) ∙ ap (λ x. Some x) content
            ∙ ap (λ x. Some (content_at bytes s ++ x)) (sym all) ∙ ap (λ x. Some (bytes_of x ++ take (length p) p)) (sym was);
        others = λ n wn t k ne.
            let same : name_at bytes s ≡ n = cc in
            newest_skipped (bytes ++ p) ss more k (λ g. ne (sym g ∙ kept ∙ same)) ∙ files_more bytes p ss k b
            ∙ sym (newest_skipped bytes ss s k (λ g. ne (sym g ∙ same))) ∙ sym (ap (λ (g : Files). g k) f);
        tells = λ t h. (t, e);
      },
      record { reading = extended_name bytes p o (length bytes) (length bytes + length p) wo ∙ sym r; place = refl },
      ap (λ x. Some x) (newest_name_push (bytes ++ p) ss more ∙ kept) ∙ sym open_as,
    )

appends : (v : StoreView) (bytes bytes' p : List ℕ) (ss fs fs' : List Span) (s : Span) (o : Option Span) (b : Bool) (end to spare : ℕ) → bytes' ≡ bytes ++ p → fs ≡ ss ++ s ∷ [] → fs' ≡ ss ++ grown s (length p) ∷ [] → b ≡ true → end ≡ length bytes → to ≡ length bytes + length p → v.files ≡ files_of bytes fs → v.reading ≡ name_of bytes o → v.writing ≡ writing_name bytes fs b → AreWithin fs (length bytes) → s.end ≡ length bytes → OptionWithin o (length bytes) → spare + length p ≡ v.spare → Appended v (reshelved v bytes' fs' (extended o end to) b spare) p
appends v bytes bytes' p ss fs fs' s o b end to spare eb ef eg et ee eo vf vr vw w se wo e =
    let Q : List Span → Type 0 = λ zs. AreWithin zs (length bytes) in
    rw (eb, eg, et, ee, eo) (appended_is v bytes p ss s o spare (vf ∙ ap (λ zs. files_of bytes zs) ef) vr
    (vw ∙ ap (λ c. writing_name bytes fs c) et ∙ ap (λ zs. writing_name bytes zs true) ef) (subst Q ef w) se wo e)

-- the last file of some cells, before a piece is added and after it
record IsLonger (c d : Cells) (p : List ℕ) : Type 0 where
  place : ℕ
  front : List Span
  last : Span
  is : spans_of c.parts.items ≡ front ++ last ∷ []
  now : spans_of d.parts.items ≡ front ++ grown last (length p) ∷ []
  front_within : AreWithin front place
  before : place < last.end
  ends : last.end ≡ length c.bytes.items

longer : (c d : Cells) (p : List ℕ) → Extends c d p → length c.parts.items ≡ length c.bytes.items → HasFiles c → IsLonger c d p
longer c d p h same some =
    let l : HasLast (spans_of c.parts.items) (first_start c.parts.items) = has_last c.parts.items some in
    record {
      place = l.place;
      front = l.front;
      last = l.last;
      is = l.is;
      now = ap (λ ks. spans_of ks) h.parts ∙ spans_grown c.parts.items (length p) l.front l.last l.is;
      front_within = l.front_within;
      before = l.before;
      ends = last_end c.parts.items l.front l.last l.is ∙ same;
    }

pub extended_current : (c d : Cells) (p : List ℕ) (o now : Option Span) (end to : ℕ) → Extends c d p → now ≡ extended o end to → end ≡ length c.bytes.items → to ≡ length c.bytes.items + length p → IsCurrent o c → length c.parts.items ≡ length c.bytes.items → HasFiles c → IsCurrent now d
extended_current c d p o now end to h en ee et f same some =
    let l : IsLonger c d p = longer c d p h same some in
    let P : List ℕ → Type 0 = λ xs. IsNewest (extended o end to) xs (spans_of d.parts.items) in
    let Q : List Span → Type 0 = λ fs. IsNewest (extended o end to) (c.bytes.items ++ p) fs in
    let R : Option Span → Type 0 = λ x. IsNewest x (c.bytes.items ++ p) (l.front ++ grown l.last (length p) ∷ []) in
    let Was : List Span → Type 0 = λ fs. IsNewest o c.bytes.items fs in
    let Within : List Span → Type 0 = λ fs. AreWithin fs (length c.bytes.items) in
    let Now : Option Span → Type 0 = λ x. IsCurrent x d in
    subst Now (sym en) (subst P (sym h.bytes) (subst Q (sym l.now) (subst R (ap (λ k. extended o k (length c.bytes.items + length p)) (sym ee) ∙ ap (λ k. extended o end k) (sym et))
    (extended_newest c.bytes.items p l.front l.last l.place o (subst Was l.is f) (subst Within l.is (cells_within c same)) l.front_within l.before l.ends))))

pub some_files : (c d : Cells) (p : List ℕ) → Extends c d p → length c.parts.items ≡ length c.bytes.items → HasFiles c → HasFiles d
some_files c d p h same some =
    let l : IsLonger c d p = longer c d p h same some in
    let n = ap length l.now ∙ length-append l.front (grown l.last (length p) ∷ []) in
    omega arith

pub cells_extend : (v : StoreView) (c d : Cells) (p : List ℕ) (o now : Option Span) (b : Bool) (end to spare : ℕ) → Extends c d p → now ≡ extended o end to → end ≡ length c.bytes.items → to ≡ length c.bytes.items + length p → b ≡ true → IsCurrent o c → length c.parts.items ≡ length c.bytes.items → HasFiles c → v.files ≡ files_of c.bytes.items (spans_of c.parts.items) → v.reading ≡ name_of c.bytes.items o → v.writing ≡ writing_name c.bytes.items (spans_of c.parts.items) b → spare + length p ≡ v.spare → Appended v (reshelved v d.bytes.items (spans_of d.parts.items) now b spare) p
cells_extend v c d p o now b end to spare h en ee et eb f same some vf vr vw e =
    let l : IsLonger c d p = longer c d p h same some in
    let P : Option Span → Type 0 = λ x. Appended v (reshelved v d.bytes.items (spans_of d.parts.items) x b spare) p in
    subst P (sym en) (appends v c.bytes.items d.bytes.items p l.front (spans_of c.parts.items) (spans_of d.parts.items) l.last o b end to spare h.bytes l.is l.now eb ee et vf vr vw (cells_within c same) l.ends (current_lies o c f same) e)

-- the files of a list that are put into cells one after the other

pub no_file_yet : (c : Cells) → IsEmpty c → IsSameFiles no_files (files_of c.bytes.items (spans_of c.parts.items))
no_file_yet c e n = ap (λ ks. files_of c.bytes.items (spans_of ks) n) e.parts

put_there : (bytes name content : List ℕ) (ss : List Span) (s : Span) (fs : Files) → IsSameFiles fs (files_of bytes ss) → s.name ≡ length bytes + 1 → s.content ≡ s.name + length name → s.end ≡ s.content + length content → AreWithin ss (length bytes) → IsSameFiles (with_file fs name content) (files_of ((bytes ++ 0 ∷ name) ++ content) (ss ++ s ∷ []))
put_there bytes name content ss s fs f a b e w n =
    let started = bytes ++ 0 ∷ name in
    let all = started ++ content in
    let len : length started ≡ length bytes + suc (length name) = length-append bytes (0 ∷ name) in
    let named : name_at all s ≡ name = range_append started content s.name s.content (omega arith) (omega arith) ∙ created_named bytes name s a b in
    let filled : content_at all s ≡ content = range_last started content s.content s.end (omega arith) (omega arith) in
    let there : files_of all ss n ≡ files_of bytes ss n =
    files_more started content ss n (are_within_more ss (length bytes) (length started) (omega arith) w) ∙ files_more bytes (0 ∷ name) ss n w
    in
    files_push all ss s n
    ∙ ap (λ x. cond (bytes_eq x n) (Some (content_at all s)) (files_of all ss n)) named
    ∙ ap (λ x. cond (bytes_eq name n) (Some x) (files_of all ss n)) filled
    ∙ ap (λ x. cond (bytes_eq name n) (Some content) x) (there ∙ f n)

pub puts_entry : (c d e : Cells) (name content : List ℕ) (s : Span) (fs gs : Files) → Starts c d name s → Extends d e content → gs ≡ with_file fs name content → IsSameFiles fs (files_of c.bytes.items (spans_of c.parts.items)) → length c.parts.items ≡ length c.bytes.items → IsSameFiles gs (files_of e.bytes.items (spans_of e.parts.items))
puts_entry c d e name content s fs gs h k eg f same =
    let bytes : e.bytes.items ≡ (c.bytes.items ++ 0 ∷ name) ++ content = k.bytes ∙ ap (λ x. x ++ content) h.bytes in
    let spans : spans_of e.parts.items ≡ spans_of c.parts.items ++ grown s (length content) ∷ [] =
    ap (λ ks. spans_of ks) k.parts ∙ spans_grown d.parts.items (length content) (spans_of c.parts.items) s (started_spans c d name s h same)
    in
    rw (eg, bytes, spans) (put_there c.bytes.items name content (spans_of c.parts.items) (grown s (length content)) fs f h.named h.started (ap (λ x. x + length content) h.ended) (cells_within c same))
