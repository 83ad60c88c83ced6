-- Cells by the shape of an object: which of its bytes hold parts of pointers.
use Rattle.std.proofs.Common.{◌≡◌, ◌≤◌, ◌<◌, ℕ, zero, suc, ◌+◌, ◌*◌, ◌%◌, ◌/◌, List, [], ◌∷◌, ◌++◌, length, take, drop, refl, sym, ap, ◌∙◌, subst, arith}
use Rattle.std.proofs.lemmas.List.{length-append, append_assoc}
use Rattle.std.proofs.Math.Nat.{mul-suc}
use Rattle.qs_memory.specs.Values.{Pointer, null}
use Rattle.qs_memory.specs.Memory.{Cell, byte, bytes_of, parts_of, BlankTree, zeros, nulls, repeated, nothing, joined, times, blank_cells}
use Rattle.qs_meaning.specs.InitialValues.{text_cells, written_over}
use Rattle.qs_meaning.specs.Whole.{AreWhole, no_cells, byte_before, pointer_before}

-- ---- shapes

pub data Slot : Type 0 where
  a_byte : Slot
  a_pointer : Slot

abbrev pub slot_width : Slot → ℕ
slot_width a_byte = 1
slot_width a_pointer = 4

abbrev pub width : List Slot → ℕ
width [] = 0
width (s ∷ ss) = slot_width s + width ss

abbrev pub copies : ℕ → List Slot → List Slot
copies zero ss = []
copies (suc n) ss = ss ++ copies n ss

abbrev pub bytes : ℕ → List Slot
bytes n = copies n (a_byte ∷ [])

abbrev pub shape_of : BlankTree → List Slot
shape_of (zeros n) = bytes n
shape_of (nulls n) = copies n (a_pointer ∷ [])
shape_of (repeated n b) = copies n (shape_of b)
shape_of nothing = []
shape_of (joined b c) = shape_of b ++ shape_of c

-- cells of this shape
pub data Conforms : List Slot → List Cell → Type 0 where
  none : Conforms [] []
  with_byte : (b : ℕ) {ss : List Slot} {cells : List Cell} → Conforms ss cells → Conforms (a_byte ∷ ss) (byte b ∷ cells)
  with_pointer : (p : Pointer) {ss : List Slot} {cells : List Cell} → Conforms ss cells → Conforms (a_pointer ∷ ss) (parts_of p 0 4 ++ cells)

pub are_whole : (ss : List Slot) (cells : List Cell) → Conforms ss cells → AreWhole cells
are_whole _ _ none = no_cells
are_whole _ _ (with_byte b {ss = ss} {cells = cells} h) = byte_before b cells (are_whole ss cells h)
are_whole _ _ (with_pointer p {ss = ss} {cells = cells} h) = pointer_before p cells (are_whole ss cells h)

pub conforms_length : (ss : List Slot) (cells : List Cell) → Conforms ss cells → length cells ≡ width ss
conforms_length _ _ none = refl
conforms_length _ _ (with_byte b {ss = ss} {cells = cells} h) = let e = conforms_length ss cells h in omega arith
conforms_length _ _ (with_pointer p {ss = ss} {cells = cells} h) = let e = conforms_length ss cells h in omega arith

pub conforms_append : (xs ys : List Slot) (front back : List Cell) → Conforms xs front → Conforms ys back → Conforms (xs ++ ys) (front ++ back)
conforms_append _ ys _ back none k = k
conforms_append _ ys _ back (with_byte b {ss = ss} {cells = cells} h) k = with_byte b (conforms_append ss ys cells back h k)
conforms_append _ ys _ back (with_pointer p {ss = ss} {cells = cells} h) k = with_pointer p (conforms_append ss ys cells back h k)

pub record Split (xs ys : List Slot) (cells : List Cell) : Type 0 where
  pub front : List Cell
  pub back : List Cell
  pub is : cells ≡ front ++ back
  pub first : Conforms xs front
  pub second : Conforms ys back

pub conforms_split : (xs ys : List Slot) (cells : List Cell) → Conforms (xs ++ ys) cells → Split xs ys cells
conforms_split [] ys cells h = record { front = []; back = cells; is = refl; first = none; second = h }
conforms_split (a_byte ∷ xs) ys cells h = go cells (λ rest k. conforms_split xs ys rest k) h
  where
    one : (b : ℕ) (rest : List Cell) → Split xs ys rest → Split (a_byte ∷ xs) ys (byte b ∷ rest)
    one b rest s = record { front = byte b ∷ s.front; back = s.back; is = ap (λ z. byte b ∷ z) s.is; first = with_byte b s.first; second = s.second }

    go : (cells : List Cell) → ((rest : List Cell) → Conforms (xs ++ ys) rest → Split xs ys rest) → Conforms (a_byte ∷ (xs ++ ys)) cells → Split (a_byte ∷ xs) ys cells
    go _ later (with_byte b {cells = rest} h) = one b rest (later rest h)
conforms_split (a_pointer ∷ xs) ys cells h = go cells (λ rest k. conforms_split xs ys rest k) h
  where
    one : (p : Pointer) (rest : List Cell) → Split xs ys rest → Split (a_pointer ∷ xs) ys (parts_of p 0 4 ++ rest)
    one p rest s = record { front = parts_of p 0 4 ++ s.front; back = s.back; is = ap (λ z. parts_of p 0 4 ++ z) s.is; first = with_pointer p s.first; second = s.second }

    go : (cells : List Cell) → ((rest : List Cell) → Conforms (xs ++ ys) rest → Split xs ys rest) → Conforms (a_pointer ∷ (xs ++ ys)) cells → Split (a_pointer ∷ xs) ys cells
    go _ later (with_pointer p {cells = rest} h) = one p rest (later rest h)

-- ---- what cells have which shape

pub conforms_times : (n : ℕ) (ss : List Slot) (cells : List Cell) → Conforms ss cells → Conforms (copies n ss) (times n cells)
conforms_times zero ss cells h = none
conforms_times (suc n) ss cells h = conforms_append ss (copies n ss) cells (times n cells) h (conforms_times n ss cells h)

pub blank_conforms : (b : BlankTree) → Conforms (shape_of b) (blank_cells b)
blank_conforms (zeros n) = conforms_times n (a_byte ∷ []) (byte 0 ∷ []) (with_byte 0 none)
blank_conforms (nulls n) = conforms_times n (a_pointer ∷ []) (parts_of null 0 4) (with_pointer null none)
blank_conforms (repeated n b) = conforms_times n (shape_of b) (blank_cells b) (blank_conforms b)
blank_conforms nothing = none
blank_conforms (joined b c) = conforms_append (shape_of b) (shape_of c) (blank_cells b) (blank_cells c) (blank_conforms b) (blank_conforms c)

pub number_conforms : (size n : ℕ) → Conforms (bytes size) (bytes_of size n)
number_conforms zero n = none
number_conforms (suc size) n = with_byte (n % 256) (number_conforms size (n / 256))

-- a text, or its first bytes
pub record Bytes (most : ℕ) (cells : List Cell) : Type 0 where
  pub count : ℕ
  pub within : count ≤ most
  pub conforms : Conforms (bytes count) cells

pub text_conforms : (bs : List ℕ) → Conforms (bytes (length bs + 1)) (text_cells bs)
text_conforms bs = subst (λ z. Conforms (bytes z) (text_cells bs)) (plus (length bs)) (go bs)
  where
    plus : (n : ℕ) → suc n ≡ n + 1
    plus n = omega arith

    go : (bs : List ℕ) → Conforms (bytes (suc (length bs))) (text_cells bs)
    go [] = with_byte 0 none
    go (b ∷ bs) = with_byte b (go bs)

pub taken_bytes : (n m : ℕ) (cells : List Cell) → Conforms (bytes m) cells → Bytes n (take n cells)
taken_bytes zero m cells h = record { count = 0; within = omega arith; conforms = none }
taken_bytes (suc n) zero cells h = go cells h
  where
    go : (cells : List Cell) → Conforms [] cells → Bytes (suc n) (take (suc n) cells)
    go _ none = record { count = 0; within = omega arith; conforms = none }
taken_bytes (suc n) (suc m) cells h = go cells (λ rest k. taken_bytes n m rest k) h
  where
    longer : (b : ℕ) (rest : List Cell) → Bytes n (take n rest) → Bytes (suc n) (byte b ∷ take n rest)
    longer b rest r = let w = r.within in record { count = suc r.count; within = omega arith; conforms = with_byte b r.conforms }

    go : (cells : List Cell) → ((rest : List Cell) → Conforms (bytes m) rest → Bytes n (take n rest)) → Conforms (a_byte ∷ bytes m) cells → Bytes (suc n) (take (suc n) cells)
    go _ later (with_byte b {cells = rest} h) = longer b rest (later rest h)

-- ---- parts

-- a shape that stands at this offset in another
pub record Part (whole : List Slot) (at : ℕ) (part : List Slot) : Type 0 where
  pub before : List Slot
  pub behind : List Slot
  pub is : whole ≡ before ++ (part ++ behind)
  pub offset : width before ≡ at

pub width_append : (xs ys : List Slot) → width (xs ++ ys) ≡ width xs + width ys
width_append [] ys = zero_plus (width ys)
  where
    zero_plus : (n : ℕ) → n ≡ 0 + n
    zero_plus n = omega arith
width_append (x ∷ xs) ys = let e = width_append xs ys in omega arith

pub whole_part : (ss : List Slot) → Part ss 0 ss
whole_part ss = record { before = []; behind = []; is = end ss; offset = refl }
  where
    end : (ss : List Slot) → ss ≡ ss ++ []
    end [] = refl
    end (s ∷ ss) = ap (λ z. s ∷ z) (end ss)

pub part_next : (xs ys zs : List Slot) (at offset : ℕ) → Part xs at ys → Part ys offset zs → Part xs (at + offset) zs
part_next xs ys zs at offset h k = record {
  before = h.before ++ k.before;
  behind = k.behind ++ h.behind;
  is = h.is ∙ (ap (λ z. h.before ++ (z ++ h.behind)) k.is ∙ again h.before k.before zs k.behind h.behind);
  offset = let a = width_append h.before k.before in let b = h.offset in let c = k.offset in omega arith;
}
  where
    again : (a b c d e : List Slot) → a ++ ((b ++ (c ++ d)) ++ e) ≡ (a ++ b) ++ (c ++ (d ++ e))
    again a b c d e =
        ap (λ z. a ++ z) (append_assoc b (c ++ d) e ∙ ap (λ z. b ++ z) (append_assoc c d e)) ∙ sym (append_assoc a b (c ++ (d ++ e)))

pub part_at : (xs ys : List Slot) (at to : ℕ) → at ≡ to → Part xs at ys → Part xs to ys
part_at xs ys at to e h = subst (λ z. Part xs z ys) e h

-- the first slots of a shape
pub part_front : (xs ys : List Slot) → Part (xs ++ ys) 0 xs
part_front xs ys = record { before = []; behind = ys; is = refl; offset = refl }

pub part_behind : (us xs ys : List Slot) (at : ℕ) → Part xs at ys → Part (us ++ xs) (width us + at) ys
part_behind us xs ys at h = record {
  before = us ++ h.before;
  behind = h.behind;
  is = ap (λ z. us ++ z) h.is ∙ sym (append_assoc us h.before (ys ++ h.behind));
  offset = width_append us h.before ∙ ap (λ z. width us + z) h.offset;
}

-- one of several copies
pub part_copy : (n i : ℕ) (ss : List Slot) → i < n → Part (copies n ss) (width ss * i) ss
part_copy zero i ss h = absurd (omega arith)
part_copy (suc n) zero ss h = part_at (ss ++ copies n ss) ss 0 (width ss * 0) (none_at (width ss)) (part_front ss (copies n ss))
  where
    none_at : (w : ℕ) → 0 ≡ w * 0
    none_at w = omega arith
part_copy (suc n) (suc i) ss h =
    part_at (ss ++ copies n ss) ss (width ss + width ss * i) (width ss * suc i) (one_more (width ss) i) (part_behind ss (copies n ss) ss (width ss * i) (part_copy n i ss (omega arith)))
  where
    one_more : (w i : ℕ) → w + w * i ≡ w * suc i
    one_more w i = let e = mul-suc w i in omega arith

-- fewer bytes of bytes
pub part_bytes : (n m : ℕ) → m ≤ n → Part (bytes n) 0 (bytes m)
part_bytes n zero h = record { before = []; behind = bytes n; is = refl; offset = refl }
part_bytes zero (suc m) h = absurd (omega arith)
part_bytes (suc n) (suc m) h = longer (part_bytes n m (omega arith))
  where
    only : (ss : List Slot) → width ss ≡ 0 → (w : List Slot) → ss ++ w ≡ w
    only [] e w = refl
    only (a_byte ∷ ss) e w = absurd (omega arith)
    only (a_pointer ∷ ss) e w = absurd (omega arith)

    longer : Part (bytes n) 0 (bytes m) → Part (bytes (suc n)) 0 (bytes (suc m))
    longer p = record { before = []; behind = p.behind; is = ap (λ z. a_byte ∷ z) (p.is ∙ only p.before p.offset (bytes m ++ p.behind)); offset = refl }

-- ---- cells that are written over a part

take_front : (front back : List Cell) → take (length front) (front ++ back) ≡ front
take_front [] back = refl
take_front (c ∷ front) back = ap (λ z. c ∷ z) (take_front front back)

drop_front : (front back : List Cell) → drop (length front) (front ++ back) ≡ back
drop_front [] back = refl
drop_front (c ∷ front) back = drop_front front back

pub over_conforms : (whole part : List Slot) (at : ℕ) (cells new : List Cell) → Part whole at part → Conforms whole cells → Conforms part new → Conforms whole (written_over cells at new)
over_conforms whole part at cells new p h k =
    let a = conforms_split p.before (part ++ p.behind) cells (subst (λ z. Conforms z cells) p.is h) in
    let b = conforms_split part p.behind a.back a.second in
    let first : length a.front ≡ at = conforms_length p.before a.front a.first ∙ p.offset in
    let same_length : length new ≡ length b.front = conforms_length part new k ∙ sym (conforms_length part b.front b.first) in
    let cells_are : cells ≡ a.front ++ (b.front ++ b.back) = a.is ∙ ap (λ z. a.front ++ z) b.is in
    let taken : take at cells ≡ a.front = (λ j. take (sym first j) (cells_are j)) ∙ take_front a.front (b.front ++ b.back) in
    let dropped : drop (at + length new) cells ≡ b.back = (λ j. drop (sums a.front b.front at (length new) first same_length j) (whole_cells a.front b.front b.back cells cells_are j)) ∙ drop_front (a.front ++ b.front) b.back in
    subst (λ z. Conforms z (written_over cells at new)) (sym p.is)
    (subst (λ z. Conforms (p.before ++ (part ++ p.behind)) (z ++ (new ++ drop (at + length new) cells))) (sym taken)
    (subst (λ z. Conforms (p.before ++ (part ++ p.behind)) (a.front ++ (new ++ z))) (sym dropped)
    (conforms_append p.before (part ++ p.behind) a.front (new ++ b.back) a.first (conforms_append part p.behind new b.back k b.second))))
  where
    sums : (front mid : List Cell) (at n : ℕ) → length front ≡ at → n ≡ length mid → at + n ≡ length (front ++ mid)
    sums front mid at n e f = let a = length-append front mid in omega arith

    whole_cells : (front mid back cells : List Cell) → cells ≡ front ++ (mid ++ back) → cells ≡ (front ++ mid) ++ back
    whole_cells front mid back cells e = e ∙ sym (append_assoc front mid back)
