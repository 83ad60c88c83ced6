-- Bytes in pages: where they stand, and what a write to them changes.
use Rattle.std.proofs.Common.{◌≡◌, ◌≢◌, ℕ, zero, suc, ◌+◌, ◌-◌, ◌*◌, ◌/◌, ◌%◌, ◌^◌, ◌<◌, ◌≤◌, Bool, true, false, List, [], ◌∷◌, ◌++◌, length, take, drop, slice_index, slice_set, refl, ap, sym, ◌∙◌, arith, inl, inr}
use Rattle.std.specs.Prelude.{nat_le, nat_eq, ◌==◌, min, if◌then◌else◌, replicate}
use Rattle.std.proofs.lemmas.Bool.{cases_lt, cases_eq, le-leb, lt-leb, ne_eqb}
use Rattle.std.proofs.lemmas.Bool.Decides.{nat_tests}
use Rattle.std.proofs.lemmas.List.{get_or_past, get_or-replicate, get_or-set_same, get_or-set_other, get_or_append_left, get_or-append_right, length-replicate, length-append, take_all}
use Rattle.std.proofs.Math.Path.{fun_ext}
use Rattle.std.proofs.Math.Seq.{drop-cons}
use Rattle.std.proofs.Math.ListN.{length-set}
use Rattle.qs_isa.specs.declared.instruction.StoreKind.{StoreKind}
use Rattle.qs_isa.specs.declared.instruction.StoreKind.TheVariants.{Sb, Sh, Sw}
use Rattle.qs_machine.specs.State.{with_value, is_inside, store_1, store_2, store_4}
use Rattle.qs_machine.specs.Step.{stored, store_width}
use Rattle.qs_machine.specs.Bytes.{bytes_from, put_1, put_2, put_4, put_bytes}
use Rattle.qs_machine.specs.Hart.{nothing}
use Rattle.qs_machine.proofs.Starts.{no_byte}
use Rattle.qs_machine.specs.Pages.{page_bytes, page_of, place_of, byte_in_pages, untouched, ArePages, IsInPage}

-- ---- tests

pub test-low : (start end address width : ℕ) → is_inside start end address width ≡ true → start ≤ address
test-low start end address width e = grind (arith, nat_tests)

pub test-high : (start end address width : ℕ) → is_inside start end address width ≡ true → address + width ≤ end
test-high start end address width e = grind (arith, nat_tests)

pub inside-test : (start end address width : ℕ) → start ≤ address → address + width ≤ end → is_inside start end address width ≡ true
inside-test start end address width low high =
    let e : nat_le start address ≡ true = le-leb start address low in
    let f : nat_le (address + width) end ≡ true = le-leb (address + width) end high in
    rw (e, f) refl

pub behind-test : (start end address width : ℕ) → start ≤ address → end < address + width → is_inside start end address width ≡ false
behind-test start end address width low high =
    let e : nat_le start address ≡ true = le-leb start address low in
    let f : nat_le (address + width) end ≡ false = lt-leb (address + width) end high in
    rw (e, f) refl

pub first-inside : (start end address width : ℕ) → 0 < width → is_inside start end address width ≡ true → is_inside start end address 1 ≡ true
first-inside start end address width some e =
    let low = test-low start end address width e in
    let high = test-high start end address width e in
    inside-test start end address 1 low (omega (arith, high, some))

pub some_width : (kind : StoreKind) → 0 < store_width kind
some_width Sb = omega arith
some_width Sh = omega arith
some_width Sw = omega arith

-- ---- where bytes stand

-- the bytes of one page follow one another
pub next_place : (start : ℕ) (table : List ℕ) (address i : ℕ) → address % 4096 + i < 4096 → place_of start table (address + i) ≡ place_of start table address + i
next_place start table address i fits =
    let page : (address + i) / 4096 ≡ address / 4096 = omega (arith, fits) in
    let rest : (address + i) % 4096 ≡ address % 4096 + i = omega (arith, fits) in
    rw (page, rest) (omega arith)

one_page : (x y r s : ℕ) → r < 4096 → s < 4096 → x * 4096 + r ≡ y * 4096 + s → x ≡ y
one_page x y r s a b e = omega arith

one_rest : (x y r s : ℕ) → r < 4096 → s < 4096 → x * 4096 + r ≡ y * 4096 + s → r ≡ s
one_rest x y r s a b e = omega arith

one_address : (s a b i : ℕ) → s / 4096 ≤ a / 4096 → s / 4096 ≤ b / 4096 → a / 4096 - s / 4096 ≡ b / 4096 - s / 4096 → a % 4096 ≡ b % 4096 + i → a ≡ b + i
one_address s a b i low other pages rests = omega arith

page_up : (a b : ℕ) → a ≤ b → a / 4096 ≤ b / 4096
page_up a b le = omega arith

below_page : (a : ℕ) → a % 4096 < 4096
below_page a = omega arith

-- a page that was written holds the bytes of no other addresses
pub only_place : (start : ℕ) (table : List ℕ) (address i a : ℕ) → ((page other : ℕ) → slice_index table page ≢ 0 → slice_index table page ≡ slice_index table other → page ≡ other) → slice_index table (page_of start address) ≢ 0 → start ≤ address → start ≤ a → address % 4096 + i < 4096 → place_of start table a ≡ place_of start table address + i → a ≡ address + i
only_place start table address i a apart touched low other fits e =
    let x = slice_index table (page_of start a) in
    let y = slice_index table (page_of start address) in
    let sum : x * 4096 + a % 4096 ≡ y * 4096 + (address % 4096 + i) = omega (arith, e) in
    let same : x ≡ y = one_page x y (a % 4096) (address % 4096 + i) (below_page a) fits sum in
    let rest : a % 4096 ≡ address % 4096 + i = one_rest x y (a % 4096) (address % 4096 + i) (below_page a) fits sum in
    let pages : page_of start address ≡ page_of start a = apart (page_of start address) (page_of start a) touched (sym same) in
    one_address start a address i (page_up start a other) (page_up start address low) (sym pages) rest

-- ---- the bytes of an access

read-at : (start end : ℕ) (table bytes : List ℕ) (otherwise : ℕ → ℕ) (address width i : ℕ) → start ≤ address → address + (i + width) ≤ end → address % 4096 + (i + width) ≤ 4096 → place_of start table address + (i + width) ≤ length bytes → bytes_from (byte_in_pages start end table bytes otherwise) (address + i) width ≡ take width (drop (place_of start table address + i) bytes)
read-at start end table bytes otherwise address zero i low high fits there = refl
read-at start end table bytes otherwise address (suc width) i low high fits there =
    let place = place_of start table address in
    let inside : is_inside start end (address + i) 1 ≡ true = inside-test start end (address + i) 1 (omega arith) (omega arith) in
    let at : place_of start table (address + i) ≡ place + i = next_place start table address i (omega arith) in
    let first : byte_in_pages start end table bytes otherwise (address + i) ≡ slice_index bytes (place + i) = rw (inside, at) refl in
    let next : address + i + 1 ≡ address + (i + 1) = omega arith in
    let following : place + (i + 1) ≡ suc (place + i) = omega arith in
    let rest = read-at start end table bytes otherwise address width (i + 1) low (omega arith) (omega arith) (omega arith) in
    rw (first, next, rest, following, drop-cons bytes (place + i) 0 (omega arith)) refl

pub read-pages : (start end : ℕ) (table bytes : List ℕ) (otherwise : ℕ → ℕ) (address width : ℕ) → start ≤ address → address + width ≤ end → address % 4096 + width ≤ 4096 → place_of start table address + width ≤ length bytes → bytes_from (byte_in_pages start end table bytes otherwise) address width ≡ take width (drop (place_of start table address) bytes)
read-pages start end table bytes otherwise address width low high fits there =
    let a : address + 0 ≡ address = omega arith in
    let b : place_of start table address + 0 ≡ place_of start table address = omega arith in
    let all = read-at start end table bytes otherwise address width 0 low (omega (arith, high)) (omega (arith, fits)) (omega (arith, there)) in
    ap (λ (x : ℕ). bytes_from (byte_in_pages start end table bytes otherwise) x width) (sym a) ∙ all ∙ ap (λ (x : ℕ). take width (drop x bytes)) b

-- all bytes of an access are there
pub there : (start end : ℕ) (table bytes : List ℕ) (address width : ℕ) → ArePages start end table bytes → address % 4096 + width ≤ 4096 → place_of start table address + width ≤ length bytes
there start end table bytes address width pages fits = let whole = pages.whole (page_of start address) in omega (arith, whole, fits)

-- ---- a byte is put

set-inside : (bytes : List ℕ) (place byte k : ℕ) → place < length bytes → slice_index (slice_set bytes place byte) k ≡ (if k == place then byte else slice_index bytes k)
set-inside bytes place byte k lt = elim (cases_eq k place) [
  | inl same ↦ let e : nat_eq k place ≡ true = grind (arith, nat_tests, same) in rw e (rw same (get_or-set_same bytes place byte 0 lt))
  | inr other ↦ let e : nat_eq k place ≡ false = ne_eqb k place other in rw e (get_or-set_other bytes place k byte 0 other)
]

same_test : (a b c d : ℕ) → (a ≡ b → c ≡ d) → (c ≡ d → a ≡ b) → nat_eq a b ≡ nat_eq c d
same_test a b c d to from = elim (cases_eq a b) [
  | inl same ↦ let e : nat_eq a b ≡ true = grind (arith, nat_tests, same) in let is = to same in let f : nat_eq c d ≡ true = grind (arith, nat_tests, is) in rw (e, f) refl
  | inr other ↦ let e : nat_eq a b ≡ false = ne_eqb a b other in let f : nat_eq c d ≡ false = ne_eqb c d (λ is. other (from is)) in rw (e, f) refl
]

put-at : (start end : ℕ) (table bytes : List ℕ) (otherwise : ℕ → ℕ) (address i byte a : ℕ) → ((page other : ℕ) → slice_index table page ≢ 0 → slice_index table page ≡ slice_index table other → page ≡ other) → slice_index table (page_of start address) ≢ 0 → start ≤ address → address + i < end → address % 4096 + i < 4096 → place_of start table address + i < length bytes → byte_in_pages start end table (slice_set bytes (place_of start table address + i) byte) otherwise a ≡ with_value (byte_in_pages start end table bytes otherwise) (address + i) byte a
put-at start end table bytes otherwise address i byte a apart touched low high fits lt = by (nat_le start a) (nat_le (a + 1) end) refl refl
  where
    put : List ℕ
    put = slice_set bytes (place_of start table address + i) byte

    here : start ≤ a → slice_index put (place_of start table a) ≡ (if a == address + i then byte else slice_index bytes (place_of start table a))
    here from =
        let e : nat_eq (place_of start table a) (place_of start table address + i) ≡ nat_eq a (address + i) =
        same_test (place_of start table a) (place_of start table address + i) a (address + i)
        (only_place start table address i a apart touched low from fits)
        (λ is. rw is (next_place start table address i fits)) in
        set-inside bytes (place_of start table address + i) byte (place_of start table a) lt ∙ ap (λ (b : Bool). if b then byte else slice_index bytes (place_of start table a)) e

    elsewhere : (start ≤ a → a + 1 ≤ end → a ≡ a) → nat_le start a ≡ false → nat_eq a (address + i) ≡ false
    elsewhere _ e = grind (arith, nat_tests, low, e)

    beyond : nat_le (a + 1) end ≡ false → nat_eq a (address + i) ≡ false
    beyond e = grind (arith, nat_tests, high, e)

    by : (b c : Bool) → nat_le start a ≡ b → nat_le (a + 1) end ≡ c → byte_in_pages start end table put otherwise a ≡ with_value (byte_in_pages start end table bytes otherwise) (address + i) byte a
    by true true e f = let from : start ≤ a = grind (arith, nat_tests, e) in rw (e, f) (here from)
    by true false e f = let g = beyond f in rw (e, f, g) refl
    by false c e f = let g = elsewhere (λ x y. refl) e in rw (e, g) refl

-- ---- several bytes are put, one after the other

-- a memory, as a function of the bytes that it holds: what is put from a place on is stored from an address on
pub record Shows (memory : List ℕ → ℕ → ℕ) (count place address width : ℕ) : Type 0 where
  pub one : (bytes : List ℕ) (i value : ℕ) → length bytes ≡ count → i < width → memory (put_1 bytes (place + i) value) ≡ store_1 (memory bytes) (address + i) value

put_1-length : (bytes : List ℕ) (place value : ℕ) → length (put_1 bytes place value) ≡ length bytes
put_1-length bytes place value = length-set bytes place (value % 2 ^ 8)

put_2-length : (bytes : List ℕ) (place value : ℕ) → length (put_2 bytes place value) ≡ length bytes
put_2-length bytes place value = put_1-length (put_1 bytes place value) (place + 1) (value / 2 ^ 8) ∙ put_1-length bytes place value

put_4-length : (bytes : List ℕ) (place value : ℕ) → length (put_4 bytes place value) ≡ length bytes
put_4-length bytes place value = put_2-length (put_2 bytes place value) (place + 2) (value / 2 ^ 16) ∙ put_2-length bytes place value

pub put_bytes-length : (kind : StoreKind) (bytes : List ℕ) (place value : ℕ) → length (put_bytes kind bytes place value) ≡ length bytes
put_bytes-length Sb bytes place value = put_1-length bytes place value
put_bytes-length Sh bytes place value = put_2-length bytes place value
put_bytes-length Sw bytes place value = put_4-length bytes place value

module _ (memory : List ℕ → ℕ → ℕ) (count place address width : ℕ) (shows : Shows memory count place address width) where
  one : (bytes : List ℕ) (value : ℕ) → length bytes ≡ count → 0 < width → memory (put_1 bytes place value) ≡ store_1 (memory bytes) address value
  one bytes value is lt =
      let a : place + 0 ≡ place = omega arith in
      let b : address + 0 ≡ address = omega arith in
      ap (λ (x : ℕ). memory (put_1 bytes x value)) (sym a) ∙ shows.one bytes 0 value is lt ∙ ap (λ (x : ℕ). store_1 (memory bytes) x value) b

  two : (bytes : List ℕ) (value : ℕ) → length bytes ≡ count → 1 < width → memory (put_2 bytes place value) ≡ store_2 (memory bytes) address value
  two bytes value is lt =
      let second = shows.one (put_1 bytes place value) 1 (value / 2 ^ 8) (put_1-length bytes place value ∙ is) lt in
      let first = one bytes value is (omega arith) in
      second ∙ ap (λ (m : ℕ → ℕ). store_1 m (address + 1) (value / 2 ^ 8)) first

  two_more : (bytes : List ℕ) (value : ℕ) → length bytes ≡ count → 3 < width → memory (put_2 bytes (place + 2) value) ≡ store_2 (memory bytes) (address + 2) value
  two_more bytes value is lt =
      let a : place + 3 ≡ place + 2 + 1 = omega arith in
      let b : address + 3 ≡ address + 2 + 1 = omega arith in
      let second = shows.one (put_1 bytes (place + 2) value) 3 (value / 2 ^ 8) (put_1-length bytes (place + 2) value ∙ is) lt in
      let first = shows.one bytes 2 value is (omega arith) in
      ap (λ (x : ℕ). memory (put_1 (put_1 bytes (place + 2) value) x (value / 2 ^ 8))) (sym a) ∙ second
      ∙ ap (λ (x : ℕ). store_1 (memory (put_1 bytes (place + 2) value)) x (value / 2 ^ 8)) b
      ∙ ap (λ (m : ℕ → ℕ). store_1 m (address + 2 + 1) (value / 2 ^ 8)) first

  four : (bytes : List ℕ) (value : ℕ) → length bytes ≡ count → 3 < width → memory (put_4 bytes place value) ≡ store_4 (memory bytes) address value
  four bytes value is lt =
      two_more (put_2 bytes place value) (value / 2 ^ 16) (put_2-length bytes place value ∙ is) lt
      ∙ ap (λ (m : ℕ → ℕ). store_2 m (address + 2) (value / 2 ^ 16)) (two bytes value is (omega arith))

  pub put-stored : (kind : StoreKind) (bytes : List ℕ) (value : ℕ) → length bytes ≡ count → store_width kind ≤ width → memory (put_bytes kind bytes place value) ≡ stored kind (memory bytes) address value
  put-stored Sb bytes value is le = one bytes value is (omega arith)
  put-stored Sh bytes value is le = two bytes value is (omega arith)
  put-stored Sw bytes value is le = four bytes value is (omega arith)

-- ---- a write to a page that has bytes of its own

pub written : (start end : ℕ) (table bytes : List ℕ) (otherwise : ℕ → ℕ) (kind : StoreKind) (address value : ℕ) → ArePages start end table bytes → slice_index table (page_of start address) ≢ 0 → start ≤ address → address + store_width kind ≤ end → address % 4096 + store_width kind ≤ 4096 → byte_in_pages start end table (put_bytes kind bytes (place_of start table address) value) otherwise ≡ stored kind (byte_in_pages start end table bytes otherwise) address value
written start end table bytes otherwise kind address value pages touched low high fits =
    let width = store_width kind in
    let place = place_of start table address in
    let all : place + width ≤ length bytes = there start end table bytes address width pages fits in
    let shows : Shows (λ (l : List ℕ). byte_in_pages start end table l otherwise) (length bytes) place address width = record {
      one = λ l i v is lt. fun_ext (λ a. put-at start end table l otherwise address i (v % 2 ^ 8) a pages.apart touched low (omega arith) (omega arith) (omega arith));
    } in
    put-stored (λ (l : List ℕ). byte_in_pages start end table l otherwise) (length bytes) place address width shows kind bytes value refl (omega arith)

put_1-before : (bytes : List ℕ) (place value k : ℕ) → k < place → slice_index (put_1 bytes place value) k ≡ slice_index bytes k
put_1-before bytes place value k lt = get_or-set_other bytes place k (value % 2 ^ 8) 0 (omega arith)

put_2-before : (bytes : List ℕ) (place value k : ℕ) → k < place → slice_index (put_2 bytes place value) k ≡ slice_index bytes k
put_2-before bytes place value k lt = put_1-before (put_1 bytes place value) (place + 1) (value / 2 ^ 8) k (omega arith) ∙ put_1-before bytes place value k lt

put_4-before : (bytes : List ℕ) (place value k : ℕ) → k < place → slice_index (put_4 bytes place value) k ≡ slice_index bytes k
put_4-before bytes place value k lt = put_2-before (put_2 bytes place value) (place + 2) (value / 2 ^ 16) k (omega arith) ∙ put_2-before bytes place value k lt

put_bytes-before : (kind : StoreKind) (bytes : List ℕ) (place value k : ℕ) → k < place → slice_index (put_bytes kind bytes place value) k ≡ slice_index bytes k
put_bytes-before Sb bytes place value k lt = put_1-before bytes place value k lt
put_bytes-before Sh bytes place value k lt = put_2-before bytes place value k lt
put_bytes-before Sw bytes place value k lt = put_4-before bytes place value k lt

own_place : (n r : ℕ) → n ≢ 0 → 4096 ≤ n * 4096 + r
own_place zero r some = absurd (some refl)
own_place (suc n) r some = omega arith

pub stay_pages : (start end : ℕ) (table bytes : List ℕ) (kind : StoreKind) (address value : ℕ) → ArePages start end table bytes → slice_index table (page_of start address) ≢ 0 → ArePages start end table (put_bytes kind bytes (place_of start table address) value)
stay_pages start end table bytes kind address value pages touched =
    let place = place_of start table address in
    let same : length (put_bytes kind bytes place value) ≡ length bytes = put_bytes-length kind bytes place value in
    let past : 4096 ≤ place = own_place (slice_index table (page_of start address)) (address % 4096) touched in
    record {
      cover = pages.cover;
      few = pages.few;
      whole = λ page. let w = pages.whole page in omega (arith, w, same);
      zeros = λ k lt. put_bytes-before kind bytes place value k (omega arith) ∙ pages.zeros k lt;
      apart = pages.apart;
      count = let count = pages.count in omega (arith, count, same);
    }

-- ---- a page gets bytes of its own

fewer_untouched : (table : List ℕ) (page number : ℕ) → page < length table → slice_index table page ≡ 0 → number ≢ 0 → untouched (slice_set table page number) + 1 ≡ untouched table
fewer_untouched [] page number lt is some = absurd (omega arith)
fewer_untouched (zero ∷ table) zero zero lt is some = absurd (some refl)
fewer_untouched (zero ∷ table) zero (suc number) lt is some = omega arith
fewer_untouched (suc n ∷ table) zero number lt is some = absurd (omega (arith, is))
fewer_untouched (zero ∷ table) (suc page) number lt is some = let rest = fewer_untouched table page number (omega arith) is some in omega (arith, rest)
fewer_untouched (suc n ∷ table) (suc page) number lt is some = fewer_untouched table page number (omega arith) is some

untouched-replicate : (n : ℕ) → untouched (replicate n 0) ≡ n
untouched-replicate zero = refl
untouched-replicate (suc n) = let rest = untouched-replicate n in omega (arith, rest)

module _ (start end : ℕ) (table bytes : List ℕ) (pages : ArePages start end table bytes) (page number : ℕ) (lt : page < length table) (new : slice_index table page ≡ 0) (is : number * 4096 ≡ length bytes) where
  abbrev table_after : List ℕ
  table_after = slice_set table page number

  abbrev bytes_after : List ℕ
  bytes_after = bytes ++ replicate 4096 0

  one_more : 4096 ≤ length bytes
  one_more = let w = pages.whole page in omega (arith, w)

  pub some_number : number ≢ 0
  some_number = λ e. let m = one_more in omega (arith, e, is, m)

  count_after : length bytes_after ≡ length bytes + 4096
  count_after = let l = length-replicate {A = ℕ} 4096 0 in length-append bytes (replicate 4096 0) ∙ ap (λ (n : ℕ). length bytes + n) l

  same_byte : (q r : ℕ) → r < 4096 → slice_index bytes_after (slice_index table_after q * 4096 + r) ≡ slice_index bytes (slice_index table q * 4096 + r)
  same_byte q r small = elim (cases_eq q page) [
    | inl same ↦
        let e : slice_index table_after q ≡ number = rw same (get_or-set_same table page number 0 lt) in
        let f : slice_index table q ≡ 0 = rw same new in
        let first : 0 * 4096 + r ≡ r = omega arith in
        let le : length bytes ≤ number * 4096 + r = omega (arith, is) in
        rw (e, f, first) (get_or-append_right bytes (replicate 4096 0) (length bytes) (number * 4096 + r) 0 refl le ∙ no_byte 4096 (number * 4096 + r - length bytes) ∙ sym (pages.zeros r small))
    | inr other ↦
        let e : slice_index table_after q ≡ slice_index table q = get_or-set_other table page q number 0 other in
        let w = pages.whole q in
        rw e (get_or_append_left bytes (replicate 4096 0) 0 (slice_index table q * 4096 + r) (omega (arith, w, small)))
  ]

  pub same_bytes : (otherwise : ℕ → ℕ) → byte_in_pages start end table_after bytes_after otherwise ≡ byte_in_pages start end table bytes otherwise
  same_bytes otherwise = fun_ext (λ a. let e = same_byte (page_of start a) (a % 4096) (below_page a) in rw e refl)

  -- the same, where the bytes behind are known by an equation
  pub same_after : (after : List ℕ) → after ≡ bytes_after → (otherwise : ℕ → ℕ) → byte_in_pages start end table_after after otherwise ≡ byte_in_pages start end table bytes otherwise
  same_after after e otherwise = rw e (same_bytes otherwise)

  entry : (q : ℕ) → slice_index table q < number
  entry q = let w = pages.whole q in omega (arith, w, is)

  after-same : (q : ℕ) → q ≡ page → slice_index table_after q ≡ number
  after-same q same = rw same (get_or-set_same table page number 0 lt)

  after-other : (q : ℕ) → q ≢ page → slice_index table_after q ≡ slice_index table q
  after-other q other = get_or-set_other table page q number 0 other

  apart_after : (q other : ℕ) → slice_index table_after q ≢ 0 → slice_index table_after q ≡ slice_index table_after other → q ≡ other
  apart_after q other some e = elim (cases_eq q page) [
    | inl q_is ↦ elim (cases_eq other page) [
      | inl other_is ↦ q_is ∙ sym other_is
      | inr other_not ↦
          let a = after-same q q_is in
          let b = after-other other other_not in
          let c = entry other in
          absurd (omega (arith, a, b, c, e))
    ]
    | inr q_not ↦ elim (cases_eq other page) [
      | inl other_is ↦
          let a = after-same other other_is in
          let b = after-other q q_not in
          let c = entry q in
          absurd (omega (arith, a, b, c, e))
      | inr other_not ↦
          let a = after-other q q_not in
          let b = after-other other other_not in
          pages.apart q other (λ z. some (a ∙ z)) (sym a ∙ e ∙ b)
    ]
  ]

  whole_after : (q : ℕ) → (slice_index table_after q + 1) * 4096 ≤ length bytes_after
  whole_after q = elim (cases_eq q page) [
    | inl same ↦ let a = after-same q same in let c = count_after in omega (arith, a, c, is)
    | inr other ↦ let a = after-other q other in let w = pages.whole q in let c = count_after in omega (arith, a, c, w)
  ]

  pub pages_after : ArePages start end table_after bytes_after
  pages_after =
      let same : length table_after ≡ length table = length-set table page number in
      let m = one_more in
      record {
        cover = let c = pages.cover in omega (arith, c, same);
        few = let f = pages.few in omega (arith, f, same);
        whole = whole_after;
        zeros = λ k small. get_or_append_left bytes (replicate 4096 0) 0 k (omega arith) ∙ pages.zeros k small;
        apart = apart_after;
        count = let c = pages.count in let n = count_after in let f = fewer_untouched table page number lt new some_number in omega (arith, c, n, f, same);
      }

-- ---- pages that were never written

pub zero_pages : (start end count : ℕ) → end ≤ (start / 4096 + count) * 4096 → count ≤ 2 ^ 20 → ArePages start end (replicate count 0) (replicate 4096 0)
zero_pages start end count cover few =
    let c : length {A = ℕ} (replicate count 0) ≡ count = length-replicate {A = ℕ} count 0 in
    let n : length {A = ℕ} (replicate 4096 0) ≡ 4096 = length-replicate {A = ℕ} 4096 0 in
    record {
      cover = omega (arith, cover, c);
      few = omega (arith, few, c);
      whole = λ page. let z = no_byte count page in omega (arith, z, n);
      zeros = λ place lt. no_byte 4096 place;
      apart = λ page other some e. absurd (some (no_byte count page));
      count = let u = untouched-replicate count in omega (arith, u, c, n);
    }

either : (b : Bool) (x y : ℕ) → x ≡ y → (if b then x else y) ≡ y
either true x y e = e
either false x y e = refl

pub zero_bytes : (start end count : ℕ) (table bytes : List ℕ) → table ≡ replicate count 0 → bytes ≡ replicate 4096 0 → byte_in_pages start end table bytes nothing ≡ nothing
zero_bytes start end count table bytes table_is bytes_are = rw (table_is, bytes_are) (fun_ext (λ a. either (is_inside start end a 1) _ 0 (no_byte 4096 (place_of start (replicate count 0) a))))

pub cover : (start end count : ℕ) → start ≤ end → count ≡ end / 4096 + min 1 (end % 4096) - start / 4096 → end ≤ (start / 4096 + count) * 4096
cover start end count ordered is = let p = page_up start end ordered in omega (arith, is, p)

pub few : (start end count : ℕ) → end ≤ 2 ^ 31 → count ≡ end / 4096 + min 1 (end % 4096) - start / 4096 → count ≤ 2 ^ 20
few start end count fits is = omega (arith, is, fits)

-- ---- room

untouched_some : (table : List ℕ) (page : ℕ) → page < length table → slice_index table page ≡ 0 → 1 ≤ untouched table
untouched_some table page lt is = let f = fewer_untouched table page 1 lt is (λ e. absurd (omega (arith, e))) in omega (arith, f)

pub room_for_one : (start end : ℕ) (table bytes : List ℕ) (page room : ℕ) → ArePages start end table bytes → (1 + length table) * 4096 ≤ room → page < length table → slice_index table page ≡ 0 → length bytes + 4096 ≤ room
room_for_one start end table bytes page room pages fits lt is =
    let c = pages.count in
    let u = untouched_some table page lt is in
    omega (arith, c, u, fits)

-- the bytes are whole pages
pub number-whole : (start end : ℕ) (table bytes : List ℕ) → ArePages start end table bytes → length bytes / 4096 * 4096 ≡ length bytes
number-whole start end table bytes pages = let c = pages.count in omega (arith, c)

pub filled : (done : Bool) (old : List ℕ) (len : ℕ) → done ≡ true → old ≡ [] → len ≡ 0 → (if done then take 4096 old ++ replicate (4096 - len) 0 else old) ≡ replicate 4096 0
filled done old len is none len_is =
    let e : take 4096 old ≡ [] = rw none (take_all 4096 [] (omega arith)) in
    let f : 4096 - len ≡ 4096 = omega (arith, len_is) in
    rw (is, e, f) refl

pub resized : (done : Bool) (old : List ℕ) (count len : ℕ) → done ≡ true → count ≡ len + 4096 → len ≡ length old → (if done then take count old ++ replicate (count - len) 0 else old) ≡ old ++ replicate 4096 0
resized done old count len is count_is len_is =
    let more : count - len ≡ 4096 = omega (arith, count_is) in
    let all : take count old ≡ old = take_all count old (omega (arith, count_is, len_is)) in
    rw (is, more, all) refl
