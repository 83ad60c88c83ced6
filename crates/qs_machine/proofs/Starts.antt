-- The machine at its start.
use Rattle.std.proofs.Common.{◌≡◌, ℕ, zero, suc, ◌+◌, ◌-◌, ◌%◌, ◌^◌, ◌<◌, ◌≤◌, Bool, true, false, List, [], ◌∷◌, ◌++◌, length, take, drop, slice_index, refl, ap, sym, ◌∙◌, arith, inl, inr, append_assoc}
use Rattle.std.specs.Prelude.{nat_eq, nat_le, nat_lt, ◌==◌, if◌then◌else◌, replicate}
use Rattle.std.proofs.lemmas.Bool.{cases_lt, cases_eq, le-leb, lt-leb, lt-ltb, ne_eqb}
use Rattle.std.proofs.lemmas.Bool.Decides.{nat_tests}
use Rattle.std.proofs.lemmas.List.{get_or_past, get_or-drop, get_or_append_left, get_or-append_right, get_or-replicate, length-append, length-replicate, length-take, take_more}
use Rattle.std.proofs.Math.Path.{fun_ext}
use Rattle.qs_isa.specs.Addresses.{code_start, data_start}
use Rattle.qs_image.specs.Image.{Image, word_bytes, words_bytes}
use Rattle.qs_machine.specs.State.{stack_top, with_value, is_inside}
use Rattle.qs_machine.specs.Run.{start_registers, start_memory}
use Rattle.qs_machine.specs.Bytes.{byte_in}
use Rattle.qs_machine.specs.declared.pages.Pages.{Pages}
use Rattle.qs_machine.specs.Hart.{byte_of, nothing}
use Rattle.qs_machine.proofs.Choices.{length-words_bytes}

-- ---- zeros

pub no_byte : (n i : ℕ) → slice_index (replicate n 0) i ≡ 0
no_byte n i = elim (cases_lt i n) [ inl lt ↦ get_or-replicate n i 0 0 lt | inr le ↦ get_or_past (replicate n 0) i 0 (omega (arith, length-replicate {A = ℕ} n 0)) ]

-- ---- registers

lowest : (tail : List ℕ) (n : ℕ) → n < 10 → slice_index (0 ∷ 0 ∷ stack_top ∷ 0 ∷ 0 ∷ 0 ∷ 0 ∷ 0 ∷ 0 ∷ 0 ∷ tail) n ≡ (if n == 2 then stack_top else 0)
lowest tail zero lt = refl
lowest tail (suc zero) lt = refl
lowest tail (suc (suc zero)) lt = refl
lowest tail (suc (suc (suc zero))) lt = refl
lowest tail (suc (suc (suc (suc zero)))) lt = refl
lowest tail (suc (suc (suc (suc (suc zero))))) lt = refl
lowest tail (suc (suc (suc (suc (suc (suc zero)))))) lt = refl
lowest tail (suc (suc (suc (suc (suc (suc (suc zero))))))) lt = refl
lowest tail (suc (suc (suc (suc (suc (suc (suc (suc zero)))))))) lt = refl
lowest tail (suc (suc (suc (suc (suc (suc (suc (suc (suc zero))))))))) lt = refl
lowest tail (suc (suc (suc (suc (suc (suc (suc (suc (suc (suc n)))))))))) lt = absurd (omega arith)

abbrev first_ten : List ℕ
first_ten = 0 ∷ 0 ∷ stack_top ∷ 0 ∷ 0 ∷ 0 ∷ 0 ∷ 0 ∷ 0 ∷ 0 ∷ []

-- behind the arguments stand zeros
past : (args : List ℕ) (k n : ℕ) → length args ≤ n → slice_index (args ++ drop k (replicate 22 0)) n ≡ 0
past args k n le = get_or-append_right args (drop k (replicate 22 0)) (length args) n 0 refl le ∙ get_or-drop k (replicate 22 0) (n - length args) 0 ∙ no_byte 22 (k + (n - length args))

within : (args : List ℕ) (k n : ℕ) → length args ≤ 8 → n < length args → slice_index (args ++ drop k (replicate 22 0)) n ≡ (if nat_lt n 8 then slice_index args n else 0)
within args k n few lt = let e : nat_lt n 8 ≡ true = lt-ltb n 8 (omega arith) in rw e (get_or_append_left args (drop k (replicate 22 0)) 0 n lt)

none : (args : List ℕ) (n : ℕ) (b : Bool) → length args ≤ n → (if b then slice_index args n else 0) ≡ 0
none args n true le = get_or_past args n 0 le
none args n false le = refl

argument : (args : List ℕ) (k n : ℕ) → length args ≤ 8 → slice_index (args ++ drop k (replicate 22 0)) n ≡ (if nat_lt n 8 then slice_index args n else 0)
argument args k n few = elim (cases_lt n (length args)) [ inl lt ↦ within args k n few lt | inr le ↦ past args k n le ∙ sym (none args n (nat_lt n 8) le) ]

low : (args tail : List ℕ) (n : ℕ) → n < 10 → slice_index (first_ten ++ tail) n ≡ start_registers args n
low args tail n lt = let e : nat_le 10 n ≡ false = lt-leb 10 n lt in rw e (lowest tail n lt)

high : (args : List ℕ) (k n : ℕ) → length args ≤ 8 → 10 ≤ n → slice_index (first_ten ++ (args ++ drop k (replicate 22 0))) n ≡ start_registers args n
high args k n few le =
    let e : nat_eq n 2 ≡ false = ne_eqb n 2 (omega arith) in
    let f : nat_le 10 n ≡ true = le-leb 10 n le in
    let g : nat_lt (n - 10) 8 ≡ nat_le n 17 = grind (arith, nat_tests) in
    rw (e, f, ← g) (get_or-append_right first_ten (args ++ drop k (replicate 22 0)) 10 n 0 refl le ∙ argument args k (n - 10) few)

register-at : (args : List ℕ) (k n : ℕ) → length args ≤ 8 → slice_index (first_ten ++ (args ++ drop k (replicate 22 0))) n ≡ start_registers args n
register-at args k n few = elim (cases_lt n 10) [ inl lt ↦ low args (args ++ drop k (replicate 22 0)) n lt | inr le ↦ high args k n few le ]

pub registers : (args words : List ℕ) (k : ℕ) → words ≡ args → length args ≤ 8 → (λ (n : ℕ). slice_index (first_ten ++ (words ++ drop k (replicate 22 0))) n) ≡ start_registers args
registers args words k is few = fun_ext (λ n. ap (λ (l : List ℕ). slice_index (first_ten ++ (l ++ drop k (replicate 22 0))) n) is ∙ register-at args k n few)

-- ---- the bytes of the code

words_bytes-append : (a b : List ℕ) → words_bytes (a ++ b) ≡ words_bytes a ++ words_bytes b
words_bytes-append [] b = refl
words_bytes-append (w ∷ a) b = ap (λ (rest : List ℕ). word_bytes w ++ rest) (words_bytes-append a b) ∙ sym (append_assoc (word_bytes w) (words_bytes a) (words_bytes b))

-- those of a word more
pub words_bytes-more : (words bytes four : List ℕ) (i word : ℕ) → i < length words → word ≡ slice_index words i → four ≡ word_bytes word → bytes ≡ words_bytes (take i words) → bytes ++ four ≡ words_bytes (take (i + 1) words)
words_bytes-more words bytes four i word lt is are so_far =
    rw (take_more words i 0 lt, words_bytes-append (take i words) (slice_index words i ∷ []), are, so_far, is) refl

-- ---- data

data-more-at : (start : ℕ) (front : List ℕ) (byte address : ℕ) → byte_in start (front ++ byte ∷ []) nothing address ≡ with_value (byte_in start front nothing) (start + length front) byte address
data-more-at start front byte address =
    let n : length (front ++ byte ∷ []) ≡ length front + 1 = length-append front (byte ∷ []) in
    elim (cases_lt address start) [
      | inl lt ↦ grind (arith, nat_tests, n, lt)
      | inr low ↦ elim (cases_lt (address - start) (length front)) [
        | inl lt ↦ let e = get_or_append_left front (byte ∷ []) 0 (address - start) lt in grind (arith, nat_tests, n, low, lt, e)
        | inr le ↦ elim (cases_eq address (start + length front)) [
          | inl same ↦
              let at : address - start ≡ length front = omega (arith, same) in
              let e : slice_index (front ++ byte ∷ []) (address - start) ≡ byte = rw at (get_or-append_right front (byte ∷ []) (length front) (length front) 0 refl (omega arith) ∙ self_less (length front) byte) in
              grind (arith, nat_tests, n, same, e)
          | inr other ↦ grind (arith, nat_tests, n, low, le, other)
        ]
      ]
    ]
  where
    self_less : (n b : ℕ) → slice_index (b ∷ []) (n - n) ≡ b
    self_less n b = let e : n - n ≡ 0 = omega arith in rw e refl

-- no data at all
pub no_data : (items : List ℕ) → nothing ≡ byte_in data_start (take 0 items) nothing
no_data items =
    let n = length-take 0 items in
    fun_ext (λ (a : ℕ). sym (same _ (slice_index (take 0 items) (a - data_start)) (get_or_past (take 0 items) (a - data_start) 0 (omega (arith, n)))))
  where
    same : (b : Bool) (x : ℕ) → x ≡ 0 → (if b then x else 0) ≡ 0
    same true x e = e
    same false x e = refl

-- the data with a byte more
pub data-more : (items : List ℕ) (i byte : ℕ) (memory : ℕ → ℕ) → i < length items → byte ≡ slice_index items i → byte < 2 ^ 8 → memory ≡ byte_in data_start (take i items) nothing → with_value memory (data_start + i) (byte % 2 ^ 8) ≡ byte_in data_start (take (i + 1) items) nothing
data-more items i byte memory lt is small so_far =
    let whole : byte % 2 ^ 8 ≡ byte = omega (arith, small) in
    let n : length (take i items) ≡ i = let m = length-take i items in omega (arith, m, lt) in
    let all = fun_ext (λ (a : ℕ). data-more-at data_start (take i items) byte a) in
    rw (whole, so_far, take_more items i 0 lt, ← is) (ap (λ (k : ℕ). with_value (byte_in data_start (take i items) nothing) (data_start + k) byte) (sym n) ∙ sym all)

-- ---- memory

memory-at : (image : Image) (address : ℕ) → start_memory image address ≡ byte_in code_start (words_bytes image.code) (byte_in data_start image.bytes nothing) address
memory-at image address = rw (length-words_bytes image.code) refl

pub memory : (image : Image) (code : List ℕ) (pages stack : Pages) → code ≡ words_bytes image.code → byte_of pages nothing ≡ byte_in data_start image.bytes nothing → byte_of stack nothing ≡ nothing → start_memory image ≡ byte_in code_start code (byte_of pages (byte_of stack nothing))
memory image code pages stack code_is bytes_are stack_is = rw (code_is, stack_is, bytes_are) (fun_ext (λ address. memory-at image address))
