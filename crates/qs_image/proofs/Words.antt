-- Words that are written are read again, and words that are read are what was written.
use Rattle.std.proofs.Common.{◌≡◌, inl, inr, ℕ, zero, suc, ◌+◌, ◌*◌, ◌/◌, ◌%◌, ◌^◌, ◌<◌, ◌≤◌, List, [], ◌∷◌, ◌++◌, length, take, drop, slice_index, All, refl, sym, ap, ◌∙◌, arith}
use Rattle.std.proofs.lemmas.List.{length-drop, drop-drop, get_or-drop, get_or-take, get_or_past, length-take, take-append-drop}
use Rattle.std.proofs.lemmas.List.Elements.{All-head, All-tail, All-nil, All-cons, All-from_get_or}
use Rattle.std.proofs.lemmas.Bool.{cases_lt}
use Rattle.std.proofs.Math.Seq.{take-add}
use Rattle.byteorder.specs.Numbers.{little_number-reads_back, little_from-lt}
use Rattle.qs_image.specs.Image.{word_bytes, words_bytes}
use Rattle.qs_image.specs.declared.fault.HeaderWord.{HeaderWord}
use Rattle.qs_image.specs.declared.fault.HeaderWord.TheVariants as header
use Rattle.qs_image.specs.Bytes.{number, word, word_number, words}

pub IsBytes : List ℕ → Type 0
IsBytes bytes = (i : ℕ) → slice_index bytes i < 256

pub number-word_bytes : (w : ℕ) (rest : List ℕ) → w < 2 ^ 32 → number (word_bytes w ++ rest) ≡ w
unfolding number
number-word_bytes w rest below = little_number-reads_back 4 w rest below

pub number-lt : (bytes : List ℕ) → IsBytes bytes → number bytes < 2 ^ 32
unfolding number IsBytes
number-lt bytes fits = little_from-lt 0 4 bytes fits

pub word_bytes-number : (bytes : List ℕ) → 4 ≤ length bytes → IsBytes bytes → word_bytes (number bytes) ≡ take 4 bytes
unfolding number IsBytes
word_bytes-number [] long fits = absurd (omega arith)
word_bytes-number (a ∷ []) long fits = absurd (omega arith)
word_bytes-number (a ∷ b ∷ []) long fits = absurd (omega arith)
word_bytes-number (a ∷ b ∷ c ∷ []) long fits = absurd (omega arith)
word_bytes-number (a ∷ b ∷ c ∷ d ∷ rest) long fits =
    let first : a < 256 = fits 0 in
    let second : b < 256 = fits 1 in
    let third : c < 256 = fits 2 in
    let fourth : d < 256 = fits 3 in
    let n = a + 256 * (b + 256 * (c + 256 * (d + 0))) in
    let p : n % 256 ≡ a = omega arith in
    let q : n / 256 % 256 ≡ b = omega arith in
    let r : n / 65536 % 256 ≡ c = omega arith in
    let s : n / 16777216 % 256 ≡ d = omega arith in
    rw (p, q, r, s) refl

pub IsBytes-drop : (n : ℕ) (bytes : List ℕ) → IsBytes bytes → IsBytes (drop n bytes)
unfolding IsBytes
IsBytes-drop n bytes fits i = rw get_or-drop (fits (n + i))

pub words-words_bytes : (ws : List ℕ) → All (λ w. w < 2 ^ 32) ws → words (length ws) (words_bytes ws) ≡ ws
unfolding words
words-words_bytes [] below = refl
words-words_bytes (w ∷ ws) below =
    rw (number-word_bytes w (words_bytes ws) (All-head (λ w. w < 2 ^ 32) w ws below), words-words_bytes ws (All-tail (λ w. w < 2 ^ 32) w ws below)) refl

pub words_bytes-words : (n : ℕ) (bytes : List ℕ) → 4 * n ≤ length bytes → IsBytes bytes → words_bytes (words n bytes) ≡ take (4 * n) bytes
unfolding words
words_bytes-words zero bytes long fits = refl
words_bytes-words (suc n) bytes long fits =
    let rest = words_bytes-words n (drop 4 bytes) (omega (arith, length-drop 4 bytes)) (IsBytes-drop 4 bytes fits) in
    let front = word_bytes-number bytes (omega arith) fits in
    let split : take (4 * suc n) bytes ≡ take 4 bytes ++ take (4 * n) (drop 4 bytes) = let e : 4 * suc n ≡ 4 + 4 * n = omega arith in rw e (take-add 4 (4 * n) bytes) in
    ap (λ (x : List ℕ). x ++ words_bytes (words n (drop 4 bytes))) front ∙ ap (λ (x : List ℕ). take 4 bytes ++ x) rest ∙ sym split

pub words_bytes-append : (ws vs : List ℕ) → words_bytes (ws ++ vs) ≡ words_bytes ws ++ words_bytes vs
words_bytes-append [] vs = refl
words_bytes-append (w ∷ ws) vs = ap (λ (x : List ℕ). word_bytes w ++ x) (words_bytes-append ws vs)

-- so many words at the front, and what is behind them
pub front_words : (n : ℕ) (bytes : List ℕ) → 4 * n ≤ length bytes → IsBytes bytes → words_bytes (words n bytes) ++ drop (4 * n) bytes ≡ bytes
front_words n bytes long fits =
    ap (λ (x : List ℕ). x ++ drop (4 * n) bytes) (words_bytes-words n bytes long fits) ∙ take-append-drop (4 * n) bytes

-- the words from number i on
pub words-at : (n i : ℕ) (bytes : List ℕ) → words (suc n) (drop (4 * i) bytes) ≡ word i bytes ∷ words n (drop (4 * suc i) bytes)
unfolding words
words-at n i bytes =
    let e : 4 * i + 4 ≡ 4 * suc i = omega arith in
    ap (λ (x : List ℕ). word i bytes ∷ words n x) (drop-drop 4 (4 * i) bytes ∙ ap (λ (k : ℕ). drop k bytes) e)

pub words-lt : (n : ℕ) (bytes : List ℕ) → IsBytes bytes → All (λ w. w < 2 ^ 32) (words n bytes)
unfolding words
words-lt zero bytes fits = All-nil (λ w. w < 2 ^ 32)
words-lt (suc n) bytes fits = All-cons (λ w. w < 2 ^ 32) (number bytes) (words n (drop 4 bytes)) (number-lt bytes fits) (words-lt n (drop 4 bytes) (IsBytes-drop 4 bytes fits))

pub IsBytes-take : (n : ℕ) (bytes : List ℕ) → IsBytes bytes → IsBytes (take n bytes)
unfolding IsBytes
IsBytes-take n bytes fits i =
    elim (cases_lt i n) [
      | inl before ↦ rw (get_or-take n bytes i 0 before) (fits i)
      | inr behind ↦ rw (get_or_past (take n bytes) i 0 (omega (arith, length-take n bytes))) (omega arith)
    ]

pub All-from_IsBytes : (bytes : List ℕ) → IsBytes bytes → All (λ b. b < 256) bytes
unfolding IsBytes
All-from_IsBytes bytes fits = All-from_get_or (λ b. b < 256) bytes 0 (λ i lt. fits i)

pub IsBytes-from : (bytes : List ℕ) → ((i : ℕ) → slice_index bytes i < 256) → IsBytes bytes
unfolding IsBytes
IsBytes-from bytes fits = fits

-- the words of the header lie in its 32 bytes
pub word_number-most : (name : HeaderWord) → word_number name ≤ 7
word_number-most header.CodeCount = omega arith
word_number-most header.ByteCount = omega arith
word_number-most header.FunctionCount = omega arith
word_number-most header.NamesLength = omega arith
word_number-most header.Parameters = omega arith
word_number-most header.UnsignedSet = omega arith
