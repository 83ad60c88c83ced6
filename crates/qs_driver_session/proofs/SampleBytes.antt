-- A sample's source is short, and consists of bytes.
use Rattle.std.proofs.Common.{◌≡◌, ℕ, zero, suc, ◌+◌, ◌*◌, ◌<◌, ◌≤◌, nat_le, true, List, [], ◌∷◌, ◌++◌, length, codes, decimal, refl, ◌∙◌, length-append, arith}
use Rattle.std.proofs.lemmas.Bool.{agree_below, agree_below_at}
use Rattle.std.proofs.lemmas.Bool.Decides.{nat_tests}
use Rattle.std.proofs.lemmas.List.Folds.{list_all-append}
use Rattle.std.specs.Fmt.{digits}
use Rattle.std.specs.List.{list_all}
use Rattle.qs_syntax_vocabulary.specs.WellFormed.{is_byte}
use Rattle.qs_driver_session.specs.SampleSource.{calling, function_after, functions, main_function, sample_text}

-- ---- numbers

digits_are_few : agree_below (λ k. nat_le (length (decimal k)) 3) (λ k. true) 512 ≡ true
unfolding digits
digits_are_few = refl

digits_are_bytes : agree_below (λ k. list_all is_byte (decimal k)) (λ k. true) 512 ≡ true
unfolding digits
digits_are_bytes = refl

number_length : (k : ℕ) → k < 512 → length (decimal k) ≤ 3
number_length k l =
    let so : nat_le (length (decimal k)) 3 ≡ true = agree_below_at (λ k. nat_le (length (decimal k)) 3) (λ k. true) 512 k digits_are_few l in
    grind (arith, nat_tests)

number_bytes : (k : ℕ) → k < 512 → list_all is_byte (decimal k) ≡ true
number_bytes k l = agree_below_at (λ k. list_all is_byte (decimal k)) (λ k. true) 512 k digits_are_bytes l

-- ---- how long it is

calling_length : (k j : ℕ) → k < 512 → j < 512 → length (calling k j) ≤ 40
calling_length k j l m =
    let behind : List ℕ = codes "(x+1);}" ++ 10 ∷ [] in
    let middle : List ℕ = codes "(int x){return f" ++ (decimal j ++ behind) in
    omega (arith, number_length k l, number_length j m, length-append (decimal k) middle, length-append (decimal j) behind)

function_length : (j : ℕ) → suc j < 512 → length (function_after j) ≤ 40
function_length zero l = omega arith
function_length (suc j) l = calling_length (suc j + 1) (suc j) (omega arith) (omega arith)

functions_length : (n : ℕ) → n < 512 → length (functions n) ≤ 40 * n
functions_length zero l = omega arith
functions_length (suc j) l =
    let before : length (functions j) ≤ 40 * j = functions_length j (omega arith) in
    let one : length (function_after j) ≤ 40 = function_length j l in
    omega (arith, length-append (functions j) (function_after j))

main_length : (n : ℕ) → n < 512 → length (main_function n) ≤ 60
main_length n l =
    let behind : List ℕ = codes "(0)%10);return 0;}" ++ 10 ∷ [] in
    omega (arith, number_length n l, length-append (decimal n) behind)

pub sample_length : (n : ℕ) → n < 512 → length (sample_text n) ≤ 40 * n + 60
sample_length n l = omega (arith, functions_length n l, main_length n l, length-append (functions n) (main_function n))

-- ---- its bytes

both_bytes : (xs ys : List ℕ) → list_all is_byte xs ≡ true → list_all is_byte ys ≡ true → list_all is_byte (xs ++ ys) ≡ true
both_bytes xs ys h k = list_all-append is_byte xs ys ∙ rw (h, k) refl

calling_bytes : (k j : ℕ) → k < 512 → j < 512 → list_all is_byte (calling k j) ≡ true
calling_bytes k j l m = both_bytes (decimal k) _ (number_bytes k l) (both_bytes (decimal j) _ (number_bytes j m) refl)

function_bytes : (j : ℕ) → suc j < 512 → list_all is_byte (function_after j) ≡ true
function_bytes zero l = refl
function_bytes (suc j) l = calling_bytes (suc j + 1) (suc j) (omega arith) (omega arith)

functions_bytes : (n : ℕ) → n < 512 → list_all is_byte (functions n) ≡ true
functions_bytes zero l = refl
functions_bytes (suc j) l = both_bytes (functions j) (function_after j) (functions_bytes j (omega arith)) (function_bytes j l)

main_bytes : (n : ℕ) → n < 512 → list_all is_byte (main_function n) ≡ true
main_bytes n l = both_bytes (decimal n) _ (number_bytes n l) refl

pub sample_bytes : (n : ℕ) → n < 512 → list_all is_byte (sample_text n) ≡ true
sample_bytes n l = both_bytes (functions n) (main_function n) (functions_bytes n l) (main_bytes n l)
