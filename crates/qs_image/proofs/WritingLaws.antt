-- What is written, from left to right.
use Rattle.std.proofs.Common.{◌≡◌, ℕ, ◌+◌, ◌<◌, ◌≤◌, ◌^◌, List, [], ◌∷◌, ◌++◌, length, drop, get_or, All, refl, sym, ap, ◌∙◌, append-nil, append_assoc, arith}
use Rattle.std.specs.Option.{option_to_list}
use Rattle.std.proofs.lemmas.List.{drop_more, length-append}
use Rattle.std.proofs.lemmas.List.Elements.{All-nil, All-cons, All-weaker}
use Rattle.qs_image.specs.Image.{FunctionRecord, words_bytes, record_words, joined_names}
use Rattle.qs_image.proofs.Words.{words_bytes-append}

-- the words of a record, and those of the others
words_of_record : (f : FunctionRecord) (fs : List FunctionRecord) → words_bytes (record_words (f ∷ fs)) ≡ words_bytes (record_words (f ∷ [])) ++ words_bytes (record_words fs)
words_of_record f fs =
    let words = length f.name ∷ f.address ∷ f.cost ∷ option_to_list f.parameters in
    words_bytes-append words (record_words fs) ∙ ap (λ (ws : List ℕ). words_bytes ws ++ words_bytes (record_words fs)) (sym (append-nil words))

-- a record more is written
pub records_more : (old new whole : List ℕ) (f : FunctionRecord) (fs : List FunctionRecord) (k : ℕ) → k < length fs → f ≡ get_or fs k f → new ≡ old ++ words_bytes (record_words (f ∷ [])) → old ++ words_bytes (record_words (drop k fs)) ≡ whole → new ++ words_bytes (record_words (drop (k + 1) fs)) ≡ whole
records_more old new whole f fs k lt is written so_far =
    let ahead : drop k fs ≡ f ∷ drop (k + 1) fs = rw (drop_more fs k f lt, ← is) refl in
    let before : old ++ words_bytes (record_words (f ∷ drop (k + 1) fs)) ≡ whole = rw ahead at so_far in
    rw written (append_assoc old (words_bytes (record_words (f ∷ []))) (words_bytes (record_words (drop (k + 1) fs)))
    ∙ ap (λ (xs : List ℕ). old ++ xs) (sym (words_of_record f (drop (k + 1) fs))) ∙ before)

-- no name is longer than all of them
pub names_within : (fs : List FunctionRecord) → All (λ f. length f.name ≤ length (joined_names fs)) fs
names_within [] = All-nil (λ f. length f.name ≤ 0)
names_within (f ∷ fs) =
    let all = length (joined_names (f ∷ fs)) in
    let sum = length-append f.name (joined_names fs) in
    All-cons (λ g. length g.name ≤ all) f fs (omega arith) (All-weaker (λ g. length g.name ≤ length (joined_names fs)) (λ g. length g.name ≤ all) (λ g le. omega arith) fs (names_within fs))

pub names_fit : (fs : List FunctionRecord) → length (joined_names fs) ≤ 1048576 → All (λ f. length f.name < 2 ^ 32) fs
names_fit fs most = All-weaker (λ f. length f.name ≤ length (joined_names fs)) (λ f. length f.name < 2 ^ 32) (λ f le. omega arith) fs (names_within fs)
