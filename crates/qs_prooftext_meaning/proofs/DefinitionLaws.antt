-- The index of the names of definitions.
use Rattle.std.proofs.Common.{◌≡◌, ℕ, Bool, true, false, List, [], ◌∷◌, ◌++◌, map, Result, Ok, Err, sym, ap, ◌∙◌, refl}
use Rattle.std.specs.Prelude.{◌||◌, if◌then◌else◌, bytes_eq, Vec, IfOk, IsOk}
use Rattle.std.specs.List.{list_any}
use Rattle.std.specs.declared.alloc.Global.{Global}
use Rattle.std.proofs.lemmas.List.{map-append}
use Rattle.std.proofs.lemmas.List.Folds.{list_any-append}
use Rattle.std.proofs.lemmas.Slice.Eq.{bytes_eq-Decides}
use Rattle.indexmap.specs.IndexSet.{insert_key}
use Rattle.qs_assert.specs.declared.define.Define.{Define}
use Rattle.qs_prooftext_meaning.specs.Definitions.{IsIndexOf, is_key, names_one_of}
use Rattle.qs_prooftext_meaning.specs.Proofs.{is_among}

pub key_found : (word : List ℕ) (keys : List (Vec ℕ Global)) → list_any (λ (k : Vec ℕ Global). bytes_eq word k.items) keys ≡ is_key keys word
key_found word [] = refl
key_found word (k ∷ ks) = ap (λ (b : Bool). bytes_eq word k.items || b) (key_found word ks)

-- ---- one definition more

abbrev same_key : Vec ℕ Global → Vec ℕ Global → Bool
same_key j k = bytes_eq j.items k.items

key_last : (keys : List (Vec ℕ Global)) (key : Vec ℕ Global) (word : List ℕ) → is_key (keys ++ key ∷ []) word ≡ (is_key keys word || is_among (key.items ∷ []) word)
key_last keys key word =
    ap (λ (names : List (List ℕ)). is_among names word) (map-append (λ (k : Vec ℕ Global). k.items) keys (key ∷ []))
    ∙ list_any-append (bytes_eq word) (map (λ (k : Vec ℕ Global). k.items) keys) (key.items ∷ [])

name_last : (ds : List Define) (d : Define) (word : List ℕ) → names_one_of (ds ++ d ∷ []) word ≡ (names_one_of ds word || is_among (d.name ∷ []) word)
name_last ds d word =
    ap (λ (names : List (List ℕ)). is_among names word) (map-append (λ (e : Define). e.name) ds (d ∷ []))
    ∙ list_any-append (bytes_eq word) (map (λ (e : Define). e.name) ds) (d.name ∷ [])

told_before : (x b : Bool) → (b ≡ true → x ≡ true) → x ≡ (x || (b || false))
told_before true b h = refl
told_before false true h = h refl
told_before false false h = refl

-- a key that is there is one word of those before
key_there : (keys : List (Vec ℕ Global)) (key : Vec ℕ Global) (word : List ℕ) → list_any (same_key key) keys ≡ true → is_key keys word ≡ (is_key keys word || is_among (key.items ∷ []) word)
key_there keys key word there =
    told_before (is_key keys word) (bytes_eq word key.items) (λ e. ap (is_key keys) ((bytes_eq-Decides word key.items).0 e) ∙ (sym (key_found key.items keys) ∙ there))

key_inserted : (keys : List (Vec ℕ Global)) (key : Vec ℕ Global) (word : List ℕ) → is_key (insert_key same_key keys key) word ≡ (is_key keys word || is_among (key.items ∷ []) word)
key_inserted keys key word = by (list_any (same_key key) keys) refl
  where
    by : (b : Bool) → list_any (same_key key) keys ≡ b → is_key (if b then keys else keys ++ key ∷ []) word ≡ (is_key keys word || is_among (key.items ∷ []) word)
    by true e = key_there keys key word e
    by false e = key_last keys key word

pub indexed_more : (keys reserved after : List (Vec ℕ Global)) (key : Vec ℕ Global) (ds more : List Define) (d : Define) → IsIndexOf keys ds → reserved ≡ keys → after ≡ insert_key same_key reserved key → key.items ≡ d.name → more ≡ ds ++ d ∷ [] → IsIndexOf after more
indexed_more keys reserved after key ds more d h kept inserted named pushed = λ word.
    (λ i. is_key ((inserted ∙ ap (λ (ks : List (Vec ℕ Global)). insert_key same_key ks key) kept) i) word)
    ∙ (key_inserted keys key word
    ∙ ((λ i. h word i || is_among (named i ∷ []) word)
    ∙ (sym (name_last ds d word) ∙ ap (λ (es : List Define). names_one_of es word) (sym pushed))))

-- what is so of an insertion that succeeds, of one that does
pub when_ok : {A E : Type 0} (r : Result A E) (P : Type 0) → IsOk r → IfOk r (λ v. P) → P
when_ok (Ok v) P is h = h
when_ok (Err e) P is h = absurd (cc)
