-- The names of definitions, and when an index has them.
use Rattle.std.specs.Prelude.{◌≡◌, ℕ, Bool, List, map, Vec}
use Rattle.std.specs.declared.alloc.Global.{Global}
use Rattle.qs_assert.specs.declared.define.Define.{Define}
use Rattle.qs_prooftext_meaning.specs.Proofs.{is_among}

-- whether one of the definitions has this name
abbrev pub names_one_of : List Define → (word : List ℕ) → Bool
names_one_of ds word = is_among (map (λ d. d.name) ds) word

-- whether a word is a key of the index
abbrev pub is_key : List (Vec ℕ Global) → (word : List ℕ) → Bool
is_key keys word = is_among (map (λ k. k.items) keys) word

-- the keys are exactly the names of the definitions
abbrev pub IsIndexOf : List (Vec ℕ Global) → List Define → Type 0
IsIndexOf keys ds = (word : List ℕ) → is_key keys word ≡ names_one_of ds word
