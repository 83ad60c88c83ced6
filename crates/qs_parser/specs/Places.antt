-- Where names stand among tokens that are no types' (C11 6.7.8), and what is marked there.
use Rattle.std.specs.Prelude.{◌≡◌, ℕ, zero, suc, Bool, false, List, [], ◌∷◌, ◌++◌, Option, Some, None, bytes_eq, if◌then◌else◌, Vec}
use Rattle.std.specs.declared.alloc.Global.{Global}
use Rattle.indexmap.specs.IndexMap.{IndexMap, get}
use Rattle.qs_base.specs.Bytes.{same_bytes}
use Rattle.qs_syntax_vocabulary.specs.declared.terminal.Terminal.{Terminal}
use Rattle.qs_syntax_vocabulary.specs.declared.terminal.Terminal.TheVariants.{Name, TypeName, Keyword, Constant, Text, Punctuator}
use Rattle.qs_parser_grammar.specs.ParseMarked.{also}

-- the token is this name, and no type's
abbrev pub is_plain : List ℕ → Terminal → Bool
is_plain x (Name at y) = bytes_eq y x
is_plain x (TypeName at y) = false
is_plain x (Keyword at k) = false
is_plain x (Constant at n unsigned) = false
is_plain x (Text at bytes) = false
is_plain x (Punctuator at m) = false

-- this place, where the token is this name
abbrev pub place_if : Bool → ℕ → List ℕ
place_if b place = if b then place ∷ [] else []

-- the places of the name, where the first of the tokens has this place
abbrev pub places_from : List ℕ → ℕ → List Terminal → List ℕ
places_from x n [] = []
places_from x n (t ∷ ts) = place_if (is_plain x t) n ++ places_from x (suc n) ts

-- ---- an index of places

-- the places that are noted of a name
abbrev pub noted : Option (Vec ℕ Global) → List ℕ
noted None = []
noted (Some places) = places.items

module _ {S : Type 0} where
  -- of each name all places are noted, in their order, and no others
  pub record Indexes (index : IndexMap (List ℕ) (Vec ℕ Global) S) (tokens : List Terminal) : Type 0 where
    pub each : (x : List ℕ) → noted (get same_bytes index x) ≡ places_from x 0 tokens

  -- a further place is noted of this name
  pub record Notes (name : List ℕ) (place : ℕ) (before after : IndexMap (List ℕ) (Vec ℕ Global) S) : Type 0 where
    pub each : (x : List ℕ) → noted (get same_bytes after x) ≡ noted (get same_bytes before x) ++ place_if (same_bytes name x) place

  -- the same of a token, where it is a name
  pub record NotesToken (token : Terminal) (place : ℕ) (before after : IndexMap (List ℕ) (Vec ℕ Global) S) : Type 0 where
    pub each : (x : List ℕ) → noted (get same_bytes after x) ≡ noted (get same_bytes before x) ++ place_if (is_plain x token) place

-- ---- marks

-- the token at this place is a type's, where it is this name
abbrev pub also_at : List ℕ → ℕ → List Terminal → List Terminal
also_at x n [] = []
also_at x zero (t ∷ ts) = also x t ∷ ts
also_at x (suc n) (t ∷ ts) = t ∷ also_at x n ts

-- so are those at these places
abbrev pub marked_at : List ℕ → List ℕ → List Terminal → List Terminal
marked_at x [] ts = ts
marked_at x (place ∷ places) ts = marked_at x places (also_at x place ts)
