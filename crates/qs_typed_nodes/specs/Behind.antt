-- What is built from the right, element by element: the elements so far before what the rest gives.
use Rattle.std.specs.Prelude.{◌≡◌, List, [], ◌∷◌, ◌++◌, Option, Some}
use Rattle.qs_memory.specs.Partial.{◌>>=◌}

abbrev pub before : {A B : Type 0} → (A → B → B) → List A → B → B
before cons [] b = b
before cons (x ∷ xs) b = cons x (before cons xs b)

abbrev pub behind : {A B : Type 0} → (A → B → B) → List A → Option B → Option B
behind cons xs o = o >>= λ b. Some (before cons xs b)

-- some elements, and those that follow
abbrev pub followed : {A : Type 0} → List A → Option (List A) → Option (List A)
followed xs o = o >>= λ ys. Some (xs ++ ys)

-- where an element comes before others, these elements follow the old ones
abbrev pub Continues : {D A : Type 0} → (List D → Option (List A)) → D → (old new : List A) → Type 0
Continues {D = D} definition d old new = (ds : List D) → followed old (definition (d ∷ ds)) ≡ followed new (definition ds)
