-- Steps that may be undefined, one after another: nothing follows one that is.
use Rattle.std.specs.Prelude.{Bool, true, false, Option, Some, None}

infixl 10 ◌>>=◌
abbrev pub ◌>>=◌ : {A B : Type 0} → Option A → (A → Option B) → Option B
None >>= next = None
Some x >>= next = next x

-- what is defined only where a test holds
abbrev pub only_if : {A : Type 0} → Bool → Option A → Option A
only_if true o = o
only_if false o = None
