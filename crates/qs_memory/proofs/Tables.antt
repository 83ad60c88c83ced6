-- Tables of examples: each line has what is computed and what it is to give.
use Rattle.std.proofs.Common.{◌≡◌, ℕ, List, map, Option, Some, None}
use Rattle.qs_memory.specs.Values.{null, into, Value, integer, address}

pub record Line (A : Type 0) : Type 0 where
  pub computed : A
  pub wanted : A

infix 6 ◌gives◌
abbrev pub ◌gives◌ : {A : Type 0} → A → A → Line A
x gives y = record { computed = x; wanted = y }

-- each line gives what it is to give
abbrev pub Holds : {A : Type 0} → List (Line A) → Type 0
Holds lines = map (λ l. l.computed) lines ≡ map (λ l. l.wanted) lines

-- ---- answers

abbrev pub word : ℕ → Option Value
word n = Some (integer n)

abbrev pub at : ℕ → ℕ → Option Value
at block offset = Some (address (into block offset))

abbrev pub null_pointer : Option Value
null_pointer = Some (address null)

abbrev pub undefined : Option Value
undefined = None

-- the `int` that a comparison gives
abbrev pub yes : Option Value
yes = Some (integer 1)

abbrev pub not_so : Option Value
not_so = Some (integer 0)
