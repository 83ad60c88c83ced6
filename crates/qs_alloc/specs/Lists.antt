-- Slots numbered one after the other, and the lists of a certificate.
use Rattle.std.specs.Prelude.{◌≡◌, ℕ, ◌+◌, ◌⊎◌, List, [], ◌∷◌, length, Contains}
use Rattle.qs_tac.specs.declared.places.Place.{Place}
use Rattle.qs_tac.specs.declared.places.Place.TheVariants.{Slot, Register}
use Rattle.qs_alloc.specs.Rows.{Rows, row}

pub record ListedOne (t : ℕ) (live : List ℕ) (before now : Rows) : Type 0 where
  pub count : length now ≡ length before
  pub there : (p : ℕ) → Contains live p → Contains (row now p) t
  pub keeps : (p u : ℕ) → Contains (row before p) u → Contains (row now p) u
  pub from : (p u : ℕ) → Contains (row now p) u → Contains (row before p) u ⊎ ((u ≡ t) × Contains live p)

-- t stands in list p where p stands in row t
pub record Turned (rows : Rows) (count : ℕ) (needed : Rows) : Type 0 where
  pub lists : length needed ≡ count
  pub there : (t p : ℕ) → Contains (row rows t) p → Contains (row needed p) t
  pub from : (t p : ℕ) → Contains (row needed p) t → Contains (row rows t) p

-- slots numbered from k on
abbrev pub dense : ℕ → List Place → List Place
dense k [] = []
dense k (Slot s ∷ at) = Slot k ∷ dense (k + 1) at
dense k (Register r ∷ at) = Register r ∷ dense k at
