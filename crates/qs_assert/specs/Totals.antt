-- A sum in two parts.
use Rattle.std.specs.Prelude.{ℕ, ◌^◌, ℤ, pos, negsuc, ◌+ℤ◌, ◌*ℤ◌, ◌≤ℤ◌}
use Rattle.qs_assert.specs.declared.total.Total.{Total}

abbrev pub total_value : Total → ℤ
total_value t = t.low +ℤ t.carry *ℤ pos (2 ^ 128)

-- the carry is from -(n + 1) to n
pub record Within (n : ℕ) (t : Total) : Type 0 where
  pub below : t.carry ≤ℤ pos n
  pub above : negsuc n ≤ℤ t.carry
