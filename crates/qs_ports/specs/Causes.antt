-- When a count of failures has risen.
use Rattle.std.specs.Prelude.{ℕ, ◌+◌, ◌-◌, ◌^◌, ◌≤◌, min}

-- a count that is kept in 64 bits rises by one, and stands still at its last value
abbrev pub one_more : ℕ → ℕ
one_more count = min (count + 1) (2 ^ 64 - 1)

-- the count has risen, or stands at the last value that 64 bits hold
abbrev pub Rose : ℕ → ℕ → Type 0
Rose before now = one_more before ≤ now
