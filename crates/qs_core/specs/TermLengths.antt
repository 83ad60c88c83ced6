-- Lengths that a number of 64 bits may be too small for.
use Rattle.std.specs.Prelude.{ℕ, ◌-◌, ◌^◌, min}

-- the number, or the greatest one
abbrev pub saturated : ℕ → ℕ
saturated n = min n (2 ^ 64 - 1)
