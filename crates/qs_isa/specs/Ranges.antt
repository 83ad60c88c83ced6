-- The ranges of immediates, each as the word with its sign extended (RISC-V Unprivileged ISA 20191213, sections 2.2 and 2.3).
use Rattle.std.specs.Prelude.{◌≡◌, ℕ, ◌+◌, ◌-◌, ◌%◌, ◌^◌, ◌<◌}

-- from -2 ^ (n - 1) to 2 ^ (n - 1) - 1
abbrev pub IsSigned : ℕ → ℕ → Type 0
IsSigned n word = (word < 2 ^ 32) × ((word + 2 ^ (n - 1)) % 2 ^ 32 < 2 ^ n)

-- such a number that is even: a distance in code
abbrev pub IsOffset : ℕ → ℕ → Type 0
IsOffset n word = (word < 2 ^ 32) × ((word + 2 ^ (n - 1)) % 2 ^ 32 < 2 ^ n) × (word % 2 ≡ 0)

-- the low 12 bits are 0
abbrev pub IsUpper : ℕ → Type 0
IsUpper word = (word < 2 ^ 32) × (word % 2 ^ 12 ≡ 0)
