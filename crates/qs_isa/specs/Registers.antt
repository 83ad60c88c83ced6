-- The names of registers in the calling convention.
use Rattle.std.specs.Prelude.{ℕ}

-- x0, which always reads 0
abbrev pub x0 : ℕ
x0 = 0

-- x1, the return address
abbrev pub ra : ℕ
ra = 1

-- x2, the stack pointer
abbrev pub sp : ℕ
sp = 2

-- x5, a temporary, which calls don't keep
abbrev pub t0 : ℕ
t0 = 5

-- x10, the first argument and the result
abbrev pub a0 : ℕ
a0 = 10

-- x11, the second argument
abbrev pub a1 : ℕ
a1 = 11

-- x12, the third argument
abbrev pub a2 : ℕ
a2 = 12

-- x13, the fourth argument
abbrev pub a3 : ℕ
a3 = 13

-- x14, the fifth argument
abbrev pub a4 : ℕ
a4 = 14

-- x15, the sixth argument
abbrev pub a5 : ℕ
a5 = 15

-- x16, the seventh argument
abbrev pub a6 : ℕ
a6 = 16

-- x17, the last argument, which names a call of the environment
abbrev pub a7 : ℕ
a7 = 17
