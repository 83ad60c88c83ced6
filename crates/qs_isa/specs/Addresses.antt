-- Where code and data begin.
use Rattle.std.specs.Prelude.{ℕ}

-- the address of an image's first word of code
abbrev pub code_start : ℕ
code_start = 0x00010000

-- the address of an image's first byte of data
abbrev pub data_start : ℕ
data_start = 0x10000000
