-- The machine's results on words. A word has 32 bits and is seen as a number below 2 ^ 32.
-- The sections are those of the RISC-V Unprivileged ISA 20191213.
use Rattle.std.specs.Prelude.{ℕ, ◌+◌, ◌-◌, ◌*◌, ◌/◌, ◌%◌, ◌^◌, ◌==◌, nat_lt, if◌then◌else◌, ℤ, pos, ◌-ℤ◌, ◌*ℤ◌, int_div, int_rem, int_lt, unsigned_abs, bit_and, bit_or, bit_xor}
use Rattle.std.specs.Int.{int_div_euclid, int_rem_euclid}

-- ---- words and integers (section 1.3: two's complement)

-- the integer that a word stands for where it is read with a sign
abbrev pub signed : ℕ → ℤ
signed a = if nat_lt a (2 ^ 31) then pos a else pos a -ℤ pos (2 ^ 32)

-- the word of an integer: the integer modulo 2 ^ 32
abbrev pub wrap : ℤ → ℕ
wrap z = unsigned_abs (int_rem_euclid z (pos (2 ^ 32)))

-- the upper word of an integer of 64 bits: its quotient by 2 ^ 32, rounded down
abbrev pub upper : ℤ → ℕ
upper z = wrap (int_div_euclid z (pos (2 ^ 32)))

-- the word of a number of n bits whose highest bit is its sign (sections 2.2 and 2.3)
abbrev pub sign_extend : ℕ → ℕ → ℕ
sign_extend n x = if nat_lt x (2 ^ (n - 1)) then x else 2 ^ 32 - 2 ^ n + x

-- 2 ^ 32 - 1, every bit of a word
abbrev pub all_ones : ℕ
all_ones = 4294967295

-- ---- ADD, SUB, SLT, SLTU, AND, OR, XOR, SLL, SRL, SRA (section 2.4)

abbrev pub add : ℕ → ℕ → ℕ
add a b = (a + b) % 2 ^ 32

abbrev pub sub : ℕ → ℕ → ℕ
sub a b = (a + 2 ^ 32 - b) % 2 ^ 32

-- 1 where the first word is less, read with a sign
abbrev pub slt : ℕ → ℕ → ℕ
slt a b = if int_lt (signed a) (signed b) then 1 else 0

-- 1 where the first word is less, read without a sign
abbrev pub sltu : ℕ → ℕ → ℕ
sltu a b = if nat_lt a b then 1 else 0

abbrev pub and : ℕ → ℕ → ℕ
and a b = bit_and a b

abbrev pub or : ℕ → ℕ → ℕ
or a b = bit_or a b

abbrev pub xor : ℕ → ℕ → ℕ
xor a b = bit_xor a b

-- a shift goes by the low five bits of the second word
abbrev pub sll : ℕ → ℕ → ℕ
sll a b = a * 2 ^ (b % 32) % 2 ^ 32

-- zeros come in
abbrev pub srl : ℕ → ℕ → ℕ
srl a b = a / 2 ^ (b % 32)

-- copies of the sign come in: the quotient by a power of two, rounded down
abbrev pub sra : ℕ → ℕ → ℕ
sra a b = wrap (int_div_euclid (signed a) (pos (2 ^ (b % 32))))

-- ---- MUL, MULH, MULHSU, MULHU (section 7.1)

-- the lower word of the product
abbrev pub mul : ℕ → ℕ → ℕ
mul a b = a * b % 2 ^ 32

-- the upper word of the product: of both read with a sign, of the first alone, of none
abbrev pub mulh : ℕ → ℕ → ℕ
mulh a b = upper (signed a *ℤ signed b)

abbrev pub mulhsu : ℕ → ℕ → ℕ
mulhsu a b = upper (signed a *ℤ pos b)

abbrev pub mulhu : ℕ → ℕ → ℕ
mulhu a b = a * b / 2 ^ 32

-- ---- DIV, DIVU, REM, REMU (section 7.2)
-- A quotient is rounded toward zero and a remainder has the sign of the dividend.
-- By zero the quotient has every bit set and the remainder is the dividend.
-- The least integer by -1 has the quotient 2 ^ 31, whose word is the least integer again, and the remainder 0.

abbrev pub div : ℕ → ℕ → ℕ
div a b = if b == 0 then all_ones else wrap (int_div (signed a) (signed b))

abbrev pub rem : ℕ → ℕ → ℕ
rem a b = if b == 0 then a else wrap (int_rem (signed a) (signed b))

abbrev pub divu : ℕ → ℕ → ℕ
divu a b = if b == 0 then all_ones else a / b

abbrev pub remu : ℕ → ℕ → ℕ
remu a b = if b == 0 then a else a % b
