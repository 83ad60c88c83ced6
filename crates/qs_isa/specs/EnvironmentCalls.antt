-- The numbers of the environment's calls, which ECALL finds in a7.
use Rattle.std.specs.Prelude.{ℕ}

-- ends the program, with a0 modulo 256 as status
abbrev pub exit_call : ℕ
exit_call = 0

-- puts a0 modulo 256 on the output, and leaves that in a0
abbrev pub put_byte_call : ℕ
put_byte_call = 1

-- takes the next byte of the input into a0, or 0xffffffff at its end
abbrev pub take_byte_call : ℕ
take_byte_call = 2
