-- The limits of what the tool takes.
use Rattle.std.specs.Prelude.{ℕ}

-- the longest source, in bytes
abbrev pub source_limit : ℕ
source_limit = 1048576

-- the longest proof file, in bytes
abbrev pub proof_limit : ℕ
proof_limit = 16777216

-- the longest image, in bytes
abbrev pub image_limit : ℕ
image_limit = 33554432

-- the longest executable, in bytes
abbrev pub elf_limit : ℕ
elf_limit = 33554432

-- the longest input of a run, in bytes
abbrev pub input_limit : ℕ
input_limit = 1048576
