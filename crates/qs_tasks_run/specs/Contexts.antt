-- What an activation that begins stores of the one that it interrupts, and a return takes back.
use Rattle.std.specs.Prelude.{ℕ, ◌+◌, ◌-◌, ◌*◌, ◌/◌, ◌%◌, ◌^◌, ◌==◌, ◌&&◌, nat_le, nat_lt, if◌then◌else◌}
use Rattle.qs_isa.specs.Registers.{sp}
use Rattle.qs_machine.specs.State.{load_4}

pub record Context : Type 0 where
  pub pc : ℕ
  pub registers : ℕ → ℕ

abbrev pub stack_pointer_of : Context → ℕ
stack_pointer_of c = c.registers sp

-- pc and x1 to x31 are 32 words
abbrev pub context_bytes : ℕ
context_bytes = 128

-- pc is word 0, and register r is word r
abbrev pub context_word : Context → (number : ℕ) → ℕ
context_word c number = if number == 0 then c.pc else c.registers number

-- byte `number` of a word, the lowest first
unfoldable pub byte_of_word : (word number : ℕ) → ℕ
byte_of_word word number = word / 256 ^ number % 256

-- the memory in which a context stands from an address on
unfoldable pub stored : Context → (from : ℕ) → (memory : ℕ → ℕ) → ℕ → ℕ
stored c from memory at =
    if nat_le from at && nat_lt at (from + context_bytes)
    then byte_of_word (context_word c ((at - from) / 4)) ((at - from) % 4)
    else memory at

unfoldable pub word_at : (memory : ℕ → ℕ) → (address : ℕ) → ℕ
word_at memory address = load_4 memory address

-- the context that stands there; x0 is 0, and there are no registers but x0 to x31
abbrev pub taken_back : (memory : ℕ → ℕ) → (from : ℕ) → Context
taken_back memory from = record {
  pc = word_at memory from;
  registers = λ r. if nat_le 1 r && nat_lt r 32 then word_at memory (from + 4 * r) else 0;
}
