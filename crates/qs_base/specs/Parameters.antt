-- How many parameters functions may have: main, which is given its arguments as a run starts, and every other, which is
-- given them at calls; and how many arguments of a call go on the stack.
use Rattle.std.specs.Prelude.{ℕ, ◌-◌}

abbrev pub most_main_parameters : ℕ
most_main_parameters = 8

abbrev pub most_parameters : ℕ
most_parameters = 16

-- the first arguments go in a0 to a7 (RISC-V ELF psABI, "Integer Calling Convention")
abbrev pub most_register_arguments : ℕ
most_register_arguments = 8

-- so many of a call's arguments go on the stack, a word each
abbrev pub stack_arguments : (arguments : ℕ) → ℕ
stack_arguments arguments = arguments - most_register_arguments

abbrev pub most_stack_arguments : ℕ
most_stack_arguments = stack_arguments most_parameters
