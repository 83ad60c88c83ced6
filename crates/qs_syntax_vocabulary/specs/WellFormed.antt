-- Terminals that stand for something: their names are names, and their values those of their types.
use Rattle.std.specs.Prelude.{ℕ, ◌^◌, nat_lt, Bool, true, if◌then◌else◌}
use Rattle.std.specs.List.{list_all}
use Rattle.qs_base.specs.Names.{is_name}
use Rattle.qs_syntax_vocabulary.specs.declared.terminal.Terminal.{Terminal}
use Rattle.qs_syntax_vocabulary.specs.declared.terminal.Terminal.TheVariants.{Name, TypeName, Keyword, Constant, Text, Punctuator}

abbrev pub is_byte : ℕ → Bool
is_byte value = nat_lt value 256

-- a name is none of the keywords (6.4.2.1), a constant is a value of its type (6.4.4.1), and a text consists of bytes (6.4.5)
abbrev pub is_well_formed : Terminal → Bool
is_well_formed (Name at x) = is_name x
is_well_formed (TypeName at x) = is_name x
is_well_formed (Keyword at k) = true
is_well_formed (Constant at n unsigned) = nat_lt n (if unsigned then 2 ^ 32 else 2 ^ 31)
is_well_formed (Text at bytes) = list_all is_byte bytes
is_well_formed (Punctuator at m) = true
