-- Which names are types' (C11 6.7.8): the names of a set, which is given as a list, and no others.
use Rattle.std.specs.Prelude.{ℕ, Bool, List, map, bytes_eq, if◌then◌else◌}
use Rattle.std.specs.List.{list_any}
use Rattle.qs_syntax_vocabulary.specs.declared.terminal.Terminal.{Terminal}
use Rattle.qs_syntax_vocabulary.specs.declared.terminal.Terminal.TheVariants.{Name, TypeName, Keyword, Constant, Text, Punctuator}

-- a set of names
abbrev pub NameSet : Type 0
NameSet = List (List ℕ)

-- the name is in the set
abbrev pub is_in : NameSet → List ℕ → Bool
is_in set x = list_any (bytes_eq x) set

-- the token of a name, where those of the set are types'
abbrev pub name_token : NameSet → ℕ → List ℕ → Terminal
name_token set at x = if is_in set x then TypeName at x else Name at x

abbrev pub mark : NameSet → Terminal → Terminal
mark set (Name at x) = name_token set at x
mark set (TypeName at x) = name_token set at x
mark set (Keyword at k) = Keyword at k
mark set (Constant at n unsigned) = Constant at n unsigned
mark set (Text at bytes) = Text at bytes
mark set (Punctuator at m) = Punctuator at m

-- the tokens, with each name that is in the set as a type's, and each other one as none
abbrev pub marked : NameSet → List Terminal → List Terminal
marked set ts = map (mark set) ts
