-- How the words behind a command's name are read: operands and options in any order (the terms are those of
-- POSIX.1-2017, Base Definitions 12.1).
use Rattle.std.specs.Prelude.{ℕ, List, [], ◌∷◌, Bool, true, not, ◌&&◌, ◌||◌, ◌==◌, if◌then◌else◌, Option, Some, None, codes, bytes_eq, map, option_map, option_and_then}
use Rattle.std.specs.List.{list_any, list_all, before_first, after_first}
use Rattle.qs_base.specs.Characters.{equals_sign, hyphen}

abbrev pub Text : Type 0
Text = List ℕ

-- ---- the form of one word

pub data Word : Type 0 where
  -- a file, a number, or the value of the option before it: not empty, and no `-` in front
  Plain : Word
  -- `--name=value`, where the value isn't empty
  Assigned : (name value : Text) → Word
  -- `--name`
  Named : (name : Text) → Word
  -- everything else
  Excluded : Word

abbrev pub assigned : Text → Text → Word
assigned name [] = Excluded
assigned name (b ∷ bs) = Assigned name (b ∷ bs)

-- the form of `--` and these bytes
abbrev pub option_of : Text → Word
option_of [] = Excluded
option_of (b ∷ bs) = if list_any (λ x. x == equals_sign) (b ∷ bs)
    then assigned (before_first (λ x. x == equals_sign) (b ∷ bs)) (after_first (λ x. x == equals_sign) (b ∷ bs))
    else Named (b ∷ bs)

-- the form of `-` and these bytes
abbrev pub after_hyphen : Text → Word
after_hyphen [] = Excluded
after_hyphen (b ∷ bs) = if b == hyphen then option_of bs else Excluded

abbrev pub word_of : Text → Word
word_of [] = Excluded
word_of (b ∷ bs) = if b == hyphen then after_hyphen bs else Plain

-- ---- the items that the words make, in their order

pub data Item : Type 0 where
  Operand : (value : Text) → Item
  Setting : (name value : Text) → Item

abbrev pub put : Item → Option (List Item) → Option (List Item)
put i = option_map (λ is. i ∷ is)

-- a word where no option waits for its value, or where the named one does; `next` reads the words behind it
abbrev pub placed : Option Text → Word → Text → (Option Text → Option (List Item)) → Option (List Item)
placed None Plain w next = put (Operand w) (next None)
placed None (Assigned name value) w next = put (Setting name value) (next None)
placed None (Named name) w next = next (Some name)
placed None Excluded w next = None
placed (Some name) Plain w next = put (Setting name w) (next None)
placed (Some name) (Assigned other value) w next = None
placed (Some name) (Named other) w next = None
placed (Some name) Excluded w next = None

-- at the end no option may wait
abbrev pub ended : Option Text → Option (List Item)
ended None = Some []
ended (Some name) = None

abbrev pub items_from : List Text → Option Text → Option (List Item)
items_from [] waiting = ended waiting
items_from (w ∷ ws) waiting = placed waiting (word_of w) w (items_from ws)

abbrev pub items : List Text → Option (List Item)
items words = items_from words None

-- ---- the items that a command takes

-- an option's name, and whether the command needs it
abbrev pub Options : Type 0
Options = List (Text × Bool)

abbrev pub names_of : Options → List Text
names_of = map (λ o. o.0)

-- the key of the operand
abbrev pub operand : Text
operand = codes "operand"

abbrev pub key : Item → Text
key (Operand value) = operand
key (Setting name value) = name

abbrev pub value_in : Item → Text
value_in (Operand value) = value
value_in (Setting name value) = value

abbrev pub among : Text → List Text → Bool
among name names = list_any (λ n. bytes_eq n name) names

abbrev pub is_known : List Text → Item → Bool
is_known names (Operand value) = true
is_known names (Setting name value) = among name names

abbrev pub are_distinct : List Text → Bool
are_distinct [] = true
are_distinct (k ∷ ks) = not (among k ks) && are_distinct ks

abbrev pub stands : Text → List Item → Bool
stands k is = list_any (λ i. bytes_eq (key i) k) is

-- the command knows each option, and nothing stands twice
abbrev pub is_allowed : List Text → List Item → Bool
is_allowed names is = list_all (is_known names) is && are_distinct (map key is)

-- what the command needs is there: its operand and each required option
abbrev pub is_complete : Options → List Item → Bool
is_complete options is = list_all (λ o. not o.1 || stands o.0 is) options && stands operand is

abbrev pub fits : Options → List Item → Bool
fits options is = is_allowed (names_of options) is && is_complete options is

-- the value that stands under a key
abbrev pub value_of : List Item → Text → Option Text
value_of [] k = None
value_of (i ∷ is) k = if bytes_eq (key i) k then Some (value_in i) else value_of is k

abbrev pub Values : Type 0
Values = Text → Option Text

-- the values that the words of a command with these options and one operand give
abbrev pub reading : Options → List Text → Option Values
reading options words = option_and_then (λ is. if fits options is then Some (value_of is) else None) (items words)
