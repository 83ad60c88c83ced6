-- What a list of tokens begins with.
use Rattle.std.specs.Prelude.{Bool, true, false, ◌||◌, List, [], ◌∷◌, Option, None}
use Rattle.qs_base.specs.Keywords.{same_keyword}
use Rattle.qs_syntax_vocabulary.specs.Punctuators.{same_punctuator}
use Rattle.qs_syntax_vocabulary.specs.declared.terminal.Terminal.{Terminal}
use Rattle.qs_syntax_vocabulary.specs.declared.terminal.Terminal.TheVariants.{Name, TypeName, Keyword, Constant, Text, Punctuator}
use Rattle.qs_base.specs.declared.keyword.Keyword as key
use Rattle.qs_base.specs.declared.keyword.Keyword.TheVariants as keywords
use Rattle.qs_syntax_vocabulary.specs.declared.punctuator.Punctuator as punctuator
use Rattle.qs_syntax_vocabulary.specs.declared.punctuator.Punctuator.TheVariants as punctuators

abbrev pub is_punctuator : punctuator.Punctuator → Terminal → Bool
is_punctuator m (Name at x) = false
is_punctuator m (TypeName at x) = false
is_punctuator m (Keyword at k) = false
is_punctuator m (Constant at n unsigned) = false
is_punctuator m (Text at bytes) = false
is_punctuator m (Punctuator at n) = same_punctuator n m

abbrev pub is_keyword : key.Keyword → Terminal → Bool
is_keyword k (Name at x) = false
is_keyword k (TypeName at x) = false
is_keyword k (Keyword at l) = same_keyword l k
is_keyword k (Constant at n unsigned) = false
is_keyword k (Text at bytes) = false
is_keyword k (Punctuator at m) = false

-- the first token is this punctuator
abbrev pub starts : punctuator.Punctuator → List Terminal → Bool
starts m [] = false
starts m (t ∷ ts) = is_punctuator m t

-- the first token is this keyword
abbrev pub starts_with : key.Keyword → List Terminal → Bool
starts_with k [] = false
starts_with k (t ∷ ts) = is_keyword k t

-- the first token is `++` or `--`
abbrev pub starts_step : List Terminal → Bool
starts_step ts = starts punctuators.Increment ts || starts punctuators.Decrement ts

-- what the first token is as a punctuator, by one of the tables of operators
abbrev pub operator_at : {A : Type 0} → (punctuator.Punctuator → Option A) → List Terminal → Option A
operator_at of [] = None
operator_at of (Name at x ∷ ts) = None
operator_at of (TypeName at x ∷ ts) = None
operator_at of (Keyword at k ∷ ts) = None
operator_at of (Constant at n unsigned ∷ ts) = None
operator_at of (Text at bytes ∷ ts) = None
operator_at of (Punctuator at m ∷ ts) = of m

abbrev pub is_type_name : Terminal → Bool
is_type_name (Name at x) = false
is_type_name (TypeName at x) = true
is_type_name (Keyword at k) = false
is_type_name (Constant at n unsigned) = false
is_type_name (Text at bytes) = false
is_type_name (Punctuator at m) = false

-- the first token is the name of a type
abbrev pub starts_type_name : List Terminal → Bool
starts_type_name [] = false
starts_type_name (t ∷ ts) = is_type_name t

-- what begins a type without `static`: the name of one, and the keywords const void int char unsigned signed struct
abbrev pub begins_type : List Terminal → Bool
begins_type ts = starts_type_name ts || (starts_with keywords.Const ts || (starts_with keywords.Void ts || (starts_with keywords.Int ts || (starts_with keywords.Char ts || (starts_with keywords.Unsigned ts || (starts_with keywords.Signed ts || starts_with keywords.Struct ts))))))
