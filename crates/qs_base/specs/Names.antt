-- Names of the language (C11 6.4.2.1): words that are no keywords.
use Rattle.std.specs.Prelude.{ℕ, Bool, false, ◌&&◌, not, List, [], ◌∷◌}
use Rattle.std.specs.List.{list_all}
use Rattle.qs_base.specs.Bytes.{is_letter, is_word_byte}
use Rattle.qs_base.specs.Keywords.{is_keyword}

-- a letter, and then letters and digits
abbrev pub is_word : List ℕ → Bool
is_word [] = false
is_word (first ∷ others) = is_letter first && list_all is_word_byte others

unfoldable pub is_name : List ℕ → Bool
is_name bytes = is_word bytes && not (is_keyword bytes)
