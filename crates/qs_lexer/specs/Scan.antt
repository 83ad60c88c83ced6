-- What a list begins with.
use Rattle.std.specs.Prelude.{◌≡◌, ℕ, true, List, drop, length, take, nat_le, Option, None, if◌then◌else◌}
use Rattle.qs_lexer.specs.Bytes.{starts_with}
use Rattle.qs_syntax_vocabulary.specs.Punctuators.{punctuator_of}
use Rattle.qs_syntax_vocabulary.specs.declared.punctuator.Punctuator.{Punctuator}

-- the first two bytes are these
pub record Opens (first second : ℕ) (bytes : List ℕ) : Type 0 where
  pub one : starts_with first bytes ≡ true
  pub two : starts_with second (drop 1 bytes) ≡ true

-- the punctuator of the first n bytes
abbrev pub punctuator_front : ℕ → List ℕ → Option Punctuator
punctuator_front n rest = if nat_le n (length rest) then punctuator_of (take n rest) else None
