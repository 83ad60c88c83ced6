-- What is read byte by byte up to its end: a comment, a literal.
use Rattle.std.specs.Prelude.{ℕ, ◌+◌, Bool, true, false, ◌&&◌, List, [], ◌∷◌, ◌==◌, Option, Some, None, if◌then◌else◌}
use Rattle.qs_lexer.specs.Bytes.{is_empty}
use Rattle.qs_base.specs.Characters.{asterisk, backslash, new_line, slash}

-- The next byte goes on, is the last, or may not stand there. What goes on is a Bool: what the next byte has to know of those before it.
pub data Turn : Type 0 where
  Goes : Bool → Turn
  Ends : Turn
  Fails : Turn

abbrev pub closes_after : Turn → (Bool → Bool) → Bool → Bool
closes_after (Goes state) go is_last = go state
closes_after Ends go is_last = is_last
closes_after Fails go is_last = false

-- the first byte that ends them is the last of the bytes
abbrev pub closes : (Bool → ℕ → Turn) → Bool → List ℕ → Bool
closes turn state [] = false
closes turn state (byte ∷ bytes) = closes_after (turn state byte) (λ next. closes turn next bytes) (is_empty bytes)

-- behind `/*` (C11 6.4.9): a `/` right behind a `*` is the last; `starred` says whether a `*` stands right before
abbrev pub comment_turn : Bool → ℕ → Turn
comment_turn starred byte = if starred && byte == slash then Ends else Goes (byte == asterisk)

-- behind an opening quote (C11 6.4.4.4, 6.4.5): the line's end may not stand there, a backslash takes the next byte with it (`taken`), and another quote is the last
abbrev pub quote_turn : ℕ → Bool → ℕ → Turn
quote_turn quote taken byte =
    if byte == new_line then Fails
    else if taken then Goes false
    else if byte == backslash then Goes true
    else if byte == quote then Ends
    else Goes false

-- ---- how many bytes stand up to and with the last

abbrev pub later : ℕ → Option ℕ → Option ℕ
later i None = None
later i (Some n) = Some (i + n)

abbrev pub end_after : Turn → (Bool → Option ℕ) → Option ℕ
end_after (Goes state) go = later 1 (go state)
end_after Ends go = Some 1
end_after Fails go = None

abbrev pub end_of : (Bool → ℕ → Turn) → Bool → List ℕ → Option ℕ
end_of turn state [] = None
end_of turn state (byte ∷ bytes) = end_after (turn state byte) (λ next. end_of turn next bytes)
