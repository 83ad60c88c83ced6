-- What holds of each token of a text.
use Rattle.std.proofs.Common.{◌≡◌, ℕ, ◌+◌, ◌-◌, ◌≤◌, inl, inr, zero, suc, Bool, true, false, cond, not, ◌&&◌, ◌||◌, List, [], ◌∷◌, ◌++◌, Option, Some, None, Result, Ok, Err, length, take, drop, All, refl, ap, sym, ◌∙◌, subst, arith, nat_lt, ◌^◌, ◌==◌}
use Rattle.std.specs.List.{list_any}
use Rattle.std.proofs.lemmas.List.{length-take-le, length-drop}
use Rattle.std.proofs.lemmas.List.Elements.{All-append, All-nil}
use Rattle.qs_base.specs.Keywords.{is_keyword}
use Rattle.qs_base.specs.Names.{is_name, is_word}
use Rattle.qs_lexer.specs.Laws.{InOrder, IsTextLiteral, IsTokenOf}
use Rattle.qs_lexer.specs.Literals.{character_of, character_of_elements, elements_of, is_bad, is_wide, text_of}
use Rattle.qs_lexer.specs.Numbers.{are_digits, base_of, digits_of, has_suffix, number_of, number_without_suffix, typed, value_of, without_suffix}
use Rattle.qs_lexer.specs.Pieces.{Longest, Next, class_of, has_form, is_token, piece_of, piece_without, token_or_fault}
use Rattle.qs_lexer.specs.Tokens.{ReadsTo, start, white_space, token, token_at, Tokens}
use Rattle.qs_base.specs.Keywords.{keyword_of}
use Rattle.qs_lexer.specs.Words.{punctuator_with, word_of, word_with}
use Rattle.qs_syntax_vocabulary.specs.Punctuators.{punctuator_of}
use Rattle.qs_lexer.specs.declared.fault.FaultKind.{FaultKind}
use Rattle.qs_lexer.specs.declared.fault.FaultKind.TheVariants as faults
use Rattle.qs_lexer.specs.declared.literals.Element.{Element}
use Rattle.qs_lexer.specs.declared.literals.Element.TheVariants as item
use Rattle.qs_lexer.specs.declared.pieces.Class.{Class}
use Rattle.qs_lexer.specs.declared.pieces.Class.TheVariants.{End, Space, LineComment, BlockComment, LineMarker, Word, Number, Character, Text, Other}
use Rattle.qs_lexer.specs.declared.pieces.Piece.{Piece}
use Rattle.qs_lexer.specs.declared.pieces.Piece.TheVariants as pieces
use Rattle.qs_base.specs.declared.keyword.Keyword.{Keyword}
use Rattle.qs_syntax_vocabulary.specs.declared.punctuator.Punctuator.{Punctuator}
use Rattle.qs_syntax_vocabulary.specs.declared.tokens.Token.{Token}
use Rattle.qs_syntax_vocabulary.specs.declared.tokens.TokenKind.{TokenKind}
use Rattle.qs_syntax_vocabulary.specs.declared.tokens.TokenKind.TheVariants as kinds
use Rattle.qs_lexer.proofs.FirstBytes.{is_token_class, longest_token}
use Rattle.qs_lexer.proofs.ReadingSteps.{next_moves}

name_of : (word : List ℕ) → is_word word ≡ true → keyword_of word ≡ None → is_name word ≡ true
unfolding is_name is_keyword
name_of word h k = rw (h, k) refl

-- ---- what kinds the classes give

abbrev IsOther : TokenKind → Bool
IsOther kinds.Name = false
IsOther (kinds.Keyword k) = true
IsOther (kinds.Number v u) = true
IsOther (kinds.Character v) = true
IsOther kinds.Text = false
IsOther (kinds.Punctuator m) = true

abbrev GivesOther : Result TokenKind FaultKind → Type 0
GivesOther (Ok kind) = IsOther kind ≡ true
GivesOther (Err fault) = Unit {0}

other_if : (b : Bool) (x y : Result TokenKind FaultKind) → GivesOther x → GivesOther y → GivesOther (cond b x y)
other_if true x y p q = p
other_if false x y p q = q

typed_other : (base : ℕ) (suffix : Bool) (value : ℕ) → GivesOther (typed base suffix value)
typed_other base suffix value =
    let wider : Result TokenKind FaultKind = cond (nat_lt value (2 ^ 32) && (suffix || not (base == 10))) (Ok (kinds.Number value true)) (Err faults.WideLiteral) in
    other_if (nat_lt value (2 ^ 31)) (Ok (kinds.Number value suffix)) wider refl
    (other_if (nat_lt value (2 ^ 32) && (suffix || not (base == 10))) (Ok (kinds.Number value true)) (Err faults.WideLiteral) refl tt)

without_other : (literal : List ℕ) (suffix : Bool) → GivesOther (number_without_suffix literal suffix)
without_other literal suffix =
    other_if (nat_lt 0 (length (digits_of literal)) && are_digits (base_of literal) (digits_of literal)) (typed (base_of literal) suffix (value_of (base_of literal) (digits_of literal))) (Err faults.BadLiteral)
    (typed_other (base_of literal) suffix (value_of (base_of literal) (digits_of literal))) tt

number_other : (literal : List ℕ) → GivesOther (number_of literal)
number_other literal = without_other (without_suffix literal) (has_suffix literal)

character_other : (list : List Element) → GivesOther (character_of_elements list)
character_other [] = tt
character_other (item.Byte value ∷ []) = refl
character_other (item.Wide ∷ []) = tt
character_other (item.Bad ∷ []) = tt
character_other (first ∷ second ∷ others) = tt

punctuator_other : (o : Option Punctuator) → GivesOther (punctuator_with o)
punctuator_other None = tt
punctuator_other (Some punctuator) = refl

-- ---- what a token's bytes are, n of them first in the rest

record Facts (rest : List ℕ) (n : ℕ) (kind : TokenKind) : Type 0 where
  longest : Longest is_token rest n
  name : kind ≡ kinds.Name → is_name (take n rest) ≡ true
  literal : kind ≡ kinds.Text → IsTextLiteral (take n rest)

abbrev pub IsPiece : Piece → ℕ → TokenKind → Type 0
IsPiece pieces.End n kind = ⊥
IsPiece (pieces.White m still) n kind = ⊥
IsPiece (pieces.Token m other) n kind = (m ≡ n) × (other ≡ kind)
IsPiece (pieces.Fault fault) n kind = ⊥

pub is_piece : (x : Piece) (n : ℕ) (kind : TokenKind) → pieces.Token n kind ≡ x → IsPiece x n kind
is_piece x n kind e = let P : Piece → Type 0 = λ y. IsPiece y n kind in subst P e (refl, refl)

pub record IsOk (k : ℕ) (r : Result TokenKind FaultKind) (n : ℕ) (kind : TokenKind) : Type 0 where
  pub same : k ≡ n
  pub is : r ≡ Ok kind

pub is_ok : (k : ℕ) (r : Result TokenKind FaultKind) (n : ℕ) (kind : TokenKind) → IsPiece (token_or_fault k r) n kind → IsOk k r n kind
is_ok k (Ok other) n kind h = record { same = h.0; is = ap Ok h.1 }
is_ok k (Err fault) n kind h = absurd h

not_name : (r : Result TokenKind FaultKind) (kind : TokenKind) → GivesOther r → r ≡ Ok kind → kind ≡ kinds.Name → ⊥
not_name (Ok other) kind g e k = let same : other ≡ kind = cc in let f : IsOther other ≡ false = ap IsOther (same ∙ k) in cc
not_name (Err fault) kind g e k = cc

not_text : (r : Result TokenKind FaultKind) (kind : TokenKind) → GivesOther r → r ≡ Ok kind → kind ≡ kinds.Text → ⊥
not_text (Ok other) kind g e k = let same : other ≡ kind = cc in let f : IsOther other ≡ false = ap IsOther (same ∙ k) in cc
not_text (Err fault) kind g e k = cc

abbrev good : TokenKind → Result TokenKind FaultKind
good kind = Ok kind

word_name : (word : List ℕ) (kind : TokenKind) → is_word word ≡ true → word_of word ≡ Ok kind → kind ≡ kinds.Name → is_name word ≡ true
word_name word kind h e k = name_of word h (by (keyword_of word) (kinds.Name) (ok_is (word_with (keyword_of word)) kind e ∙ k))
  where
    ok_is : (x y : TokenKind) → good x ≡ good y → x ≡ y
    ok_is x y e = cc

    by : (o : Option Keyword) (n : TokenKind) → word_with o ≡ kinds.Name → o ≡ None
    by None n e = refl
    by (Some keyword) n e = cc

word_no_text : (o : Option Keyword) (kind : TokenKind) → good (word_with o) ≡ good kind → kind ≡ kinds.Text → ⊥
word_no_text None kind e k = cc
word_no_text (Some keyword) kind e k = cc

text_no_name : (x y : Bool) (kind : TokenKind) (f g : FaultKind) → cond x (Err f) (cond y (Err g) (Ok kinds.Text)) ≡ Ok kind → kind ≡ kinds.Name → ⊥
text_no_name true y kind f g e k = cc
text_no_name false true kind f g e k = cc
text_no_name false false kind f g e k = cc

-- the bytes p have the form of the class, and are a token
record Right (p : List ℕ) (kind : TokenKind) : Type 0 where
  name : kind ≡ kinds.Name → is_name p ≡ true
  literal : kind ≡ kinds.Text → IsTextLiteral p

other_right : (p : List ℕ) (k n : ℕ) (kind : TokenKind) (r : Result TokenKind FaultKind) → GivesOther r → IsPiece (token_or_fault k r) n kind → Right p kind
other_right p k n kind r g h =
    let ok : IsOk k r n kind = is_ok k r n kind h in
    record { name = λ e. absurd (not_name r kind g ok.is e); literal = λ e. absurd (not_text r kind g ok.is e) }

right : (fresh : Bool) (c : Class) (p : List ℕ) (n : ℕ) (kind : TokenKind) → has_form c p ≡ true → IsPiece (piece_of fresh c p) n kind → Right p kind
right fresh End p n kind f h = absurd h
right fresh Space p n kind f h = absurd h
right fresh LineComment p n kind f h = absurd h
right fresh BlockComment p n kind f h = absurd h
right fresh LineMarker p n kind f h = absurd h
right fresh Word p n kind f h =
    let ok : IsOk (length p) (word_of p) n kind = is_ok (length p) (word_of p) n kind h in
    record { name = word_name p kind f ok.is; literal = λ e. absurd (word_no_text (keyword_of p) kind ok.is e) }
right fresh Number p n kind f h = other_right p (length p) n kind (number_of p) (number_other p) h
right fresh Character p n kind f h = other_right p (length p) n kind (character_of p) (character_other (elements_of p)) h
right fresh Text p n kind f h =
    let ok : IsOk (length p) (text_of p) n kind = is_ok (length p) (text_of p) n kind h in
    record {
      name = λ e. absurd (text_no_name (list_any is_bad (elements_of p)) (list_any is_wide (elements_of p)) kind _ _ ok.is e);
      literal = λ e. record { quoted = f; valid = ok.is ∙ ap Ok e };
    }
right fresh Other p n kind f h = other_right p (length p) n kind (punctuator_with (punctuator_of p)) (punctuator_other (punctuator_of p)) h

token_length : (fresh : Bool) (c : Class) (p : List ℕ) (n : ℕ) (kind : TokenKind) → IsPiece (piece_of fresh c p) n kind → length p ≡ n
token_length fresh End p n kind h = absurd h
token_length fresh Space p n kind h = absurd h
token_length fresh LineComment p n kind h = absurd h
token_length fresh BlockComment p n kind h = absurd h
token_length fresh LineMarker p n kind h = absurd h
token_length fresh Word p n kind h = (is_ok (length p) (word_of p) n kind h).same
token_length fresh Number p n kind h = (is_ok (length p) (number_of p) n kind h).same
token_length fresh Character p n kind h = (is_ok (length p) (character_of p) n kind h).same
token_length fresh Text p n kind h = (is_ok (length p) (text_of p) n kind h).same
token_length fresh Other p n kind h = (is_ok (length p) (punctuator_with (punctuator_of p)) n kind h).same

token_class : (fresh : Bool) (c : Class) (p : List ℕ) (n : ℕ) (kind : TokenKind) → IsPiece (piece_of fresh c p) n kind → is_token_class c ≡ true
token_class fresh End p n kind h = absurd h
token_class fresh Space p n kind h = absurd h
token_class fresh LineComment p n kind h = absurd h
token_class fresh BlockComment p n kind h = absurd h
token_class fresh LineMarker p n kind h = absurd h
token_class fresh Word p n kind h = refl
token_class fresh Number p n kind h = refl
token_class fresh Character p n kind h = refl
token_class fresh Text p n kind h = refl
token_class fresh Other p n kind h = refl

pub absent_no_token : (c : Class) (n : ℕ) (kind : TokenKind) → IsPiece (piece_without c) n kind → ⊥
absent_no_token End n kind h = h
absent_no_token Space n kind h = h
absent_no_token LineComment n kind h = h
absent_no_token BlockComment n kind h = h
absent_no_token LineMarker n kind h = h
absent_no_token Word n kind h = h
absent_no_token Number n kind h = h
absent_no_token Character n kind h = h
absent_no_token Text n kind h = h
absent_no_token Other n kind h = h

facts : (fresh : Bool) (rest : List ℕ) (n : ℕ) (kind : TokenKind) → Next fresh rest (pieces.Token n kind) → Facts rest n kind
facts fresh rest n kind (inl a) =
    let c : Class = class_of fresh rest in
    let h : IsPiece (piece_of fresh c (take a.n rest)) n kind = is_piece (piece_of fresh c (take a.n rest)) n kind a.is in
    let l : length (take a.n rest) ≡ a.n = length-take-le a.n rest a.longest.within in
    let e : a.n ≡ n = sym l ∙ token_length fresh c (take a.n rest) n kind h in
    let r : Right (take a.n rest) kind = right fresh c (take a.n rest) n kind a.longest.has h in
    let all : Longest is_token rest a.n = longest_token fresh rest a.n (token_class fresh c (take a.n rest) n kind h) a.longest in
    let P : ℕ → Type 0 = λ k. Facts rest k kind in
    subst P e (record { longest = all; name = r.name; literal = r.literal })
facts fresh rest n kind (inr a) = absurd (absent_no_token (class_of fresh rest) n kind (is_piece (piece_without (class_of fresh rest)) n kind a.is))

-- ---- each token of a text

one_token : (text : List ℕ) (fresh : Bool) (at n : ℕ) (kind : TokenKind) → Next fresh (drop at text) (pieces.Token n kind) → IsTokenOf text (token_at at n kind)
one_token text fresh at n kind next =
    let f : Facts (drop at text) n kind = facts fresh (drop at text) n kind next in
    let m : (1 ≤ n) × (n ≤ length (drop at text)) = next_moves fresh (drop at text) (pieces.Token n kind) next in
    let l : length (drop at text) ≡ length text - at = length-drop at text in
    let e : n ≡ at + n - at = omega arith in
    let P : ℕ → Type 0 = λ k. Facts (drop at text) k kind in
    let g : Facts (drop at text) (at + n - at) kind = subst P e f in
    record { some = omega (arith, m.0); within = omega (arith, m.0, m.1, l); longest = g.longest; name = g.name; literal = g.literal }

alone : {X : Type 0} (P : X → Type 0) (x : X) → P x → All P (x ∷ [])
alone P x p zero d h = p
alone P x p (suc k) d h = absurd (omega arith)

read_tokens : (text : List ℕ) (ts : List Token) (fresh : Bool) (at : ℕ) → ReadsTo text ts fresh at → All (IsTokenOf text) ts
read_tokens text _ _ _ start = All-nil (IsTokenOf text)
read_tokens text ts _ _ (white_space {fresh = f} {at = a} n still d next) = read_tokens text ts f a d
read_tokens text _ _ _ (token {tokens = ts} {fresh = f} {at = a} n kind d next) =
    All-append (IsTokenOf text) ts (token_at a n kind ∷ []) (read_tokens text ts f a d) (alone (IsTokenOf text) (token_at a n kind) (one_token text f a n kind next))

pub tokens_of : (text : List ℕ) (ts : List Token) → Tokens text ts → All (IsTokenOf text) ts
tokens_of text ts t = read_tokens text ts t.fresh (length text) t.reads

-- ---- their order

order_grows : (from : ℕ) (ts : List Token) (to further : ℕ) → InOrder from ts to → to ≤ further → InOrder from ts further
order_grows from [] to further h l = omega arith
order_grows from (t ∷ ts) to further h l = (h.0, order_grows t.end ts to further h.1 l)

order_with : (from : ℕ) (ts : List Token) (to n : ℕ) (kind : TokenKind) → InOrder from ts to → InOrder from (ts ++ token_at to n kind ∷ []) (to + n)
order_with from [] to n kind h = (h, omega arith)
order_with from (t ∷ ts) to n kind h = (h.0, order_with t.end ts to n kind h.1)

read_order : (text : List ℕ) (ts : List Token) (fresh : Bool) (at : ℕ) → ReadsTo text ts fresh at → InOrder 0 ts at
read_order text _ _ _ start = omega arith
read_order text ts _ _ (white_space {fresh = f} {at = a} n still d next) = order_grows 0 ts a (a + n) (read_order text ts f a d) (omega arith)
read_order text _ _ _ (token {tokens = ts} {fresh = f} {at = a} n kind d next) = order_with 0 ts a n kind (read_order text ts f a d)

pub in_order : (text : List ℕ) (ts : List Token) → Tokens text ts → InOrder 0 ts (length text)
in_order text ts t = read_order text ts t.fresh (length text) t.reads
