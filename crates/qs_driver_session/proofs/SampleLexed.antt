-- The words, punctuators, numbers and names of a sample's source.
use Rattle.std.proofs.Common.{◌≡◌, ℕ, ◌+◌, ◌<◌, suc, Bool, true, false, cond, ◌&&◌, List, [], ◌∷◌, ◌++◌, Option, Some, None, Result, Ok, Err, length, take, codes, nat_le, refl, arith}
use Rattle.std.proofs.lemmas.Bool.{agree_below, agree_below_at}
use Rattle.std.proofs.lemmas.Bool.Decides.{nat_tests}
use Rattle.std.specs.Cmp.{first_so, second_so}
use Rattle.std.specs.Fmt.{digits}
use Rattle.qs_base.specs.Bytes.{is_word_byte}
use Rattle.qs_base.specs.Keywords.{keyword_of}
use Rattle.qs_base.specs.Names.{is_word}
use Rattle.qs_base.specs.declared.keyword.Keyword.TheVariants as keywords
use Rattle.qs_lexer.specs.Bytes.{is_number_byte}
use Rattle.qs_lexer.specs.Pieces.{class_of}
use Rattle.qs_lexer.specs.Scan.{punctuator_front}
use Rattle.qs_lexer.specs.Terminals.{terminal_of}
use Rattle.qs_lexer.specs.Words.{word_of}
use Rattle.qs_lexer.specs.declared.fault.FaultKind.{FaultKind}
use Rattle.qs_lexer.specs.declared.pieces.Class.TheVariants.{Character, Other}
use Rattle.qs_lexer.specs.declared.pieces.Piece.TheVariants as pieces
use Rattle.qs_lexer.proofs.PieceClasses.{next_is}
use Rattle.qs_lexer.proofs.RestOfText.{LexesAs, token_then, white_then}
use Rattle.qs_lexer.proofs.ScanTokens.{punctuator_1, character_ends}
use Rattle.qs_lexer.proofs.TokenEnds.{number_next, word_next}
use Rattle.qs_syntax_vocabulary.specs.Punctuators.{punctuator_of}
use Rattle.qs_syntax_vocabulary.specs.declared.terminal.Terminal.{Terminal}
use Rattle.qs_syntax_vocabulary.specs.declared.terminal.Terminal.TheVariants.{Name, Keyword, Constant, Punctuator}
use Rattle.qs_syntax_vocabulary.specs.declared.punctuator.Punctuator as punctuator
use Rattle.qs_syntax_vocabulary.specs.declared.punctuator.Punctuator.TheVariants as punctuators
use Rattle.qs_syntax_vocabulary.specs.declared.tokens.TokenKind.{TokenKind}
use Rattle.qs_syntax_vocabulary.specs.declared.tokens.TokenKind.TheVariants as kinds
use Rattle.qs_driver_session.proofs.SampleTrees.{function_name}

-- ---- words, and what is white

word_then : (fresh : Bool) (word : List ℕ) (kind : TokenKind) (stop : ℕ) {rest : List ℕ} {number : ℕ} {ls : List Terminal} → is_word word ≡ true → word_of word ≡ Ok kind → is_word_byte stop ≡ false → LexesAs false (stop ∷ rest) (number + 1) ls
    → LexesAs fresh (word ++ stop ∷ rest) number (terminal_of number word kind ∷ ls)
word_then fresh word kind stop {rest} w e g on = token_then fresh word kind (word_next fresh word kind stop rest w e g) on

-- at the begin of a line
pub int_then : {rest : List ℕ} {number : ℕ} {ls : List Terminal} → LexesAs false (32 ∷ rest) (number + 1) ls → LexesAs true (codes "int" ++ 32 ∷ rest) number (Keyword number keywords.Int ∷ ls)
unfolding keyword_of
int_then on = word_then true (codes "int") (kinds.Keyword keywords.Int) 32 refl refl refl on

-- within a line
pub int_within : {rest : List ℕ} {number : ℕ} {ls : List Terminal} → LexesAs false (32 ∷ rest) (number + 1) ls → LexesAs false (codes "int" ++ 32 ∷ rest) number (Keyword number keywords.Int ∷ ls)
unfolding keyword_of
int_within on = word_then false (codes "int") (kinds.Keyword keywords.Int) 32 refl refl refl on

pub main_then : {rest : List ℕ} {number : ℕ} {ls : List Terminal} → LexesAs false (40 ∷ rest) (number + 1) ls → LexesAs false (codes "main" ++ 40 ∷ rest) number (Name number (codes "main") ∷ ls)
unfolding keyword_of
main_then on = word_then false (codes "main") kinds.Name 40 refl refl refl on

pub void_then : {rest : List ℕ} {number : ℕ} {ls : List Terminal} → LexesAs false (41 ∷ rest) (number + 1) ls → LexesAs false (codes "void" ++ 41 ∷ rest) number (Keyword number keywords.Void ∷ ls)
unfolding keyword_of
void_then on = word_then false (codes "void") (kinds.Keyword keywords.Void) 41 refl refl refl on

pub putchar_then : {rest : List ℕ} {number : ℕ} {ls : List Terminal} → LexesAs false (40 ∷ rest) (number + 1) ls → LexesAs false (codes "putchar" ++ 40 ∷ rest) number (Name number (codes "putchar") ∷ ls)
unfolding keyword_of
putchar_then on = word_then false (codes "putchar") kinds.Name 40 refl refl refl on

pub return_then : {rest : List ℕ} {number : ℕ} {ls : List Terminal} → LexesAs false (32 ∷ rest) (number + 1) ls → LexesAs false (codes "return" ++ 32 ∷ rest) number (Keyword number keywords.Return ∷ ls)
unfolding keyword_of
return_then on = word_then false (codes "return") (kinds.Keyword keywords.Return) 32 refl refl refl on

-- the parameter, before a parenthesis or a sum
pub x_then : (stop : ℕ) {rest : List ℕ} {number : ℕ} {ls : List Terminal} → is_word_byte stop ≡ false → LexesAs false (stop ∷ rest) (number + 1) ls → LexesAs false (codes "x" ++ stop ∷ rest) number (Name number (codes "x") ∷ ls)
unfolding keyword_of
x_then stop g on = word_then false (codes "x") kinds.Name stop refl refl g on

pub blank_then : {rest : List ℕ} {number : ℕ} {ls : List Terminal} → LexesAs false rest number ls → LexesAs false (32 ∷ rest) number ls
blank_then on = white_then false false 32 refl refl on

pub line_feed_then : {rest : List ℕ} {number : ℕ} {ls : List Terminal} → LexesAs true rest number ls → LexesAs false (10 ∷ rest) number ls
line_feed_then on = white_then false true 10 refl refl on

-- ---- the names of the functions

abbrev is_kind_name : Result TokenKind FaultKind → Bool
is_kind_name (Ok kinds.Name) = true
is_kind_name (Ok (kinds.Keyword k)) = false
is_kind_name (Ok (kinds.Number value unsigned)) = false
is_kind_name (Ok (kinds.Character value)) = false
is_kind_name (Ok kinds.Text) = false
is_kind_name (Ok (kinds.Punctuator m)) = false
is_kind_name (Err fault) = false

kind_is_name : (r : Result TokenKind FaultKind) → is_kind_name r ≡ true → r ≡ Ok kinds.Name
kind_is_name (Ok kinds.Name) h = refl
kind_is_name (Ok (kinds.Keyword k)) h = cc
kind_is_name (Ok (kinds.Number value unsigned)) h = cc
kind_is_name (Ok (kinds.Character value)) h = cc
kind_is_name (Ok kinds.Text) h = cc
kind_is_name (Ok (kinds.Punctuator m)) h = cc
kind_is_name (Err fault) h = cc

abbrev is_function_name : ℕ → Bool
is_function_name k = is_word (function_name k) && is_kind_name (word_of (function_name k))

function_names : agree_below is_function_name (λ k. true) 512 ≡ true
unfolding digits keyword_of
function_names = refl

pub name_then : (k : ℕ) {rest : List ℕ} {number : ℕ} {ls : List Terminal} → k < 512 → LexesAs false (40 ∷ rest) (number + 1) ls → LexesAs false (function_name k ++ 40 ∷ rest) number (Name number (function_name k) ∷ ls)
name_then k {rest} l on =
    let whole : is_function_name k ≡ true = agree_below_at is_function_name (λ k. true) 512 k function_names l in
    let word : is_word (function_name k) ≡ true = first_so (is_word (function_name k)) (is_kind_name (word_of (function_name k))) whole in
    let is : word_of (function_name k) ≡ Ok kinds.Name = kind_is_name (word_of (function_name k)) (second_so (is_word (function_name k)) (is_kind_name (word_of (function_name k))) whole) in
    word_then false (function_name k) kinds.Name 40 word is refl on

-- ---- punctuators of one byte that the byte behind doesn't prolong

record Apart (a b : ℕ) (m : punctuator.Punctuator) : Type 0 where
  class : (rest : List ℕ) → class_of false (a ∷ rest) ≡ Other
  one : punctuator_of (a ∷ []) ≡ Some m
  no_more : (bs : List ℕ) → punctuator_of (a ∷ b ∷ bs) ≡ None

either_none : (c : Bool) (o : Option punctuator.Punctuator) → o ≡ None → cond c o None ≡ None
either_none true o h = h
either_none false o h = refl

one_first : (a b : ℕ) (m : punctuator.Punctuator) (rest : List ℕ) → Apart a b m → punctuator_front 1 (a ∷ b ∷ rest) ≡ Some m
one_first a b m rest h =
    let fits : nat_le 1 (suc (length (b ∷ rest))) ≡ true = grind (arith, nat_tests) in
    rw fits h.one

punctuator_then : (a b : ℕ) (m : punctuator.Punctuator) {rest : List ℕ} {number : ℕ} {ls : List Terminal} → Apart a b m → LexesAs false (b ∷ rest) (number + 1) ls → LexesAs false (a ∷ b ∷ rest) number (Punctuator number m ∷ ls)
punctuator_then a b m {rest} h on =
    token_then false (a ∷ []) (kinds.Punctuator m) (next_is false (a ∷ b ∷ rest) Other (class_of false (a ∷ b ∷ rest)) (pieces.Token 1 (kinds.Punctuator m)) refl (h.class (b ∷ rest))
    (punctuator_1 false (a ∷ b ∷ rest) m (pieces.Token 1 (kinds.Punctuator m)) (either_none _ _ (h.no_more (take 1 rest))) (either_none _ _ (h.no_more [])) (one_first a b m rest h) refl)) on

pub plus_one_then : {rest : List ℕ} {number : ℕ} {ls : List Terminal} → LexesAs false (49 ∷ rest) (number + 1) ls → LexesAs false (43 ∷ 49 ∷ rest) number (Punctuator number punctuators.Plus ∷ ls)
unfolding punctuator_of
plus_one_then on = punctuator_then 43 49 punctuators.Plus (record { class = λ rest. refl; one = refl; no_more = λ bs. refl }) on

pub plus_f_then : {rest : List ℕ} {number : ℕ} {ls : List Terminal} → LexesAs false (102 ∷ rest) (number + 1) ls → LexesAs false (43 ∷ 102 ∷ rest) number (Punctuator number punctuators.Plus ∷ ls)
unfolding punctuator_of
plus_f_then on = punctuator_then 43 102 punctuators.Plus (record { class = λ rest. refl; one = refl; no_more = λ bs. refl }) on

pub percent_then : {rest : List ℕ} {number : ℕ} {ls : List Terminal} → LexesAs false (49 ∷ rest) (number + 1) ls → LexesAs false (37 ∷ 49 ∷ rest) number (Punctuator number punctuators.Percent ∷ ls)
unfolding punctuator_of
percent_then on = punctuator_then 37 49 punctuators.Percent (record { class = λ rest. refl; one = refl; no_more = λ bs. refl }) on

-- ---- punctuators of one byte that no other byte prolongs

pub open_then : (b : ℕ) {rest : List ℕ} {number : ℕ} {ls : List Terminal} → LexesAs false (b ∷ rest) (number + 1) ls → LexesAs false (40 ∷ b ∷ rest) number (Punctuator number punctuators.OpenParenthesis ∷ ls)
unfolding punctuator_of
open_then b on = punctuator_then 40 b punctuators.OpenParenthesis (record { class = λ rest. refl; one = refl; no_more = λ bs. refl }) on

pub close_then : (b : ℕ) {rest : List ℕ} {number : ℕ} {ls : List Terminal} → LexesAs false (b ∷ rest) (number + 1) ls → LexesAs false (41 ∷ b ∷ rest) number (Punctuator number punctuators.CloseParenthesis ∷ ls)
unfolding punctuator_of
close_then b on = punctuator_then 41 b punctuators.CloseParenthesis (record { class = λ rest. refl; one = refl; no_more = λ bs. refl }) on

pub semicolon_then : (b : ℕ) {rest : List ℕ} {number : ℕ} {ls : List Terminal} → LexesAs false (b ∷ rest) (number + 1) ls → LexesAs false (59 ∷ b ∷ rest) number (Punctuator number punctuators.Semicolon ∷ ls)
unfolding punctuator_of
semicolon_then b on = punctuator_then 59 b punctuators.Semicolon (record { class = λ rest. refl; one = refl; no_more = λ bs. refl }) on

pub block_then : (b : ℕ) {rest : List ℕ} {number : ℕ} {ls : List Terminal} → LexesAs false (b ∷ rest) (number + 1) ls → LexesAs false (123 ∷ b ∷ rest) number (Punctuator number punctuators.OpenBrace ∷ ls)
unfolding punctuator_of
block_then b on = punctuator_then 123 b punctuators.OpenBrace (record { class = λ rest. refl; one = refl; no_more = λ bs. refl }) on

pub block_end_then : (b : ℕ) {rest : List ℕ} {number : ℕ} {ls : List Terminal} → LexesAs false (b ∷ rest) (number + 1) ls → LexesAs false (125 ∷ b ∷ rest) number (Punctuator number punctuators.CloseBrace ∷ ls)
unfolding punctuator_of
block_end_then b on = punctuator_then 125 b punctuators.CloseBrace (record { class = λ rest. refl; one = refl; no_more = λ bs. refl }) on

-- ---- the numbers

pub zero_then : (stop : ℕ) {rest : List ℕ} {number : ℕ} {ls : List Terminal} → is_number_byte stop ≡ false → LexesAs false (stop ∷ rest) (number + 1) ls → LexesAs false (codes "0" ++ stop ∷ rest) number (Constant number 0 false ∷ ls)
zero_then stop {rest} g on = token_then false (codes "0") (kinds.Number 0 false) (number_next false (codes "0") (kinds.Number 0 false) stop rest refl refl refl g) on

pub one_then : (stop : ℕ) {rest : List ℕ} {number : ℕ} {ls : List Terminal} → is_number_byte stop ≡ false → LexesAs false (stop ∷ rest) (number + 1) ls → LexesAs false (codes "1" ++ stop ∷ rest) number (Constant number 1 false ∷ ls)
one_then stop {rest} g on = token_then false (codes "1") (kinds.Number 1 false) (number_next false (codes "1") (kinds.Number 1 false) stop rest refl refl refl g) on

pub ten_then : (stop : ℕ) {rest : List ℕ} {number : ℕ} {ls : List Terminal} → is_number_byte stop ≡ false → LexesAs false (stop ∷ rest) (number + 1) ls → LexesAs false (codes "10" ++ stop ∷ rest) number (Constant number 10 false ∷ ls)
ten_then stop {rest} g on = token_then false (codes "10") (kinds.Number 10 false) (number_next false (codes "10") (kinds.Number 10 false) stop rest refl refl refl g) on

-- `'0'`, whose value is 48
pub zero_character_then : {rest : List ℕ} {number : ℕ} {ls : List Terminal} → LexesAs false rest (number + 1) ls → LexesAs false (codes "'0'" ++ rest) number (Constant number 48 false ∷ ls)
zero_character_then {rest} on =
    token_then false (codes "'0'") (kinds.Character 48)
    (next_is false (codes "'0'" ++ rest) Character (class_of false (codes "'0'" ++ rest)) (pieces.Token 3 (kinds.Character 48)) refl refl
    (character_ends false (codes "'0'" ++ rest) 2 (pieces.Token 3 (kinds.Character 48)) refl refl refl)) on
