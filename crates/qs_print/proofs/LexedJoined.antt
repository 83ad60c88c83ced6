-- The text of terminals is lexed back.
use Rattle.std.proofs.Common.{◌≡◌, ℕ, ◌+◌, Bool, true, false, List, [], ◌∷◌, ◌++◌, length, refl, ap, sym, subst, arith}
use Rattle.std.proofs.lemmas.Bool.Decides.{nat_tests}
use Rattle.std.specs.List.{list_all}
use Rattle.std.proofs.lemmas.Bool.{and_parts}
use Rattle.qs_lexer.specs.Bytes.{is_space}
use Rattle.qs_lexer.specs.Terminals.{terminal_of}
use Rattle.qs_lexer.specs.Pieces.{Next, still_fresh}
use Rattle.qs_lexer.specs.declared.pieces.Piece.TheVariants as pieces
use Rattle.qs_syntax_vocabulary.specs.WellFormed.{is_well_formed}
use Rattle.qs_syntax_vocabulary.specs.declared.terminal.Terminal.{Terminal}
use Rattle.qs_syntax_vocabulary.specs.declared.terminal.Terminal.TheVariants.{Name, TypeName, Keyword, Constant, Text, Punctuator}
use Rattle.qs_syntax_vocabulary.specs.declared.tokens.TokenKind.{TokenKind}
use Rattle.qs_syntax_vocabulary.specs.declared.tokens.TokenKind.TheVariants as kinds
use Rattle.qs_lexer.proofs.RestOfText.{LexesAs, Lexed, lexed, nothing_left, token_then, white_then}
use Rattle.qs_print.specs.Laws.{LexedBack, numbered, renumbered}
use Rattle.qs_print.specs.Spelling.{joined, spelling}
use Rattle.qs_print.proofs.LexedPunctuators.{punctuator_next}
use Rattle.qs_print.proofs.LexedNumbers.{constant_next}
use Rattle.qs_print.proofs.LexedTexts.{text_back, text_next}
use Rattle.qs_print.proofs.LexedWords.{is_gap, keyword_next, name_next}

-- ---- one terminal

abbrev kind_of : Terminal → TokenKind
kind_of (Name at x) = kinds.Name
kind_of (TypeName at x) = kinds.Name
kind_of (Keyword at keyword) = kinds.Keyword keyword
kind_of (Constant at value unsigned) = kinds.Number value unsigned
kind_of (Text at bytes) = kinds.Text
kind_of (Punctuator at punctuator) = kinds.Punctuator punctuator

terminal_next : (fresh : Bool) (l : Terminal) (gap : ℕ) (rest : List ℕ) → is_well_formed l ≡ true → is_gap gap ≡ true → Next fresh (spelling l ++ gap ∷ rest) (pieces.Token (length (spelling l)) (kind_of l))
terminal_next fresh (Name at x) gap rest h g = name_next fresh x gap rest h g
terminal_next fresh (TypeName at x) gap rest h g = name_next fresh x gap rest h g
terminal_next fresh (Keyword at keyword) gap rest h g = keyword_next fresh keyword gap rest g
terminal_next fresh (Constant at value unsigned) gap rest h g = constant_next fresh value unsigned gap rest h g
terminal_next fresh (Text at bytes) gap rest h g = text_next fresh bytes gap rest h
terminal_next fresh (Punctuator at punctuator) gap rest h g = punctuator_next fresh punctuator gap rest g

terminal_back : (at : ℕ) (l : Terminal) → is_well_formed l ≡ true → terminal_of at (spelling l) (kind_of l) ≡ numbered at l
terminal_back at (Name old x) f = refl
terminal_back at (TypeName old x) f = refl
terminal_back at (Keyword old keyword) f = refl
terminal_back at (Constant old value unsigned) f = refl
terminal_back at (Text old bytes) f = ap (Text at) (text_back bytes f)
terminal_back at (Punctuator old punctuator) f = refl

-- ---- the gap behind it

gap_space : (gap : ℕ) → is_gap gap ≡ true → is_space gap ≡ true
gap_space gap h = grind (arith, nat_tests)

-- ---- all of them

-- what stands behind a terminal, and then the others
abbrev gap_before : List Terminal → ℕ
gap_before [] = 10
gap_before (l ∷ ls) = 32

abbrev others_joined : List Terminal → List ℕ
others_joined [] = []
others_joined (l ∷ ls) = joined (l ∷ ls)

joined_first : (l : Terminal) (ls : List Terminal) → joined (l ∷ ls) ≡ spelling l ++ gap_before ls ∷ others_joined ls
joined_first l [] = refl
joined_first l (k ∷ ls) = refl

gap_is : (ls : List Terminal) → is_gap (gap_before ls) ≡ true
gap_is [] = refl
gap_is (l ∷ ls) = refl

all_lexed : (fresh : Bool) (number : ℕ) (ls : List Terminal) → list_all is_well_formed ls ≡ true → LexesAs fresh (others_joined ls) number (renumbered number ls)
all_lexed fresh number [] h = nothing_left fresh number
all_lexed fresh number (l ∷ ls) h =
    let hs : (is_well_formed l ≡ true) × (list_all is_well_formed ls ≡ true) = and_parts (is_well_formed l) (list_all is_well_formed ls) h in
    let still : Bool = still_fresh false (gap_before ls ∷ []) in
    let others : LexesAs still (others_joined ls) (number + 1) (renumbered (number + 1) ls) = all_lexed still (number + 1) ls hs.1 in
    let gap : LexesAs false (gap_before ls ∷ others_joined ls) (number + 1) (renumbered (number + 1) ls) = white_then false still (gap_before ls) (gap_space (gap_before ls) (gap_is ls)) refl others in
    let all : LexesAs fresh (spelling l ++ gap_before ls ∷ others_joined ls) number (terminal_of number (spelling l) (kind_of l) ∷ renumbered (number + 1) ls) =
    token_then fresh (spelling l) (kind_of l) (terminal_next fresh l (gap_before ls) (others_joined ls) hs.0 (gap_is ls)) gap in
    let P : List ℕ → Type 0 = λ bytes. LexesAs fresh bytes number (renumbered number (l ∷ ls)) in
    let Q : Terminal → Type 0 = λ k. LexesAs fresh (spelling l ++ gap_before ls ∷ others_joined ls) number (k ∷ renumbered (number + 1) ls) in
    subst P (sym (joined_first l ls)) (subst Q (terminal_back number l hs.0) all)

back : (ls : List Terminal) → Lexed (joined ls) (renumbered 0 ls) → LexedBack ls
back ls l = record { tokens = l.tokens; are_tokens = l.are_tokens; same = l.seen }

-- printed terminals are lexed back
pub lexed_back : (ls : List Terminal) → list_all is_well_formed ls ≡ true → LexedBack ls
lexed_back [] h = back [] (lexed (10 ∷ []) [] (white_then true true 10 refl refl (nothing_left true 0)))
lexed_back (l ∷ ls) h = back (l ∷ ls) (lexed (joined (l ∷ ls)) (renumbered 0 (l ∷ ls)) (all_lexed true 0 (l ∷ ls) h))
