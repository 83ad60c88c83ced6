-- A piece takes at least one byte, and none that is not there; the loop over the pieces.
use Rattle.std.proofs.Common.{◌≡◌, ℕ, ◌+◌, ◌-◌, ◌≤◌, inl, inr, zero, suc, Bool, true, false, List, [], ◌∷◌, ◌++◌, Result, Ok, Err, length, take, drop, refl, ap, sym, ◌∙◌, subst, arith}
use Rattle.std.proofs.lemmas.List.{length-take-le, length-drop}
use Rattle.qs_lexer.specs.Literals.{character_of, text_of}
use Rattle.qs_lexer.specs.Numbers.{number_of}
use Rattle.qs_lexer.specs.Pieces.{Stands, Next, class_of, has_form, piece_of, piece_without, token_or_fault, is_punctuator}
use Rattle.qs_lexer.specs.Results.{SaysFault, fault_at}
use Rattle.qs_lexer.specs.Tokens.{ReadsTo, start, white_space, token, token_at, LexFaultAt}
use Rattle.qs_lexer.specs.Words.{punctuator_with, word_of}
use Rattle.qs_syntax_vocabulary.specs.Punctuators.{punctuator_of}
use Rattle.qs_lexer.specs.declared.fault.FaultKind.{FaultKind}
use Rattle.qs_lexer.specs.declared.fault.FaultKind.TheVariants as kinds
use Rattle.qs_lexer.specs.declared.fault.LexFault.{LexFault}
use Rattle.qs_lexer.specs.declared.pieces.Class.{Class}
use Rattle.qs_lexer.specs.declared.pieces.Class.TheVariants.{End, Space, LineComment, BlockComment, LineMarker, Word, Number, Character, Text, Other}
use Rattle.qs_lexer.specs.declared.pieces.Piece.{Piece}
use Rattle.qs_lexer.specs.declared.pieces.Piece.TheVariants as pieces
use Rattle.qs_syntax_vocabulary.specs.declared.tokens.Token.{Token}
use Rattle.qs_syntax_vocabulary.specs.declared.tokens.TokenKind.{TokenKind}
use Rattle.qs_lexer.proofs.PieceClasses.{Begun, class_begun}

-- what goes on has k bytes
abbrev IsOf : ℕ → Piece → Type 0
IsOf k pieces.End = Unit {0}
IsOf k (pieces.White n g) = n ≡ k
IsOf k (pieces.Token n kind) = n ≡ k
IsOf k (pieces.Fault fault) = Unit {0}

token_is : (k : ℕ) (r : Result TokenKind FaultKind) → IsOf k (token_or_fault k r)
token_is k (Ok kind) = refl
token_is k (Err fault) = tt

piece_is : (fresh : Bool) (c : Class) (p : List ℕ) → IsOf (length p) (piece_of fresh c p)
piece_is fresh End p = tt
piece_is fresh Space p = refl
piece_is fresh LineComment p = refl
piece_is fresh BlockComment p = refl
piece_is fresh LineMarker p = refl
piece_is fresh Word p = token_is (length p) (word_of p)
piece_is fresh Number p = token_is (length p) (number_of p)
piece_is fresh Character p = token_is (length p) (character_of p)
piece_is fresh Text p = token_is (length p) (text_of p)
piece_is fresh Other p = token_is (length p) (punctuator_with (punctuator_of p))

no_empty_punctuator : is_punctuator [] ≡ false
unfolding punctuator_of
no_empty_punctuator = refl

pub form_empty : (c : Class) → has_form c [] ≡ false
form_empty End = refl
form_empty Space = refl
form_empty LineComment = refl
form_empty BlockComment = refl
form_empty LineMarker = refl
form_empty Word = refl
form_empty Number = refl
form_empty Character = refl
form_empty Text = refl
form_empty Other = no_empty_punctuator

-- how a piece moves on, where k bytes are left
abbrev pub Moves : ℕ → Piece → Type 0
Moves k pieces.End = k ≡ 0
Moves k (pieces.White n g) = (1 ≤ n) × (n ≤ k)
Moves k (pieces.Token n kind) = (1 ≤ n) × (n ≤ k)
Moves k (pieces.Fault fault) = Unit {0}

abbrev IsEnd : Piece → Bool
IsEnd pieces.End = true
IsEnd (pieces.White n g) = false
IsEnd (pieces.Token n kind) = false
IsEnd (pieces.Fault fault) = false

moves_of : (k n : ℕ) (x : Piece) → 1 ≤ n → n ≤ k → IsEnd x ≡ false → IsOf n x → Moves k x
moves_of k n pieces.End a b o e = cc
moves_of k n (pieces.White m g) a b o e = (omega arith, omega arith)
moves_of k n (pieces.Token m kind) a b o e = (omega arith, omega arith)
moves_of k n (pieces.Fault fault) a b o e = tt

front_some : (c : Class) (rest : List ℕ) (n : ℕ) → has_form c (take n rest) ≡ true → 1 ≤ n
front_some c rest zero h = let z : has_form c [] ≡ false = form_empty c in cc
front_some c rest (suc n) h = omega arith

token_goes : (k : ℕ) (r : Result TokenKind FaultKind) → IsEnd (token_or_fault k r) ≡ false
token_goes k (Ok kind) = refl
token_goes k (Err fault) = refl

-- bytes of a form are no end
no_end : (fresh : Bool) (c : Class) (p : List ℕ) → has_form c p ≡ true → IsEnd (piece_of fresh c p) ≡ false
no_end fresh End p h = cc
no_end fresh Space p h = refl
no_end fresh LineComment p h = refl
no_end fresh BlockComment p h = refl
no_end fresh LineMarker p h = refl
no_end fresh Word p h = token_goes (length p) (word_of p)
no_end fresh Number p h = token_goes (length p) (number_of p)
no_end fresh Character p h = token_goes (length p) (character_of p)
no_end fresh Text p h = token_goes (length p) (text_of p)
no_end fresh Other p h = token_goes (length p) (punctuator_with (punctuator_of p))

absent_moves : (c : Class) (rest : List ℕ) → Begun c rest → Moves (length rest) (piece_without c)
absent_moves End rest b = b
absent_moves Space rest b = tt
absent_moves LineComment rest b = tt
absent_moves BlockComment rest b = tt
absent_moves LineMarker rest b = tt
absent_moves Word rest b = tt
absent_moves Number rest b = tt
absent_moves Character rest b = tt
absent_moves Text rest b = tt
absent_moves Other rest b = tt

stands_moves : (fresh : Bool) (c : Class) (rest : List ℕ) (x : Piece) → Begun c rest → Stands fresh c rest x → Moves (length rest) x
stands_moves fresh c rest x b (inl a) =
    let l : length (take a.n rest) ≡ a.n = length-take-le a.n rest a.longest.within in
    let P : ℕ → Type 0 = λ k. IsOf k (piece_of fresh c (take a.n rest)) in
    let Q : Piece → Type 0 = λ y. IsOf a.n y in
    moves_of (length rest) a.n x (front_some c rest a.n a.longest.has) a.longest.within (ap IsEnd a.is ∙ no_end fresh c (take a.n rest) a.longest.has) (subst Q (sym a.is) (subst P l (piece_is fresh c (take a.n rest))))
stands_moves fresh c rest x b (inr a) =
    let P : Piece → Type 0 = λ y. Moves (length rest) y in
    subst P (sym a.is) (absent_moves c rest b)

pub next_moves : (fresh : Bool) (rest : List ℕ) (x : Piece) → Next fresh rest x → Moves (length rest) x
next_moves fresh rest x a = stands_moves fresh (class_of fresh rest) rest x (class_begun fresh rest) a

-- ---- the loop

pub starts : (text : List ℕ) (ts : List Token) → ts ≡ [] → ReadsTo text ts true 0
starts text ts h = let P : List Token → Type 0 = λ us. ReadsTo text us true 0 in subst P (sym h) start

stepped : (text rest : List ℕ) (f : Bool) (at : ℕ) (x y : Piece) → rest ≡ drop at text → Next f rest x → x ≡ y → Next f (drop at text) y
stepped text rest f at x y d h e =
    let P : List ℕ → Type 0 = λ r. Next f r x in
    let Q : Piece → Type 0 = λ z. Next f (drop at text) z in
    subst Q e (subst P d h)

pub steps_white : (text rest : List ℕ) (ts : List Token) (f g : Bool) (at n : ℕ) (x : Piece) → ReadsTo text ts f at → rest ≡ drop at text → Next f rest x → x ≡ pieces.White n g → ReadsTo text ts g (at + n)
steps_white text rest ts f g at n x r d h e = white_space n g r (stepped text rest f at x (pieces.White n g) d h e)

pub steps_token : (text rest : List ℕ) (ts us : List Token) (f : Bool) (at n : ℕ) (kind : TokenKind) (x : Piece) → ReadsTo text ts f at → rest ≡ drop at text → Next f rest x → x ≡ pieces.Token n kind → us ≡ ts ++ token_at at n kind ∷ [] → ReadsTo text us false (at + n)
steps_token text rest ts us f at n kind x r d h e u =
    let P : List Token → Type 0 = λ vs. ReadsTo text vs false (at + n) in
    subst P (sym u) (token n kind r (stepped text rest f at x (pieces.Token n kind) d h e))

says_fault : (text : List ℕ) (kind : FaultKind) (at : ℕ) → LexFaultAt text kind at → SaysFault text (fault_at kind at)
says_fault text kinds.BadByte at h = h
says_fault text kinds.OpenComment at h = h
says_fault text kinds.BadLiteral at h = h
says_fault text kinds.WideLiteral at h = h
says_fault text kinds.Directive at h = h
says_fault text kinds.OpenText at h = h

pub steps_fault : (text rest : List ℕ) (ts : List Token) (f : Bool) (at : ℕ) (kind : FaultKind) (x : Piece) (fault : LexFault) → ReadsTo text ts f at → rest ≡ drop at text → Next f rest x → x ≡ pieces.Fault kind → fault ≡ fault_at kind at → SaysFault text fault
steps_fault text rest ts f at kind x fault r d h e l =
    let P : LexFault → Type 0 = λ y. SaysFault text y in
    subst P (sym l) (says_fault text kind at (record { tokens = ts; fresh = f; reads = r; stands = stepped text rest f at x (pieces.Fault kind) d h e }))

pub steps_move : (text rest : List ℕ) (f : Bool) (at : ℕ) (x y : Piece) → rest ≡ drop at text → Next f rest x → x ≡ y → Moves (length text - at) y
steps_move text rest f at x y d h e =
    let P : ℕ → Type 0 = λ k. Moves k y in
    subst P (length-drop at text) (next_moves f (drop at text) y (stepped text rest f at x y d h e))
