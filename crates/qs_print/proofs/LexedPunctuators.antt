-- A punctuator with a gap behind it.
use Rattle.std.proofs.Common.{◌≡◌, ℕ, ◌+◌, ◌<◌, ◌≤◌, inl, zero, suc, Bool, true, false, not, ◌&&◌, ◌||◌, List, [], ◌∷◌, ◌++◌, Some, None, is_some, length, take, refl, ap, sym, ◌∙◌, arith, ◌==◌}
use Rattle.std.proofs.Math.Seq.{take-append_seam}
use Rattle.std.proofs.lemmas.List.{length-append, length-take-le}
use Rattle.std.proofs.lemmas.Bool.Decides.{nat_tests}
use Rattle.std.specs.List.{list_any}
use Rattle.std.proofs.lemmas.Bool.{and_right, or_parts, or_right, and_parts, not-true}
use Rattle.qs_base.specs.Bytes.{is_digit, is_letter}
use Rattle.qs_lexer.specs.Bytes.{is_space, starts_with}
use Rattle.qs_lexer.specs.Pieces.{Next, Stands, class_of, class_with, token_or_fault}
use Rattle.qs_lexer.specs.Words.{punctuator_with}
use Rattle.qs_syntax_vocabulary.specs.Punctuators.{punctuator_of, punctuator_spelling}
use Rattle.qs_lexer.specs.declared.pieces.Class.TheVariants.{Other}
use Rattle.qs_lexer.specs.declared.pieces.Piece.TheVariants as pieces
use Rattle.qs_syntax_vocabulary.specs.declared.punctuator.Punctuator.{Punctuator}
use Rattle.qs_syntax_vocabulary.specs.declared.tokens.TokenKind.TheVariants as kinds
use Rattle.qs_lexer.proofs.PieceClasses.{next_is}
use Rattle.qs_syntax_vocabulary.proofs.PunctuatorLaws.{each_punctuator, no_punctuator, punctuator_of-spelling}
use Rattle.qs_print.proofs.LexedWords.{is_gap}

-- ---- no punctuator has a gap within

no_gap_within : (bytes : List ℕ) → list_any is_gap bytes ≡ true → punctuator_of bytes ≡ None
no_gap_within bytes h = no_punctuator (λ spelling. not (list_any is_gap spelling)) refl bytes (ap not h)

-- more bytes than the word's take the gap with them
gap_within : (word : List ℕ) (gap : ℕ) (rest : List ℕ) (m : ℕ) → is_gap gap ≡ true → length word < m → list_any is_gap (take m (word ++ gap ∷ rest)) ≡ true
gap_within word gap rest zero g h = absurd (omega arith)
gap_within [] gap rest (suc m) g h = rw g refl
gap_within (x ∷ xs) gap rest (suc m) g h = or_right (is_gap x) (list_any is_gap (take m (xs ++ gap ∷ rest))) (gap_within xs gap rest m g (omega arith))

-- ---- the class of a punctuator

abbrev begins_other : ℕ → Bool
begins_other a = is_space a || (a == 35 || (is_letter a || (is_digit a || (a == 39 || a == 34))))

abbrev is_plain : List ℕ → Bool
is_plain [] = false
is_plain (a ∷ []) = not (begins_other a)
is_plain (a ∷ b ∷ bytes) = not (begins_other a) && not (a == 47 && (b == 47 || b == 42))

record Plain (a : ℕ) : Type 0 where
  space : is_space a ≡ false
  marker : (a == 35) ≡ false
  letter : is_letter a ≡ false
  digit : is_digit a ≡ false
  character : (a == 39) ≡ false
  text : (a == 34) ≡ false

plain : (a : ℕ) → begins_other a ≡ false → Plain a
plain a h =
    let p : (is_space a ≡ false) × ((a == 35 || (is_letter a || (is_digit a || (a == 39 || a == 34)))) ≡ false) = or_parts (is_space a) (a == 35 || (is_letter a || (is_digit a || (a == 39 || a == 34)))) h in
    let q : ((a == 35) ≡ false) × ((is_letter a || (is_digit a || (a == 39 || a == 34))) ≡ false) = or_parts (a == 35) (is_letter a || (is_digit a || (a == 39 || a == 34))) p.1 in
    let r : (is_letter a ≡ false) × ((is_digit a || (a == 39 || a == 34)) ≡ false) = or_parts (is_letter a) (is_digit a || (a == 39 || a == 34)) q.1 in
    let s : (is_digit a ≡ false) × ((a == 39 || a == 34) ≡ false) = or_parts (is_digit a) (a == 39 || a == 34) r.1 in
    let t : ((a == 39) ≡ false) × ((a == 34) ≡ false) = or_parts (a == 39) (a == 34) s.1 in
    record { space = p.0; marker = q.0; letter = r.0; digit = s.0; character = t.0; text = t.1 }

plain_class : (fresh : Bool) (a : ℕ) (others : List ℕ) → Plain a → (a == 47 && starts_with 47 others) ≡ false → (a == 47 && starts_with 42 others) ≡ false → class_with fresh a others ≡ Other
plain_class fresh a others p l b = rw (p.space, l, b, and_right fresh (a == 35) p.marker, p.letter, p.digit, p.character, p.text) refl

gap_no : (gap x : ℕ) → is_gap gap ≡ true → 33 ≤ x → (gap == x) ≡ false
gap_no gap x g h = grind (arith, nat_tests)

no_comment : (x y z : Bool) → not (x && (y || z)) ≡ true → ((x && y) ≡ false) × ((x && z) ≡ false)
no_comment true true z h = cc
no_comment true false true h = cc
no_comment true false false h = (refl, refl)
no_comment false y z h = (refl, refl)

punctuator_class : (fresh : Bool) (word : List ℕ) (gap : ℕ) (rest : List ℕ) → is_plain word ≡ true → is_gap gap ≡ true → class_of fresh (word ++ gap ∷ rest) ≡ Other
punctuator_class fresh [] gap rest h g = cc
punctuator_class fresh (a ∷ []) gap rest h g =
    plain_class fresh a (gap ∷ rest) (plain a (not-true (begins_other a) h)) (and_right (a == 47) (gap == 47) (gap_no gap 47 g (omega arith))) (and_right (a == 47) (gap == 42) (gap_no gap 42 g (omega arith)))
punctuator_class fresh (a ∷ b ∷ bytes) gap rest h g =
    let p : (not (begins_other a) ≡ true) × (not (a == 47 && (b == 47 || b == 42)) ≡ true) = and_parts (not (begins_other a)) (not (a == 47 && (b == 47 || b == 42))) h in
    let n : ((a == 47 && b == 47) ≡ false) × ((a == 47 && b == 42) ≡ false) = no_comment (a == 47) (b == 47) (b == 42) p.1 in
    plain_class fresh a (b ∷ (bytes ++ gap ∷ rest)) (plain a (not-true (begins_other a) p.0)) n.0 n.1

-- ---- the punctuators

punctuator_plain : (punctuator : Punctuator) → is_plain (punctuator_spelling punctuator) ≡ true
punctuator_plain = each_punctuator (λ punctuator. is_plain (punctuator_spelling punctuator)) refl

punctuator_stands : (fresh : Bool) (word : List ℕ) (punctuator : Punctuator) (gap : ℕ) (rest : List ℕ) → punctuator_of word ≡ Some punctuator → is_gap gap ≡ true → Stands fresh Other (word ++ gap ∷ rest) (pieces.Token (length word) (kinds.Punctuator punctuator))
punctuator_stands fresh word punctuator gap rest e g =
    let taken : take (length word) (word ++ gap ∷ rest) ≡ word = take-append_seam word (gap ∷ rest) in
    let whole : length (word ++ gap ∷ rest) ≡ length word + suc (length rest) = length-append word (gap ∷ rest) in
    let within : length word ≤ length (word ++ gap ∷ rest) = omega arith in
    let one : punctuator_of (take (length word) (word ++ gap ∷ rest)) ≡ Some punctuator = ap punctuator_of taken ∙ e in
    inl (record {
      n = length word;
      longest = record { within = within; has = ap is_some one; no_longer = λ m more low. ap is_some (no_gap_within (take m (word ++ gap ∷ rest)) (gap_within word gap rest m g more)) };
      is = sym (ap (token_or_fault (length (take (length word) (word ++ gap ∷ rest)))) (ap punctuator_with one) ∙ ap (λ k. pieces.Token k (kinds.Punctuator punctuator)) (length-take-le (length word) (word ++ gap ∷ rest) within));
    })

pub punctuator_next : (fresh : Bool) (punctuator : Punctuator) (gap : ℕ) (rest : List ℕ) → is_gap gap ≡ true → Next fresh (punctuator_spelling punctuator ++ gap ∷ rest) (pieces.Token (length (punctuator_spelling punctuator)) (kinds.Punctuator punctuator))
punctuator_next fresh punctuator gap rest g =
    next_is fresh (punctuator_spelling punctuator ++ gap ∷ rest) Other (class_of fresh (punctuator_spelling punctuator ++ gap ∷ rest)) (pieces.Token (length (punctuator_spelling punctuator)) (kinds.Punctuator punctuator)) refl
    (punctuator_class fresh (punctuator_spelling punctuator) gap rest (punctuator_plain punctuator) g)
    (punctuator_stands fresh (punctuator_spelling punctuator) punctuator gap rest (punctuator_of-spelling punctuator) g)
