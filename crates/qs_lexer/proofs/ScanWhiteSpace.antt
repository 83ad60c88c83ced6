-- What the code finds stands there: white space.
use Rattle.std.proofs.Common.{◌≡◌, ℕ, ◌+◌, ◌<◌, ◌≤◌, inl, inr, zero, suc, Bool, true, false, cond, ◌&&◌, List, [], ◌∷◌, Some, None, length, take, drop, refl, ap, sym, ◌∙◌, arith, nat_le, ◌==◌}
use Rattle.std.proofs.lemmas.List.{length-take-le}
use Rattle.std.proofs.lemmas.Bool.Decides.{nat_tests}
use Rattle.std.specs.List.{list_all, prefix_len}
use Rattle.std.proofs.lemmas.List.Sums.{prefix_len-le-length}
use Rattle.std.proofs.lemmas.Bool.{and_right, cond-true}
use Rattle.qs_base.specs.Bytes.{is_digit, is_in_line}
use Rattle.qs_lexer.specs.Bytes.{blanks_then_digit, digit_after_blanks, is_blank, is_empty, is_space, starts, starts_with}
use Rattle.qs_lexer.specs.Ends.{closes, comment_turn, end_of}
use Rattle.qs_lexer.specs.Scan.{Opens}
use Rattle.qs_lexer.specs.Pieces.{NoFront, Stands, has_form, piece_without, still_fresh}
use Rattle.qs_lexer.specs.declared.pieces.Class.TheVariants.{Space, LineComment, BlockComment, LineMarker}
use Rattle.qs_lexer.specs.declared.pieces.Piece.{Piece}
use Rattle.qs_lexer.specs.declared.pieces.Piece.TheVariants as pieces
use Rattle.qs_lexer.proofs.Fronts.{list_all_take, closes_take, end_within, longest_of_le, longest_of_at}
use Rattle.qs_lexer.proofs.Conjunctions.{and_true, three_true, third_false, second_false, at_none, at_some}

-- a white piece of n bytes
white_is : (n : ℕ) (rest : List ℕ) (still : Bool) (piece : Piece) → n ≤ length rest → piece ≡ pieces.White n still → piece ≡ pieces.White (length (take n rest)) still
white_is n rest still piece w s = s ∙ ap (λ k. pieces.White k still) (sym (length-take-le n rest w))

-- ---- a space

space_first : (fresh : Bool) (a : ℕ) (tail : List ℕ) (piece : Piece) → is_space a ≡ true → piece ≡ pieces.White 1 (still_fresh fresh (a ∷ [])) → Stands fresh Space (a ∷ tail) piece
space_first fresh a tail piece h s = inl (record {
  n = 1;
  longest = record { within = omega arith; has = and_true (is_space a) true h; no_longer = each };
  is = s;
})
  where
    not_empty : (k : ℕ) (xs : List ℕ) → 1 ≤ k → k ≤ length xs → is_empty (take k xs) ≡ false
    not_empty zero xs l w = absurd (omega arith)
    not_empty (suc k) [] l w = absurd (omega arith)
    not_empty (suc k) (x ∷ xs) l w = refl

    each : (m : ℕ) → 1 < m → m ≤ suc (length tail) → has_form Space (take m (a ∷ tail)) ≡ false
    each zero l w = absurd (omega arith)
    each (suc m) l w = and_right (is_space a) (is_empty (take m tail)) (not_empty m tail (omega arith) (omega arith))

pub space_stands : (fresh : Bool) (rest : List ℕ) (still : Bool) (piece : Piece) → starts is_space rest ≡ true → ((a : ℕ) (tail : List ℕ) → rest ≡ a ∷ tail → still ≡ still_fresh fresh (a ∷ [])) → piece ≡ pieces.White 1 still → Stands fresh Space rest piece
space_stands fresh [] still piece h e s = cc
space_stands fresh (a ∷ tail) still piece h e s = space_first fresh a tail piece h (s ∙ ap (pieces.White 1) (e a tail refl))

-- ---- comments up to the line's end

in_line_first : (x : ℕ) (tail : List ℕ) → is_in_line x ≡ true → prefix_len is_in_line (x ∷ tail) ≡ 1 + prefix_len is_in_line tail
in_line_first x tail h = cond-true (is_in_line x) (1 + prefix_len is_in_line tail) 0 h

byte_in_line : (a x : ℕ) → (a == x) ≡ true → 11 ≤ x → is_in_line a ≡ true
byte_in_line a x h l = grind (arith, nat_tests)

pub line_stands : (fresh : Bool) (rest : List ℕ) (n : ℕ) (piece : Piece) → Opens 47 47 rest → n ≡ prefix_len is_in_line rest → piece ≡ pieces.White n false → Stands fresh LineComment rest piece
line_stands fresh [] n piece h e s = let k : false ≡ true = h.one in cc
line_stands fresh (a ∷ []) n piece h e s = let k : false ≡ true = h.two in cc
line_stands fresh (a ∷ b ∷ bs) n piece h e s =
    let w : prefix_len is_in_line (a ∷ b ∷ bs) ≤ suc (suc (length bs)) = prefix_len-le-length is_in_line (a ∷ b ∷ bs) in
    let i : prefix_len is_in_line (a ∷ b ∷ bs) ≡ 1 + prefix_len is_in_line (b ∷ bs) = in_line_first a (b ∷ bs) (byte_in_line a 47 h.one (omega arith)) in
    let j : prefix_len is_in_line (b ∷ bs) ≡ 1 + prefix_len is_in_line bs = in_line_first b bs (byte_in_line b 47 h.two (omega arith)) in
    let two : 2 ≤ n = omega arith in
    inl (record {
      n = n;
      longest = longest_of_le (has_form LineComment) (a ∷ b ∷ bs) n (omega arith) (each two);
      is = white_is n (a ∷ b ∷ bs) false piece (omega arith) s;
    })
  where
    each : 2 ≤ n → (m : ℕ) → m ≤ suc (suc (length bs)) → n ≤ m → has_form LineComment (take m (a ∷ b ∷ bs)) ≡ nat_le m n
    each two zero w l = absurd (omega arith)
    each two (suc zero) w l = absurd (omega arith)
    each two (suc (suc k)) w l =
        three_true (a == 47) (b == 47) (list_all is_in_line (a ∷ b ∷ take k bs)) h.one h.two
        ∙ list_all_take is_in_line (a ∷ b ∷ bs) (suc (suc k)) w ∙ ap (nat_le (suc (suc k))) (sym e)

-- ---- comments up to `*/`

block_end : (fresh : Bool) (a b : ℕ) (body : List ℕ) (n : ℕ) (piece : Piece) → (a == 47) ≡ true → (b == 42) ≡ true → end_of comment_turn false body ≡ Some n → piece ≡ pieces.White (n + 2) false → Stands fresh BlockComment (a ∷ b ∷ body) piece
block_end fresh a b body n piece p q e s =
    let w : n ≤ length body = end_within comment_turn false body n e in
    inl (record {
      n = n + 2;
      longest = longest_of_at (has_form BlockComment) (a ∷ b ∷ body) (n + 2) (omega arith) each;
      is = white_is (n + 2) (a ∷ b ∷ body) false piece (omega arith) s;
    })
  where
    each : (m : ℕ) → m ≤ suc (suc (length body)) → n + 2 ≤ m → has_form BlockComment (take m (a ∷ b ∷ body)) ≡ (m == n + 2)
    each zero h l = absurd (omega arith)
    each (suc zero) h l = absurd (omega arith)
    each (suc (suc k)) h l = three_true (a == 47) (b == 42) (closes comment_turn false (take k body)) p q ∙ closes_take comment_turn false body k (omega arith) ∙ at_some (end_of comment_turn false body) k n e ∙ grind (arith, nat_tests)

block_opened : (fresh : Bool) (a b : ℕ) (body : List ℕ) (piece : Piece) → end_of comment_turn false body ≡ None → piece ≡ piece_without BlockComment → Stands fresh BlockComment (a ∷ b ∷ body) piece
block_opened fresh a b body piece e s = inr (record { none = each; is = s })
  where
    each : NoFront (has_form BlockComment) (a ∷ b ∷ body)
    each zero h = refl
    each (suc zero) h = second_false (a == 47) false (closes comment_turn false []) refl
    each (suc (suc k)) h = third_false (a == 47) (b == 42) (closes comment_turn false (take k body)) (closes_take comment_turn false body k (omega arith) ∙ at_none (end_of comment_turn false body) k e)

pub block_ends : (fresh : Bool) (rest body : List ℕ) (n : ℕ) (piece : Piece) → Opens 47 42 rest → body ≡ drop 2 rest → end_of comment_turn false body ≡ Some n → piece ≡ pieces.White (n + 2) false → Stands fresh BlockComment rest piece
block_ends fresh [] body n piece h d e s = let k : false ≡ true = h.one in cc
block_ends fresh (a ∷ []) body n piece h d e s = let k : false ≡ true = h.two in cc
block_ends fresh (a ∷ b ∷ bs) body n piece h d e s = block_end fresh a b bs n piece h.one h.two (ap (end_of comment_turn false) (sym d) ∙ e) s

pub block_open : (fresh : Bool) (rest body : List ℕ) (piece : Piece) → Opens 47 42 rest → body ≡ drop 2 rest → end_of comment_turn false body ≡ None → piece ≡ piece_without BlockComment → Stands fresh BlockComment rest piece
block_open fresh [] body piece h d e s = let k : false ≡ true = h.one in cc
block_open fresh (a ∷ []) body piece h d e s = let k : false ≡ true = h.two in cc
block_open fresh (a ∷ b ∷ bs) body piece h d e s = block_opened fresh a b bs piece (ap (end_of comment_turn false) (sym d) ∙ e) s

-- ---- line markers: the digit stands before the line's end

no_digit : (tail : List ℕ) (k : ℕ) → digit_after_blanks tail ≡ false → digit_after_blanks (take k tail) ≡ false
no_digit tail zero h = refl
no_digit [] (suc k) h = refl
no_digit (b ∷ bs) (suc k) h = by_blank (is_blank b) (is_digit b) (digit_after_blanks bs) (digit_after_blanks (take k bs)) (no_digit bs k) h
  where
    by_blank : (x y p q : Bool) → (p ≡ false → q ≡ false) → cond x p y ≡ false → cond x q y ≡ false
    by_blank true y p q i h = i h
    by_blank false y p q i h = h

blank_in_line : (b : ℕ) → is_blank b ≡ true → is_in_line b ≡ true
blank_in_line b h = grind (arith, nat_tests)

digit_in_line : (b : ℕ) → is_digit b ≡ true → is_in_line b ≡ true
digit_in_line b h = grind (arith, nat_tests)

a_digit : (tail : List ℕ) (k : ℕ) → digit_after_blanks tail ≡ true → prefix_len is_in_line tail ≤ k → digit_after_blanks (take k tail) ≡ true
a_digit [] k h l = cc
a_digit (b ∷ bs) k h l = by_blank (λ j. a_digit bs j) (is_blank b) refl k h l
  where
    by_blank : ((j : ℕ) → digit_after_blanks bs ≡ true → prefix_len is_in_line bs ≤ j → digit_after_blanks (take j bs) ≡ true) → (x : Bool) → is_blank b ≡ x → (k : ℕ) → cond x (digit_after_blanks bs) (is_digit b) ≡ true → prefix_len is_in_line (b ∷ bs) ≤ k → digit_after_blanks (take k (b ∷ bs)) ≡ true
    by_blank go true e zero h l =
        let p : prefix_len is_in_line (b ∷ bs) ≡ 1 + prefix_len is_in_line bs = in_line_first b bs (blank_in_line b e) in absurd (omega arith)
    by_blank go false e zero h l =
        let p : prefix_len is_in_line (b ∷ bs) ≡ 1 + prefix_len is_in_line bs = in_line_first b bs (digit_in_line b h) in absurd (omega arith)
    by_blank go true e (suc k) h l =
        let p : prefix_len is_in_line (b ∷ bs) ≡ 1 + prefix_len is_in_line bs = in_line_first b bs (blank_in_line b e) in
        rw e (go k h (omega arith))
    by_blank go false e (suc k) h l = rw e h

no_blank : (tail : List ℕ) (k : ℕ) → starts is_blank tail ≡ false → starts is_blank (take k tail) ≡ false
no_blank tail zero h = refl
no_blank [] (suc k) h = refl
no_blank (b ∷ bs) (suc k) h = h

a_blank : (tail : List ℕ) (k : ℕ) → starts is_blank tail ≡ true → prefix_len is_in_line tail ≤ k → starts is_blank (take k tail) ≡ true
a_blank [] k h l = cc
a_blank (b ∷ bs) zero h l = let p : prefix_len is_in_line (b ∷ bs) ≡ 1 + prefix_len is_in_line bs = in_line_first b bs (blank_in_line b h) in absurd (omega arith)
a_blank (b ∷ bs) (suc k) h l = h

a_start : (tail : List ℕ) (k : ℕ) → blanks_then_digit tail ≡ true → prefix_len is_in_line tail ≤ k → blanks_then_digit (take k tail) ≡ true
a_start tail k h l = by (starts is_blank tail) (digit_after_blanks tail) (starts is_blank (take k tail)) (digit_after_blanks (take k tail)) (λ e. a_blank tail k e l) (λ e. a_digit tail k e l) h
  where
    by : (x y p q : Bool) → (x ≡ true → p ≡ true) → (y ≡ true → q ≡ true) → (x && y) ≡ true → (p && q) ≡ true
    by true true p q f g h = and_true p q (f refl) ∙ g refl
    by true false p q f g h = cc
    by false y p q f g h = cc

marked : (fresh : Bool) (a : ℕ) (tail : List ℕ) (n : ℕ) (piece : Piece) → (a == 35) ≡ true → blanks_then_digit tail ≡ true → n ≡ prefix_len is_in_line (a ∷ tail) → piece ≡ pieces.White n false → Stands fresh LineMarker (a ∷ tail) piece
marked fresh a tail n piece x h e s =
    let w : prefix_len is_in_line (a ∷ tail) ≤ suc (length tail) = prefix_len-le-length is_in_line (a ∷ tail) in
    let i : prefix_len is_in_line (a ∷ tail) ≡ 1 + prefix_len is_in_line tail = in_line_first a tail (byte_in_line a 35 x (omega arith)) in
    inl (record {
      n = n;
      longest = longest_of_le (has_form LineMarker) (a ∷ tail) n (omega arith) (each (e ∙ i));
      is = white_is n (a ∷ tail) false piece (omega arith) s;
    })
  where
    each : n ≡ 1 + prefix_len is_in_line tail → (m : ℕ) → m ≤ suc (length tail) → n ≤ m → has_form LineMarker (take m (a ∷ tail)) ≡ nat_le m n
    each f zero b l = absurd (omega arith)
    each f (suc k) b l =
        three_true (a == 35) (blanks_then_digit (take k tail)) (list_all is_in_line (a ∷ take k tail)) x (a_start tail k h (omega arith))
        ∙ list_all_take is_in_line (a ∷ tail) (suc k) b ∙ ap (nat_le (suc k)) (sym e)

pub marker_stands : (fresh : Bool) (rest tail : List ℕ) (n : ℕ) (piece : Piece) → starts_with 35 rest ≡ true → tail ≡ drop 1 rest → blanks_then_digit tail ≡ true → n ≡ prefix_len is_in_line rest → piece ≡ pieces.White n false → Stands fresh LineMarker rest piece
marker_stands fresh [] tail n piece x t h e s = cc
marker_stands fresh (a ∷ bs) tail n piece x t h e s = marked fresh a bs n piece x (ap blanks_then_digit (sym t) ∙ h) e s

no_start : (tail : List ℕ) (k : ℕ) → blanks_then_digit tail ≡ false → blanks_then_digit (take k tail) ≡ false
no_start tail k h = by (starts is_blank tail) (digit_after_blanks tail) (starts is_blank (take k tail)) (digit_after_blanks (take k tail)) (no_blank tail k) (no_digit tail k) h
  where
    by : (x y p q : Bool) → (x ≡ false → p ≡ false) → (y ≡ false → q ≡ false) → (x && y) ≡ false → (p && q) ≡ false
    by false y p q f g h = rw (f refl) refl
    by true false p q f g h = and_right p q (g refl)
    by true true p q f g h = cc

pub directive_stands : (fresh : Bool) (rest tail : List ℕ) (piece : Piece) → tail ≡ drop 1 rest → blanks_then_digit tail ≡ false → piece ≡ piece_without LineMarker → Stands fresh LineMarker rest piece
directive_stands fresh rest tail piece t h s = inr (record { none = λ m w. each rest m (ap blanks_then_digit (sym t) ∙ h); is = s })
  where
    each : (rest : List ℕ) (m : ℕ) → blanks_then_digit (drop 1 rest) ≡ false → has_form LineMarker (take m rest) ≡ false
    each rest zero h = refl
    each [] (suc k) h = refl
    each (a ∷ bs) (suc k) h = second_false (a == 35) (blanks_then_digit (take k bs)) (list_all is_in_line (a ∷ take k bs)) (no_start bs k h)
