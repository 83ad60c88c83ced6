-- What the class says of the first bytes.
use Rattle.std.proofs.Common.{◌≡◌, ℕ, Bool, true, false, cond, ◌&&◌, List, [], ◌∷◌, refl, ◌==◌, length, subst, sym, ◌∙◌}
use Rattle.std.specs.Cmp.{first_so, second_so}
use Rattle.qs_base.specs.Bytes.{is_letter, is_digit}
use Rattle.qs_lexer.specs.Bytes.{is_space, starts, starts_with}
use Rattle.qs_lexer.specs.Scan.{Opens}
use Rattle.qs_lexer.specs.Pieces.{class_of, Next, Stands}
use Rattle.qs_lexer.specs.declared.pieces.Class.{Class}
use Rattle.qs_lexer.specs.declared.pieces.Class.TheVariants.{End, Space, LineComment, BlockComment, LineMarker, Word, Number, Character, Text, Other}
use Rattle.qs_lexer.specs.declared.pieces.Piece.{Piece}

abbrev pub Begun : Class → List ℕ → Type 0
Begun End rest = length rest ≡ 0
Begun Space rest = starts is_space rest ≡ true
Begun LineComment rest = Opens 47 47 rest
Begun BlockComment rest = Opens 47 42 rest
Begun LineMarker rest = starts_with 35 rest ≡ true
Begun Word rest = starts is_letter rest ≡ true
Begun Number rest = starts is_digit rest ≡ true
Begun Character rest = starts_with 39 rest ≡ true
Begun Text rest = starts_with 34 rest ≡ true
Begun Other rest = Unit {0}

chosen : (a : ℕ) (bs : List ℕ) (b : Bool) (x y : Class) → (b ≡ true → Begun x (a ∷ bs)) → Begun y (a ∷ bs) → Begun (cond b x y) (a ∷ bs)
chosen a bs true x y f g = f refl
chosen a bs false x y f g = g

opened : (a x y : ℕ) (bs : List ℕ) → (a == x && starts_with y bs) ≡ true → Opens x y (a ∷ bs)
opened a x y bs h = record { one = first_so (a == x) (starts_with y bs) h; two = second_so (a == x) (starts_with y bs) h }

pub class_begun : (fresh : Bool) (rest : List ℕ) → Begun (class_of fresh rest) rest
class_begun fresh [] = refl
class_begun fresh (a ∷ bs) =
    chosen a bs (is_space a) Space _ (λ h. h)
    (chosen a bs (a == 47 && starts_with 47 bs) LineComment _ (λ h. opened a 47 47 bs h)
    (chosen a bs (a == 47 && starts_with 42 bs) BlockComment _ (λ h. opened a 47 42 bs h)
    (chosen a bs (fresh && a == 35) LineMarker _ (λ h. second_so fresh (a == 35) h)
    (chosen a bs (is_letter a) Word _ (λ h. h)
    (chosen a bs (is_digit a) Number _ (λ h. h)
    (chosen a bs (a == 39) Character _ (λ h. h)
    (chosen a bs (a == 34) Text Other (λ h. h) tt)))))))

begun : (fresh : Bool) (rest : List ℕ) (c : Class) → c ≡ class_of fresh rest → Begun c rest
begun fresh rest c h = rw h (class_begun fresh rest)

pub next_is : (fresh : Bool) (rest : List ℕ) (c d : Class) (piece : Piece) → d ≡ class_of fresh rest → d ≡ c → Stands fresh c rest piece → Next fresh rest piece
next_is fresh rest c d piece e f h = let P : Class → Type 0 = λ k. Stands fresh k rest piece in subst P (sym f ∙ e) h

pub begun_as : (fresh : Bool) (rest : List ℕ) (c d : Class) → d ≡ class_of fresh rest → d ≡ c → Begun c rest
begun_as fresh rest c d e f = begun fresh rest c (sym f ∙ e)
