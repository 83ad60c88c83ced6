-- The forms of words as clap's lexer sees them.
use Rattle.std.proofs.Common.{◌≡◌, ◌∙◌, ℕ, Bool, true, false, not, ◌||◌, ◌==◌, refl, sym, ap, subst, arith, List, [], ◌∷◌, Option, Some, None, true≢false, if◌then◌else◌, take, suc, ◌+◌}
use Rattle.std.specs.Prelude.{bytes_eq}
use Rattle.std.specs.List.{list_any, before_first, after_first, prefix_len}
use Rattle.std.proofs.lemmas.Bool.{eqb-true}
use Rattle.qs_base.specs.Characters.{equals_sign, hyphen}
use Rattle.qs_cli.specs.Words.{Text, Word, Plain, Assigned, Named, Excluded, assigned, option_of, after_hyphen, word_of}
use Rattle.clap.specs.Lexer.{long_of, short_of}

-- a word that clap takes for an operand or a value
pub record IsPlain (w : Text) : Type 0 where
  pub no_end : bytes_eq w (hyphen ∷ hyphen ∷ []) ≡ false
  pub no_long : long_of w ≡ None
  pub no_short : short_of w ≡ None

-- a word that clap takes for this option, with this value where `=` stands in it
pub record IsLong (w name : Text) (value : Option Text) : Type 0 where
  pub no_end : bytes_eq w (hyphen ∷ hyphen ∷ []) ≡ false
  pub long : long_of w ≡ Some (name, value)

-- clap sees the word in this form
abbrev pub Seen : Text → Word → Type 0
Seen w Plain = IsPlain w
Seen w (Assigned name v) = IsLong w name (Some v)
Seen w (Named name) = IsLong w name None
Seen w Excluded = Unit {0}

take-one : {X : Type 0} (n : ℕ) (x : X) (xs : List X) → take (1 + n) (x ∷ xs) ≡ x ∷ take n xs
take-one n x xs = let e : 1 + n ≡ suc n = omega arith in rw e refl

before_all : (p : ℕ → Bool) (xs : Text) → list_any p xs ≡ false → before_first p xs ≡ xs
before_all p [] e = refl
before_all p (x ∷ xs) e = go (p x) refl e (before_all p xs)
  where
    go : (t : Bool) → p x ≡ t → (t || list_any p xs) ≡ false → (list_any p xs ≡ false → before_first p xs ≡ xs) → before_first p (x ∷ xs) ≡ x ∷ xs
    go true is h ih = absurd (true≢false h)
    go false is h ih = rw is (take-one (prefix_len (λ y. not (p y)) xs) x xs ∙ ap (λ ys. x ∷ ys) (ih h))

option_seen : (bs : Text) → Seen (hyphen ∷ hyphen ∷ bs) (option_of bs)
option_seen [] = tt
option_seen (b ∷ bs) = go (list_any (λ x. x == equals_sign) (b ∷ bs)) refl
  where
    value_seen : (after : Text) → list_any (λ x. x == equals_sign) (b ∷ bs) ≡ true → after_first (λ x. x == equals_sign) (b ∷ bs) ≡ after
        → Seen (hyphen ∷ hyphen ∷ b ∷ bs) (assigned (before_first (λ x. x == equals_sign) (b ∷ bs)) after)
    value_seen [] has is = tt
    value_seen (v ∷ vs) has is = record { no_end = refl; long = rw (has, is) refl }

    go : (t : Bool) → list_any (λ x. x == equals_sign) (b ∷ bs) ≡ t
        → Seen (hyphen ∷ hyphen ∷ b ∷ bs) (if t then assigned (before_first (λ x. x == equals_sign) (b ∷ bs)) (after_first (λ x. x == equals_sign) (b ∷ bs)) else Named (b ∷ bs))
    go true has = value_seen (after_first (λ x. x == equals_sign) (b ∷ bs)) has refl
    go false has = record { no_end = refl; long = rw has (ap (λ (t : Text). Some (t, None)) (before_all (λ x. x == equals_sign) (b ∷ bs) has)) }

hyphen_seen : (bs : Text) → Seen (hyphen ∷ bs) (after_hyphen bs)
hyphen_seen [] = tt
hyphen_seen (b ∷ bs) = go (b == hyphen) refl
  where
    go : (t : Bool) → (b == hyphen) ≡ t → Seen (hyphen ∷ b ∷ bs) (if t then option_of bs else Excluded)
    go true is = subst (λ (x : ℕ). Seen (hyphen ∷ x ∷ bs) (option_of bs)) (sym (eqb-true b hyphen is)) (option_seen bs)
    go false is = tt

pub word_seen : (w : Text) → Seen w (word_of w)
word_seen [] = tt
word_seen (b ∷ bs) = go (b == hyphen) refl
  where
    go : (t : Bool) → (b == hyphen) ≡ t → Seen (b ∷ bs) (if t then after_hyphen bs else Plain)
    go true is = subst (λ (x : ℕ). Seen (x ∷ bs) (after_hyphen bs)) (sym (eqb-true b hyphen is)) (hyphen_seen bs)
    go false is = record { no_end = rw is refl; no_long = rw is refl; no_short = rw is refl }
