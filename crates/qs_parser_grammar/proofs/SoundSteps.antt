-- The steps of the parser: punctuators, names, tests and room.
use Rattle.std.proofs.Common.{◌≡◌, ℕ, ◌≤◌, Bool, true, false, cond, List, [], ◌∷◌, ◌++◌, Result, Ok, Err, refl, ap}
use Rattle.std.specs.Prelude.{nat_le}
use Rattle.std.proofs.lemmas.Bool.{leb-true}
use Rattle.qs_syntax_vocabulary.specs.declared.terminal.Terminal.{Terminal}
use Rattle.qs_syntax_vocabulary.specs.declared.terminal.Terminal.TheVariants.{Name, TypeName, Keyword, Constant, Text, Punctuator}
use Rattle.qs_syntax_vocabulary.specs.declared.punctuator.Punctuator as punctuator
use Rattle.qs_syntax_vocabulary.specs.Operators.{number_of}
use Rattle.qs_parser_grammar.specs.Heads.{is_punctuator}
use Rattle.qs_parser_grammar.specs.Parse.{Stop, Parse, read_on, expect, expect_name}
use Rattle.qs_syntax.specs.ReadsTypes.{Names, Plain, Any, ReadsName, a_plain_name, a_name_of_a_type}
use Rattle.qs_parser_grammar.proofs.HeadsLaws.{punctuator_is}
use Rattle.qs_parser_grammar.proofs.Sound.{Outcome, Sound, Sound-ok, Sound-err, at_end, Sound-after, Sound-token}

module _ {A : Type 0} {R : A → List Terminal → Type 0} where
  pub Sound-ends : (done ts us : List Terminal) (x : A) (front : List Terminal) → ts ≡ front ++ us → R x (done ++ front) → Sound R done ts (Ok (x, us))
  Sound-ends done ts us x front e r = record { is = (front, e, r) }

  pub Sound-if : {done ts : List Terminal} {r s : Result (A × List Terminal) Stop} (b : Bool) → (b ≡ true → Sound R done ts r) → (b ≡ false → Sound R done ts s) → Sound R done ts (cond b r s)
  Sound-if true f g = f refl
  Sound-if false f g = g refl

  -- where a part needs room
  pub Sound-above : {done ts : List Terminal} {r s : Result (A × List Terminal) Stop} (m h : ℕ) → Sound R done ts s → (h ≤ m → Sound R done ts r) → Sound R done ts (cond (nat_le h m) r s)
  Sound-above m h g f = Sound-if (nat_le h m) (λ e. f (leb-true h m e)) (λ e. g)

-- the punctuator alone
abbrev pub IsPunctuator : punctuator.Punctuator → Unit {0} → List Terminal → Type 0
IsPunctuator m x ts = (at : ℕ) × (ts ≡ Punctuator at m ∷ [])

pub sound_expect : (m : punctuator.Punctuator) (ts : List Terminal) → Sound (IsPunctuator m) [] ts (expect m ts)
sound_expect m [] = Sound-err at_end
sound_expect m (t ∷ ts) = Sound-if (is_punctuator m t) (λ e. Sound-token (Sound-ok (number_of t, ap (λ u. u ∷ []) (punctuator_is m t e)))) (λ e. Sound-err at_end)

-- the name alone
abbrev pub IsName : Names → ℕ × List ℕ → List Terminal → Type 0
IsName names x ts = (t : Terminal) × (ts ≡ t ∷ []) × ReadsName names t x.0 x.1

pub sound_expect_name : (names : Names) (ts : List Terminal) → Sound (IsName names) [] ts (expect_name names ts)
sound_expect_name names [] = Sound-err at_end
sound_expect_name names (Name at x ∷ ts) = Sound-token (Sound-ok (Name at x, refl, a_plain_name at x))
sound_expect_name Plain (TypeName at x ∷ ts) = Sound-err at_end
sound_expect_name Any (TypeName at x ∷ ts) = Sound-token (Sound-ok (TypeName at x, refl, a_name_of_a_type at x))
sound_expect_name names (Keyword at k ∷ ts) = Sound-err at_end
sound_expect_name names (Constant at n unsigned ∷ ts) = Sound-err at_end
sound_expect_name names (Text at bytes ∷ ts) = Sound-err at_end
sound_expect_name names (Punctuator at m ∷ ts) = Sound-err at_end

module _ {A C : Type 0} {R : A → List Terminal → Type 0} {S : C → List Terminal → Type 0} where
  -- what follows a first part knows how all the tokens begin
  pub Sound-from : {done ts : List Terminal} {r : Result (A × List Terminal) Stop} (f : A → Parse C) → Sound R [] ts r
      → ((x : A) (front us : List Terminal) → ts ≡ front ++ us → R x front → Sound S (done ++ front) us (f x us)) → Sound S done ts (read_on r f)
  Sound-from {done} {ts} {r} f s go = by_case r s.is
    where
      by_case : (r : Result (A × List Terminal) Stop) → Outcome R [] ts r → Sound S done ts (read_on r f)
      by_case (Ok x) (front, e, h) = Sound-after done ts front x.1 e (f x.0 x.1) (go x.0 front x.1 e h)
      by_case (Err e) h = Sound-err h

module _ {C : Type 0} {S : C → List Terminal → Type 0} where
  -- a punctuator, and then more
  pub Sound-punctuator : {done ts : List Terminal} (m : punctuator.Punctuator) (f : Unit {0} → Parse C) → ((at : ℕ) (us : List Terminal) → Sound S (done ++ Punctuator at m ∷ []) us (f tt us)) → Sound S done ts (read_on (expect m ts) f)
  Sound-punctuator {done} {ts} m f go = Sound-from f (sound_expect m ts) (λ x front us split is. rw is.1 (go is.0 us))
