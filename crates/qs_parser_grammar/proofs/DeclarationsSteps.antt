-- How laws of the parser's answers are put together, where all that was read before is named in what is claimed.
use Rattle.std.proofs.Common.{◌≡◌, ℕ, List, [], ◌∷◌, ◌++◌, Result, Ok, Err, refl, sym, ap, subst, Bool, true, false, cond, true≢false}
use Rattle.qs_syntax_vocabulary.specs.declared.terminal.Terminal.{Terminal}
use Rattle.qs_syntax_vocabulary.specs.declared.terminal.Terminal.TheVariants.{Name, TypeName, Keyword, Constant, Text, Punctuator}
use Rattle.qs_syntax_vocabulary.specs.declared.punctuator.Punctuator as punctuator
use Rattle.qs_syntax_vocabulary.specs.Operators.{number_of}
use Rattle.qs_parser_grammar.specs.Heads.{is_punctuator, starts}
use Rattle.qs_parser_grammar.specs.Parse.{Stop, Parse, read_on, unexpected, expect, expect_name}
use Rattle.qs_parser_grammar.proofs.Sound.{Outcome, Sound, Sound-err, at_end, Sound-after, Sound-read_on}
use Rattle.qs_syntax.specs.ReadsTypes.{Names, Plain, Any, ReadsName, a_plain_name, a_name_of_a_type}
use Rattle.qs_parser_grammar.proofs.HeadsLaws.{punctuator_is}

module _ {A : Type 0} {S : A → List Terminal → Type 0} where
  -- what was read before stands in the claim
  pub Sound-behind : {done ts : List Terminal} {r : Result (A × List Terminal) Stop} → Sound (λ x l. S x (done ++ l)) [] ts r → Sound S done ts r
  Sound-behind {done} {ts} {r} s = record { is = go r s.is }
    where
      go : (r : Result (A × List Terminal) Stop) → Outcome (λ x l. S x (done ++ l)) [] ts r → Outcome S done ts r
      go (Ok x) h = h
      go (Err e) h = h

  -- a token, and what follows
  pub Sound-first : {t : Terminal} {ts : List Terminal} {r : Result (A × List Terminal) Stop} → Sound (λ x l. S x (t ∷ l)) [] ts r → Sound S [] (t ∷ ts) r
  Sound-first {t} {ts} {r} s = Sound-after [] (t ∷ ts) (t ∷ []) ts refl r (Sound-behind s)

  -- a punctuator, and what follows
  pub Sound-punctuator-next : (m : punctuator.Punctuator) (ts : List Terminal) (f : Unit {0} → Parse A) → ((at : ℕ) (us : List Terminal) → Sound (λ x l. S x (Punctuator at m ∷ l)) [] us (f tt us)) → Sound S [] ts (read_on (expect m ts) f)
  Sound-punctuator-next m [] f go = Sound-err at_end
  Sound-punctuator-next m (t ∷ ts) f go = by_case (is_punctuator m t) (λ e. punctuator_is m t e)
    where
      by_case : (b : Bool) → (b ≡ true → t ≡ Punctuator (number_of t) m) → Sound S [] (t ∷ ts) (read_on (cond b (Ok (tt, ts)) (unexpected (t ∷ ts))) f)
      by_case true h = rw (h refl) (Sound-first (go (number_of t) ts))
      by_case false h = Sound-err at_end

  -- the same, where what follows knows how all the tokens begin
  pub Sound-punctuator-is : (m : punctuator.Punctuator) (ts : List Terminal) (f : Unit {0} → Parse A) → ((at : ℕ) (us : List Terminal) → ts ≡ Punctuator at m ∷ us → Sound (λ x l. S x (Punctuator at m ∷ l)) [] us (f tt us)) → Sound S [] ts (read_on (expect m ts) f)
  Sound-punctuator-is m [] f go = Sound-err at_end
  Sound-punctuator-is m (t ∷ ts) f go = by_case (is_punctuator m t) (λ e. punctuator_is m t e)
    where
      by_case : (b : Bool) → (b ≡ true → t ≡ Punctuator (number_of t) m) → Sound S [] (t ∷ ts) (read_on (cond b (Ok (tt, ts)) (unexpected (t ∷ ts))) f)
      by_case true h =
          let first : Sound S [] (Punctuator (number_of t) m ∷ ts) (f tt ts) = Sound-first (go (number_of t) ts (ap (λ u. u ∷ ts) (h refl))) in
          subst (λ u. Sound S [] (u ∷ ts) (f tt ts)) (sym (h refl)) first
      by_case false h = Sound-err at_end

  -- a punctuator that does not stand there
  pub Sound-no-punctuator : {done : List Terminal} (m : punctuator.Punctuator) (ts : List Terminal) (f : Unit {0} → Parse A) → starts m ts ≡ false → Sound S done ts (read_on (expect m ts) f)
  Sound-no-punctuator m [] f e = Sound-err at_end
  Sound-no-punctuator {done} m (t ∷ ts) f e = by_case (is_punctuator m t) e
    where
      by_case : (b : Bool) → b ≡ false → Sound S done (t ∷ ts) (read_on (cond b (Ok (tt, ts)) (unexpected (t ∷ ts))) f)
      by_case true h = absurd (true≢false h)
      by_case false h = Sound-err at_end

  -- a name, and what follows
  pub Sound-name-next : (names : Names) (ts : List Terminal) (f : ℕ × List ℕ → Parse A) → ((t : Terminal) (at : ℕ) (x : List ℕ) → ReadsName names t at x → (us : List Terminal) → Sound (λ y l. S y (t ∷ l)) [] us (f (at, x) us))
      → Sound S [] ts (read_on (expect_name names ts) f)
  Sound-name-next names [] f go = Sound-err at_end
  Sound-name-next names (Name at x ∷ ts) f go = Sound-first (go (Name at x) at x (a_plain_name at x) ts)
  Sound-name-next Plain (TypeName at x ∷ ts) f go = Sound-err at_end
  Sound-name-next Any (TypeName at x ∷ ts) f go = Sound-first (go (TypeName at x) at x (a_name_of_a_type at x) ts)
  Sound-name-next names (Keyword at k ∷ ts) f go = Sound-err at_end
  Sound-name-next names (Constant at n unsigned ∷ ts) f go = Sound-err at_end
  Sound-name-next names (Text at bytes ∷ ts) f go = Sound-err at_end
  Sound-name-next names (Punctuator at m ∷ ts) f go = Sound-err at_end

  -- the same of a name that is no type's
  pub Sound-plain-name : (ts : List Terminal) (f : ℕ × List ℕ → Parse A) → ((at : ℕ) (x : List ℕ) (us : List Terminal) → Sound (λ y l. S y (Name at x ∷ l)) [] us (f (at, x) us)) → Sound S [] ts (read_on (expect_name Plain ts) f)
  Sound-plain-name ts f go = Sound-name-next Plain ts f (λ t at x name us. by name us)
    where
      by : {t : Terminal} {at : ℕ} {x : List ℕ} → ReadsName Plain t at x → (us : List Terminal) → Sound (λ y l. S y (t ∷ l)) [] us (f (at, x) us)
      by (a_plain_name at x) us = go at x us

module _ {A C : Type 0} {R : A → List Terminal → Type 0} {S : C → List Terminal → Type 0} where
  -- what is read first, and what follows
  pub Sound-part : {ts : List Terminal} {r : Result (A × List Terminal) Stop} (f : A → Parse C) → Sound R [] ts r
      → ((x : A) (front us : List Terminal) → R x front → Sound (λ y l. S y (front ++ l)) [] us (f x us)) → Sound S [] ts (read_on r f)
  Sound-part f s go = Sound-read_on f s (λ x front us h. Sound-behind (go x front us h))

  -- the same, where what follows knows that the first was read
  pub Sound-part-is : {ts : List Terminal} {r : Result (A × List Terminal) Stop} (f : A → Parse C) → Sound R [] ts r
      → ((x : A) (front us : List Terminal) → r ≡ Ok (x, us) → ts ≡ front ++ us → R x front → Sound (λ y l. S y (front ++ l)) [] us (f x us)) → Sound S [] ts (read_on r f)
  Sound-part-is {ts} {r} f s go = by_case r s.is go
    where
      by_case : (r : Result (A × List Terminal) Stop) → Outcome R [] ts r → ((x : A) (front us : List Terminal) → r ≡ Ok (x, us) → ts ≡ front ++ us → R x front → Sound (λ y l. S y (front ++ l)) [] us (f x us)) → Sound S [] ts (read_on r f)
      by_case (Ok x) (front, e, h) go = Sound-after [] ts front x.1 e (f x.0 x.1) (Sound-behind (go x.0 front x.1 refl e h))
      by_case (Err e) h go = Sound-err h

  -- what is read last
  pub Sound-last : {ts : List Terminal} {r : Result (A × List Terminal) Stop} (g : A → C) → Sound R [] ts r → ((x : A) (l : List Terminal) → R x l → S (g x) l) → Sound S [] ts (read_on r (λ x us. Ok (g x, us)))
  Sound-last {ts} {r} g s h = by_case r s.is
    where
      by_case : (r : Result (A × List Terminal) Stop) → Outcome R [] ts r → Sound S [] ts (read_on r (λ x us. Ok (g x, us)))
      by_case (Ok x) (front, e, q) = record { is = (front, e, h x.0 front q) }
      by_case (Err e) q = Sound-err q
