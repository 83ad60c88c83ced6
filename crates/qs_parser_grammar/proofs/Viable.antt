-- The tokens before a fault begin what is read and is low enough, and with a token that is too deep they still begin something. How such
-- laws are put together.
use Rattle.std.proofs.lemmas.Bool.{leb-true, and_parts, and_from}
use Rattle.std.specs.Prelude.{nat_le, ◌==◌}
use Rattle.std.proofs.Common.{◌≡◌, ℕ, zero, arith, ◌<◌, ◌≤◌, suc, Bool, true, false, cond, List, [], ◌∷◌, ◌++◌, length, Result, Ok, Err, refl, sym, ap, subst, ◌∙◌, append_assoc, append-nil}
use Rattle.qs_syntax_vocabulary.specs.declared.terminal.Terminal.{Terminal}
use Rattle.qs_syntax_vocabulary.specs.declared.terminal.Terminal.TheVariants.{Name, TypeName, Keyword, Constant, Text, Punctuator}
use Rattle.qs_syntax_vocabulary.specs.declared.punctuator.Punctuator as punctuator
use Rattle.qs_syntax_vocabulary.specs.Operators.{number_of}
use Rattle.qs_base.specs.declared.keyword.Keyword as key
use Rattle.qs_parser_grammar.specs.Heads.{is_punctuator, is_keyword, starts}
use Rattle.qs_parser_grammar.specs.Parse.{Stop, Unexpected, Deep, Parse, read_on, unexpected, expect, expect_name}
use Rattle.qs_syntax.specs.ReadsTypes.{Names, Plain, Any, ReadsName, a_plain_name, a_name_of_a_type}
use Rattle.std.specs.List.{list_all}
use Rattle.qs_parser_grammar.proofs.HeadsLaws.{punctuator_is, keyword_is}
use Rattle.qs_parser_grammar.proofs.Sound.{Outcome, Sound}

-- Two claims of tokens: that they begin what is read, of some height (`Q false`), and that they begin one that is low enough (`Q true`).
abbrev pub Claims : Type 1
Claims = Bool → List Terminal → Type 0

-- a token that is as it is whatever names are types': no name, or the empty one, which no text has
abbrev pub is_plain_token : Terminal → Bool
is_plain_token (Name at []) = true
is_plain_token (Name at (b ∷ x)) = false
is_plain_token (TypeName at x) = false
is_plain_token (Keyword at k) = true
is_plain_token (Constant at n unsigned) = true
is_plain_token (Text at bytes) = true
is_plain_token (Punctuator at m) = true

abbrev pub is_plain : List Terminal → Bool
is_plain ts = list_all is_plain_token ts

pub plain_both : (xs ys : List Terminal) → is_plain xs ≡ true → is_plain ys ≡ true → is_plain (xs ++ ys) ≡ true
plain_both [] ys p q = q
plain_both (x ∷ xs) ys p q = let parts = and_parts (is_plain_token x) (is_plain xs) p in and_from (is_plain_token x) (is_plain (xs ++ ys)) parts.0 (plain_both xs ys parts.1 q)

-- what holds of tokens holds of each front of them behind which only such tokens stand
pub record OfFronts (Q : Claims) : Type 0 where
  pub front : (b : Bool) (xs ys : List Terminal) → Q b (xs ++ ys) → is_plain ys ≡ true → Q b xs

pub behind_token : {Q : Claims} (t : Terminal) → OfFronts Q → OfFronts (λ b l. Q b (t ∷ l))
behind_token t c = record { front = λ b xs ys q plain. c.front b (t ∷ xs) ys q plain }

pub behind : {Q : Claims} (done : List Terminal) → OfFronts Q → OfFronts (λ b l. Q b (done ++ l))
behind {Q} done c = record { front = λ b xs ys q plain. c.front b (done ++ xs) ys (subst (Q b) (sym (append_assoc done xs ys)) q) plain }

-- what tokens of height h begin, where what is at most n high is low enough
abbrev pub Both : Claims → ℕ → ℕ → List Terminal → Type 0
Both Q n h xs = Q false xs × (h ≤ n → Q true xs)

-- a front of what is k high, where it is a part that is h high
pub under : {Q : Claims} (c : OfFronts Q) (xs ys : List Terminal) → is_plain ys ≡ true → (n k : ℕ) → Both Q n k (xs ++ ys) → (m h : ℕ) → (h ≤ m → k ≤ n) → Both Q m h xs
under c xs ys plain n k q m h bound = (c.front false xs ys q.0 plain, λ le. c.front true xs ys (q.1 (bound le)) plain)

pub some_room : (m : ℕ) → (m == 0) ≡ false → 0 < m
some_room zero e = absurd cc
some_room (suc m) e = omega arith

abbrev pub Place : {A : Type 0} → Claims → List Terminal → Result (A × List Terminal) Stop → Type 0
Place Q ts (Ok x) = Unit {0}
Place Q ts (Err (Unexpected k)) = (front : List Terminal) × (rest : List Terminal) × (ts ≡ front ++ rest) × (length rest ≡ k) × Q true front
Place Q ts (Err (Deep k)) = (front : List Terminal) × (t : Terminal) × (rest : List Terminal) × (ts ≡ front ++ t ∷ rest) × (suc (length rest) ≡ k) × Q true front × Q false (front ++ t ∷ [])

-- where there is a fault, the tokens before it begin something low, and with one that is too deep they still begin something
pub record Viable {A : Type 0} (Q : Claims) (ts : List Terminal) (r : Result (A × List Terminal) Stop) : Type 0 where
  pub is : Place Q ts r

module _ {A : Type 0} {Q : Claims} where
  pub Viable-ok : {x : A × List Terminal} {ts : List Terminal} → Viable Q ts (Ok x)
  Viable-ok = record { is = tt }

  pub Viable-unexpected : {ts : List Terminal} → Q true [] → Viable {A = A} Q ts (Err (Unexpected (length ts)))
  Viable-unexpected {ts} q = record { is = ([], ts, refl, refl, q) }

  pub Viable-deep : {t : Terminal} {ts : List Terminal} → Q true [] → Q false (t ∷ []) → Viable {A = A} Q (t ∷ ts) (Err (Deep (suc (length ts))))
  Viable-deep {t} {ts} low any = record { is = ([], t, ts, refl, refl, low, any) }

  pub Viable-after : (ts taken us : List Terminal) → ts ≡ taken ++ us → (r : Result (A × List Terminal) Stop) → Viable (λ b l. Q b (taken ++ l)) us r → Viable Q ts r
  Viable-after ts taken us e r s = record { is = go r s.is }
    where
      go : (r : Result (A × List Terminal) Stop) → Place (λ b l. Q b (taken ++ l)) us r → Place Q ts r
      go (Ok x) h = tt
      go (Err (Unexpected k)) (front, rest, d, n, h) = (taken ++ front, rest, e ∙ ap (λ l. taken ++ l) d ∙ sym (append_assoc taken front rest), n, h)
      go (Err (Deep k)) (front, t, rest, d, n, low, any) =
          (taken ++ front, t, rest, e ∙ ap (λ l. taken ++ l) d ∙ sym (append_assoc taken front (t ∷ rest)), n, low, subst (Q false) (sym (append_assoc taken front (t ∷ []))) any)

  pub Viable-token : {t : Terminal} {ts : List Terminal} {r : Result (A × List Terminal) Stop} → Viable (λ b l. Q b (t ∷ l)) ts r → Viable Q (t ∷ ts) r
  Viable-token {t} {ts} {r} s = Viable-after (t ∷ ts) (t ∷ []) ts refl r s

  pub Viable-if : {ts : List Terminal} {r s : Result (A × List Terminal) Stop} (b : Bool) → (b ≡ true → Viable Q ts r) → (b ≡ false → Viable Q ts s) → Viable Q ts (cond b r s)
  Viable-if true f g = f refl
  Viable-if false f g = g refl

module _ {A : Type 0} {P Q : Claims} where
  pub Viable-map : {ts : List Terminal} {r : Result (A × List Terminal) Stop} → ((b : Bool) (l : List Terminal) → P b l → Q b l) → Viable P ts r → Viable Q ts r
  Viable-map {ts} {r} f s = record { is = go r s.is }
    where
      go : (r : Result (A × List Terminal) Stop) → Place P ts r → Place Q ts r
      go (Ok x) h = tt
      go (Err (Unexpected k)) (front, rest, d, n, h) = (front, rest, d, n, f true front h)
      go (Err (Deep k)) (front, t, rest, d, n, low, any) = (front, t, rest, d, n, f true front low, f false (front ++ t ∷ []) any)

-- what was read before and what follows, in one
pub Viable-joined : {A : Type 0} (Q : Claims) {ts : List Terminal} {r : Result (A × List Terminal) Stop} (done front : List Terminal) → Viable (λ b l. Q b ((done ++ front) ++ l)) ts r → Viable (λ b l. Q b (done ++ (front ++ l))) ts r
Viable-joined Q done front s = Viable-map (λ b l q. subst (Q b) (append_assoc done front l) q) s

module _ {A C : Type 0} {R : A → List Terminal → Type 0} {Q : Claims} where
  -- a first part, which was read, and what follows
  pub Viable-read_on : {ts : List Terminal} {r : Result (A × List Terminal) Stop} (f : A → Parse C) → Sound R [] ts r → Viable Q ts r
      → ((x : A) (front us : List Terminal) → R x front → Viable (λ b l. Q b (front ++ l)) us (f x us)) → Viable Q ts (read_on r f)
  Viable-read_on {ts} {r} f sound s go = by_case r sound.is s.is
    where
      by_case : (r : Result (A × List Terminal) Stop) → Outcome R [] ts r → Place Q ts r → Viable Q ts (read_on r f)
      by_case (Ok x) (front, e, h) p = Viable-after ts front x.1 e (f x.0 x.1) (go x.0 front x.1 h)
      by_case (Err (Unexpected k)) h p = record { is = p }
      by_case (Err (Deep k)) h p = record { is = p }

  -- the same, where what follows knows that the first was read, and how the tokens begin
  pub Viable-read_on-is : {ts : List Terminal} {r : Result (A × List Terminal) Stop} (f : A → Parse C) → Sound R [] ts r → Viable Q ts r
      → ((x : A) (front us : List Terminal) → r ≡ Ok (x, us) → ts ≡ front ++ us → R x front → Viable (λ b l. Q b (front ++ l)) us (f x us)) → Viable Q ts (read_on r f)
  Viable-read_on-is {ts} {r} f sound s go = by_case r sound.is s.is go
    where
      by_case : (r : Result (A × List Terminal) Stop) → Outcome R [] ts r → Place Q ts r → ((x : A) (front us : List Terminal) → r ≡ Ok (x, us) → ts ≡ front ++ us → R x front → Viable (λ b l. Q b (front ++ l)) us (f x us)) → Viable Q ts (read_on r f)
      by_case (Ok x) (front, e, h) p go = Viable-after ts front x.1 e (f x.0 x.1) (go x.0 front x.1 refl e h)
      by_case (Err (Unexpected k)) h p go = record { is = p }
      by_case (Err (Deep k)) h p go = record { is = p }

module _ {A C : Type 0} {R : A → List Terminal → Type 0} (Q : Claims) where
  -- the same, where the first speaks of all that was read before
  pub Viable-then : {done ts : List Terminal} {r : Result (A × List Terminal) Stop} (f : A → Parse C) → Sound R done ts r → Viable (λ b l. Q b (done ++ l)) ts r
      → ((x : A) (all us : List Terminal) → R x all → Viable (λ b l. Q b (all ++ l)) us (f x us)) → Viable (λ b l. Q b (done ++ l)) ts (read_on r f)
  Viable-then {done} {ts} {r} f sound s go = by_case r sound.is s.is
    where
      by_case : (r : Result (A × List Terminal) Stop) → Outcome R done ts r → Place (λ b l. Q b (done ++ l)) ts r → Viable (λ b l. Q b (done ++ l)) ts (read_on r f)
      by_case (Ok x) (front, e, h) p = Viable-after ts front x.1 e (f x.0 x.1) (Viable-joined Q done front (go x.0 (done ++ front) x.1 h))
      by_case (Err (Unexpected k)) h p = record { is = p }
      by_case (Err (Deep k)) h p = record { is = p }

-- a part behind which nothing is refused
pub Viable-done : {A C : Type 0} {Q : Claims} {ts : List Terminal} {r : Result (A × List Terminal) Stop} (g : A → List Terminal → C × List Terminal) → Viable Q ts r → Viable Q ts (read_on r (λ x us. Ok (g x us)))
Viable-done {A} {C} {Q} {ts} {r} g s = by_case r s.is
  where
    by_case : (r : Result (A × List Terminal) Stop) → Place Q ts r → Viable Q ts (read_on r (λ x us. Ok (g x us)))
    by_case (Ok x) p = Viable-ok
    by_case (Err (Unexpected k)) p = record { is = p }
    by_case (Err (Deep k)) p = record { is = p }

-- nothing more
pub here : (Q : Claims) (xs : List Terminal) → Q true xs → Q true (xs ++ [])
here Q xs q = subst (Q true) (sym (append-nil xs)) q

-- the token that was looked at
pub Viable-is_punctuator : {A : Type 0} {Q : Claims} {ts : List Terminal} {r : Result (A × List Terminal) Stop} (m : punctuator.Punctuator) (t : Terminal) → is_punctuator m t ≡ true → Viable Q (Punctuator (number_of t) m ∷ ts) r → Viable Q (t ∷ ts) r
Viable-is_punctuator {Q = Q} {ts = ts} {r = r} m t e v = subst (λ u. Viable Q (u ∷ ts) r) (sym (punctuator_is m t e)) v

pub Viable-keyword : {A : Type 0} {Q : Claims} {ts : List Terminal} {r : Result (A × List Terminal) Stop} (k : key.Keyword) (t : Terminal) → is_keyword k t ≡ true → Viable Q (Keyword (number_of t) k ∷ ts) r → Viable Q (t ∷ ts) r
Viable-keyword {Q = Q} {ts = ts} {r = r} k t e v = subst (λ u. Viable Q (u ∷ ts) r) (sym (keyword_is k t e)) v

module _ {A : Type 0} {Q : Claims} where
  -- a punctuator that may stand here, and what follows
  pub Viable-punctuator : (m : punctuator.Punctuator) (ts : List Terminal) (f : Unit {0} → Parse A) → Q true [] → ((at : ℕ) (us : List Terminal) → Viable (λ b l. Q b (Punctuator at m ∷ l)) us (f tt us)) → Viable Q ts (read_on (expect m ts) f)
  Viable-punctuator m [] f q go = Viable-unexpected q
  Viable-punctuator m (t ∷ ts) f q go = by_case (is_punctuator m t) (λ e. punctuator_is m t e)
    where
      by_case : (b : Bool) → (b ≡ true → t ≡ Punctuator (number_of t) m) → Viable Q (t ∷ ts) (read_on (cond b (Ok (tt, ts)) (unexpected (t ∷ ts))) f)
      by_case true h = rw (h refl) (Viable-token (go (number_of t) ts))
      by_case false h = Viable-unexpected q

  -- the same, where what follows knows how the tokens begin
  pub Viable-punctuator-is : (m : punctuator.Punctuator) (ts : List Terminal) (f : Unit {0} → Parse A) → Q true [] → ((at : ℕ) (us : List Terminal) → ts ≡ Punctuator at m ∷ us → Viable (λ b l. Q b (Punctuator at m ∷ l)) us (f tt us)) → Viable Q ts (read_on (expect m ts) f)
  Viable-punctuator-is m [] f q go = Viable-unexpected q
  Viable-punctuator-is m (t ∷ ts) f q go = by_case (is_punctuator m t) (λ e. punctuator_is m t e)
    where
      by_case : (b : Bool) → (b ≡ true → t ≡ Punctuator (number_of t) m) → Viable Q (t ∷ ts) (read_on (cond b (Ok (tt, ts)) (unexpected (t ∷ ts))) f)
      by_case true h =
          let first : Viable Q (Punctuator (number_of t) m ∷ ts) (f tt ts) = Viable-token (go (number_of t) ts (ap (λ u. u ∷ ts) (h refl))) in
          subst (λ u. Viable Q (u ∷ ts) (f tt ts)) (sym (h refl)) first
      by_case false h = Viable-unexpected q

  -- a punctuator that does not stand there
  pub Viable-no-punctuator : (m : punctuator.Punctuator) (ts : List Terminal) (f : Unit {0} → Parse A) → starts m ts ≡ false → Q true [] → Viable Q ts (read_on (expect m ts) f)
  Viable-no-punctuator m [] f e q = Viable-unexpected q
  Viable-no-punctuator m (t ∷ ts) f e q = rw e (Viable-unexpected q)

  pub Viable-name : (names : Names) (ts : List Terminal) (f : ℕ × List ℕ → Parse A) → Q true [] → ((t : Terminal) (at : ℕ) (x : List ℕ) → ReadsName names t at x → (us : List Terminal) → Viable (λ b l. Q b (t ∷ l)) us (f (at, x) us))
      → Viable Q ts (read_on (expect_name names ts) f)
  Viable-name names [] f q go = Viable-unexpected q
  Viable-name names (Name at x ∷ ts) f q go = Viable-token (go (Name at x) at x (a_plain_name at x) ts)
  Viable-name Plain (TypeName at x ∷ ts) f q go = Viable-unexpected q
  Viable-name Any (TypeName at x ∷ ts) f q go = Viable-token (go (TypeName at x) at x (a_name_of_a_type at x) ts)
  Viable-name names (Keyword at k ∷ ts) f q go = Viable-unexpected q
  Viable-name names (Constant at n unsigned ∷ ts) f q go = Viable-unexpected q
  Viable-name names (Text at bytes ∷ ts) f q go = Viable-unexpected q
  Viable-name names (Punctuator at m ∷ ts) f q go = Viable-unexpected q

  -- the same of a name that is no type's
  pub Viable-plain-name : (ts : List Terminal) (f : ℕ × List ℕ → Parse A) → Q true [] → ((at : ℕ) (x : List ℕ) (us : List Terminal) → Viable (λ b l. Q b (Name at x ∷ l)) us (f (at, x) us)) → Viable Q ts (read_on (expect_name Plain ts) f)
  Viable-plain-name ts f q go = Viable-name Plain ts f q (λ t at x name us. by name us)
    where
      by : {t : Terminal} {at : ℕ} {x : List ℕ} → ReadsName Plain t at x → (us : List Terminal) → Viable (λ b l. Q b (t ∷ l)) us (f (at, x) us)
      by (a_plain_name at x) us = go at x us

  -- where the token that stands first needs room for what is h high, or any room
  pub Viable-above : {t : Terminal} {ts : List Terminal} {r : Result (A × List Terminal) Stop} (m h : ℕ) → Q true [] → Q false (t ∷ []) → (h ≤ m → Viable Q (t ∷ ts) r) → Viable Q (t ∷ ts) (cond (nat_le h m) r (Err (Deep (suc (length ts)))))
  Viable-above m h low any go = Viable-if (nat_le h m) (λ e. go (leb-true h m e)) (λ _. Viable-deep low any)

  pub Viable-some : {t : Terminal} {ts : List Terminal} {r : Result (A × List Terminal) Stop} (m : ℕ) → Q true [] → Q false (t ∷ []) → (0 < m → Viable Q (t ∷ ts) r) → Viable Q (t ∷ ts) (cond (m == 0) (Err (Deep (suc (length ts)))) r)
  Viable-some m low any go = Viable-if (m == 0) (λ _. Viable-deep low any) (λ e. go (some_room m e))
