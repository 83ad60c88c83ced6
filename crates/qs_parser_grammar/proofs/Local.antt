-- What a parser answers depends on no token behind the one at which it stops. How such laws are put together.
use Rattle.std.proofs.Common.{◌≡◌, ℕ, zero, suc, ◌+◌, ◌<◌, ◌≤◌, Bool, true, false, cond, List, [], ◌∷◌, ◌++◌, length, Result, Ok, Err, refl, sym, ap, subst, ◌∙◌, arith, inl, inr, length-append}
use Rattle.std.specs.Prelude.{◌⊎◌, Option, ◌&&◌}
use Rattle.qs_syntax_vocabulary.specs.declared.terminal.Terminal.{Terminal}
use Rattle.qs_syntax_vocabulary.specs.declared.terminal.Terminal.TheVariants.{Name, TypeName, Keyword, Constant, Text, Punctuator}
use Rattle.qs_syntax_vocabulary.specs.declared.punctuator.Punctuator as punctuator
use Rattle.qs_syntax.specs.ReadsTypes.{Names, Plain, Any}
use Rattle.qs_syntax.specs.Reads.{place}
use Rattle.qs_base.specs.declared.keyword.Keyword as key
use Rattle.qs_syntax_vocabulary.specs.Operators.{number_of}
use Rattle.qs_parser_grammar.specs.Heads.{is_punctuator, is_keyword, starts, operator_at}
use Rattle.qs_parser_grammar.specs.Parse.{Stop, Unexpected, Deep, Parse, read_on, unexpected, deep, above, deeper, expect, type_name_as, expect_name}
use Rattle.qs_parser_grammar.proofs.HeadsLaws.{punctuator_is, keyword_is}
use Rattle.qs_parser_grammar.proofs.Sound.{Outcome, Sound}

-- how many tokens are left where it ends
abbrev pub left : {A : Type 0} → Result (A × List Terminal) Stop → ℕ
left (Ok x) = length x.1
left (Err (Unexpected k)) = k
left (Err (Deep k)) = k

-- the same, before more tokens
abbrev pub extend : {A : Type 0} → List Terminal → Result (A × List Terminal) Stop → Result (A × List Terminal) Stop
extend us (Ok x) = Ok (x.0, x.1 ++ us)
extend us (Err (Unexpected k)) = Err (Unexpected (k + length us))
extend us (Err (Deep k)) = Err (Deep (k + length us))

-- Behind s tokens that were looked at: where it stops before the end of its tokens, more behind them change nothing; where it stops at
-- their end, it does not stop in front of it if there are more.
pub record Local {A : Type 0} (s : ℕ) (p : Parse A) : Type 0 where
  pub shrinks : (ts : List Terminal) → left (p ts) ≤ s + length ts
  pub stable : (ts us : List Terminal) → 0 < left (p ts) → p (ts ++ us) ≡ extend us (p ts)
  pub passes : (ts us : List Terminal) → left (p ts) ≡ 0 → left (p (ts ++ us)) ≤ length us

pub zero_or_more : (n : ℕ) → (n ≡ 0) ⊎ (0 < n)
zero_or_more zero = inl refl
zero_or_more (suc n) = inr (omega arith)

module _ {A B : Type 0} (f : A → Parse B) (good : (x : A) → Local 0 (f x)) where
  pub read_on-left : (r : Result (A × List Terminal) Stop) → left (read_on r f) ≤ left r
  read_on-left (Ok x) = omega (arith, (good x.0).shrinks x.1)
  read_on-left (Err (Unexpected k)) = omega arith
  read_on-left (Err (Deep k)) = omega arith

  read_on-extend : (us : List Terminal) (r : Result (A × List Terminal) Stop) → 0 < left (read_on r f) → read_on (extend us r) f ≡ extend us (read_on r f)
  read_on-extend us (Ok x) h = (good x.0).stable x.1 us h
  read_on-extend us (Err (Unexpected k)) h = refl
  read_on-extend us (Err (Deep k)) h = refl

  read_on-passes : (us : List Terminal) (r : Result (A × List Terminal) Stop) → 0 < left r → left (read_on r f) ≡ 0 → left (read_on (extend us r) f) ≤ length us
  read_on-passes us (Ok x) h e = (good x.0).passes x.1 us e
  read_on-passes us (Err (Unexpected k)) h e = absurd (omega arith)
  read_on-passes us (Err (Deep k)) h e = absurd (omega arith)

  pub Local-read_on : {s : ℕ} (p : Parse A) → Local s p → Local s (λ ts. read_on (p ts) f)
  Local-read_on p g = record {
    shrinks = λ ts. omega (arith, read_on-left (p ts), g.shrinks ts);
    stable = λ ts us h.
        let more : 0 < left (p ts) = omega (arith, read_on-left (p ts)) in
        ap (λ r. read_on r f) (g.stable ts us more) ∙ read_on-extend us (p ts) h;
    passes = λ ts us e.
        elim (zero_or_more (left (p ts))) [
          | inl z ↦ omega (arith, read_on-left (p (ts ++ us)), g.passes ts us z)
          | inr h ↦ subst (λ r. left (read_on r f) ≤ length us) (sym (g.stable ts us h)) (read_on-passes us (p ts) h e)
        ];
  }

-- the first token is looked at
pub Local-look : {A : Type 0} (p : Parse A) → left (p []) ≡ 0 → ((t : Terminal) → Local 1 (λ ts. p (t ∷ ts))) → Local 0 p
Local-look {A} p nil some = record { shrinks = shrinks; stable = stable; passes = passes }
  where
    shrinks : (ts : List Terminal) → left (p ts) ≤ 0 + length ts
    shrinks [] = omega (arith, nil)
    shrinks (t ∷ ts) = omega (arith, (some t).shrinks ts)

    stable : (ts us : List Terminal) → 0 < left (p ts) → p (ts ++ us) ≡ extend us (p ts)
    stable [] us h = absurd (omega (arith, nil, h))
    stable (t ∷ ts) us h = (some t).stable ts us h

    passes : (ts us : List Terminal) → left (p ts) ≡ 0 → left (p (ts ++ us)) ≤ length us
    passes [] us h = omega (arith, shrinks us)
    passes (t ∷ ts) us h = (some t).passes ts us h

pub Local-weak : {A : Type 0} (p : Parse A) → Local 0 p → Local 1 p
Local-weak p g = record { shrinks = λ ts. omega (arith, g.shrinks ts); stable = g.stable; passes = g.passes }

pub Local-cons : {A : Type 0} (p : Parse A) (t : Terminal) → Local 0 p → Local 1 (λ ts. p (t ∷ ts))
Local-cons p t g = record { shrinks = λ ts. omega (arith, g.shrinks (t ∷ ts)); stable = λ ts us h. g.stable (t ∷ ts) us h; passes = λ ts us h. g.passes (t ∷ ts) us h }

pub Local-cond : {A : Type 0} {s : ℕ} (b : Bool) (p q : Parse A) → Local s p → Local s q → Local s (λ ts. cond b (p ts) (q ts))
Local-cond true p q g h = g
Local-cond false p q g h = h

pub Local-ok : {A : Type 0} (x : A) → Local 0 (λ ts. Ok (x, ts))
Local-ok x = record { shrinks = λ ts. omega arith; stable = λ ts us h. refl; passes = λ ts us h. omega (arith, length-append ts us) }

-- it stops at the token before the rest
pub Local-here : {A : Type 0} (x : A) (t : Terminal) → Local 1 (λ ts. Ok (x, t ∷ ts))
Local-here x t = record { shrinks = λ ts. omega arith; stable = λ ts us h. refl; passes = λ ts us h. absurd (omega arith) }

pub Local-unexpected : {A : Type 0} → Local {A = A} 1 (λ ts. Err (Unexpected (suc (length ts))))
Local-unexpected = record { shrinks = λ ts. omega arith; stable = λ ts us h. ap (λ n. Err (Unexpected n)) (omega (arith, length-append ts us)); passes = λ ts us h. absurd (omega arith) }

pub Local-deep : {A : Type 0} → Local {A = A} 1 (λ ts. Err (Deep (suc (length ts))))
Local-deep = record { shrinks = λ ts. omega arith; stable = λ ts us h. ap (λ n. Err (Deep n)) (omega (arith, length-append ts us)); passes = λ ts us h. absurd (omega arith) }

pub Local-unexpected-all : {A : Type 0} → Local {A = A} 0 (λ ts. Err (Unexpected (length ts)))
Local-unexpected-all = record { shrinks = λ ts. omega arith; stable = λ ts us h. ap (λ n. Err (Unexpected n)) (length-append ts us); passes = λ ts us h. omega (arith, length-append ts us) }

pub Local-deep-all : {A : Type 0} → Local {A = A} 0 (λ ts. Err (Deep (length ts)))
Local-deep-all = record { shrinks = λ ts. omega arith; stable = λ ts us h. ap (λ n. Err (Deep n)) (length-append ts us); passes = λ ts us h. omega (arith, length-append ts us) }

pub Local-above : {A : Type 0} (m h : ℕ) (p : Parse A) → Local 0 p → Local 0 (above m h p)
Local-above m h p g = Local-cond _ p deep g Local-deep-all

pub Local-deeper : {A : Type 0} (m : ℕ) (p : Parse A) → Local 0 p → Local 0 (deeper m p)
Local-deeper m p g = Local-cond _ deep p Local-deep-all g

-- what the first token says decides how it goes on
pub Local-first : {A X : Type 0} (x : List Terminal → X) → ((t : Terminal) (ts us : List Terminal) → x (t ∷ ts) ≡ x (t ∷ us)) → (g : X → Parse A) → ((y : X) → Local 0 (g y)) → Local 0 (λ ts. g (x ts) ts)
Local-first {A} {X} x same g good = record { shrinks = λ ts. (good (x ts)).shrinks ts; stable = stable; passes = passes }
  where
    stable : (ts us : List Terminal) → 0 < left (g (x ts) ts) → g (x (ts ++ us)) (ts ++ us) ≡ extend us (g (x ts) ts)
    stable [] us h = absurd (omega (arith, (good (x [])).shrinks []))
    stable (t ∷ ts) us h = ap (λ y. g y (t ∷ (ts ++ us))) (same t (ts ++ us) ts) ∙ (good (x (t ∷ ts))).stable (t ∷ ts) us h

    passes : (ts us : List Terminal) → left (g (x ts) ts) ≡ 0 → left (g (x (ts ++ us)) (ts ++ us)) ≤ length us
    passes [] us h = omega (arith, (good (x us)).shrinks us)
    passes (t ∷ ts) us h = subst (λ y. left (g y (t ∷ (ts ++ us))) ≤ length us) (sym (same t (ts ++ us) ts)) ((good (x (t ∷ ts))).passes (t ∷ ts) us h)

pub Local-if : {A : Type 0} (b : List Terminal → Bool) → ((t : Terminal) (ts us : List Terminal) → b (t ∷ ts) ≡ b (t ∷ us)) → (p q : Parse A) → Local 0 p → Local 0 q → Local 0 (λ ts. cond (b ts) (p ts) (q ts))
Local-if b same p q g h = Local-first b same (λ c ts. cond c (p ts) (q ts)) (λ c. Local-cond c p q g h)

pub Local-starts : {A : Type 0} (k : punctuator.Punctuator) (p q : Parse A) → Local 0 p → Local 0 q → Local 0 (λ ts. cond (starts k ts) (p ts) (q ts))
Local-starts k p q g h = Local-if (starts k) (λ t ts us. refl) p q g h

pub operator_at_same : {A : Type 0} (of : punctuator.Punctuator → Option A) (t : Terminal) (ts us : List Terminal) → operator_at of (t ∷ ts) ≡ operator_at of (t ∷ us)
operator_at_same of (Name at x) ts us = refl
operator_at_same of (TypeName at x) ts us = refl
operator_at_same of (Keyword at k) ts us = refl
operator_at_same of (Constant at n unsigned) ts us = refl
operator_at_same of (Text at bytes) ts us = refl
operator_at_same of (Punctuator at m) ts us = refl

pub Local-operator : {A X : Type 0} (of : punctuator.Punctuator → Option X) (g : Option X → Parse A) → ((o : Option X) → Local 0 (g o)) → Local 0 (λ ts. g (operator_at of ts) ts)
Local-operator of g good = Local-first (operator_at of) (operator_at_same of) g good

pub Local-place : {A : Type 0} (g : ℕ → Parse A) → ((n : ℕ) → Local 0 (g n)) → Local 0 (λ ts. g (place ts) ts)
Local-place g good = Local-first place (λ t ts us. refl) g good

Local-expect : (k : punctuator.Punctuator) → Local 0 (expect k)
Local-expect k = Local-look (expect k) refl (λ t. Local-cond (is_punctuator k t) (λ ts. Ok (tt, ts)) (λ ts. unexpected (t ∷ ts)) (Local-weak _ (Local-ok tt)) Local-unexpected)

pub Local-punctuator : {A : Type 0} (k : punctuator.Punctuator) (f : Unit {0} → Parse A) → ((x : Unit {0}) → Local 0 (f x)) → Local 0 (λ ts. read_on (expect k ts) f)
Local-punctuator k f good = Local-read_on f good (expect k) (Local-expect k)

Local-type_name_as : (names : Names) (at : ℕ) (x : List ℕ) → Local 1 (type_name_as names at x)
Local-type_name_as Plain at x = Local-unexpected
Local-type_name_as Any at x = Local-weak _ (Local-ok (at, x))

Local-expect_name : (names : Names) → Local 0 (expect_name names)
Local-expect_name names = Local-look (expect_name names) refl each
  where
    each : (t : Terminal) → Local 1 (λ ts. expect_name names (t ∷ ts))
    each (Name at x) = Local-weak _ (Local-ok (at, x))
    each (TypeName at x) = Local-type_name_as names at x
    each (Keyword at k) = Local-unexpected
    each (Constant at n unsigned) = Local-unexpected
    each (Text at bytes) = Local-unexpected
    each (Punctuator at m) = Local-unexpected

pub Local-name : {A : Type 0} (names : Names) (f : ℕ × List ℕ → Parse A) → ((x : ℕ × List ℕ) → Local 0 (f x)) → Local 0 (λ ts. read_on (expect_name names ts) f)
Local-name names f good = Local-read_on f good (expect_name names) (Local-expect_name names)

-- ---- two tokens are looked at

-- the second decides, and is behind what is passed in any case
pub record Second {A : Type 0} (b : List Terminal → Bool) (p q : Parse A) (t : Terminal) : Type 0 where
  pub same : (u : Terminal) (ts us : List Terminal) → b (t ∷ u ∷ ts) ≡ b (t ∷ u ∷ us)
  pub passed : (us : List Terminal) → left (p (t ∷ us)) ≤ length us
  pub passed_else : (us : List Terminal) → left (q (t ∷ us)) ≤ length us

pub cond-left : {A : Type 0} (b : Bool) (r s : Result (A × List Terminal) Stop) (n : ℕ) → left r ≤ n → left s ≤ n → left (cond b r s) ≤ n
cond-left true r s n h k = h
cond-left false r s n h k = k

abbrev pub Looks : {A : Type 0} → (List Terminal → Bool) → Parse A → Parse A → Terminal → Type 0
Looks b p q t = ((ts us : List Terminal) → b (t ∷ ts) ≡ b (t ∷ us)) ⊎ Second b p q t

module _ {A : Type 0} (b : List Terminal → Bool) (p q : Parse A) (g : Local 0 p) (h : Local 0 q) (looks : (t : Terminal) → Looks b p q t) where
  stable_same : (ts us : List Terminal) → b (ts ++ us) ≡ b ts → 0 < left (cond (b ts) (p ts) (q ts)) → cond (b (ts ++ us)) (p (ts ++ us)) (q (ts ++ us)) ≡ extend us (cond (b ts) (p ts) (q ts))
  stable_same ts us e some = ap (λ c. cond c (p (ts ++ us)) (q (ts ++ us))) e ∙ (Local-cond (b ts) p q g h).stable ts us some

  passes_same : (ts us : List Terminal) → b (ts ++ us) ≡ b ts → left (cond (b ts) (p ts) (q ts)) ≡ 0 → left (cond (b (ts ++ us)) (p (ts ++ us)) (q (ts ++ us))) ≤ length us
  passes_same ts us e none = subst (λ c. left (cond c (p (ts ++ us)) (q (ts ++ us))) ≤ length us) (sym e) ((Local-cond (b ts) p q g h).passes ts us none)

  stable_at : (t : Terminal) (ts us : List Terminal) → Looks b p q t → 0 < left (cond (b (t ∷ ts)) (p (t ∷ ts)) (q (t ∷ ts))) → cond (b (t ∷ (ts ++ us))) (p (t ∷ (ts ++ us))) (q (t ∷ (ts ++ us))) ≡ extend us (cond (b (t ∷ ts)) (p (t ∷ ts)) (q (t ∷ ts)))
  stable_at t ts us (inl e) some = stable_same (t ∷ ts) us (e (ts ++ us) ts) some
  stable_at t [] us (inr s) some = let short : left (cond (b (t ∷ [])) (p (t ∷ [])) (q (t ∷ []))) ≤ 0 = cond-left (b (t ∷ [])) _ _ 0 (s.passed []) (s.passed_else []) in absurd (omega arith)
  stable_at t (u ∷ ts) us (inr s) some = stable_same (t ∷ u ∷ ts) us (s.same u (ts ++ us) ts) some

  passes_at : (t : Terminal) (ts us : List Terminal) → Looks b p q t → left (cond (b (t ∷ ts)) (p (t ∷ ts)) (q (t ∷ ts))) ≡ 0 → left (cond (b (t ∷ (ts ++ us))) (p (t ∷ (ts ++ us))) (q (t ∷ (ts ++ us)))) ≤ length us
  passes_at t ts us (inl e) none = passes_same (t ∷ ts) us (e (ts ++ us) ts) none
  passes_at t [] us (inr s) none = cond-left (b (t ∷ us)) _ _ (length us) (s.passed us) (s.passed_else us)
  passes_at t (u ∷ ts) us (inr s) none = passes_same (t ∷ u ∷ ts) us (s.same u (ts ++ us) ts) none

  either_shrinks : (ts : List Terminal) → left (cond (b ts) (p ts) (q ts)) ≤ 0 + length ts
  either_shrinks ts = cond-left (b ts) _ _ (0 + length ts) (g.shrinks ts) (h.shrinks ts)

  stable_all : (ts us : List Terminal) → 0 < left (cond (b ts) (p ts) (q ts)) → cond (b (ts ++ us)) (p (ts ++ us)) (q (ts ++ us)) ≡ extend us (cond (b ts) (p ts) (q ts))
  stable_all [] us some = absurd (omega (arith, either_shrinks []))
  stable_all (t ∷ ts) us some = stable_at t ts us (looks t) some

  passes_all : (ts us : List Terminal) → left (cond (b ts) (p ts) (q ts)) ≡ 0 → left (cond (b (ts ++ us)) (p (ts ++ us)) (q (ts ++ us))) ≤ length us
  passes_all [] us none = omega (arith, either_shrinks us)
  passes_all (t ∷ ts) us none = passes_at t ts us (looks t) none

  pub Local-two : Local 0 (λ ts. cond (b ts) (p ts) (q ts))
  Local-two = record { shrinks = either_shrinks; stable = stable_all; passes = passes_all }

-- a test that looks further: it stays as it is with more tokens, or all that it decides between is stopped at the end
pub Local-far : {A : Type 0} (b : List Terminal → Bool) (p q : Parse A) → Local 0 p → Local 0 q
    → ((ts us : List Terminal) → (b (ts ++ us) ≡ b ts) ⊎ ((left (cond (b ts) (p ts) (q ts)) ≡ 0) × (left (cond (b (ts ++ us)) (p (ts ++ us)) (q (ts ++ us))) ≤ length us))) → Local 0 (λ ts. cond (b ts) (p ts) (q ts))
Local-far b p q g h far = record { shrinks = λ ts. cond-left (b ts) (p ts) (q ts) (0 + length ts) (g.shrinks ts) (h.shrinks ts); stable = λ ts us some. stable_by ts us some (far ts us); passes = λ ts us none. passes_by ts us none (far ts us) }
  where
    stable_by : (ts us : List Terminal) → 0 < left (cond (b ts) (p ts) (q ts)) → (b (ts ++ us) ≡ b ts) ⊎ ((left (cond (b ts) (p ts) (q ts)) ≡ 0) × (left (cond (b (ts ++ us)) (p (ts ++ us)) (q (ts ++ us))) ≤ length us))
        → cond (b (ts ++ us)) (p (ts ++ us)) (q (ts ++ us)) ≡ extend us (cond (b ts) (p ts) (q ts))
    stable_by ts us some (inl e) = ap (λ c. cond c (p (ts ++ us)) (q (ts ++ us))) e ∙ (Local-cond (b ts) p q g h).stable ts us some
    stable_by ts us some (inr e) = absurd (omega (arith, e.0))

    passes_by : (ts us : List Terminal) → left (cond (b ts) (p ts) (q ts)) ≡ 0 → (b (ts ++ us) ≡ b ts) ⊎ ((left (cond (b ts) (p ts) (q ts)) ≡ 0) × (left (cond (b (ts ++ us)) (p (ts ++ us)) (q (ts ++ us))) ≤ length us))
        → left (cond (b (ts ++ us)) (p (ts ++ us)) (q (ts ++ us))) ≤ length us
    passes_by ts us none (inl e) = subst (λ c. left (cond c (p (ts ++ us)) (q (ts ++ us))) ≤ length us) (sym e) ((Local-cond (b ts) p q g h).passes ts us none)
    passes_by ts us none (inr e) = e.1

-- ---- turns

pub read_on_same : {A B : Type 0} (r : Result (A × List Terminal) Stop) (f g : A → Parse B) → ((x : A) (us : List Terminal) → r ≡ Ok (x, us) → f x us ≡ g x us) → read_on r f ≡ read_on r g
read_on_same (Ok x) f g same = same x.0 x.1 refl
read_on_same (Err e) f g same = refl

pub read_on_nothing : {A B : Type 0} {r : Result (A × List Terminal) Stop} {e : Stop} (f : A → Parse B) → r ≡ Err e → read_on r f ≡ Err e
read_on_nothing f e = ap (λ r. read_on r f) e

pub cond_same : {A : Type 0} (b : Bool) {r s u v : A} → r ≡ s → u ≡ v → cond b r u ≡ cond b s v
cond_same true e d = e
cond_same false e d = d

pub expect_takes : (k : punctuator.Punctuator) (ts : List Terminal) (x : Unit {0}) (us : List Terminal) → expect k ts ≡ Ok (x, us) → suc (length us) ≡ length ts
expect_takes k [] x us e = absurd cc
expect_takes k (t ∷ ts) x us e = by_case (is_punctuator k t) e
  where
    by_case : (b : Bool) → cond b (Ok (tt, ts)) (unexpected (t ∷ ts)) ≡ Ok (x, us) → suc (length us) ≡ suc (length ts)
    by_case true e = let pair : ◌≡◌ {A = Unit {0} × List Terminal} (tt, ts) (x, us) = cc in ap (λ (p : Unit {0} × List Terminal). suc (length p.1)) (sym pair)
    by_case false e = absurd cc

pub leaves_less : {A : Type 0} (p : Parse A) → Local 0 p → (ts : List Terminal) (x : A) (us : List Terminal) → p ts ≡ Ok (x, us) → length us ≤ length ts
leaves_less p g ts x us e = let short : length us ≤ 0 + length ts = subst (λ r. left r ≤ 0 + length ts) e (g.shrinks ts) in omega arith

-- A loop whose turns are bounded: where a turn goes on it has taken a token, so that as many turns as tokens are enough.
pub record Turns {X A : Type 0} (loop : ℕ → X → Parse A) (body : (X → Parse A) → X → Parse A) : Type 0 where
  pub turn : (n : ℕ) (x : X) (ts : List Terminal) → loop (suc n) x ts ≡ body (loop n) x ts
  pub none : (x : X) → body (loop zero) x [] ≡ loop zero x []
  pub takes : (f g : X → Parse A) (x : X) (ts : List Terminal) → ((y : X) (us : List Terminal) → length us < length ts → f y us ≡ g y us) → body f x ts ≡ body g x ts
  pub last : (x : X) → Local 0 (loop zero x)
  pub further : (f : X → Parse A) → ((y : X) → Local 0 (f y)) → (x : X) → Local 0 (body f x)

pub Local-same : {A : Type 0} {s : ℕ} (p q : Parse A) → ((ts : List Terminal) → p ts ≡ q ts) → Local s p → Local s q
Local-same {s = s} p q same g = record {
  shrinks = λ ts. subst (λ r. left r ≤ s + length ts) (same ts) (g.shrinks ts);
  stable = λ ts us h. sym (same (ts ++ us)) ∙ g.stable ts us (subst (λ r. 0 < left r) (sym (same ts)) h) ∙ ap (extend us) (same ts);
  passes = λ ts us h. subst (λ r. left r ≤ length us) (same (ts ++ us)) (g.passes ts us (ap left (same ts) ∙ h));
}

module _ {X A : Type 0} (loop : ℕ → X → Parse A) (body : (X → Parse A) → X → Parse A) (t : Turns loop body) where
  at_end_none : (n : ℕ) (x : X) → loop n x [] ≡ loop zero x []
  at_end_none zero x = refl
  at_end_none (suc n) x = t.turn n x [] ∙ t.takes (loop n) (loop zero) x [] (λ y us lt. absurd (omega arith)) ∙ t.none x

  pub turns_enough : (n k : ℕ) (x : X) (ts : List Terminal) → length ts ≤ n → length ts ≤ k → loop n x ts ≡ loop k x ts
  turns_enough n k x [] h g = at_end_none n x ∙ sym (at_end_none k x)
  turns_enough zero k x (u ∷ us) h g = absurd (omega arith)
  turns_enough (suc n) zero x (u ∷ us) h g = absurd (omega arith)
  turns_enough (suc n) (suc k) x (u ∷ us) h g = t.turn n x (u ∷ us) ∙ t.takes (loop n) (loop k) x (u ∷ us) (λ y vs lt. turns_enough n k y vs (omega arith) (omega arith)) ∙ sym (t.turn k x (u ∷ us))

  pub Local-turn : (n : ℕ) (x : X) → Local 0 (loop n x)
  Local-turn zero x = t.last x
  Local-turn (suc n) x = Local-same (body (loop n) x) (loop (suc n) x) (λ ts. sym (t.turn n x ts)) (t.further (loop n) (λ y. Local-turn n y) x)

  pub Local-turns : (x : X) → Local 0 (λ ts. loop (length ts) x ts)
  Local-turns x = record {
    shrinks = λ ts. (Local-turn (length ts) x).shrinks ts;
    stable = λ ts us h.
        let same : loop (length (ts ++ us)) x ts ≡ loop (length ts) x ts = turns_enough (length (ts ++ us)) (length ts) x ts (omega (arith, length-append ts us)) (omega arith) in
        (Local-turn (length (ts ++ us)) x).stable ts us (subst (λ r. 0 < left r) (sym same) h) ∙ ap (extend us) same;
    passes = λ ts us h.
        let same : loop (length (ts ++ us)) x ts ≡ loop (length ts) x ts = turns_enough (length (ts ++ us)) (length ts) x ts (omega (arith, length-append ts us)) (omega arith) in
        (Local-turn (length (ts ++ us)) x).passes ts us (ap left same ∙ h);
  }

-- ---- the end of a list in brackets: the punctuator, or a comma and the others

pub Local-after : {B : Type 0} (closing separating : punctuator.Punctuator) (all : B) (others : Parse B) → Local 0 others
    → Local 0 (λ ts. cond (starts closing ts) (read_on (expect closing ts) (λ _ us. Ok (all, us))) (read_on (expect separating ts) (λ _ us. others us)))
Local-after closing separating all others g = Local-starts closing _ _ (Local-punctuator closing _ (λ _. Local-ok all)) (Local-punctuator separating _ (λ _. g))

pub after_same : {B : Type 0} (closing separating : punctuator.Punctuator) (all : B) (p q : Parse B) (ts : List Terminal) → ((us : List Terminal) → length us < length ts → p us ≡ q us)
    → cond (starts closing ts) (read_on (expect closing ts) (λ _ us. Ok (all, us))) (read_on (expect separating ts) (λ _ us. p us))
    ≡ cond (starts closing ts) (read_on (expect closing ts) (λ _ us. Ok (all, us))) (read_on (expect separating ts) (λ _ us. q us))
after_same closing separating all p q ts same = cond_same (starts closing ts) refl (read_on_same (expect separating ts) _ _ (λ x us e. same us (let took = expect_takes separating ts x us e in omega arith)))

-- ---- tests of two tokens

-- a punctuator, and a test of what stands behind it
pub Looks-punctuator : {A : Type 0} (k : punctuator.Punctuator) (b rest : List Terminal → Bool) (p q : Parse A) → ((t : Terminal) (ts : List Terminal) → b (t ∷ ts) ≡ (is_punctuator k t && rest ts)) → ((u : Terminal) (ts us : List Terminal) → rest (u ∷ ts) ≡ rest (u ∷ us))
    → ((at : ℕ) (us : List Terminal) → left (p (Punctuator at k ∷ us)) ≤ length us) → ((at : ℕ) (us : List Terminal) → left (q (Punctuator at k ∷ us)) ≤ length us) → (t : Terminal) → Looks b p q t
Looks-punctuator k b rest p q is same f g t = by_case (is_punctuator k t) refl
  where
    by_case : (d : Bool) → is_punctuator k t ≡ d → Looks b p q t
    by_case true e = inr (record {
      same = λ u ts us. is t (u ∷ ts) ∙ ap (λ c. is_punctuator k t && c) (same u ts us) ∙ sym (is t (u ∷ us));
      passed = λ us. subst (λ u. left (p (u ∷ us)) ≤ length us) (sym (punctuator_is k t e)) (f (number_of t) us);
      passed_else = λ us. subst (λ u. left (q (u ∷ us)) ≤ length us) (sym (punctuator_is k t e)) (g (number_of t) us);
    })
    by_case false e = inl (λ ts us. is t ts ∙ ap (λ d. d && rest ts) e ∙ sym (ap (λ d. d && rest us) e) ∙ sym (is t us))

-- the same with a keyword
pub Looks-keyword : {A : Type 0} (k : key.Keyword) (b rest : List Terminal → Bool) (p q : Parse A) → ((t : Terminal) (ts : List Terminal) → b (t ∷ ts) ≡ (is_keyword k t && rest ts)) → ((u : Terminal) (ts us : List Terminal) → rest (u ∷ ts) ≡ rest (u ∷ us))
    → ((at : ℕ) (us : List Terminal) → left (p (Keyword at k ∷ us)) ≤ length us) → ((at : ℕ) (us : List Terminal) → left (q (Keyword at k ∷ us)) ≤ length us) → (t : Terminal) → Looks b p q t
Looks-keyword k b rest p q is same f g t = by_case (is_keyword k t) refl
  where
    by_case : (d : Bool) → is_keyword k t ≡ d → Looks b p q t
    by_case true e = inr (record {
      same = λ u ts us. is t (u ∷ ts) ∙ ap (λ c. is_keyword k t && c) (same u ts us) ∙ sym (is t (u ∷ us));
      passed = λ us. subst (λ u. left (p (u ∷ us)) ≤ length us) (sym (keyword_is k t e)) (f (number_of t) us);
      passed_else = λ us. subst (λ u. left (q (u ∷ us)) ≤ length us) (sym (keyword_is k t e)) (g (number_of t) us);
    })
    by_case false e = inl (λ ts us. is t ts ∙ ap (λ d. d && rest ts) e ∙ sym (ap (λ d. d && rest us) e) ∙ sym (is t us))

-- what was read as at least a token leaves fewer
pub sound_takes : {A : Type 0} {R : A → List Terminal → Type 0} (ts : List Terminal) (r : Result (A × List Terminal) Stop) → Sound R [] ts r → ((x : A) (l : List Terminal) → R x l → 0 < length l) → (x : A) (us : List Terminal) → r ≡ Ok (x, us) → length us < length ts
sound_takes {A} {R} ts r s some x us e = go (subst (Outcome R [] ts) e s.is)
  where
    go : (front : List Terminal) × (ts ≡ front ++ us) × R x ([] ++ front) → length us < length ts
    go (front, split, h) = let more : 0 < length front = some x front h in omega (arith, ap length split, length-append front us)
