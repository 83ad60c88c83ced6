-- What an answer of the parser takes off the front of its tokens.
use Rattle.std.proofs.Common.{◌≡◌, ℕ, ◌+◌, ◌≤◌, length, length-append, arith, List, [], ◌∷◌, ◌++◌, Result, Ok, Err, refl, sym, ap, subst, ◌∙◌, append_assoc, append-nil}
use Rattle.qs_syntax_vocabulary.specs.declared.terminal.Terminal.{Terminal}
use Rattle.qs_parser_grammar.specs.Parse.{Stop, left_of, Parse, read_on}

-- a fault at the first of the tokens
pub at_end : {n : ℕ} → n ≤ n
at_end {n} = omega arith

-- behind the tokens `done`: R of these and of what was taken, or the place of a fault, which is one of the tokens or their end
abbrev pub Outcome : {A : Type 0} → (A → List Terminal → Type 0) → List Terminal → List Terminal → Result (A × List Terminal) Stop → Type 0
Outcome R done ts (Ok x) = (front : List Terminal) × (ts ≡ front ++ x.1) × R x.0 (done ++ front)
Outcome R done ts (Err e) = left_of e ≤ length ts

pub record Sound {A : Type 0} (R : A → List Terminal → Type 0) (done ts : List Terminal) (r : Result (A × List Terminal) Stop) : Type 0 where
  pub is : Outcome R done ts r

module _ {A : Type 0} {R : A → List Terminal → Type 0} where
  pub Sound-ok : {x : A} {done ts : List Terminal} → R x done → Sound R done ts (Ok (x, ts))
  Sound-ok {x} {done} h = record { is = ([], refl, subst (R x) (sym (append-nil done)) h) }

  pub Sound-err : {e : Stop} {done ts : List Terminal} → left_of e ≤ length ts → Sound R done ts (Err e)
  Sound-err h = record { is = h }

  pub Sound-after : (done ts taken us : List Terminal) → ts ≡ taken ++ us → (r : Result (A × List Terminal) Stop) → Sound R (done ++ taken) us r → Sound R done ts r
  Sound-after done ts taken us e r s = record { is = go r s.is }
    where
      go : (r : Result (A × List Terminal) Stop) → Outcome R (done ++ taken) us r → Outcome R done ts r
      go (Ok x) (front, d, h) = (taken ++ front, e ∙ ap (λ l. taken ++ l) d ∙ sym (append_assoc taken front x.1), subst (R x.0) (append_assoc done taken front) h)
      go (Err stop) h =
          let all : length ts ≡ length taken + length us = ap length e ∙ length-append taken us in
          omega (arith, all, h)

  pub Sound-token : {t : Terminal} {done ts : List Terminal} {r : Result (A × List Terminal) Stop} → Sound R (done ++ t ∷ []) ts r → Sound R done (t ∷ ts) r
  Sound-token {t} {done} {ts} {r} s = Sound-after done (t ∷ ts) (t ∷ []) ts refl r s

module _ {A : Type 0} {R : A → List Terminal → Type 0} {S : A → List Terminal → Type 0} where
  pub Sound-mono : {done ts : List Terminal} {r : Result (A × List Terminal) Stop} → ((x : A) (l : List Terminal) → R x l → S x l) → Sound R done ts r → Sound S done ts r
  Sound-mono {done} {ts} {r} f s = record { is = go r s.is }
    where
      go : (r : Result (A × List Terminal) Stop) → Outcome R done ts r → Outcome S done ts r
      go (Ok x) (front, e, h) = (front, e, f x.0 _ h)
      go (Err e) h = h

module _ {A C : Type 0} {R : A → List Terminal → Type 0} {S : C → List Terminal → Type 0} where
  pub Sound-read_on : {done ts : List Terminal} {r : Result (A × List Terminal) Stop} (f : A → Parse C) → Sound R [] ts r
      → ((x : A) (front us : List Terminal) → R x front → Sound S (done ++ front) us (f x us)) → Sound S done ts (read_on r f)
  Sound-read_on {done} {ts} {r} f s go = by_case r s.is
    where
      by_case : (r : Result (A × List Terminal) Stop) → Outcome R [] ts r → Sound S done ts (read_on r f)
      by_case (Ok x) (front, e, h) = Sound-after done ts front x.1 e (f x.0 x.1) (go x.0 front x.1 h)
      by_case (Err e) h = Sound-err h

  -- the same, where the first speaks of all that is done
  pub Sound-then : {done ts : List Terminal} {r : Result (A × List Terminal) Stop} (f : A → Parse C) → Sound R done ts r
      → ((x : A) (done us : List Terminal) → R x done → Sound S done us (f x us)) → Sound S done ts (read_on r f)
  Sound-then {done} {ts} {r} f s go = by_case r s.is
    where
      by_case : (r : Result (A × List Terminal) Stop) → Outcome R done ts r → Sound S done ts (read_on r f)
      by_case (Ok x) (front, e, h) = Sound-after done ts front x.1 e (f x.0 x.1) (go x.0 (done ++ front) x.1 h)
      by_case (Err e) h = Sound-err h
