-- With more room for levels an answer is the same, but for what was too deep. How such laws are put together.
use Rattle.std.proofs.Common.{◌≡◌, ℕ, ◌≤◌, Bool, true, false, cond, List, Result, Ok, Err, refl, sym, subst, arith, true≢false}
use Rattle.std.specs.Prelude.{nat_le, ◌==◌}
use Rattle.std.proofs.lemmas.Bool.{le-leb, leb-true, eqb-true, eq-eqb}
use Rattle.qs_syntax_vocabulary.specs.declared.terminal.Terminal.{Terminal}
use Rattle.qs_parser_grammar.specs.Parse.{Stop, Unexpected, Deep, Parse, read_on}

abbrev Same : {A : Type 0} → Result (A × List Terminal) Stop → Result (A × List Terminal) Stop → Type 0
Same (Ok x) s = s ≡ Ok x
Same (Err (Unexpected k)) s = s ≡ Err (Unexpected k)
Same (Err (Deep k)) s = Unit {0}

-- the first is too deep, or the second is the same
pub record DeepOrSame {A : Type 0} (r s : Result (A × List Terminal) Stop) : Type 0 where
  pub is : Same r s

same_itself : {A : Type 0} (r : Result (A × List Terminal) Stop) → Same r r
same_itself (Ok x) = refl
same_itself (Err (Unexpected k)) = refl
same_itself (Err (Deep k)) = tt

pub DeepOrSame-refl : {A : Type 0} {r : Result (A × List Terminal) Stop} → DeepOrSame r r
DeepOrSame-refl {A} {r} = record { is = same_itself r }

pub DeepOrSame-deep : {A : Type 0} {k : ℕ} {s : Result (A × List Terminal) Stop} → DeepOrSame (Err (Deep k)) s
DeepOrSame-deep = record { is = tt }

pub DeepOrSame-read_on : {A B : Type 0} {r s : Result (A × List Terminal) Stop} (f g : A → Parse B) → DeepOrSame r s → ((x : A) (ts : List Terminal) → DeepOrSame (f x ts) (g x ts)) → DeepOrSame (read_on r f) (read_on s g)
DeepOrSame-read_on {A} {B} {r} {s} f g h each = go r s h.is
  where
    go : (r s : Result (A × List Terminal) Stop) → Same r s → DeepOrSame (read_on r f) (read_on s g)
    go (Ok x) s e = subst (λ s. DeepOrSame (f x.0 x.1) (read_on s g)) (sym e) (each x.0 x.1)
    go (Err (Unexpected k)) s e = subst (λ s. DeepOrSame (Err (Unexpected k)) (read_on s g)) (sym e) DeepOrSame-refl
    go (Err (Deep k)) s e = DeepOrSame-deep

-- what goes on behind a first part, which is the same
pub DeepOrSame-then : {A B : Type 0} (r : Result (A × List Terminal) Stop) (f g : A → Parse B) → ((x : A) (ts : List Terminal) → DeepOrSame (f x ts) (g x ts)) → DeepOrSame (read_on r f) (read_on r g)
DeepOrSame-then r f g each = DeepOrSame-read_on f g DeepOrSame-refl each

-- what gives its parts to a tree
pub DeepOrSame-last : {A B : Type 0} {r s : Result (A × List Terminal) Stop} (f : A → Parse B) → DeepOrSame r s → DeepOrSame (read_on r f) (read_on s f)
DeepOrSame-last f h = DeepOrSame-read_on f f h (λ x us. DeepOrSame-refl)

-- a test for room that more room passes too
pub DeepOrSame-above : {A : Type 0} {r s : Result (A × List Terminal) Stop} (k : ℕ) (h m n : ℕ) → m ≤ n → DeepOrSame r s → DeepOrSame (cond (nat_le h m) r (Err (Deep k))) (cond (nat_le h n) s (Err (Deep k)))
DeepOrSame-above {A} {r} {s} k h m n le g = by_case (nat_le h m) (λ e. le-leb h n (omega (arith, leb-true h m e)))
  where
    by_case : (b : Bool) → (b ≡ true → nat_le h n ≡ true) → DeepOrSame (cond b r (Err (Deep k))) (cond (nat_le h n) s (Err (Deep k)))
    by_case true e = rw (e refl) g
    by_case false e = DeepOrSame-deep

-- where some room is needed
pub DeepOrSame-some : {A : Type 0} {r s : Result (A × List Terminal) Stop} (k : ℕ) (m n : ℕ) → m ≤ n → DeepOrSame r s → DeepOrSame (cond (m == 0) (Err (Deep k)) r) (cond (n == 0) (Err (Deep k)) s)
DeepOrSame-some {A} {r} {s} k m n le g = by_case (m == 0) (n == 0) (λ e. eq-eqb m 0 (let none : n ≡ 0 = eqb-true n 0 e in omega arith))
  where
    by_case : (b c : Bool) → (c ≡ true → b ≡ true) → DeepOrSame (cond b (Err (Deep k)) r) (cond c (Err (Deep k)) s)
    by_case true c h = DeepOrSame-deep
    by_case false true h = absurd (true≢false (sym (h refl)))
    by_case false false h = g

pub DeepOrSame-cond : {A : Type 0} {r s u v : Result (A × List Terminal) Stop} (b : Bool) → DeepOrSame r s → DeepOrSame u v → DeepOrSame (cond b r u) (cond b s v)
DeepOrSame-cond true g h = g
DeepOrSame-cond false g h = h

pub DeepOrSame-unexpected : {A : Type 0} (r s : Result (A × List Terminal) Stop) (k : ℕ) → DeepOrSame r s → r ≡ Err (Unexpected k) → s ≡ Err (Unexpected k)
DeepOrSame-unexpected r s k g e = rw e at g.is
