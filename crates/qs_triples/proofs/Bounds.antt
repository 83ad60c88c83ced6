-- Weights that are at most a value and a number besides.
use Rattle.std.proofs.Common.{◌≡◌, ℕ, ◌+◌, ◌-◌, ◌≤◌, Option, Some, None, refl, subst, arith}
use Rattle.std.specs.Prelude.{if◌then◌else◌, Bool, true, false}
use Rattle.qs_events.specs.Runs.{given}
use Rattle.qs_events.specs.Weights.{Metric, run_weight_by}
use Rattle.qs_calls.specs.World.{RootRun}
use Rattle.qs_assert.specs.Values.{Extended, finite, infinite, plus, greater}
use Rattle.qs_entail.specs.Meaning.{AtLeast}

-- n is at most a, and x besides
abbrev pub IsBelow : ℕ → Extended → ℕ → Type 0
IsBelow n infinite x = Unit {0}
IsBelow n (finite a) x = n ≤ a + x

pub zero_below : (a : Extended) (x : ℕ) → IsBelow 0 a x
zero_below infinite x = tt
zero_below (finite a) x = omega arith

pub below_more : (n : ℕ) (a b : Extended) (x : ℕ) → IsBelow n a x → AtLeast b a → IsBelow n b x
below_more n a infinite x h k = tt
below_more n infinite (finite b) x h k = absurd k
below_more n (finite a) (finite b) x h k = omega arith

pub below_at : (n x : ℕ) {a b : Extended} → a ≡ b → IsBelow n a x → IsBelow n b x
below_at n x e h = subst (λ (a : Extended). IsBelow n a x) e h

pub given_below :
    (metric : Metric) {A : Type 0} (o : Option A) (g : A → RootRun) (a : Extended) (x : ℕ)
    → ((v : A) → o ≡ Some v → IsBelow (run_weight_by metric (g v)) a x) → IsBelow (run_weight_by metric (given o g)) a x
given_below metric None g a x h = zero_below a x
given_below metric (Some v) g a x h = h v refl

pub choice_below :
    (metric : Metric) (b : Bool) (o p : RootRun) (a : Extended) (x : ℕ)
    → (b ≡ true → IsBelow (run_weight_by metric o) a x) → (b ≡ false → IsBelow (run_weight_by metric p) a x)
    → IsBelow (run_weight_by metric (if b then o else p)) a x
choice_below metric true o p a x h k = h refl
choice_below metric false o p a x h k = k refl

-- ---- calls, where c is the cost of the function

-- what is free behind a call with a frame: what it leaves, the cost that it gives back, and the frame
pub framed :
    (n c a x : ℕ) (r v : Extended) → IsBelow n v x → AtLeast (plus (finite c) (plus r (plus (finite a) (finite 0)))) v
    → IsBelow n r (c + (a + x))
framed n c a x infinite v h k = tt
framed n c a x (finite r) infinite h k = absurd k
framed n c a x (finite r) (finite v) h k = omega arith

-- the same where it gives nothing back
pub framed_alone :
    (n a x : ℕ) (r v : Extended) → IsBelow n v x → AtLeast (plus r (plus (finite a) (finite 0))) v → IsBelow n r (0 + (a + x))
framed_alone n a x infinite v h k = tt
framed_alone n a x (finite r) infinite h k = absurd k
framed_alone n a x (finite r) (finite v) h k = omega arith

pub with_frame_below :
    (n c x : ℕ) (p a : Extended) → ((y : ℕ) → a ≡ finite y → IsBelow n p (c + (y + x)))
    → IsBelow n (plus (finite c) (plus p (plus a (finite 0)))) x
with_frame_below n c x infinite infinite h = tt
with_frame_below n c x (finite p) infinite h = tt
with_frame_below n c x infinite (finite a) h = tt
with_frame_below n c x (finite p) (finite a) h = let g = h a refl in omega arith

-- a balanced call: its frame is what v has above the call
pub around_below :
    (n c x : ℕ) (v p : Extended)
    → ((y : ℕ) → ((m : ℕ) → IsBelow m v x → IsBelow m p (c + (y + x))) → IsBelow n p (c + (y + x)))
    → IsBelow n (greater v (greater (plus (finite c) (plus p (finite 0))) (finite 0))) x
around_below n c x infinite p h = tt
around_below n c x (finite v) infinite h = tt
around_below n c x (finite v) (finite p) h = let g = h (v - (c + p)) (λ m k. omega arith) in omega arith

pub returned : (c n x : ℕ) (a : Extended) → IsBelow n a (c + x) → IsBelow (n - c) a x
returned c n x infinite h = tt
returned c n x (finite a) h = omega arith

pub entering : (c n x : ℕ) (a : Extended) → IsBelow n a x → IsBelow (c + n) a (c + x)
entering c n x infinite h = tt
entering c n x (finite a) h = omega arith

pub at_top : (c n : ℕ) (a : Extended) → IsBelow n a (c + 0) → AtLeast (plus (finite c) a) (finite n)
at_top c n infinite h = tt
at_top c n (finite a) h = omega arith

-- a path entry of value m pays for a call of weight n, and what follows weighs at most m and x
pub paid :
    (n m c : ℕ) (a v : Extended) → v ≡ finite m → AtLeast v (plus (finite c) a) → IsBelow n a (c + 0) → n ≤ m
paid n m c infinite v is h k = absurd (subst (λ (v : Extended). AtLeast v infinite) is h)
paid n m c (finite a) v is h k = let i = subst (λ (v : Extended). AtLeast v (finite (c + a))) is h in omega (arith, i, k)

pub below_finite : (n x : ℕ) (v : Extended) → ((m : ℕ) → v ≡ finite m → n ≤ m + x) → IsBelow n v x
below_finite n x infinite h = tt
below_finite n x (finite m) h = h m refl

pub finite_below : (n m x : ℕ) (v : Extended) → v ≡ finite m → IsBelow n v x → n ≤ m + x
finite_below n m x v is h = subst (λ (v : Extended). IsBelow n v x) is h
