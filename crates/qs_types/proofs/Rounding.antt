-- The least multiple that isn't below a number.
use Rattle.std.proofs.Common.{◌≡◌, ◌≤◌, ◌<◌, ℕ, suc, ◌+◌, ◌-◌, ◌*◌, ◌/◌, ◌%◌, ◌⊎◌, inl, inr, arith}
use Rattle.std.proofs.Math.Nat.{mul-mod_left, mul-le-mul_right, suc-mul}
use Rattle.std.proofs.lemmas.Nat.{mod_below, div-add-mod'}
use Rattle.qs_types.specs.Layout.{rounded_up}
use Rattle.qs_types.specs.LayoutLaws.{Rounds}

-- a multiple of a is its quotient times a
whole : (m a : ℕ) → m % a ≡ 0 → m / a * a ≡ m
whole m a h =
    let e = div-add-mod' m a in
    omega arith

-- a multiple q * a that is less than a above m is at most m where m = k * a
close : (q k a m : ℕ) → 1 ≤ a → k * a ≡ m → q * a < m + a → q * a ≤ m
close q k a m pos is near = go either
  where
    either : (q ≤ k) ⊎ (suc k ≤ q)
    either = grind arith

    go : (q ≤ k) ⊎ (suc k ≤ q) → q * a ≤ m
    go (inl le) = let b : q * a ≤ k * a = mul-le-mul_right a le in omega arith
    go (inr lt) = let b : suc k * a ≤ q * a = mul-le-mul_right a lt in let c : suc k * a ≡ k * a + a = suc-mul k a in omega arith

pub rounds : Rounds
rounds n a pos =
    let e = div-add-mod' (n + (a - 1)) a in
    let b = mod_below (n + (a - 1)) a pos in
    record {
      multiple = mul-mod_left ((n + (a - 1)) / a) a;
      above = omega arith;
      least = λ m d le. close ((n + (a - 1)) / a) (m / a) a m pos (whole m a d) (omega arith);
    }

pub rounds_near : (n a : ℕ) → 1 ≤ a → rounded_up n a < n + a
rounds_near n a pos =
    let e = div-add-mod' (n + (a - 1)) a in
    omega arith
