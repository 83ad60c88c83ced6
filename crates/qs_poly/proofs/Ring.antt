-- The ring laws of the integers.
use Rattle.std.proofs.Common.{◌≡◌, ◌*◌, sym, ap, ◌∙◌, arith}
use Rattle.std.specs.Prelude.{ℤ, pos, negsuc, ◌+ℤ◌, ◌*ℤ◌, ◌≤ℤ◌}
use Rattle.std.proofs.lemmas.Int.{ints}
use Rattle.std.proofs.Math.IntN.{*ℤ_comm}
use borrow.Author.Differences.{up, down, sum_is_lem, product_is}

pub mul_add : (a b c : ℤ) → (a +ℤ b) *ℤ c ≡ a *ℤ c +ℤ b *ℤ c
mul_add a b c =
    let s = sum_is_lem a b in
    let u = ap (λ n. n * up c) s in
    let d = ap (λ n. n * down c) s in
    omega (arith, ints, u, d)

pub add_mul : (a b c : ℤ) → a *ℤ (b +ℤ c) ≡ a *ℤ b +ℤ a *ℤ c
add_mul a b c = *ℤ_comm a (b +ℤ c) ∙ mul_add b c a ∙ ap (λ x. x +ℤ c *ℤ a) (*ℤ_comm b a) ∙ ap (λ x. a *ℤ b +ℤ x) (*ℤ_comm c a)

pub mul_assoc : (a b c : ℤ) → (a *ℤ b) *ℤ c ≡ a *ℤ (b *ℤ c)
mul_assoc a b c =
    let p = product_is a b in
    let q = product_is b c in
    omega (arith, ints, ap (λ n. n * up c) p.0, ap (λ n. n * down c) p.0, ap (λ n. n * up c) p.1, ap (λ n. n * down c) p.1, ap (λ n. up a * n) q.0, ap (λ n. up a * n) q.1, ap (λ n. down a * n) q.0, ap (λ n. down a * n) q.1)

pub mul_swap : (a b c : ℤ) → a *ℤ (b *ℤ c) ≡ b *ℤ (a *ℤ c)
mul_swap a b c = sym (mul_assoc a b c) ∙ ap (λ x. x *ℤ c) (*ℤ_comm a b) ∙ mul_assoc b a c

pub mul_pairs : (a b c d : ℤ) → (a *ℤ b) *ℤ (c *ℤ d) ≡ (a *ℤ c) *ℤ (b *ℤ d)
mul_pairs a b c d = mul_assoc a b (c *ℤ d) ∙ ap (λ x. a *ℤ x) (mul_swap b c d) ∙ sym (mul_assoc a c (b *ℤ d))

pub mul_not_negative : (a b : ℤ) → pos 0 ≤ℤ a → pos 0 ≤ℤ b → pos 0 ≤ℤ (a *ℤ b)
mul_not_negative (pos a) (pos b) h k = omega (arith, ints)
mul_not_negative (pos a) (negsuc b) h k = omega (arith, ints)
mul_not_negative (negsuc a) b h k = omega (arith, ints)
