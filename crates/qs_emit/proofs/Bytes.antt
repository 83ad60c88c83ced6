-- Numbers in bytes: they depend on their bytes alone, and what is stored is what is there.
use Rattle.std.proofs.Common.{◌≡◌, ◌⊎◌, inl, inr, ℕ, zero, suc, ◌+◌, ◌/◌, ◌%◌, ◌^◌, ◌<◌, ◌≤◌, refl, ap, ◌∙◌, arith}
use Rattle.qs_isa.specs.declared.instruction.StoreKind.TheVariants.{Sw}
use Rattle.qs_machine.specs.State.{store_4}
use Rattle.qs_emit.specs.Lies.{number_at}
use Rattle.qs_emit.proofs.Injection.{whole_word, stored_byte, stored_other}

pub number_same : (width : ℕ) (flat later : ℕ → ℕ) (from : ℕ) → ((at : ℕ) → from ≤ at → at < from + width → later at ≡ flat at) → number_at width later from ≡ number_at width flat from
unfolding number_at
number_same zero flat later from h = refl
number_same (suc width) flat later from h =
    let here : later from ≡ flat from = h from (omega arith) (omega arith) in
    let rest : number_at width later (from + 1) ≡ number_at width flat (from + 1) = number_same width flat later (from + 1) (λ at l u. h at (omega (arith, l)) (omega (arith, u))) in
    omega (arith, here, rest)

-- the word that was stored
pub number_stored : (flat : ℕ → ℕ) (at v : ℕ) → number_at 4 (store_4 flat at v) at ≡ v % 2 ^ 32
number_stored flat at v = whole_word (store_4 flat at v) at (v % 2 ^ 32) (omega arith) (λ j lt. stored_byte flat at v j lt ∙ digit v j lt)
  where
    digit : (v j : ℕ) → j < 4 → v / 256 ^ j % 256 ≡ v % 2 ^ 32 / 256 ^ j % 256
    digit v zero h = omega arith
    digit v (suc zero) h = omega arith
    digit v (suc (suc zero)) h = omega arith
    digit v (suc (suc (suc zero))) h = omega arith
    digit v (suc (suc (suc (suc j)))) h = absurd (omega (arith, h))

-- numbers elsewhere
pub number_beside : (flat : ℕ → ℕ) (at v width from : ℕ) → (from + width ≤ at) ⊎ (at + 4 ≤ from) → number_at width (store_4 flat at v) from ≡ number_at width flat from
number_beside flat at v width from h = number_same width flat (store_4 flat at v) from (λ x l u. stored_other Sw flat at v x (out x l u h))
  where
    out : (x : ℕ) → from ≤ x → x < from + width → (from + width ≤ at) ⊎ (at + 4 ≤ from) → (x < at) ⊎ (at + 4 ≤ x)
    out x l u (inl e) = inl (omega (arith, u, e))
    out x l u (inr e) = inr (omega (arith, l, e))

-- numbers of bytes are words
pub number_small : (flat : ℕ → ℕ) (from : ℕ) → ((j : ℕ) → j < 4 → flat (from + j) < 256) → number_at 4 flat from < 2 ^ 32
unfolding number_at
number_small flat from h =
    let z : flat (from + 0) ≡ flat from = ap flat (omega arith) in
    let b1 : flat (from + 1 + 1) ≡ flat (from + 2) = ap flat (omega arith) in
    let b2 : flat (from + 1 + 1 + 1) ≡ flat (from + 3) = ap flat (omega arith) in
    let c0 : flat (from + 0) < 256 = h 0 (omega arith) in
    let c1 : flat (from + 1) < 256 = h 1 (omega arith) in
    let c2 : flat (from + 2) < 256 = h 2 (omega arith) in
    let c3 : flat (from + 3) < 256 = h 3 (omega arith) in
    omega (arith, z, b1, b2, c0, c1, c2, c3)
