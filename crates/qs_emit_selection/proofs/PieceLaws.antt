-- The steps of loops that pieces are made by.
use Rattle.std.proofs.Common.{◌≡◌, ℕ, suc, ◌≢◌, ◌+◌, ◌-◌, ◌*◌, ◌%◌, ◌^◌, ◌<◌, Bool, false, List, [], ◌∷◌, ◌++◌, Option, Some, refl, ap, sym, ◌∙◌, append_assoc, arith, eq-eqb}
use Rattle.std.specs.Prelude.{◌==◌, if◌then◌else◌}
use Rattle.std.proofs.Math.Pow.{pow-lt}
use Rattle.std.proofs.lemmas.Bool.Decides.{nat_tests}
use Rattle.qs_isa.specs.Registers.{x0, a5}
use Rattle.qs_isa.specs.declared.instruction.Instr.{Instr}
use Rattle.qs_isa.specs.declared.instruction.StoreKind.TheVariants.{Sb}
use Rattle.qs_asm.specs.declared.item.Item.{Item}
use Rattle.qs_asm.specs.Items.{plain}
use Rattle.qs_emit_selection.specs.Pieces as pieces
use Rattle.qs_emit_selection.specs.Pieces.{shift_among, shift_of, zero_bytes}

-- ---- the power of two that a number is

pub all_shifts : (number : ℕ) → shift_among 31 1 number ≡ shift_of number
unfolding shift_of
all_shifts number = refl

-- from an exponent below 32 on
next_shift :
    (exponent number : ℕ) → exponent < 32
    → shift_among (32 - exponent) exponent number
    ≡ (if 2 ^ exponent == number then Some exponent else shift_among (32 - (exponent + 1)) (exponent + 1) number)
next_shift exponent number h =
    let more : 32 - exponent ≡ suc (32 - (exponent + 1)) = omega (arith, h) in
    ap (λ n. shift_among n exponent number) more

shifted : (exponent : ℕ) → exponent < 32 → 1 * 2 ^ exponent % 2 ^ 32 ≡ 2 ^ exponent
shifted exponent h = let l : 2 ^ exponent < 2 ^ 32 = pow-lt h in omega (arith, l)

other : (a b : ℕ) → a ≢ b → (a == b) ≡ false
other a b h = grind (arith, nat_tests, h)

pub shift_found :
    (exponent number : ℕ) (whole : Option ℕ) → exponent < 32 → 1 * 2 ^ exponent % 2 ^ 32 ≡ number
    → shift_among (32 - exponent) exponent number ≡ whole → Some exponent ≡ whole
shift_found exponent number whole h e all =
    ap (λ (b : Bool). if b then Some exponent else shift_among (32 - (exponent + 1)) (exponent + 1) number)
    (sym (eq-eqb (2 ^ exponent) number (sym (shifted exponent h) ∙ e)))
    ∙ (sym (next_shift exponent number h) ∙ all)

pub shift_goes_on :
    (exponent number : ℕ) (whole : Option ℕ) → exponent < 32 → 1 * 2 ^ exponent % 2 ^ 32 ≢ number
    → shift_among (32 - exponent) exponent number ≡ whole → shift_among (32 - (exponent + 1)) (exponent + 1) number ≡ whole
shift_goes_on exponent number whole h e all =
    ap (λ (b : Bool). if b then Some exponent else shift_among (32 - (exponent + 1)) (exponent + 1) number)
    (sym (other (2 ^ exponent) number (λ i. e (shifted exponent h ∙ i))))
    ∙ (sym (next_shift exponent number h) ∙ all)

-- ---- zero bytes

next_zero :
    (count offset : ℕ) → offset < count
    → zero_bytes (count - offset) offset ≡ pieces.store Sb x0 a5 offset ∷ zero_bytes (count - (offset + 1)) (offset + 1)
next_zero count offset h =
    let more : count - offset ≡ suc (count - (offset + 1)) = omega (arith, h) in
    ap (λ n. zero_bytes n offset) more

pub zero_goes_on :
    (items more whole : List Item) (count offset : ℕ) (i : Instr) → offset < count → i ≡ pieces.store Sb x0 a5 offset
    → more ≡ items ++ plain (i ∷ []) → items ++ plain (zero_bytes (count - offset) offset) ≡ whole
    → more ++ plain (zero_bytes (count - (offset + 1)) (offset + 1)) ≡ whole
zero_goes_on items more whole count offset i l is new all =
    ap (λ m. m ++ plain (zero_bytes (count - (offset + 1)) (offset + 1))) new
    ∙ (append_assoc items (plain (i ∷ [])) (plain (zero_bytes (count - (offset + 1)) (offset + 1)))
    ∙ (ap (λ j. items ++ plain (j ∷ zero_bytes (count - (offset + 1)) (offset + 1))) is
    ∙ (ap (λ z. items ++ plain z) (sym (next_zero count offset l)) ∙ all)))
