use Rattle.std.proofs.Common.{◌≡◌, ℕ, ◌+◌, ◌*◌, ◌<◌, ◌≤◌, List, [], ◌∷◌, length, get_or, drop, refl, ap, arith, add-one, drop-cons, mul-le-mul_left}
use Rattle.qs_lexer.specs.Numbers.{digit_value, value_from}
use Rattle.qs_lexer.proofs.numbers.value_of.Goals as goal

value_goes : (base v : ℕ) (text : List ℕ) (i : ℕ) → i < length text → value_from base v (drop i text) ≡ value_from base (v * base + digit_value (get_or text i 0)) (drop (i + 1) text)
value_goes base v text i h = rw (add-one, drop-cons text i 0 h) refl

value_grows : (base v : ℕ) (text : List ℕ) → 1 ≤ base → v ≤ value_from base v text
value_grows base v [] h = omega arith
value_grows base v (b ∷ bs) h =
    let g : v * base + digit_value b ≤ value_from base (v * base + digit_value b) bs = value_grows base (v * base + digit_value b) bs h in
    let m : v * 1 ≤ v * base = mul-le-mul_left v h in
    omega arith

pub returns-then-value-ge4294967296 : goal.returns-then-value-ge4294967296
returns-then-value-ge4294967296 c = λ h.
    let e = value_goes c.args.base c.loop-byte.value c.args.digits.now c.loop-byte.byte-index c.loop-byte-test.true in
    let g = value_grows c.args.base (c.loop-byte.value * c.args.base + c.digit_value.result) (drop (c.loop-byte.byte-index + 1) c.args.digits.now) c.requires.low in
    let d = ap (λ k. value_from c.args.base (c.loop-byte.value * c.args.base + k) (drop (c.loop-byte.byte-index + 1) c.args.digits.now)) c.digit_value.ensures in
    omega (arith, e, g, d, c.loop-byte.invariant.1)
