-- Numbers of a bounded count of digits.
use Rattle.std.proofs.Common.{◌≡◌, ◌≢◌, ◌∷◌, [], ◌==◌, IfSome, pos, neg_ℤ, option_map, ◌∙◌, ◌≤◌, ◌<◌, ◌^◌, ℕ, Bool, true, false, ◌&&◌, refl, sym, ap, arith, rules, Option, Some, None, Result, length, if◌then◌else◌}
use Rattle.std.proofs.Math.Nat.{pow-le-pow_right}
use Rattle.std.specs.Prelude.{nat_lt, nat_le}
use Rattle.std.proofs.lemmas.Bool.{lt-ltb, le-leb, leb-true, eqb-true}
use Rattle.std.specs.List.{list_all}
use Rattle.std.specs.Result.{result_ok}
use Rattle.std.specs.Str.Parse.{ParsesUnsigned, digits_value}
use Rattle.std.proofs.lemmas.Str.Parse.{IsNumeralModel, numerals_by_value, parse_gives, digits_value_short}
use Rattle.qs_base.specs.Bytes.{is_digit}
use Rattle.qs_base.specs.Characters.{hyphen}
use Rattle.qs_cli.specs.Words.{Text}
use Rattle.qs_cli.specs.Numbers.{number_of, signed_of}

decimal : IsNumeralModel (λ ds. list_all is_digit ds ≡ true) (digits_value 10)
decimal = numerals_by_value _ (search rules)

below : (most : ℕ) (text : Text) → length text ≤ most → list_all is_digit text ≡ true → digits_value 10 text < 10 ^ most
below most text fits digits = digits_value_short decimal text most digits fits

number_is : (most : ℕ) (text : Text) → 0 < length text → length text ≤ most → list_all is_digit text ≡ true
    → number_of most text ≡ Some (digits_value 10 text)
number_is most text some fits digits = rw (lt-ltb 0 (length text) some, le-leb (length text) most fits, digits) refl

pub number_parsed : {E : Type 0} (most : ℕ) (text : Text) (r : Result ℕ E) → most ≤ 19 → 0 < length text → length text ≤ most
    → list_all is_digit text ≡ true → ParsesUnsigned 64 10 text r → result_ok r ≡ number_of most text
number_parsed most text r small some fits digits parsed =
    let bound = below most text fits digits in
    let up : 10 ^ most ≤ 10 ^ 19 = pow-le-pow_right {n = 10} (omega arith) small in
    ap result_ok (parse_gives decimal 64 text r parsed digits some (omega arith)) ∙ sym (number_is most text some fits digits)

-- a number of so many digits is small
pub number_small : (most : ℕ) (text : Text) (o : Option ℕ) → o ≡ number_of most text → IfSome o (λ n. n < 10 ^ most)
number_small most text None is = tt
number_small most text (Some n) is = go (nat_lt 0 (length text)) (nat_le (length text) most) refl (list_all is_digit text) refl is
  where
    go : (some fits : Bool) → nat_le (length text) most ≡ fits → (digits : Bool) → list_all is_digit text ≡ digits
        → Some n ≡ (if (some && fits) && digits then Some (digits_value 10 text) else None) → n < 10 ^ most
    go true true fits true digits e = let same : n ≡ digits_value 10 text = cc in let bound = below most text (leb-true (length text) most fits) digits in omega arith
    go true true fits false digits e = absurd cc
    go true false fits d digits e = absurd cc
    go false f fits d digits e = absurd cc

-- a text without `-` in front that is no number is no signed number
pub signed_none : (text : Text) → ((rest : Text) → text ≢ hyphen ∷ rest) → number_of 10 text ≡ None → signed_of text ≡ None
signed_none [] plain none = refl
signed_none (b ∷ bs) plain none = go (b == hyphen) refl
  where
    go : (t : Bool) → (b == hyphen) ≡ t → (if t then option_map (λ n. neg_ℤ (pos n)) (number_of 10 bs) else option_map (λ n. pos n) (number_of 10 (b ∷ bs))) ≡ None
    go true is = let same : b ≡ hyphen = omega (arith, eqb-true b hyphen is) in absurd (plain bs (ap (λ x. x ∷ bs) same))
    go false is = ap (option_map (λ n. pos n)) none
