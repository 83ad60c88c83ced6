-- Conjunctions of tests.
use Rattle.std.proofs.Common.{◌≡◌, ℕ, Bool, true, false, ◌&&◌, Option, Some, None, refl, ◌==◌}
use Rattle.qs_lexer.proofs.Fronts.{is_at}
pub use Rattle.std.proofs.lemmas.Bool.{and_right as and_false}

pub and_true : (b c : Bool) → b ≡ true → (b && c) ≡ c
and_true true c h = refl
and_true false c h = cc

pub three_true : (x y z : Bool) → x ≡ true → y ≡ true → (x && y && z) ≡ z
three_true true true z p q = refl
three_true true false z p q = cc
three_true false y z p q = cc

pub second_false : (x y z : Bool) → y ≡ false → (x && y && z) ≡ false
second_false true true z p = cc
second_false true false z p = refl
second_false false y z p = refl

pub third_false : (x y z : Bool) → z ≡ false → (x && y && z) ≡ false
third_false true true z p = p
third_false true false z p = refl
third_false false y z p = refl

pub at_none : (o : Option ℕ) (m : ℕ) → o ≡ None → is_at m o ≡ false
at_none o m h = rw h refl

pub at_some : (o : Option ℕ) (m n : ℕ) → o ≡ Some n → is_at m o ≡ (m == n)
at_some o m n h = rw h refl
