-- Options that follow one another, and tests before an answer.
use Rattle.std.proofs.Common.{◌≡◌, Bool, true, false, Option, Some, None, refl, ap, ◌∙◌, if◌then◌else◌}
use Rattle.std.proofs.lemmas.Option.{same_Some}
use Rattle.qs_types.specs.Layout.{and_then}

pub nothing : {A B : Type 0} (x : A) → None ≡ Some x → B
nothing x e = absurd (no x e)
  where
    no : {A : Type 0} (x : A) → None ≡ Some x → ⊥
    no x e = cc

-- what an option that goes on had
pub record Went {A B : Type 0} (o : Option A) (go : A → Option B) (y : B) : Type 0 where
  pub value : A
  pub had : o ≡ Some value
  pub gave : go value ≡ Some y

pub went : {A B : Type 0} (o : Option A) (go : A → Option B) (y : B) → and_then o go ≡ Some y → Went o go y
went None go y e = nothing y e
went (Some x) go y e = record { value = x; had = refl; gave = e }

pub goes : {A B : Type 0} (o : Option A) (x : A) (go : A → Option B) (z : Option B) → o ≡ Some x → go x ≡ z → and_then o go ≡ z
goes o x go z e f = ap (λ o. and_then o go) e ∙ f

-- what a test let through
pub record Passed {A : Type 0} (b : Bool) (x y : A) : Type 0 where
  pub test : b ≡ true
  pub is : x ≡ y

pub passed : {A : Type 0} (b : Bool) (x y : A) → (if b then Some x else None) ≡ Some y → Passed b x y
passed true x y e = record { test = refl; is = same_Some x y e }
passed false x y e = nothing y e
