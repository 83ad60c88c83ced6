-- What a defined answer says of the steps that led to it.
use Rattle.std.proofs.Common.{◌≡◌, Bool, true, false, Option, Some, None, is_some, IsSome, refl, sym, ap}
use Rattle.std.proofs.lemmas.Option.{same_Some}
use Rattle.qs_memory.specs.Partial.{◌>>=◌, only_if}
pub use Rattle.std.proofs.lemmas.Option.{same_Some as some_same}

pub record Followed {A B : Type 0} (o : Option A) (next : A → Option B) (y : B) : Type 0 where
  pub value : A
  pub first : o ≡ Some value
  pub then : next value ≡ Some y

pub followed : {A B : Type 0} → (o : Option A) (next : A → Option B) (y : B) → (o >>= next) ≡ Some y → Followed o next y
followed None next y h = cc
followed (Some x) next y h = record { value = x; first = refl; then = h }

pub only_if_some : {A : Type 0} → (test : Bool) (o : Option A) (y : A) → only_if test o ≡ Some y → (test ≡ true) × (o ≡ Some y)
only_if_some true o y h = (refl, h)
only_if_some false o y h = cc

pub only_if_value : {A : Type 0} → (test : Bool) (x y : A) → only_if test (Some x) ≡ Some y → (test ≡ true) × (x ≡ y)
only_if_value true x y h = (refl, same_Some x y h)
only_if_value false x y h = cc

-- a step behind a test
pub only_if-then : {A B : Type 0} → (test : Bool) (x : A) (next : A → Option B) → (only_if test (Some x) >>= next) ≡ only_if test (next x)
only_if-then true x next = refl
only_if-then false x next = refl

-- ---- answers that are defined

pub record Answer {A : Type 0} (o : Option A) : Type 0 where
  pub value : A
  pub is : o ≡ Some value

pub answer_of : {A : Type 0} → (o : Option A) → IsSome o → Answer o
answer_of None h = cc
answer_of (Some x) h = record { value = x; is = refl }

pub some_is : {A : Type 0} → (o : Option A) (x : A) → o ≡ Some x → IsSome o
some_is o x h = ap is_some h

pub some_then : {A B : Type 0} → (o : Option A) (f : A → B) → IsSome o → IsSome (o >>= λ x. Some (f x))
some_then None f h = h
some_then (Some x) f h = refl

pub then_some : {A B : Type 0} → (o : Option A) (f : A → B) → IsSome (o >>= λ x. Some (f x)) → IsSome o
then_some None f h = h
then_some (Some x) f h = refl

-- what each gives where the other does is the same
pub same_answers : {A : Type 0} → (o r : Option A) → ((x : A) → o ≡ Some x → r ≡ Some x) → ((x : A) → r ≡ Some x → o ≡ Some x) → o ≡ r
same_answers (Some x) r f g = sym (f x refl)
same_answers None (Some y) f g = g y refl
same_answers None None f g = refl
