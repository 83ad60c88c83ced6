-- Bool tests, and options that follow one another.
use Rattle.std.proofs.Common.{◌≡◌, Bool, true, false, List, ◌++◌, Option, Some, None, is_some, refl, sym, ap, ◌∙◌}
use Rattle.std.specs.List.{list_all}
use Rattle.std.proofs.lemmas.List.Folds.{list_all-append}
use Rattle.std.specs.Cmp.{first_so, second_so}
use Rattle.qs_memory.specs.Partial.{◌>>=◌}
use Rattle.qs_types.specs.Layout.{and_then}
pub use Rattle.std.specs.Cmp.{first_so as left, second_so as right}
pub use Rattle.std.proofs.lemmas.Bool.{or_cases as either}
pub use Rattle.std.proofs.lemmas.Option.{same_Some as same}

pub never : {A : Type 0} → false ≡ true → A
never e = absurd (go e)
  where
    go : false ≡ true → ⊥
    go e = cc

pub all_left : {A : Type 0} (p : A → Bool) (xs ys : List A) → list_all p (xs ++ ys) ≡ true → list_all p xs ≡ true
all_left p xs ys e = first_so _ _ (sym (list_all-append p xs ys) ∙ e)

pub all_right : {A : Type 0} (p : A → Bool) (xs ys : List A) → list_all p (xs ++ ys) ≡ true → list_all p ys ≡ true
all_right p xs ys e = second_so (list_all p xs) _ (sym (list_all-append p xs ys) ∙ e)

pub nothing : {A B : Type 0} (x : A) → None ≡ Some x → B
nothing x e = absurd (no x e)
  where
    no : {A : Type 0} (x : A) → None ≡ Some x → ⊥
    no x e = cc

-- what an option that goes on had
pub record Went {A B : Type 0} (o : Option A) (go : A → Option B) (y : B) : Type 0 where
  pub value : A
  pub had : o ≡ Some value
  pub gave : go value ≡ Some y

pub went : {A B : Type 0} (o : Option A) (go : A → Option B) (y : B) → and_then o go ≡ Some y → Went o go y
went None go y e = nothing y e
went (Some x) go y e = record { value = x; had = refl; gave = e }

pub goes : {A B : Type 0} (o : Option A) (x : A) (go : A → Option B) (z : Option B) → o ≡ Some x → go x ≡ z → (o >>= go) ≡ z
goes o x go z e f = ap (λ o. o >>= go) e ∙ f

pub record Known {A : Type 0} (o : Option A) : Type 0 where
  pub value : A
  pub is : o ≡ Some value

pub known : {A : Type 0} (o : Option A) → is_some o ≡ true → Known o
known None e = never e
known (Some x) e = record { value = x; is = refl }

-- what goes on from something known is known where that is
abbrev pub onward : {A B : Type 0} (o : Option A) (go : A → Option B) → (k : Known o) → Known (go k.value) → Known (o >>= go)
onward o go k h = record { value = h.value; is = goes o k.value go _ k.is h.is }
