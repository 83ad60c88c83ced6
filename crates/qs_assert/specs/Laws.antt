-- What values have to do with variables and with the images that stand for them.
use Rattle.std.specs.Prelude.{◌≡◌, true, ℤ, Option, Some, None, List}
use Rattle.std.specs.List.{list_any}
use Rattle.qs_assert.specs.declared.variable.Var.{Var}
use Rattle.qs_assert.specs.declared.images.Substituted.TheVariants.{Whole}
use Rattle.qs_assert.specs.Images.{term_image, cond_image}
use Rattle.qs_assert.specs.Simultaneous.{terms_for, first_lacking, substituted}
use Rattle.qs_assert.specs.Substitution.{same_variable}
use Rattle.qs_assert.specs.Trees.{TermTree, CondTree, AssertionTree}
use Rattle.qs_assert.specs.Values.{State, term_value, holds, value}
use Rattle.qs_assert.specs.Variables.{term_variables, cond_variables}

-- ---- variables that are replaced

-- in this state each image has the number that `at` gives its variable
abbrev pub HaveNumbers : (Var → Option TermTree) → State → (Var → ℤ) → Type 0
HaveNumbers m s at = (x : Var) (t : TermTree) → m x ≡ Some t → term_value t s ≡ at x

-- each of these variables has an image
abbrev pub HaveImages : (Var → Option TermTree) → List Var → Type 0
HaveImages m xs = first_lacking m xs ≡ None

-- What has its variables replaced by images, all at once, has in a state the value that it had before where each
-- variable has the number of its image.
pub record ImagesGiveValues : Type 0 where
  pub terms : (m : Var → Option TermTree) (t : TermTree) (s : State) (at : Var → ℤ) → HaveNumbers m s at → HaveImages m (term_variables t) → term_value (term_image (terms_for m) t) s ≡ term_value t (record s { at = at })
  pub conditions : (m : Var → Option TermTree) (c : CondTree) (s : State) (at : Var → ℤ) → HaveNumbers m s at → HaveImages m (cond_variables c) → holds (cond_image (terms_for m) c) s ≡ holds c (record s { at = at })
  pub assertions : (m : Var → Option TermTree) (a b : AssertionTree) (s : State) (at : Var → ℤ) → HaveNumbers m s at → substituted m a ≡ Whole b → value b s ≡ value a (record s { at = at })

-- ---- variables that are mentioned

-- the same numbers for these variables
abbrev pub SameNumbers : List Var → (Var → ℤ) → (Var → ℤ) → Type 0
SameNumbers xs f g = (x : Var) → list_any (λ y. same_variable y x) xs ≡ true → f x ≡ g x

-- A term has the same number, and a condition holds alike, where its variables have the same numbers.
pub record PartsAreOfTheirVariables : Type 0 where
  pub terms : (t : TermTree) (s : State) (f g : Var → ℤ) → SameNumbers (term_variables t) f g → term_value t (record s { at = f }) ≡ term_value t (record s { at = g })
  pub conditions : (c : CondTree) (s : State) (f g : Var → ℤ) → SameNumbers (cond_variables c) f g → holds c (record s { at = f }) ≡ holds c (record s { at = g })
