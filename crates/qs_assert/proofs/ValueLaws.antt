-- Values after substitutions, and values of terms and conditions by their variables.
use Rattle.std.proofs.Common.{◌≡◌, refl, ap, ◌∙◌, List, [], ◌∷◌}
use Rattle.std.specs.Prelude.{ℤ, if◌then◌else◌, Option, Some, None, is_none}
use Rattle.std.specs.List.{find}
use Rattle.qs_assert.specs.declared.variable.Var.{Var}
use Rattle.qs_assert.specs.declared.images.Substituted.TheVariants.{Whole}
use Rattle.qs_assert.specs.Images.{term_image, cond_image, assertion_image}
use Rattle.qs_assert.specs.Simultaneous.{or_itself, terms_for, first_without, unless_missing, substituted}
use Rattle.qs_assert.specs.Trees.{TermTree, CondTree, AssertionTree}
use Rattle.qs_assert.specs.Values.{State, term_value, holds, value}
use Rattle.qs_assert.specs.Variables.{term_variables, cond_variables, variables}
use Rattle.qs_assert.specs.Laws.{HaveNumbers, HaveImages, ImagesGiveValues, PartsAreOfTheirVariables}
use Rattle.qs_assert.proofs.Agreement.{term_agrees, cond_agrees, value_agrees}
use Rattle.qs_assert.proofs.VariableLaws.{AgreeOn, agree_where_mentioned, term_same, cond_same, value_same}

-- a variable with an image
here : (m : Var → Option TermTree) (x : Var) (o : Option TermTree) (s : State) (at : Var → ℤ) (others : Option Var) → HaveNumbers m s at → m x ≡ o → (if is_none o then Some x else others) ≡ None → (term_value (or_itself o x) s ≡ at x) × (others ≡ None)
here m x (Some t) s at others g e h = (g x t e, h)
here m x None s at others g e h = cc

images_agree : (m : Var → Option TermTree) (xs : List Var) (s : State) (at : Var → ℤ) → HaveNumbers m s at → HaveImages m xs → AgreeOn xs (λ x. term_value (terms_for m x) s) at
images_agree m [] s at g h = tt
images_agree m (x ∷ xs) s at g h =
    let k = here m x (m x) s at (find (λ y. is_none (m y)) xs) g refl h in (k.0, images_agree m xs s at g k.1)

moved_term : (m : Var → Option TermTree) (t : TermTree) (s : State) (at : Var → ℤ) → HaveNumbers m s at → HaveImages m (term_variables t) → term_value (term_image (terms_for m) t) s ≡ term_value t (record s { at = at })
moved_term m t s at g h =
    term_agrees (terms_for m) t s ∙ term_same t s (λ x. term_value (terms_for m x) s) at (images_agree m (term_variables t) s at g h)

moved_cond : (m : Var → Option TermTree) (c : CondTree) (s : State) (at : Var → ℤ) → HaveNumbers m s at → HaveImages m (cond_variables c) → holds (cond_image (terms_for m) c) s ≡ holds c (record s { at = at })
moved_cond m c s at g h =
    cond_agrees (terms_for m) c s ∙ cond_same c s (λ x. term_value (terms_for m x) s) at (images_agree m (cond_variables c) s at g h)

-- what a substitution answers, if no image is missing
whole : (o : Option Var) (a b : AssertionTree) → unless_missing o a ≡ Whole b → (o ≡ None) × (b ≡ a)
whole None a b h = (refl, cc)
whole (Some x) a b h = cc

moved_assertion : (m : Var → Option TermTree) (a b : AssertionTree) (s : State) (at : Var → ℤ) → HaveNumbers m s at → substituted m a ≡ Whole b → value b s ≡ value a (record s { at = at })
moved_assertion m a b s at g h =
    let w = whole (first_without m a) (assertion_image (terms_for m) a) b h in
    ap (λ c. value c s) w.1
    ∙ (value_agrees (terms_for m) a s ∙ value_same a s (λ x. term_value (terms_for m x) s) at (images_agree m (variables a) s at g w.0))

pub images_give_values : ImagesGiveValues
images_give_values = record { terms = moved_term; conditions = moved_cond; assertions = moved_assertion }

pub parts_of_their_variables : PartsAreOfTheirVariables
parts_of_their_variables = record {
  terms = λ t s f g h. term_same t s f g (agree_where_mentioned (term_variables t) f g h);
  conditions = λ c s f g h. cond_same c s f g (agree_where_mentioned (cond_variables c) f g h);
}
