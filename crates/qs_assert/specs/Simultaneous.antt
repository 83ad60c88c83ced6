-- Variables are replaced by the terms of a list, all at once.
use Rattle.std.specs.Prelude.{◌≡◌, if◌then◌else◌, List, [], ◌∷◌, is_none, Option, Some, None}
use Rattle.std.specs.List.{find}
use Rattle.qs_assert.specs.declared.variable.Var.{Var}
use Rattle.qs_assert.specs.declared.images.Image.{Image}
use Rattle.qs_assert.specs.declared.images.Others.{Others}
use Rattle.qs_assert.specs.declared.images.Others.TheVariants.{Stay, AreMissing}
use Rattle.qs_assert.specs.declared.images.Substituted.{Substituted}
use Rattle.qs_assert.specs.declared.images.Substituted.TheVariants.{Whole, Missing}
use Rattle.qs_assert.specs.Images.{Images, assertion_image}
use Rattle.qs_assert.specs.Substitution.{same_variable}
use Rattle.qs_assert.specs.Trees.{TermTree, variable, AssertionTree}
use Rattle.qs_assert.specs.Variables.{variables}

-- the term of the first image of a variable
abbrev pub image_in : List Image → Var → Option TermTree
image_in [] x = None
image_in (i ∷ others) x = if same_variable x i.variable then Some i.term else image_in others x

abbrev pub HasNoImage : List Image → Var → Type 0
HasNoImage list x = image_in list x ≡ None

abbrev pub HasImage : List Image → Var → TermTree → Type 0
HasImage list x t = image_in list x ≡ Some t

-- what becomes of a variable without an image
abbrev pub or_others : Option TermTree → Others → Var → Option TermTree
or_others (Some t) others x = Some t
or_others None Stay x = Some (variable x)
or_others None AreMissing x = None

-- a term for each variable, or nothing
abbrev pub images : List Image → Others → Var → Option TermTree
images list others x = or_others (image_in list x) others x

abbrev pub or_itself : Option TermTree → Var → TermTree
or_itself (Some t) x = t
or_itself None x = variable x

-- where each variable that is mentioned has an image
abbrev pub terms_for : (Var → Option TermTree) → Images
terms_for m x = or_itself (m x) x

-- the image of each variable in a list, where the other variables stay
abbrev pub images_in : List Image → Images
images_in list = terms_for (image_in list)

-- the first of these variables that has no image
abbrev pub first_lacking : (Var → Option TermTree) → List Var → Option Var
first_lacking m xs = find (λ x. is_none (m x)) xs

-- the first variable without an image, in the order of the text
abbrev pub first_without : (Var → Option TermTree) → AssertionTree → Option Var
first_without m a = first_lacking m (variables a)

abbrev pub unless_missing : Option Var → AssertionTree → Substituted
unless_missing (Some x) a = Missing x
unless_missing None a = Whole a

-- the assertion with all images, or the first variable without one
abbrev pub substituted : (Var → Option TermTree) → AssertionTree → Substituted
substituted m a = unless_missing (first_without m a) (assertion_image (terms_for m) a)
