-- What replaces the variables of an assertion.
use Rattle.std.specs.Prelude.{◌&&◌, not, is_none, ℕ, Bool, List, Option, Some}
use Rattle.std.specs.List.{find}
use Rattle.qs_assert.specs.declared.variable.Var.{Var}
use Rattle.qs_assert.specs.Images.{assertion_image}
use Rattle.qs_assert.specs.Simultaneous.{terms_for}
use Rattle.qs_assert.specs.Trees.{TermTree, AssertionTree}
use Rattle.qs_core.specs.TreeOf.{core_exprs, function_tree}
use Rattle.qs_core.specs.declared.expressions.CoreExpr.{CoreExpr}
use Rattle.qs_core.specs.declared.units.CoreFunction.{CoreFunction}
use Rattle.qs_triples.specs.declared.replacements.Replacement.{Replacement}
use Rattle.qs_triples.specs.declared.replacements.Replacement.TheVariants.{BeforeCall, BehindCall, AsOld, AsPlain}
use Rattle.qs_triples.specs.Mentions.{pre_images, post_images, is_result, as_old, as_plain}

abbrev pub image : Replacement → Var → Option TermTree
image (BeforeCall g arguments) x = pre_images (function_tree g.now) (core_exprs arguments.now) x
image (BehindCall g destination arguments) x = post_images (function_tree g.now) destination (core_exprs arguments.now) x
image AsOld x = Some (as_old x)
image AsPlain x = Some (as_plain x)

abbrev pub replaced : Replacement → AssertionTree → AssertionTree
replaced r a = assertion_image (terms_for (image r)) a

-- the variable has no image; the result may be left out
abbrev pub is_missing : Replacement → (but_result : Bool) → Var → Bool
is_missing r but_result x = not (but_result && is_result x.kind) && is_none (image r x)

abbrev pub first_missing : Replacement → (but_result : Bool) → List Var → Option Var
first_missing r but_result xs = find (is_missing r but_result) xs

-- ---- of the code's values

-- what stands for the variables of a precondition and of a postcondition of g at a call of it
abbrev pub images_before : CoreFunction → List CoreExpr → Var → Option TermTree
images_before g arguments x = pre_images (function_tree g) (core_exprs arguments) x

abbrev pub images_behind : CoreFunction → (destination : Option ℕ) → List CoreExpr → Var → Option TermTree
images_behind g destination arguments x = post_images (function_tree g) destination (core_exprs arguments) x

-- the terms that are put for variables
abbrev pub terms_in : Replacement → Var → TermTree
terms_in r x = terms_for (image r) x
