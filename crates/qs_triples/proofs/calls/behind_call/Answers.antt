use Rattle.std.proofs.Common.{◌≡◌, ℕ, List, Option, Some, None, sym, ap, ◌∙◌, subst}
use Rattle.std.specs.Prelude.{true, false, option_map}
use Rattle.std.proofs.lemmas.Result.{err_from_is_err_and}
use Rattle.qs_assert.specs.declared.variable.Var.{Var}
use Rattle.qs_assert.specs.Simultaneous.{first_without}
use Rattle.qs_assert.specs.Trees.{AssertionTree}
use Rattle.qs_assert.specs.Variables.{variables}
use Rattle.qs_triples.specs.Mentions.{plain_variable, first_without_argument}
use Rattle.qs_triples.specs.Replacements.{image, first_missing}
use Rattle.qs_triples.specs.Rules.{Answer, unless_of}
use Rattle.qs_triples.specs.Told.{FailsAs}
use Rattle.qs_triples.specs.declared.failure.Failure.{Failure}
use Rattle.qs_triples.specs.declared.replacements.Replacement.{Replacement}
use Rattle.qs_triples.proofs.calls.behind_call.Goals as goal

-- all arguments have terms, and the result has none
result_fails :
    (failure : Failure) (g : ℕ) (r : Replacement) (a : AssertionTree) (xs ys : List Var) → xs ≡ variables a → ys ≡ variables a
    → option_map plain_variable (first_missing r true xs) ≡ None → ((next : Answer) → FailsAs failure (unless_of (Some g) (first_missing r false ys) next))
    → (next : Answer) → FailsAs failure (unless_of (Some g) (option_map plain_variable (first_without_argument (image r) a)) (unless_of (Some g) (first_without (image r) a) next))
result_fails failure g r a xs ys xs_are ys_are none h next =
    let there : option_map plain_variable (first_without_argument (image r) a) ≡ None =
    ap (λ (l : List Var). option_map plain_variable (first_missing r true l)) (sym xs_are) ∙ none in
    let fails : FailsAs failure (unless_of (Some g) (first_without (image r) a) next) =
    subst (λ (l : List Var). FailsAs failure (unless_of (Some g) (first_missing r false l) next)) ys_are (h next) in
    subst (λ (o : Option Var). FailsAs failure (unless_of (Some g) o (unless_of (Some g) (first_without (image r) a) next))) (sym there) fails

pub returns-in_err-missing : goal.returns-in_err-missing
returns-in_err-missing c =
    let p = err_from_is_err_and c.from_residual-in_err-missing.result c.from_residual-in_err-missing.ensures.1 in
    rw (p.1, p.2) (result_fails c.in_err-missing.field-0.0 c.args.g.0 c.args.r c.args.a.now c.deref.result.now c.deref-2.result.now (c.deref.ensures.value ∙ c.in_ok-xs.ensures) (c.deref-2.ensures.value ∙ c.in_ok-xs.ensures) c.in_ok-missing_argument.ensures c.in_err-missing.ensures)
