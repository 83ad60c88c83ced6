use Rattle.std.proofs.Common.{ℕ, List, ap, ◌∙◌}
use Rattle.std.proofs.lemmas.Result.{err_from_is_err_and}
use Rattle.qs_core.specs.UnitTrees.{unit_tree}
use Rattle.qs_triples.specs.TreeOf.{proofs_tree}
use Rattle.qs_certify.specs.Bound.{main_bound}
use Rattle.qs_driver.specs.Made.{lacks_memory, lacks_words}
use Rattle.qs_driver.proofs.made.make_certified.Goals as goal

pub returns-in_err-image : goal.returns-in_err-image
returns-in_err-image c =
    let p = err_from_is_err_and c.from_residual.result c.from_residual.ensures.1 in
    rw p.1 (lacks_memory p.2)

pub returns-in_err-image_words : goal.returns-in_err-image_words
returns-in_err-image_words c =
    let p = err_from_is_err_and c.from_residual-in_err-image_words.result c.from_residual-in_err-image_words.ensures.1 in
    rw (p.1, p.2) (lacks_words _ (c.in_ok-image.ensures c.args.certified.now.typed c.requires) c.in_err-image_words.ensures)

pub returns-in_err-costs : goal.returns-in_err-costs
returns-in_err-costs c =
    let p = err_from_is_err_and c.from_residual-in_err-costs.result c.from_residual-in_err-costs.ensures.1 in
    rw p.1 (lacks_memory p.2)

pub returns-in_err-bound : goal.returns-in_err-bound
returns-in_err-bound c =
    let p = err_from_is_err_and c.from_residual-in_err-bound.result c.from_residual-in_err-bound.ensures.1 in
    rw p.1 (lacks_memory p.2)

pub returns : goal.returns
returns c = record {
  compiled = c.in_ok-image.ensures c.args.certified.now.typed c.requires;
  arguments = c.in_ok-image_words.ensures.arguments;
  bound_is =
      c.in_ok-bound.ensures
      ∙ ap (λ (costs : List ℕ). main_bound (unit_tree c.args.certified.now.core) (proofs_tree c.args.certified.now.certified.proofs) costs c.args.args.now)
      (c.deref.ensures.value ∙ c.in_ok-costs.ensures);
}
