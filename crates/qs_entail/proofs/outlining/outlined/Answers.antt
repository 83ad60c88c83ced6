use Rattle.std.proofs.Common.{◌+◌, ◌++◌, ℕ, List, refl, ap, ◌∙◌}
use Rattle.qs_assert.specs.Trees.{CondTree}
use Rattle.qs_entail.specs.Flattening.{flat_list, polynomial_counts}
use Rattle.qs_entail.proofs.OutliningLaws.{outlined_is}
use Rattle.qs_entail.proofs.outlining.outlined.Goals as goal

pub returns : goal.returns
returns c =
    let list = c.in_ok-put_flat_list.ensures ∙ ap (λ (l : List CondTree). l ++ flat_list c.args.hypotheses.now) c.new-conditions.ensures.items in
    let count = ap (λ (n : ℕ). 1 + n) (c.count_polynomials-count.ensures.value ∙ ap polynomial_counts c.deref.ensures.value) in
    outlined_is c.args.hypotheses.now c.put_flat_list.new.list.items _ list refl count
