use Rattle.std.proofs.Common.{ℕ, List, Some, sym, ap, ◌∙◌}
use Rattle.qs_core.specs.TreeOf.{function_tree}
use Rattle.qs_core.specs.UnitTrees.{unit_tree}
use Rattle.qs_triples.specs.Rules.{shape}
use Rattle.qs_triples.specs.TreeOf.{entry_tree, proofs_tree}
use Rattle.qs_triples.proofs.EntryLaws.{found_tells, not_found}
use Rattle.qs_triples.proofs.check.check_found.Goals as goal

pub returns-in-Some : goal.returns-in-Some
returns-in-Some c =
    found_tells c.check_known.result c.args.resource (unit_tree c.args.unit.now) (proofs_tree c.args.proofs.now) (entry_tree c.args.e.now) (function_tree c.in-Some.function.now) c.in-Some.ensures c.check_known.ensures

pub returns-in-None : goal.returns-in-None
returns-in-None c =
    not_found c.args.resource (unit_tree c.args.unit.now) (proofs_tree c.args.proofs.now) (entry_tree c.args.e.now) c.in-None.ensures
    ∙ ap (λ (path : List ℕ). Some (shape path)) (sym c.new.ensures.items)
