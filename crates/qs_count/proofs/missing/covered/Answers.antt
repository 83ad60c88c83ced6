use Rattle.std.proofs.Common.{ℕ, List, Option, ap, ◌∙◌}
use Rattle.qs_core.specs.UnitTrees.{unit_tree}
use Rattle.qs_triples.specs.TreeOf.{proofs_tree}
use Rattle.qs_triples.specs.declared.derivation.FunctionProof.{FunctionProof}
use Rattle.qs_count.specs.Missing.{number_of, with_functions, called_by_entries, called_in}
use Rattle.qs_count.proofs.MissingLaws.{tells_missing}
use Rattle.qs_count.proofs.missing.covered.Goals as goal

pub returns : goal.returns
returns c =
    let p = proofs_tree c.args.proofs.now in
    tells_missing c.args.unit.now c.args.proofs.now c.with_entries.result
    (c.with_entries.ensures
    ∙ ap (λ (es : List FunctionProof). with_functions p (number_of c.with_function-first.result) (called_by_entries c.args.unit.now es)) c.deref.ensures.value
    ∙ ap (λ (found : Option ℕ). with_functions p found (called_in (unit_tree c.args.unit.now) p.functions)) c.with_function-first.ensures)
