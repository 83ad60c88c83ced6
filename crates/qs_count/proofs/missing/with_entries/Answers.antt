use Rattle.std.proofs.Common.{◌≡◌, ◌+◌, ◌∷◌, ℕ, List, Option, drop, sym, ap, ◌∙◌, arith}
use Rattle.std.proofs.lemmas.List.{drop_more}
use Rattle.qs_triples.specs.TreeOf.{proofs_tree}
use Rattle.qs_triples.specs.declared.derivation.FunctionProof.{FunctionProof}
use Rattle.qs_count.specs.Missing.{number_of, with_functions, called_by_entries, callees_in}
use Rattle.qs_count.proofs.MissingLaws.{with_functions-append}
use Rattle.qs_count.proofs.missing.with_entries.Goals as goal

pub loop-e-preserved : goal.loop-e-preserved
loop-e-preserved c =
    let e = c.e-item.result in
    let p = proofs_tree c.args.proofs.now in
    let rest = drop (c.loop-e.e-index + 1) c.args.entries.now in
    let split : drop c.loop-e.e-index c.args.entries.now ≡ e ∷ rest =
    drop_more c.args.entries.now c.loop-e.e-index e (omega arith) ∙ ap (λ (x : FunctionProof). x ∷ rest) (sym c.e-item.is) in
    ap (λ (found : Option ℕ). with_functions p found (called_by_entries c.args.unit.now rest)) c.with_body-first.ensures
    ∙ sym (with_functions-append p (number_of c.loop-e.first) (callees_in c.args.unit.now e.function.0) (called_by_entries c.args.unit.now rest))
    ∙ sym (ap (λ (l : List FunctionProof). with_functions p (number_of c.loop-e.first) (called_by_entries c.args.unit.now l)) split)
    ∙ c.loop-e.invariant
