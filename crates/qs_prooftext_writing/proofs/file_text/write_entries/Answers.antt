use Rattle.std.proofs.Common.{◌≡◌, ◌+◌, ◌∷◌, ◌++◌, List, drop, map, sym, ap, ◌∙◌, arith}
use Rattle.std.proofs.lemmas.List.{drop_more}
use Rattle.qs_triples.specs.declared.derivation.FunctionProof.{FunctionProof}
use Rattle.qs_core.specs.UnitTrees.{unit_tree}
use Rattle.qs_sexpr.specs.Layout.{lay_all}
use Rattle.qs_triples.specs.TreeOf.{entry_tree}
use Rattle.qs_prooftext_meaning.specs.Writing.{entry_form, forms_of}
use Rattle.qs_prooftext_writing.proofs.LayLaws.{next_laid}
use Rattle.qs_prooftext_writing.proofs.file_text.write_entries.Goals as goal

pub loop-entry-preserved : goal.loop-entry-preserved
loop-entry-preserved c =
    let u = unit_tree c.args.unit.now in
    let x = c.entry-item.result in
    let i = c.loop-entry.entry-index in
    let rest = drop (i + 1) c.args.entries.now in
    let split : drop i c.args.entries.now ≡ x ∷ rest =
    drop_more c.args.entries.now i x (omega arith) ∙ ap (λ (y : FunctionProof). y ∷ rest) (sym c.entry-item.is) in
    next_laid c.loop-entry.text.items c.write_entry.new.text.items (entry_form u (entry_tree x)) (map (entry_form u) (map entry_tree rest)) c.in_ok-write_entry.ensures
    (ap (λ (ys : List FunctionProof). c.loop-entry.text.items ++ lay_all (forms_of (map (entry_form u) (map entry_tree ys)))) (sym split) ∙ c.loop-entry.invariant)
