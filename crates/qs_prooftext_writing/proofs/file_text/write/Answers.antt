use Rattle.std.proofs.Common.{◌++◌, List, ℕ, map, sym, ap, ◌∙◌, subst}
use Rattle.qs_assert.specs.declared.define.Define.{Define}
use Rattle.qs_core.specs.UnitTrees.{unit_tree}
use Rattle.qs_sexpr.specs.Layout.{lay_all}
use Rattle.qs_triples.specs.TreeOf.{entry_tree, proofs_tree}
use Rattle.qs_triples.specs.declared.derivation.FunctionProof.{FunctionProof}
use Rattle.qs_prooftext_meaning.specs.Reading.{Reading}
use Rattle.qs_prooftext_meaning.specs.Writing.{define_form, entry_form, forms_of}
use Rattle.qs_prooftext_writing.proofs.LayLaws.{both_laid}
use Rattle.qs_prooftext_meaning.proofs.Readings.{written_reads}
use Rattle.qs_prooftext_writing.proofs.file_text.write.Goals as goal

pub returns-clause-laid : goal.returns-clause-laid
returns-clause-laid c =
    let u = unit_tree c.args.unit.now in
    let p = proofs_tree c.args.proofs.now in
    both_laid c.write_entries.new.text.items c.write_defines.new.text.items c.new-text.result.items (map (define_form u) p.defines) (map (entry_form u) p.functions)
    (c.in_ok-write_entries.ensures ∙ ap (λ (es : List FunctionProof). c.write_defines.new.text.items ++ lay_all (forms_of (map (entry_form u) (map entry_tree es)))) c.deref-2.ensures.value)
    (c.in_ok-write_defines.ensures ∙ ap (λ (ds : List Define). c.new-text.result.items ++ lay_all (forms_of (map (define_form u) ds))) c.deref.ensures.value)
    c.new-text.ensures.items

pub returns-clause-reads : goal.returns-clause-reads
returns-clause-reads c =
    let u = unit_tree c.args.unit.now in
    let p = proofs_tree c.args.proofs.now in
    λ writable. subst (λ (bs : List ℕ). Reading u bs p) (sym (returns-clause-laid c)) (written_reads u p c.args.unit.now.fits c.short_numbers.ensures writable)
