use Rattle.std.proofs.Common.{[], ◌∷◌, ap}
use Rattle.qs_core.specs.UnitTrees.{unit_tree}
use Rattle.qs_prooftext_meaning.specs.Writing.{define_form, forms_of}
use Rattle.qs_prooftext_writing.proofs.LayLaws.{define_by, one_form}
use Rattle.qs_prooftext_writing.proofs.file_text.write_define.Goals as goal

pub returns : goal.returns
returns c =
    let d = c.args.define.now in
    let g = define_form (unit_tree c.args.unit.now) d in
    c.lay.ensures (forms_of (g ∷ []))
    (one_form c.deref-2.result.now c.put_define.new.out.items c.new-tokens.result.items (define_by d c.deref.result.now) g
    c.deref-2.ensures.value c.in_ok-put_define.ensures c.new-tokens.ensures.items (ap (define_by d) c.deref.ensures.value))
