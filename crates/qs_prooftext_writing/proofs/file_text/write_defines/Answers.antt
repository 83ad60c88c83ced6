use Rattle.std.proofs.Common.{◌≡◌, ◌+◌, ◌∷◌, ◌++◌, List, drop, map, sym, ap, ◌∙◌, arith}
use Rattle.std.proofs.lemmas.List.{drop_more}
use Rattle.qs_assert.specs.declared.define.Define.{Define}
use Rattle.qs_core.specs.UnitTrees.{unit_tree}
use Rattle.qs_sexpr.specs.Layout.{lay_all}
use Rattle.qs_prooftext_meaning.specs.Writing.{define_form, forms_of}
use Rattle.qs_prooftext_writing.proofs.LayLaws.{next_laid}
use Rattle.qs_prooftext_writing.proofs.file_text.write_defines.Goals as goal

pub loop-define-preserved : goal.loop-define-preserved
loop-define-preserved c =
    let u = unit_tree c.args.unit.now in
    let x = c.define-item.result in
    let i = c.loop-define.define-index in
    let rest = drop (i + 1) c.args.defines.now in
    let split : drop i c.args.defines.now ≡ x ∷ rest =
    drop_more c.args.defines.now i x (omega arith) ∙ ap (λ (y : Define). y ∷ rest) (sym c.define-item.is) in
    next_laid c.loop-define.text.items c.write_define.new.text.items (define_form u x) (map (define_form u) rest) c.in_ok-write_define.ensures
    (ap (λ (ys : List Define). c.loop-define.text.items ++ lay_all (forms_of (map (define_form u) ys))) (sym split) ∙ c.loop-define.invariant)
