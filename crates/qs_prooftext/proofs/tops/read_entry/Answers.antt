use Rattle.qs_prooftext_assertions.specs.Firsts.{tail}
use Rattle.qs_prooftext.specs.Tops.{parts_view}
use Rattle.qs_prooftext_assertions.proofs.AssertionLaws.{passed_out}
use Rattle.qs_prooftext.proofs.TopLaws.{body_stops}
use Rattle.qs_prooftext.proofs.tops.read_entry.Goals as goal

pub returns-in_err-body-clause-parts : goal.returns-in_err-body-clause-parts
returns-in_err-body-clause-parts c = λ ss h.
    let k = c.after_first-behind_pre.ensures.stand c.args.context.text.now ss h in
    let m = c.after_first-behind_post.ensures.stand c.args.context.text.now (tail ss) k in
    let n = c.after_first.ensures.stand c.args.context.text.now (tail (tail ss)) m in
    passed_out parts_view c.from_residual-in_err-body.result c.in_err-body.field-0.0 _ c.from_residual-in_err-body.ensures
    (body_stops _ _ _ _ _ _ _ c.in_err-body.field-0.0 (c.in_ok-pre.ensures ss h) (c.in_ok-post.ensures (tail ss) k) (c.in_ok-entry.ensures (tail (tail ss)) m) (c.in_err-body.ensures (tail (tail (tail ss))) n))
