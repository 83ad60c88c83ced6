use Rattle.qs_prooftext.proofs.TopLaws.{first_only_gives}
use Rattle.qs_prooftext.proofs.tops.first_inner.Goals as goal

pub returns-in-Some : goal.returns-in-Some
returns-in-Some c = λ ss h.
    first_only_gives c.args.text.now c.args.head.now c.args.parts.now c.in-Some.first.now c.in-Some._others.now ss c.inner.result h c.in-Some.ensures c.inner.ensures
