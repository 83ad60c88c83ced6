use Rattle.qs_prooftext_assertions.proofs.PartLaws.{head_is}
use Rattle.qs_prooftext_assertions.proofs.parts.head_of.Goals as goal

pub returns-in-Symbol : goal.returns-in-Symbol
returns-in-Symbol c = λ ss h.
    head_is c.args.text.now c.args.parts.now ss c.in_ok-first.first.now c.in_ok-first.others.now c.in-Symbol.field-0 c.in-Symbol.word.now h c.in_ok-first.ensures c.in-Symbol.ensures
