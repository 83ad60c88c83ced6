use Rattle.qs_prooftext_meaning.specs.Contexts.{setting_of}
use Rattle.qs_prooftext_meaning.specs.Kinds.{a_name}
use Rattle.qs_prooftext_assertions.proofs.FirstLaws.{first_gives}
use Rattle.qs_prooftext_assertions.proofs.facts.first_name.Goals as goal

pub returns-in-Some : goal.returns-in-Some
returns-in-Some c = λ ss h.
    first_gives (setting_of c.args.context) a_name (λ n. n) c.args.context.text.now c.args.parts.now c.in-Some.first.now c.in-Some._others.now ss c.name.result h c.in-Some.ensures (λ s k. c.name.ensures c.args.context.text.now s (setting_of c.args.context) (c.part_of.ensures s k))
