use Rattle.qs_prooftext_meaning.specs.Kinds.{a_natural}
use Rattle.qs_prooftext_assertions.proofs.FirstLaws.{first_gives}
use Rattle.qs_prooftext_assertions.proofs.combinations.first_natural.Goals as goal

pub returns-in-Some : goal.returns-in-Some
returns-in-Some c = λ ss g h.
    first_gives g a_natural (λ n. n) c.args.text.now c.args.parts.now c.in-Some.first.now c.in-Some._others.now ss c.natural.result h c.in-Some.ensures (λ s k. c.natural.ensures c.args.text.now s g (c.part_of.ensures s k))
