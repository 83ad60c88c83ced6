use Rattle.qs_prooftext_meaning.specs.Kinds.{an_index}
use Rattle.qs_prooftext_assertions.proofs.FirstLaws.{first_gives}
use Rattle.qs_prooftext_assertions.proofs.combinations.first_index.Goals as goal

pub returns-in-Some : goal.returns-in-Some
returns-in-Some c = λ ss g h.
    first_gives g an_index (λ n. n) c.args.text.now c.args.parts.now c.in-Some.first.now c.in-Some._others.now ss c.index.result h c.in-Some.ensures (λ s k. c.index.ensures c.args.text.now s g (c.part_of.ensures s k))
