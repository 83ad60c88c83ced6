use Rattle.qs_prooftext_assertions.proofs.CombinationLaws.{once_gives, twice_gives}
use Rattle.qs_prooftext_assertions.proofs.combinations.read_item.Goals as goal

pub returns-then-count-eq2 : goal.returns-then-count-eq2
returns-then-count-eq2 c = λ s g h.
    let p = c.in-List.ensures s h in
    once_gives g c.args.text.now s c.in-List.at c.in-List.count c.in-List.parts.now c.once.result p c.if-count-eq2.true (c.once.ensures p.parts g p.stand)

pub returns-then-count-eq3 : goal.returns-then-count-eq3
returns-then-count-eq3 c = λ s g h.
    let p = c.in-List.ensures s h in
    twice_gives g c.args.text.now s c.in-List.at c.in-List.count c.in-List.parts.now c.twice.result p c.if-count-eq3.true (c.twice.ensures p.parts g p.stand)
