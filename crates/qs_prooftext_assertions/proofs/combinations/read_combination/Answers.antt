use Rattle.qs_prooftext_assertions.proofs.CombinationLaws.{combination_gives}
use Rattle.qs_prooftext_assertions.proofs.combinations.read_combination.Goals as goal

pub returns-in-List : goal.returns-in-List
returns-in-List c = λ s g h.
    let p = c.in-List.ensures s h in
    combination_gives g c.args.text.now s c.in-List.field-0 c.in-List.field-1 c.in-List.parts.now c.read_items.result p (c.read_items.ensures p.parts g p.stand)
