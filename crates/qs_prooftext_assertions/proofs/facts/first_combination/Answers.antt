use Rattle.std.proofs.Common.{Vec, Global}
use Rattle.qs_entail.specs.View.{items_view}
use Rattle.qs_entail.specs.declared.item.Item.{Item}
use Rattle.qs_prooftext_meaning.specs.Contexts.{setting_of}
use Rattle.qs_prooftext_meaning.specs.Kinds.{a_combination}
use Rattle.qs_prooftext_assertions.proofs.FirstLaws.{first_gives}
use Rattle.qs_prooftext_assertions.proofs.facts.first_combination.Goals as goal

pub returns-in-Some : goal.returns-in-Some
returns-in-Some c = λ ss h.
    first_gives (setting_of c.args.context) a_combination (λ (items : Vec Item Global). items_view items.items) c.args.context.text.now c.args.parts.now c.in-Some.first.now c.in-Some._others.now ss c.read_combination.result h c.in-Some.ensures (λ s k. c.read_combination.ensures s (setting_of c.args.context) k)
