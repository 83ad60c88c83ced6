use Rattle.qs_entail.specs.View.{fact_tree}
use Rattle.qs_prooftext_meaning.specs.Contexts.{setting_of}
use Rattle.qs_prooftext_meaning.specs.Kinds.{a_range}
use Rattle.qs_prooftext_assertions.proofs.FirstLaws.{first_gives}
use Rattle.qs_prooftext_assertions.proofs.facts.first_range.Goals as goal

pub returns-in-Some : goal.returns-in-Some
returns-in-Some c = λ ss h.
    first_gives (setting_of c.args.context) a_range fact_tree c.args.context.text.now c.args.parts.now c.in-Some.first.now c.in-Some._others.now ss c.read_range.result h c.in-Some.ensures c.read_range.ensures
