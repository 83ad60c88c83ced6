use Rattle.qs_prooftext_meaning.specs.Contexts.{setting_of}
use Rattle.qs_prooftext_meaning.specs.Kinds.{an_assertion}
use Rattle.qs_prooftext_assertions.proofs.FirstLaws.{first_gives, first_tree}
use Rattle.qs_prooftext_assertions.proofs.facts.first_assertion.Goals as goal

pub read_assertion-requires : goal.read_assertion-requires
read_assertion-requires c =
    let t = c.requires in
    first_tree c.args.context.text.now c.args.parts.now c.in-Some.first.now c.in-Some._others.now t.0 t.1 c.in-Some.ensures

pub returns-in-Some : goal.returns-in-Some
returns-in-Some c = λ ss h.
    first_gives (setting_of c.args.context) an_assertion (λ a. a) c.args.context.text.now c.args.parts.now c.in-Some.first.now c.in-Some._others.now ss c.read_assertion.result h c.in-Some.ensures c.read_assertion.ensures
