use Rattle.qs_prooftext_meaning.specs.Contexts.{setting_of}
use Rattle.qs_prooftext_meaning.specs.Kinds.{a_term}
use Rattle.qs_prooftext_assertions.proofs.FirstLaws.{first_gives, first_tree}
use Rattle.qs_prooftext_assertions.proofs.facts.first_term.Goals as goal

pub read_term-requires : goal.read_term-requires
read_term-requires c =
    let t = c.requires in
    first_tree c.args.context.text.now c.args.parts.now c.in-Some.first.now c.in-Some._others.now t.0 t.1 c.in-Some.ensures

pub returns-in-Some : goal.returns-in-Some
returns-in-Some c = λ ss h.
    first_gives (setting_of c.args.context) a_term (λ t. t) c.args.context.text.now c.args.parts.now c.in-Some.first.now c.in-Some._others.now ss c.read_term.result h c.in-Some.ensures c.read_term.ensures
