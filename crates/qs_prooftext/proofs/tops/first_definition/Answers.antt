use Rattle.qs_prooftext_assertions.proofs.FirstLaws.{first_tree}
use Rattle.qs_prooftext.proofs.tops.first_definition.Goals as goal

pub read_definition-requires : goal.read_definition-requires
read_definition-requires c =
    let t = c.requires in
    first_tree c.args.context.text.now c.args.parts.now c.in-Some.first.now c.in-Some._others.now t.0 t.1 c.in-Some.ensures
