use Rattle.std.proofs.Common.{◌∙◌}
use Rattle.qs_prooftext_meaning.proofs.DefinitionLaws.{key_found}
use Rattle.qs_prooftext_meaning.proofs.definitions.Definitions.has.Goals as goal

pub returns : goal.returns
returns c =
    let s = c.args.self.now in
    c.contains.ensures ∙ (key_found c.args.word.now s.names.keys ∙ s.indexed c.args.word.now)
