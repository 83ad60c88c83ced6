use Rattle.std.proofs.Common.{inl, sym, ◌∙◌}
use Rattle.qs_prooftext_meaning.specs.Contexts.{setting_of}
use Rattle.qs_prooftext.specs.DerivationHeads.{derivation_head, derivation_shape}
use Rattle.qs_prooftext_meaning.specs.Kinds.{a_derivation}
use Rattle.qs_prooftext.proofs.DerivationLaws.{with_none, with_statement}
use Rattle.qs_prooftext.proofs.HeadLaws.{gives_as}
use Rattle.qs_prooftext.proofs.derivations.read_head.Goals as goal

pub returns-in-Some : goal.returns-in-Some
returns-in-Some c = λ place parts p.
    gives_as a_derivation derivation_shape derivation_head (setting_of c.args.context) _ _ parts c.of_statement.result (with_statement (setting_of c.args.context) c.args.headed.at place c.args.headed.word.now parts c.in-Some.statement (sym c.statement_word.ensures ∙ c.in-Some.is)) (c.of_statement.ensures parts p)

pub returns-in-None : goal.returns-in-None
returns-in-None c = λ place parts p.
    inl (with_none (setting_of c.args.context) c.args.headed.at place c.args.headed.word.now parts (sym c.statement_word.ensures ∙ c.in-None.is))
