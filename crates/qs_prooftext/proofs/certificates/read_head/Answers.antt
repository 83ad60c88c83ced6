use Rattle.std.proofs.Common.{inl, sym, ◌∙◌}
use Rattle.qs_prooftext.specs.CertHeads.{cert_shape, head_view}
use Rattle.qs_prooftext_meaning.specs.Contexts.{setting_of}
use Rattle.qs_prooftext_meaning.specs.Kinds.{a_certificate}
use Rattle.qs_prooftext.proofs.CertLaws.{with_fact, with_none, with_rule}
use Rattle.qs_prooftext.proofs.HeadLaws.{gives_as}
use Rattle.qs_prooftext.proofs.certificates.read_head.Goals as goal

pub returns-in-Some : goal.returns-in-Some
returns-in-Some c = λ place parts p.
    gives_as a_certificate cert_shape head_view (setting_of c.args.context) _ _ parts c.of_rule.result (with_rule (setting_of c.args.context) c.args.headed.at place c.args.headed.word.now parts c.in-Some.rule (sym c.rule_word.ensures ∙ c.in-Some.is)) (c.of_rule.ensures parts p)

pub returns-in-Some-fact_word : goal.returns-in-Some-fact_word
returns-in-Some-fact_word c = λ place parts p.
    gives_as a_certificate cert_shape head_view (setting_of c.args.context) _ _ parts c.of_fact.result (with_fact (setting_of c.args.context) c.args.headed.at place c.args.headed.word.now parts c.in-Some-fact_word.word (sym c.rule_word.ensures ∙ c.in-None.is) (sym c.fact_word.ensures ∙ c.in-Some-fact_word.is)) (c.of_fact.ensures parts p)

pub returns-in-None-fact_word : goal.returns-in-None-fact_word
returns-in-None-fact_word c = λ place parts p.
    inl (with_none (setting_of c.args.context) c.args.headed.at place c.args.headed.word.now parts (sym c.rule_word.ensures ∙ c.in-None.is) (sym c.fact_word.ensures ∙ c.in-None-fact_word.is))
