use Rattle.std.proofs.Common.{inl, sym, ◌∙◌}
use Rattle.qs_prooftext.specs.CertHeads.{cert_shape, head_view}
use Rattle.qs_prooftext_meaning.specs.Contexts.{setting_of}
use Rattle.qs_prooftext_meaning.specs.Kinds.{a_certificate}
use Rattle.qs_prooftext.proofs.CertLaws.{rule_fails, rule_has, rule_stops}
use Rattle.qs_prooftext.proofs.HeadLaws.{head_passed}
use Rattle.qs_prooftext.proofs.certificates.of_rule.Goals as goal

pub returns-then-not-rule_takes : goal.returns-then-not-rule_takes
returns-then-not-rule_takes c = λ parts p.
    inl (rule_fails (setting_of c.args.context) c.args.headed.at c.args.headed.behind c.args.rule parts p.counts (sym c.rule_takes.ensures ∙ c.if-not-rule_takes.true))

pub returns-in_err-made : goal.returns-in_err-made
returns-in_err-made c = λ parts p.
    head_passed a_certificate cert_shape head_view (setting_of c.args.context) _ parts c.from_residual.result c.in_err-made.field-0.0 c.from_residual.ensures
    (rule_stops (setting_of c.args.context) c.args.headed.at c.args.headed.behind c.args.rule parts c.in_err-made.field-0.0 p.counts (sym c.rule_takes.ensures ∙ c.if-not-rule_takes.false) (c.in_err-made.ensures parts p.stand))

pub returns : goal.returns
returns c = λ parts p.
    rule_has (setting_of c.args.context) c.args.headed.at c.args.headed.behind c.rule_leaves.result c.args.rule parts (head_view c.in_ok-made.made) p.counts c.rule_leaves.ensures (sym c.rule_takes.ensures ∙ c.if-not-rule_takes.false) (c.in_ok-made.ensures parts p.stand)
