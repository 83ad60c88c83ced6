use Rattle.std.proofs.Common.{inl, sym, ◌∙◌}
use Rattle.qs_prooftext.specs.DerivationHeads.{derivation_head, derivation_shape}
use Rattle.qs_prooftext_meaning.specs.Contexts.{setting_of}
use Rattle.qs_prooftext_meaning.specs.Kinds.{a_derivation}
use Rattle.qs_prooftext.proofs.DerivationLaws.{statement_fails, statement_has, statement_stops}
use Rattle.qs_prooftext.proofs.HeadLaws.{head_passed}
use Rattle.qs_prooftext.proofs.derivations.of_statement.Goals as goal

pub returns-then-not-statement_takes : goal.returns-then-not-statement_takes
returns-then-not-statement_takes c = λ parts p.
    inl (statement_fails (setting_of c.args.context) c.args.headed.at c.args.headed.behind c.args.statement parts p.counts (sym c.statement_takes.ensures ∙ c.if-not-statement_takes.true))

pub returns-in_err-made : goal.returns-in_err-made
returns-in_err-made c = λ parts p.
    head_passed a_derivation derivation_shape derivation_head (setting_of c.args.context) _ parts c.from_residual.result c.in_err-made.field-0.0 c.from_residual.ensures
    (statement_stops (setting_of c.args.context) c.args.headed.at c.args.headed.behind c.args.statement parts c.in_err-made.field-0.0 p.counts (sym c.statement_takes.ensures ∙ c.if-not-statement_takes.false) (c.in_err-made.ensures parts p.stand))

pub returns : goal.returns
returns c = λ parts p.
    statement_has (setting_of c.args.context) c.args.headed.at c.args.headed.behind c.statement_leaves.result c.args.statement parts (derivation_head c.in_ok-made.made) p.counts c.statement_leaves.ensures (sym c.statement_takes.ensures ∙ c.if-not-statement_takes.false) (c.in_ok-made.ensures parts p.stand)
