use Rattle.std.proofs.Common.{arith, inl}
use Rattle.qs_entail.specs.View.{fact_tree}
use Rattle.qs_prooftext.specs.CertHeads.{cert_shape, head_view}
use Rattle.qs_prooftext_meaning.specs.Contexts.{setting_of}
use Rattle.qs_prooftext_meaning.specs.Kinds.{a_certificate}
use Rattle.qs_prooftext.proofs.CertLaws.{fact_fails, fact_has, fact_stops, few_leaves}
use Rattle.qs_prooftext.proofs.HeadLaws.{head_passed}
use Rattle.qs_prooftext.proofs.certificates.of_fact.Goals as goal

pub overflow_add-leaves : goal.overflow_add-leaves
overflow_add-leaves c =
    let f = few_leaves c.args.word in
    let e = c.fact_leaves-leaves.ensures in
    omega (arith, e, f)

pub returns-then-headed-leaves : goal.returns-then-headed-leaves
returns-then-headed-leaves c = λ parts p.
    inl (fact_fails (setting_of c.args.context) c.args.headed.at c.args.headed.behind c.fact_leaves-leaves.result c.args.word parts p.counts c.fact_leaves-leaves.ensures c.if-headed-leaves.true)

pub returns-in_err-made : goal.returns-in_err-made
returns-in_err-made c = λ parts p.
    head_passed a_certificate cert_shape head_view (setting_of c.args.context) _ parts c.from_residual.result c.in_err-made.field-0.0 c.from_residual.ensures
    (fact_stops (setting_of c.args.context) c.args.headed.at c.args.headed.behind c.fact_leaves-leaves.result c.args.word parts c.in_err-made.field-0.0 p.counts c.fact_leaves-leaves.ensures c.if-headed-leaves.false (c.in_err-made.ensures parts p.stand))

pub returns : goal.returns
returns c = λ parts p.
    fact_has (setting_of c.args.context) c.args.headed.at c.args.headed.behind c.fact_leaves-leaves.result c.args.word parts (fact_tree c.in_ok-made.made) p.counts c.fact_leaves-leaves.ensures c.if-headed-leaves.false (c.in_ok-made.ensures parts p.stand)
