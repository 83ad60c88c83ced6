use Rattle.std.proofs.Common.{◌≡◌, ◌∙◌, [], drop, ap, subst, arith}
use Rattle.qs_entail.specs.Answers.{Follows}
use Rattle.qs_entail.specs.Building as building
use Rattle.qs_entail.specs.Stacks.{attempt_of, first, term_steps}
use Rattle.qs_entail.proofs.TreeSteps.{term_read}
use Rattle.qs_entail.proofs.building.term_polynomial.Goals as goal

pub returns : goal.returns
returns c =
    let stopped = c.loop-at-test.false in
    let at_start : c.loop-at.at ≡ 0 = omega arith in
    let whole = ap (λ i. term_steps (drop i c.nodes-nodes.result.now) []) at_start ∙ ap (λ xs. term_steps xs []) c.nodes-nodes.ensures ∙ term_read c.args.t.now [] in
    let e : attempt_of c.take_first.result ≡ building.term_polynomial c.args.t.now = c.take_first.ensures.value ∙ ap first (c.loop-at.invariant.values ∙ whole) in
    subst (λ a. Follows c.told.result a) e c.told.ensures
