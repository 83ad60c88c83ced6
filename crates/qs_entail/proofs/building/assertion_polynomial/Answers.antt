use Rattle.std.proofs.Common.{◌≡◌, ◌∙◌, drop, ap, subst, arith}
use Rattle.qs_entail.specs.Answers.{Follows}
use Rattle.qs_entail.specs.Building as building
use Rattle.qs_entail.specs.Stacks.{Stacks, attempt_of, first, no_attempts, node_steps}
use Rattle.qs_entail.proofs.TreeSteps.{assertion_read}
use Rattle.qs_entail.proofs.building.assertion_polynomial.Goals as goal

pub returns : goal.returns
returns c =
    let stopped = c.loop-at-test.false in
    let at_start : c.loop-at.at ≡ 0 = omega arith in
    let whole = ap (λ i. node_steps (drop i c.nodes-nodes.result.now) no_attempts) at_start ∙ ap (λ xs. node_steps xs no_attempts) c.nodes-nodes.ensures ∙ assertion_read c.args.a.now no_attempts in
    let e : attempt_of c.take_first.result ≡ building.assertion_polynomial c.args.a.now = c.take_first.ensures.value ∙ ap (λ (s : Stacks). first s.assertions) (c.loop-at.invariant.values ∙ whole) in
    subst (λ a. Follows c.told.result a) e c.told.ensures
