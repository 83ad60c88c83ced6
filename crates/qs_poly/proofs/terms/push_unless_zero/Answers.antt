use Rattle.std.proofs.Common.{rules, ◌∙◌, sym}
use Rattle.std.specs.Int.{w128}
use Rattle.std.proofs.lemmas.Int.{to_z-of_z}
use mir.Val.{SFits}
use Rattle.qs_poly.proofs.Steps.{pushed, not_pushed}
use Rattle.qs_poly.proofs.terms.push_unless_zero.Goals as goal

pub returns-then-is_zero : goal.returns-then-is_zero
returns-then-is_zero c p =
    let t = c.args.term in
    let fits : SFits w128 t.coefficient = search rules in
    not_pushed c.args.terms.now.items t.coefficient t.monomial p (sym (to_z-of_z w128 t.coefficient fits) ∙ c.if-is_zero.ensures)

pub returns : goal.returns
returns c p =
    let t = c.args.term in
    let fits : SFits w128 t.coefficient = search rules in
    pushed c.args.terms.now.items c.push.new.self.items t p (λ z. c.if-is_zero.ensures (to_z-of_z w128 t.coefficient fits ∙ z)) c.in_ok-push.ensures.items
