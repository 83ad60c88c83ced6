use Rattle.std.proofs.Common.{◌≡◌, ap, arith, sym, ◌∙◌}
use Rattle.qs_lexer.specs.Literals.{character_with, element_length}
use Rattle.qs_lexer.proofs.LiteralElements.{one_element, several_elements}
use Rattle.qs_lexer.proofs.literals.character_in.Goals as goal

pub returns-then-element_length-body : goal.returns-then-element_length-body
returns-then-element_length-body c =
    let e : c.element_length.result ≡ element_length c.args.body.now = c.element_length.ensures.count in
    sym (several_elements c.args.body.now (omega (arith, e, c.if-element_length-body.true)))

pub returns-else-element_length-body : goal.returns-else-element_length-body
returns-else-element_length-body c =
    let e : c.element_length.result ≡ element_length c.args.body.now = c.element_length.ensures.count in
    c.character_with.ensures ∙ ap character_with c.first_element.ensures
    ∙ sym (one_element c.args.body.now (omega (arith, c.in-len1-up.len_at_least)) (omega (arith, e, c.if-element_length-body.false)))
