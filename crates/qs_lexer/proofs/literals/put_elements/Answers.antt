use Rattle.std.proofs.Common.{◌++◌, ◌∷◌, [], arith, sym, ap, ◌∙◌, drop, ◌+◌}
use Rattle.std.proofs.lemmas.List.{append_assoc}
use Rattle.qs_lexer.specs.Literals.{byte_values, elements_behind}
use Rattle.qs_lexer.proofs.LiteralElements.{values_go_on}
use Rattle.qs_lexer.proofs.literals.put_elements.Goals as goal

pub loop-at-preserved : goal.loop-at-preserved
loop-at-preserved c =
    let left = byte_values (elements_behind 0 (drop (c.loop-at.at + c.element_length-at.result) c.args.body.now)) in (
      omega (arith, c.element_length-at.ensures.within, c.split_at.ensures.back_len, c.loop-at-test.true),
      ap (λ items. items ++ left) (c.in_ok-put_element.ensures ∙ ap (λ first. c.loop-at.into.items ++ byte_values (first ∷ [])) c.first_element.ensures)
          ∙ append_assoc _ _ left
          ∙ ap (λ items. c.loop-at.into.items ++ items) (sym (values_go_on c.args.body.now c.split_at.result.1.now c.loop-at.at c.element_length-at.result c.loop-at-test.true c.split_at.ensures.back c.element_length-at.ensures.count))
          ∙ c.loop-at.invariant.1,
    )
