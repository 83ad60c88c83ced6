use Rattle.std.proofs.Common.{arith, sym, ◌∙◌}
use Rattle.qs_lexer.proofs.LiteralElements.{text_goes_on}
use Rattle.qs_lexer.proofs.literals.text_in.Goals as goal

pub loop-at-preserved : goal.loop-at-preserved
loop-at-preserved c = (
  omega (arith, c.element_length-at.ensures.within, c.split_at.ensures.back_len, c.loop-at-test.true),
  sym (text_goes_on c.args.body.now c.split_at.result.1.now c.loop-at.at c.element_length-at.result c.first_element-element.result c.loop-at.wide c.or_wide-wide.result
      c.loop-at-test.true c.split_at.ensures.back c.element_length-at.ensures.count c.first_element-element.ensures (sym c.is_bad.ensures ∙ c.if-is_bad.false) c.or_wide-wide.ensures)
      ∙ c.loop-at.invariant.1,
)
