use Rattle.std.proofs.Common.{arith, ◌≤◌, [], List, length, map, sym, ap, ◌∙◌}
use Rattle.std.proofs.lemmas.List.{append-nil, drop_all}
use Rattle.qs_sexpr.specs.Marks.{Mark, laid_marks, mark_of}
use Rattle.qs_sexpr.specs.Pages.{text_with}
use Rattle.qs_sexpr.specs.declared.layout.Layer.TheVariants.{Top}
use Rattle.qs_sexpr.proofs.MarkLaws.{all_are_laid}
use Rattle.qs_sexpr.proofs.writing.write.Goals as goal

pub returns : goal.returns
returns c = λ forms is.
    let ends = c.loop-token-test.false in
    let all : length c.args.tokens.now ≤ c.loop-token.token-index = omega (arith, ends) in
    let page = c.loop-token.page in
    sym (append-nil page.text.items)
    ∙ (ap (λ (ms : List Mark). text_with page ms) (sym (ap (map mark_of) (drop_all c.loop-token.token-index c.args.tokens.now all)))
    ∙ (c.loop-token.invariant.same ∙ (ap (λ (ms : List Mark). laid_marks ms Top []) is ∙ all_are_laid forms)))
