use Rattle.std.proofs.Common.{ap, ◌∙◌, sym, length, List}
use Rattle.std.proofs.lemmas.List.{length-reverse}
use Rattle.qs_sexpr.specs.declared.reader.OpenList.{OpenList}
use Rattle.qs_sexpr.proofs.NodeLaws.{length-opens}
use Rattle.qs_sexpr.proofs.reader.Reader.depth.Goals as goal

pub returns : goal.returns
returns c = λ outer done h.
    (c.len.ensures ∙ c.args.self.now.lists.ok.0) ∙ (sym (length-reverse c.args.self.now.lists.items) ∙ (ap (λ (xs : List OpenList). length xs) h.lists_are ∙ length-opens outer))
