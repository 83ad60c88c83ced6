use Rattle.std.proofs.Common.{ap, take, ◌∙◌}
use Rattle.qs_lexer.specs.Literals.{valued}
use Rattle.qs_lexer.specs.Numbers.{value_of}
use Rattle.qs_lexer.proofs.literals.octal_escape.Goals as goal

pub returns : goal.returns
returns c = c.valued.ensures ∙ ap (λ n. valued (value_of 8 (take n c.args.bytes.now))) c.octal_count-count.ensures.count
