use Rattle.std.proofs.Common.{◌∙◌, arith, sym}
use Rattle.qs_cli.proofs.Digits.{number_parsed, number_small}
use Rattle.qs_cli.proofs.numbers.number.Goals as goal

pub returns-then-are_digits-clause-value : goal.returns-then-are_digits-clause-value
returns-then-are_digits-clause-value c =
    c.ok.ensures.value
    ∙ number_parsed c.args.most c.args.text.now c.parse.result c.requires (omega arith) (omega arith) (sym c.are_digits.ensures ∙ c.if-are_digits.true) c.parse.ensures.value.0

pub returns-then-are_digits-clause-small : goal.returns-then-are_digits-clause-small
returns-then-are_digits-clause-small c =
    number_small c.args.most c.args.text.now c.ok.result (returns-then-are_digits-clause-value c)
