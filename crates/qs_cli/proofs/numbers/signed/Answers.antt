use Rattle.std.proofs.Common.{◌∙◌, arith, rules, sym}
use Rattle.std.proofs.lemmas.Str.Pattern.{strip_prefix_char}
use Rattle.qs_base.specs.Characters.{hyphen}
use Rattle.qs_cli.proofs.Digits.{signed_none}
use Rattle.qs_cli.proofs.numbers.signed.Goals as goal

pub returns-in_err-n-in-None : goal.returns-in_err-n-in-None
returns-in_err-n-in-None c =
    c.from_residual-in_err-n-in-None.ensures
    ∙ sym (signed_none c.args.text.now
    (rw c.in-None.is at (strip_prefix_char hyphen c.args.text.now c.strip_prefix.result c.strip_prefix.ensures.cases (omega arith)))
    (search rules))
