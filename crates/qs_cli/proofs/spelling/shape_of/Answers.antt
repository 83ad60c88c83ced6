use Rattle.std.proofs.Common.{arith, rules}
use Rattle.std.proofs.lemmas.Str.Pattern.{strip_prefix_char}
use Rattle.qs_base.specs.Characters.{hyphen}
use Rattle.qs_cli.proofs.Shapes.{hyphen_shape, plain_shape}
use Rattle.qs_cli.proofs.spelling.shape_of.Goals as goal

pub returns-in-None-strip_prefix : goal.returns-in-None-strip_prefix
returns-in-None-strip_prefix c = hyphen_shape c.args.word.now c.in-Some.rest.now
    (rw c.in-Some.is at (strip_prefix_char hyphen c.args.word.now c.strip_prefix.result c.strip_prefix.ensures.cases (omega arith)))
    (rw c.in-None-strip_prefix.is at (strip_prefix_char hyphen c.in-Some.rest.now c.strip_prefix-in-Some.result c.strip_prefix-in-Some.ensures.cases (omega arith)))

pub returns-else-is_empty : goal.returns-else-is_empty
returns-else-is_empty c = plain_shape c.args.word.now
    (rw c.in-None.is at (strip_prefix_char hyphen c.args.word.now c.strip_prefix.result c.strip_prefix.ensures.cases (omega arith)))
    (search rules)
