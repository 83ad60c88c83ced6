use Rattle.std.proofs.Common.{arith, rules}
use Rattle.std.proofs.lemmas.Str.Pattern.{split_once_first}
use Rattle.qs_base.specs.Characters.{equals_sign}
use Rattle.qs_cli.proofs.Shapes.{named_shape}
use Rattle.qs_cli.proofs.spelling.option_shape.Goals as goal

pub returns-else-is_empty-2 : goal.returns-else-is_empty-2
returns-else-is_empty-2 c = named_shape c.args.rest.now (rw c.in-None.is at (split_once_first equals_sign c.args.rest.now c.split_once.result c.split_once.ensures.cases (omega arith))) (search rules)
