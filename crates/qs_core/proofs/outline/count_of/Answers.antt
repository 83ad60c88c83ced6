use Rattle.std.proofs.Common.{sym}
use Rattle.qs_core.proofs.OutlineLaws.{count_of_stmts}
use Rattle.qs_core.proofs.outline.count_of.Goals as goal

pub returns : goal.returns
returns c = sym (count_of_stmts c.args.parts.now)
