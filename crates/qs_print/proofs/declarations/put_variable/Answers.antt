use Rattle.qs_print.proofs.Spaces.{last}
use Rattle.qs_print.proofs.declarations.put_variable.Goals as goal

pub returns : goal.returns
returns c = last _ _ c.put_setting.result c.in_ok-put_declarator.ensures c.put_setting.ensures
