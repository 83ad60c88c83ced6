use Rattle.qs_sexpr.proofs.ReadWritable.{read_is_writable}
use Rattle.qs_sexpr.proofs.laws.read_is_writable.Goals as goal

pub returns : goal.returns
returns c = read_is_writable
