use Rattle.qs_parser_grammar.proofs.UnitsComplete.{one_reading}
use Rattle.qs_parser.proofs.laws.one_reading.Goals as goal

pub returns : goal.returns
returns c = one_reading
