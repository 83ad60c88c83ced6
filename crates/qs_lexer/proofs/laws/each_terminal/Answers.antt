use Rattle.qs_lexer.proofs.TerminalLaws.{are_well_formed, as_many, at_most}
use Rattle.qs_lexer.proofs.laws.each_terminal.Goals as goal

pub returns-clause-as_many : goal.returns-clause-as_many
returns-clause-as_many c = as_many

pub returns-clause-at_most : goal.returns-clause-at_most
returns-clause-at_most c = at_most

pub returns-clause-are_well_formed : goal.returns-clause-are_well_formed
returns-clause-are_well_formed c = are_well_formed
