use Rattle.qs_compile.proofs.SourceNames.{names_are_of_the_text}
use Rattle.qs_compile.proofs.laws.names_are_of_the_text.Goals as goal

pub returns : goal.returns
returns c = names_are_of_the_text
