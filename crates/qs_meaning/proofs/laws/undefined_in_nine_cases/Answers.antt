use Rattle.qs_meaning.proofs.NineCaseLaws.{undefined_in_nine_cases}
use Rattle.qs_meaning.proofs.laws.undefined_in_nine_cases.Goals as goal

pub returns : goal.returns
returns c = undefined_in_nine_cases
