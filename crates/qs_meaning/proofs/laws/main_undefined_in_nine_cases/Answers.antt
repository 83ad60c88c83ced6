use Rattle.qs_meaning.proofs.NineCaseLaws.{main_undefined_in_nine_cases}
use Rattle.qs_meaning.proofs.laws.main_undefined_in_nine_cases.Goals as goal

pub returns : goal.returns
returns c = main_undefined_in_nine_cases
