-- What the code of variables hands on: whether an initialiser fits, and faults that were found before.
use Rattle.std.specs.Prelude.{Bool, ◌&&◌, List, [], Option, Some, None, option_to_list, if◌then◌else◌}
use Rattle.qs_types.specs.declared.rules.Rule.TheVariants as rules
use Rattle.qs_types.specs.Rules.{Test, test, keeps, Fault}
use Rattle.qs_typing_findings.specs.Findings.{least_with}
use Rattle.qs_typing_findings.specs.UnitWalk.{WalkTree}

-- the test that a name is declared once in its scope, and the one that an initialiser fits, where they are made
abbrev pub again_tests : Option Bool → List Test
again_tests None = []
again_tests (Some again) = test rules.DeclaredTwice again

abbrev pub fit_tests : Option Bool → List Test
fit_tests None = []
fit_tests (Some fits) = keeps rules.InitialiserType fits

abbrev pub fits_of : (has_type is_typed fits : Bool) → Option Bool
fits_of has_type is_typed fits = if has_type && is_typed then Some fits else None

-- with the least fault of before
abbrev pub joined_least : Option Fault → Option Fault → Option Fault
joined_least before found = least_with before (option_to_list found)

abbrev pub with_least_before : Option Fault → WalkTree → WalkTree
with_least_before before w = record w { found = record (w.found) { least = joined_least before w.found.least } }
