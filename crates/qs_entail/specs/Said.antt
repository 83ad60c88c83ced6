-- The numbers of rules and limits, and what an answer says of the first fault.
use Rattle.std.specs.Prelude.{◌≡◌, ℕ, Option, Some, None, Result, Ok, Err}
use Rattle.qs_entail.specs.declared.fault.Rule.{Rule}
use Rattle.qs_entail.specs.declared.fault.Rule.TheVariants.{Same, Via, Pick, All, Parts, Assume, DropGuard, Split, Contradict, Arithmetic, ByDefinition, Fact}
use Rattle.qs_entail.specs.declared.fault.CertFault.{CertFault}
use Rattle.qs_entail.specs.declared.fault.CertFault.TheVariants as answers
use Rattle.qs_entail.specs.declared.fault.CertFault.TheVariants.{Step}
use Rattle.qs_entail.specs.declared.stop.Limit.{Limit}
use Rattle.qs_entail.specs.declared.stop.Limit.TheVariants.{Coefficient, Terms, Degree}
use Rattle.qs_entail.specs.Answers.{fault_of}
use Rattle.qs_entail.specs.Faults as faults
use Rattle.qs_entail.specs.Faults.{step, limit}

abbrev pub rule_number : Rule → ℕ
rule_number Same = 1
rule_number Via = 2
rule_number Pick = 3
rule_number All = 4
rule_number Parts = 5
rule_number Assume = 6
rule_number DropGuard = 7
rule_number Split = 8
rule_number Contradict = 9
rule_number Arithmetic = 10
rule_number ByDefinition = 11
rule_number Fact = 12

abbrev pub limit_number : Limit → ℕ
limit_number Coefficient = 1
limit_number Terms = 2
limit_number Degree = 3

-- what the check answers says what the verdict is, want of memory aside
abbrev pub Tells : Result (Unit {0}) CertFault → Option faults.CertFault → Type 0
Tells (Ok u) verdict = verdict ≡ None
Tells (Err answers.NoMemory) verdict = Unit {0}
Tells (Err (Step path rule)) verdict = verdict ≡ Some (step path.items rule)
Tells (Err (answers.Limit path l)) verdict = verdict ≡ Some (limit path.items (fault_of l))
