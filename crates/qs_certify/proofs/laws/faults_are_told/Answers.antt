use Rattle.qs_certify.proofs.OneLaws.{order_is_told, entries_are_told, entry_faults_are_told}
use Rattle.qs_certify.proofs.RefusalLaws.{text_faults_are_told, cycles_are_told}
use Rattle.qs_certify.proofs.laws.faults_are_told.Goals as goal

pub returns-clause-texts : goal.returns-clause-texts
returns-clause-texts c = text_faults_are_told

pub returns-clause-cycles : goal.returns-clause-cycles
returns-clause-cycles c = cycles_are_told

pub returns-clause-order : goal.returns-clause-order
returns-clause-order c = order_is_told

pub returns-clause-entries : goal.returns-clause-entries
returns-clause-entries c = entries_are_told

pub returns-clause-entry_faults : goal.returns-clause-entry_faults
returns-clause-entry_faults c = entry_faults_are_told
