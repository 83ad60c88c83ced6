-- `check`: whether the derivations of a source are right.
use Rattle.std.specs.Prelude.{◌-◌, length, None, false, Result}
use Rattle.qs_ports.specs.StoreView.{StoreView}
use Rattle.qs_report.specs.declared.fault_texts.Count.{Count}
use Rattle.qs_report.specs.declared.fault_texts.Count.TheVariants.{Checked}
use Rattle.qs_driver_steps.specs.Promises.{Order}
use Rattle.qs_driver_steps.specs.Runs.{Runs}
use Rattle.qs_driver_steps.specs.Steps.{End, Command, gives, then}
use Rattle.qs_driver_session.specs.Counts.{counted, counted_or_refused}
use Rattle.qs_driver_session.specs.Names.{Names, no_names, or_empty, file_name}
use Rattle.qs_driver_session.specs.Statuses.{tool}
use Rattle.qs_driver_session.specs.declared.status.Status.{Status}
use Rattle.qs_driver.specs.Certified.{CertifyWords, words_in, CertifiedSource}
use Rattle.qs_driver.specs.Proved.{certified}
use Rattle.qs_driver.specs.declared.certified.CertifyOrder.{CertifyOrder}

-- its words are those that name what is certified
abbrev pub names_of : CertifyWords → Names
names_of w = record no_names { source = w.source; derivation = or_empty w.proof }

-- ---- the steps

-- functions with an entry in the proof file, and functions whose entry was filled in
abbrev pub counts_of : CertifiedSource → Count
counts_of s =
    Checked (length s.given.functions) (length s.proofs.functions - length s.given.functions)

-- (Main's entry bounds each run of such a source, and of its linear code, for every stack metric: `CertifiedAreBounded`.)
abbrev pub check_end : CertifiedSource → End tool
check_end s = record { output = None; due = counted (counts_of s); late = false }

abbrev pub checked : CertifiedSource → Command tool
checked s = gives (check_end s)

-- the source is certified, and `out` gets the counts
abbrev pub check : CertifyWords → Command tool
check w = then (certified w) checked

abbrev pub order_of : CertifyWords → Order tool
order_of w = record { command = check w; names = file_name (names_of w) }

-- the same of the words that the code holds
abbrev pub to_do : CertifyOrder → Order tool
to_do order = order_of (words_in order)

-- ---- what the parts of the code answer

-- the answer of `check_entries`
abbrev pub Checks : CertifyWords → StoreView → StoreView → Result Count Status → Type 0
Checks w before after work =
    Runs (check w) (file_name (names_of w)) before after (counted_or_refused (names_of w) work)
