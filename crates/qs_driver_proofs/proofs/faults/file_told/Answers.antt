use Rattle.qs_driver_proofs.proofs.faults.file_told.Goals as goal

pub returns-in-Some : goal.returns-in-Some
returns-in-Some c = λ u. rw c.in-Some.is (c.text_told.ensures u)
