use Rattle.qs_report.proofs.derivation_faults.put_proof_text.Goals as goal

pub returns-in-Mentions : goal.returns-in-Mentions
returns-in-Mentions g c = rw c.in-Mentions.is (rw c.bytes.ensures at c.put_two-in-Mentions.ensures)
