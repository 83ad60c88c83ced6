use Rattle.qs_ports.proofs.Sinks.{then_puts}
use Rattle.qs_report.proofs.derivation_faults.put_place.Goals as goal

pub returns : goal.returns
returns g c = then_puts _ _ _ c.in_ok-put_spot.ensures c.put_proof_text.ensures
