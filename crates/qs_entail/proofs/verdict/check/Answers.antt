use Rattle.qs_entail.proofs.StandingLaws.{sound_of}
use Rattle.qs_entail.specs.View.{cert_tree}
use Rattle.qs_entail.proofs.verdict.check.Goals as goal

pub returns-clause-sound : goal.returns-clause-sound
returns-clause-sound c =
    let said = rw (c.view-left.ensures, c.view-right.ensures) at c.checked.ensures in
    sound_of c.checked.result c.args.hypotheses.now c.args.defines.now c.args.p.now c.args.q.now (cert_tree c.args.certificate.now) said
