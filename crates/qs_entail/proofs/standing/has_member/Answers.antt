use Rattle.std.specs.Int.{w64}
use Rattle.std.proofs.lemmas.Int.{to_z-of_z}
use Rattle.qs_entail.specs.Faults.{members_of}
use Rattle.qs_entail.proofs.HeadLaws.{numbered}
use Rattle.qs_entail.proofs.standing.has_member.Goals as goal

pub returns-in-Some : goal.returns-in-Some
returns-in-Some c =
    let e = rw (to_z-of_z w64 c.args.i c.ranges.i) at c.is_counted.ensures in
    numbered (members_of c.args.p.now) c.args.i c.in-Some.count c.is_counted.result c.in-Some.ensures e
