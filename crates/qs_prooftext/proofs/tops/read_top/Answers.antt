use Rattle.qs_prooftext.specs.Tops.{sofar_of}
use Rattle.qs_prooftext_assertions.proofs.AssertionLaws.{has_parts}
use Rattle.qs_prooftext.proofs.TopLaws.{top_headed}
use Rattle.qs_prooftext.proofs.tops.read_top.Goals as goal

pub returns-in-Some : goal.returns-in-Some
returns-in-Some c = λ s h.
    let p = c.in-List.ensures s h in
    let k = c.in-Some.ensures p.parts p.stand in
    top_headed (sofar_of c.args.file c.args.proofs.now) _ c.headed_top.result c.args.file.text.now s c.in-List.at c.in-List.count c.in-List.parts.now c.in-Some.head.now c.in-Some.others.now p k
    (c.headed_top.ensures k.place k.parts k.stand (has_parts c.args.file.text.now s c.in-List.at c.in-List.count c.in-List.parts.now c.in-Some.head.now c.in-Some.others.now p k))
