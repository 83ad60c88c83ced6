use Rattle.std.proofs.Common.{◌≡◌, true, rules}
use Rattle.std.specs.Prelude.{bytes_eq}
use Rattle.qs_prooftext.proofs.TopLaws.{only_found}
use Rattle.qs_prooftext.proofs.tops.inner.Goals as goal

pub returns-then-count-eq2 : goal.returns-then-count-eq2
returns-then-count-eq2 c = λ s h.
    let p = c.in-List.ensures s h in
    let k = c.in-Some.ensures p.parts p.stand in
    let same : bytes_eq c.args.head.now c.in-Some.word.now ≡ true = search rules in
    only_found c.args.head.now c.args.text.now s c.in-List.at c.in-List.count c.in-List.parts.now c.in-Some.word.now c.in-Some.others.now p k same c.if-count-eq2.true
