use Rattle.std.proofs.Common.{◌≡◌, true, codes, rules, sym}
use Rattle.std.specs.Prelude.{bytes_eq}
use Rattle.std.proofs.lemmas.Slice.Eq.{bytes_eq-Decides}
use Rattle.qs_prooftext.specs.Tops.{sofar_of}
use Rattle.qs_prooftext.proofs.TopLaws.{define_top, function_top, gives_same}
use Rattle.qs_prooftext.proofs.tops.headed_top.Goals as goal

pub returns-then-count-eq3 : goal.returns-then-count-eq3
returns-then-count-eq3 c = λ place ss h k.
    let is : bytes_eq c.args.head.now (codes "define") ≡ true = search rules in
    gives_same _ c.definition.result _ _
    (sym (define_top (sofar_of c.args.file c.args.proofs.now) c.args.at place c.args.head.now c.args.count ss ((bytes_eq-Decides c.args.head.now (codes "define")).0 is) k c.if-count-eq3.true))
    (c.definition.ensures ss h)

pub returns-then-count-eq6 : goal.returns-then-count-eq6
returns-then-count-eq6 c = λ place ss h k.
    let is : bytes_eq c.args.head.now (codes "function") ≡ true = search rules in
    gives_same _ c.function.result _ _
    (sym (function_top (sofar_of c.args.file c.args.proofs.now) c.args.at place c.args.head.now c.args.count ss ((bytes_eq-Decides c.args.head.now (codes "function")).0 is) k c.if-count-eq6.true))
    (c.function.ensures ss h)
