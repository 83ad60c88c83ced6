use Rattle.std.proofs.Common.{◌∙◌, Ok, map, sym}
use Rattle.qs_triples.specs.TreeOf.{entry_tree}
use Rattle.qs_prooftext.specs.Tops.{proofs_so_far, sofar_of}
use Rattle.qs_prooftext_assertions.proofs.AssertionLaws.{passed_out}
use Rattle.qs_prooftext.proofs.TopLaws.{tops_end, tops_first, tops_go, tops_stop}
use Rattle.qs_prooftext.proofs.tops.read_tops.Goals as goal

pub read_top-requires : goal.read_top-requires
read_top-requires c =
    let t = c.requires in
    tops_first (sofar_of c.args.file c.tops.proofs) c.args.file.text.now c.tops.rest.now c.in-Some.first.now c.in-Some.others.now _ (c.tops.invariant t.0 t.1) c.in-Some.ensures

pub returns-in_err-read_top : goal.returns-in_err-read_top
returns-in_err-read_top c = λ ss h.
    passed_out _ c.from_residual.result c.in_err-read_top.field-0.0 _ c.from_residual.ensures
    (tops_stop (sofar_of c.args.file c.tops.proofs) c.args.file.text.now c.tops.rest.now c.in-Some.first.now c.in-Some.others.now c.in_err-read_top.field-0.0 _ (c.tops.invariant ss h) c.in-Some.ensures (λ t k. c.in_err-read_top.ensures t k))

pub tops-preserved : goal.tops-preserved
tops-preserved c = λ ss h.
    tops_go (sofar_of c.args.file c.tops.proofs) c.args.file.text.now c.tops.rest.now c.in-Some.first.now c.in-Some.others.now (proofs_so_far c.read_top.new.proofs) _ (c.tops.invariant ss h) c.in-Some.ensures (λ t k. c.in_ok-read_top.ensures t k)

pub returns : goal.returns
returns c = λ ss h.
    tops_end (sofar_of c.args.file c.tops.proofs) c.args.file.text.now c.tops.rest.now _ (c.tops.invariant ss h) c.in_default.ensures
    ∙ (λ i. Ok (record { defines = (sym c.into_defines.ensures i).items; functions = map entry_tree c.tops.proofs.functions.items }))
