use Rattle.std.proofs.Common.{map, sym, ap, ◌∙◌, arith}
use Rattle.std.proofs.lemmas.List.{length-map}
use Rattle.qs_tac.specs.TreeOf.{function_tree}
use Rattle.qs_tac.specs.Places.{places_tree}
use Rattle.qs_frames.specs.declared.frame.Frame.{Frame}
use Rattle.qs_compile.specs.Records.{frame_bytes}
use Rattle.qs_compile.proofs.RecordLaws.{frame_at, each_more}
use Rattle.qs_compile.proofs.records.costs.Goals as goal

pub layout-requires : goal.layout-requires
layout-requires c =
    let same = frame_at c.args.functions.now c.args.places.now c.loop-f.f c.index-functions-f.result c.index-places-f.result c.index-functions-f.is c.index-places-f.is c.loop-f-test.true (omega arith) in
    let fits = c.requires.fit.each c.loop-f.f (let count = length-map c.args.functions.now function_tree in omega (arith, count)) in
    omega (arith, same, fits)

pub loop-f-preserved : goal.loop-f-preserved
loop-f-preserved c =
    let same = frame_at c.args.functions.now c.args.places.now c.loop-f.f c.index-functions-f.result c.index-places-f.result c.index-functions-f.is c.index-places-f.is c.loop-f-test.true (omega arith) in
    each_more (frame_bytes (map function_tree c.args.functions.now) (map places_tree c.args.places.now)) c.loop-f.all.items c.push.new.self.items c.layout.result.cost c.loop-f.f c.loop-f.invariant.0
    c.in_ok-push.ensures.items (ap (λ (frame : Frame). frame.cost) c.layout.ensures ∙ sym same) c.loop-f.invariant.1
