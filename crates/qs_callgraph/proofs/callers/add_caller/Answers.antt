use Rattle.std.proofs.Common.{◌≡◌, ◌+◌, ◌<◌, ◌++◌, ◌∷◌, [], drop, get_or, length, sym, ap, ◌∙◌, arith}
use Rattle.std.proofs.lemmas.List.{drop_more, map_push}
use Rattle.std.specs.declared.alloc.Global.{Global}
use Rattle.std.specs.declared.vec.Vec.{Vec}
use Rattle.qs_base.specs.declared.function.FnId.{FnId}
use Rattle.qs_callgraph.specs.CallLists.{numbers, number_lists}
use Rattle.qs_callgraph.specs.Opens.{with_caller}
use Rattle.qs_callgraph.proofs.CallerLaws.{put_at}
use Rattle.qs_callgraph.proofs.MemberLaws.{number_in}
use Rattle.qs_callgraph.proofs.callers.add_caller.Goals as goal

abbrev none : FnId
none = record { 0 = 0 }

pub bounds-callers-g : goal.bounds-callers-g
bounds-callers-g c =
    let b = c.requires (get_or c.args.callees.now c.loop-g.g-index none).0 (number_in c.args.callees.now c.loop-g.g-index none (omega arith)) in
    let l = c.loop-g.auto.callers in
    omega (arith, b, l)

pub loop-g-preserved : goal.loop-g-preserved
loop-g-preserved c =
    let at = c.loop-g.g-index in
    let g = get_or c.args.callees.now at none in
    let f = c.args.f.0 in
    let rest = numbers (drop (at + 1) c.args.callees.now) in
    let b : g.0 < length c.loop-g.callers =
    (let b = c.requires g.0 (number_in c.args.callees.now at none (omega arith)) in let l = c.loop-g.auto.callers in omega (arith, b, l)) in
    let split : numbers (drop at c.args.callees.now) ≡ g.0 ∷ rest = ap numbers (drop_more c.args.callees.now at none (omega arith)) in
    let put : numbers c.put.new.fs.items ≡ numbers c.index-callers-g.result.items ++ f ∷ [] =
    ap numbers c.in_ok-put.ensures ∙ map_push (λ (f : FnId). f.0) (get_or c.loop-g.callers g.0 c.index-callers-g.result).items c.args.f
    ∙ ap (λ (v : Vec FnId Global). numbers v.items ++ f ∷ []) (sym c.index-callers-g.is) in
    let now = put_at c.loop-g.callers g.0 f c.index-callers-g.result c.put.new.fs b c.index-callers-g.is put in
    ap (with_caller f rest) now ∙ sym (ap (λ gs. with_caller f gs (number_lists c.loop-g.callers)) split) ∙ c.loop-g.invariant
