use Rattle.std.proofs.Common.{◌≡◌, ◌+◌, ◌<◌, ◌++◌, ◌∷◌, [], Bool, List, drop, get_or, set, length, true, sym, ap, ◌∙◌, subst, arith}
use Rattle.std.proofs.lemmas.List.{drop_more, map_push}
use Rattle.std.specs.declared.alloc.Global.{Global}
use Rattle.std.specs.declared.vec.Vec.{Vec}
use Rattle.qs_base.specs.declared.function.FnId.{FnId}
use Rattle.qs_callgraph.specs.CallLists.{marked, numbers}
use Rattle.qs_callgraph.specs.Opens.{AddsDue}
use Rattle.qs_callgraph.proofs.MemberLaws.{number_in}
use Rattle.qs_callgraph.proofs.OpenLaws.{one_due, set_closed}
use Rattle.qs_callgraph.proofs.opening.close_callers.Goals as goal
use Rattle.qs_callgraph.proofs.opening.close_callers.Goals.{then-not-closed-at+in_ok-put, else-not-closed-at}

abbrev none : FnId
none = record { 0 = 0 }

pub bounds-closed-at : goal.bounds-closed-at
bounds-closed-at c =
    let b = c.requires (get_or c.args.callers.now c.loop-f.f-index none).0 (number_in c.args.callers.now c.loop-f.f-index none (omega arith)) in
    let l = c.loop-f.auto.closed in
    omega (arith, b, l)

pub bounds-closed-at-then-not-closed-at : goal.bounds-closed-at-then-not-closed-at
bounds-closed-at-then-not-closed-at c =
    let b = c.requires (get_or c.args.callers.now c.loop-f.f-index none).0 (number_in c.args.callers.now c.loop-f.f-index none (omega arith)) in
    let l = c.loop-f.auto.closed in
    omega (arith, b, l)

pub loop-f-preserved : goal.loop-f-preserved
loop-f-preserved c =
    let at = c.loop-f.f-index in
    let f = get_or c.args.callers.now at none in
    let rest = numbers (drop (at + 1) c.args.callers.now) in
    let split : numbers (drop at c.args.callers.now) ≡ f.0 ∷ rest = ap numbers (drop_more c.args.callers.now at none (omega arith)) in
    let whole : marked rest (set c.loop-f.closed f.0 true) ≡ marked (numbers c.args.callers.now) c.args.closed.now =
    sym (ap (λ gs. marked gs c.loop-f.closed) split) ∙ c.loop-f.invariant.closed in
    let b : f.0 < length c.loop-f.closed =
    (let b = c.requires f.0 (number_in c.args.callers.now at none (omega arith)) in let l = c.loop-f.auto.closed in omega (arith, b, l)) in
    elim c.if-not-closed-at.branch [
      | then-not-closed-at+in_ok-put w ↦
          let due : numbers c.if-not-closed-at.due.items ≡ numbers c.loop-f.due.items ++ f.0 ∷ [] =
          ap (λ (v : Vec FnId Global). numbers v.items) w.due-is ∙ ap numbers w.in_ok-put.ensures ∙ map_push (λ (f : FnId). f.0) c.loop-f.due.items f in
          record {
            closed = ap (marked rest) w.closed-is ∙ whole;
            adds =
                subst (λ (flags : List Bool). AddsDue c.args.closed.now flags (numbers c.args.due.now.items) (numbers c.if-not-closed-at.due.items)) (sym w.closed-is)
                (subst (AddsDue c.args.closed.now (set c.loop-f.closed f.0 true) (numbers c.args.due.now.items)) (sym due)
                (one_due c.args.closed.now c.loop-f.closed (numbers c.args.due.now.items) (numbers c.loop-f.due.items) f.0 c.loop-f.invariant.adds b w.if-not-closed-at.true));
          }
      | else-not-closed-at w ↦
          record {
            closed = ap (marked rest) (w.closed-is ∙ sym (set_closed c.loop-f.closed f.0 w.if-not-closed-at.false)) ∙ whole;
            adds =
                subst (λ (flags : List Bool). AddsDue c.args.closed.now flags (numbers c.args.due.now.items) (numbers c.if-not-closed-at.due.items)) (sym w.closed-is)
                (subst (λ (v : Vec FnId Global). AddsDue c.args.closed.now c.loop-f.closed (numbers c.args.due.now.items) (numbers v.items)) (sym w.due-is) c.loop-f.invariant.adds);
          }
    ]
