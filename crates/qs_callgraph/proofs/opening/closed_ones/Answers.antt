use Rattle.std.proofs.Common.{◌≡◌, ◌++◌, ◌∷◌, [], ℕ, Bool, List, length, true, sym, ap, ◌∙◌, subst, arith}
use Rattle.std.proofs.lemmas.List.{length-map, map_push}
use Rattle.qs_base.specs.declared.function.FnId.{FnId}
use Rattle.qs_core.specs.CallGraph.{is_member}
use Rattle.qs_callgraph.specs.CallLists.{numbers, numbers_in, number_lists}
use Rattle.qs_callgraph.specs.Opens.{Closes, ClosesCallers}
use Rattle.qs_callgraph.proofs.CallerLaws.{list_at}
use Rattle.qs_callgraph.proofs.MemberLaws.{member_last, written_back}
use Rattle.qs_callgraph.proofs.OpenLaws.{due_first, flag_within, closes_more}
use Rattle.qs_callgraph.proofs.opening.closed_ones.Goals as goal

pub loop-g-init : goal.loop-g-init
loop-g-init c =
    subst (λ (flags : List Bool). Closes (number_lists c.args.callers.now) c.args.has_spec.now flags (numbers c.in_ok-due.due.items)) (sym c.in_ok-closed.ensures.items)
    (due_first (number_lists c.args.callers.now) c.args.has_spec.now (numbers c.in_ok-due.due.items) c.requires.as_many c.in_ok-due.ensures)

pub bounds-callers-g : goal.bounds-callers-g
bounds-callers-g c =
    let g = c.in-Some.g.0 in
    let due : numbers c.loop-g.due.items ≡ numbers c.pop.new.self.items ++ g ∷ [] = ap numbers c.in-Some.ensures.items ∙ map_push (λ (f : FnId). f.0) c.pop.new.self.items c.in-Some.g in
    let b = flag_within c.loop-g.closed.items g (c.loop-g.invariant.due_closed g (subst (λ (xs : List ℕ). is_member g xs ≡ true) (sym due) (member_last g (numbers c.pop.new.self.items)))) in
    let m = c.loop-g.invariant.as_many in
    let l = length-map c.args.callers.now numbers_in in
    omega (arith, b, m, l)

pub close_callers-requires : goal.close_callers-requires
close_callers-requires c =
    let g = c.in-Some.g.0 in
    let due : numbers c.loop-g.due.items ≡ numbers c.pop.new.self.items ++ g ∷ [] = ap numbers c.in-Some.ensures.items ∙ map_push (λ (f : FnId). f.0) c.pop.new.self.items c.in-Some.g in
    let b = flag_within c.loop-g.closed.items g (c.loop-g.invariant.due_closed g (subst (λ (xs : List ℕ). is_member g xs ≡ true) (sym due) (member_last g (numbers c.pop.new.self.items)))) in
    let m = c.loop-g.invariant.as_many in
    let l = length-map c.args.callers.now numbers_in in
    let here = ap numbers c.deref.ensures.value ∙ list_at c.args.callers.now g c.index-callers-g.result (omega (arith, b, m, l)) c.index-callers-g.is in
    let same = ap length c.deref_mut.ensures.value in
    λ f k. let n = c.requires.within g f (subst (λ (xs : List ℕ). is_member f xs ≡ true) here k) in omega (arith, n, m, same)

pub loop-g-preserved : goal.loop-g-preserved
loop-g-preserved c =
    let g = c.in-Some.g.0 in
    let callers = number_lists c.args.callers.now in
    let before = numbers c.pop.new.self.items in
    let after = numbers c.close_callers.new.due.items in
    let due : numbers c.loop-g.due.items ≡ before ++ g ∷ [] = ap numbers c.in-Some.ensures.items ∙ map_push (λ (f : FnId). f.0) c.pop.new.self.items c.in-Some.g in
    let closed = subst (Closes callers c.args.has_spec.now c.loop-g.closed.items) due c.loop-g.invariant in
    let b = flag_within c.loop-g.closed.items g (closed.due_closed g (member_last g before)) in
    let m = c.loop-g.invariant.as_many in
    let l = length-map c.args.callers.now numbers_in in
    let here = ap numbers c.deref.ensures.value ∙ list_at c.args.callers.now g c.index-callers-g.result (omega (arith, b, m, l)) c.index-callers-g.is in
    let step = subst (ClosesCallers c.loop-g.closed.items c.close_callers.new.closed before after) here
    (subst (λ (flags : List Bool). ClosesCallers flags c.close_callers.new.closed before after (numbers c.deref.result.now)) c.deref_mut.ensures.value c.in_ok-close_callers.ensures) in
    subst (λ (flags : List Bool). Closes callers c.args.has_spec.now flags after)
    (sym (written_back c.loop-g.closed c.close_callers.new.closed c.deref_mut.result.now c.close_callers.auto.closed c.deref_mut.ensures.value))
    (closes_more callers c.args.has_spec.now c.loop-g.closed.items c.close_callers.new.closed before after g c.requires.within closed step)
