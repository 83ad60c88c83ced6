use Rattle.std.proofs.Common.{◌∙◌, List, sym, subst, arith}
use Rattle.std.proofs.lemmas.Bool.{both_ways}
use Rattle.qs_base.specs.declared.function.FnId.{FnId}
use Rattle.qs_callgraph.specs.CallLists.{number_lists, numbers, flag}
use Rattle.qs_callgraph.specs.Searches.{IsPathFrom}
use Rattle.qs_callgraph.proofs.StepLaws.{last_begun, callee_there, look_moves, begin_moves, finish_moves, closes_cycle}
use Rattle.qs_callgraph.proofs.search.step.Goals as goal

pub progress_of-requires : goal.progress_of-requires
progress_of-requires c =
    let b = (last_begun (number_lists c.args.graph.now) c.args.has_spec.now c.args.search.now c.args.f.0 c.requires.holds c.requires.last).within in
    let m = c.requires.holds.many in
    omega (arith, b, m)

pub looked_at-at-requires : goal.looked_at-at-requires
looked_at-at-requires c =
    let b = last_begun (number_lists c.args.graph.now) c.args.has_spec.now c.args.search.now c.args.f.0 c.requires.holds c.requires.last in
    (b.next, c.progress_of.ensures ∙ b.is)

pub returns-in_default : goal.returns-in_default
returns-in_default c =
    finish_moves (number_lists c.args.graph.now) c.args.has_spec.now c.args.search.now c.finish.new.search c.args.f.0 c.looked_at-at.result c.requires.holds c.requires.last
    (sym c.progress_of.ensures ∙ c.looked_at-at.ensures) c.in_default.ensures c.in_ok-finish.ensures

pub bounds-has_spec-g : goal.bounds-has_spec-g
bounds-has_spec-g c =
    let b = callee_there (number_lists c.args.graph.now) c.args.has_spec.now c.args.f.0 c.looked_at-at.result c.in-Some.g.0 c.requires.graph c.in-Some.ensures in
    let m = c.requires.graph.as_many in
    omega (arith, b, m)

pub returns-then-has_spec-g : goal.returns-then-has_spec-g
returns-then-has_spec-g c =
    look_moves (number_lists c.args.graph.now) c.args.has_spec.now c.args.search.now c.look.new.search c.args.f.0 c.looked_at-at.result c.in-Some.g.0 c.requires.holds c.requires.last
    (sym c.progress_of.ensures ∙ c.looked_at-at.ensures) c.in-Some.ensures
    (λ free. absurd (both_ways (flag c.args.has_spec.now c.in-Some.g.0) free c.if-has_spec-g.true)) c.look.ensures

pub progress_of-requires-2 : goal.progress_of-requires-2
progress_of-requires-2 c =
    let b = callee_there (number_lists c.args.graph.now) c.args.has_spec.now c.args.f.0 c.looked_at-at.result c.in-Some.g.0 c.requires.graph c.in-Some.ensures in
    let m = c.requires.holds.many in
    omega (arith, b, m)

pub begin-requires : goal.begin-requires
begin-requires c =
    let b = callee_there (number_lists c.args.graph.now) c.args.has_spec.now c.args.f.0 c.looked_at-at.result c.in-Some.g.0 c.requires.graph c.in-Some.ensures in
    let m = c.requires.holds.many in
    omega (arith, b, m)

pub returns-in_ok-begin-in-New : goal.returns-in_ok-begin-in-New
returns-in_ok-begin-in-New c =
    begin_moves (number_lists c.args.graph.now) c.args.has_spec.now c.args.search.now c.begin.new.search c.args.f.0 c.looked_at-at.result c.in-Some.g.0 c.requires.graph c.requires.holds c.requires.last
    c.in-Some.ensures c.if-has_spec-g.false (sym c.progress_of-2.ensures ∙ c.in-New.is) c.in_ok-begin-in-New.ensures
    (sym c.progress_of.ensures ∙ c.looked_at-at.ensures)

pub returns-in_ok-path_from-in-Open : goal.returns-in_ok-path_from-in-Open
returns-in_ok-path_from-in-Open c =
    closes_cycle (number_lists c.args.graph.now) c.args.has_spec.now c.args.search.now c.args.f.0 c.looked_at-at.result c.in-Some.g.0 c.in-Open.field-0 (numbers c.in_ok-path_from-in-Open.field-0.items)
    c.requires.holds c.requires.last c.in-Some.ensures (sym c.progress_of-2.ensures ∙ c.in-Open.is)
    (subst (λ (path : List FnId). IsPathFrom (numbers path) c.in-Some.g.0 (numbers c.in_ok-path_from-in-Open.field-0.items)) c.deref.ensures.value c.in_ok-path_from-in-Open.ensures)

pub returns-in-Done : goal.returns-in-Done
returns-in-Done c =
    look_moves (number_lists c.args.graph.now) c.args.has_spec.now c.args.search.now c.look-in-Done.new.search c.args.f.0 c.looked_at-at.result c.in-Some.g.0 c.requires.holds c.requires.last
    (sym c.progress_of.ensures ∙ c.looked_at-at.ensures) c.in-Some.ensures
    (λ free. c.requires.holds.done c.in-Some.g.0 (sym c.progress_of-2.ensures ∙ c.in-Done.is)) c.look-in-Done.ensures
