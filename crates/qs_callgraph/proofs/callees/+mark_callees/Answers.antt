use Rattle.std.proofs.Common.{◌≡◌, ◌+◌, ◌∷◌, List, drop, sym, ap, ◌∙◌, arith}
use Rattle.std.proofs.lemmas.List.{drop_more}
use Rattle.qs_core.specs.CallGraph.{callees, all_callees}
use Rattle.qs_core.specs.TreeOf.{core_stmt, core_stmts}
use Rattle.qs_core.specs.Trees.{stmts_of}
use Rattle.qs_core.specs.declared.statements.CoreStmt.{CoreStmt}
use Rattle.qs_callgraph.specs.CallLists.{marked}
use Rattle.qs_callgraph.proofs.MarkLaws.{marked-append, branch_is, loop_is}
use Rattle.qs_callgraph.proofs.callees.+mark_callees.Goals as goal

pub mark_all_callees-loop-s-preserved : goal.mark_all_callees-loop-s-preserved
mark_all_callees-loop-s-preserved t c =
    let s = c.s-item.result in
    let rest = drop (c.loop-s.s-index + 1) c.args.ss.now in
    let split : drop c.loop-s.s-index c.args.ss.now ≡ s ∷ rest =
    drop_more c.args.ss.now c.loop-s.s-index s (omega arith) ∙ ap (λ (x : CoreStmt). x ∷ rest) (sym c.s-item.is) in
    ap (marked (all_callees (stmts_of (core_stmts rest)))) c.mark_callees.ensures
    ∙ sym (marked-append (callees (core_stmt s)) (all_callees (stmts_of (core_stmts rest))) c.loop-s.marks)
    ∙ sym (ap (λ (l : List CoreStmt). marked (all_callees (stmts_of (core_stmts l))) c.loop-s.marks) split)
    ∙ c.loop-s.invariant

pub mark_callees-returns-in-If : goal.mark_callees-returns-in-If
mark_callees-returns-in-If t c =
    let whole = branch_is c.args.s.now c.in-If.field-0 c.in-If.first c.in-If.second c.in-If.is in
    c.mark_callees-in-If.ensures
    ∙ ap (λ (s : CoreStmt). marked (callees (core_stmt s)) c.mark_callees.new.marks) c.deref-in-If-2.ensures
    ∙ ap (marked (callees (core_stmt c.in-If.second.value)))
    (c.mark_callees.ensures ∙ ap (λ (s : CoreStmt). marked (callees (core_stmt s)) c.args.marks.now) c.deref-in-If.ensures)
    ∙ sym (marked-append (callees (core_stmt c.in-If.first.value)) (callees (core_stmt c.in-If.second.value)) c.args.marks.now)
    ∙ sym (ap (λ s. marked (callees s) c.args.marks.now) whole)

pub mark_callees-returns-in-Loop : goal.mark_callees-returns-in-Loop
mark_callees-returns-in-Loop t c =
    let whole = loop_is c.args.s.now c.in-Loop.body c.in-Loop.step c.in-Loop.is in
    c.mark_callees-in-Loop-2.ensures
    ∙ ap (λ (s : CoreStmt). marked (callees (core_stmt s)) c.mark_callees-in-Loop.new.marks) c.deref-in-Loop-2.ensures
    ∙ ap (marked (callees (core_stmt c.in-Loop.step.value)))
    (c.mark_callees-in-Loop.ensures ∙ ap (λ (s : CoreStmt). marked (callees (core_stmt s)) c.args.marks.now) c.deref-in-Loop.ensures)
    ∙ sym (marked-append (callees (core_stmt c.in-Loop.body.value)) (callees (core_stmt c.in-Loop.step.value)) c.args.marks.now)
    ∙ sym (ap (λ s. marked (callees s) c.args.marks.now) whole)
