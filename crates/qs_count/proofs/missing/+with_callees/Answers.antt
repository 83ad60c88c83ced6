use Rattle.std.proofs.Common.{◌≡◌, ◌+◌, ◌∷◌, ℕ, List, Option, drop, sym, ap, ◌∙◌, arith}
use Rattle.std.proofs.lemmas.List.{drop_more}
use Rattle.qs_core.specs.CallGraph.{callees, all_callees}
use Rattle.qs_core.specs.TreeOf.{core_stmt, core_stmts}
use Rattle.qs_core.specs.Trees.{stmts_of}
use Rattle.qs_core.specs.declared.statements.CoreStmt.{CoreStmt}
use Rattle.qs_triples.specs.TreeOf.{proofs_tree}
use Rattle.qs_callgraph.proofs.MarkLaws.{branch_is, loop_is}
use Rattle.qs_count.specs.Missing.{number_of, with_functions}
use Rattle.qs_count.proofs.MissingLaws.{with_functions-append}
use Rattle.qs_count.proofs.missing.+with_callees.Goals as goal

pub with_all_callees-loop-s-preserved : goal.with_all_callees-loop-s-preserved
with_all_callees-loop-s-preserved t c =
    let s = c.s-item.result in
    let p = proofs_tree c.args.proofs.now in
    let rest = drop (c.loop-s.s-index + 1) c.args.ss.now in
    let split : drop c.loop-s.s-index c.args.ss.now ≡ s ∷ rest =
    drop_more c.args.ss.now c.loop-s.s-index s (omega arith) ∙ ap (λ (x : CoreStmt). x ∷ rest) (sym c.s-item.is) in
    ap (λ (found : Option ℕ). with_functions p found (all_callees (stmts_of (core_stmts rest)))) c.with_callees-first.ensures
    ∙ sym (with_functions-append p (number_of c.loop-s.first) (callees (core_stmt s)) (all_callees (stmts_of (core_stmts rest))))
    ∙ sym (ap (λ (l : List CoreStmt). with_functions p (number_of c.loop-s.first) (all_callees (stmts_of (core_stmts l)))) split)
    ∙ c.loop-s.invariant

pub with_callees-returns-in-If : goal.with_callees-returns-in-If
with_callees-returns-in-If t c =
    let p = proofs_tree c.args.proofs.now in
    let whole = branch_is c.args.s.now c.in-If.field-0 c.in-If.first c.in-If.second c.in-If.is in
    c.with_callees.ensures
    ∙ ap (λ (s : CoreStmt). with_functions p (number_of c.with_callees-so_far.result) (callees (core_stmt s))) c.deref-in-If-2.ensures
    ∙ ap (λ (found : Option ℕ). with_functions p found (callees (core_stmt c.in-If.second.value)))
    (c.with_callees-so_far.ensures ∙ ap (λ (s : CoreStmt). with_functions p (number_of c.args.found) (callees (core_stmt s))) c.deref-in-If.ensures)
    ∙ sym (with_functions-append p (number_of c.args.found) (callees (core_stmt c.in-If.first.value)) (callees (core_stmt c.in-If.second.value)))
    ∙ sym (ap (λ s. with_functions p (number_of c.args.found) (callees s)) whole)

pub with_callees-returns-in-Loop : goal.with_callees-returns-in-Loop
with_callees-returns-in-Loop t c =
    let p = proofs_tree c.args.proofs.now in
    let whole = loop_is c.args.s.now c.in-Loop.body c.in-Loop.step c.in-Loop.is in
    c.with_callees-in-Loop.ensures
    ∙ ap (λ (s : CoreStmt). with_functions p (number_of c.with_callees-so_far-in-Loop.result) (callees (core_stmt s))) c.deref-in-Loop-2.ensures
    ∙ ap (λ (found : Option ℕ). with_functions p found (callees (core_stmt c.in-Loop.step.value)))
    (c.with_callees-so_far-in-Loop.ensures ∙ ap (λ (s : CoreStmt). with_functions p (number_of c.args.found) (callees (core_stmt s))) c.deref-in-Loop.ensures)
    ∙ sym (with_functions-append p (number_of c.args.found) (callees (core_stmt c.in-Loop.body.value)) (callees (core_stmt c.in-Loop.step.value)))
    ∙ sym (ap (λ s. with_functions p (number_of c.args.found) (callees s)) whole)
