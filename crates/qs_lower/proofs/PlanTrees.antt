-- What a plan, and a statement of core, of several statements stands for.
use Rattle.std.proofs.Common.{◌≡◌, ℕ, Some, IsSome, sym, ap, subst, map, ◌∙◌}
use Rattle.std.proofs.lemmas.Result.{IfOk-weaker}
use Rattle.std.specs.Prelude.{Box, Result, IfOk}
use Rattle.std.specs.declared.alloc.Global.{Global}
use Rattle.std.specs.declared.vec.Vec.{Vec}
use Rattle.qs_core.specs.Trees.{CoreStmtTree, seq, switch, stmts_of}
use Rattle.qs_core.specs.TreeOf as core
use Rattle.qs_core.specs.TreeOf.{core_expr, core_stmt, core_stmts}
use Rattle.qs_core.specs.declared.expressions.CoreExpr.{CoreExpr}
use Rattle.qs_core.specs.declared.labels.CoreLabel.{CoreLabel}
use Rattle.qs_core.specs.declared.statements.CoreStmt.{CoreStmt, CoreStmt-F, fold-roll-CoreStmt}
use Rattle.qs_core.specs.declared.statements.CoreStmt.TheVariants as stmts
use Rattle.qs_lower_expressions.specs.Expressions.{ExprCode}
use Rattle.qs_lower_expressions.specs.Plans.{expr_code}
use Rattle.qs_lower.specs.Statements.{StmtCode, of_return, joined_before, of_switch}
use Rattle.qs_lower.specs.StmtPlans.{stmt_step, branch_step, loop_step, tested_step, switch_step, stmt_part, switch_part, redirected_to, test_at_end, tested_of}
use Rattle.qs_lower.specs.Ways.{way_tree}
use Rattle.qs_lower_expressions.specs.declared.plans.ExprPlan.{ExprPlan}
use Rattle.qs_lower.specs.declared.ways.Way.{Way}
use Rattle.qs_lower.proofs.JoinedLaws.{joined_test, joined_has_test}
use Rattle.qs_lower.specs.declared.stmt_plans.StmtPlan.{StmtPlan, StmtPlan-F, fold-roll-StmtPlan}
use Rattle.qs_lower.specs.declared.stmt_plans.StmtPlan.TheVariants as plans
use Rattle.qs_lower.specs.declared.stmt_plans.SwitchPlan.{SwitchPlan, fold_out-SwitchPlan}

pub joined_is : (s : StmtPlan) (all : Vec StmtPlan Global) (last : Box StmtPlan Global) → s ≡ plans.Joined all last → stmt_part s ≡ joined_before (map stmt_part all.items) (stmt_part last.value)
joined_is s all last h =
    ap stmt_part (h ∙ sym (plans.rolls-Joined all last))
    ∙ fold-roll-StmtPlan StmtCode StmtCode StmtCode StmtCode StmtCode stmt_step branch_step loop_step switch_step tested_step (StmtPlan-F.Joined all last)

pub seq_is : (s : CoreStmt) (ss : Vec CoreStmt Global) → s ≡ stmts.Seq ss → core_stmt s ≡ seq (stmts_of (core_stmts ss.items))
seq_is s ss h =
    ap core_stmt (h ∙ sym (stmts.rolls-Seq ss)) ∙ fold-roll-CoreStmt CoreStmtTree core.stmt_step (CoreStmt-F.Seq ss)

pub core_switch_is :
    (s : CoreStmt) (e : CoreExpr) (labels : Vec CoreLabel Global) (ss : Vec CoreStmt Global) → s ≡ stmts.Switch e labels ss
    → core_stmt s ≡ switch (core_expr e) labels.items (stmts_of (core_stmts ss.items))
core_switch_is s e labels ss h =
    ap core_stmt (h ∙ sym (stmts.rolls-Switch e labels ss)) ∙ fold-roll-CoreStmt CoreStmtTree core.stmt_step (CoreStmt-F.Switch e labels ss)

pub redirected_is : (a : Box StmtPlan Global) (s : StmtPlan) (w : Way) → a.value ≡ s → stmt_part (plans.Redirected a w) ≡ redirected_to (stmt_part s) (way_tree w)
redirected_is a s w h =
    ap stmt_part (sym (plans.rolls-Redirected a w))
    ∙ fold-roll-StmtPlan StmtCode StmtCode StmtCode StmtCode StmtCode stmt_step branch_step loop_step switch_step tested_step (StmtPlan-F.Redirected a w)
    ∙ ap (λ (p : StmtPlan). redirected_to (stmt_part p) (way_tree w)) h

-- a statement whose last part was taken apart
pub tested_again :
    (self n : StmtPlan) (all front_all : Vec StmtPlan Global) (last front_last : Box StmtPlan Global) (inner front : StmtPlan) (test : ExprCode) (rest : StmtCode)
    → self ≡ plans.Joined all last → last.value ≡ inner → n ≡ plans.Joined front_all front_last → front_all ≡ all → front_last.value ≡ front
    → test_at_end (stmt_part inner) ≡ Some (tested_of (stmt_part front) test rest)
    → test_at_end (stmt_part self) ≡ Some (tested_of (stmt_part n) test rest)
tested_again self n all front_all last front_last inner front test rest is same is_now kept new h =
    let parts = map stmt_part all.items in
    let before : stmt_part self ≡ joined_before parts (stmt_part inner) =
    joined_is self all last is ∙ ap (λ (p : StmtPlan). joined_before parts (stmt_part p)) same in
    let after : stmt_part n ≡ joined_before parts (stmt_part front) =
    joined_is n front_all front_last is_now
    ∙ ap (λ (v : Vec StmtPlan Global). joined_before (map stmt_part v.items) (stmt_part front_last.value)) kept
    ∙ ap (λ (p : StmtPlan). joined_before parts (stmt_part p)) new in
    ap test_at_end before
    ∙ joined_test parts (stmt_part inner) (stmt_part front) rest test h
    ∙ sym (ap (λ (s : StmtCode). Some (tested_of s test rest)) after)

pub has_test_still :
    (self inner : StmtPlan) (all : Vec StmtPlan Global) (last : Box StmtPlan Global) → self ≡ plans.Joined all last → last.value ≡ inner
    → IsSome (test_at_end (stmt_part self)) → IsSome (test_at_end (stmt_part inner))
has_test_still self inner all last is same h =
    let whole : stmt_part self ≡ joined_before (map stmt_part all.items) (stmt_part last.value) = joined_is self all last is in
    let there : IsSome (test_at_end (joined_before (map stmt_part all.items) (stmt_part last.value))) =
    subst (λ (s : StmtCode). IsSome (test_at_end s)) whole h in
    subst (λ (p : StmtPlan). IsSome (test_at_end (stmt_part p))) same (joined_has_test (map stmt_part all.items) (stmt_part last.value) there)

-- the same with another name for what the value is
pub if_ok_is : {T E X : Type 0} (r : Result T E) (f : T → X) (a b : X) → a ≡ b → IfOk r (λ v. f v ≡ a) → IfOk r (λ v. f v ≡ b)
if_ok_is r f a b e h = IfOk-weaker r (λ v. f v ≡ a) (λ v. f v ≡ b) (λ v k. k ∙ e) h

pub switch_part_is : (p : SwitchPlan) → switch_part p ≡ of_switch p.free (expr_code p.operand) p.labels.items (map stmt_part p.parts.items) (stmt_part p.last)
switch_part_is p = fold_out-SwitchPlan StmtCode StmtCode StmtCode StmtCode StmtCode stmt_step branch_step loop_step switch_step tested_step p

pub switch_is :
    (s : StmtPlan) (p : Box SwitchPlan Global) → s ≡ plans.Switch p
    → stmt_part s ≡ of_switch p.value.free (expr_code p.value.operand) p.value.labels.items (map stmt_part p.value.parts.items) (stmt_part p.value.last)
switch_is s p h =
    ap stmt_part (h ∙ sym (plans.rolls-Switch p))
    ∙ fold-roll-StmtPlan StmtCode StmtCode StmtCode StmtCode StmtCode stmt_step branch_step loop_step switch_step tested_step (StmtPlan-F.Switch p)
    ∙ switch_part_is p.value

pub return_is : (s : StmtPlan) (t : ℕ) (e : ExprPlan) → s ≡ plans.Return t e → stmt_part s ≡ of_return t (expr_code e)
return_is s t e h =
    ap stmt_part (h ∙ sym (plans.rolls-Return t e))
    ∙ fold-roll-StmtPlan StmtCode StmtCode StmtCode StmtCode StmtCode stmt_step branch_step loop_step switch_step tested_step (StmtPlan-F.Return t e)
