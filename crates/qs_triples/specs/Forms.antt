-- What a statement of a form is made of, whatever its rule; or that it has another form.
use Rattle.std.specs.Prelude.{◌≡◌, ℕ, List, [], Option, MatchOption, Err}
use Rattle.qs_calls.specs.declared.callee.Callee.{Callee}
use Rattle.qs_core.specs.declared.expressions.CoreExpr.{CoreExpr}
use Rattle.qs_core.specs.declared.labels.CoreLabel.{CoreLabel}
use Rattle.qs_core.specs.declared.statements.CoreStmt.{CoreStmt}
use Rattle.qs_core.specs.TreeOf.{core_expr, core_exprs, core_stmt, core_stmts}
use Rattle.qs_core.specs.Trees.{CoreExprTree, CoreStmtTree, CoreStmts, stmts_of}
use Rattle.qs_triples.specs.Rules.{Answer, CallSite, shape, of_sequence, of_branch, of_loop, of_switch, of_callee, of_call}
use Rattle.qs_triples.specs.declared.forms.Branches.{Branches}
use Rattle.qs_triples.specs.declared.forms.Cases.{Cases}
use Rattle.qs_triples.specs.declared.forms.Site.{Site}
use Rattle.qs_triples.specs.declared.forms.Turns.{Turns}

-- what a statement of the form is made of, or that it has another
abbrev pub TellsForm : {X : Type 0} → Option X → (CoreStmtTree → Type 0) → (X → CoreStmtTree → Type 0) → CoreStmt → Type 0
TellsForm found IsNone IsOf s = MatchOption found (IsNone (core_stmt s)) (λ x. IsOf x (core_stmt s))

-- ---- sequences

abbrev pub IsSequenceOf : List CoreStmt → CoreStmtTree → Type 0
IsSequenceOf ss s = (rule : CoreStmts → Answer) → of_sequence s rule ≡ rule (stmts_of (core_stmts ss))

abbrev pub IsNoSequence : CoreStmtTree → Type 0
IsNoSequence s = (rule : CoreStmts → Answer) → of_sequence s rule ≡ Err (shape [])

-- ---- conditionals

abbrev pub IsBranchOf : Branches → CoreStmtTree → Type 0
IsBranchOf b s =
    (rule : CoreExprTree → CoreStmtTree → CoreStmtTree → Answer)
    → of_branch s rule ≡ rule (core_expr b.condition.now) (core_stmt b.first.now) (core_stmt b.second.now)

abbrev pub IsNoBranch : CoreStmtTree → Type 0
IsNoBranch s = (rule : CoreExprTree → CoreStmtTree → CoreStmtTree → Answer) → of_branch s rule ≡ Err (shape [])

-- ---- loops

abbrev pub IsLoopOf : Turns → CoreStmtTree → Type 0
IsLoopOf t s =
    (rule : CoreStmtTree → CoreStmtTree → Answer)
    → of_loop s rule ≡ rule (core_stmt t.body.now) (core_stmt t.step.now)

abbrev pub IsNoLoop : CoreStmtTree → Type 0
IsNoLoop s = (rule : CoreStmtTree → CoreStmtTree → Answer) → of_loop s rule ≡ Err (shape [])

-- ---- switches

abbrev pub IsSwitchOf : Cases → CoreStmtTree → Type 0
IsSwitchOf c s =
    (rule : CoreExprTree → List CoreLabel → CoreStmts → Answer)
    → of_switch s rule ≡ rule (core_expr c.operand.now) c.labels.now (stmts_of (core_stmts c.parts.now))

abbrev pub IsNoSwitch : CoreStmtTree → Type 0
IsNoSwitch s = (rule : CoreExprTree → List CoreLabel → CoreStmts → Answer) → of_switch s rule ≡ Err (shape [])

-- ---- calls of functions with a body

abbrev pub site_view : Site → CallSite
site_view c = record { destination = c.destination; function = c.function.0; arguments = core_exprs c.arguments.now }

abbrev pub IsCalleeOf : Site → Option ℕ → Callee → List CoreExpr → Type 0
IsCalleeOf c x g es = (rule : CallSite → Answer) → of_callee x g (core_exprs es) rule ≡ rule (site_view c)

abbrev pub IsNoCallee : Option ℕ → Callee → List CoreExpr → Type 0
IsNoCallee x g es = (rule : CallSite → Answer) → of_callee x g (core_exprs es) rule ≡ Err (shape [])

abbrev pub TellsCallee : Option ℕ → Callee → List CoreExpr → Option Site → Type 0
TellsCallee x g es found = MatchOption found (IsNoCallee x g es) (λ c. IsCalleeOf c x g es)

abbrev pub IsCallOf : Site → CoreStmtTree → Type 0
IsCallOf c s = (rule : CallSite → Answer) → of_call s rule ≡ rule (site_view c)

abbrev pub IsNoCall : CoreStmtTree → Type 0
IsNoCall s = (rule : CallSite → Answer) → of_call s rule ≡ Err (shape [])
