-- What the walk over a body finds at a node before it goes into the parts.
use Rattle.std.specs.Prelude.{◌≡◌, ℕ, ◌==◌, List, [], length, not, Result, MatchResult, Ok, Err}
use Rattle.std.specs.Borrow.{Bor}
use Rattle.qs_base.specs.Results.{require}
use Rattle.qs_assert.specs.Trees.{AssertionTree}
use Rattle.qs_core.specs.declared.labels.CoreLabel.{CoreLabel}
use Rattle.qs_core.specs.declared.statements.CoreStmt.{CoreStmt}
use Rattle.qs_core.specs.TreeOf.{core_expr, core_stmt, core_stmts}
use Rattle.qs_core.specs.Trees.{CoreExprTree, CoreStmtTree, CoreStmts, stmts_of}
use Rattle.qs_triples.specs.Derivations.{DerivationTree}
use Rattle.qs_triples.specs.Forms.{IsBranchOf}
use Rattle.qs_triples.specs.Mentions.{in_body, first_other}
use Rattle.qs_triples.specs.Rules.{Answer, Scope, shape, unless, of_sequence, of_branch, of_loop, of_switch, is_consequence, count_stmts}
use Rattle.qs_triples.specs.Told.{FailsAs}
use Rattle.qs_triples.specs.declared.failure.Failure.{Failure}
use Rattle.qs_triples.specs.declared.forms.Branches.{Branches}
use Rattle.qs_triples.specs.declared.forms.Cases.{Cases}
use Rattle.qs_triples.specs.declared.forms.Turns.{Turns}

-- a variable of the invariant or assertion of a node that it may not mention comes before all else
abbrev pub allowed : Scope → AssertionTree → Answer → Answer
allowed c a next = unless (first_other c.function (in_body c.function) a) next

-- ---- sequences: as many parts as derivations

abbrev pub as_many : CoreStmtTree → (derivations : ℕ) → (CoreStmts → Answer) → Answer
as_many s count rule = of_sequence s (λ ss. require (count == count_stmts ss) (shape []) (rule ss))

-- its parts, or how it fails whatever its rule
abbrev pub HasParts : List CoreStmt → CoreStmtTree → (derivations : ℕ) → Type 0
HasParts ss s count =
    (length ss ≡ count) × ((rule : CoreStmts → Answer) → as_many s count rule ≡ rule (stmts_of (core_stmts ss)))

abbrev pub HasNoParts : Failure → CoreStmtTree → (derivations : ℕ) → Type 0
HasNoParts failure s count = (rule : CoreStmts → Answer) → FailsAs failure (as_many s count rule)

abbrev pub GivesParts : Result (Bor (List CoreStmt)) Failure → CoreStmt → (derivations : ℕ) → Type 0
GivesParts result s count =
    MatchResult result (λ ss. HasParts ss.now (core_stmt s) count) (λ failure. HasNoParts failure (core_stmt s) count)

-- ---- switches: the same

abbrev pub of_cases : CoreStmtTree → (derivations : ℕ) → (CoreExprTree → List CoreLabel → CoreStmts → Answer) → Answer
of_cases s count rule = of_switch s (λ e labels ss. require (count == count_stmts ss) (shape []) (rule e labels ss))

abbrev pub HasCases : Cases → CoreStmtTree → (derivations : ℕ) → Type 0
HasCases c s count =
    (length c.parts.now ≡ count)
    × ((rule : CoreExprTree → List CoreLabel → CoreStmts → Answer)
    → of_cases s count rule ≡ rule (core_expr c.operand.now) c.labels.now (stmts_of (core_stmts c.parts.now)))

abbrev pub HasNoCases : Failure → CoreStmtTree → (derivations : ℕ) → Type 0
HasNoCases failure s count =
    (rule : CoreExprTree → List CoreLabel → CoreStmts → Answer) → FailsAs failure (of_cases s count rule)

abbrev pub GivesCases : Result Cases Failure → CoreStmt → (derivations : ℕ) → Type 0
GivesCases result s count =
    MatchResult result (λ c. HasCases c (core_stmt s) count) (λ failure. HasNoCases failure (core_stmt s) count)

-- ---- conditionals

abbrev pub HasNoBranches : Failure → CoreStmtTree → Type 0
HasNoBranches failure s =
    (rule : CoreExprTree → CoreStmtTree → CoreStmtTree → Answer) → FailsAs failure (of_branch s rule)

abbrev pub GivesBranches : Result Branches Failure → CoreStmt → Type 0
GivesBranches result s =
    MatchResult result (λ b. IsBranchOf b (core_stmt s)) (λ failure. HasNoBranches failure (core_stmt s))

-- ---- loops with an invariant

abbrev pub under_invariant : Scope → AssertionTree → CoreStmtTree → (CoreStmtTree → CoreStmtTree → Answer) → Answer
under_invariant c i s rule = of_loop s (λ body step. allowed c i (rule body step))

abbrev pub HasTurns : Turns → Scope → AssertionTree → CoreStmtTree → Type 0
HasTurns t c i s =
    (rule : CoreStmtTree → CoreStmtTree → Answer)
    → under_invariant c i s rule ≡ rule (core_stmt t.body.now) (core_stmt t.step.now)

abbrev pub HasNoTurns : Failure → Scope → AssertionTree → CoreStmtTree → Type 0
HasNoTurns failure c i s =
    (rule : CoreStmtTree → CoreStmtTree → Answer) → FailsAs failure (under_invariant c i s rule)

abbrev pub GivesTurns : Result Turns Failure → Scope → AssertionTree → CoreStmt → Type 0
GivesTurns result c i s =
    MatchResult result (λ t. HasTurns t c i (core_stmt s)) (λ failure. HasNoTurns failure c i (core_stmt s))

-- ---- consequences

abbrev pub drawn : Scope → AssertionTree → DerivationTree → Answer → Answer
drawn c r d next = require (not (is_consequence d)) (shape []) (allowed c r next)

abbrev pub MayDraw : Result (Unit {0}) Failure → Scope → AssertionTree → DerivationTree → Type 0
MayDraw (Ok u) c r d = (next : Answer) → drawn c r d next ≡ next
MayDraw (Err failure) c r d = (next : Answer) → FailsAs failure (drawn c r d next)
