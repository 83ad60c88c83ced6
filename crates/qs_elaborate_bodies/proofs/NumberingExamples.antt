-- The numbers of temporaries over the parts of loops and of nested operators.
use Rattle.std.proofs.Common.{◌≡◌, ℕ, List, [], ◌∷◌, Some, refl}
use Rattle.qs_memory.specs.declared.scalar.Scalar.TheVariants.{Int}
use Rattle.qs_calls.specs.declared.callee.Callee.{Callee}
use Rattle.qs_calls.specs.declared.callee.Callee.TheVariants.{Function}
use Rattle.qs_core.specs.Trees.{CoreExprTree, temporary, CoreStmtTree, skip, seq, stmts_of}
use Rattle.qs_core.specs.Trees as core
use Rattle.qs_meaning.specs.Typed.{unchanged, Expr, value, called, logical_and, logical_or, conditional, variable, no_arguments, set, Effect, assign, evaluate, while_loop, do_loop, for_loop}
use Rattle.qs_elaborate_bodies.specs.Parts.{Temporaries, keep, written, Valued, Listed, plain}
use Rattle.qs_elaborate_bodies.specs.Expressions.{truth_core, truth_literal, expression_core}
use Rattle.qs_elaborate_bodies.specs.Statements.{statement_core}

abbrev x : Expr
x = value Int (variable 0)

abbrev core_x : CoreExprTree
core_x = core.variable Int 0

abbrev y : Expr
y = value Int (variable 1)

abbrev core_y : CoreExprTree
core_y = core.variable Int 1

abbrev function_f : Callee
function_f = Function (record { 0 = 0 })

-- f()
abbrev f : Expr
f = called Int function_f no_arguments

abbrev calls_f : ℕ → CoreStmtTree
calls_f k = core.call (Some k) function_f []

abbrev result : ℕ → CoreExprTree
result k = temporary Int k

-- x=f()
abbrev x_set : Effect
x_set = assign (set Int (variable 0) unchanged f)

abbrev sets_x : ℕ → CoreStmtTree
sets_x k = seq (stmts_of (calls_f k ∷ written Int (plain 0) (result k) ∷ []))

abbrev does : List CoreStmtTree → Temporaries → Listed
does ss ts = record { statements = ss; temporaries = ts }

abbrev gives : List CoreStmtTree → CoreExprTree → Temporaries → Valued
gives ss e ts = record { statements = ss; value = e; temporaries = ts }

-- ---- loops

-- while(f())x=f(); the condition before the body
while_numbered :
    statement_core (while_loop f (evaluate x_set)) []
    ≡ does (core.loop (seq (stmts_of (calls_f 0 ∷ core.branch (result 0) (sets_x 1) core.break ∷ []))) skip ∷ []) (Int ∷ Int ∷ [])
while_numbered = refl

-- do x=f(); while(f()); the body before the condition
do_numbered :
    statement_core (do_loop (evaluate x_set) f) []
    ≡ does (core.loop (sets_x 0) (seq (stmts_of (calls_f 1 ∷ core.branch (result 1) skip core.break ∷ []))) ∷ []) (Int ∷ Int ∷ [])
do_numbered = refl

-- for(x=f();f();x=f())x=f(); the start, the condition, the body, the step
for_numbered :
    statement_core (for_loop x_set (Some f) x_set (evaluate x_set)) []
    ≡ does (
    calls_f 0
    ∷ written Int (plain 0) (result 0)
    ∷ core.loop (seq (stmts_of (calls_f 1 ∷ core.branch (result 1) (sets_x 2) core.break ∷ []))) (sets_x 3)
    ∷ []) (Int ∷ Int ∷ Int ∷ Int ∷ [])
for_numbered = refl

-- ---- nested operators

-- f()&&f()
both_act :
    expression_core (logical_and f f) []
    ≡ gives (calls_f 0 ∷ core.branch (result 0) (seq (stmts_of (calls_f 1 ∷ keep 2 (truth_core (result 1)) ∷ []))) (keep 2 (truth_literal 0)) ∷ []) (result 2)
    (Int ∷ Int ∷ Int ∷ [])
both_act = refl

-- f()||f()
either_acts :
    expression_core (logical_or f f) []
    ≡ gives (calls_f 0 ∷ core.branch (result 0) (keep 1 (truth_literal 1)) (seq (stmts_of (calls_f 2 ∷ keep 1 (truth_core (result 2)) ∷ []))) ∷ []) (result 1)
    (Int ∷ Int ∷ Int ∷ [])
either_acts = refl

-- x&&(y||f())
or_in_and :
    expression_core (logical_and x (logical_or y f)) []
    ≡ gives (core.branch core_x
    (seq (stmts_of (core.branch core_y (keep 0 (truth_literal 1)) (seq (stmts_of (calls_f 1 ∷ keep 0 (truth_core (result 1)) ∷ []))) ∷ keep 2 (truth_core (result 0)) ∷ [])))
    (keep 2 (truth_literal 0)) ∷ []) (result 2) (Int ∷ Int ∷ Int ∷ [])
or_in_and = refl

-- x?f():(y&&f())
and_in_choice :
    expression_core (conditional Int x unchanged unchanged f (logical_and y f)) []
    ≡ gives (core.branch core_x
    (seq (stmts_of (calls_f 0 ∷ keep 1 (result 0) ∷ [])))
    (seq (stmts_of (core.branch core_y (seq (stmts_of (calls_f 2 ∷ keep 3 (truth_core (result 2)) ∷ []))) (keep 3 (truth_literal 0)) ∷ keep 1 (result 3) ∷ []))) ∷ [])
    (result 1) (Int ∷ Int ∷ Int ∷ Int ∷ [])
and_in_choice = refl

-- x?f():y, where only the second operand acts
second_acts :
    expression_core (conditional Int x unchanged unchanged f y) []
    ≡ gives (core.branch core_x (seq (stmts_of (calls_f 0 ∷ keep 1 (result 0) ∷ []))) (keep 1 core_y) ∷ []) (result 1) (Int ∷ Int ∷ [])
second_acts = refl
