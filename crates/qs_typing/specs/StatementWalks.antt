-- How walks in code go over statements, as the definitions say.
use Rattle.std.specs.Prelude.{◌≡◌, Bool, List, Option, Result, Box, OnOk, map, option_to_list}
use Rattle.std.specs.Borrow.{Bor}
use Rattle.std.specs.declared.alloc.Global.{Global}
use Rattle.qs_syntax.specs.declared.expressions.Expr.{Expr}
use Rattle.qs_syntax.specs.declared.nodes.Node.{Node}
use Rattle.qs_syntax.specs.declared.statements.Start.{Start}
use Rattle.qs_syntax.specs.declared.statements.Stmt.{Stmt}
use Rattle.qs_syntax.specs.TreeOf.{else_tree, expr_tree, option_tree, start_tree, stmt_tree, stmts_tree}
use Rattle.qs_syntax.specs.Trees.{branch, while_loop, do_loop, for_loop, return}
use Rattle.qs_types.specs.declared.types.CType.{CType}
use Rattle.qs_types.specs.Contexts.{inner_scope, inside_loop}
use Rattle.qs_types.specs.ExpressionFaults.{discarded}
use Rattle.qs_types.specs.Expressions.{type_of}
use Rattle.qs_types.specs.Layout.{and_then}
use Rattle.qs_types.specs.declared.rules.Rule.TheVariants as rule
use Rattle.qs_types.specs.Rules.{keeps}
use Rattle.qs_types.specs.StatementRules as rules
use Rattle.qs_types.specs.TypeOf.{type_tree}
use Rattle.qs_typing_findings.specs.declared.context.Context.{Context}
use Rattle.qs_typing_findings.specs.declared.judged.Test.{Test}
use Rattle.qs_typing_findings.specs.declared.positions.Position.{Position}
use Rattle.qs_typing_findings.specs.declared.walk.Walk.{Walk}
use Rattle.qs_typing_findings.specs.ContextOf.{context_tree}
use Rattle.qs_typing_findings.specs.PartsOf.{option_type, type_at}
use Rattle.qs_typing_findings.specs.JudgedOf.{test_tree}
use Rattle.qs_typing_findings.specs.PositionOf.{position_tree}
use Rattle.qs_typing_findings.specs.Statements.{after_statements, head_tests_by, head_walked, return_tests_by}
use Rattle.qs_typing_findings.specs.UnitWalk as walks
use Rattle.qs_typing_findings.specs.WalkOf.{walk_tree}

-- ---- expressions in statements

-- the test of a condition of this type
abbrev pub IsConditionTest : Option CType → Option Test → Type 0
IsConditionTest t test = map test_tree (option_to_list test) ≡ rules.condition_tests (option_type t)

abbrev pub JudgesOne : Node → Option Test → (before after : Walk) → Type 0
JudgesOne node t before after = walk_tree after ≡ walks.node_judged node (map test_tree (option_to_list t)) (walk_tree before)

abbrev pub WalksCondition : Context → Node → Expr → (before after : Walk) → Type 0
WalksCondition c node e before after = walk_tree after ≡ walks.condition_walked (context_tree c) node (expr_tree e) (walk_tree before)

-- the type of an expression, where it is there
abbrev pub IsOptionType : Context → Option Expr → Option CType → Type 0
IsOptionType c e t = option_type t ≡ and_then (option_tree e) (type_of (context_tree c))

abbrev pub WalksOption : Context → Position → Option Expr → (before after : Walk) → Type 0
WalksOption c p e before after = walk_tree after ≡ walks.option_walked (context_tree c) (position_tree p) (option_tree e) (walk_tree before)

-- the test of a `return` of this expression, whose type is t, where the result is this
abbrev pub IsReturned : (to : CType) → Expr → Option CType → Option Test → Type 0
IsReturned to e t test = map test_tree (option_to_list test) ≡ rules.returns (type_tree to) (expr_tree e) (option_type t)

abbrev pub IsReturnTest : (to : Option (Bor CType)) → Option Expr → Option CType → Option Test → Type 0
IsReturnTest to e t test = map test_tree (option_to_list test) ≡ return_tests_by (type_at to) (option_tree e) (option_type t)

abbrev pub WalksReturn : Context → Node → Option Expr → (before after : Walk) → Type 0
WalksReturn c node e before after = walk_tree after ≡ walks.statement_walked (context_tree c) (return node (option_tree e)) (walk_tree before)

-- a `break` or `continue` is opened and judged
abbrev pub JudgesJump : Node → (may : Bool) → (before after : Walk) → Type 0
JudgesJump node may before after =
    walk_tree after ≡ walks.node_judged node (keeps rule.MisplacedJump may) (walks.node_opened (walk_tree before))

-- ---- what a `for` begins with

abbrev pub IsStartTyped : Context → Start → Bool → Type 0
IsStartTyped c start b = b ≡ rules.start_typed (context_tree c) (start_tree start)

abbrev pub KnowsStart : Start → (before after : Context) → Type 0
KnowsStart start before after = context_tree after ≡ rules.after_start (context_tree before) (start_tree start)

abbrev pub WalksStart : Context → Start → (before after : Walk) → Type 0
WalksStart c start before after = walk_tree after ≡ walks.start_walked (context_tree c) (start_tree start) (walk_tree before)

-- the test of a `for` whose step has the type u and whose condition the type t
abbrev pub IsHeadTest : (start_typed : Bool) → (step : Option Expr) → (u t : Option CType) → Option Test → Type 0
IsHeadTest start_typed step u t test =
    map test_tree (option_to_list test) ≡ head_tests_by start_typed (option_tree step) (option_type u) (option_type t)

abbrev pub WalksHead : Context → Node → (start_typed : Bool) → (condition step : Option Expr) → (before after : Walk) → Type 0
WalksHead c node start_typed condition step before after =
    walk_tree after ≡ head_walked (context_tree c) node start_typed (option_tree condition) (option_tree step) (walk_tree before)

-- ---- statements

abbrev pub KnowsStatement : Stmt → (before after : Context) → Type 0
KnowsStatement s before after = context_tree after ≡ rules.after_statement (context_tree before) (stmt_tree s)

abbrev pub WalksStatement : Context → Stmt → (before after : Walk) → Type 0
WalksStatement c s before after = walk_tree after ≡ walks.statement_walked (context_tree c) (stmt_tree s) (walk_tree before)

-- a statement that is a part of another is a scope (6.8.4p3)
abbrev pub WalksPart : Context → Stmt → (before after : Walk) → Type 0
WalksPart c s before after = walk_tree after ≡ walks.statement_walked (inner_scope (context_tree c)) (stmt_tree s) (walk_tree before)

-- and so is the body of a loop (6.8.5p5)
abbrev pub WalksBody : Context → Stmt → (before after : Walk) → Type 0
WalksBody c s before after =
    walk_tree after ≡ walks.statement_walked (inside_loop (inner_scope (context_tree c))) (stmt_tree s) (walk_tree before)

abbrev pub WalksElse : Context → Option (Box Stmt Global) → (before after : Walk) → Type 0
WalksElse c s before after = walk_tree after ≡ walks.else_walked (context_tree c) (else_tree s) (walk_tree before)

abbrev pub WalksBlock : Context → List Stmt → (before after : Walk) → Type 0
WalksBlock c items before after = walk_tree after ≡ walks.statements_walked (inner_scope (context_tree c)) (stmts_tree items) (walk_tree before)

abbrev pub KnowsStatements : List Stmt → (before after : Context) → Type 0
KnowsStatements items before after = context_tree after ≡ after_statements (context_tree before) (stmts_tree items)

abbrev pub WalksStatements : Context → List Stmt → (before after : Walk) → Type 0
WalksStatements c items before after = walk_tree after ≡ walks.statements_walked (context_tree c) (stmts_tree items) (walk_tree before)

abbrev pub WalksDiscarded : Context → Expr → (before after : Walk) → Type 0
WalksDiscarded c e before after = walk_tree after ≡ walks.expr_walked (context_tree c) discarded (expr_tree e) (walks.node_opened (walk_tree before))

-- ---- branches and loops

abbrev pub WalksIf : Context → Node → Expr → Stmt → Option (Box Stmt Global) → (before after : Walk) → Type 0
WalksIf c node e s r before after =
    walk_tree after ≡ walks.statement_walked (context_tree c) (branch node (expr_tree e) (stmt_tree s) (else_tree r)) (walk_tree before)

abbrev pub WalksWhile : Context → Node → Expr → Stmt → (before after : Walk) → Type 0
WalksWhile c node e s before after =
    walk_tree after ≡ walks.statement_walked (context_tree c) (while_loop node (expr_tree e) (stmt_tree s)) (walk_tree before)

abbrev pub WalksDo : Context → Node → Stmt → Expr → (before after : Walk) → Type 0
WalksDo c node s e before after =
    walk_tree after ≡ walks.statement_walked (context_tree c) (do_loop node (stmt_tree s) (expr_tree e)) (walk_tree before)

-- the walk of a `for`, where memory suffices
abbrev pub WalksFor :
    {A E : Type 0} → Context → Node → Start → (condition step : Option Expr) → Stmt → (before after : Walk) → Result A E → Type 0
WalksFor c node start condition step s before after result =
    OnOk result
    (walk_tree after
    ≡ walks.statement_walked (context_tree c) (for_loop node (start_tree start) (option_tree condition) (option_tree step) (stmt_tree s)) (walk_tree before))
