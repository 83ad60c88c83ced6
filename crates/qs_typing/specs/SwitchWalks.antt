-- How walks in code go over switches and their labels, as the definitions say.
use Rattle.std.specs.Prelude.{◌≡◌, ℕ, Bool, List, ◌++◌, Option, map, option_to_list}
use Rattle.qs_syntax.specs.declared.expressions.Expr.{Expr}
use Rattle.qs_syntax.specs.declared.nodes.Node.{Node}
use Rattle.qs_syntax.specs.declared.statements.Stmt.{Stmt}
use Rattle.qs_syntax.specs.TreeOf.{expr_tree, stmts_tree}
use Rattle.qs_syntax.specs.Trees.{switch, case_label, default_label}
use Rattle.qs_types.specs.declared.rules.Rule.TheVariants as rule
use Rattle.qs_types.specs.declared.types.CType.{CType}
use Rattle.qs_types.specs.Contexts.{with_case}
use Rattle.qs_types.specs.Expressions.{type_of}
use Rattle.qs_types.specs.Rules.{test}
use Rattle.qs_types.specs.StatementRules as rules
use Rattle.qs_typing_findings.specs.declared.context.Context.{Context}
use Rattle.qs_typing_findings.specs.declared.judged.Test.{Test}
use Rattle.qs_typing_findings.specs.declared.walk.Walk.{Walk}
use Rattle.qs_typing_findings.specs.ContextOf.{context_tree}
use Rattle.qs_typing_findings.specs.JudgedOf.{test_tree}
use Rattle.qs_typing_findings.specs.PartsOf.{option_type}
use Rattle.qs_typing_findings.specs.UnitWalk as walks
use Rattle.qs_typing_findings.specs.WalkOf.{walk_tree}

-- ---- the operand

-- the test of an operand of this type
abbrev pub IsSwitchTest : Option CType → Option Test → Type 0
IsSwitchTest t test = map test_tree (option_to_list test) ≡ rules.switch_tests (option_type t)

-- the promoted type of the operand, where it is an integer
abbrev pub IsOperandType : Context → Expr → Option CType → Type 0
IsOperandType c e t = option_type t ≡ rules.operand_type (type_of (context_tree c) (expr_tree e))

abbrev pub WalksOperand : Context → Node → Expr → (before after : Walk) → Type 0
WalksOperand c node e before after = walk_tree after ≡ walks.operand_walked (context_tree c) node (expr_tree e) (walk_tree before)

abbrev pub WalksSwitch : Context → Node → Expr → List Stmt → (before after : Walk) → Type 0
WalksSwitch c node e items before after =
    walk_tree after ≡ walks.statement_walked (context_tree c) (switch node (expr_tree e) (stmts_tree items)) (walk_tree before)

-- ---- labels

-- a `case` is judged whose expression has this type and this value, which a `case` before has or hasn't
abbrev pub JudgesCase : Node → Option CType → (constant : Option ℕ) → (is_met : Bool) → (before after : Walk) → Type 0
JudgesCase node t constant is_met before after =
    walk_tree after ≡ walks.node_judged node (rules.constant_tests (option_type t) constant ++ test rule.LabelTwice is_met) (walk_tree before)

abbrev pub KnowsLabel : Expr → (before after : Context) → Type 0
KnowsLabel e before after = context_tree after ≡ with_case (context_tree before) (rules.case_value (context_tree before) (expr_tree e))

abbrev pub WalksCase : Context → Node → Expr → (before after : Walk) → Type 0
WalksCase c node e before after = walk_tree after ≡ walks.statement_walked (context_tree c) (case_label node (expr_tree e)) (walk_tree before)

abbrev pub WalksDefault : Context → Node → (before after : Walk) → Type 0
WalksDefault c node before after = walk_tree after ≡ walks.statement_walked (context_tree c) (default_label node) (walk_tree before)
