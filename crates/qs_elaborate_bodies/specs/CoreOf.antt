-- What expressions and statements in code are in core, where the function has these temporaries so far.
use Rattle.std.specs.Prelude.{ℕ, Bool, List, [], Option, length}
use Rattle.std.specs.Global.{Vec}
use Rattle.qs_memory.specs.declared.scalar.Scalar.{Scalar}
use Rattle.qs_memory.specs.declared.operation.BinaryOperation.{BinaryOperation}
use Rattle.qs_calls.specs.declared.callee.Callee.{Callee}
use Rattle.qs_core.specs.Trees.{CoreExprTree, CoreStmtTree}
use Rattle.qs_core.specs.Trees as core
use Rattle.qs_core.specs.TreeOf.{core_expr, core_stmt, core_stmts}
use Rattle.qs_core.specs.declared.expressions.CoreExpr.{CoreExpr}
use Rattle.qs_core.specs.declared.labels.CoreLabel.{CoreLabel}
use Rattle.qs_core.specs.declared.statements.CoreStmt.{CoreStmt}
use Rattle.qs_meaning.specs.Fits.{is_label}
use Rattle.qs_typed_trees.specs.TreeOf.{conversion_tree, order_tree, expression_tree, lvalue_tree, arguments_tree, assignment_tree, effect_tree, effects_tree, option_expression, statement_tree, statements_tree}
use Rattle.qs_typed_trees.specs.declared.expressions.Conversion.{Conversion}
use Rattle.qs_typed_trees.specs.declared.expressions.Order.{Order}
use Rattle.qs_typed_trees.specs.declared.expressions.Expression.{Expression}
use Rattle.qs_typed_trees.specs.declared.expressions.Lvalue.{Lvalue}
use Rattle.qs_typed_trees.specs.declared.expressions.Argument.{Argument}
use Rattle.qs_typed_trees.specs.declared.expressions.Assignment.{Assignment}
use Rattle.qs_typed_trees.specs.declared.expressions.Effect.{Effect}
use Rattle.qs_typed_trees.specs.declared.statements.Statement.{Statement}
use Rattle.qs_elaborate_bodies.specs.Literals.{is_literal, converted_core}
use Rattle.qs_elaborate_bodies.specs.Parts as parts
use Rattle.qs_elaborate_bodies.specs.Parts.{Valued, Listed, Located, pure, address_saved_if, value_read}
use Rattle.qs_elaborate_bodies.specs.LocationOf.{location_of}
use Rattle.qs_elaborate_bodies.specs.Expressions as spec
use Rattle.qs_elaborate_bodies.specs.Lists.{and_behind, or_behind, choice_behind, valued, located}
use Rattle.qs_elaborate_bodies.specs.Statements as statements
use Rattle.qs_elaborate_bodies.specs.Turns as turns
use Rattle.qs_elaborate_bodies.specs.Reserved as reserving
use Rattle.qs_elaborate_bodies.specs.declared.parts.Location.{Location}
use Rattle.qs_elaborate_bodies.specs.declared.branching.Branch.{Branch}
use Rattle.qs_elaborate_bodies.specs.declared.writing.Written.{Written}
use Rattle.qs_elaborate_bodies.specs.declared.reserving.Reserved.{Reserved}

-- ---- operations

abbrev pub converted : Conversion → CoreExpr → CoreExprTree
converted c a = converted_core (conversion_tree c) (core_expr a)

abbrev pub in_their_order : BinaryOperation → Order → (a b : CoreExpr) → CoreExprTree
in_their_order operation order a b = spec.in_their_order operation (order_tree order) (core_expr a) (core_expr b)

abbrev pub operated : BinaryOperation → Order → (left right : Conversion) → (a b : CoreExpr) → CoreExprTree
operated operation order left right a b =
    spec.operation_core operation (order_tree order) (conversion_tree left) (conversion_tree right) (core_expr a) (core_expr b)

abbrev pub updated : BinaryOperation → (left right back : Conversion) → (a b : CoreExpr) → CoreExprTree
updated operation left right back a b =
    spec.updated_core operation (conversion_tree left) (conversion_tree right) (conversion_tree back) (core_expr a) (core_expr b)

abbrev pub chosen : (condition met unmet : CoreExpr) → CoreExprTree
chosen condition met unmet = core.conditional (core_expr condition) (core_expr met) (core_expr unmet)

-- ---- values that have to last

abbrev pub in_temporary : CoreExpr → Vec Scalar → Valued
in_temporary a ts = parts.in_temporary (pure (core_expr a) ts.items)

abbrev pub saved : CoreExpr → Vec Scalar → Valued
saved a ts = parts.saved (pure (core_expr a) ts.items)

abbrev pub saved_if : (later_acts : Bool) → CoreExpr → Vec Scalar → Valued
saved_if later_acts a ts = parts.saved_if later_acts (pure (core_expr a) ts.items)

-- ---- expressions

abbrev pub expression : Expression → Vec Scalar → Valued
expression e ts = spec.expression_core (expression_tree e) ts.items

abbrev pub operand : (later_acts : Bool) → Expression → Vec Scalar → Valued
operand later_acts e ts = parts.saved_if later_acts (expression e ts)

abbrev pub address : (later_acts : Bool) → Lvalue → Vec Scalar → Located
address later_acts l ts = address_saved_if later_acts (spec.lvalue_core (lvalue_tree l) ts.items)

abbrev pub value_of : Scalar → Lvalue → Vec Scalar → Valued
value_of s l ts = value_read s (spec.lvalue_core (lvalue_tree l) ts.items)

abbrev pub arguments : List Argument → Vec Scalar → spec.ValuedAll
arguments given ts = spec.arguments_core (arguments_tree given) ts.items

abbrev pub called : Scalar → Callee → List Argument → Vec Scalar → Valued
called s f given ts = spec.call_valued s f (arguments given ts)

abbrev pub assignment : Assignment → Vec Scalar → spec.Written
assignment a ts = spec.assignment_core (assignment_tree a) ts.items

abbrev pub effect : Effect → Vec Scalar → Listed
effect a ts = spec.effect_core (effect_tree a) ts.items

abbrev pub effects : List Effect → Vec Scalar → Listed
effects all ts = spec.effect_core (effects_tree all) ts.items

-- ---- `&&`, `||` and `?:`

abbrev pub statements_in : Branch → List CoreStmtTree
statements_in b = core_stmts b.statements.items

abbrev pub branch : Branch → Vec Scalar → Valued
branch b ts = valued (statements_in b) (core_expr b.value) ts.items

-- a branch that gives the temporary its value, and one that gives it whether this differs from 0

abbrev pub value_branch : (temporary : ℕ) → Branch → CoreStmtTree
value_branch k b = spec.branch_with (statements_in b) k (core_expr b.value)

abbrev pub truth_branch : (temporary : ℕ) → Branch → CoreStmtTree
truth_branch k b = spec.branch_with (statements_in b) k (spec.truth_core (core_expr b.value))

abbrev pub literal_branch : (temporary value : ℕ) → CoreStmtTree
literal_branch k n = spec.branch_with [] k (spec.truth_literal n)

abbrev pub branched : CoreExpr → (met unmet : CoreStmt) → CoreStmtTree
branched condition met unmet = core.branch (core_expr condition) (core_stmt met) (core_stmt unmet)

abbrev pub and_branching : CoreExpr → Branch → Vec Scalar → Valued
and_branching v b ts = spec.and_branching (pure (core_expr v) []) (branch b ts)

abbrev pub or_branching : (temporary : ℕ) → CoreExpr → Branch → CoreStmtTree
or_branching k v b = core.branch (core_expr v) (literal_branch k 1) (truth_branch k b)

abbrev pub choice_branching : (temporary : ℕ) → CoreExpr → (a b : Branch) → CoreStmtTree
choice_branching k v a b = core.branch (core_expr v) (value_branch k a) (value_branch k b)

-- the same behind the first operand, whose value is v

abbrev pub conjunction : CoreExpr → Expression → Vec Scalar → Valued
conjunction v b ts = and_behind (core_expr v) (expression_tree b) ts.items

abbrev pub disjunction : CoreExpr → Expression → Vec Scalar → Valued
disjunction v b ts = or_behind (core_expr v) (expression_tree b) ts.items

-- the second operand gave the branch
abbrev pub choice : Scalar → (c d : Conversion) → CoreExpr → Branch → Expression → Vec Scalar → Valued
choice s c d v met b ts =
    choice_behind s (conversion_tree c) (conversion_tree d) (core_expr v) (branch met ts) (expression_tree b)

-- ---- what is written

abbrev pub written_at : Written → parts.Location
written_at w = location_of w.location

abbrev pub written : Written → CoreStmtTree
written w = parts.written w.scalar (written_at w) (core_expr w.value)

abbrev pub write_pointed : Scalar → (p a : CoreExpr) → Vec Scalar → Valued
write_pointed s p a ts = spec.write_at s (parts.pointed (core_expr p)) [] (core_expr a) ts.items

abbrev pub write_valued : Written → Vec Scalar → Valued
write_valued w ts = spec.write_at w.scalar (written_at w) [] (core_expr w.value) ts.items

-- `l++` and `l--`
abbrev pub step : Scalar → BinaryOperation → (left back : Conversion) → Location → Vec Scalar → Valued
step s op left back at ts = spec.step_valued s op (conversion_tree left) (conversion_tree back) (located (location_of at) ts.items)

-- ---- statements

abbrev pub looped : (body step : Vec CoreStmt) → CoreStmtTree
looped body step = statements.looped (core_stmts body.items) (core_stmts step.items)

abbrev pub statement : Statement → Vec Scalar → Listed
statement s ts = statements.statement_core (statement_tree s) ts.items

abbrev pub guarded : Expression → Statement → Vec Scalar → Listed
guarded e s ts = turns.guarded_turn (expression_tree e) (statement_tree s) ts.items

abbrev pub turn : (condition : Option Expression) → Statement → Vec Scalar → Listed
turn condition s ts = turns.turn (option_expression condition) (statement_tree s) ts.items

abbrev pub statements_of : List Statement → Vec Scalar → Listed
statements_of ss ts = statements.statements_core (statements_tree ss) ts.items

-- ---- switches; what stands behind these parts

abbrev pub label_of : (parts : Vec CoreStmt) → Statement → List CoreLabel
label_of parts s = statements.label_before (length parts.items) (statement_tree s)

abbrev pub behind : (parts : Vec CoreStmt) → Statement → ℕ
behind parts s = statements.part_behind (statement_tree s) (length parts.items)

abbrev pub item : Statement → Vec Scalar → Listed
item s ts = statements.parted (is_label (statement_tree s)) (statement s ts)

abbrev pub labels_of : (parts : Vec CoreStmt) → List Statement → List CoreLabel
labels_of parts ss = statements.labels_core (length parts.items) (statements_tree ss)

abbrev pub parts_of : List Statement → Vec Scalar → Listed
parts_of ss ts = statements.parts_core (statements_tree ss) ts.items

-- ---- reserved temporaries

abbrev pub reservation : CoreExpr → Vec CoreStmt → Vec Scalar → Option Reserved
reservation v out ts = reserving.reservation (is_literal (core_expr v)) (core_stmts out.items) ts.items

abbrev pub with_room : CoreExpr → Vec CoreStmt → List CoreStmtTree
with_room v out = reserving.with_room (is_literal (core_expr v)) (core_stmts out.items)

abbrev pub with_reserved : CoreExpr → Vec Scalar → parts.Temporaries
with_reserved v ts = reserving.with_reserved (is_literal (core_expr v)) (core_expr v) ts.items

abbrev pub settled_at : Reserved → CoreExpr → Vec CoreStmt → Vec Scalar → Valued
settled_at r v out ts = reserving.settled_at r (core_expr v) (core_stmts out.items) ts.items

abbrev pub settled : Option Reserved → CoreExpr → Vec CoreStmt → Vec Scalar → Valued
settled reserved v out ts = reserving.settled reserved (core_expr v) (core_stmts out.items) ts.items
