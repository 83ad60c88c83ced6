-- How walks in code go over expressions, as the definitions say.
use Rattle.std.specs.Prelude.{◌≡◌, ℕ, List, Option, Vec, option_to_list}
use Rattle.std.specs.declared.alloc.Global.{Global}
use Rattle.qs_syntax.specs.declared.expressions.Expr.{Expr}
use Rattle.qs_syntax.specs.declared.expressions.Shape.{Shape}
use Rattle.qs_syntax_vocabulary.specs.declared.operators.Access.{Access}
use Rattle.qs_syntax_vocabulary.specs.declared.operators.AssignmentOperator.{AssignmentOperator}
use Rattle.qs_syntax_vocabulary.specs.declared.operators.BinaryOperator.{BinaryOperator}
use Rattle.qs_syntax_vocabulary.specs.declared.operators.UnaryOperator.{UnaryOperator}
use Rattle.qs_syntax.specs.TreeOf.{expr_tree, exprs_tree, shape_tree}
use Rattle.qs_syntax.specs.Trees.{unary, binary, assign, conditional, comma, subscript, member}
use Rattle.qs_types.specs.declared.types.CType.{CType}
use Rattle.qs_types.specs.ExpressionFaults as faults
use Rattle.qs_types.specs.ExpressionFaults.{used, discarded, operand_position, assigned_position, object_position, right_position, own_tests, position_tests}
use Rattle.qs_types.specs.Expressions.{shape_judged, type_of, types_of}
use Rattle.qs_types.specs.Placed.{named_local, operand_of}
use Rattle.qs_typing_findings.specs.declared.context.Context.{Context}
use Rattle.qs_typing_findings.specs.declared.found.Found.{Found}
use Rattle.qs_typing_findings.specs.declared.judged.Judged.{Judged}
use Rattle.qs_typing_findings.specs.declared.positions.Position.{Position}
use Rattle.qs_typing_findings.specs.ContextOf.{context_tree}
use Rattle.qs_typing_findings.specs.ExprFindings.{expr_findings}
use Rattle.qs_typing_findings.specs.Findings.{judged_at, with_findings}
use Rattle.qs_typing_findings.specs.FoundOf.{found_tree}
use Rattle.qs_typing_findings.specs.Judging.{option_judged}
use Rattle.qs_typing_findings.specs.PartsOf.{one_more, option_type, type_by, types_tree}
use Rattle.qs_typing_findings.specs.PositionOf.{position_tree}
use Rattle.qs_typing_findings.specs.Walk.{all_walked, parts_walked, walked, with_addressed}

-- ---- operands of `&`

abbrev pub NotesOperand : Context → UnaryOperator → Expr → (before after : Found) → Type 0
NotesOperand c operator a before after =
    found_tree after ≡ with_addressed (operand_of operator (named_local (context_tree c) (expr_tree a))) (found_tree before)

abbrev pub NotesNode : Option ℕ → (before after : Found) → Type 0
NotesNode node before after = found_tree after ≡ with_addressed (option_to_list node) (found_tree before)

-- ---- what a walk finds

-- the rules that a node breaks are noted
abbrev pub Settles : (node : ℕ) → Position → Shape → Option Judged → (before after : Found) → Type 0
Settles node p shape judged before after =
    found_tree after
    ≡ judged_at node (position_tests (position_tree p) (shape_tree shape) (type_by (option_judged judged)))
    (judged_at node (own_tests (option_judged judged)) (found_tree before))

abbrev pub HasType : Context → Expr → Option CType → Type 0
HasType c e t = option_type t ≡ type_of (context_tree c) (expr_tree e)

abbrev pub IsJudgedShape : Context → Shape → Option Judged → Type 0
IsJudgedShape c shape j = option_judged j ≡ shape_judged (context_tree c) (shape_tree shape)

-- what is judged of each form
abbrev pub IsJudgedUnary : Context → UnaryOperator → Expr → Option Judged → Type 0
IsJudgedUnary c operator a j = option_judged j ≡ shape_judged (context_tree c) (unary operator (expr_tree a))

abbrev pub IsJudgedBinary : Context → BinaryOperator → Expr → Expr → Option Judged → Type 0
IsJudgedBinary c operator a b j = option_judged j ≡ shape_judged (context_tree c) (binary operator (expr_tree a) (expr_tree b))

abbrev pub IsJudgedAssign : Context → AssignmentOperator → Expr → Expr → Option Judged → Type 0
IsJudgedAssign c operator a b j = option_judged j ≡ shape_judged (context_tree c) (assign operator (expr_tree a) (expr_tree b))

abbrev pub IsJudgedConditional : Context → Expr → Expr → Expr → Option Judged → Type 0
IsJudgedConditional c d a b j =
    option_judged j ≡ shape_judged (context_tree c) (conditional (expr_tree d) (expr_tree a) (expr_tree b))

abbrev pub IsJudgedComma : Context → Expr → Expr → Option Judged → Type 0
IsJudgedComma c a b j = option_judged j ≡ shape_judged (context_tree c) (comma (expr_tree a) (expr_tree b))

abbrev pub IsJudgedSubscript : Context → Expr → Expr → Option Judged → Type 0
IsJudgedSubscript c a b j = option_judged j ≡ shape_judged (context_tree c) (subscript (expr_tree a) (expr_tree b))

abbrev pub IsJudgedMember : Context → Access → Expr → (name : List ℕ) → Option Judged → Type 0
IsJudgedMember c access a name j = option_judged j ≡ shape_judged (context_tree c) (member access (expr_tree a) name)

abbrev pub HaveTypes : Context → List Expr → Option (Vec CType Global) → Type 0
HaveTypes c es ts = types_tree ts ≡ types_of (context_tree c) (exprs_tree es)

abbrev pub AddsType : Option (Vec CType Global) → Option CType → Option (Vec CType Global) → Type 0
AddsType before t after = types_tree after ≡ one_more (types_tree before) (option_type t)

abbrev pub Walks : Context → Position → Expr → (before after : Found) → Type 0
Walks c p e before after = found_tree after ≡ walked (context_tree c) (position_tree p) (expr_tree e) (found_tree before)

abbrev pub WalksParts : Context → Position → Shape → (before after : Found) → Type 0
WalksParts c p shape before after = found_tree after ≡ parts_walked (context_tree c) (position_tree p) (shape_tree shape) (found_tree before)

-- a part that stands so
abbrev pub WalksPart : Context → faults.Position → Expr → (before after : Found) → Type 0
WalksPart c p e before after = found_tree after ≡ walked (context_tree c) p (expr_tree e) (found_tree before)

-- two parts that stand so
abbrev pub WalksTwo : Context → faults.Position → Expr → faults.Position → Expr → (before after : Found) → Type 0
WalksTwo c p a q b before after =
    found_tree after ≡ walked (context_tree c) q (expr_tree b) (walked (context_tree c) p (expr_tree a) (found_tree before))

-- three parts whose values are used
abbrev pub WalksThree : Context → Expr → Expr → Expr → (before after : Found) → Type 0
WalksThree c d a b before after =
    found_tree after
    ≡ walked (context_tree c) used (expr_tree b)
    (walked (context_tree c) used (expr_tree a) (walked (context_tree c) used (expr_tree d) (found_tree before)))

abbrev pub WalksUnary : Context → UnaryOperator → Expr → (before after : Found) → Type 0
WalksUnary c operator a before after =
    found_tree after
    ≡ walked (context_tree c) (operand_position operator) (expr_tree a)
    (with_addressed (operand_of operator (named_local (context_tree c) (expr_tree a))) (found_tree before))

abbrev pub WalksAssigned : Context → AssignmentOperator → Expr → Expr → (before after : Found) → Type 0
WalksAssigned c operator a b before after = WalksTwo c (assigned_position operator) a (assigned_position operator) b before after

-- `a, b` that stands at p
abbrev pub WalksComma : Context → Position → Expr → Expr → (before after : Found) → Type 0
WalksComma c p a b before after = WalksTwo c discarded a (right_position (position_tree p)) b before after

-- the object of `.` or `->`
abbrev pub WalksObject : Context → Access → Expr → (before after : Found) → Type 0
WalksObject c access a before after = WalksPart c (object_position access) a before after

abbrev pub WalksAll : Context → List Expr → (before after : Found) → Type 0
WalksAll c es before after = found_tree after ≡ all_walked (context_tree c) (exprs_tree es) (found_tree before)

-- what is found in an expression is added to what was found before
abbrev pub AddsFindings : Context → Position → Expr → (before after : Found) → Type 0
AddsFindings c p e before after =
    found_tree after ≡ with_findings (found_tree before) (expr_findings (context_tree c) (position_tree p) (expr_tree e))
