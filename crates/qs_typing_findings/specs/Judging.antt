-- What is judged of expressions in code, as the definitions say.
use Rattle.std.specs.Prelude.{◌≡◌, ℕ, Bool, List, [], Option, option_map}
use Rattle.qs_syntax.specs.declared.expressions.Expr.{Expr}
use Rattle.qs_syntax_vocabulary.specs.declared.operators.Access.{Access}
use Rattle.qs_syntax_vocabulary.specs.declared.operators.AssignmentOperator.{AssignmentOperator}
use Rattle.qs_syntax_vocabulary.specs.declared.operators.BinaryOperator.{BinaryOperator}
use Rattle.qs_syntax_vocabulary.specs.declared.operators.UnaryOperator.{UnaryOperator}
use Rattle.qs_syntax.specs.TreeOf.{expr_tree}
use Rattle.qs_types.specs.declared.env.Env.{Env}
use Rattle.qs_types.specs.declared.rules.Rule.TheVariants as rules
use Rattle.qs_types.specs.declared.types.CType.{CType}
use Rattle.qs_types.specs.Conversions.{decayed, promoted}
use Rattle.qs_types.specs.EnvOf.{env_tree}
use Rattle.qs_types.specs.Expressions as pure
use Rattle.qs_types.specs.Layout.{and_then, struct_of}
use Rattle.qs_types.specs.Rules.{keeps}
use Rattle.qs_types.specs.Types.{TypeTree, is_integer}
use Rattle.qs_types.specs.TypeOf.{type_tree}
use Rattle.qs_typing_findings.specs.declared.judged.Judged.{Judged}
use Rattle.qs_typing_findings.specs.JudgedOf.{judged_tree}
use Rattle.qs_typing_findings.specs.PartsOf.{option_type, with_type, with_types, with_three}

abbrev pub option_judged : Option Judged → Option pure.Judged
option_judged = option_map judged_tree

-- ---- one operand: of a type, and where it has one

abbrev pub IsUnary : Env → UnaryOperator → Expr → CType → Judged → Type 0
IsUnary types operator a t j = judged_tree j ≡ pure.unary_judged (env_tree types) operator (expr_tree a) (type_tree t) (decayed (type_tree t))

-- an operator on an integer
abbrev pub IsArithmetic : CType → Judged → Type 0
IsArithmetic v j = judged_tree j ≡ pure.judged (keeps rules.ArithmeticOperand (is_integer (type_tree v))) (promoted (type_tree v))

abbrev pub JudgesUnary : Env → UnaryOperator → Expr → Option CType → Option Judged → Type 0
JudgesUnary types operator a t j =
    option_judged j ≡ with_type (option_type t) (λ t. pure.unary_judged (env_tree types) operator (expr_tree a) t (decayed t))

abbrev pub JudgesStep : Env → Expr → Option CType → Option Judged → Type 0
JudgesStep types a t j = option_judged j ≡ with_type (option_type t) (pure.step_judged (env_tree types) (expr_tree a))

-- ---- two operands

abbrev pub are_alike : Expr → CType → Expr → CType → Bool
are_alike a t b u = pure.alike_pointers (expr_tree a) (type_tree t) (expr_tree b) (type_tree u)

abbrev pub may_equal : Expr → CType → Expr → CType → Bool
may_equal a t b u = pure.may_equal (expr_tree a) (type_tree t) (expr_tree b) (type_tree u)

abbrev pub IsIntegers : (t u of : CType) → Judged → Type 0
IsIntegers t u of j = judged_tree j ≡ pure.integers_judged (type_tree t) (type_tree u) (type_tree of)

abbrev pub IsEquality : Expr → CType → Expr → CType → Judged → Type 0
IsEquality a t b u j = judged_tree j ≡ pure.equality_judged (expr_tree a) (type_tree t) (expr_tree b) (type_tree u)

abbrev pub IsSum : Env → (t u : CType) → Judged → Type 0
IsSum types t u j =
    judged_tree j
    ≡ pure.judged (keeps rules.SumOperands (pure.may_add (env_tree types) (type_tree t) (type_tree u))) (pure.sum_type (type_tree t) (type_tree u))

abbrev pub IsDifference : Env → (t u : CType) → Judged → Type 0
IsDifference types t u j =
    judged_tree j
    ≡ pure.judged (keeps rules.SumOperands (pure.may_subtract (env_tree types) (type_tree t) (type_tree u)))
    (pure.difference_type (type_tree t) (type_tree u))

abbrev pub IsBinary : Env → BinaryOperator → Expr → CType → Expr → CType → Judged → Type 0
IsBinary types operator a t b u j =
    judged_tree j ≡ pure.binary_judged (env_tree types) operator (expr_tree a) (type_tree t) (expr_tree b) (type_tree u)

abbrev pub JudgesBinary : Env → BinaryOperator → Expr → Option CType → Expr → Option CType → Option Judged → Type 0
JudgesBinary types operator a t b u j =
    option_judged j
    ≡ with_types (option_type t) (option_type u)
    (λ t u. pure.binary_judged (env_tree types) operator (expr_tree a) (decayed t) (expr_tree b) (decayed u))

-- ---- choices, commas and subscripts

abbrev pub IsConditional : CType → Expr → CType → Expr → CType → Judged → Type 0
IsConditional s a t b u j =
    judged_tree j ≡ pure.conditional_judged (type_tree s) (expr_tree a) (type_tree t) (expr_tree b) (type_tree u)

abbrev pub JudgesConditional : Option CType → Expr → Option CType → Expr → Option CType → Option Judged → Type 0
JudgesConditional s a t b u j =
    option_judged j
    ≡ with_three (option_type s) (option_type t) (option_type u)
    (λ s t u. pure.conditional_judged (decayed s) (expr_tree a) (decayed t) (expr_tree b) (decayed u))

abbrev pub JudgesComma : Option CType → Option CType → Option Judged → Type 0
JudgesComma t u j = option_judged j ≡ with_types (option_type t) (option_type u) (λ t u. pure.judged [] (decayed u))

abbrev pub IsSubscript : Env → (t u : CType) → Judged → Type 0
IsSubscript types t u j = judged_tree j ≡ pure.subscript_judged (env_tree types) (type_tree t) (type_tree u)

abbrev pub JudgesSubscript : Env → Option CType → Option CType → Option Judged → Type 0
JudgesSubscript types t u j =
    option_judged j ≡ with_types (option_type t) (option_type u) (λ t u. pure.subscript_judged (env_tree types) (decayed t) (decayed u))

-- ---- assignments

abbrev pub MayAssign : Expr → CType → Expr → CType → Bool → Type 0
MayAssign a t b u may = may ≡ pure.may_assign (expr_tree a) (type_tree t) (expr_tree b) (type_tree u)

abbrev pub may_move : Env → Expr → (t v : CType) → Bool
may_move types a t v = pure.may_move (env_tree types) (expr_tree a) (type_tree t) (type_tree v)

abbrev pub IsCombined : Expr → (t u : CType) → Judged → Type 0
IsCombined a t u j = judged_tree j ≡ pure.compound_judged (pure.may_combine (expr_tree a) (type_tree t) (decayed (type_tree u))) (type_tree t)

abbrev pub IsMoved : Env → Expr → (t u : CType) → Judged → Type 0
IsMoved types a t u j =
    judged_tree j ≡ pure.compound_judged (pure.may_move (env_tree types) (expr_tree a) (type_tree t) (decayed (type_tree u))) (type_tree t)

abbrev pub IsAssign : Env → AssignmentOperator → Expr → CType → Expr → CType → Judged → Type 0
IsAssign types operator a t b u j =
    judged_tree j ≡ pure.assign_judged (env_tree types) operator (expr_tree a) (type_tree t) (expr_tree b) (type_tree u)

abbrev pub JudgesAssign : Env → AssignmentOperator → Expr → Option CType → Expr → Option CType → Option Judged → Type 0
JudgesAssign types operator a t b u j =
    option_judged j
    ≡ with_types (option_type t) (option_type u) (λ t u. pure.assign_judged (env_tree types) operator (expr_tree a) t (expr_tree b) u)

-- ---- members

-- the type of the member of a struct that has this number
abbrev pub member_of : Env → (k : ℕ) → List ℕ → Option TypeTree
member_of types k name = and_then (struct_of (env_tree types) k) (pure.member_in name)

abbrev pub member_type : Env → CType → List ℕ → Option TypeTree
member_type types t name = pure.member_type (env_tree types) (type_tree t) name

abbrev pub IsFound : (may : Bool) → Env → CType → List ℕ → Judged → Type 0
IsFound may types t name j = judged_tree j ≡ pure.found_member may (member_type types t name)

abbrev pub IsMember : Env → Access → Expr → CType → List ℕ → Judged → Type 0
IsMember types access a t name j = judged_tree j ≡ pure.member_judged (env_tree types) access (expr_tree a) (type_tree t) name

abbrev pub JudgesMember : Env → Access → Expr → Option CType → List ℕ → Option Judged → Type 0
JudgesMember types access a t name j =
    option_judged j ≡ with_type (option_type t) (λ t. pure.member_judged (env_tree types) access (expr_tree a) t name)
