-- Which nodes of an expression break which rules (C11 6.5).
use Rattle.std.specs.Prelude.{Bool, true, false, not, ◌&&◌, ◌||◌, List, [], ◌++◌, Option, Some, None, if◌then◌else◌}
use Rattle.qs_syntax.specs.declared.nodes.Node.{Node}
use Rattle.qs_syntax_vocabulary.specs.declared.operators.UnaryOperator.{UnaryOperator}
use Rattle.qs_syntax_vocabulary.specs.declared.operators.UnaryOperator.TheVariants as unaries
use Rattle.qs_syntax_vocabulary.specs.declared.operators.AssignmentOperator.{AssignmentOperator}
use Rattle.qs_syntax_vocabulary.specs.declared.operators.AssignmentOperator.TheVariants as assigns
use Rattle.qs_syntax_vocabulary.specs.declared.operators.Access.{Access}
use Rattle.qs_syntax_vocabulary.specs.declared.operators.Access.TheVariants as accesses
use Rattle.qs_syntax.specs.Trees.{ExprTree, expr, ShapeTree, Exprs, no_exprs, expr_and}
use Rattle.qs_syntax.specs.Trees as trees
use Rattle.qs_types.specs.Types.{TypeTree, is_struct, is_void}
use Rattle.qs_types.specs.declared.rules.Rule.TheVariants as rules
use Rattle.qs_types.specs.Rules.{Test, test, Fault, faults_of}
use Rattle.qs_types.specs.Contexts.{Context}
use Rattle.qs_types.specs.Expressions.{Judged, type_of, shape_judged}

-- where an expression stands: its value is used, or discarded; or it is the operand of `.`, `&`, `sizeof` or `=`, or an initialiser,
-- where a struct may stand
pub data Position : Type 0 where
  used : Position
  discarded : Position
  whole : Position

abbrev pub is_discarded : Position → Bool
is_discarded used = false
is_discarded discarded = true
is_discarded whole = false

abbrev pub is_whole : Position → Bool
is_whole used = false
is_whole discarded = false
is_whole whole = true

abbrev pub operand_position : UnaryOperator → Position
operand_position unaries.Address = whole
operand_position unaries.Indirect = used
operand_position unaries.Plus = used
operand_position unaries.Minus = used
operand_position unaries.Complement = used
operand_position unaries.Not = used

-- both operands; only those of `=` may be structs
abbrev pub assigned_position : AssignmentOperator → Position
assigned_position assigns.Plain = whole
assigned_position assigns.Multiply = used
assigned_position assigns.Divide = used
assigned_position assigns.Remainder = used
assigned_position assigns.Add = used
assigned_position assigns.Subtract = used
assigned_position assigns.ShiftLeft = used
assigned_position assigns.ShiftRight = used
assigned_position assigns.BitAnd = used
assigned_position assigns.BitXor = used
assigned_position assigns.BitOr = used

abbrev pub object_position : Access → Position
object_position accesses.Dot = whole
object_position accesses.Arrow = used

-- right of a comma the value is discarded where that of the comma is
abbrev pub right_position : Position → Position
right_position used = used
right_position discarded = discarded
right_position whole = used

abbrev pub is_call : ShapeTree → Bool
is_call (trees.call f es) = true
is_call _ = false

abbrev pub is_assignment : ShapeTree → Bool
is_assignment (trees.assign operator a b) = true
is_assignment _ = false

-- a void call and an assignment of a struct stand where the value is discarded; another struct where a struct may stand
abbrev pub is_misplaced : Position → ShapeTree → TypeTree → Bool
is_misplaced p shape t =
    ((is_void t && is_call shape) && not (is_discarded p))
    || (is_struct t && (if is_assignment shape then not (is_discarded p) else not (is_whole p)))

abbrev pub position_tests : Position → ShapeTree → Option TypeTree → List Test
position_tests p shape None = []
position_tests p shape (Some t) = test rules.MisplacedValue (is_misplaced p shape t)

abbrev pub own_tests : Option Judged → List Test
own_tests None = []
own_tests (Some j) = j.tests

-- the node's own faults
abbrev pub node_faults : Context → Position → Node → ShapeTree → List Fault
node_faults c p node shape = faults_of node.id (own_tests (shape_judged c shape) ++ position_tests p shape (type_of c (expr node shape)))

abbrev mutual
  pub expr_faults : Context → Position → ExprTree → List Fault
  expr_faults c p (expr node shape) = node_faults c p node shape ++ part_faults c p shape

  -- the faults in the parts
  pub part_faults : Context → Position → ShapeTree → List Fault
  part_faults c p (trees.constant n u) = []
  part_faults c p (trees.text bytes) = []
  part_faults c p (trees.name x) = []
  part_faults c p (trees.unary operator a) = expr_faults c (operand_position operator) a
  part_faults c p (trees.step operator a) = expr_faults c used a
  part_faults c p (trees.cast n a) = expr_faults c used a
  part_faults c p (trees.sizeof_type n) = []
  part_faults c p (trees.sizeof_expr a) = expr_faults c whole a
  part_faults c p (trees.binary operator a b) = expr_faults c used a ++ expr_faults c used b
  part_faults c p (trees.assign operator a b) = expr_faults c (assigned_position operator) a ++ expr_faults c (assigned_position operator) b
  part_faults c p (trees.conditional d a b) = expr_faults c used d ++ (expr_faults c used a ++ expr_faults c used b)
  part_faults c p (trees.comma a b) = expr_faults c discarded a ++ expr_faults c (right_position p) b
  part_faults c p (trees.subscript a b) = expr_faults c used a ++ expr_faults c used b
  part_faults c p (trees.member access a x) = expr_faults c (object_position access) a
  part_faults c p (trees.call f es) = all_faults c es

  pub all_faults : Context → Exprs → List Fault
  all_faults c no_exprs = []
  all_faults c (expr_and e es) = expr_faults c used e ++ all_faults c es
