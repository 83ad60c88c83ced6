-- What a walk over an expression finds, with what was found before: the rules of a node are looked at behind its parts.
use Rattle.std.specs.Prelude.{ℕ, List, [], ◌∷◌, ◌++◌, Option, slice_set}
use Rattle.qs_syntax.specs.Trees.{ExprTree, expr, ShapeTree, Exprs, no_exprs, expr_and}
use Rattle.qs_syntax.specs.Trees as trees
use Rattle.qs_types.specs.Types.{TypeTree}
use Rattle.qs_types.specs.Contexts.{Context}
use Rattle.qs_types.specs.Expressions.{type_of, shape_judged}
use Rattle.qs_types.specs.ExpressionFaults.{Position, used, discarded, whole, operand_position, assigned_position, object_position, right_position, position_tests, own_tests}
use Rattle.qs_types.specs.Placed.{operand_of, named_local}
use Rattle.qs_types.specs.declared.referent.Referent.{Referent}
use Rattle.qs_typing_findings.specs.Findings.{FoundTree, judged_at}
use Rattle.qs_types.specs.Referents.{shape_referent}

-- with the type of one more node, and what its name stands for
abbrev pub opened : Option TypeTree → Option Referent → FoundTree → FoundTree
opened t r f = record f { types = f.types ++ t ∷ []; referents = f.referents ++ r ∷ [] }

-- with this type at this place
abbrev pub filled : ℕ → Option TypeTree → FoundTree → FoundTree
filled at t f = record f { types = slice_set f.types at t }

abbrev pub with_addressed : List ℕ → FoundTree → FoundTree
with_addressed nodes f = record f { addressed = f.addressed ++ nodes }

abbrev mutual
  pub walked : Context → Position → ExprTree → FoundTree → FoundTree
  walked c p (expr node shape) f =
      judged_at node.id (position_tests p shape (type_of c (expr node shape)))
      (judged_at node.id (own_tests (shape_judged c shape)) (parts_walked c p shape (opened (type_of c (expr node shape)) (shape_referent c shape) f)))

  pub parts_walked : Context → Position → ShapeTree → FoundTree → FoundTree
  parts_walked c p (trees.constant n u) f = f
  parts_walked c p (trees.text bytes) f = f
  parts_walked c p (trees.name x) f = f
  parts_walked c p (trees.unary operator a) f = walked c (operand_position operator) a (with_addressed (operand_of operator (named_local c a)) f)
  parts_walked c p (trees.step operator a) f = walked c used a f
  parts_walked c p (trees.cast n a) f = walked c used a f
  parts_walked c p (trees.sizeof_type n) f = f
  parts_walked c p (trees.sizeof_expr a) f = walked c whole a f
  parts_walked c p (trees.binary operator a b) f = walked c used b (walked c used a f)
  parts_walked c p (trees.assign operator a b) f = walked c (assigned_position operator) b (walked c (assigned_position operator) a f)
  parts_walked c p (trees.conditional d a b) f = walked c used b (walked c used a (walked c used d f))
  parts_walked c p (trees.comma a b) f = walked c (right_position p) b (walked c discarded a f)
  parts_walked c p (trees.subscript a b) f = walked c used b (walked c used a f)
  parts_walked c p (trees.member access a x) f = walked c (object_position access) a f
  parts_walked c p (trees.call g es) f = all_walked c es f

  pub all_walked : Context → Exprs → FoundTree → FoundTree
  all_walked c no_exprs f = f
  all_walked c (expr_and e es) f = all_walked c es (walked c used e f)
