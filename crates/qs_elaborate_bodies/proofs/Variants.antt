-- The typed trees of the program's values, for the variants that are taken apart by hand.
use Rattle.std.proofs.Common.{◌≡◌, sym, ap, ◌∙◌}
use Rattle.std.specs.Prelude.{Box}
use Rattle.std.specs.declared.alloc.Global.{Global}
use Rattle.qs_memory.specs.declared.scalar.Scalar.{Scalar}
use Rattle.qs_memory.specs.declared.operation.BinaryOperation.{BinaryOperation}
use Rattle.qs_meaning.specs.Typed as trees
use Rattle.qs_typed_trees.specs.declared.expressions.Conversion.{Conversion}
use Rattle.qs_typed_trees.specs.declared.expressions.Order.{Order}
use Rattle.qs_typed_trees.specs.declared.expressions.Expression.{Expression, Expression-F, fold-roll-Expression}
use Rattle.qs_typed_trees.specs.declared.expressions.Expression.TheVariants as expressions
use Rattle.qs_typed_trees.specs.declared.expressions.Lvalue.{Lvalue, Lvalue-F, fold-roll-Lvalue}
use Rattle.qs_typed_trees.specs.declared.expressions.Lvalue.TheVariants as lvalues
use Rattle.qs_typed_trees.specs.declared.expressions.Assignment.{Assignment, Assignment-F, fold-roll-Assignment}
use Rattle.qs_typed_trees.specs.declared.expressions.Assignment.TheVariants as assignments
use Rattle.qs_typed_trees.specs.declared.expressions.Effect.{Effect}
use Rattle.qs_typed_trees.specs.TreeOf.{ArgumentTree, assignment_step, effect_step, expression_step, lvalue_step, argument_step, expression_tree, lvalue_tree, assignment_tree, effect_tree, conversion_tree, order_tree}

and_tree : (a : Box Expression Global) (b : Box Expression Global) → expression_tree (expressions.LogicalAnd a b) ≡ trees.logical_and (expression_tree a.value) (expression_tree b.value)
and_tree a b = ap expression_tree (sym (expressions.rolls-LogicalAnd a b)) ∙ fold-roll-Expression trees.Assignment trees.Effect trees.Expr trees.Lvalue ArgumentTree assignment_step effect_step expression_step lvalue_step argument_step (Expression-F.LogicalAnd a b)

pub and_of : (e x y : Expression) (a b : Box Expression Global) → e ≡ expressions.LogicalAnd a b → x ≡ a.value → y ≡ b.value
    → expression_tree e ≡ trees.logical_and (expression_tree x) (expression_tree y)
and_of e x y a b h p q = rw (h, p, q) (and_tree a b)

or_tree : (a : Box Expression Global) (b : Box Expression Global) → expression_tree (expressions.LogicalOr a b) ≡ trees.logical_or (expression_tree a.value) (expression_tree b.value)
or_tree a b = ap expression_tree (sym (expressions.rolls-LogicalOr a b)) ∙ fold-roll-Expression trees.Assignment trees.Effect trees.Expr trees.Lvalue ArgumentTree assignment_step effect_step expression_step lvalue_step argument_step (Expression-F.LogicalOr a b)

pub or_of : (e x y : Expression) (a b : Box Expression Global) → e ≡ expressions.LogicalOr a b → x ≡ a.value → y ≡ b.value
    → expression_tree e ≡ trees.logical_or (expression_tree x) (expression_tree y)
or_of e x y a b h p q = rw (h, p, q) (or_tree a b)

binary_tree : (op : BinaryOperation) (order : Order) (c : Conversion) (d : Conversion) (a : Box Expression Global) (b : Box Expression Global) → expression_tree (expressions.Binary op order c d a b) ≡ trees.binary op (order_tree order) (conversion_tree c) (conversion_tree d) (expression_tree a.value) (expression_tree b.value)
binary_tree op order c d a b = ap expression_tree (sym (expressions.rolls-Binary op order c d a b)) ∙ fold-roll-Expression trees.Assignment trees.Effect trees.Expr trees.Lvalue ArgumentTree assignment_step effect_step expression_step lvalue_step argument_step (Expression-F.Binary op order c d a b)

pub binary_of : (e x y : Expression) (op : BinaryOperation) (order : Order) (c d : Conversion) (a b : Box Expression Global)
    → e ≡ expressions.Binary op order c d a b → x ≡ a.value → y ≡ b.value
    → expression_tree e ≡ trees.binary op (order_tree order) (conversion_tree c) (conversion_tree d) (expression_tree x) (expression_tree y)
binary_of e x y op order c d a b h p q = rw (h, p, q) (binary_tree op order c d a b)

conditional_tree : (s : Scalar) (a : Box Expression Global) (c : Conversion) (d : Conversion) (b : Box Expression Global) (f : Box Expression Global) → expression_tree (expressions.Conditional s a c d b f) ≡ trees.conditional s (expression_tree a.value) (conversion_tree c) (conversion_tree d) (expression_tree b.value) (expression_tree f.value)
conditional_tree s a c d b f = ap expression_tree (sym (expressions.rolls-Conditional s a c d b f)) ∙ fold-roll-Expression trees.Assignment trees.Effect trees.Expr trees.Lvalue ArgumentTree assignment_step effect_step expression_step lvalue_step argument_step (Expression-F.Conditional s a c d b f)

pub conditional_of : (e x y z : Expression) (s : Scalar) (a : Box Expression Global) (c d : Conversion) (b f : Box Expression Global)
    → e ≡ expressions.Conditional s a c d b f → x ≡ a.value → y ≡ b.value → z ≡ f.value
    → expression_tree e ≡ trees.conditional s (expression_tree x) (conversion_tree c) (conversion_tree d) (expression_tree y) (expression_tree z)
conditional_of e x y z s a c d b f h p q r = rw (h, p, q, r) (conditional_tree s a c d b f)

assigned_tree : (a : Box Assignment Global) → expression_tree (expressions.Assigned a) ≡ trees.assigned (assignment_tree a.value)
assigned_tree a = ap expression_tree (sym (expressions.rolls-Assigned a)) ∙ fold-roll-Expression trees.Assignment trees.Effect trees.Expr trees.Lvalue ArgumentTree assignment_step effect_step expression_step lvalue_step argument_step (Expression-F.Assigned a)

pub assigned_of : (e : Expression) (x : Assignment) (a : Box Assignment Global) → e ≡ expressions.Assigned a → x ≡ a.value
    → expression_tree e ≡ trees.assigned (assignment_tree x)
assigned_of e x a h p = rw (h, p) (assigned_tree a)

sequence_tree : (a : Box Effect Global) (b : Box Expression Global) → expression_tree (expressions.Sequence a b) ≡ trees.sequence (effect_tree a.value) (expression_tree b.value)
sequence_tree a b = ap expression_tree (sym (expressions.rolls-Sequence a b)) ∙ fold-roll-Expression trees.Assignment trees.Effect trees.Expr trees.Lvalue ArgumentTree assignment_step effect_step expression_step lvalue_step argument_step (Expression-F.Sequence a b)

pub sequence_of : (e : Expression) (x : Effect) (y : Expression) (a : Box Effect Global) (b : Box Expression Global) → e ≡ expressions.Sequence a b → x ≡ a.value → y ≡ b.value
    → expression_tree e ≡ trees.sequence (effect_tree x) (expression_tree y)
sequence_of e x y a b h p q = rw (h, p, q) (sequence_tree a b)

object_tree : (a : Box Expression Global) → lvalue_tree (lvalues.Object a) ≡ trees.object (expression_tree a.value)
object_tree a = ap lvalue_tree (sym (lvalues.rolls-Object a)) ∙ fold-roll-Lvalue trees.Assignment trees.Effect trees.Expr trees.Lvalue ArgumentTree assignment_step effect_step expression_step lvalue_step argument_step (Lvalue-F.Object a)

pub object_of : (l : Lvalue) (x : Expression) (a : Box Expression Global) → l ≡ lvalues.Object a → x ≡ a.value → lvalue_tree l ≡ trees.object (expression_tree x)
object_of l x a h p = rw (h, p) (object_tree a)

update_tree : (s : Scalar) (l : Lvalue) (op : BinaryOperation) (c d back : Conversion) (a : Expression)
    → assignment_tree (assignments.Update s l op c d back a) ≡ trees.update s (lvalue_tree l) op (conversion_tree c) (conversion_tree d) (conversion_tree back) (expression_tree a)
update_tree s l op c d back a =
    ap assignment_tree (sym (assignments.rolls-Update s l op c d back a)) ∙ fold-roll-Assignment trees.Assignment trees.Effect trees.Expr trees.Lvalue ArgumentTree assignment_step effect_step expression_step lvalue_step argument_step (Assignment-F.Update s l op c d back a)

pub update_of : (e : Assignment) (s : Scalar) (l : Lvalue) (op : BinaryOperation) (c d back : Conversion) (a : Expression) → e ≡ assignments.Update s l op c d back a
    → assignment_tree e ≡ trees.update s (lvalue_tree l) op (conversion_tree c) (conversion_tree d) (conversion_tree back) (expression_tree a)
update_of e s l op c d back a h = ap assignment_tree h ∙ update_tree s l op c d back a
