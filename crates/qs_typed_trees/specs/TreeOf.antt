-- The trees that the program's values stand for.
use Rattle.std.specs.Prelude.{ℕ, List, [], ◌∷◌, Option, map, option_map, flat_map, Vec}
use Rattle.std.specs.declared.alloc.Global.{Global}
use Rattle.qs_memory.specs.Values.{null, into}
use Rattle.qs_memory.specs.Memory.{Cell, byte, parts_of, times}
use Rattle.qs_memory.specs.BlankOf.{blank_tree}
use Rattle.qs_meaning.specs.Typed as trees
use Rattle.qs_typed_trees.specs.declared.expressions.Conversion.{Conversion}
use Rattle.qs_typed_trees.specs.declared.expressions.Conversion.TheVariants as conversions
use Rattle.qs_typed_trees.specs.declared.expressions.Order.{Order}
use Rattle.qs_typed_trees.specs.declared.expressions.Order.TheVariants as orders
use Rattle.qs_typed_trees.specs.declared.expressions.Object.{Object}
use Rattle.qs_typed_trees.specs.declared.expressions.Object.TheVariants as objects
use Rattle.qs_typed_trees.specs.declared.expressions.Expression.{Expression, Expression-F, fold-Expression}
use Rattle.qs_typed_trees.specs.declared.expressions.Lvalue.{Lvalue, Lvalue-F, fold-Lvalue}
use Rattle.qs_typed_trees.specs.declared.expressions.Argument.{Argument, Argument-F, fold-Argument}
use Rattle.qs_typed_trees.specs.declared.expressions.Assignment.{Assignment, Assignment-F, fold-Assignment}
use Rattle.qs_typed_trees.specs.declared.expressions.Effect.{Effect, Effect-F, fold-Effect}
use Rattle.qs_typed_trees.specs.declared.statements.Statement.{Statement, Statement-F, fold-Statement}
use Rattle.qs_typed_trees.specs.declared.data.Datum.{Datum}
use Rattle.qs_typed_trees.specs.declared.data.Datum.TheVariants as data_parts
use Rattle.qs_typed_trees.specs.declared.data.StaticBlock.{StaticBlock}
use Rattle.qs_typed_trees.specs.declared.program.TypedFunction.{TypedFunction}
use Rattle.qs_typed_trees.specs.declared.program.TypedProgram.{TypedProgram}

abbrev pub conversion_tree : Conversion → trees.Conversion
conversion_tree conversions.Unchanged = trees.unchanged
conversion_tree (conversions.Converted from to) = trees.converted from to

abbrev pub order_tree : Order → trees.Order
order_tree orders.AsWritten = trees.as_written
order_tree orders.Exchanged = trees.exchanged

abbrev pub object_tree : Object → trees.Object
object_tree (objects.Local k) = trees.local k
object_tree (objects.Static k) = trees.static k

-- ---- expressions

-- an argument with its conversion
pub record ArgumentTree : Type 0 where
  pub conversion : trees.Conversion
  pub value : trees.Expr

abbrev pub arguments_of : List ArgumentTree → trees.Arguments
arguments_of [] = trees.no_arguments
arguments_of (a ∷ rest) = trees.argument_and a.conversion a.value (arguments_of rest)

-- each in order, and then nothing
abbrev pub each_of : List trees.Effect → trees.Effect
each_of [] = trees.nothing
each_of (a ∷ rest) = trees.in_order a (each_of rest)

abbrev pub expression_step : Expression-F trees.Assignment trees.Effect trees.Expr trees.Lvalue ArgumentTree → trees.Expr
expression_step (Expression-F.Constant s n) = trees.constant s n
expression_step (Expression-F.Value s l) = trees.value s l
expression_step (Expression-F.PointerTo o) = trees.pointer_to (object_tree o)
expression_step (Expression-F.Member offset a) = trees.member offset a.value
expression_step (Expression-F.Called s f given) = trees.called s f (arguments_of given.items)
expression_step (Expression-F.SteppedAfter s l op operand back) = trees.stepped_after s l op (conversion_tree operand) (conversion_tree back)
expression_step (Expression-F.Unary op c a) = trees.unary op (conversion_tree c) a.value
expression_step (Expression-F.Cast c a) = trees.cast (conversion_tree c) a.value
expression_step (Expression-F.Binary op order c d a b) = trees.binary op (order_tree order) (conversion_tree c) (conversion_tree d) a.value b.value
expression_step (Expression-F.LogicalAnd a b) = trees.logical_and a.value b.value
expression_step (Expression-F.LogicalOr a b) = trees.logical_or a.value b.value
expression_step (Expression-F.Conditional s a c d b e) = trees.conditional s a.value (conversion_tree c) (conversion_tree d) b.value e.value
expression_step (Expression-F.Assigned a) = trees.assigned a.value
expression_step (Expression-F.Sequence a b) = trees.sequence a.value b.value

abbrev pub lvalue_step : Lvalue-F trees.Assignment trees.Effect trees.Expr trees.Lvalue ArgumentTree → trees.Lvalue
lvalue_step (Lvalue-F.Variable x) = trees.variable x
lvalue_step (Lvalue-F.Object a) = trees.object a.value

abbrev pub argument_step : Argument-F trees.Assignment trees.Effect trees.Expr trees.Lvalue ArgumentTree → ArgumentTree
argument_step a = record { conversion = conversion_tree a.conversion; value = a.value }

abbrev pub assignment_step : Assignment-F trees.Assignment trees.Effect trees.Expr trees.Lvalue ArgumentTree → trees.Assignment
assignment_step (Assignment-F.Set s l c a) = trees.set s l (conversion_tree c) a
assignment_step (Assignment-F.Update s l op c d back a) = trees.update s l op (conversion_tree c) (conversion_tree d) (conversion_tree back) a

abbrev pub effect_step : Effect-F trees.Assignment trees.Effect trees.Expr trees.Lvalue ArgumentTree → trees.Effect
effect_step Effect-F.Nothing = trees.nothing
effect_step (Effect-F.Discard a) = trees.discard a
effect_step (Effect-F.Assign a) = trees.assign a
effect_step (Effect-F.Perform f given) = trees.perform f (arguments_of given.items)
effect_step (Effect-F.Copy size alignment to from) = trees.copy size alignment to from
effect_step (Effect-F.Fill blank a) = trees.fill (blank_tree blank) a
effect_step (Effect-F.InOrder a b) = trees.in_order a.value b.value
effect_step (Effect-F.Each all) = each_of all.items

abbrev pub expression_tree : Expression → trees.Expr
expression_tree = fold-Expression trees.Assignment trees.Effect trees.Expr trees.Lvalue ArgumentTree assignment_step effect_step expression_step lvalue_step argument_step

abbrev pub lvalue_tree : Lvalue → trees.Lvalue
lvalue_tree = fold-Lvalue trees.Assignment trees.Effect trees.Expr trees.Lvalue ArgumentTree assignment_step effect_step expression_step lvalue_step argument_step

abbrev pub argument_tree : Argument → ArgumentTree
argument_tree = fold-Argument trees.Assignment trees.Effect trees.Expr trees.Lvalue ArgumentTree assignment_step effect_step expression_step lvalue_step argument_step

abbrev pub assignment_tree : Assignment → trees.Assignment
assignment_tree = fold-Assignment trees.Assignment trees.Effect trees.Expr trees.Lvalue ArgumentTree assignment_step effect_step expression_step lvalue_step argument_step

abbrev pub effect_tree : Effect → trees.Effect
effect_tree = fold-Effect trees.Assignment trees.Effect trees.Expr trees.Lvalue ArgumentTree assignment_step effect_step expression_step lvalue_step argument_step

abbrev pub arguments_tree : List Argument → trees.Arguments
arguments_tree given = arguments_of (map argument_tree given)

abbrev pub effects_tree : List Effect → trees.Effect
effects_tree all = each_of (map effect_tree all)

abbrev pub option_expression : Option Expression → Option trees.Expr
option_expression = option_map expression_tree

-- ---- statements

abbrev pub statements_of : List trees.Stmt → trees.Stmts
statements_of [] = trees.no_stmts
statements_of (s ∷ rest) = trees.stmt_and s (statements_of rest)

abbrev pub statement_step : Statement-F trees.Stmt → trees.Stmt
statement_step (Statement-F.Evaluate a) = trees.evaluate (effect_tree a)
statement_step (Statement-F.Block ss) = trees.block (statements_of ss.items)
statement_step (Statement-F.Branch e a b) = trees.branch (expression_tree e) a.value b.value
statement_step (Statement-F.Switch promotion operand ss) = trees.switch (conversion_tree promotion) (expression_tree operand) (statements_of ss.items)
statement_step (Statement-F.Case n) = trees.case_label n
statement_step Statement-F.Default = trees.default_label
statement_step (Statement-F.WhileLoop e a) = trees.while_loop (expression_tree e) a.value
statement_step (Statement-F.DoLoop a e) = trees.do_loop a.value (expression_tree e)
statement_step (Statement-F.ForLoop start condition step body) = trees.for_loop (effect_tree start) (option_expression condition) (effect_tree step) body.value
statement_step Statement-F.Break = trees.break
statement_step Statement-F.Continue = trees.continue
statement_step (Statement-F.Return c a) = trees.return (conversion_tree c) (expression_tree a)
statement_step Statement-F.ReturnNothing = trees.return_nothing

abbrev pub statement_tree : Statement → trees.Stmt
statement_tree = fold-Statement trees.Stmt statement_step

abbrev pub statements_tree : List Statement → trees.Stmts
statements_tree ss = statements_of (map statement_tree ss)

-- ---- what stands in memory

abbrev pub pointer_width : ℕ
pointer_width = 4

abbrev pub datum_cells : Datum → List Cell
datum_cells (data_parts.Bytes bs) = map byte bs.items
datum_cells (data_parts.Nulls n) = times n (parts_of null 0 pointer_width)
datum_cells (data_parts.Pointer block) = parts_of (into block 0) 0 pointer_width

abbrev pub contents_cells : List Datum → List Cell
contents_cells parts = flat_map datum_cells parts

abbrev pub data_cells : Vec Datum Global → List Cell
data_cells parts = contents_cells parts.items

abbrev pub static_block_tree : StaticBlock → trees.StaticBlock
static_block_tree b = record { cells = contents_cells b.contents.items; writable = b.is_writable }

abbrev pub blocks_tree : Vec StaticBlock Global → List trees.StaticBlock
blocks_tree bs = map static_block_tree bs.items

-- ---- functions and units

abbrev pub function_tree : TypedFunction → trees.Function
function_tree f = record {
  name = f.name;
  result = f.result;
  parameters = f.parameters.items;
  variables = f.variables.items;
  blocks = f.blocks.items;
  body = statements_tree f.body.items;
  is_main = f.is_main;
}

abbrev pub functions_tree : Vec TypedFunction Global → List trees.Function
functions_tree fs = map function_tree fs.items

abbrev pub program_tree : TypedProgram → trees.TypedProgram
program_tree u = record { functions = functions_tree u.functions; blocks = blocks_tree u.blocks }
