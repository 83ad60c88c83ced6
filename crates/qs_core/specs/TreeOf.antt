-- The trees that the program's values stand for.
use Rattle.std.specs.Prelude.{ℕ, List, Option, map, option_map}
use Rattle.qs_memory.specs.BlankOf.{blank_tree}
use Rattle.qs_core.specs.Trees.{CoreExprTree, literal, null_pointer, variable, temporary, address_of, load, member, unary, binary, conversion, logical_and, logical_or, conditional, CoreStmtTree, skip, seq, assign, store, copy, fill, call, branch, loop, switch, break, continue, return, stmts_of, CoreParameterTree, CoreVariableTree, CoreFunctionTree, PieceTree, blank, bytes, pointer, DataBlockTree, CoreUnitTree}
use Rattle.qs_core.specs.declared.expressions.CoreExpr.{CoreExpr, CoreExpr-F, fold-CoreExpr}
use Rattle.qs_core.specs.declared.expressions.Operands.{Operands, Operands-F, fold-Operands}
use Rattle.qs_core.specs.declared.statements.CoreStmt.{CoreStmt, CoreStmt-F, fold-CoreStmt}
use Rattle.qs_core.specs.declared.units.CoreParameter.{CoreParameter}
use Rattle.qs_core.specs.declared.units.CoreVariable.{CoreVariable}
use Rattle.qs_core.specs.declared.units.CoreFunction.{CoreFunction}
use Rattle.qs_core.specs.declared.units.Piece.{Piece}
use Rattle.qs_core.specs.declared.units.Piece.TheVariants as pieces
use Rattle.qs_core.specs.declared.units.DataBlock.{DataBlock}

-- two operands
pub record OperandsTree : Type 0 where
  pub left : CoreExprTree
  pub right : CoreExprTree

abbrev pub expr_step : CoreExpr-F CoreExprTree OperandsTree → CoreExprTree
expr_step (CoreExpr-F.Literal s n) = literal s n
expr_step CoreExpr-F.Null = null_pointer
expr_step (CoreExpr-F.Variable s x) = variable s x
expr_step (CoreExpr-F.Temporary s k) = temporary s k
expr_step (CoreExpr-F.Address b) = address_of b
expr_step (CoreExpr-F.Load s a) = load s a.value
expr_step (CoreExpr-F.Member offset a) = member offset a.value
expr_step (CoreExpr-F.Unary op a) = unary op a.value
expr_step (CoreExpr-F.Binary op p) = binary op p.value.left p.value.right
expr_step (CoreExpr-F.Convert s a) = conversion s a.value
expr_step (CoreExpr-F.And p) = logical_and p.value.left p.value.right
expr_step (CoreExpr-F.Or p) = logical_or p.value.left p.value.right
expr_step (CoreExpr-F.Conditional c a b) = conditional c.value a.value b.value

abbrev pub operands_step : Operands-F CoreExprTree OperandsTree → OperandsTree
operands_step p = record { left = p.left; right = p.right }

abbrev pub core_expr : CoreExpr → CoreExprTree
core_expr = fold-CoreExpr CoreExprTree OperandsTree expr_step operands_step

abbrev pub core_operands : Operands → OperandsTree
core_operands = fold-Operands CoreExprTree OperandsTree expr_step operands_step

abbrev pub core_exprs : List CoreExpr → List CoreExprTree
core_exprs = map core_expr

abbrev pub option_expr : Option CoreExpr → Option CoreExprTree
option_expr = option_map core_expr

abbrev pub stmt_step : CoreStmt-F CoreStmtTree → CoreStmtTree
stmt_step CoreStmt-F.Skip = skip
stmt_step (CoreStmt-F.Seq ss) = seq (stmts_of ss.items)
stmt_step (CoreStmt-F.Assign x e) = assign x (core_expr e)
stmt_step (CoreStmt-F.Store s a b) = store s (core_expr a) (core_expr b)
stmt_step (CoreStmt-F.Copy size alignment a b) = copy size alignment (core_expr a) (core_expr b)
stmt_step (CoreStmt-F.Fill b a) = fill (blank_tree b) (core_expr a)
stmt_step (CoreStmt-F.Call k f arguments) = call k f (core_exprs arguments.items)
stmt_step (CoreStmt-F.If c a b) = branch (core_expr c) a.value b.value
stmt_step (CoreStmt-F.Loop a b) = loop a.value b.value
stmt_step (CoreStmt-F.Switch c labels ss) = switch (core_expr c) labels.items (stmts_of ss.items)
stmt_step CoreStmt-F.Break = break
stmt_step CoreStmt-F.Continue = continue
stmt_step (CoreStmt-F.Return e) = return (option_expr e)

abbrev pub core_stmt : CoreStmt → CoreStmtTree
core_stmt = fold-CoreStmt CoreStmtTree stmt_step

abbrev pub core_stmts : List CoreStmt → List CoreStmtTree
core_stmts = map core_stmt

-- ---- units

abbrev pub parameter_tree : CoreParameter → CoreParameterTree
parameter_tree p = record { name = p.name; place = p.place }

abbrev pub variable_tree : CoreVariable → CoreVariableTree
variable_tree v = record { name = v.name; ordinal = v.ordinal; scalar = v.scalar }

abbrev pub function_tree : CoreFunction → CoreFunctionTree
function_tree f = record {
  name = f.name;
  parameters = map parameter_tree f.parameters.items;
  variables = map variable_tree f.variables.items;
  temporaries = f.temporaries.items;
  blocks = f.blocks.items;
  result_type = f.result_type;
  body = stmts_of (core_stmts f.body.items);
}

abbrev pub function_trees : List CoreFunction → List CoreFunctionTree
function_trees functions = map function_tree functions

abbrev pub piece_tree : Piece → PieceTree
piece_tree (pieces.Blank b) = blank (blank_tree b)
piece_tree (pieces.Bytes bs) = bytes bs.items
piece_tree (pieces.Address block offset) = pointer block offset

abbrev pub piece_trees : List Piece → List PieceTree
piece_trees pieces = map piece_tree pieces

abbrev pub data_block_tree : DataBlock → DataBlockTree
data_block_tree d = record { is_writable = d.is_writable; pieces = map piece_tree d.pieces.items }

abbrev pub unit_from : List CoreFunction → (main : ℕ) → List DataBlock → CoreUnitTree
unit_from functions main data_blocks = record {
  functions = map function_tree functions;
  main = main;
  data_blocks = map data_block_tree data_blocks;
}
