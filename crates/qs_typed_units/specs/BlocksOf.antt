-- The bytes and blocks that functions in code find in tables.
use Rattle.std.specs.Prelude.{◌≡◌, List, ◌++◌, Option, Some, map, Result, Vec, OnOk}
use Rattle.std.specs.declared.alloc.Global.{Global}
use Rattle.qs_memory.specs.Memory as cells
use Rattle.qs_memory.specs.Values.{Pointer}
use Rattle.qs_syntax.specs.Trees.{DeclTree, ExprTree}
use Rattle.qs_syntax_vocabulary.specs.declared.operators.UnaryOperator.{UnaryOperator}
use Rattle.qs_types.specs.TypeOf.{type_tree}
use Rattle.qs_types.specs.Types.{TypeTree}
use Rattle.qs_types.specs.declared.types.CType.{CType}
use Rattle.qs_typing_findings.specs.NotedOf.{text_tree}
use Rattle.qs_typing_findings.specs.declared.noted.TextBlock.{TextBlock}
use Rattle.qs_meaning.specs.InitialValues.{pointer_by, text_block}
use Rattle.qs_meaning.specs.Typed as trees
use Rattle.qs_typed_nodes.specs.Behind.{Continues}
use Rattle.qs_typed_units.specs.CellsOf.{cell_tree, cells_tree}
use Rattle.qs_typed_units.specs.KnownBlocks.{blocks_known, named_pointer_known, pieces_over_known}
use Rattle.qs_typed_units.specs.KnownPrograms.{Tables}
use Rattle.qs_typed_nodes.specs.PieceOf.{piece_tree}
use Rattle.qs_typed_forms.specs.Results.{Gives}
use Rattle.qs_typed_units.specs.TablesOf.{tables_tree}
use Rattle.qs_typed_trees.specs.TreeOf.{blocks_tree, data_cells}
use Rattle.qs_typed_units.specs.declared.cells.Cell.{Cell}
use Rattle.qs_typed_trees.specs.declared.data.Datum.{Datum}
use Rattle.qs_typed_trees.specs.declared.data.StaticBlock.{StaticBlock}
use Rattle.qs_typed_nodes.specs.declared.piece.Piece.{Piece}
use Rattle.qs_typed_units.specs.declared.tables.Tables.{Tables as CodeTables}

-- where an operator's operand leads
abbrev pub operand_pointer : UnaryOperator → Tables → ExprTree → Option Pointer
operand_pointer operator t e = pointer_by operator (named_pointer_known t e)

-- these are the bytes of a scalar of this type
abbrev pub FindsCells : {X E : Type 0} → (Tables → TypeTree → X → Option (List cells.Cell)) → CodeTables → CType → X → Result (Vec Cell Global) E → Type 0
FindsCells definition t type x result = Gives cells_tree (definition (tables_tree t) (type_tree type) x) result

-- these are the data of an object of this type
abbrev pub Holds : {X E : Type 0} → (Tables → TypeTree → X → Option (List cells.Cell)) → CodeTables → CType → X → Result (Vec Datum Global) E → Type 0
Holds definition t type x result = Gives data_cells (definition (tables_tree t) (type_tree type) x) result

-- each piece is written over the bytes that are there
abbrev pub WritesPieces : {T E : Type 0} → CodeTables → List Piece → (old new : List Cell) → Result T E → Type 0
WritesPieces t ps old new result =
    OnOk result (pieces_over_known (tables_tree t) (map piece_tree ps) (map cell_tree old) ≡ Some (map cell_tree new))

-- the blocks of a declaration stand behind the others
abbrev pub AddsBlocks : {T E : Type 0} → CodeTables → DeclTree → (old new : Vec StaticBlock Global) → Result T E → Type 0
AddsBlocks t d old new result = OnOk result (Continues (blocks_known (tables_tree t)) d (blocks_tree old) (blocks_tree new))

abbrev pub texts_blocks : List TextBlock → List trees.StaticBlock
texts_blocks texts = map text_block (map text_tree texts)

-- the blocks of texts stand behind the others
abbrev pub AddsTexts : {T E : Type 0} → List TextBlock → (old new : Vec StaticBlock Global) → Result T E → Type 0
AddsTexts texts old new result = OnOk result (blocks_tree new ≡ blocks_tree old ++ texts_blocks texts)
