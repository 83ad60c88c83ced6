-- What the blocks of file-scope variables hold when a run begins (C11 6.7.9), from what is known by the numbers of nodes.
use Rattle.std.specs.Prelude.{ℕ, true, List, [], ◌∷◌, ◌++◌, Option, Some, None, if◌then◌else◌}
use Rattle.qs_syntax.specs.Trees.{ExprTree, expr, InitialiserTree, VariableTree, structure, forward, function, variables, UnitTree, typedef}
use Rattle.qs_syntax.specs.Trees as trees
use Rattle.qs_memory.specs.Partial.{◌>>=◌}
use Rattle.qs_memory.specs.Values.{Pointer, null, width}
use Rattle.qs_memory.specs.Memory.{Cell, bytes_of, parts_of, blank_cells}
use Rattle.qs_types.specs.Types.{TypeTree, is_pointer, is_array}
use Rattle.qs_types.specs.Contexts.{context_with}
use Rattle.qs_types.specs.Expressions.{is_null_constant}
use Rattle.qs_types.specs.Constants.{value_of}
use Rattle.qs_types.specs.declared.referent.Referent.{Referent}
use Rattle.qs_types.specs.declared.referent.Referent.TheVariants as referents
use Rattle.qs_meaning.specs.Typed.{StaticBlock}
use Rattle.qs_meaning.specs.Conversions.{scalar_of}
use Rattle.qs_meaning.specs.Names.{Statics, file_variable_object, text_object}
use Rattle.qs_meaning.specs.Blanks.{blank_of}
use Rattle.qs_meaning.specs.Initialisers.{Piece, pieces}
use Rattle.qs_meaning.specs.InitialValues.{pointer_width, static_pointer, pointer_by, array_cells, written_over}
use Rattle.qs_typed_nodes.specs.Known.{at_number}
use Rattle.qs_typed_units.specs.KnownPrograms.{Tables}

-- ---- constants (6.6)

abbrev pub referent_pointer : Statics → Referent → Option Pointer
referent_pointer statics (referents.Local node) = None
referent_pointer statics (referents.File node) = static_pointer (file_variable_object statics node)
referent_pointer statics (referents.Function node) = None
referent_pointer statics referents.PutChar = None
referent_pointer statics referents.GetChar = None

-- what the name at a node stands for
abbrev pub name_pointer : Tables → (node : ℕ) → Option Pointer
name_pointer t node = at_number t.referents node >>= referent_pointer t.statics

-- the operand of `&`, where it is a name
abbrev pub named_pointer_known : Tables → ExprTree → Option Pointer
named_pointer_known t (expr node (trees.name x)) = name_pointer t node.id
named_pointer_known t (expr node _) = None

-- 6.6p9
abbrev pub address_constant_known : Tables → ExprTree → Option Pointer
address_constant_known t (expr node (trees.text bytes)) = static_pointer (text_object t.statics node.id)
address_constant_known t (expr node (trees.name x)) = name_pointer t node.id
address_constant_known t (expr node (trees.unary operator a)) = pointer_by operator (named_pointer_known t a)
address_constant_known t (expr node _) = None

-- 6.3.2.3p3
abbrev pub pointer_constant_known : Tables → ExprTree → Option Pointer
pointer_constant_known t e = if is_null_constant e then Some null else address_constant_known t e

abbrev pub pointer_cells_known : Tables → ExprTree → Option (List Cell)
pointer_cells_known t e = pointer_constant_known t e >>= λ p. Some (parts_of p 0 pointer_width)

-- 6.3.1.3
abbrev pub integer_cells_known : Tables → TypeTree → ExprTree → Option (List Cell)
integer_cells_known t type e = value_of (context_with t.structs t.type_names) e >>= λ n. Some (bytes_of (width (scalar_of type)) n)

-- 6.6p7, 6.7.9p11
abbrev pub constant_cells_known : Tables → TypeTree → ExprTree → Option (List Cell)
constant_cells_known t type e = if is_pointer type then pointer_cells_known t e else integer_cells_known t type e

-- ---- variables

abbrev pub piece_cells_known : Tables → Piece → Option (List Cell)
piece_cells_known t p = if is_array p.type then array_cells p.type p.expression else constant_cells_known t p.type p.expression

abbrev pub pieces_over_known : Tables → List Piece → List Cell → Option (List Cell)
pieces_over_known t [] cells = Some cells
pieces_over_known t (p ∷ ps) cells = piece_cells_known t p >>= λ new. pieces_over_known t ps (written_over cells p.offset new)

abbrev pub blank_cells_known : Tables → TypeTree → Option (List Cell)
blank_cells_known t type = blank_of t.structs type >>= λ b. Some (blank_cells b)

abbrev pub initialised_cells_known : Tables → TypeTree → InitialiserTree → Option (List Cell)
initialised_cells_known t type i = blank_cells_known t type >>= λ cells. pieces t.structs type 0 i >>= λ ps. pieces_over_known t ps cells

-- 6.7.9p10, p19, p21
abbrev pub initial_cells_known : Tables → TypeTree → Option InitialiserTree → Option (List Cell)
initial_cells_known t type None = blank_cells_known t type
initial_cells_known t type (Some i) = initialised_cells_known t type i

abbrev pub variable_block_known : Tables → VariableTree → Option StaticBlock
variable_block_known t v =
    at_number t.types v.declarator.node.id >>= λ type. initial_cells_known t type v.initialiser >>= λ cells. Some (record { cells = cells; writable = true })

abbrev pub file_variables_known : Tables → List VariableTree → Option (List StaticBlock)
file_variables_known t [] = Some []
file_variables_known t (v ∷ vs) = variable_block_known t v >>= λ now. file_variables_known t vs >>= λ rest. Some (now ∷ rest)

-- of the variables of a unit, in order
abbrev pub blocks_known : Tables → UnitTree → Option (List StaticBlock)
blocks_known t [] = Some []
blocks_known t (structure d ∷ ds) = blocks_known t ds
blocks_known t (forward d ∷ ds) = blocks_known t ds
blocks_known t (typedef d ∷ ds) = blocks_known t ds
blocks_known t (function f ∷ ds) = blocks_known t ds
blocks_known t (variables d ∷ ds) = file_variables_known t d.variables >>= λ now. blocks_known t ds >>= λ rest. Some (now ++ rest)
