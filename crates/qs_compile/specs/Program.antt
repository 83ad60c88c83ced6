-- The units, functions, places and data that the program has, seen as trees: what their records and bytes are.
use Rattle.std.specs.Prelude.{◌≡◌, ℕ, List, ◌++◌, length, map}
use Rattle.std.specs.HashMap.{HashMap}
use Rattle.std.specs.declared.alloc.Global.{Global}
use Rattle.std.specs.declared.vec.Vec.{Vec}
use Rattle.qs_core.specs.TreeOf.{piece_tree, piece_trees, data_block_tree}
use Rattle.qs_core.specs.TreeOf as core
use Rattle.qs_core.specs.UnitTrees.{unit_tree}
use Rattle.qs_core.specs.Units.{data_block, initial_memory}
use Rattle.qs_core.specs.declared.unit.CoreUnit.{CoreUnit}
use Rattle.qs_core.specs.declared.units.CoreFunction.{CoreFunction}
use Rattle.qs_core.specs.declared.units.Piece.{Piece}
use Rattle.qs_core.specs.declared.units.DataBlock.{DataBlock}
use Rattle.qs_tac.specs.TreeOf.{function_trees}
use Rattle.qs_tac.specs.UnitTrees as tac
use Rattle.qs_tac.specs.Places.{places_trees}
use Rattle.qs_tac.specs.declared.places.Places.{Places}
use Rattle.qs_tac.specs.declared.unit.TacUnit.{TacUnit}
use Rattle.qs_tac.specs.declared.units.TacFunction.{TacFunction}
use Rattle.qs_asm.specs.declared.item.Item.{Item}
use Rattle.qs_asm.specs.Assembly.{places}
use Rattle.qs_frames.specs.declared.blocks.Starts.{Starts}
use Rattle.qs_frames.specs.Starts.{start_of}
use Rattle.qs_image.specs.Image.{FunctionRecord}
use Rattle.qs_emit.specs.Images.{data_bytes}
use Rattle.qs_emit_selection.specs.Data.{data_address}
use Rattle.qs_compile.specs.Bytes.{piece_bytes, pieces_bytes}
use Rattle.qs_compile.specs.Records.{AreAddresses, FramesFit, AreFrameCosts, AreRecords, HaveRecords}

-- ---- records

abbrev pub HaveSameCount : CoreUnit → TacUnit → Type 0
HaveSameCount u t = length (tac.unit_tree t).functions ≡ length (unit_tree u).functions

-- the functions of the unit have these records
abbrev pub HasRecords : CoreUnit → TacUnit → List Places → List Item → List FunctionRecord → Type 0
HasRecords u t ps items records = HaveRecords (unit_tree u).functions (tac.unit_tree t).functions (places_trees ps) items records

abbrev pub HaveAddresses : {S : Type 0} → HashMap ℕ ℕ S → List TacFunction → (addresses : List ℕ) → Type 0
HaveAddresses labels functions addresses = AreAddresses (places labels) (function_trees functions) addresses

abbrev pub HaveFramesThatFit : List TacFunction → List Places → Type 0
HaveFramesThatFit functions ps = FramesFit (function_trees functions) (places_trees ps)

abbrev pub HaveCosts : List TacFunction → List Places → (costs : List ℕ) → Type 0
HaveCosts functions ps costs = AreFrameCosts (function_trees functions) (places_trees ps) costs

abbrev pub HaveRecordsWith : List CoreFunction → (addresses costs : List ℕ) → List FunctionRecord → Type 0
HaveRecordsWith functions addresses costs records = AreRecords (core.function_trees functions) addresses costs records

-- ---- bytes

-- these bytes were put behind those before
abbrev pub Puts : Vec ℕ Global → Vec ℕ Global → List ℕ → Type 0
Puts before after bytes = after.items ≡ before.items ++ bytes

-- by where blocks begin
abbrev pub bytes_of_piece : Starts → Piece → List ℕ
bytes_of_piece starts p = piece_bytes (start_of starts) (piece_tree p)

abbrev pub bytes_of_pieces : Starts → List Piece → List ℕ
bytes_of_pieces starts ps = pieces_bytes (start_of starts) (piece_trees ps)

abbrev pub bytes_of_blocks : Starts → List DataBlock → List ℕ
bytes_of_blocks starts blocks = data_bytes (start_of starts) (map data_block (map data_block_tree blocks))

-- of the unit's data, where its linear code has them
abbrev pub bytes_of_unit : CoreUnit → TacUnit → List ℕ
bytes_of_unit u t = data_bytes (data_address (tac.unit_tree t).data_blocks) (initial_memory (unit_tree u))
