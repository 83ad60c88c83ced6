-- What blocks of data begin with, datum by datum.
use Rattle.std.specs.Prelude.{◌≡◌, ℕ, zero, suc, ◌==◌, ◌||◌, Bool, true, false, List, [], ◌∷◌, ◌++◌, Result, OnOk, map}
use Rattle.std.specs.Global.{Vec}
use Rattle.qs_memory.specs.Memory.{nulls}
use Rattle.qs_core.specs.Trees.{PieceTree, blank, bytes, pointer, DataBlockTree}
use Rattle.qs_core.specs.TreeOf.{piece_tree}
use Rattle.qs_core.specs.declared.units.Piece.{Piece}
use Rattle.qs_typed_trees.specs.TreeOf.{static_block_tree}
use Rattle.qs_typed_trees.specs.declared.data.StaticBlock.{StaticBlock}
use Rattle.qs_typed_trees.specs.declared.data.Datum.{Datum}
use Rattle.qs_typed_trees.specs.declared.data.Datum.TheVariants as data_parts
use Rattle.qs_elaborate_bodies.specs.Data.{with_byte, with_null, data_core}

-- ---- bytes, null pointers and a datum in front of pieces

abbrev pub with_bytes : List ℕ → List PieceTree → List PieceTree
with_bytes [] ps = ps
with_bytes (b ∷ bs) ps = with_byte b (with_bytes bs ps)

abbrev pub with_nulls : ℕ → List PieceTree → List PieceTree
with_nulls zero ps = ps
with_nulls (suc n) ps = with_null (with_nulls n ps)

abbrev pub pointer_before : (block : ℕ) → List PieceTree → List PieceTree
pointer_before block ps = pointer block 0 ∷ ps

abbrev pub with_datum : Datum → List PieceTree → List PieceTree
with_datum (data_parts.Bytes bs) ps = with_bytes bs.items ps
with_datum (data_parts.Nulls n) ps = with_nulls n ps
with_datum (data_parts.Pointer block) ps = pointer_before block ps

abbrev pub with_contents : List Datum → List PieceTree → List PieceTree
with_contents [] ps = ps
with_contents (d ∷ ds) ps = with_datum d (with_contents ds ps)

-- ---- pieces by whole runs

abbrev pub bytes_piece : List ℕ → List PieceTree
bytes_piece [] = []
bytes_piece (b ∷ bs) = bytes (b ∷ bs) ∷ []

abbrev pub nulls_piece : ℕ → List PieceTree
nulls_piece zero = []
nulls_piece (suc n) = blank (nulls (suc n)) ∷ []

-- ---- pieces that are done, and a run that may grow: of bytes, or of null pointers

abbrev pub with_run : List ℕ → ℕ → List PieceTree → List PieceTree
with_run bs n ps = with_bytes bs (with_nulls n ps)

abbrev pub is_empty : List ℕ → Bool
is_empty [] = true
is_empty (b ∷ bs) = false

abbrev pub is_one_run : List ℕ → ℕ → Bool
is_one_run bs n = is_empty bs || n == 0

-- ---- what code does; what speaks of a result says so only where it is Ok

-- these pieces stand behind those from before
abbrev pub Appends : {A E : Type 0} → List PieceTree → (old new : Vec Piece) → Result A E → Type 0
Appends ps old new result = OnOk result (map piece_tree new.items ≡ map piece_tree old.items ++ ps)

-- with whatever comes behind, the pieces and the run now give what those from before give with this in front of it
abbrev pub Puts : {A E : Type 0} → (List PieceTree → List PieceTree) → Vec Piece → Vec ℕ → ℕ → Vec Piece → Vec ℕ → ℕ → Result A E → Type 0
Puts put out bs n new_out new_bs new_n result =
    OnOk result ((ps : List PieceTree) →
    map piece_tree new_out.items ++ with_run new_bs.items new_n ps ≡ map piece_tree out.items ++ with_run bs.items n (put ps))

abbrev pub data_cores : List StaticBlock → List DataBlockTree
data_cores blocks = map data_core (map static_block_tree blocks)
