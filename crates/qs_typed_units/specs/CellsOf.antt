-- The cells that data in code stand for while they are gathered.
use Rattle.std.specs.Prelude.{◌≡◌, ℕ, Bool, List, [], ◌∷◌, ◌++◌, map, Result, Vec, IfOk, OnOk, if◌then◌else◌}
use Rattle.std.specs.declared.alloc.Global.{Global}
use Rattle.qs_memory.specs.Values.{Pointer, null, into}
use Rattle.qs_memory.specs.Memory as cells
use Rattle.qs_memory.specs.BlankOf.{blank_tree, joined_of}
use Rattle.qs_memory.specs.Memory.{blank_cells, parts_of, times}
use Rattle.qs_memory.specs.declared.blank.Blank.{Blank}
use Rattle.qs_meaning.specs.InitialValues.{written_over}
use Rattle.qs_typed_trees.specs.TreeOf.{contents_cells, data_cells, pointer_width}
use Rattle.qs_typed_units.specs.declared.contents.Contents.{Contents}
use Rattle.qs_typed_units.specs.declared.contents.Target.{Target}
use Rattle.qs_typed_units.specs.declared.contents.Target.TheVariants as targets
use Rattle.qs_typed_units.specs.declared.cells.Begun.{Begun}
use Rattle.qs_typed_units.specs.declared.cells.Cell.{Cell}
use Rattle.qs_typed_units.specs.declared.cells.Cell.TheVariants as variants
use Rattle.qs_typed_trees.specs.declared.data.Datum.{Datum}

abbrev pub target_tree : Target → Pointer
target_tree targets.Null = null
target_tree (targets.Static block) = into block 0

abbrev pub pointer_cells : Target → List cells.Cell
pointer_cells target = parts_of (target_tree target) 0 pointer_width

-- so many null pointers
abbrev pub null_cells : ℕ → List cells.Cell
null_cells n = times n (parts_of null 0 pointer_width)

abbrev pub contents_tree : Contents → List cells.Cell
contents_tree c = contents_cells c.whole.items ++ (map cells.byte c.bytes.items ++ null_cells c.nulls)

abbrev pub cell_tree : Cell → cells.Cell
cell_tree (variants.Byte n) = cells.byte n
cell_tree (variants.Part target k) = cells.part (target_tree target) k

abbrev pub cells_tree : Vec Cell Global → List cells.Cell
cells_tree cs = map cell_tree cs.items

-- the parts of a pointer that have come
abbrev pub begun_cells : Begun → List cells.Cell
begun_cells b = parts_of (target_tree b.target) 0 b.parts

-- the zeros and null pointers of parts, one behind the other
abbrev pub blanks_cells : List Blank → List cells.Cell
blanks_cells parts = blank_cells (joined_of (map blank_tree parts))

-- ---- what is gathered

-- these cells stand behind the others
abbrev pub AddsCells : {T E : Type 0} → (added : List cells.Cell) → (old new : Vec Cell Global) → Result T E → Type 0
AddsCells added old new result = OnOk result (cells_tree new ≡ cells_tree old ++ added)

-- .. behind the others of whole data
abbrev pub AddsData : {T E : Type 0} → (added : List cells.Cell) → (old new : Vec Datum Global) → Result T E → Type 0
AddsData added old new result = OnOk result (data_cells new ≡ data_cells old ++ added)

-- .. behind the others of a block
abbrev pub Gathers : {T E : Type 0} → (added : List cells.Cell) → (old new : Contents) → Result T E → Type 0
Gathers added old new result = OnOk result (contents_tree new ≡ contents_tree old ++ added)

-- .. so many times a part, if it can be added at once
abbrev pub GathersRun : {E : Type 0} → (n : ℕ) → Blank → (old new : Contents) → Result Bool E → Type 0
GathersRun n part old new result =
    IfOk result (λ added. contents_tree new ≡ contents_tree old ++ (if added then times n (blank_cells (blank_tree part)) else []))

-- a block, and behind it the parts of a pointer that have come, with a cell behind them
abbrev pub PutsCell : {T E : Type 0} → Cell → Begun → Contents → (begun : Begun) → (contents : Contents) → Result T E → Type 0
PutsCell cell before old begun contents result =
    OnOk result (contents_tree contents ++ begun_cells begun ≡ (contents_tree old ++ begun_cells before) ++ cell_tree cell ∷ [])

-- these cells are put in place of those from this place on
abbrev pub Overwrites : {T E : Type 0} → (at : ℕ) → (put old new : List Cell) → Result T E → Type 0
Overwrites at put old new result = OnOk result (map cell_tree new ≡ written_over (map cell_tree old) at (map cell_tree put))
