-- What a unit of core does: the run of each root function, from each memory and input, within each
-- bound.
use Rattle.std.specs.Prelude.{ℕ, zero, suc, true, List, [], ◌∷◌, ◌++◌, length, map, slice_index_or, None}
use Rattle.std.specs.List.{slice_get}
use Rattle.qs_memory.specs.Values.{into, Value}
use Rattle.qs_memory.specs.Memory.{Cell, unset, byte, parts_of, Block, Memory, blank_cells}
use Rattle.qs_events.specs.Runs.{undefined, short, given}
use Rattle.qs_calls.specs.World.{World, RootRun, Return, leaves, no_values}
use Rattle.qs_calls.specs.Calls.{CallsOf, Frame, Body, activate}
use Rattle.qs_core.specs.Trees.{CoreFunctionTree, PieceTree, blank, bytes, pointer, DataBlockTree, CoreUnitTree}
use Rattle.qs_core.specs.Statements.{Continuation, Continuations, Context, runs_all}

-- ---- functions

abbrev pub frame_of : CoreFunctionTree → Frame
frame_of f = record { parameters = map (λ p. p.place) f.parameters; blocks = f.blocks }

-- a break or a continue outside every loop means nothing
abbrev pub nowhere : Continuation
nowhere l w = undefined

-- 6.9.1p12: a body that ends returns no value
abbrev pub after_function : Return → Continuations
after_function k =
    record { next = λ l w. k None w; on_break = nowhere; on_continue = nowhere; on_return = k }

abbrev pub body_of : CoreFunctionTree → Context → Body
body_of f c first k e w =
    runs_all f.body c (after_function k)
    (record { first_block = first; variables = e; temporaries = no_values }) w

-- Calls that nest at most so deep, in which each run of a loop makes at most so many turns. The
-- call that would nest deeper is short before its event. A number that no function has is
-- undefined.
abbrev pub calls_within : CoreUnitTree → (turns depth : ℕ) → CallsOf
calls_within u turns zero f arguments k w = short
calls_within u turns (suc depth) f arguments k w =
    given (slice_get u.functions f)
    (λ g. activate f (frame_of g) (body_of g
    (record { turns = turns; calls = calls_within u turns depth })) arguments k w)

-- the run of a root function within the bound n: loops make at most n turns, calls nest at most n
-- deep, that of the root one deep
abbrev pub core_run :
    CoreUnitTree → (root : ℕ) → (arguments : List Value) → World → (n : ℕ) → RootRun
core_run u root arguments w n = calls_within u n n root arguments leaves w

-- ---- the memory to start from

abbrev pub piece_cells : PieceTree → List Cell
piece_cells (blank b) = blank_cells b
piece_cells (bytes bs) = map byte bs
piece_cells (pointer block offset) = parts_of (into block offset) 0 4

abbrev pub cells_of_pieces : List PieceTree → List Cell
cells_of_pieces [] = []
cells_of_pieces (p ∷ ps) = piece_cells p ++ cells_of_pieces ps

abbrev pub data_block : DataBlockTree → Block
data_block d = record {
  size = length (cells_of_pieces d.pieces);
  is_live = true;
  is_writable = d.is_writable;
  cells = λ offset. slice_index_or (cells_of_pieces d.pieces) offset unset;
}

abbrev pub initial_memory : CoreUnitTree → Memory
initial_memory u = map data_block u.data_blocks

-- 5.1.2.2.1: main, with its arguments, from the initial memory
abbrev pub main_run : CoreUnitTree → (arguments : List Value) → (input : List ℕ) → (n : ℕ) → RootRun
main_run u arguments input n =
    core_run u u.main arguments (record { memory = initial_memory u; input = input }) n
