-- The events of a run, in the order in which they happen.
use Rattle.std.specs.Prelude.{ℕ, List, [], ◌∷◌}

-- Functions with a body are numbered from 0 in the order of their definitions. A byte is below 256.
pub data Event : Type 0 where
  -- a function is entered, after its arguments
  Calls : (function : ℕ) → Event
  -- a function returns
  Returns : (function : ℕ) → Event
  -- the next byte of the input is taken
  Takes : (byte : ℕ) → Event
  -- the input's end is met
  TakesEnd : Event
  -- a byte is put on the output
  Puts : (byte : ℕ) → Event

-- the bytes that are put on the output
abbrev pub output_of : List Event → List ℕ
output_of [] = []
output_of (Calls f ∷ trace) = output_of trace
output_of (Returns f ∷ trace) = output_of trace
output_of (Takes byte ∷ trace) = output_of trace
output_of (TakesEnd ∷ trace) = output_of trace
output_of (Puts byte ∷ trace) = byte ∷ output_of trace
