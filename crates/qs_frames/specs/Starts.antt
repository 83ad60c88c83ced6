-- Where blocks begin that lie one after the other.
use Rattle.std.specs.Prelude.{◌≡◌, ℕ, ◌+◌, List, slice_index_or}
use Rattle.qs_frames.specs.declared.blocks.Starts.{Starts}
use Rattle.qs_frames.specs.Layout.{offset}

abbrev pub start_of : Starts → (block : ℕ) → ℕ
start_of starts block = slice_index_or starts.at.items block starts.end

-- each block begins where these say
abbrev pub BeginAt : Starts → (ℕ → ℕ) → Type 0
BeginAt starts places = (block : ℕ) → start_of starts block ≡ places block

-- the first block begins here
pub record AreStarts (first : ℕ) (sizes : List ℕ) (starts : Starts) : Type 0 where
  pub each : (block : ℕ) → start_of starts block ≡ first + offset sizes block
