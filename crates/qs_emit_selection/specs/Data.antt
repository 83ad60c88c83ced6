-- Where the blocks of a unit's data lie.
use Rattle.std.specs.Prelude.{ℕ, ◌+◌, List, map}
use Rattle.qs_isa.specs.Addresses.{data_start}
use Rattle.qs_tac.specs.declared.units.TacData.{TacData}
use Rattle.qs_frames.specs.Layout.{offset}

abbrev pub data_sizes : List TacData → List ℕ
data_sizes data_blocks = map (λ d. d.size) data_blocks

-- the data in order, each at its least multiple of 4
abbrev pub data_address : List TacData → (block : ℕ) → ℕ
data_address data_blocks block = data_start + offset (data_sizes data_blocks) block
