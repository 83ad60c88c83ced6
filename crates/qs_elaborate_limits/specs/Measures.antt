-- What is counted of a unit of core, beside its values, words and arguments: the bytes of its blocks.
use Rattle.std.specs.Prelude.{ℕ, ◌+◌, max, List, [], ◌∷◌, Option, Some, None, sum_by}
use Rattle.qs_types.specs.Layout.{rounded_up}
use Rattle.qs_types.specs.Limits.{word_size}
use Rattle.qs_core.specs.Trees.{DataBlockTree}
use Rattle.qs_core.specs.Units.{data_block}

-- the highest number that one of these has, or 0
abbrev pub highest : {A : Type 0} → (A → ℕ) → List A → ℕ
highest number [] = 0
highest number (x ∷ xs) = max (number x) (highest number xs)

abbrev pub option_highest : {A : Type 0} → (A → ℕ) → Option A → ℕ
option_highest number None = 0
option_highest number (Some x) = number x

-- the bytes of the blocks of a call, each in whole words
abbrev pub bytes_in_words : (sizes : List ℕ) → ℕ
bytes_in_words sizes = sum_by (λ size. rounded_up size word_size) sizes

-- where the last of these blocks ends, the first at 0 and each further one at the next multiple of a word
abbrev pub data_end : (sizes : List ℕ) → ℕ
data_end [] = 0
data_end (size ∷ []) = size
data_end (size ∷ next ∷ sizes) = rounded_up size word_size + data_end (next ∷ sizes)

abbrev pub data_size : DataBlockTree → ℕ
data_size d = (data_block d).size
