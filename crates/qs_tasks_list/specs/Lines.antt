-- Lines of a list of tasks: what each says.
use Rattle.std.specs.Prelude.{ℕ, ◌+◌, ◌*◌, ◌-◌, ◌==◌, ◌&&◌, nat_le, nat_lt, if◌then◌else◌, Bool, List, [], ◌∷◌, length, codes, Option, Some, None}
use Rattle.std.specs.List.{list_all, slice_split}
use Rattle.qs_base.specs.Bytes.{is_between, is_digit, same_bytes}
use Rattle.qs_base.specs.Characters.{digit_zero, lowercase_a, lowercase_f, space}
use Rattle.qs_base.specs.Names.{is_name}

-- `task NAME P` or `task NAME P HEX`, and `arrive AT NAME`
pub data Line : Type 0 where
  task_line : (name : List ℕ) (priority : ℕ) (input : List ℕ) → Line
  arrival_line : (at : ℕ) (name : List ℕ) → Line

abbrev pub task_word : List ℕ
task_word = codes "task"

abbrev pub arrive_word : List ℕ
arrive_word = codes "arrive"

abbrev pub most_priority : ℕ
most_priority = 255

abbrev pub most_instructions : ℕ
most_instructions = 1000000000

-- ---- words

abbrev pub some_name : List ℕ → Option (List ℕ)
some_name word = if is_name word then Some word else None

-- the value of these decimal digits behind digits of this value
abbrev pub value_from : ℕ → List ℕ → ℕ
value_from value [] = value
value_from value (digit ∷ digits) = value_from (value * 10 + (digit - digit_zero)) digits

abbrev pub up_to : (most value : ℕ) → Option ℕ
up_to most value = if nat_le value most then Some value else None

-- 1 to 10 decimal digits
abbrev pub are_decimal : List ℕ → Bool
are_decimal word = (nat_lt 0 (length word) && nat_le (length word) 10) && list_all is_digit word

-- such digits, a number up to the most
abbrev pub number_of : (most : ℕ) → List ℕ → Option ℕ
number_of most word = if are_decimal word then up_to most (value_from 0 word) else None

-- `0` to `9` and `a` to `f`
abbrev pub hex_digit : ℕ → Option ℕ
hex_digit byte =
    if is_digit byte then Some (byte - digit_zero)
    else if is_between lowercase_a lowercase_f byte then Some (byte - lowercase_a + 10)
    else None

abbrev pub joined : Option ℕ → Option ℕ → Option ℕ
joined (Some high) (Some low) = Some (16 * high + low)
joined (Some high) None = None
joined None low = None

abbrev pub followed_by : Option ℕ → Option (List ℕ) → Option (List ℕ)
followed_by (Some byte) (Some bytes) = Some (byte ∷ bytes)
followed_by (Some byte) None = None
followed_by None bytes = None

-- pairs of digits, the high one first
abbrev pub pairs_of : List ℕ → Option (List ℕ)
pairs_of [] = Some []
pairs_of (high ∷ []) = None
pairs_of (high ∷ low ∷ digits) = followed_by (joined (hex_digit high) (hex_digit low)) (pairs_of digits)

-- one pair or more
abbrev pub input_of : List ℕ → Option (List ℕ)
input_of word = if length word == 0 then None else pairs_of word

-- ---- lines

abbrev pub task_with : Option (List ℕ) → Option ℕ → Option (List ℕ) → Option Line
task_with (Some name) (Some priority) (Some input) = Some (task_line name priority input)
task_with (Some name) (Some priority) None = None
task_with (Some name) None input = None
task_with None priority input = None

abbrev pub arrival_with : Option ℕ → Option (List ℕ) → Option Line
arrival_with (Some at) (Some name) = Some (arrival_line at name)
arrival_with (Some at) None = None
arrival_with None name = None

-- three words
abbrev pub line_of_three : (first second third : List ℕ) → Option Line
line_of_three first second third =
    if same_bytes first task_word then task_with (some_name second) (number_of most_priority third) (Some [])
    else if same_bytes first arrive_word then arrival_with (number_of most_instructions second) (some_name third)
    else None

-- four words
abbrev pub line_of_four : (first second third fourth : List ℕ) → Option Line
line_of_four first second third fourth =
    if same_bytes first task_word then task_with (some_name second) (number_of most_priority third) (input_of fourth) else None

abbrev pub line_of_words : List (List ℕ) → Option Line
line_of_words [] = None
line_of_words (first ∷ []) = None
line_of_words (first ∷ second ∷ []) = None
line_of_words (first ∷ second ∷ third ∷ []) = line_of_three first second third
line_of_words (first ∷ second ∷ third ∷ fourth ∷ []) = line_of_four first second third fourth
line_of_words (first ∷ second ∷ third ∷ fourth ∷ more ∷ others) = None

-- what stands between single blanks are words
abbrev pub words_of : (line : List ℕ) → List (List ℕ)
words_of line = slice_split (λ byte. byte == space) line

abbrev pub line_of : (line : List ℕ) → Option Line
line_of line = line_of_words (words_of line)
