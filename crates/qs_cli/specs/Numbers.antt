-- Numbers in the words.
use Rattle.std.specs.Prelude.{ℕ, ℤ, pos, neg_ℤ, List, [], ◌∷◌, ◌&&◌, ◌==◌, if◌then◌else◌, Option, Some, None, length, nat_le, nat_lt, option_map, option_and_then}
use Rattle.std.specs.List.{list_all, slice_split}
use Rattle.std.specs.Str.Parse.{digits_value}
use Rattle.qs_base.specs.Bytes.{is_digit}
use Rattle.qs_base.specs.Characters.{comma, hyphen}
use Rattle.qs_base.specs.Parameters.{most_main_parameters}
use Rattle.qs_cli.specs.Words.{Text}

-- 1 to `most` decimal digits
abbrev pub number_of : ℕ → Text → Option ℕ
number_of most text =
    if (nat_lt 0 (length text) && nat_le (length text) most) && list_all is_digit text then Some (digits_value 10 text) else None

abbrev pub within : ℕ → ℕ → ℕ → Option ℕ
within low high n = if nat_le low n && nat_le n high then Some n else None

-- the most functions of a sample beside `main`
abbrev pub most_sample_functions : ℕ
most_sample_functions = 500

-- a number of 1 to 19 digits, from 1 to the most functions of a sample
abbrev pub count_of : Text → Option ℕ
count_of text = option_and_then (within 1 most_sample_functions) (number_of 19 text)

-- the most steps of a run, where the words name no number
abbrev pub default_steps : ℕ
default_steps = 100000000

-- the most steps of a run that the words can name
abbrev pub most_steps : ℕ
most_steps = 1000000000

-- a number of 1 to 10 digits, from 1 to the most steps; the default where none is given
abbrev pub steps_of : Option Text → Option ℕ
steps_of None = Some default_steps
steps_of (Some text) = option_and_then (within 1 most_steps) (number_of 10 text)

-- an optional `-` and 1 to 10 digits
abbrev pub signed_of : Text → Option ℤ
signed_of [] = None
signed_of (b ∷ bs) = if b == hyphen then option_map (λ n. neg_ℤ (pos n)) (number_of 10 bs) else option_map (λ n. pos n) (number_of 10 (b ∷ bs))

abbrev pub onto : Option ℤ → Option (List ℤ) → Option (List ℤ)
onto None rest = None
onto (Some z) rest = option_map (λ zs. z ∷ zs) rest

abbrev pub all_signed_of : List Text → Option (List ℤ)
all_signed_of [] = Some []
all_signed_of (part ∷ parts) = onto (signed_of part) (all_signed_of parts)

-- the most arguments of `main` that the words can name
abbrev pub most_arguments : ℕ
most_arguments = most_main_parameters

-- 1 to so many such numbers with commas between; none where nothing is given
abbrev pub arguments_of : Option Text → Option (List ℤ)
arguments_of None = Some []
arguments_of (Some text) = let parts = slice_split (λ b. b == comma) text in if nat_le (length parts) most_arguments then all_signed_of parts else None
