-- The arguments of main: whole numbers that are values of its parameters' types, and the words that stand for them.
use Rattle.std.specs.Prelude.{◌≡◌, ℕ, ◌+◌, ◌^◌, ◌/◌, ◌%◌, ◌-◌, ◌==◌, Bool, ◌&&◌, if◌then◌else◌, ℤ, pos, negsuc, int_le, List, [], ◌∷◌, length, map, Option, Some, None}
use Rattle.qs_base.specs.Words.{wrap}
use Rattle.qs_image.specs.Image.{Image}

-- whether parameter i of main is `unsigned`
abbrev pub is_unsigned : Image → ℕ → Bool
is_unsigned image i = image.unsigned_set / 2 ^ i % 2 == 1

abbrev pub is_between : ℤ → ℤ → ℤ → Bool
is_between low high z = int_le low z && int_le z high

-- whether a number is a value of a parameter's type: `unsigned` or `int` of 32 bits (C11 6.2.5, 6.2.6.2)
abbrev pub fits_parameter : Image → ℕ → ℤ → Bool
fits_parameter image i z =
    if is_unsigned image i then is_between (pos 0) (pos (2 ^ 32 - 1)) z
    else is_between (negsuc (2 ^ 31 - 1)) (pos (2 ^ 31 - 1)) z

-- the number of the first argument that doesn't fit, those from parameter i on being given
abbrev pub first_misfit : Image → ℕ → List ℤ → Option ℕ
first_misfit image i [] = None
first_misfit image i (z ∷ zs) = if fits_parameter image i z then first_misfit image (i + 1) zs else Some i

-- one argument for each parameter, and each fits
pub record AreArguments (image : Image) (args : List ℤ) : Type 0 where
  pub count : length args ≡ image.parameters
  pub fit : first_misfit image 0 args ≡ None

abbrev pub words_of : List ℤ → List ℕ
words_of args = map wrap args
