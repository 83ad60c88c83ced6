-- The types of main's parameters, and the first argument that is no number of its type, at the edges of the types.
use Rattle.std.proofs.Common.{◌≡◌, ◌-◌, ◌^◌, pos, negsuc, true, false, [], ◌∷◌, refl}
use Rattle.qs_core.specs.Interfaces.{main_types}
use Rattle.qs_memory.specs.declared.scalar.Scalar.TheVariants.{Int, Unsigned}
use Rattle.qs_certify.specs.Bound.{IsNumberOf}
use Rattle.qs_prooftext_meaning.proofs.Examples.{u}
use Rattle.qs_driver_proofs.specs.Misfits.{IsFirstUnfit}
use Rattle.qs_driver.proofs.MainLaws.{number_of_type, type_of_number}

-- `unsigned f(unsigned n, int q)`, whose second parameter lies in a block
types : main_types u ≡ Unsigned ∷ Int ∷ []
types = refl

-- `void g(void)`
no_types : main_types (record u { main = 1 }) ≡ []
no_types = refl

-- ---- numbers

minus_one_is_an_int : IsNumberOf Int (negsuc 0)
minus_one_is_an_int = number_of_type Int (negsuc 0) refl refl

minus_one_is_no_unsigned : IsNumberOf Unsigned (negsuc 0) → ⊥
minus_one_is_no_unsigned is =
    let yes : false ≡ true = type_of_number Unsigned (negsuc 0) refl is in
    (let never : ⊥ = cc in never)

the_greatest_int : IsNumberOf Int (pos (2 ^ 31 - 1))
the_greatest_int = number_of_type Int (pos (2 ^ 31 - 1)) refl refl

past_the_greatest_int : IsNumberOf Int (pos (2 ^ 31)) → ⊥
past_the_greatest_int is =
    let yes : false ≡ true = type_of_number Int (pos (2 ^ 31)) refl is in
    (let never : ⊥ = cc in never)

the_least_int : IsNumberOf Int (negsuc (2 ^ 31 - 1))
the_least_int = number_of_type Int (negsuc (2 ^ 31 - 1)) refl refl

below_the_least_int : IsNumberOf Int (negsuc (2 ^ 31)) → ⊥
below_the_least_int is =
    let yes : false ≡ true = type_of_number Int (negsuc (2 ^ 31)) refl is in
    (let never : ⊥ = cc in never)

the_greatest_unsigned : IsNumberOf Unsigned (pos (2 ^ 32 - 1))
the_greatest_unsigned = number_of_type Unsigned (pos (2 ^ 32 - 1)) refl refl

past_the_greatest_unsigned : IsNumberOf Unsigned (pos (2 ^ 32)) → ⊥
past_the_greatest_unsigned is =
    let yes : false ≡ true = type_of_number Unsigned (pos (2 ^ 32)) refl is in
    (let never : ⊥ = cc in never)

-- ---- the first that is unfit

the_second_is_unfit : IsFirstUnfit (Int ∷ Unsigned ∷ []) (negsuc 0 ∷ negsuc 0 ∷ []) 1
the_second_is_unfit = (minus_one_is_an_int, minus_one_is_no_unsigned)

not_one_that_fits : IsFirstUnfit (Int ∷ Unsigned ∷ []) (negsuc 0 ∷ negsuc 0 ∷ []) 0 → ⊥
not_one_that_fits unfit = unfit minus_one_is_an_int

not_one_behind_the_first : IsFirstUnfit (Unsigned ∷ Unsigned ∷ []) (negsuc 0 ∷ negsuc 0 ∷ []) 1 → ⊥
not_one_behind_the_first both = minus_one_is_no_unsigned both.0

past_the_greatest : IsFirstUnfit (Int ∷ Int ∷ []) (pos (2 ^ 31 - 1) ∷ pos (2 ^ 31) ∷ []) 1
past_the_greatest = (the_greatest_int, past_the_greatest_int)
