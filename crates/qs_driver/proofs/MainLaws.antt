-- Main's arguments: those that an image takes are those of its core.
use Rattle.std.proofs.Common.{◌≡◌, ℕ, zero, suc, ◌+◌, ◌-◌, ◌^◌, Bool, true, false, if◌then◌else◌, ℤ, pos, negsuc, List, [], ◌∷◌, length, Option, Some, None, refl, sym, ap, ◌∙◌, subst, arith, add-zero}
use Rattle.std.specs.Prelude.{◌↔◌, ◌≤ℤ◌, ◌&&◌, int_le, bytes_eq}
use Rattle.std.specs.List.{slice_get, list_all}
use Rattle.std.proofs.lemmas.Bool.{and_parts}
use Rattle.qs_memory.specs.Scalars.{same_scalar, is_type, is_promoted}
use Rattle.qs_memory.specs.declared.scalar.Scalar.{Scalar}
use Rattle.qs_memory.specs.declared.scalar.Scalar.TheVariants as scalars
use Rattle.qs_core.specs.Fits.{main_name, is_main, unit_fits}
use Rattle.qs_core.specs.Interfaces.{main_types, parameter_types, types_of_main}
use Rattle.qs_core.specs.Trees.{CoreFunctionTree, CoreUnitTree}
use Rattle.qs_core.proofs.FitLaws.{unit_parts}
use Rattle.qs_image.specs.Image.{Image}
use Rattle.qs_machine.specs.Arguments.{is_unsigned, is_between, fits_parameter, first_misfit}
use Rattle.qs_machine.specs.Arguments as image_arguments
use Rattle.qs_compile.specs.Built.{IsBuiltFrom}
use Rattle.qs_certify.specs.Bound.{IsNumberOf, AreNumbersOf}
use Rattle.qs_certify.specs.Bound as certify
use Rattle.qs_driver_proofs.specs.Misfits.{IsFirstUnfit, IsMisfit}
use Rattle.qs_driver_proofs.proofs.NumberLaws.{least_below, below_least, as_many}

-- ---- numbers

between : (low high z : ℤ) → is_between low high z ≡ true → (low ≤ℤ z) × (z ≤ℤ high)
between low high z h = let p = and_parts (int_le low z) (int_le z high) h in (least_below low z p.0, least_below z high p.1)

is_within : (low high z : ℤ) → low ≤ℤ z → z ≤ℤ high → is_between low high z ≡ true
is_within low high z more less = ap (λ b. b && int_le z high) (below_least low z more) ∙ below_least z high less

-- whether a number is one of `unsigned`, or of `int`
abbrev is_number : (unsigned : Bool) → ℤ → Bool
is_number unsigned z =
    if unsigned then is_between (pos 0) (pos (2 ^ 32 - 1)) z
    else is_between (negsuc (2 ^ 31 - 1)) (pos (2 ^ 31 - 1)) z

pub number_of_type : (s : Scalar) (z : ℤ) → is_promoted s ≡ true → is_number (same_scalar s scalars.Unsigned) z ≡ true → IsNumberOf s z
number_of_type scalars.Char z promoted h = cc
number_of_type scalars.Int z promoted h = between (negsuc (2 ^ 31 - 1)) (pos (2 ^ 31 - 1)) z h
number_of_type scalars.Unsigned z promoted h = between (pos 0) (pos (2 ^ 32 - 1)) z h
number_of_type scalars.Pointer z promoted h = cc

pub type_of_number : (s : Scalar) (z : ℤ) → is_promoted s ≡ true → IsNumberOf s z → is_number (same_scalar s scalars.Unsigned) z ≡ true
type_of_number scalars.Char z promoted h = cc
type_of_number scalars.Int z promoted h = is_within (negsuc (2 ^ 31 - 1)) (pos (2 ^ 31 - 1)) z h.0 h.1
type_of_number scalars.Unsigned z promoted h = is_within (pos 0) (pos (2 ^ 32 - 1)) z h.0 h.1
type_of_number scalars.Pointer z promoted h = cc

-- ---- arguments

-- none of these is the first that doesn't fit
record AllFit (image : Image) (i : ℕ) (z : ℤ) (zs : List ℤ) : Type 0 where
  first : fits_parameter image i z ≡ true
  others : first_misfit image (i + 1) zs ≡ None

all_fit : (image : Image) (i : ℕ) (z : ℤ) (zs : List ℤ) → first_misfit image i (z ∷ zs) ≡ None → AllFit image i z zs
all_fit image i z zs h = by (fits_parameter image i z) refl h
  where
    by : (b : Bool) → fits_parameter image i z ≡ b → (if b then first_misfit image (i + 1) zs else Some i) ≡ None → AllFit image i z zs
    by true is h = record { first = is; others = h }
    by false is h = cc

-- the parameters from i on have these types, and the image tells which are `unsigned`
abbrev Tells : Image → (i : ℕ) → List Scalar → Type 0
Tells image i types = (j : ℕ) → is_unsigned image (i + j) ≡ is_type (slice_get types j) scalars.Unsigned

tells_first : (image : Image) (i : ℕ) (s : Scalar) (types : List Scalar) → Tells image i (s ∷ types) → is_unsigned image i ≡ same_scalar s scalars.Unsigned
tells_first image i s types tells = ap (is_unsigned image) (sym (add-zero i)) ∙ tells 0

tells_others : (image : Image) (i : ℕ) (s : Scalar) (types : List Scalar) → Tells image i (s ∷ types) → Tells image (i + 1) types
tells_others image i s types tells j = let next : i + 1 + j ≡ i + suc j = omega arith in ap (is_unsigned image) next ∙ tells (suc j)

are_numbers :
    (image : Image) (i : ℕ) (types : List Scalar) (zs : List ℤ) → list_all is_promoted types ≡ true → Tells image i types → length zs ≡ length types
    → first_misfit image i zs ≡ None → AreNumbersOf types zs
are_numbers image i [] [] promoted tells long h = tt
are_numbers image i [] (z ∷ zs) promoted tells long h = absurd (omega (arith, long))
are_numbers image i (s ∷ types) [] promoted tells long h = absurd (omega (arith, long))
are_numbers image i (s ∷ types) (z ∷ zs) promoted tells long h =
    let p = and_parts (is_promoted s) (list_all is_promoted types) promoted in
    let fit = all_fit image i z zs h in
    let as_long : length zs ≡ length types = omega (arith, long) in (
      number_of_type s z p.0 (ap (λ b. is_number b z) (sym (tells_first image i s types tells)) ∙ fit.first),
      are_numbers image (i + 1) types zs p.1 (tells_others image i s types tells) as_long fit.others,
    )

numbers_fit :
    (image : Image) (i : ℕ) (types : List Scalar) (zs : List ℤ) → list_all is_promoted types ≡ true → Tells image i types → AreNumbersOf types zs
    → first_misfit image i zs ≡ None
numbers_fit image i [] [] promoted tells are = refl
numbers_fit image i [] (z ∷ zs) promoted tells are = absurd are
numbers_fit image i (s ∷ types) [] promoted tells are = absurd are
numbers_fit image i (s ∷ types) (z ∷ zs) promoted tells are =
    let p = and_parts (is_promoted s) (list_all is_promoted types) promoted in
    ap (λ b. if b then first_misfit image (i + 1) zs else Some i) (ap (λ b. is_number b z) (tells_first image i s types tells) ∙ type_of_number s z p.0 are.0)
    ∙ numbers_fit image (i + 1) types zs p.1 (tells_others image i s types tells) are.1

-- the first argument that doesn't fit is the first that is no number of its type, those from i on being given
abbrev IsUnfitFrom : (i : ℕ) → List Scalar → List ℤ → (found : ℕ) → Type 0
IsUnfitFrom i types zs found = (j : ℕ) × (found ≡ i + j) × IsFirstUnfit types zs j

unfit_here :
    (image : Image) (i : ℕ) (s : Scalar) (types : List Scalar) (z : ℤ) (zs : List ℤ) (found : ℕ) → is_promoted s ≡ true
    → fits_parameter image i z ≡ is_number (same_scalar s scalars.Unsigned) z
    → (first_misfit image (i + 1) zs ≡ Some found → IsUnfitFrom (i + 1) types zs found)
    → (b : Bool) → fits_parameter image i z ≡ b → (if b then first_misfit image (i + 1) zs else Some i) ≡ Some found
    → IsUnfitFrom i (s ∷ types) (z ∷ zs) found
unfit_here image i s types z zs found promoted test later true is h =
    let (j, at, unfit) = later h in
    let number : IsNumberOf s z = number_of_type s z promoted (sym test ∙ is) in (suc j, omega (arith, at), (number, unfit))
unfit_here image i s types z zs found promoted test later false is h =
    let here : i ≡ found = cc in (
      0,
      omega (arith, here),
      λ number.
          let yes : true ≡ false = sym (type_of_number s z promoted number) ∙ sym test ∙ is in
          (let never : ⊥ = cc in never),
    )

unfit_from :
    (image : Image) (i : ℕ) (types : List Scalar) (zs : List ℤ) (found : ℕ) → list_all is_promoted types ≡ true → Tells image i types
    → length zs ≡ length types → first_misfit image i zs ≡ Some found → IsUnfitFrom i types zs found
unfit_from image i [] [] found promoted tells long h = absurd (let never : ⊥ = cc in never)
unfit_from image i [] (z ∷ zs) found promoted tells long h = absurd (omega (arith, long))
unfit_from image i (s ∷ types) [] found promoted tells long h = absurd (omega (arith, long))
unfit_from image i (s ∷ types) (z ∷ zs) found promoted tells long h =
    let p = and_parts (is_promoted s) (list_all is_promoted types) promoted in
    let as_long : length zs ≡ length types = omega (arith, long) in
    unfit_here image i s types z zs found p.0 (ap (λ b. is_number b z) (tells_first image i s types tells))
    (λ later. unfit_from image (i + 1) types zs found p.1 (tells_others image i s types tells) as_long later)
    (fits_parameter image i z) refl h

-- ---- main

promoted_types : (main : Option CoreFunctionTree) → is_main main ≡ true → list_all is_promoted (types_of_main main) ≡ true
promoted_types None is = cc
promoted_types (Some f) is = (and_parts (bytes_eq f.name main_name && is_type f.result_type scalars.Int) (list_all is_promoted (parameter_types f)) is).1

module _ (u : CoreUnitTree) (image : Image) (args : List ℤ) (fits : unit_fits u ≡ true) (built : IsBuiltFrom u image) where
  promoted : list_all is_promoted (main_types u) ≡ true
  promoted = promoted_types (slice_get u.functions u.main) (unit_parts u fits).main

  tells : Tells image 0 (main_types u)
  tells j = let same : 0 + j ≡ j = omega arith in ap (is_unsigned image) same ∙ built.unsigned j

  -- it takes as many arguments as main of its core has parameters
  pub parameters_are : image.parameters ≡ length (main_types u)
  parameters_are = built.parameters

  -- and where one doesn't fit, it is the first that is no number of its type
  pub misfits : (i : ℕ) → length args ≡ image.parameters → first_misfit image 0 args ≡ Some i → IsMisfit (main_types u) args i
  misfits i count first =
      let long : length args ≡ length (main_types u) = count ∙ built.parameters in
      let (j, at, unfit) = unfit_from image 0 (main_types u) args i promoted tells long first in
      let here : j ≡ i = omega (arith, at) in
      record {
        count = count ∙ parameters_are;
        first = subst (λ (k : ℕ). IsFirstUnfit (main_types u) args k) here unfit;
      }

  are_mains : image_arguments.AreArguments image args → certify.AreArguments u args
  are_mains a = are_numbers image 0 (main_types u) args promoted tells (a.count ∙ built.parameters) a.fit

  are_images : certify.AreArguments u args → image_arguments.AreArguments image args
  are_images a = record {
    count = as_many (main_types u) args a ∙ sym built.parameters;
    fit = numbers_fit image 0 (main_types u) args promoted tells a;
  }

-- the arguments that an image takes are those that main of its core takes
pub arguments_are_mains :
    (u : CoreUnitTree) (image : Image) (args : List ℤ) → unit_fits u ≡ true → IsBuiltFrom u image
    → image_arguments.AreArguments image args ↔ certify.AreArguments u args
arguments_are_mains u image args fits built = (are_mains u image args fits built, are_images u image args fits built)
