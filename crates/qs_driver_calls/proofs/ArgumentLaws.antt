-- Arguments that are tested one after the other.
use Rattle.std.proofs.Common.{◌≡◌, ◌∙◌, ℕ, zero, suc, ◌+◌, ◌<◌, ◌≤◌, Bool, true, false, if◌then◌else◌, ℤ, List, [], ◌∷◌, length, map, drop, get_or, Option, Some, None, refl, sym, ap, subst, arith}
use Rattle.std.specs.Prelude.{◌&&◌, int_le, min}
use Rattle.std.proofs.lemmas.Bool.{and_parts}
use Rattle.std.proofs.lemmas.List.{drop_more}
use Rattle.qs_memory.specs.declared.scalar.Scalar.{Scalar}
use Rattle.qs_core.specs.Interfaces.{types_of, parameter_types}
use Rattle.qs_core.specs.TreeOf.{parameter_tree, variable_tree, function_tree}
use Rattle.qs_core.specs.declared.units.CoreFunction.{CoreFunction}
use Rattle.qs_core.specs.declared.units.CoreParameter.{CoreParameter}
use Rattle.qs_core.specs.declared.units.CoreVariable.{CoreVariable}
use Rattle.qs_certify.specs.Bound.{IsNumberOf, AreNumbersOf}
use Rattle.qs_entail.specs.Facts.{least, greatest_of_type}
use Rattle.qs_triples.specs.Valuations.{number_type}
use Rattle.qs_driver_proofs.specs.Misfits.{IsFirstUnfit, IsMisfit}
use Rattle.qs_driver_proofs.proofs.NumberLaws.{least_below, below_least}
use Rattle.qs_driver_calls.specs.Answers.{is_number}

-- ---- one number

pub number_is : (s : Scalar) (z : ℤ) → is_number s z ≡ true → IsNumberOf s z
number_is s z h =
    let p = and_parts (int_le (least (number_type s)) z) (int_le z (greatest_of_type (number_type s))) h in
    (least_below (least (number_type s)) z p.0, least_below z (greatest_of_type (number_type s)) p.1)

pub is_a_number : (s : Scalar) (z : ℤ) → IsNumberOf s z → is_number s z ≡ true
is_a_number s z h =
    ap (λ b. b && int_le z (greatest_of_type (number_type s))) (below_least (least (number_type s)) z h.0)
    ∙ below_least z (greatest_of_type (number_type s)) h.1

-- ---- one after the other

-- the first argument that is no number of its type, those from i on being given
abbrev pub unfit_from : (i : ℕ) → List Scalar → List ℤ → Option ℕ
unfit_from i [] zs = None
unfit_from i (s ∷ types) [] = None
unfit_from i (s ∷ types) (z ∷ zs) = if is_number s z then unfit_from (i + 1) types zs else Some i

all_numbers : (i : ℕ) (types : List Scalar) (zs : List ℤ) → length zs ≡ length types → unfit_from i types zs ≡ None → AreNumbersOf types zs
all_numbers i [] [] long h = tt
all_numbers i [] (z ∷ zs) long h = absurd (omega (arith, long))
all_numbers i (s ∷ types) [] long h = absurd (omega (arith, long))
all_numbers i (s ∷ types) (z ∷ zs) long h = by (is_number s z) refl h (all_numbers (i + 1) types zs (omega (arith, long)))
  where
    by :
        (b : Bool) → is_number s z ≡ b → (if b then unfit_from (i + 1) types zs else Some i) ≡ None
        → (unfit_from (i + 1) types zs ≡ None → AreNumbersOf types zs) → IsNumberOf s z × AreNumbersOf types zs
    by true is h others = (number_is s z is, others h)
    by false is h others = cc

-- the first is at this place behind i
abbrev IsUnfitBehind : (i : ℕ) → List Scalar → List ℤ → (found : ℕ) → Type 0
IsUnfitBehind i types zs found = (j : ℕ) × (found ≡ i + j) × IsFirstUnfit types zs j

first_unfit : (i : ℕ) (types : List Scalar) (zs : List ℤ) (found : ℕ) → unfit_from i types zs ≡ Some found → IsUnfitBehind i types zs found
first_unfit i [] zs found h = absurd (let never : ⊥ = cc in never)
first_unfit i (s ∷ types) [] found h = absurd (let never : ⊥ = cc in never)
first_unfit i (s ∷ types) (z ∷ zs) found h = by (is_number s z) refl h (first_unfit (i + 1) types zs found)
  where
    by :
        (b : Bool) → is_number s z ≡ b → (if b then unfit_from (i + 1) types zs else Some i) ≡ Some found
        → (unfit_from (i + 1) types zs ≡ Some found → IsUnfitBehind (i + 1) types zs found) → IsUnfitBehind i (s ∷ types) (z ∷ zs) found
    by true is h later = let (j, at, unfit) = later h in (suc j, omega (arith, at), (number_is s z is, unfit))
    by false is h later =
        let here : i ≡ found = cc in (
          0,
          omega (arith, here),
          λ number.
              let yes : true ≡ false = sym (is_a_number s z number) ∙ is in
              (let never : ⊥ = cc in never),
        )

-- ---- main's parameters

-- they are the first of its variables
pub types_are_many : (ps : List CoreParameter) (vs : List CoreVariable) → length (types_of (map parameter_tree ps) (map variable_tree vs)) ≡ min (length ps) (length vs)
types_are_many [] vs = let none : 0 ≡ min 0 (length vs) = omega arith in none
types_are_many (p ∷ ps) [] = let none : 0 ≡ min (suc (length ps)) 0 = omega arith in none
types_are_many (p ∷ ps) (v ∷ vs) = let more = types_are_many ps vs in omega (arith, more)

pub type_of_variable : (ps : List CoreParameter) (vs : List CoreVariable) (i : ℕ) (d : CoreVariable) → i < min (length ps) (length vs) → (get_or vs i d).scalar ≡ get_or (types_of (map parameter_tree ps) (map variable_tree vs)) i d.scalar
type_of_variable [] vs i d h = absurd (omega (arith, h))
type_of_variable (p ∷ ps) [] i d h = absurd (omega (arith, h))
type_of_variable (p ∷ ps) (v ∷ vs) zero d h = refl
type_of_variable (p ∷ ps) (v ∷ vs) (suc i) d h = type_of_variable ps vs i d (omega (arith, h))

module _ (f : CoreFunction) where
  -- as the code counts them
  pub parameters_are : (parameters variables n : ℕ) → parameters ≡ length f.parameters.items → variables ≡ length f.variables.items → n ≡ min parameters variables → n ≡ length (parameter_types (function_tree f))
  parameters_are parameters variables n ps vs is =
      is ∙ ap (λ (p : ℕ). min p variables) ps ∙ ap (min (length f.parameters.items)) vs
      ∙ sym (types_are_many f.parameters.items f.variables.items)

  pub type_read : (i : ℕ) (x : CoreVariable) → i < length (parameter_types (function_tree f)) → x ≡ get_or f.variables.items i x → x.scalar ≡ get_or (parameter_types (function_tree f)) i x.scalar
  type_read i x within is =
      let many = types_are_many f.parameters.items f.variables.items in
      ap (λ (v : CoreVariable). v.scalar) is ∙ type_of_variable f.parameters.items f.variables.items i x (omega (arith, within, many))

-- ---- the loop

-- the first i arguments are numbers of their types
abbrev pub Passed : List Scalar → List ℤ → (i : ℕ) → Type 0
Passed types args i = unfit_from 0 types args ≡ unfit_from i (drop i types) (drop i args)

module _ (types : List Scalar) (args : List ℤ) (i : ℕ) (s d : Scalar) (z e : ℤ) (type_at : s ≡ get_or types i d) (number_at : z ≡ get_or args i e) (long : length args ≡ length types) (within : i < length args) where
  next : unfit_from i (drop i types) (drop i args) ≡ (if is_number s z then unfit_from (i + 1) (drop (i + 1) types) (drop (i + 1) args) else Some i)
  next =
      ap (λ (ts : List Scalar). unfit_from i ts (drop i args)) (drop_more types i d (omega (arith, long, within)))
      ∙ ap (unfit_from i (get_or types i d ∷ drop (i + 1) types)) (drop_more args i e within)
      ∙ ap (λ (t : Scalar). if is_number t (get_or args i e) then unfit_from (i + 1) (drop (i + 1) types) (drop (i + 1) args) else Some i) (sym type_at)
      ∙ ap (λ (y : ℤ). if is_number s y then unfit_from (i + 1) (drop (i + 1) types) (drop (i + 1) args) else Some i) (sym number_at)

  pub passed_more : is_number s z ≡ true → Passed types args i → Passed types args (i + 1)
  passed_more is p = p ∙ next ∙ ap (λ b. if b then unfit_from (i + 1) (drop (i + 1) types) (drop (i + 1) args) else Some i) is

  pub misfit_at : is_number s z ≡ false → Passed types args i → IsMisfit types args i
  misfit_at is p =
      let found : unfit_from 0 types args ≡ Some i = p ∙ next ∙ ap (λ b. if b then unfit_from (i + 1) (drop (i + 1) types) (drop (i + 1) args) else Some i) is in
      let (j, at, unfit) = first_unfit 0 types args i found in
      let here : j ≡ i = omega (arith, at) in
      record { count = long; first = subst (λ (k : ℕ). IsFirstUnfit types args k) here unfit }

dropped : {A : Type 0} (xs : List A) (i : ℕ) → length xs ≤ i → drop i xs ≡ []
dropped [] zero h = refl
dropped [] (suc i) h = refl
dropped (x ∷ xs) zero h = absurd (omega (arith, h))
dropped (x ∷ xs) (suc i) h = dropped xs i (omega (arith, h))

-- all were passed
pub all_passed : (types : List Scalar) (args : List ℤ) (i : ℕ) → length args ≡ length types → length args ≤ i → Passed types args i → AreNumbersOf types args
all_passed types args i long end p =
    all_numbers 0 types args long (p ∙ ap (λ (ts : List Scalar). unfit_from i ts (drop i args)) (dropped types i (omega (arith, long, end))))
