-- The bound of a function, of main above all, and main's arguments.
use Rattle.std.specs.Prelude.{ℕ, ◌≤ℤ◌, ℤ, List, [], ◌∷◌, map, slice_index_or}
use Rattle.qs_base.specs.Words.{wrap}
use Rattle.qs_base.specs.declared.function.FnId.{FnId}
use Rattle.qs_memory.specs.Values.{Value, integer}
use Rattle.qs_memory.specs.declared.scalar.Scalar.{Scalar}
use Rattle.qs_events.specs.Weights.{Costs}
use Rattle.qs_assert.specs.Bounds.{bound_at, need_at}
use Rattle.qs_assert.specs.Values.{Extended}
use Rattle.qs_assert.specs.declared.define.Amount.{Amount}
use Rattle.qs_entail.specs.Facts.{least, greatest_of_type}
use Rattle.qs_core.specs.Interfaces.{main_types}
use Rattle.qs_core.specs.Trees.{CoreUnitTree}
use Rattle.qs_core.specs.UnitTrees.{unit_tree}
use Rattle.qs_core.specs.declared.unit.CoreUnit.{CoreUnit}
use Rattle.qs_triples.specs.Derivations.{ProofsTree}
use Rattle.qs_triples.specs.Filled.{pre_of}
use Rattle.qs_triples.specs.TreeOf.{proofs_tree}
use Rattle.qs_triples.specs.Valuations.{number_type}
use Rattle.qs_triples.specs.declared.derivation.Proofs.{Proofs}

-- what a function costs, and the value of its precondition at these arguments
abbrev pub function_bound : (f : ℕ) → ProofsTree → (costs : List ℕ) → (arguments : List ℤ) → Amount
function_bound f proofs costs arguments = bound_at (pre_of proofs f) proofs.defines arguments costs f

-- the same as a value: a number also where a part of it is too wide to be computed
abbrev pub function_need : (f : ℕ) → ProofsTree → (costs : List ℕ) → (arguments : List ℤ) → Extended
function_need f proofs costs arguments = need_at (pre_of proofs f) proofs.defines arguments costs f

-- those of main
abbrev pub main_bound : CoreUnitTree → ProofsTree → (costs : List ℕ) → (arguments : List ℤ) → Amount
main_bound u proofs costs arguments = function_bound u.main proofs costs arguments

abbrev pub main_need : CoreUnitTree → ProofsTree → (costs : List ℕ) → (arguments : List ℤ) → Extended
main_need u proofs costs arguments = function_need u.main proofs costs arguments

-- the bounds of the code's values
abbrev pub function_bound_in : FnId → Proofs → (costs : List ℕ) → (arguments : List ℤ) → Amount
function_bound_in f proofs costs arguments = function_bound f.0 (proofs_tree proofs) costs arguments

abbrev pub bound_in : CoreUnit → Proofs → (costs : List ℕ) → (arguments : List ℤ) → Amount
bound_in unit proofs costs arguments = main_bound (unit_tree unit) (proofs_tree proofs) costs arguments

-- ---- costs and arguments, as runs have them

-- what each function costs
abbrev pub costs_of : List ℕ → Costs
costs_of costs f = slice_index_or costs f 0

-- the values of whole numbers: each by its two's complement (6.2.6.2p2)
abbrev pub values_of : List ℤ → List Value
values_of zs = map (λ z. integer (wrap z)) zs

-- a number of the type, which is `int` or `unsigned`
abbrev pub IsNumberOf : Scalar → ℤ → Type 0
IsNumberOf s z = (least (number_type s) ≤ℤ z) × (z ≤ℤ greatest_of_type (number_type s))

-- as many numbers as types, each of its type
abbrev pub AreNumbersOf : List Scalar → List ℤ → Type 0
AreNumbersOf [] [] = Unit {0}
AreNumbersOf [] (z ∷ zs) = ⊥
AreNumbersOf (s ∷ types) [] = ⊥
AreNumbersOf (s ∷ types) (z ∷ zs) = IsNumberOf s z × AreNumbersOf types zs

-- main's arguments: one for each of its parameters, a number of the parameter's type
abbrev pub AreArguments : CoreUnitTree → List ℤ → Type 0
AreArguments u arguments = AreNumbersOf (main_types u) arguments
