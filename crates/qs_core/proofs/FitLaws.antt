-- What the tests of a unit say.
use Rattle.std.proofs.Common.{◌≡◌, ℕ, zero, suc, Bool, true, false, List, [], ◌∷◌, map, Some}
use Rattle.std.specs.Prelude.{bytes_eq}
use Rattle.std.specs.List.{slice_get, list_all}
use Rattle.std.proofs.lemmas.Bool.{and_parts}
use Rattle.qs_base.specs.Names.{is_name}
use Rattle.qs_core.specs.Trees.{CoreFunctionTree, CoreUnitTree}
use Rattle.qs_core.specs.Fits.{stmts_fit, differ, same_variable, is_named, parameters_fit, is_size, function_fits, is_main, data_fits, unit_fits}
pub use Rattle.std.proofs.lemmas.Bool.{and_parts as both}

-- ---- lists

pub all_at :
    {A : Type 0} → (test : A → Bool) (xs : List A) (i : ℕ) (x : A) → list_all test xs ≡ true
    → slice_get xs i ≡ Some x → test x ≡ true
all_at test [] i x all is = cc
all_at test (y ∷ xs) zero x all is = let first = (and_parts (test y) (list_all test xs) all).0 in cc
all_at test (y ∷ xs) (suc i) x all is =
    all_at test xs i x (and_parts (test y) (list_all test xs) all).1 is

-- ---- functions and units

pub record FunctionFits (u : CoreUnitTree) (f : CoreFunctionTree) : Type 0 where
  pub name : is_name f.name ≡ true
  pub named : list_all is_named f.variables ≡ true
  pub different : differ same_variable f.variables ≡ true
  pub parameters : parameters_fit f.blocks 0 f.parameters f.variables ≡ true
  pub body : stmts_fit u f false false f.body ≡ true
  pub blocks : list_all is_size f.blocks ≡ true

pub function_parts :
    (u : CoreUnitTree) (f : CoreFunctionTree) → function_fits u f ≡ true → FunctionFits u f
function_parts u f h =
    let blocks = and_parts _ (list_all is_size f.blocks) h in
    let body = and_parts _ (stmts_fit u f false false f.body) blocks.0 in
    let parameters = and_parts _ (parameters_fit f.blocks 0 f.parameters f.variables) body.0 in
    let different = and_parts _ (differ same_variable f.variables) parameters.0 in
    let names = and_parts (is_name f.name) (list_all is_named f.variables) different.0 in
    record {
      name = names.0;
      named = names.1;
      different = different.1;
      parameters = parameters.1;
      body = body.1;
      blocks = blocks.1;
    }

pub record UnitFits (u : CoreUnitTree) : Type 0 where
  pub functions : list_all (function_fits u) u.functions ≡ true
  pub different : differ bytes_eq (map (λ f. f.name) u.functions) ≡ true
  pub main : is_main (slice_get u.functions u.main) ≡ true
  pub data_blocks : list_all (data_fits u) u.data_blocks ≡ true

pub unit_parts : (u : CoreUnitTree) → unit_fits u ≡ true → UnitFits u
unit_parts u h =
    let data_blocks = and_parts _ (list_all (data_fits u) u.data_blocks) h in
    let main = and_parts _ (is_main (slice_get u.functions u.main)) data_blocks.0 in
    let names = and_parts (list_all (function_fits u) u.functions)
    (differ bytes_eq (map (λ f. f.name) u.functions)) main.0 in
    record { functions = names.0; different = names.1; main = main.1; data_blocks = data_blocks.1 }

pub function_at_fits :
    (u : CoreUnitTree) → unit_fits u ≡ true → (number : ℕ) (f : CoreFunctionTree)
    → slice_get u.functions number ≡ Some f → FunctionFits u f
function_at_fits u fits number f is =
    function_parts u f (all_at (function_fits u) u.functions number f
    (unit_parts u fits).functions is)
