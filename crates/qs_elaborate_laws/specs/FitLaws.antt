-- What is promised of core as a unit: it fits.
use Rattle.std.specs.Prelude.{◌≡◌, ℕ, ◌==◌, ◌&&◌, Bool, true, false, List, [], ◌∷◌, map, Option, Some, None, bytes_eq}
use Rattle.std.specs.List.{slice_get, list_all}
use Rattle.qs_base.specs.Names.{is_name}
use Rattle.qs_syntax.specs.Trees.{ParameterTree, Stmts, FunctionTree, DeclTree, structure, forward, function, variables, UnitTree, typedef}
use Rattle.qs_syntax.specs.Units.{Reading, IsRead}
use Rattle.qs_memory.specs.Values.{Value}
use Rattle.qs_memory.specs.Soundness.{IsSound}
use Rattle.qs_memory.specs.Scalars.{is_type, is_promoted}
use Rattle.qs_memory.specs.declared.scalar.Scalar.TheVariants as scalars
use Rattle.qs_calls.specs.World.{World}
use Rattle.qs_types.specs.Limits.{IsWithinLimits}
use Rattle.qs_types.specs.WellTyped.{WellTyped}
use Rattle.qs_core.specs.Trees.{CoreParameterTree, CoreVariableTree, CoreUnitTree}
use Rattle.qs_core.specs.Units.{core_run}
use Rattle.qs_core.specs.Units as core_units
use Rattle.qs_core.specs.Fits.{differ, same_variable, is_named, main_name, unit_fits}
use Rattle.qs_meaning.specs.Typed.{Function, TypedProgram}
use Rattle.qs_meaning.specs.Interfaces.{types_of}
use Rattle.qs_meaning.specs.Units.{typed_of, initial_memory}
use Rattle.qs_meaning.specs.Runs.{run_of, main_run}
use Rattle.qs_meaning.specs.Whole.{DataIsWhole}
use Rattle.qs_meaning.specs.Fits.{program_fits}
use Rattle.qs_elaborate_bodies.specs.Names.{Declared, statements_declare, FunctionNames}
use Rattle.qs_elaborate_bodies.specs.Units.{named_parameters, named_variables, no_names, unit_core, core_of}

-- ---- names

-- parameters are the first variables of their names
abbrev pub are_first : List CoreParameterTree → List CoreVariableTree → Bool
are_first [] vs = true
are_first (p ∷ ps) [] = false
are_first (p ∷ ps) (v ∷ vs) = (bytes_eq p.name v.name && v.ordinal == 1) && are_first ps vs

-- a function and its variables have names of the language, by which the variables differ
pub record IsNamed (names : FunctionNames) (g : Function) : Type 0 where
  pub own : is_name g.name ≡ true
  pub variables : list_all is_named (named_variables names.variables g.variables) ≡ true
  pub different : differ same_variable (named_variables names.variables g.variables) ≡ true
  pub parameters : are_first (named_parameters names.parameters g.parameters) (named_variables names.variables g.variables) ≡ true

abbrev pub AreNamed : List FunctionNames → List Function → Type 0
AreNamed names [] = Unit {0}
AreNamed [] (g ∷ gs) = IsNamed no_names g × AreNamed [] gs
AreNamed (n ∷ names) (g ∷ gs) = IsNamed n g × AreNamed names gs

abbrev pub functions_differ : List Function → Bool
functions_differ gs = differ bytes_eq (map (λ (g : Function). g.name) gs)

-- 5.1.2.2.1: main returns `int`, and takes `int` and `unsigned` alone
abbrev pub is_main_function : Option Function → Bool
is_main_function None = false
is_main_function (Some g) =
    bytes_eq g.name main_name && is_type g.result scalars.Int && list_all is_promoted (types_of g.parameters g.variables)

-- ---- the names of a unit: names of the language, as those among the tokens of a unit that is read are (6.4.2.1)

abbrev pub has_name : Declared → Bool
has_name d = is_name d.name

-- a parameter of a body has a name (6.9.1p5), that of a header may have none
abbrev pub option_has_name : Option (List ℕ) → Bool
option_has_name None = true
option_has_name (Some x) = is_name x

abbrev pub parameter_has_name : ParameterTree → Bool
parameter_has_name p = option_has_name p.name

abbrev pub body_has_names : FunctionTree → Option Stmts → Bool
body_has_names f None = true
body_has_names f (Some body) = is_name f.name && list_all parameter_has_name f.parameters && list_all has_name (statements_declare body)

abbrev pub declaration_has_names : DeclTree → Bool
declaration_has_names (structure d) = true
declaration_has_names (forward d) = true
declaration_has_names (typedef d) = true
declaration_has_names (function f) = body_has_names f f.body
declaration_has_names (variables d) = true

abbrev pub has_names : UnitTree → Bool
has_names unit = list_all declaration_has_names unit

-- ---- blocks

-- the blocks of a unit are bytes and whole pointers, none is too large, and each pointer is into a block or just past its end
pub record AreBlocks (u : TypedProgram) : Type 0 where
  pub are_whole : DataIsWhole u
  pub sound : IsSound (initial_memory u)

-- ---- what is promised

-- the core of a typed tree that fits, with names for its functions and a main
abbrev pub CoreFits : Type 0
CoreFits =
    (names : List FunctionNames) (u : TypedProgram) (main : ℕ) → program_fits u ≡ true → AreNamed names u.functions
    → functions_differ u.functions ≡ true → is_main_function (slice_get u.functions main) ≡ true → AreBlocks u
    → unit_fits (unit_core names u main) ≡ true

-- ---- units that are read

-- a unit has a core, which fits, and which runs as the unit's typed tree does
pub record HasCore (unit : UnitTree) : Type 0 where
  pub core : CoreUnitTree
  pub typed : TypedProgram
  pub tree : typed_of unit ≡ Some typed
  pub is : core_of unit ≡ Some core
  pub fits : unit_fits core ≡ true
  pub follows : (root : ℕ) (xs : List Value) (w : World) (n : ℕ) → core_run core root xs w n ≡ run_of typed root xs w n
  pub main_follows : (xs : List Value) (input : List ℕ) (n : ℕ) → core_units.main_run core xs input n ≡ main_run typed xs input n

-- so has each unit that is read from tokens, is well typed and is within the limits
abbrev pub UnitsHaveCores : Type 0
UnitsHaveCores = (unit : UnitTree) → IsRead unit → WellTyped unit → IsWithinLimits unit → HasCore unit

-- the names of a unit that is read are names of the language
abbrev pub ReadUnitsHaveNames : Type 0
ReadUnitsHaveNames = (unit : UnitTree) → Reading unit → has_names unit ≡ true
