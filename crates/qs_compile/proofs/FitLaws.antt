-- A unit of core within the sizes: its linear code is emitted, its memory is one to start from, and main returns integers.
use Rattle.std.proofs.Common.{◌≡◌, ◌≢◌, ◌⊎◌, inl, inr, ℕ, zero, suc, ◌^◌, ◌<◌, ◌≤◌, ℤ, pos, negsuc, true, List, [], ◌∷◌, length, map, Option, Some, None, refl, sym, ap, ◌∙◌, subst, arith}
use Rattle.std.specs.Prelude.{slice_index_or, All}
use Rattle.std.specs.List.{slice_get, list_all}
use Rattle.std.specs.Option.{option_map}
use Rattle.std.proofs.lemmas.Bool.Decides.{nat_tests}
use Rattle.std.proofs.lemmas.List.{length-map}
use Rattle.std.proofs.lemmas.List.Elements.{All-nil, All-cons, All-head, All-tail}
use Rattle.std.proofs.lemmas.Option.{slice_get-map}
use Rattle.qs_base.specs.Words.{wrap}
use Rattle.qs_base.specs.Parameters.{stack_arguments, most_stack_arguments}
use Rattle.qs_memory.proofs.Options.{some_same}
use Rattle.qs_memory.specs.Values.{Value, integer, address, has_type}
use Rattle.qs_memory.specs.Memory.{Memory}
use Rattle.qs_memory.specs.Soundness.{IsLive}
use Rattle.qs_memory.specs.Scalars.{is_type, is_promoted}
use Rattle.qs_memory.proofs.ScalarLaws.{type_is}
use Rattle.qs_memory.specs.declared.scalar.Scalar.{Scalar}
use Rattle.qs_memory.specs.declared.scalar.Scalar.TheVariants as scalars
use Rattle.qs_events.specs.Runs.{Left, has_ended, ending_of}
use Rattle.qs_calls.specs.Starts.{Signature, AreOf, Takes, MayStart, ResultIsOf, result_type_of}
use Rattle.qs_calls.specs.declared.callee.Callee.{Callee}
use Rattle.qs_calls.specs.declared.callee.Callee.TheVariants.{Function, PutChar, GetChar}
use Rattle.qs_core.specs.Trees.{CoreFunctionTree, CoreParameterTree, DataBlockTree, CoreUnitTree}
use Rattle.qs_core.specs.Units.{data_block, initial_memory, main_run}
use Rattle.qs_core.specs.Interfaces.{parameter_types, signature, interface_of, types_of_main, main_types}
use Rattle.qs_core.specs.Ranges.{result_type_at}
use Rattle.qs_core.specs.Fits as core
use Rattle.qs_core.proofs.FitLaws.{both, all_at, unit_parts, function_at_fits}
use Rattle.qs_core.proofs.InitialLaws.{initial_memory_is_ready}
use Rattle.qs_core.proofs.RangeLaws.{runs_leave_sound}
use Rattle.qs_tac.specs.Trees.{InstructionTree, move, unary, binary, convert, address_of, load, store, copy, fill, call, jump, branch, return, TacFunctionTree, TacUnitTree}
use Rattle.qs_tac.specs.Sizes.{arguments_of, most_passed}
use Rattle.qs_tac.specs.Fits.{takes, callee_fits, taken_fits, operand_fits, instruction_fits, function_fits, data_fits, unit_fits}
use Rattle.qs_tac.specs.declared.operands.Operand.{Operand}
use Rattle.qs_tac.specs.Laws.{AreAccepted, ArePacked}
use Rattle.qs_tac.specs.Places.{PlacesTree, keep_values}
use Rattle.qs_image.specs.Image.{Image}
use Rattle.qs_machine.specs.State.{stack_limit}
use Rattle.qs_lower_expressions.specs.Threads.{threaded_function}
use Rattle.qs_lower.specs.Units.{straight_function, lower_data}
use Rattle.qs_lower.proofs.UnitFits.{lowered_fits, types_count, function_there}
use Rattle.qs_emit_selection.specs.Laws.{HasFewArguments, AllPassFew}
use Rattle.qs_emit.specs.Relation.{no_function, function_at, cost_at, IsEmittable}
use Rattle.qs_emit.specs.Images.{data_of, IsFirstMemory}
use Rattle.qs_emit.specs.Emitted.{IsInteger}
use Rattle.qs_emit.proofs.EmissionLaws.{found_or_none}
use Rattle.qs_compile.specs.Units.{linear, most_main_parameters, most_parameters, IsWithinSizes, start_of, MainReturns}
use Rattle.qs_compile.specs.Built.{IsBuiltFrom}

-- ---- functions of linear code

-- the function with a number, where there is one
pub function_found : (fs : List TacFunctionTree) (f : ℕ) (g : TacFunctionTree) → slice_get fs f ≡ Some g → slice_index_or fs f no_function ≡ g
function_found [] f g is = cc
function_found (x ∷ fs) zero g is = some_same x g is
function_found (x ∷ fs) (suc f) g is = function_found fs f g is

pub few_parameters : (cs : List CoreFunctionTree) (f : ℕ) → All (λ (c : CoreFunctionTree). length c.parameters ≤ most_parameters) cs → length (slice_index_or (map threaded_function (map straight_function cs)) f no_function).parameters ≤ most_parameters
few_parameters [] f all = omega arith
few_parameters (c ∷ cs) zero all =
    let same = length-map c.parameters (λ (p : CoreParameterTree). p.place) in
    let few = All-head (λ (c : CoreFunctionTree). length c.parameters ≤ most_parameters) c cs all in
    omega (arith, same, few)
few_parameters (c ∷ cs) (suc f) all = few_parameters cs f (All-tail (λ (c : CoreFunctionTree). length c.parameters ≤ most_parameters) c cs all)

-- arguments that are few are few on the stack
few_passed : (i : InstructionTree) → HasFewArguments i → stack_arguments (arguments_of i) ≤ most_stack_arguments
few_passed (move x o) h = omega arith
few_passed (unary op x o) h = omega arith
few_passed (binary op x o p) h = omega arith
few_passed (convert s x o) h = omega arith
few_passed (address_of x p) h = omega arith
few_passed (load s x p) h = omega arith
few_passed (store s p o) h = omega arith
few_passed (copy size alignment p q) h = omega arith
few_passed (fill blank p) h = omega arith
few_passed (call x g os) h = let few = h x g os refl in omega (arith, few)
few_passed (jump to) h = omega arith
few_passed (branch c to) h = omega arith
few_passed (return o) h = omega arith

all_passed : (code : List InstructionTree) → ((k : ℕ) (i : InstructionTree) → slice_get code k ≡ Some i → HasFewArguments i) → most_passed code ≤ most_stack_arguments
all_passed [] h = omega arith
all_passed (i ∷ code) h =
    let first = few_passed i (h 0 i refl) in
    let rest = all_passed code (λ k j at. h (suc k) j at) in
    omega (arith, first, rest)

-- ---- the memory to start from

blocks_same : (ds : List DataBlockTree) → map data_of (map data_block ds) ≡ map lower_data ds
blocks_same [] = refl
blocks_same (d ∷ ds) = ap (λ xs. lower_data d ∷ xs) (blocks_same ds)

all_live : (ds : List DataBlockTree) (b : ℕ) → b < length (map data_block ds) → IsLive (map data_block ds) b
all_live [] b lt = absurd (omega (arith, lt))
all_live (d ∷ ds) zero lt = refl
all_live (d ∷ ds) (suc b) lt = all_live ds b (omega (arith, lt))

-- ---- main

pub record IsMain (u : CoreUnitTree) : Type 0 where
  pub function : CoreFunctionTree
  pub is : slice_get u.functions u.main ≡ Some function
  pub result_type : function.result_type ≡ Some scalars.Int
  pub promoted : list_all is_promoted (parameter_types function) ≡ true

-- ---- arguments

pub wrap_word : (z : ℤ) → wrap z < 2 ^ 32
wrap_word (pos a) = omega arith
wrap_word (negsuc a) = omega arith

pub words_small : (args : List ℤ) → All (λ (word : ℕ). word < 2 ^ 32) (map wrap args)
words_small [] = All-nil (λ (word : ℕ). word < 2 ^ 32)
words_small (z ∷ args) = All-cons (λ (word : ℕ). word < 2 ^ 32) (wrap z) (map wrap args) (wrap_word z) (words_small args)

promoted_typed : (s : Scalar) (n : ℕ) → is_promoted s ≡ true → n < 2 ^ 32 → has_type s (integer n) ≡ true
promoted_typed scalars.Char n h lt = cc
promoted_typed scalars.Int n h lt = grind (arith, nat_tests, lt)
promoted_typed scalars.Unsigned n h lt = grind (arith, nat_tests, lt)
promoted_typed scalars.Pointer n h lt = cc

are_of : (m : Memory) (types : List Scalar) (words : List ℕ) → list_all is_promoted types ≡ true → length words ≡ length types → All (λ (word : ℕ). word < 2 ^ 32) words → AreOf m types (map integer words)
are_of m [] [] promoted count all = tt
are_of m [] (n ∷ words) promoted count all = absurd (omega (arith, count))
are_of m (s ∷ types) [] promoted count all = absurd (omega (arith, count))
are_of m (s ∷ types) (n ∷ words) promoted count all =
    let two = both (is_promoted s) (list_all is_promoted types) promoted in
    let small = All-head (λ (word : ℕ). word < 2 ^ 32) n words all in (
      record { typed = promoted_typed s n two.0 small; sound = small },
      are_of m types words two.1 (omega (arith, count)) (All-tail (λ (word : ℕ). word < 2 ^ 32) n words all),
    )

integer_result : (m : Memory) (r : Option Value) → r ≢ None → ResultIsOf m (Some scalars.Int) r → IsInteger r
integer_result m None some typed = absurd (some refl)
integer_result m (Some (integer n)) some typed = (n, refl)
integer_result m (Some (address p)) some typed = let t = typed.typed in cc

-- ---- the unit

module _ (u : CoreUnitTree) (fits : core.unit_fits u ≡ true) where
  abbrev t : TacUnitTree
  t = linear u

  pub linear_fits : unit_fits t ≡ true
  linear_fits = lowered_fits u fits

  functions_fit : list_all (function_fits t) t.functions ≡ true
  functions_fit = (both (list_all (function_fits t) t.functions) _ (both _ (list_all data_fits t.data_blocks) linear_fits).0).0

  pub is_main : IsMain u
  is_main = by (slice_get u.functions u.main) refl (unit_parts u fits).main
    where
      by : (o : Option CoreFunctionTree) → slice_get u.functions u.main ≡ o → core.is_main o ≡ true → IsMain u
      by None is h = cc
      by (Some g) is h =
          let two = both _ (list_all is_promoted (parameter_types g)) h in
          let one = both _ (is_type g.result_type scalars.Int) two.0 in
          record { function = g; is = is; result_type = type_is g.result_type scalars.Int one.1; promoted = two.1 }

  main_linear : function_at t u.main ≡ threaded_function (straight_function is_main.function)
  main_linear =
      function_found t.functions u.main (threaded_function (straight_function is_main.function))
      (function_there u fits u.main ∙ ap (option_map (λ (g : CoreFunctionTree). threaded_function (straight_function g))) is_main.is)

  -- main has as many parameters in linear code
  pub main_count : length (main_types u) ≡ length (function_at t u.main).parameters
  main_count =
      ap (λ (o : Option CoreFunctionTree). length (types_of_main o)) is_main.is
      ∙ types_count is_main.function.blocks 0 is_main.function.parameters is_main.function.variables (function_at_fits u fits u.main is_main.function is_main.is).parameters
      ∙ sym (length-map is_main.function.parameters (λ (p : CoreParameterTree). p.place))
      ∙ ap (λ (g : TacFunctionTree). length g.parameters) (sym main_linear)

  signature_is : slice_get (interface_of u).functions u.main ≡ Some (signature is_main.function)
  signature_is = slice_get-map signature u.functions u.main ∙ ap (option_map signature) is_main.is

  pub may_start : (words input : List ℕ) → length words ≡ length (main_types u) → All (λ (word : ℕ). word < 2 ^ 32) words → All (λ (byte : ℕ). byte < 256) input → MayStart (interface_of u) u.main (map integer words) (start_of u input)
  may_start words input count all bytes = record {
    takes = subst (λ (o : Option Signature). Takes (initial_memory u) o (map integer words)) (sym signature_is)
        (are_of (initial_memory u) (parameter_types is_main.function) words is_main.promoted (count ∙ ap (λ (o : Option CoreFunctionTree). length (types_of_main o)) is_main.is) all);
    ready = initial_memory_is_ready u input fits bytes;
  }

  pub returns_integer :
      (returns : MainReturns u) (arguments : List Value) (input : List ℕ) (n : ℕ) (left : Left Value Memory)
      → MayStart (interface_of u) u.main arguments (start_of u input)
      → ending_of (main_run u arguments input n) ≡ has_ended left → IsInteger left.result
  returns_integer returns arguments input n left may ended =
      let type_at : result_type_at u u.main ≡ Some scalars.Int = ap result_type_of signature_is ∙ is_main.result_type in
      integer_result left.memory left.result (returns.returns arguments input n left may ended)
      (subst (λ (o : Option Scalar). ResultIsOf left.memory o left.result) type_at
      (runs_leave_sound u u.main arguments (start_of u input) n left fits may ended).typed)

  pub first_memory : IsFirstMemory t (initial_memory u)
  first_memory = record {
    blocks = blocks_same u.data_blocks;
    live = all_live u.data_blocks;
    sound = (initial_memory_is_ready u [] fits (All-nil (λ (byte : ℕ). byte < 256))).sound;
  }

  module _ (few : All (λ (c : CoreFunctionTree). length c.parameters ≤ most_parameters) u.functions) where
    parameters_few : (f : ℕ) → length (function_at t f).parameters ≤ most_parameters
    parameters_few f = few_parameters u.functions f few

    passed_few : (to : Callee) (os : List Operand) → callee_fits t to os ≡ true → length os ≤ most_parameters
    passed_few (Function k) os h = by (slice_get t.functions k.0) refl h
      where
        by : (o : Option TacFunctionTree) → slice_get t.functions k.0 ≡ o → takes o os ≡ true → length os ≤ most_parameters
        by None is h = cc
        by (Some g) is h =
            let same = ap (λ (x : TacFunctionTree). length x.parameters) (function_found t.functions k.0 g is) in
            let few = parameters_few k.0 in
            let many : length os ≡ length g.parameters = grind (arith, nat_tests, h) in
            omega (arith, same, few, many)
    passed_few PutChar os h = grind (arith, nat_tests, h)
    passed_few GetChar os h = grind (arith, nat_tests, h)

    calls_short : (f : ℕ) (g : TacFunctionTree) → slice_get t.functions f ≡ Some g → (k : ℕ) (i : InstructionTree) → slice_get g.code k ≡ Some i → HasFewArguments i
    calls_short f g is k i at x to os same =
        let function = all_at (function_fits t) t.functions f g functions_fit is in
        let code = (both _ (list_all (instruction_fits t g) g.code) function).1 in
        let here : instruction_fits t g i ≡ true = all_at (instruction_fits t g) g.code k i code at in
        let call_fits : instruction_fits t g (call x to os) ≡ true = ap (instruction_fits t g) (sym same) ∙ here in
        passed_few to os (both (taken_fits g x) (callee_fits t to os) (both _ (list_all (operand_fits t g) os) call_fits).0).1

    few_arguments : (f k : ℕ) (i : InstructionTree) → slice_get (function_at t f).code k ≡ Some i → HasFewArguments i
    few_arguments f k i at = by (found_or_none t.functions f)
      where
        by : (slice_get t.functions f ≡ Some (function_at t f)) ⊎ (function_at t f ≡ no_function) → HasFewArguments i
        by (inl is) = calls_short f (function_at t f) is k i at
        by (inr none) = let nothing : None ≡ Some i = sym (ap (λ (x : TacFunctionTree). slice_get x.code k) none) ∙ at in cc

    pub all_pass_few : AllPassFew t
    all_pass_few f g is = all_passed g.code (λ k i at. calls_short f g is k i at)

    linear_count : length t.functions ≡ length u.functions
    linear_count = length-map (map straight_function u.functions) threaded_function ∙ length-map u.functions straight_function

    pub emittable : length (main_types u) ≤ most_main_parameters → (ps : List PlacesTree) → AreAccepted t ps → ((f : ℕ) → f < length u.functions → cost_at t ps f ≤ stack_limit) → IsEmittable t ps
    emittable main_few ps accepted frames = record {
      fits = linear_fits;
      places = accepted;
      cost = λ f lt. let count = linear_count in frames f (omega (arith, count, lt));
      parameters = parameters_few;
      main_parameters = let count = main_count in omega (arith, count, main_few);
      arguments = few_arguments;
    }

-- places that are packed are accepted
pub accepted_of : (t : TacUnitTree) (ps : List PlacesTree) → ArePacked t ps → AreAccepted t ps
accepted_of t ps packed f g is = keep_values (packed f g is).keep_values

-- an image that is built from the unit has code that is emitted
pub built_emittable : (u : CoreUnitTree) (image : Image) → core.unit_fits u ≡ true → IsWithinSizes u image → (built : IsBuiltFrom u image) → IsEmittable (linear u) built.places
built_emittable u image fits sizes built =
    emittable u fits sizes.parameters sizes.main_parameters built.places (accepted_of (linear u) built.places built.packed) (λ f lt.
    let count = length-map (map straight_function u.functions) threaded_function ∙ length-map u.functions straight_function in
    let cost = built.code.costs f (omega (arith, count, lt)) in
    let most = sizes.frames f lt in
    omega (arith, cost, most))
