-- An image that is compiled of a certified source is an image of it, and all images of one core have the same names.
use Rattle.std.proofs.Common.{◌≡◌, ℕ, zero, suc, ◌<◌, ◌≤◌, true, ℤ, List, [], ◌∷◌, length, map, Option, Some, refl, sym, ap, ◌∙◌, subst, arith}
use Rattle.std.specs.Prelude.{◌↔◌, slice_index_or}
use Rattle.std.proofs.lemmas.Option.{same_Some}
use Rattle.qs_base.specs.Words.{wrap}
use Rattle.qs_syntax.specs.Trees.{UnitTree}
use Rattle.qs_memory.specs.Memory.{Memory}
use Rattle.qs_memory.specs.Values.{Value, integer}
use Rattle.qs_events.specs.Runs.{Left}
use Rattle.qs_events.specs.Weights.{Costs, run_weight}
use Rattle.qs_events.proofs.RunLaws.{longer_runs_weigh_more}
use Rattle.qs_calls.specs.World.{RootRun}
use Rattle.qs_assert.specs.Values.{Extended, finite, infinite, plus}
use Rattle.qs_assert.specs.declared.define.Amount.TheVariants.{Finite}
use Rattle.qs_entail.specs.Meaning.{AtLeast}
use Rattle.qs_entail.proofs.Amounts.{at_least_through}
use Rattle.qs_core.specs.Interfaces.{main_types}
use Rattle.qs_core.specs.Fits.{unit_fits}
use Rattle.qs_core.specs.Trees.{CoreUnitTree}
use Rattle.qs_core.specs.Units as core
use Rattle.qs_elaborate_bodies.specs.Units.{core_of}
use Rattle.qs_meaning.specs.Typed.{TypedProgram}
use Rattle.qs_triples.specs.Valuations.{value_at_entry}
use Rattle.qs_lower.proofs.LoweringLaws.{lowering_follows}
use Rattle.qs_image.specs.Image.{Image, FunctionRecord}
use Rattle.qs_machine.specs.Arguments.{AreArguments, first_misfit}
use Rattle.qs_emit.specs.Images.{AreCosts, no_record}
use Rattle.qs_compile.specs.AgreesWithCore.{values_of}
use Rattle.qs_compile.specs.Built.{IsBuiltFrom}
use Rattle.qs_compile.specs.Units.{linear, start_of}
use Rattle.qs_certify.specs.Bound as certify
use Rattle.qs_certify.proofs.MainLaws.{BoundsMain, bounds_are_needs, main_bounds_runs, entry_bounds_runs}
use Rattle.qs_compile.specs.Agree.{AgreesFrom, IsInput}
use Rattle.qs_compile.specs.Compiled.{IsCompiled, IsImageOfSource, SourceHasStack}
use Rattle.qs_ports.specs.StoreView.{StoreView}
use Rattle.qs_driver.specs.Bounds.{bound_by, bytes_by, need_by, costs_in, if_finite, linear_runs, main_runs, seen_runs, IsBounded, IsBoundedByMain, IsImageOf, WeighsWithin}
use Rattle.qs_driver_proofs.specs.Misfits.{IsMisfit}
use Rattle.qs_driver.specs.Certified.{CertifiedSource, CertifyWords, IsCertifiedAs, ReadsCertified}
use Rattle.qs_driver.proofs.MainLaws.{arguments_are_mains, parameters_are, misfits}

-- ---- costs

cost_of_record : (rs : List FunctionRecord) (f : ℕ) → f < length rs → slice_index_or (costs_in rs) f 0 ≡ (slice_index_or rs f no_record).cost
cost_of_record [] f h = absurd (omega (arith, h))
cost_of_record (q ∷ rs) zero h = refl
cost_of_record (q ∷ rs) (suc f) h = cost_of_record rs f (omega (arith, h))

-- the records of an image give each function's cost
pub records_are_costs : (image : Image) → AreCosts image (certify.costs_of (costs_in image.functions))
records_are_costs image = record { each = λ f h. cost_of_record image.functions f h }

-- ---- agreement

-- each stack of at least the bound has the weight of each run
pub agrees_from : (s : CertifiedSource) (image : Image) (c : IsCompiled s.unit image) → WeighsWithin s c.program image → AgreesFrom (bytes_by s image) (seen_runs c.program) image
agrees_from s image c w = record {
  agree = λ args input least size arguments is_input bound_is within most.
      let cost : Costs = certify.costs_of (costs_in image.functions) in
      let stack : SourceHasStack c.program image cost args input size = record {
        arguments = arguments;
        bytes = is_input;
        most = most;
        enough = λ n. let weighs : run_weight cost (main_runs c.program args input n) ≤ least = w.weighs args input least n arguments is_input bound_is in omega (arith, weighs, within);
      } in
      c.does.agree cost args input size (records_are_costs image) stack;
}

-- ---- the linear code

-- each of its runs weighs at most what the core's does within the same bound
linear_weighs_no_more :
    (u : CoreUnitTree) (cost : Costs) (args : List ℤ) (input : List ℕ) (m : ℕ) → unit_fits u ≡ true
    → run_weight cost (linear_runs u args input m) ≤ run_weight cost (core.main_run u (values_of args) input m)
linear_weighs_no_more u cost args input m fits =
    longer_runs_weigh_more (Left Value Memory) cost (linear_runs u args input m) (core.main_run u (values_of args) input m)
    ((lowering_follows u fits).back u.main (values_of args) (start_of u input) m)

-- ---- from core to the source

-- two ways to the same values
same_values : (args : List ℤ) → certify.values_of args ≡ values_of args
same_values [] = refl
same_values (z ∷ zs) = ap (λ (vs : List Value). integer (wrap z) ∷ vs) (same_values zs)

finite_is : (v : Extended) (bytes : ℕ) → if_finite v ≡ Some bytes → v ≡ finite bytes
finite_is (finite n) bytes e = let same : n ≡ bytes = cc in ap finite same
finite_is infinite bytes e = cc

-- a bound that is a number is the bytes that main needs
pub bytes_are : (s : CertifiedSource) (image : Image) (args : List ℤ) (bytes : ℕ) → bound_by s (costs_in image.functions) args ≡ Finite bytes → bytes_by s image args ≡ Some bytes
bytes_are s image args bytes is = ap if_finite (bounds_are_needs s.core.main s.proofs (costs_in image.functions) args bytes is)

-- the image of a source's core is built from it
pub built_from : (unit : UnitTree) (u : CoreUnitTree) (image : Image) → core_of unit ≡ Some u → IsCompiled unit image → IsBuiltFrom u image
built_from unit u image is c = subst (λ (x : CoreUnitTree). IsBuiltFrom x image) (same_Some c.core u (sym c.core_is ∙ is)) c.built

-- the core of a certified source fits, and main runs in it as in the source's typed tree
module _ (text : List ℕ) (file : Option (List ℕ)) (s : CertifiedSource) (c : IsCertifiedAs text file s) where
  fits : unit_fits s.core ≡ true
  fits = subst (λ (u : CoreUnitTree). unit_fits u ≡ true) c.core_is c.has_core.fits

  pub core_is : core_of s.unit ≡ Some s.core
  core_is = c.has_core.is ∙ ap Some c.core_is

  core_follows : (args : List ℤ) (input : List ℕ) (n : ℕ) → core.main_run s.core (values_of args) input n ≡ main_runs c.has_core.typed args input n
  core_follows args input n =
      ap (λ (u : CoreUnitTree). core.main_run u (values_of args) input n) (sym c.core_is)
      ∙ c.has_core.main_follows (values_of args) input n

  abbrev entry_bounds : BoundsMain s.core s.proofs
  entry_bounds = entry_bounds_runs s.core s.given s.proofs fits c.certified.covers

  -- what main costs, and the value of its precondition at these values
  abbrev needed : Costs → List Value → Extended
  needed cost vs =
      plus (finite (cost s.core.main)) (value_at_entry cost s.proofs.defines entry_bounds.main vs entry_bounds.entry.spec.pre)

  core_is_bounded :
      (cost : Costs) (args : List ℤ) (input : List ℕ) (n : ℕ) → certify.AreArguments s.core args → IsInput input
      → AtLeast (needed cost (values_of args)) (finite (run_weight cost (core.main_run s.core (values_of args) input n)))
  core_is_bounded cost args input n are is_input =
      subst (λ (vs : List Value). AtLeast (needed cost vs) (finite (run_weight cost (core.main_run s.core vs input n))))
      (same_values args) (entry_bounds.bounds cost args input n are is_input)

  -- main's entry bounds each run of the source and of its linear code, for every stack metric
  sources_are_bounded : IsBoundedByMain s c.has_core.typed
  sources_are_bounded = record {
    main = entry_bounds.main;
    is_main = entry_bounds.is_main;
    entry = entry_bounds.entry;
    stands = entry_bounds.stands;
    bounds = λ cost args input n are is_input.
        subst (λ (r : RootRun). AtLeast (needed cost (values_of args)) (finite (run_weight cost r)))
        (core_follows args input n) (core_is_bounded cost args input n are is_input);
    bounds_linear = λ cost args input m are is_input.
        at_least_through (needed cost (values_of args)) (finite (run_weight cost (core.main_run s.core (values_of args) input m)))
        (finite (run_weight cost (linear_runs s.core args input m)))
        (core_is_bounded cost args input m are is_input) (linear_weighs_no_more s.core cost args input m fits);
  }

  module _ (image : Image) (i : IsCompiled s.unit image) where
    same_program : c.has_core.typed ≡ i.program
    same_program = same_Some c.has_core.typed i.program (sym c.has_core.tree ∙ i.tree)

    program_follows : (args : List ℤ) (input : List ℕ) (n : ℕ) → core.main_run s.core (values_of args) input n ≡ main_runs i.program args input n
    program_follows args input n = core_follows args input n ∙ ap (λ (p : TypedProgram). main_runs p args input n) same_program

    abbrev record_costs : Costs
    record_costs = certify.costs_of (costs_in image.functions)

    core_weighs :
        (args : List ℤ) (input : List ℕ) (bytes n : ℕ) → AreArguments image args → IsInput input
        → bytes_by s image args ≡ Some bytes
        → run_weight record_costs (core.main_run s.core (values_of args) input n) ≤ bytes
    core_weighs args input bytes n arguments is_input bound_is =
        let mains_are = (arguments_are_mains s.core image args fits (built_from s.unit s.core image core_is i)).0 arguments in
        let is_bound = finite_is (need_by s (costs_in image.functions) args) bytes bound_is in
        subst (λ (vs : List Value). run_weight record_costs (core.main_run s.core vs input n) ≤ bytes) (same_values args)
        (main_bounds_runs s.core s.given s.proofs (costs_in image.functions) args bytes fits c.certified.covers mains_are is_bound input n is_input)

    -- so do the costs of the records, with the bound as it is computed
    weighs_within : WeighsWithin s i.program image
    weighs_within = record {
      weighs = λ args input bytes n arguments is_input bound_is.
          subst (λ (r : RootRun). run_weight record_costs r ≤ bytes) (program_follows args input n)
          (core_weighs args input bytes n arguments is_input bound_is);
      linear_weighs = λ args input bytes m arguments is_input bound_is.
          let less = linear_weighs_no_more s.core record_costs args input m fits in
          let most = core_weighs args input bytes m arguments is_input bound_is in
          omega (arith, less, most);
    }

    pub compiled_is_image : IsImageOf s image
    compiled_is_image = record { compiled = i; weighs = weighs_within; agrees = agrees_from s image i weighs_within }

-- ---- of what was read

-- an image that is compiled of a certified source is an image of it
pub source_image : (w : CertifyWords) (v : StoreView) (s : CertifiedSource) (image : Image) → ReadsCertified w v s → IsCompiled s.unit image → IsImageOf s image
source_image w v s image r i = compiled_is_image r.text r.file s r.is image i

-- what `compile` promises
pub is_compiled : (unit : UnitTree) (image : Image) → IsImageOfSource unit image → IsCompiled unit image
unfolding IsImageOfSource
is_compiled unit image h = h

-- the image of a certified source takes main's arguments
module _ (w : CertifyWords) (v : StoreView) (s : CertifiedSource) (image : Image) (r : ReadsCertified w v s) (i : IsCompiled s.unit image) where
  source_fits : unit_fits s.core ≡ true
  source_fits = fits r.text r.file s r.is

  source_built : IsBuiltFrom s.core image
  source_built = built_from s.unit s.core image (core_is r.text r.file s r.is) i

  pub image_takes : (args : List ℤ) → AreArguments image args ↔ certify.AreArguments s.core args
  image_takes args = arguments_are_mains s.core image args source_fits source_built

  pub image_parameters : image.parameters ≡ length (main_types s.core)
  image_parameters = parameters_are s.core image [] source_fits source_built

  pub image_misfits : (args : List ℤ) (at : ℕ) → length args ≡ image.parameters → first_misfit image 0 args ≡ Some at → IsMisfit (main_types s.core) args at
  image_misfits args at count first = misfits s.core image args source_fits source_built at count first

-- a certified source is bounded, for every stack metric
pub source_bounded : (w : CertifyWords) (v : StoreView) (s : CertifiedSource) → ReadsCertified w v s → IsBounded s
source_bounded w v s r = record {
  program = r.is.has_core.typed;
  tree = r.is.has_core.tree;
  bounded = sources_are_bounded r.text r.file s r.is;
}

-- ---- images of one core

-- they have the same names
pub same_names : (u : CoreUnitTree) (s : CertifiedSource) (image other : Image) → core_of s.unit ≡ Some u → IsImageOf s image → IsImageOf s other → map (λ (f : FunctionRecord). f.name) image.functions ≡ map (λ (f : FunctionRecord). f.name) other.functions
same_names u s image other is i j = (built_from s.unit u image is i.compiled).names ∙ sym (built_from s.unit u other is j.compiled).names
