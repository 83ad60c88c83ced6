-- An image that is built from the core of a source does what the source does.
use Rattle.std.proofs.Common.{◌≡◌, ℕ, zero, suc, ◌+◌, ◌*◌, ◌<◌, ◌≤◌, ℤ, true, List, [], ◌∷◌, length, map, Some, refl, sym, ap, ◌∙◌, subst, arith}
use Rattle.std.specs.Prelude.{slice_index_or}
use Rattle.std.specs.List.{slice_get}
use Rattle.std.proofs.Math.Path.{fun_ext}
use Rattle.qs_memory.specs.Values.{Value}
use Rattle.qs_memory.proofs.Options.{some_same}
use Rattle.qs_events.specs.BoundedRun.{BoundedRun}
use Rattle.qs_events.specs.Runs.{bounded}
use Rattle.qs_events.specs.Weights.{Costs, run_weight}
use Rattle.qs_calls.specs.World.{RootRun, status_of}
use Rattle.qs_syntax.specs.Trees.{UnitTree}
use Rattle.qs_syntax.specs.Nodes.{unit_count}
use Rattle.qs_syntax.specs.Units.{IsRead}
use Rattle.qs_types.specs.Limits.{IsWithinLimits}
use Rattle.qs_types.specs.WellTyped.{WellTyped}
use Rattle.qs_core.specs.Trees.{CoreFunctionTree, CoreUnitTree}
use Rattle.qs_core.specs.Units as core
use Rattle.qs_core.specs.Fits.{unit_fits}
use Rattle.qs_core.specs.Sizes.{held_in_all, values, most_passed, unit_words}
use Rattle.qs_meaning.specs.Typed.{TypedProgram}
use Rattle.qs_meaning.specs.Runs.{main_run, source_run}
use Rattle.qs_elaborate_laws.specs.FitLaws.{HasCore}
use Rattle.qs_elaborate_bodies.specs.Units.{core_of}
use Rattle.qs_meaning.specs.Units.{functions_in}
use Rattle.qs_asm.proofs.CountingLaws.{assembly_length}
use Rattle.qs_elaborate_laws.proofs.CountedUnits.{source_words_are_few}
use Rattle.qs_elaborate_laws.proofs.FitCore.{units_have_cores}
use Rattle.qs_elaborate_limits.specs.Caps.{caps, needed, frame_size, EachBelow}
use Rattle.qs_elaborate_limits.specs.Measures.{bytes_in_words}
use Rattle.qs_elaborate_limits.specs.Laws.{held_limit}
use Rattle.qs_elaborate_limits.proofs.CoreUnits.{parameters_are_few, held_values_are_few}
use Rattle.qs_elaborate_limits.proofs.FrameCaps.{caps_are_kept}
use Rattle.qs_elaborate_limits.proofs.MainReturns.{main_returns}
use Rattle.qs_tac.specs.Trees.{TacFunctionTree, TacUnitTree}
use Rattle.qs_tac.specs.Places.{PlacesTree, no_places}
use Rattle.qs_lower.specs.WordLaws.{lowered_function, IsInReach}
use Rattle.qs_lower.proofs.UnitWords.{lowered_sizes_are_kept}
use Rattle.qs_frames.specs.Layout.{total, outgoing_words, kept, layout}
use Rattle.qs_frames.proofs.FrameLaws.{frames_are_laid_out, no_more_is_kept}
use Rattle.std.proofs.lemmas.Option.{slice_get_within}
use Rattle.qs_emit.specs.Relation.{function_at}
use Rattle.qs_emit.specs.Images.{no_record}
use Rattle.qs_emit_selection.specs.Data.{data_address}
use Rattle.qs_emit_selection.specs.Units.{selected}
use Rattle.qs_emit_selection.proofs.Sizes.{units_keep_words}
use Rattle.qs_compile.proofs.FitLaws.{function_found, accepted_of, all_pass_few}
use Rattle.qs_image.specs.Image.{Image, FunctionRecord}
use Rattle.qs_machine.specs.Arguments.{words_of}
use Rattle.qs_machine.specs.Run.{machine, least_stack_pointer}
use Rattle.qs_emit.specs.Agree.{Agree, Accounts}
use Rattle.std.proofs.lemmas.List.{length-map}
use Rattle.qs_typing_findings.specs.TypedOf.{typed_tree}
use Rattle.qs_typing_findings.specs.declared.typed_unit.TypedUnit.{TypedUnit}
use Rattle.qs_typing_findings.proofs.TypedLaws.{is_read}
use Rattle.qs_compile.proofs.SmallUnits.{all_found, stands, cost_is, accepted_at}
use Rattle.qs_compile.specs.AgreesWithCore.{values_of, HasStack, DoesAsCore}
use Rattle.qs_compile.specs.Built.{IsBuiltFrom}
use Rattle.qs_compile.specs.Units.{linear, MainReturns}
use Rattle.qs_compile.specs.Compiled.{SourceHasStack, DoesAsSource, AreCostsOfPacked, IsCompiled, IsImageOfSource, BuiltImagesAreCompiled, UnitsPassNoSize}
use Rattle.qs_compile.proofs.UnitSizes.{all_more, words_total, passes_none}

-- ---- cores

-- the core that a unit has is this one
same_core : (unit : UnitTree) (u : CoreUnitTree) (h : HasCore unit) → core_of unit ≡ Some u → h.core ≡ u
same_core unit u h is = some_same h.core u (sym h.is ∙ is)

core_fits : (unit : UnitTree) (u : CoreUnitTree) → IsRead unit → WellTyped unit → IsWithinLimits unit → core_of unit ≡ Some u → unit_fits u ≡ true
core_fits unit u read well limits is =
    let h = units_have_cores unit read well limits in
    subst (λ (c : CoreUnitTree). unit_fits c ≡ true) (same_core unit u h is) h.fits

core_follows : (unit : UnitTree) (u : CoreUnitTree) (h : HasCore unit) → core_of unit ≡ Some u
    → (xs : List Value) (input : List ℕ) (n : ℕ) → core.main_run u xs input n ≡ main_run h.typed xs input n
core_follows unit u h is xs input n =
    ap (λ (c : CoreUnitTree). core.main_run c xs input n) (sym (same_core unit u h is)) ∙ h.main_follows xs input n

pub units_pass_no_size : UnitsPassNoSize
units_pass_no_size = passes_none core_fits

-- ---- agreement

module _ (u : CoreUnitTree) (program : TypedProgram) (image : Image) (follows : (xs : List Value) (input : List ℕ) (n : ℕ) → core.main_run u xs input n ≡ main_run program xs input n) (does : DoesAsCore u image) where
  has_stack : (costs : Costs) (args : List ℤ) (input : List ℕ) (size : ℕ) → SourceHasStack program image costs args input size → HasStack u image costs args input size
  has_stack costs args input size h = record {
    arguments = h.arguments;
    bytes = h.bytes;
    most = h.most;
    enough = λ n. subst (λ (r : RootRun). run_weight costs r ≤ size) (sym (follows (values_of args) input n)) (h.enough n);
  }

  seen_same : (args : List ℤ) (input : List ℕ) → (λ (n : ℕ). bounded status_of (core.main_run u (values_of args) input n)) ≡ source_run program (values_of args) input
  seen_same args input = fun_ext (λ n. ap (bounded status_of) (follows (values_of args) input n))

  does_as_source : DoesAsSource program image
  does_as_source = record {
    agree = λ costs args input size are h.
        subst (λ (s : ℕ → BoundedRun). Agree s (machine image size (words_of args) input)) (seen_same args input)
        (does.agrees.agree costs args input size are (has_stack costs args input size h));
    accounts = λ costs args input size are h.
        subst (λ (s : ℕ → BoundedRun). Accounts costs s (machine image size (words_of args) input) (least_stack_pointer image size (words_of args) input)) (seen_same args input)
        (does.agrees.accounts costs args input size are (has_stack costs args input size h));
  }

-- ---- caps

-- one by one, as many, and each at most the other
each_below_next : (ns ms ks : List ℕ) → length ns ≡ length ms → ((i : ℕ) → i < length ns → slice_index_or ns i 0 ≤ slice_index_or ms i 0) → EachBelow ms ks → EachBelow ns ks
each_below_next [] [] ks same h k = k
each_below_next [] (m ∷ ms) ks same h k = absurd (omega (arith, same))
each_below_next (n ∷ ns) [] ks same h k = absurd (omega (arith, same))
each_below_next (n ∷ ns) (m ∷ ms) [] same h k = absurd k
each_below_next (n ∷ ns) (m ∷ ms) (c ∷ ks) same h k =
    let first : n ≤ m = h 0 (omega arith) in
    let more : m ≤ c = k.0 in
    (omega (arith, first, more), each_below_next ns ms ks (omega (arith, same)) (λ i l. h (suc i) (omega (arith, l))) k.1)

cost_in : (rs : List FunctionRecord) (r : FunctionRecord) (i : ℕ) → i < length rs → slice_index_or (map (λ (f : FunctionRecord). f.cost) rs) i 0 ≡ (slice_index_or rs i r).cost
cost_in [] r i h = absurd (omega (arith, h))
cost_in (q ∷ rs) r zero h = refl
cost_in (q ∷ rs) r (suc i) h = cost_in rs r i (omega (arith, h))

needed_in : (fs : List CoreFunctionTree) (i : ℕ) (f : CoreFunctionTree) → slice_get fs i ≡ Some f → slice_index_or (map needed fs) i 0 ≡ needed f
needed_in [] i f is = absurd (cc)
needed_in (g ∷ fs) zero f is = ap needed (some_same g f is)
needed_in (g ∷ fs) (suc i) f is = needed_in fs i f is

frame_below : (g : TacFunctionTree) (p : PlacesTree) (bytes values passed : ℕ) → total g.blocks ≡ bytes → kept p ≤ values → outgoing_words g ≤ passed
    → (layout g p).cost ≤ frame_size bytes (values + passed)
frame_below g p bytes values passed e le few = let bound = (frames_are_laid_out g p).bound in omega (arith, bound, e, le, few)

module _ (unit : UnitTree) (u : CoreUnitTree) (image : Image) (read : IsRead unit) (well : WellTyped unit) (limits : IsWithinLimits unit) (is : core_of unit ≡ Some u) (built : IsBuiltFrom u image) where
  abbrev t : TacUnitTree
  t = linear u

  fits : unit_fits u ≡ true
  fits = core_fits unit u read well limits is

  frame_needed : (i : ℕ) (f : CoreFunctionTree) → slice_get u.functions i ≡ Some f → (layout (lowered_function f) (slice_index_or built.places i no_places)).cost ≤ needed f
  frame_needed i f there =
      let sizes = (lowered_sizes_are_kept u fits).function i f there in
      let blocks : total (lowered_function f).blocks ≡ bytes_in_words f.blocks = ap total sizes.blocks ∙ sym (words_total f.blocks) in
      let few = no_more_is_kept (lowered_function f) (slice_index_or built.places i no_places) (accepted_at u fits built.places (accepted_of t built.places built.packed) i f there) in
      let less = sizes.values in
      let passed = sizes.passed in
      frame_below (lowered_function f) (slice_index_or built.places i no_places) (bytes_in_words f.blocks) (values f) (most_passed f) blocks (omega (arith, few, less)) (omega (arith, passed))

  as_many : length (map (λ (r : FunctionRecord). r.cost) image.functions) ≡ length (map needed u.functions)
  as_many =
      let names = ap length built.names in
      let records = length-map image.functions (λ (r : FunctionRecord). r.cost) in
      let named = length-map image.functions (λ (r : FunctionRecord). r.name) in
      let functions = length-map u.functions needed in
      let core_named = length-map u.functions (λ (f : CoreFunctionTree). f.name) in
      omega (arith, names, records, named, functions, core_named)

  cost_below : (i : ℕ) → i < length (map (λ (r : FunctionRecord). r.cost) image.functions) → slice_index_or (map (λ (r : FunctionRecord). r.cost) image.functions) i 0 ≤ slice_index_or (map needed u.functions) i 0
  cost_below i less =
      let records = length-map image.functions (λ (r : FunctionRecord). r.cost) in
      let functions = length-map u.functions needed in
      let many = as_many in
      let linear_many : length t.functions ≡ length image.functions = sym built.code.count in
      let s = stands u.functions i (omega (arith, less, many, functions)) in
      let in_image : i < length image.functions = omega (arith, less, records) in
      let cost = cost_in image.functions no_record i in_image in
      let at = built.code.costs i (omega (arith, in_image, linear_many)) in
      let frame = cost_is u fits built.places i s.function s.is in
      let below = frame_needed i s.function s.is in
      let need = needed_in u.functions i s.function s.is in
      omega (arith, cost, at, frame, below, need)

  capped : EachBelow (map (λ (r : FunctionRecord). r.cost) image.functions) (caps unit)
  capped = each_below_next _ (map needed u.functions) (caps unit) as_many cost_below (caps_are_kept unit u read well is)

  costs_packed : AreCostsOfPacked t image
  costs_packed = record {
    places = built.places;
    packed = built.packed;
    each = λ f g there.
        let p = slice_index_or built.places f no_places in
        let cost = built.code.costs f (slice_get_within t.functions f g there) in
        let same : (layout (function_at t f) p).cost ≡ (layout g p).cost = ap (λ (h : TacFunctionTree). (layout h p).cost) (function_found t.functions f g there) in
        let bound = (frames_are_laid_out g p).bound in
        omega (arith, cost, same, bound);
  }

  -- what is held of parts of expressions is in reach, so the words are those that core counts; and these are few
  code_few : length image.code ≤ 24 * unit_count unit + 32 * length (functions_in unit)
  code_few =
      let ps = built.places in
      let items = selected t ps in
      let reach = all_more (λ (f : CoreFunctionTree). held_in_all f.body ≤ held_limit) IsInReach u.functions (λ f h. omega (arith, h)) (held_values_are_few unit u read well limits is) in
      let parameters = parameters_are_few unit u read well limits is in
      let assembled = assembly_length items image.code built.code.code in
      let selected_words = (units_keep_words t ps (data_address t.data_blocks) (accepted_of t ps built.packed) (all_pass_few u fits parameters)).items in
      let lowered = (lowered_sizes_are_kept u fits).words (λ f g there. all_found IsInReach u.functions f g reach there) in
      let core_words = source_words_are_few unit u well is in
      omega (arith, assembled, selected_words, lowered, core_words)

  returns : MainReturns u
  returns = record { returns = λ arguments input n left may ended. main_returns unit u read well limits is arguments input n left ended }

  pub is_compiled : (MainReturns u → DoesAsCore u image) → IsCompiled unit image
  is_compiled does =
      let h = units_have_cores unit read well limits in
      let d = does returns in
      record {
        program = h.typed;
        tree = h.tree;
        core = u;
        core_is = is;
        built = built;
        capped = capped;
        costs_packed = costs_packed;
        code_few = code_few;
        does = does_as_source u h.typed image (core_follows unit u h is) d;
        emitted = d.emitted;
      }

pub built_images_are_compiled : BuiltImagesAreCompiled
built_images_are_compiled unit u image read well limits is built does = is_compiled unit u image read well limits is built does

-- the image of the core of a typed unit
pub typed_image :
    (typed : TypedUnit) (u : CoreUnitTree) (image : Image) → core_of (typed_tree typed) ≡ Some u → IsBuiltFrom u image
    → (MainReturns u → DoesAsCore u image) → IsImageOfSource (typed_tree typed) image
unfolding IsImageOfSource
typed_image typed u image is built does =
    is_compiled (typed_tree typed) u image (is_read typed) typed.well_typed typed.within_limits is built does
