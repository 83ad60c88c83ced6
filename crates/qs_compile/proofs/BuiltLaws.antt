-- What is put together from a unit's parts is its image.
use Rattle.std.proofs.Common.{◌≡◌, inl, inr, ℕ, ◌/◌, ◌%◌, ◌^◌, ◌<◌, ◌≤◌, true, List, length, refl, sym, ap, ◌∙◌, subst, arith}
use Rattle.std.specs.Prelude.{◌==◌, sum_by}
use Rattle.std.proofs.lemmas.List.{length-map}
use Rattle.qs_memory.specs.declared.scalar.Scalar.{Scalar}
use Rattle.qs_asm.specs.declared.item.Item.{Item}
use Rattle.qs_asm.specs.Items.{item_words}
use Rattle.qs_asm.specs.Counting.{reached_words}
use Rattle.qs_core.specs.Trees.{CoreFunctionTree, CoreUnitTree}
use Rattle.qs_core.specs.Units.{initial_memory}
use Rattle.qs_core.specs.Fits.{unit_fits}
use Rattle.qs_core.specs.Interfaces.{main_types}
use Rattle.qs_isa.specs.Addresses.{code_start}
use Rattle.qs_image.specs.Image.{Image, FunctionRecord, IsWellFormed}
use Rattle.qs_image.specs.declared.version.Version.TheVariants.{Second}
use Rattle.qs_tac.specs.Trees.{TacUnitTree}
use Rattle.qs_tac.specs.Places.{PlacesTree}
use Rattle.qs_emit_selection.specs.Limits.{first_fault}
use Rattle.qs_emit_selection.specs.Data.{data_address}
use Rattle.qs_emit_selection.specs.Units.{selected, IsFault}
use Rattle.qs_emit.specs.Relation.{data_end}
use Rattle.qs_emit.specs.Images.{IsWithinLimits}
use Rattle.qs_emit.proofs.DataBytes.{data_length}
use Rattle.qs_emit.proofs.EmissionLaws.{data_fits, data_few, selected_is_emittable}
use Rattle.qs_tac.specs.Laws.{ArePacked}
use Rattle.qs_compile.specs.Units.{linear, most_main_parameters, set_of, IsWithinSizes, MainReturns}
use Rattle.qs_compile.specs.Built.{IsBuiltFrom}
use Rattle.qs_compile.specs.AgreesWithCore.{DoesAsCore}
use Rattle.qs_compile.specs.Parts.{AreParts, ArePartsOf}
use Rattle.qs_compile.specs.Code.{IsCodeFault}
use Rattle.qs_compile.specs.Limits.{IsRefused, Passes}
use Rattle.qs_compile.specs.Faults.{fault_of}
use Rattle.qs_emit_selection.specs.declared.fault.SelectionFault.{SelectionFault}
use Rattle.qs_emit_selection.specs.declared.fault.SelectionFault.TheVariants as selection
use Rattle.qs_compile.specs.declared.fault.BuildFault.{BuildFault}
use Rattle.qs_compile.specs.declared.fault.BuildFault.TheVariants.{NoMemory, TooManyFunctions, NamesTooLong, TooManyParameters, FrameTooLarge, DataTooLarge, CodeTooLong}
use Rattle.qs_compile.proofs.UnsignedLaws.{set_holds, set_small}
use Rattle.qs_compile.proofs.FitLaws.{linear_fits, main_count, first_memory, accepted_of}
use Rattle.qs_compile.proofs.SizeLaws.{function_count, few_parameters, small_frame}
use Rattle.qs_compile.proofs.WellFormed.{well_formed}
use Rattle.qs_compile.proofs.DoesAsCore.{images_do_as_core}

-- ---- main

-- places with which code is selected
pub main_few : (u : CoreUnitTree) (fits : unit_fits u ≡ true) (functions : List FunctionRecord) (code bytes : List ℕ) → ArePartsOf u functions code bytes → length (main_types u) ≤ most_main_parameters
main_few u fits functions code bytes p =
    let count = main_count u fits in
    let emitted = selected_is_emittable (linear u) p.places p.parts.free (linear_fits u fits) (accepted_of (linear u) p.places p.packed) in
    let few = emitted.main_parameters in
    omega (arith, count, few)

-- ---- the image

-- parts that are made by linear code and places are the unit's
pub parts_of :
    (u : CoreUnitTree) (t : TacUnitTree) (ps : List PlacesTree) (functions : List FunctionRecord) (code bytes : List ℕ) → t ≡ linear u → ArePacked t ps
    → AreParts u t ps functions code bytes → ArePartsOf u functions code bytes
parts_of u t ps functions code bytes is packed m = record {
  places = ps;
  packed = subst (λ (q : TacUnitTree). ArePacked q ps) is packed;
  parts = subst (λ (q : TacUnitTree). AreParts u q ps functions code bytes) is m;
}

pub record IsMade (u : CoreUnitTree) (image : Image) : Type 0 where
  pub fits : unit_fits u ≡ true
  pub version : image.version ≡ Second
  pub parts : ArePartsOf u image.functions image.code image.bytes
  pub entry : image.entry ≡ code_start
  pub parameters : image.parameters ≡ length (main_types u)
  pub unsigned : image.unsigned_set ≡ set_of (main_types u)

pub image_made :
    (u : CoreUnitTree) (functions : List FunctionRecord) (code bytes : List ℕ) (types : List Scalar) (count set : ℕ) → unit_fits u ≡ true
    → ArePartsOf u functions code bytes → types ≡ main_types u → count ≡ length types → set ≡ set_of types
    → IsMade u (record { version = Second; entry = code_start; parameters = count; unsigned_set = set; functions = functions; code = code; bytes = bytes })
image_made u functions code bytes types count set fits parts is long holds = record {
  fits = fits;
  version = refl;
  parts = parts;
  entry = refl;
  parameters = long ∙ ap length is;
  unsigned = holds ∙ ap set_of is;
}

module _ (u : CoreUnitTree) (image : Image) (m : IsMade u image) where
  pub built : IsBuiltFrom u image
  built = record {
    places = m.parts.places;
    packed = m.parts.packed;
    fits = m.parts.parts.free;
    version = m.version;
    names = m.parts.parts.records.names;
    counts = m.parts.parts.records.counts;
    parameters = m.parameters;
    unsigned = λ i. ap (λ (n : ℕ). n / 2 ^ i % 2 == 1) m.unsigned ∙ set_holds (main_types u) i;
    code = record {
      code = m.parts.parts.assembly;
      entry = m.entry;
      parameters = m.parameters ∙ main_count u m.fits;
      count =
          sym (length-map image.functions (λ (f : FunctionRecord). f.name)) ∙ ap length m.parts.parts.records.names
          ∙ length-map u.functions (λ (g : CoreFunctionTree). g.name) ∙ sym (function_count u);
      addresses = m.parts.parts.records.addresses;
      costs = m.parts.parts.records.costs;
      bytes = m.parts.parts.octets;
    };
  }

  pub within_limits : IsWithinLimits image
  within_limits = record {
    code = m.parts.parts.reached;
    bytes =
        let bytes = ap length m.parts.parts.octets ∙ data_length (data_address (linear u).data_blocks) (initial_memory u) ∙ ap data_end (first_memory u m.fits).blocks in
        let few = data_few (linear u) (data_fits (linear u) m.parts.places m.parts.parts.free) in
        omega (arith, bytes, few);
  }

  pub sizes : IsWithinSizes u image
  sizes = record {
    parameters = few_parameters u m.parts.places m.parts.parts.free;
    main_parameters = main_few u m.fits image.functions image.code image.bytes m.parts;
    frames = λ f lt.
        let count = function_count u in
        let cost = m.parts.parts.records.costs f (omega (arith, lt, count)) in
        let most = small_frame u m.parts.places m.parts.parts.free f lt in
        omega (arith, cost, most);
  }

  pub keeps_form : IsWellFormed image
  keeps_form =
      well_formed u image m.fits sizes built within_limits m.parts.parts.few m.parts.parts.short
      (subst (λ (n : ℕ). n < 2 ^ image.parameters) (sym m.unsigned)
      (subst (λ (k : ℕ). set_of (main_types u) < 2 ^ k) (sym m.parameters) (set_small (main_types u)))) m.parts.parts.words

  pub does_as_core : MainReturns u → DoesAsCore u image
  does_as_core returns = images_do_as_core u image m.fits sizes returns built within_limits

-- ---- where there is none

-- code that is too long is the unit's
pub code_passes :
    (u : CoreUnitTree) (t : TacUnitTree) (ps : List PlacesTree) (items : List Item) (fault : BuildFault) → t ≡ linear u → ArePacked t ps
    → items ≡ selected t ps → IsCodeFault items fault → Passes u fault
code_passes u t ps items NoMemory same packed is h = tt
code_passes u t ps items CodeTooLong same packed is h = record {
  places = ps;
  packed = subst (λ (q : TacUnitTree). ArePacked q ps) same packed;
  long = subst (λ (l : List Item). reached_words ≤ sum_by item_words l) (is ∙ ap (λ (q : TacUnitTree). selected q ps) same) h;
}
code_passes u t ps items TooManyFunctions same packed is h = absurd h
code_passes u t ps items NamesTooLong same packed is h = absurd h
code_passes u t ps items TooManyParameters same packed is h = absurd h
code_passes u t ps items FrameTooLarge same packed is h = absurd h
code_passes u t ps items DataTooLarge same packed is h = absurd h

-- no code is selected with the unit's values in these places
refused :
    (u : CoreUnitTree) (t : TacUnitTree) (ps : List PlacesTree) (fault : SelectionFault) → t ≡ linear u → ArePacked t ps
    → IsFault t ps fault → (fault ≡ selection.NoMemory → ⊥) → IsRefused u fault
refused u t ps fault same packed (inl none) other = absurd (other none)
refused u t ps fault same packed (inr is) other = record {
  places = ps;
  packed = subst (λ (q : TacUnitTree). ArePacked q ps) same packed;
  is = ap (λ (q : TacUnitTree). first_fault q ps) (sym same) ∙ is;
}

-- and so is the reason why no code is selected
pub selection_passes :
    (u : CoreUnitTree) (t : TacUnitTree) (ps : List PlacesTree) (fault : SelectionFault) → t ≡ linear u → ArePacked t ps
    → IsFault t ps fault → Passes u (fault_of fault)
selection_passes u t ps selection.NoMemory same packed h = tt
selection_passes u t ps selection.NoRegister same packed h = tt
selection_passes u t ps selection.TooManyArguments same packed h = refused u t ps selection.TooManyArguments same packed h (λ e. cc)
selection_passes u t ps selection.FrameTooLarge same packed h = refused u t ps selection.FrameTooLarge same packed h (λ e. cc)
selection_passes u t ps selection.DataTooLarge same packed h = refused u t ps selection.DataTooLarge same packed h (λ e. cc)
