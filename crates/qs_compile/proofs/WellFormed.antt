-- An image that is built from a unit keeps to its form.
use Rattle.std.proofs.Common.{◌≡◌, ◌≢◌, ◌⊎◌, inl, inr, ℕ, zero, suc, ◌/◌, ◌^◌, ◌-◌, ◌<◌, ◌≤◌, true, false, List, [], ◌∷◌, ◌++◌, length, map, Option, Some, None, refl, sym, ap, ◌∙◌, subst, arith, length-append}
use Rattle.std.specs.Prelude.{◌&&◌, not, bytes_eq, codes, slice_index, slice_index_or, unwrap_or, All}
use Rattle.std.specs.List.{slice_get, list_all}
use Rattle.std.specs.Option.{option_map}
use Rattle.std.proofs.lemmas.Bool.{cases_order}
use Rattle.std.proofs.lemmas.List.{length-map}
use Rattle.std.proofs.lemmas.List.Elements.{All-from_get_or}
use Rattle.std.proofs.lemmas.Option.{slice_get-map, slice_get-get_or, slice_get_within, get_or_from_slice_get}
use Rattle.std.proofs.lemmas.Slice.Eq.{bytes_eq-Decides}
use Rattle.qs_base.specs.Names.{is_name}
use Rattle.qs_memory.specs.Scalars.{is_type}
use Rattle.qs_memory.proofs.Options.{some_same}
use Rattle.qs_core.specs.Trees.{CoreFunctionTree, CoreUnitTree}
use Rattle.qs_core.specs.Units.{initial_memory}
use Rattle.qs_core.specs.Interfaces.{types_of_main}
use Rattle.qs_core.specs.Fits.{differ, main_name, is_main, unit_fits}
use Rattle.qs_core.proofs.FitLaws.{both, function_at_fits, unit_parts}
use Rattle.qs_isa.specs.Addresses.{code_start}
use Rattle.qs_asm.specs.Assembly.{label_offset}
use Rattle.qs_image.specs.declared.version.Version.{Version}
use Rattle.qs_image.specs.Image.{Image, FunctionRecord, joined_names, HasCount, HasParameters, IsAddress, IsCost, IsWellFormed}
use Rattle.qs_lower.proofs.UnitFits.{types_count}
use Rattle.qs_tac.specs.Trees.{TacUnitTree}
use Rattle.qs_tac.specs.Places.{PlacesTree}
use Rattle.qs_frames.proofs.FrameLaws.{frames_are_laid_out}
use Rattle.qs_emit_selection.specs.Emission.{first_label, enter, save, take_parameters}
use Rattle.qs_emit_selection.specs.Pieces.{move_stack}
use Rattle.qs_emit_selection.specs.Operands.{frame_of, stored}
use Rattle.qs_emit_selection.specs.Data.{data_address}
use Rattle.qs_emit_selection.specs.Units.{selected}
use Rattle.qs_emit.specs.Machine.{instruction_at}
use Rattle.qs_emit.specs.Surroundings.{Surroundings}
use Rattle.qs_emit.proofs.Moves.{moved_by_some}
use Rattle.qs_emit.specs.Relation.{Setup, IsEmittable, context, entry, place, cost_at, context_at}
use Rattle.qs_emit.specs.Images.{record_at, no_record, IsWithinLimits}
use Rattle.qs_emit.specs.Emitted.{AreSurroundings}
use Rattle.qs_emit.proofs.StartLaws.{quiet_room}
use Rattle.qs_emit.proofs.SetUp.{set_up}
use Rattle.qs_emit.proofs.CodePlaces.{plain_laid, has_function}
use Rattle.qs_emit.proofs.DataBytes.{data_small}
use Rattle.qs_compile.specs.Units.{linear, IsWithinSizes}
use Rattle.qs_compile.specs.Built.{IsBuiltFrom}
use Rattle.qs_compile.specs.Limits.{bytes_of_names}
use Rattle.qs_compile.proofs.FitLaws.{first_memory, built_emittable}

-- ---- names

-- names that are the same have as many bytes
same_bytes : (fs : List FunctionRecord) (gs : List CoreFunctionTree) → map (λ (f : FunctionRecord). f.name) fs ≡ map (λ (g : CoreFunctionTree). g.name) gs → length (joined_names fs) ≡ bytes_of_names gs
same_bytes [] [] h = refl
same_bytes [] (g ∷ gs) h = cc
same_bytes (f ∷ fs) [] h = cc
same_bytes (f ∷ fs) (g ∷ gs) h =
    let name : f.name ≡ g.name = cc in
    let others : map (λ (f : FunctionRecord). f.name) fs ≡ map (λ (g : CoreFunctionTree). g.name) gs = cc in
    let rest = same_bytes fs gs others in
    let first = ap length name in
    let joined = length-append f.name (joined_names fs) in
    omega (arith, rest, first, joined)

one_of : (gs : List CoreFunctionTree) (k : ℕ) (g : CoreFunctionTree) → slice_get gs k ≡ Some g → length g.name ≤ bytes_of_names gs
one_of [] k g is = cc
one_of (f ∷ gs) zero g is = let same = ap (λ (x : CoreFunctionTree). length x.name) (some_same f g is) in omega (arith, same)
one_of (f ∷ gs) (suc k) g is = let rest = one_of gs k g is in omega (arith, rest)

-- names that differ do so in pairs
none_same : (name : List ℕ) (names : List (List ℕ)) (k : ℕ) (other : List ℕ) → list_all (λ (y : List ℕ). not (bytes_eq name y)) names ≡ true → slice_get names k ≡ Some other → name ≢ other
none_same name [] k other all is = cc
none_same name (x ∷ names) zero other all is = λ same.
    let first : not (bytes_eq name x) ≡ true = (both (not (bytes_eq name x)) (list_all (λ (y : List ℕ). not (bytes_eq name y)) names) all).0 in
    let equal : bytes_eq name x ≡ true = (bytes_eq-Decides name x).1 (same ∙ sym (some_same x other is)) in
    let off : not (bytes_eq name x) ≡ false = ap not equal in
    cc
none_same name (x ∷ names) (suc k) other all is =
    none_same name names k other (both (not (bytes_eq name x)) (list_all (λ (y : List ℕ). not (bytes_eq name y)) names) all).1 is

pairs_differ : (names : List (List ℕ)) (i j : ℕ) (a b : List ℕ) → differ bytes_eq names ≡ true → i < j → slice_get names i ≡ Some a → slice_get names j ≡ Some b → a ≢ b
pairs_differ [] i j a b all lt at_i at_j = cc
pairs_differ (x ∷ names) zero zero a b all lt at_i at_j = absurd (omega (arith, lt))
pairs_differ (x ∷ names) zero (suc j) a b all lt at_i at_j = λ same.
    none_same x names j b (both (list_all (λ (y : List ℕ). not (bytes_eq x y)) names) (differ bytes_eq names) all).0 at_j (some_same x a at_i ∙ same)
pairs_differ (x ∷ names) (suc i) zero a b all lt at_i at_j = absurd (omega (arith, lt))
pairs_differ (x ∷ names) (suc i) (suc j) a b all lt at_i at_j =
    pairs_differ names i j a b (both (list_all (λ (y : List ℕ). not (bytes_eq x y)) names) (differ bytes_eq names) all).1 (omega (arith, lt)) at_i at_j

-- ---- main

record MainNamed (u : CoreUnitTree) : Type 0 where
  function : CoreFunctionTree
  is : slice_get u.functions u.main ≡ Some function
  named : function.name ≡ codes "main"

main_named : (u : CoreUnitTree) → unit_fits u ≡ true → MainNamed u
main_named u fits = by (slice_get u.functions u.main) refl (unit_parts u fits).main
  where
    by : (o : Option CoreFunctionTree) → slice_get u.functions u.main ≡ o → is_main o ≡ true → MainNamed u
    by None is h = cc
    by (Some g) is h =
        let front = (both (bytes_eq g.name main_name && is_type g.result_type _) _ h).0 in
        record { function = g; is = is; named = (bytes_eq-Decides g.name main_name).0 (both (bytes_eq g.name main_name) _ front).0 }

-- ---- the image

module _ (u : CoreUnitTree) (image : Image) (fits : unit_fits u ≡ true) (sizes : IsWithinSizes u image) (built : IsBuiltFrom u image) (limits : IsWithinLimits image) where
  abbrev t : TacUnitTree
  t = linear u

  abbrev ps : List PlacesTree
  ps = built.places

  -- whatever a run finds there
  abbrev there : Surroundings
  there = record {
    image = image;
    room = quiet_room 0;
    costs = λ f. (record_at image f).cost;
    return_to = code_start;
    root_registers = λ r. 0;
    first = length t.data_blocks;
    addresses = data_address t.data_blocks;
  }

  surround : AreSurroundings t image there
  surround = record {
    here = refl;
    costs = record { each = λ f lt. refl };
    stack = omega arith;
    ceiling = omega arith;
    others = λ time flat h. h;
    return_aligned = refl;
    return_word = omega arith;
    data_there = omega arith;
    data_lie = λ block lt. refl;
  }

  emittable_there : IsEmittable t ps
  emittable_there = built_emittable u image fits sizes built

  abbrev s : Setup
  s = set_up t ps (initial_memory u) there emittable_there (first_memory u fits) built.code limits surround

  as_many : length image.functions ≡ length u.functions
  as_many =
      sym (length-map image.functions (λ (f : FunctionRecord). f.name)) ∙ ap length built.names
      ∙ length-map u.functions (λ (g : CoreFunctionTree). g.name)

  -- ---- addresses

  enters_by_some : (f : ℕ) → 1 ≤ length (enter (context s f))
  enters_by_some f =
      let c = context s f in
      let moved = moved_by_some (2 ^ 32 - (frame_of c).cost) in
      let all = length-append (move_stack (2 ^ 32 - (frame_of c).cost)) (save (frame_of c).outgoing (stored c) 0 ++ take_parameters c 0 c.function.parameters) in
      omega (arith, moved, all)

  address_is : (f : ℕ) → f < length t.functions → IsAddress (length image.code) (record_at image f).address
  address_is f lt =
      let has = has_function s f lt in
      let code = plain_laid (instruction_at image) s.label_at (entry s f) (enter (context s f)) (place s f 0) has.begins in
      let end = code.end in
      let some = enters_by_some f in
      let low = has.place_low 0 (omega arith) in
      let aligned = has.entry_aligned in
      let is = built.code.addresses f lt in
      let offset = unwrap_or (label_offset (selected t ps) (first_label t.functions f)) 0 in
      record { k = offset / 4; below = omega (arith, end, some, low); at = omega (arith, is, aligned) }

  -- ---- records

  record Known (k : ℕ) (r : FunctionRecord) : Type 0 where
    function : CoreFunctionTree
    is : slice_get u.functions k ≡ Some function
    named : r.name ≡ function.name
    counted : r.parameters ≡ Some (length function.parameters)

  known : (k : ℕ) (d : FunctionRecord) → k < length image.functions → Known k (slice_index_or image.functions k d)
  known k d lt = by (slice_get u.functions k) refl
    where
      r : FunctionRecord
      r = slice_index_or image.functions k d

      name_there : slice_get (map (λ (g : CoreFunctionTree). g.name) u.functions) k ≡ Some r.name
      name_there =
          ap (λ (names : List (List ℕ)). slice_get names k) (sym built.names)
          ∙ slice_get-map (λ (f : FunctionRecord). f.name) image.functions k
          ∙ ap (option_map (λ (f : FunctionRecord). f.name)) (slice_get-get_or image.functions k d lt)

      count_there : slice_get (map (λ (g : CoreFunctionTree). Some (length g.parameters)) u.functions) k ≡ Some r.parameters
      count_there =
          ap (λ (counts : List (Option ℕ)). slice_get counts k) (sym built.counts)
          ∙ slice_get-map (λ (f : FunctionRecord). f.parameters) image.functions k
          ∙ ap (option_map (λ (f : FunctionRecord). f.parameters)) (slice_get-get_or image.functions k d lt)

      by : (o : Option CoreFunctionTree) → slice_get u.functions k ≡ o → Known k (slice_index_or image.functions k d)
      by None is = let none : None ≡ Some r.name = sym (slice_get-map (λ (g : CoreFunctionTree). g.name) u.functions k ∙ ap (option_map (λ (g : CoreFunctionTree). g.name)) is) ∙ name_there in cc
      by (Some g) is =
          let some : Some g.name ≡ Some r.name = sym (slice_get-map (λ (g : CoreFunctionTree). g.name) u.functions k ∙ ap (option_map (λ (g : CoreFunctionTree). g.name)) is) ∙ name_there in
          let counted : Some (Some (length g.parameters)) ≡ Some r.parameters =
          sym (slice_get-map (λ (g : CoreFunctionTree). Some (length g.parameters)) u.functions k ∙ ap (option_map (λ (g : CoreFunctionTree). Some (length g.parameters))) is) ∙ count_there in
          record { function = g; is = is; named = sym (some_same g.name r.name some); counted = sym (some_same (Some (length g.parameters)) r.parameters counted) }

  -- the record with a number, whatever stands for one that there isn't
  record_is : (k : ℕ) (d : FunctionRecord) → k < length image.functions → record_at image k ≡ slice_index_or image.functions k d
  record_is k d lt = get_or_from_slice_get image.functions k (slice_index_or image.functions k d) no_record (slice_get-get_or image.functions k d lt)

  -- ---- counts of parameters

  few_parameters : (k : ℕ) (g : CoreFunctionTree) → slice_get u.functions k ≡ Some g → length g.parameters ≤ 16
  few_parameters k g is =
      let most = sizes.parameters k g (slice_get_within u.functions k g is) in
      let same = ap (λ (f : CoreFunctionTree). length f.parameters) (get_or_from_slice_get u.functions k g g is) in
      omega (arith, most, same)

  -- of a function that is named as main
  main_parameters : (k : ℕ) (g : CoreFunctionTree) → slice_get u.functions k ≡ Some g → g.name ≡ codes "main" → length g.parameters ≡ image.parameters
  main_parameters k g is named = by (cases_order k u.main)
    where
      main : MainNamed u
      main = main_named u fits

      names : List (List ℕ)
      names = map (λ (f : CoreFunctionTree). f.name) u.functions

      at : (i : ℕ) (f : CoreFunctionTree) → slice_get u.functions i ≡ Some f → slice_get names i ≡ Some f.name
      at i f there = slice_get-map (λ (g : CoreFunctionTree). g.name) u.functions i ∙ ap (option_map (λ (g : CoreFunctionTree). g.name)) there

      differ_in : (i j : ℕ) (a b : List ℕ) → i < j → slice_get names i ≡ Some a → slice_get names j ≡ Some b → a ≢ b
      differ_in i j a b lt = pairs_differ names i j a b (unit_parts u fits).different lt

      count : length main.function.parameters ≡ image.parameters
      count =
          sym (types_count main.function.blocks 0 main.function.parameters main.function.variables (function_at_fits u fits u.main main.function main.is).parameters)
          ∙ sym (ap (λ (o : Option CoreFunctionTree). length (types_of_main o)) main.is) ∙ sym built.parameters

      by : (k ≡ u.main) ⊎ ((k < u.main) ⊎ (u.main < k)) → length g.parameters ≡ image.parameters
      by (inl same) =
          let there : Some g ≡ Some main.function = sym is ∙ ap (λ (i : ℕ). slice_get u.functions i) same ∙ main.is in
          ap (λ (f : CoreFunctionTree). length f.parameters) (some_same g main.function there) ∙ count
      by (inr (inl before)) = absurd (differ_in k u.main g.name main.function.name before (at k g is) (at u.main main.function main.is) (named ∙ sym main.named))
      by (inr (inr behind)) = absurd (differ_in u.main k main.function.name g.name behind (at u.main main.function main.is) (at k g is) (main.named ∙ sym named))

  count_is : (k : ℕ) (d : FunctionRecord) → k < length image.functions → HasCount image.parameters (slice_index_or image.functions k d)
  count_is k d lt =
      let r = known k d lt in
      record {
        count = length r.function.parameters;
        is = r.counted;
        most = few_parameters k r.function r.is;
        main = λ named. main_parameters k r.function r.is (sym r.named ∙ named);
      }

  linear_count : length t.functions ≡ length image.functions
  linear_count = sym built.code.count

  cost_is : (f : ℕ) → f < length t.functions → IsCost (record_at image f).cost
  cost_is f lt =
      let c = context_at t ps f in
      let cost = frames_are_laid_out c.function c.places in
      let positive = cost.positive in
      let multiple = cost.multiple in
      let is = built.code.costs f lt in
      let most = emittable_there.cost f lt in
      record { k = cost_at t ps f / 16; multiple = omega (arith, is, multiple); positive = omega (arith, is, positive); most = omega (arith, is, most) }

  pub well_formed :
      length u.functions ≤ 512 → bytes_of_names u.functions ≤ 1048576 → image.unsigned_set < 2 ^ image.parameters
      → All (λ (word : ℕ). word < 2 ^ 32) image.code → IsWellFormed image
  well_formed few short small words =
      let main = main_named u fits in
      let main_there = slice_get_within u.functions u.main main.function main.is in
      let many = as_many in
      let counted = linear_count in
      let first = address_is u.main (omega (arith, main_there, many, counted)) in
      let below = first.below in
      let joined = same_bytes image.functions u.functions built.names in
      let main_bytes = one_of u.functions u.main main.function main.is in
      let main_length = ap length main.named in
      let parameters = built.code.parameters in
      let passed = emittable_there.parameters t.main in
      record {
        code_count = (omega (arith, below), limits.code);
        byte_count = limits.bytes;
        function_count = (omega (arith, main_there, many), omega (arith, few, many));
        names_length = (omega (arith, joined, main_bytes, main_length), omega (arith, joined, short));
        parameters = omega (arith, parameters, passed);
        unsigned_set = small;
        names = λ k d lt. let r = known k d lt in ap is_name r.named ∙ (function_at_fits u fits k r.function r.is).name;
        differ = λ i j d before lt.
            let a = known i d (omega (arith, before, lt)) in
            let b = known j d lt in
            λ same. pairs_differ (map (λ (g : CoreFunctionTree). g.name) u.functions) i j a.function.name b.function.name (unit_parts u fits).different before
            (slice_get-map (λ (g : CoreFunctionTree). g.name) u.functions i ∙ ap (option_map (λ (g : CoreFunctionTree). g.name)) a.is)
            (slice_get-map (λ (g : CoreFunctionTree). g.name) u.functions j ∙ ap (option_map (λ (g : CoreFunctionTree). g.name)) b.is)
            (sym a.named ∙ same ∙ b.named);
        main = (
          u.main,
          let length_is = length-map image.functions (λ (f : FunctionRecord). f.name) in omega (arith, main_there, many, length_is),
          get_or_from_slice_get (map (λ (f : FunctionRecord). f.name) image.functions) u.main (codes "main") (codes "main")
              (ap (λ (names : List (List ℕ)). slice_get names u.main) built.names
              ∙ slice_get-map (λ (g : CoreFunctionTree). g.name) u.functions u.main
              ∙ ap (option_map (λ (g : CoreFunctionTree). g.name)) main.is ∙ ap Some main.named),
        );
        entry = record { k = 0; below = omega (arith, below); at = built.code.entry };
        addresses = λ k d lt. subst (λ (r : FunctionRecord). IsAddress (length image.code) r.address) (record_is k d lt) (address_is k (omega (arith, lt, counted)));
        costs = λ k d lt. subst (λ (r : FunctionRecord). IsCost r.cost) (record_is k d lt) (cost_is k (omega (arith, lt, counted)));
        counts = subst (λ (v : Version). All (λ (f : FunctionRecord). HasParameters v image.parameters f) image.functions) (sym built.version) count_is;
        words = words;
        octets = All-from_get_or (λ (byte : ℕ). byte < 256) image.bytes 0 (λ i lt.
            let is = ap (λ (bytes : List ℕ). slice_index bytes i) built.code.bytes in
            let octet = data_small (data_address t.data_blocks) (initial_memory u) (λ b o there inside. (first_memory u fits).sound.cells b o ((first_memory u fits).live b there) inside) i in
            omega (arith, is, octet));
      }
