use Rattle.std.proofs.Common.{◌≡◌, List, length, map, None, sym, ap, ◌∙◌, subst}
use Rattle.std.proofs.lemmas.List.{length-map}
use Rattle.std.proofs.lemmas.Result.{err_from_is_err_and}
use Rattle.qs_asm.specs.declared.item.Item.{Item}
use Rattle.qs_asm.specs.Assembly.{IsAssembly}
use Rattle.qs_core.specs.TreeOf as trees
use Rattle.qs_core.specs.UnitTrees as core
use Rattle.qs_tac.specs.Laws.{AreAccepted, ArePacked}
use Rattle.qs_tac.specs.TreeOf.{function_tree}
use Rattle.qs_tac.specs.UnitTrees.{unit_tree}
use Rattle.qs_tac.specs.Places.{places_tree}
use Rattle.qs_tac.specs.declared.places.Places.{Places}
use Rattle.qs_emit_selection.specs.Limits.{first_fault}
use Rattle.qs_emit_selection.specs.Units.{selected}
use Rattle.qs_emit.proofs.EmissionLaws.{data_fits, selected_is_emittable}
use Rattle.qs_compile.specs.Limits.{Passes}
use Rattle.qs_compile.specs.Faults.{fault_of}
use Rattle.qs_compile.specs.declared.fault.BuildFault.{BuildFault}
use Rattle.qs_compile.specs.Records.{HaveRecords, FramesFit}
use Rattle.qs_compile.proofs.CodeLaws.{are_counted}
use Rattle.qs_compile.proofs.SizeLaws.{frames_fit}
use Rattle.qs_compile.proofs.BuiltLaws.{parts_of, selection_passes, code_passes}
use Rattle.qs_compile.proofs.building.build_image.Goals as goal

pub emit-requires-clause-emittable : goal.emit-requires-clause-emittable
emit-requires-clause-emittable c =
    let t = unit_tree c.in_ok-linear.linear in
    let none = subst (λ (ps : List Places). first_fault t (map places_tree ps) ≡ None) (c.deref.ensures.value ∙ sym c.deref-2.ensures.value) c.in_ok-check_fits.ensures.fits in
    let accepted = subst (λ (ps : List Places). AreAccepted t (map places_tree ps)) (sym c.deref-2.ensures.value) c.in_ok-places.ensures.accepted in
    selected_is_emittable t (map places_tree c.deref-2.result.now) none c.in_ok-linear.linear.fits accepted

pub emit-requires-clause-room : goal.emit-requires-clause-room
emit-requires-clause-room c = data_fits (unit_tree c.in_ok-linear.linear) (map places_tree c.deref.result.now) c.in_ok-check_fits.ensures.fits

pub code_of-requires : goal.code_of-requires
code_of-requires c =
    are_counted (unit_tree c.in_ok-linear.linear) (map places_tree c.deref-2.result.now) c.deref-3.result.now c.in_ok-linear.linear.fits
    (c.deref-3.ensures.value ∙ c.in_ok-items.ensures.items)

pub returns-in_err-check_fits-clause-fault : goal.returns-in_err-check_fits-clause-fault
returns-in_err-check_fits-clause-fault c =
    let u = core.unit_tree c.args.unit.now in
    let t = unit_tree c.in_ok-linear.linear in
    let packed = subst (λ (ps : List Places). ArePacked t (map places_tree ps)) (sym c.deref.ensures.value) c.in_ok-places.ensures.packed in
    let passes : Passes u (fault_of c.in_err-check_fits.field-0.0) =
    selection_passes u t (map places_tree c.deref.result.now) c.in_err-check_fits.field-0.0 c.in_ok-linear.ensures packed c.in_err-check_fits.ensures.fault in
    let err = err_from_is_err_and c.from_residual-in_err-check_fits.result c.from_residual-in_err-check_fits.ensures.1 in
    let same : err.0 ≡ fault_of c.in_err-check_fits.field-0.0 = err.2 in
    let told : Passes u err.0 = subst (λ (fault : BuildFault). Passes u fault) (sym same) passes in
    rw (err.1) told

pub returns-in_err-code-clause-fault : goal.returns-in_err-code-clause-fault
returns-in_err-code-clause-fault c =
    let u = core.unit_tree c.args.unit.now in
    let t = unit_tree c.in_ok-linear.linear in
    let ps = map places_tree c.in_ok-places.places.items in
    let items : c.deref-3.result.now ≡ selected t ps =
    c.deref-3.ensures.value ∙ c.in_ok-items.ensures.items ∙ ap (λ (ps : List Places). selected t (map places_tree ps)) c.deref-2.ensures.value in
    let passes : Passes u c.in_err-code.field-0.0 =
    code_passes u t ps c.deref-3.result.now c.in_err-code.field-0.0 c.in_ok-linear.ensures c.in_ok-places.ensures.packed items c.in_err-code.ensures.fault in
    let err = err_from_is_err_and c.from_residual-in_err-code.result c.from_residual-in_err-code.ensures.1 in
    let same : err.0 ≡ c.in_err-code.field-0.0 = err.2 in
    let told : Passes u err.0 = subst (λ (fault : BuildFault). Passes u fault) (sym same) passes in
    rw (err.1) told

pub records_of-requires-clause-placed : goal.records_of-requires-clause-placed
records_of-requires-clause-placed c =
    ap length c.deref-4.ensures.value ∙ c.in_ok-places.ensures.count
    ∙ sym (length-map c.in_ok-linear.linear.functions.items function_tree)

pub records_of-requires-clause-fit : goal.records_of-requires-clause-fit
records_of-requires-clause-fit c =
    subst (λ (ps : List Places). FramesFit (map function_tree c.in_ok-linear.linear.functions.items) (map places_tree ps)) (c.deref.ensures.value ∙ sym c.deref-4.ensures.value)
    (frames_fit (unit_tree c.in_ok-linear.linear) (map places_tree c.deref.result.now) c.in_ok-check_fits.ensures.fits)

pub image_of-requires : goal.image_of-requires
image_of-requires c =
    let t = unit_tree c.in_ok-linear.linear in
    let places = c.in_ok-places.places.items in
    let functions = c.in_ok-functions.functions.items in
    let cores = map trees.function_tree c.args.unit.now.functions.items in
    let items : c.in_ok-items.items.items ≡ selected t (map places_tree places) =
    c.in_ok-items.ensures.items ∙ ap (λ (ps : List Places). selected t (map places_tree ps)) c.deref-2.ensures.value in
    parts_of (core.unit_tree c.args.unit.now) t (map places_tree places) functions c.in_ok-code.code.items c.in_ok-bytes.bytes.items c.in_ok-linear.ensures c.in_ok-places.ensures.packed
    (record {
      few = c.in_ok-check_names.ensures.functions;
      short = c.in_ok-check_names.ensures.names;
      free = subst (λ (ps : List Places). first_fault t (map places_tree ps) ≡ None) c.deref.ensures.value c.in_ok-check_fits.ensures.fits;
      records = subst (λ (l : List Item). HaveRecords cores t.functions (map places_tree places) l functions) (c.deref-5.ensures.value ∙ items)
          (subst (λ (ps : List Places). HaveRecords cores t.functions (map places_tree ps) c.deref-5.result.now functions) c.deref-4.ensures.value c.in_ok-functions.ensures);
      assembly = subst (λ (l : List Item). IsAssembly l c.in_ok-code.code.items) (c.deref-3.ensures.value ∙ items) c.in_ok-code.ensures.code;
      reached = c.in_ok-code.ensures.few;
      words = c.in_ok-code.ensures.words;
      octets = c.in_ok-bytes.ensures;
    })
