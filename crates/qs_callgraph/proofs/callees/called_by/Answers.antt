use Rattle.std.proofs.Common.{rules, ◌≡◌, ℕ, false, length, replicate, Some, refl, sym, ap, ◌∙◌}
use Rattle.std.specs.Prelude.{option_map}
use Rattle.std.specs.List.{slice_get}
use Rattle.std.proofs.lemmas.List.{length-map}
use Rattle.std.proofs.lemmas.Option.{slice_get_read, slice_get-map}
use Rattle.std.proofs.lemmas.Result.{IfOk-weaker}
use Rattle.qs_core.specs.CallGraph.{all_callees, callees_of}
use Rattle.qs_core.specs.TreeOf.{core_stmts, function_tree}
use Rattle.qs_core.specs.Trees.{stmts_of}
use Rattle.qs_core.specs.UnitTrees.{unit_tree}
use Rattle.qs_callgraph.specs.CallLists.{marked}
use Rattle.qs_callgraph.proofs.MarkLaws.{marked_callees}
use Rattle.qs_callgraph.proofs.MemberLaws.{written_back}
use Rattle.qs_callgraph.proofs.callees.called_by.Goals as goal

pub returns : goal.returns
returns c =
    let u = unit_tree c.args.unit.now in
    let functions = c.args.unit.now.functions.items in
    let function = function_tree c.index.result.now in
    let here : slice_get functions c.args.f.0 ≡ Some c.index.result.now =
    slice_get_read functions (length functions) c.args.f.0 c.index.result.now refl c.requires c.index.ensures in
    let is : slice_get u.functions c.args.f.0 ≡ Some function = slice_get-map function_tree functions c.args.f.0 ∙ ap (option_map function_tree) here in
    let empty : c.in_ok-marks.marks.items ≡ replicate c.len.result false = search rules in
    let many : c.len.result ≡ length u.functions = c.len.ensures ∙ c.args.unit.now.functions.ok.0 ∙ sym (length-map functions function_tree) in
    let marks : c.deref-2.result.now ≡ marked (callees_of (Some function)) (replicate (length u.functions) false) =
    c.deref-2.ensures.value ∙ written_back c.in_ok-marks.marks c.mark_all_callees.new.marks c.deref_mut.result.now c.mark_all_callees.auto.marks c.deref_mut.ensures.value
    ∙ c.mark_all_callees.ensures ∙ ap (λ ss. marked (all_callees (stmts_of (core_stmts ss))) c.deref_mut.result.now) c.deref.ensures.value
    ∙ ap (marked (callees_of (Some function))) (c.deref_mut.ensures.value ∙ empty ∙ ap (λ (n : ℕ). replicate n false) many) in
    IfOk-weaker c.marked_functions.result _ _ (λ gs e. e ∙ marked_callees u c.args.f.0 function c.deref-2.result.now is marks) c.marked_functions.ensures
