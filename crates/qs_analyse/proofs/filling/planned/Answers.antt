use Rattle.std.proofs.Common.{◌∙◌, Bool, List, filter, map, sym, ap, subst}
use Rattle.std.proofs.lemmas.List.{length-map}
use Rattle.std.proofs.lemmas.Result.{err_from_is_err_and}
use Rattle.qs_base.specs.declared.function.FnId.{FnId}
use Rattle.qs_core.specs.TreeOf.{function_tree}
use Rattle.qs_core.specs.UnitTrees.{unit_tree}
use Rattle.qs_triples.specs.Entries.{has_entry}
use Rattle.qs_triples.specs.TreeOf.{entry_tree}
use Rattle.qs_callgraph.specs.CallLists.{flag, numbers}
use Rattle.qs_callgraph.specs.Opens.{AreOf}
use Rattle.qs_analyse.specs.Fillable.{entries_only}
use Rattle.qs_analyse.proofs.FlagLaws.{order_for, depth_first_for, cycle_for}
use Rattle.qs_analyse.proofs.filling.planned.Goals as goal

pub returns-in_err-functions-clause-cycle : goal.returns-in_err-functions-clause-cycle
returns-in_err-functions-clause-cycle c =
    let u = unit_tree c.args.unit.now in
    let test = has_entry (entries_only (map entry_tree c.args.entries.now)) in
    let of = subst (λ (flags : List Bool). AreOf u test flags) (sym c.deref.ensures.value) c.in_ok-has_spec.ensures in
    let p = err_from_is_err_and c.from_residual-in_err-functions.result c.from_residual-in_err-functions.ensures.1 in
    rw (p.1, p.2) (cycle_for u test c.deref.result.now of c.in_err-functions.field-0.0 c.in_err-functions.ensures.cycle)

pub returns-clause-plan : goal.returns-clause-plan
returns-clause-plan c =
    let u = unit_tree c.args.unit.now in
    let test = has_entry (entries_only (map entry_tree c.args.entries.now)) in
    let of = subst (λ (flags : List Bool). AreOf u test flags) (sym c.deref.ensures.value) c.in_ok-has_spec.ensures in
    let again = subst (λ (flags : List Bool). AreOf u test flags) (sym c.deref-2.ensures.value) c.in_ok-has_spec.ensures in
    record {
      order = order_for u test c.deref.result.now of (numbers c.in_ok-functions.functions.items) c.in_ok-functions.ensures.order;
      depth_first = depth_first_for u test c.deref.result.now of (numbers c.in_ok-functions.functions.items) c.in_ok-functions.ensures.depth_first;
      tells_open = c.in_ok-is_open.ensures.open_ones test again;
      as_many = c.in_ok-is_open.ensures.as_many ∙ sym (length-map c.args.unit.now.functions.items function_tree);
      opened =
          c.in_ok-opened.ensures
          ∙ ap (λ (flags : List Bool). filter (flag flags) (numbers c.deref-3.result.now)) c.deref-4.ensures.value
          ∙ ap (λ (fs : List FnId). filter (flag c.in_ok-is_open.is_open.items) (numbers fs)) c.deref-3.ensures.value;
    }
