use Rattle.std.proofs.Common.{rules, ◌≡◌, ℕ, false, length, map, replicate, sym, ap, ◌∙◌}
use Rattle.std.proofs.lemmas.List.{length-map}
use Rattle.qs_core.specs.TreeOf.{function_tree}
use Rattle.qs_core.specs.UnitTrees.{unit_tree}
use Rattle.qs_triples.specs.TreeOf.{entry_tree}
use Rattle.qs_callgraph.specs.CallLists.{marked}
use Rattle.qs_callgraph.proofs.MemberLaws.{written_back}
use Rattle.qs_analyse.specs.Fillable.{entry_functions}
use Rattle.qs_analyse.proofs.FlagLaws.{entries_flagged}
use Rattle.qs_analyse.proofs.filling.has_entries.Goals as goal

pub returns : goal.returns
returns c =
    let u = unit_tree c.args.unit.now in
    let es = map entry_tree c.args.entries.now in
    let empty : c.in_ok-flags.flags.items ≡ replicate c.len.result false = search rules in
    let many : c.len.result ≡ length u.functions = c.len.ensures ∙ c.args.unit.now.functions.ok.0 ∙ sym (length-map c.args.unit.now.functions.items function_tree) in
    entries_flagged u es _
    (written_back c.in_ok-flags.flags c.mark_entries.new.flags c.deref_mut.result.now c.mark_entries.auto.flags c.deref_mut.ensures.value
    ∙ c.mark_entries.ensures ∙ ap (marked (entry_functions es)) (c.deref_mut.ensures.value ∙ empty ∙ ap (λ (n : ℕ). replicate n false) many))
