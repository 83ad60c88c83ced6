use Rattle.std.proofs.Common.{Bool, List, length, sym, ap, ◌∙◌, subst}
use Rattle.std.proofs.lemmas.List.{length-map}
use Rattle.qs_callgraph.specs.CallLists.{flag}
use Rattle.qs_callgraph.specs.Opens.{AreOf, TellsOpen}
use Rattle.qs_core.specs.TreeOf.{function_tree}
use Rattle.qs_core.specs.UnitTrees.{unit_tree}
use Rattle.qs_prooftext_meaning.specs.Proofs.{has_list}
use Rattle.qs_prooftext.proofs.ReadLaws.{all_stand, reads, stops}
use Rattle.qs_prooftext.proofs.reading.read_lists.Goals as goal

pub open-requires : goal.open-requires
open-requires c =
    let are = c.in_ok-flags.ensures c.requires.parts (all_stand c.args.text.now c.args.nodes.now c.requires) in
    ap length c.deref.ensures.value ∙ (are.as_many ∙ length-map c.args.unit.now.functions.items function_tree)

pub read_tops-requires : goal.read_tops-requires
read_tops-requires c = (c.requires.parts, all_stand c.args.text.now c.args.nodes.now c.requires)

pub returns-clause-reads : goal.returns-clause-reads
returns-clause-reads c =
    let u = unit_tree c.args.unit.now in
    let file = c.requires.parts in
    let stand = all_stand c.args.text.now c.args.nodes.now c.requires in
    let are = subst (λ (fs : List Bool). AreOf u (has_list u file) fs) (sym c.deref.ensures.value) (c.in_ok-flags.ensures file stand) in
    let tells = subst (λ (fs : List Bool). TellsOpen u (has_list u file) (flag fs)) (sym c.deref-2.ensures.value) (c.in_ok-is_open.ensures.open_ones (has_list u file) are) in
    reads u c.args.text.now file (flag c.deref-2.result.now) c.read_tops.result c.requires.reading tells (c.read_tops.ensures file stand)

pub returns-clause-fault : goal.returns-clause-fault
returns-clause-fault c =
    let u = unit_tree c.args.unit.now in
    let file = c.requires.parts in
    let stand = all_stand c.args.text.now c.args.nodes.now c.requires in
    let are = subst (λ (fs : List Bool). AreOf u (has_list u file) fs) (sym c.deref.ensures.value) (c.in_ok-flags.ensures file stand) in
    let tells = subst (λ (fs : List Bool). TellsOpen u (has_list u file) (flag fs)) (sym c.deref-2.ensures.value) (c.in_ok-is_open.ensures.open_ones (has_list u file) are) in
    stops u c.args.text.now file (flag c.deref-2.result.now) c.read_tops.result c.requires.reading tells (c.read_tops.ensures file stand)
