use Rattle.std.proofs.Common.{ℕ, List, map, sym, subst}
use Rattle.std.specs.Prelude.{nat_eq}
use Rattle.std.specs.HashMap.{get}
use Rattle.qs_core.specs.declared.units.CoreFunction.{CoreFunction}
use Rattle.qs_core.specs.TreeOf as core
use Rattle.qs_tac.specs.declared.units.TacFunction.{TacFunction}
use Rattle.qs_tac.specs.TreeOf.{function_tree}
use Rattle.qs_tac.specs.Places.{places_tree}
use Rattle.qs_compile.specs.Records.{AreAddresses, AreFrameCosts, AreRecords}
use Rattle.qs_compile.proofs.RecordLaws.{have_records}
use Rattle.qs_compile.proofs.building.records_of.Goals as goal

pub returns : goal.returns
returns c =
    let linear = map function_tree c.args.linear.now.functions.items in
    let places = map places_tree c.args.places.now in
    let at = subst (λ (l : List ℕ). AreAddresses (get nat_eq c.in_ok-labels.labels) linear l) (sym c.deref-5.ensures.value)
    (subst (λ (fs : List TacFunction). AreAddresses (get nat_eq c.in_ok-labels.labels) (map function_tree fs) c.in_ok-addresses.addresses.items) c.deref-2.ensures.value c.in_ok-addresses.ensures) in
    let take = subst (λ (l : List ℕ). AreFrameCosts linear places l) (sym c.deref-6.ensures.value)
    (subst (λ (fs : List TacFunction). AreFrameCosts (map function_tree fs) places c.in_ok-costs.costs.items) c.deref-3.ensures.value c.in_ok-costs.ensures) in
    let are = subst (λ (fs : List CoreFunction). AreRecords (map core.function_tree fs) c.deref-5.result.now c.deref-6.result.now c.in_ok-all.all.items) c.deref-4.ensures.value c.in_ok-all.ensures in
    have_records (map core.function_tree c.args.unit.now.functions.items) linear places c.args.items.now (get nat_eq c.in_ok-labels.labels) c.deref-5.result.now c.deref-6.result.now c.in_ok-all.all.items
    c.requires.same c.in_ok-labels.ensures at take are
