use Rattle.std.proofs.Common.{List, length, map, ap, sym, ◌∙◌, subst}
use Rattle.std.proofs.lemmas.List.{length-map}
use Rattle.qs_tac.specs.TreeOf.{function_tree}
use Rattle.qs_tac.specs.UnitTrees.{unit_tree}
use Rattle.qs_tac.specs.Places.{places_tree}
use Rattle.qs_tac.specs.declared.units.TacFunction.{TacFunction}
use Rattle.qs_alloc.specs.Packing.{AllPacked}
use Rattle.qs_alloc.proofs.UnitLaws.{packed_accepted, packed_each, packed_count}
use Rattle.qs_alloc.proofs.assignment.assign_unit.Goals as goal

pub returns-clause-packed : goal.returns-clause-packed
returns-clause-packed c =
    packed_each _ _
    (subst (λ (l : List TacFunction). AllPacked (map function_tree l) (map places_tree c.in_ok-places.places.items)) c.deref.ensures.value c.in_ok-places.ensures)

pub returns-clause-accepted : goal.returns-clause-accepted
returns-clause-accepted c =
    packed_accepted (unit_tree c.args.unit.now) (map places_tree c.in_ok-places.places.items)
    (packed_each _ _
    (subst (λ (l : List TacFunction). AllPacked (map function_tree l) (map places_tree c.in_ok-places.places.items)) c.deref.ensures.value c.in_ok-places.ensures))

pub returns-clause-count : goal.returns-clause-count
returns-clause-count c =
    sym (length-map c.in_ok-places.places.items places_tree) ∙ packed_count _ _ c.in_ok-places.ensures ∙ length-map c.deref.result.now function_tree
    ∙ ap length c.deref.ensures.value
