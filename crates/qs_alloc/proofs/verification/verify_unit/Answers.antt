use Rattle.std.proofs.Common.{◌≡◌, List, map, sym, ap, ◌∙◌}
use Rattle.qs_tac.specs.Places.{places_tree}
use Rattle.qs_tac.specs.TreeOf.{function_tree}
use Rattle.qs_tac.specs.UnitTrees.{unit_tree}
use Rattle.qs_tac.specs.declared.units.TacFunction.{TacFunction}
use Rattle.qs_alloc.specs.Verification.{are_verified}
use Rattle.qs_alloc.proofs.UnitLaws.{verified_accepted, accepted_verified}
use Rattle.qs_alloc.proofs.verification.verify_unit.Goals as goal

pub returns-clause-accepted : goal.returns-clause-accepted
returns-clause-accepted c =
    let u = unit_tree c.args.unit.now in
    let ps = map places_tree c.args.places.now in
    let is : c.are_verified.result ≡ are_verified ps 0 u.functions =
    c.are_verified.ensures ∙ ap (λ (l : List TacFunction). are_verified ps 0 (map function_tree l)) c.deref.ensures.value in
    (λ yes. verified_accepted u ps (sym is ∙ yes), λ accepted. is ∙ accepted_verified u ps accepted)
