use Rattle.qs_tac.specs.Places.{places_tree}
use Rattle.qs_tac.specs.TreeOf.{function_tree}
use Rattle.qs_alloc.proofs.Acceptance.{accepted_are}
use Rattle.std.proofs.Common.{sym, ◌∙◌}
use Rattle.qs_alloc.proofs.verification.verify.Goals as goal

pub returns : goal.returns
returns c =
    let says = accepted_are (function_tree c.args.f.now) (places_tree c.args.places.now) in
    (λ yes. says.0 (sym c.is_accepted.ensures ∙ yes), λ accepted. c.is_accepted.ensures ∙ says.1 accepted)
