use Rattle.std.proofs.Common.{rules, ◌≡◌, None, ap, ◌∙◌, arith}
use Rattle.qs_typing_findings.specs.EntityOf.{entity_at}
use Rattle.qs_typing_findings.proofs.LatestPlaces.{within, found_here, found_outside, found_nowhere}
use Rattle.qs_typing_findings.proofs.scopes.Scopes.find_here.Goals as goal

pub returns-in_err-place : goal.returns-in_err-place
returns-in_err-place c =
    let none : c.from_residual.result ≡ None = search rules in
    ap entity_at none ∙ found_nowhere c.args.name.now c.args.self.now.bindings.items c.args.self.now.start c.in_err-place.ensures

pub index-requires : goal.index-requires
index-requires c =
    let low = within c.args.name.now c.args.self.now.bindings.items c.in_ok-place.place c.in_ok-place.ensures in
    omega arith

pub returns-then-place-self : goal.returns-then-place-self
returns-then-place-self c =
    found_outside c.args.name.now c.args.self.now.bindings.items c.args.self.now.start c.in_ok-place.place c.args.self.now.within c.if-place-self.true c.in_ok-place.ensures

pub returns-else-place-self : goal.returns-else-place-self
returns-else-place-self c =
    found_here c.args.name.now c.args.self.now.bindings.items c.args.self.now.start c.in_ok-place.place c.index.result.now c.args.self.now.within c.if-place-self.false c.in_ok-place.ensures c.index.ensures
