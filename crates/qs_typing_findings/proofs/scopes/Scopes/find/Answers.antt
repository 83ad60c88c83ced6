use Rattle.std.proofs.Common.{rules, ◌≡◌, None, ap, ◌∙◌, arith}
use Rattle.qs_typing_findings.specs.EntityOf.{entity_at}
use Rattle.qs_typing_findings.proofs.LatestPlaces.{within, found, not_found}
use Rattle.qs_typing_findings.proofs.scopes.Scopes.find.Goals as goal

pub returns-in_err-place : goal.returns-in_err-place
returns-in_err-place c =
    let none : c.from_residual.result ≡ None = search rules in
    ap entity_at none ∙ not_found c.args.name.now c.args.self.now.bindings.items c.args.self.now.start c.in_err-place.ensures

pub index-requires : goal.index-requires
index-requires c =
    let low = within c.args.name.now c.args.self.now.bindings.items c.in_ok-place.place c.in_ok-place.ensures in
    omega arith

pub returns : goal.returns
returns c =
    found c.args.name.now c.args.self.now.bindings.items c.args.self.now.start c.in_ok-place.place c.index.result.now c.in_ok-place.ensures c.index.ensures
