use Rattle.std.proofs.Common.{◌≡◌, ◌-◌, ◌≤◌, ◌<◌, length, set, ap, sym, ◌∙◌, arith}
use Rattle.std.proofs.lemmas.List.{length-map, map-set, take-map}
use Rattle.qs_core.specs.Trees.{temporary}
use Rattle.qs_core.specs.TreeOf.{core_expr, core_stmt, core_stmts}
use Rattle.qs_elaborate_bodies.specs.Parts.{Valued}
use Rattle.qs_elaborate_bodies.proofs.SettledOperands.{settled_short, settled_long}
use Rattle.qs_elaborate_bodies.proofs.reserving.settle_at.Goals as goal

pub returns-then-saturating_sub-le1-clause-statements : goal.returns-then-saturating_sub-le1-clause-statements
returns-then-saturating_sub-le1-clause-statements c =
    let items = c.args.out.now.items in
    let n : length (core_stmts items) ≡ length items = length-map items core_stmt in
    let short : length (core_stmts items) - c.args.r.place ≤ 1 = omega arith in
    ap core_stmts c.truncate.ensures.items
    ∙ sym (take-map core_stmt c.args.r.place items)
    ∙ ap (λ (g : Valued). g.statements) (sym (settled_short c.args.r (core_expr c.args.v) (core_stmts items) c.args.ts.now.items short))

pub returns-clause-statements : goal.returns-clause-statements
returns-clause-statements c =
    let items = c.args.out.now.items in
    let n : length (core_stmts items) ≡ length items = length-map items core_stmt in
    let long : 1 < length (core_stmts items) - c.args.r.place = omega arith in
    map-set core_stmt items c.args.r.place c.keep.result
    ∙ ap (set (core_stmts items) c.args.r.place) c.keep.ensures
    ∙ ap (λ (g : Valued). g.statements) (sym (settled_long c.args.r (core_expr c.args.v) (core_stmts items) c.args.ts.now.items long))

pub returns-clause-value : goal.returns-clause-value
returns-clause-value c =
    let items = c.args.out.now.items in
    let n : length (core_stmts items) ≡ length items = length-map items core_stmt in
    let long : 1 < length (core_stmts items) - c.args.r.place = omega arith in
    c.temporary.ensures
    ∙ ap (λ s. temporary s c.args.r.temporary) c.type_of-s.ensures
    ∙ ap (λ (g : Valued). g.value) (sym (settled_long c.args.r (core_expr c.args.v) (core_stmts items) c.args.ts.now.items long))
