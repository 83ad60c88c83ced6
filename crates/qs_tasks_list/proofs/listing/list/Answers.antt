use Rattle.std.proofs.Common.{List, map, refl, sym, ap, ◌∙◌, arith}
use Rattle.std.proofs.lemmas.List.{nil_from_length}
use Rattle.std.proofs.lemmas.Result.{err_from_is_err_and}
use Rattle.qs_syntax.specs.UnitTrees.{unit_tree}
use Rattle.qs_typing_findings.specs.TypedOf.{typed_tree}
use Rattle.qs_tasks_list.specs.declared.placed.Placed.{Placed}
use Rattle.qs_tasks_list.specs.LinesOf.{placed_tree, said_tree}
use Rattle.qs_tasks_list.specs.Listing.{Lines, listing_of, listing_of_lines, said_from}
use Rattle.qs_tasks_list.proofs.ListLaws.{begins, ends_faulty, goes_on}
use Rattle.qs_tasks_list.proofs.listing.list.Goals as goal

pub loop-placed-init : goal.loop-placed-init
loop-placed-init c =
    let unit = typed_tree c.args.unit.now in
    ap (λ (l : List Placed). said_from unit (said_tree (record { tasks = c.new.result; arrivals = c.new-2.result; last = 0 })) (map placed_tree l)) c.into_iter-placed-iterator.ensures.into_iter_gives.0
    ∙ begins unit c.new.result.items c.new-2.result.items (map placed_tree c.in_ok-lines.lines.items) c.new.ensures.items c.new-2.ensures.items
    ∙ ap (λ (l : Lines). listing_of_lines unit l) (sym c.in_ok-lines.ensures)

pub loop-placed-preserved : goal.loop-placed-preserved
loop-placed-preserved c =
    let unit = typed_tree c.args.unit.now in
    let said = said_tree c.loop-placed.said in
    goes_on unit (unit_tree c.unit.result.now) said (placed_tree c.in-Some.placed) (map placed_tree c.next.new.self.rest.items) (listing_of unit c.args.text.now) c.unit.ensures
    (ap (λ (l : List Placed). said_from unit said (map placed_tree l)) (sym c.in-Some.ensures.steps.0) ∙ c.loop-placed.invariant)
    (said_tree c.add.new.self) c.in_ok-add.ensures

pub returns-in_err-add-clause-fault : goal.returns-in_err-add-clause-fault
returns-in_err-add-clause-fault c =
    let unit = typed_tree c.args.unit.now in
    let said = said_tree c.loop-placed.said in
    let p = err_from_is_err_and c.from_residual-in_err-add.result c.from_residual-in_err-add.ensures.1 in
    rw (p.1, p.2)
    (ends_faulty unit (unit_tree c.unit.result.now) said (placed_tree c.in-Some.placed) (map placed_tree c.next.new.self.rest.items) (listing_of unit c.args.text.now) c.unit.ensures
    (ap (λ (l : List Placed). said_from unit said (map placed_tree l)) (sym c.in-Some.ensures.steps.0) ∙ c.loop-placed.invariant)
    c.in_err-add.field-0.0 c.in_err-add.ensures)

pub returns-clause-listed : goal.returns-clause-listed
returns-clause-listed c =
    let unit = typed_tree c.args.unit.now in
    let said = said_tree c.loop-placed.said in
    let same = c.loop-placed.placed-iterator.rest.ok.0 in
    let none = c.in-None.ensures.steps.0 in
    let nil = nil_from_length c.loop-placed.placed-iterator.rest.items (omega (arith, same, none)) in
    record {
      said = said;
      listed_is = sym c.loop-placed.invariant ∙ ap (λ (l : List Placed). said_from unit said (map placed_tree l)) nil;
      tasks_are = refl;
      arrivals_are = refl;
    }
