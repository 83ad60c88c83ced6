use Rattle.std.proofs.Common.{rules, ◌∙◌, sym}
use Rattle.std.specs.Int.{w128}
use Rattle.std.proofs.lemmas.Int.{to_z-of_z}
use mir.Val.{SFits}
use Rattle.qs_poly.proofs.Steps.{inserted, not_inserted}
use Rattle.qs_poly.proofs.terms.insert_term.Goals as goal

pub returns-then-is_zero : goal.returns-then-is_zero
returns-then-is_zero c =
    let t = c.args.term in
    let fits : SFits w128 t.coefficient = search rules in
    let place = rw c.deref.ensures.value at (c.in-Err.ensures.place t.coefficient) in
    not_inserted c.args.terms.now.items c.in-Err.i t.coefficient t.monomial (sym (to_z-of_z w128 t.coefficient fits) ∙ c.if-is_zero.ensures) ∙ sym place

pub returns-in_ok-insert-in-Err : goal.returns-in_ok-insert-in-Err
returns-in_ok-insert-in-Err c =
    let t = c.args.term in
    let fits : SFits w128 t.coefficient = search rules in
    let place = rw c.deref.ensures.value at (c.in-Err.ensures.place t.coefficient) in
    inserted c.args.terms.now.items c.insert.new.self.items c.in-Err.i t (λ z. c.if-is_zero.ensures (to_z-of_z w128 t.coefficient fits ∙ z)) c.in_ok-insert-in-Err.ensures.items ∙ sym place
