use Rattle.std.proofs.Common.{inl, sym, ap, ◌∙◌, ℤ, SFits, w64, to_z-of_z, rules}
use Rattle.qs_prooftext_meaning.specs.Contexts.{setting_of}
use Rattle.qs_prooftext_assertions.specs.Walking.{number_flat}
use Rattle.qs_prooftext_assertions.proofs.AssertionLaws.{none_left, next_of, atom_goes, fails, list_shut, number_alone, number_means_so, symbol_alone, symbol_means_so, list_opens, has_parts, passed_on, number_stops, symbol_stops, list_stops}
use Rattle.qs_prooftext_assertions.proofs.assertions.next.Goals as goal

pub returns-in_default-clause-goes : goal.returns-in_default-clause-goes
returns-in_default-clause-goes c = λ due r l.
    none_left (setting_of c.args.context) c.args.context.text.now c.args.rest.now c.args.todo.now.items c.args.out.now.items due r l (sym c.args.todo.now.ok.0 ∙ c.in_default.ensures.cases.0)

pub returns-in_err-made-in-Number-clause-goes : goal.returns-in_err-made-in-Number-clause-goes
returns-in_err-made-in-Number-clause-goes c = λ due r l.
    let n = next_of (setting_of c.args.context) c.args.context.text.now c.args.rest.now c.in-Some-first_part.tree.now c.in-Some-first_part._others.now c.args.todo.now.items c.pop.new.self.items c.in-Some.sort c.args.out.now.items due r c.in-Some-first_part.ensures c.in-Some.ensures.items in
    let p = c.in-Number.ensures n.tree n.stands in
    let fits : SFits w64 c.in-Number.value = search rules in
    passed_on (setting_of c.args.context) c.args.context.text.now c.from_residual.result c.in_err-made-in-Number.field-0.0 c.pop.new.self.items c.args.out.now.items due c.from_residual.ensures
    (number_stops (setting_of c.args.context) c.args.context.text.now c.args.rest.now c.in-Some-first_part.tree.now c.in-Some-first_part._others.now c.pop.new.self.items c.in-Some.sort c.args.out.now.items due c.in_err-made-in-Number.field-0.0 c.in-Number.at c.in-Number.value _ n p (to_z-of_z fits) c.in_err-made-in-Number.ensures)

pub returns-in_err-made-in-Symbol-clause-goes : goal.returns-in_err-made-in-Symbol-clause-goes
returns-in_err-made-in-Symbol-clause-goes c = λ due r l.
    let n = next_of (setting_of c.args.context) c.args.context.text.now c.args.rest.now c.in-Some-first_part.tree.now c.in-Some-first_part._others.now c.args.todo.now.items c.pop.new.self.items c.in-Some.sort c.args.out.now.items due r c.in-Some-first_part.ensures c.in-Some.ensures.items in
    let p = c.in-Symbol.ensures n.tree n.stands in
    passed_on (setting_of c.args.context) c.args.context.text.now c.from_residual-in_err-made-in-Symbol.result c.in_err-made-in-Symbol.field-0.0 c.pop.new.self.items c.args.out.now.items due c.from_residual-in_err-made-in-Symbol.ensures
    (symbol_stops (setting_of c.args.context) c.args.context.text.now c.args.rest.now c.in-Some-first_part.tree.now c.in-Some-first_part._others.now c.pop.new.self.items c.in-Some.sort c.args.out.now.items due c.in_err-made-in-Symbol.field-0.0 c.in-Symbol.at c.in-Symbol.word.now n p c.in_err-made-in-Symbol.ensures)

pub returns-in_default-head_of-clause-goes : goal.returns-in_default-head_of-clause-goes
returns-in_default-head_of-clause-goes c = λ due r l.
    let n = next_of (setting_of c.args.context) c.args.context.text.now c.args.rest.now c.in-Some-first_part.tree.now c.in-Some-first_part._others.now c.args.todo.now.items c.pop.new.self.items c.in-Some.sort c.args.out.now.items due r c.in-Some-first_part.ensures c.in-Some.ensures.items in
    let p = c.in-List.ensures n.tree n.stands in
    inl (fails (setting_of c.args.context) c.args.context.text.now c.args.rest.now c.in-Some-first_part.tree.now c.in-Some-first_part._others.now c.pop.new.self.items c.in-Some.sort c.args.out.now.items due _ n (list_shut (setting_of c.args.context) c.in-Some.sort c.args.context.text.now n.tree c.in-List.at c.in-List.count c.in-List.parts.now p (c.in_default-head_of.ensures p.parts p.stand)))

pub returns-in_err-open_list-in-List-clause-goes : goal.returns-in_err-open_list-in-List-clause-goes
returns-in_err-open_list-in-List-clause-goes c = λ due r l.
    let n = next_of (setting_of c.args.context) c.args.context.text.now c.args.rest.now c.in-Some-first_part.tree.now c.in-Some-first_part._others.now c.args.todo.now.items c.pop.new.self.items c.in-Some.sort c.args.out.now.items due r c.in-Some-first_part.ensures c.in-Some.ensures.items in
    let p = c.in-List.ensures n.tree n.stands in
    let h = c.in-Some-head_of.ensures p.parts p.stand in
    passed_on (setting_of c.args.context) c.args.context.text.now c.from_residual-in_err-open_list-in-List.result c.in_err-open_list-in-List.field-0.0 c.open_list.new.todo.items c.open_list.new.out.items due c.from_residual-in_err-open_list-in-List.ensures
    (list_stops (setting_of c.args.context) c.args.context.text.now c.args.rest.now c.in-Some-first_part.tree.now c.in-Some-first_part._others.now c.pop.new.self.items c.in-Some.sort c.args.out.now.items due c.in_err-open_list-in-List.field-0.0 c.in-List.at c.in-List.count c.in-List.parts.now c.in-Some-head_of.word.now c.in-Some-head_of.others.now n p h
    (c.in_err-open_list-in-List.ensures h.place h.parts h.stand (has_parts c.args.context.text.now n.tree c.in-List.at c.in-List.count c.in-List.parts.now c.in-Some-head_of.word.now c.in-Some-head_of.others.now p h)))

pub returns-in_ok-put_node-in-Number-clause-goes : goal.returns-in_ok-put_node-in-Number-clause-goes
returns-in_ok-put_node-in-Number-clause-goes c = λ due r l.
    let fits : SFits w64 c.in-Number.value = search rules in
    let n = next_of (setting_of c.args.context) c.args.context.text.now c.args.rest.now c.in-Some-first_part.tree.now c.in-Some-first_part._others.now c.args.todo.now.items c.pop.new.self.items c.in-Some.sort c.args.out.now.items due r c.in-Some-first_part.ensures c.in-Some.ensures.items in
    let p = c.in-Number.ensures n.tree n.stands in
    atom_goes (setting_of c.args.context) c.args.context.text.now c.args.rest.now c.in-Some-first_part.tree.now c.in-Some-first_part._others.now c.behind.result.now c.pop.new.self.items c.in-Some.sort c.args.out.now.items c.put_node.new.out.items _ due c.in-Some-first_part.ensures n (number_alone c.args.context.text.now c.in-Some-first_part.tree.now n.tree c.in-Number.at c.in-Number.value n.stands p) c.behind.ensures (number_means_so (setting_of c.args.context) c.in-Some.sort n.tree c.in-Number.at c.in-Number.value _ p (ap (λ (z : ℤ). number_flat c.in-Some.sort c.in-Number.at z) (sym (to_z-of_z fits)) ∙ c.in_ok-made-in-Number.ensures)) c.in_ok-put_node-in-Number.ensures

pub returns-in_ok-put_node-in-Symbol-clause-goes : goal.returns-in_ok-put_node-in-Symbol-clause-goes
returns-in_ok-put_node-in-Symbol-clause-goes c = λ due r l.
    let n = next_of (setting_of c.args.context) c.args.context.text.now c.args.rest.now c.in-Some-first_part.tree.now c.in-Some-first_part._others.now c.args.todo.now.items c.pop.new.self.items c.in-Some.sort c.args.out.now.items due r c.in-Some-first_part.ensures c.in-Some.ensures.items in
    let p = c.in-Symbol.ensures n.tree n.stands in
    atom_goes (setting_of c.args.context) c.args.context.text.now c.args.rest.now c.in-Some-first_part.tree.now c.in-Some-first_part._others.now c.behind-in-Symbol.result.now c.pop.new.self.items c.in-Some.sort c.args.out.now.items c.put_node-in-Symbol.new.out.items _ due c.in-Some-first_part.ensures n (symbol_alone c.args.context.text.now c.in-Some-first_part.tree.now n.tree c.in-Symbol.at c.in-Symbol.word.now n.stands p) c.behind-in-Symbol.ensures (symbol_means_so (setting_of c.args.context) c.in-Some.sort n.tree c.in-Symbol.at c.in-Symbol.word.now _ p c.in_ok-made-in-Symbol.ensures) c.in_ok-put_node-in-Symbol.ensures

pub returns-in_ok-open_list-in-List-clause-goes : goal.returns-in_ok-open_list-in-List-clause-goes
returns-in_ok-open_list-in-List-clause-goes c = λ due r l.
    let n = next_of (setting_of c.args.context) c.args.context.text.now c.args.rest.now c.in-Some-first_part.tree.now c.in-Some-first_part._others.now c.args.todo.now.items c.pop.new.self.items c.in-Some.sort c.args.out.now.items due r c.in-Some-first_part.ensures c.in-Some.ensures.items in
    let p = c.in-List.ensures n.tree n.stands in
    let h = c.in-Some-head_of.ensures p.parts p.stand in
    list_opens (setting_of c.args.context) c.args.context.text.now c.args.rest.now c.in-Some-first_part.tree.now c.in-Some-first_part._others.now c.behind-in-List.result.now c.pop.new.self.items c.open_list.new.todo.items c.in-Some.sort c.args.out.now.items c.open_list.new.out.items due c.in-List.at c.in-List.count c.in-List.parts.now c.in-Some-head_of.word.now c.in-Some-head_of.others.now n p h c.in-Some-first_part.ensures c.behind-in-List.ensures
    (c.in_ok-open_list-in-List.ensures h.place h.parts h.stand (has_parts c.args.context.text.now n.tree c.in-List.at c.in-List.count c.in-List.parts.now c.in-Some-head_of.word.now c.in-Some-head_of.others.now p h))
