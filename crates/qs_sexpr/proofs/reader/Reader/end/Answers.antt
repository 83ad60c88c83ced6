use Rattle.std.proofs.Common.{arith, ◌∙◌, refl, ap}
use Rattle.qs_sexpr.specs.declared.node.Node.{Node}
use Rattle.qs_sexpr.proofs.NodeLaws.{within, ends, closes}
use Rattle.qs_sexpr.proofs.reader.Reader.end.Goals as goal

pub overflow_sub-size : goal.overflow_sub-size
overflow_sub-size c =
    let r = c.requires in
    let h = within r.outer r.done c.args.self.now.nodes.items c.args.self.now.lists.items c.pop.new.self.items c.in-Some.open r.holds.nodes_are r.holds.lists_are c.in-Some.ensures.items in
    omega (arith, h.0, c.len.ensures, c.args.self.now.nodes.ok.0)

pub overflow_sub-size-in-Some : goal.overflow_sub-size-in-Some
overflow_sub-size-in-Some c =
    let r = c.requires in
    let h = within r.outer r.done c.args.self.now.nodes.items c.args.self.now.lists.items c.pop.new.self.items c.in-Some.open r.holds.nodes_are r.holds.lists_are c.in-Some.ensures.items in
    omega (arith, h.0, c.len.ensures, c.args.self.now.nodes.ok.0)

pub index-requires : goal.index-requires
index-requires c =
    let r = c.requires in
    let h = within r.outer r.done c.args.self.now.nodes.items c.args.self.now.lists.items c.pop.new.self.items c.in-Some.open r.holds.nodes_are r.holds.lists_are c.in-Some.ensures.items in
    omega (arith, h.0, c.args.self.now.nodes.ok.0)

pub index_mut-requires : goal.index_mut-requires
index_mut-requires c =
    let r = c.requires in
    let h = within r.outer r.done c.args.self.now.nodes.items c.args.self.now.lists.items c.pop.new.self.items c.in-Some.open r.holds.nodes_are r.holds.lists_are c.in-Some.ensures.items in
    omega (arith, h.0, c.args.self.now.nodes.ok.0)

pub overflow_add-self : goal.overflow_add-self
overflow_add-self c =
    let r = c.requires in
    let h = within r.outer r.done c.args.self.now.nodes.items c.args.self.now.lists.items c.pop.new.self.items c.in-Some.open r.holds.nodes_are r.holds.lists_are c.in-Some.ensures.items in
    omega (arith, h.0, h.1, r.small)

pub returns-in-Some-clause-ends : goal.returns-in-Some-clause-ends
returns-in-Some-clause-ends c = λ outer done h.
    let x = ends outer done c.args.self.now.nodes.items c.args.self.now.lists.items c.pop.new.self.items c.in-Some.open h.nodes_are h.lists_are c.in-Some.ensures.items in
    closes outer done c.args.self.now.nodes.items c.in-Some.open c.pop.new.self.items _ c.index.result.now.at c.args.self.now.parts c.len.result c.index.result.now x refl h.parts_are (c.len.ensures ∙ c.args.self.now.nodes.ok.0) (ap (λ (x : Node). x.at) c.index.ensures) refl refl
