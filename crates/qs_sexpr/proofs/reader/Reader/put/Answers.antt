use Rattle.std.proofs.Common.{arith, ◌∷◌, [], ◌++◌, sym, ◌∙◌, List, ap, length, length-append}
use Rattle.qs_sexpr.specs.declared.node.Node.{Node}
use Rattle.qs_sexpr.proofs.NodeLaws.{put_last, few_nodes}
use Rattle.qs_sexpr.proofs.reader.Reader.put.Goals as goal

pub overflow_add-self : goal.overflow_add-self
overflow_add-self c =
    let r = c.requires in
    let h = few_nodes r.outer r.done in
    let e = ap (λ (xs : List Node). length xs) r.holds.nodes_are in
    omega (arith, h, e, r.holds.parts_are, r.small)

pub returns-clause-puts : goal.returns-clause-puts
returns-clause-puts c = λ outer done s h e. record {
  nodes_are = c.in_ok-push.ensures.items ∙ (ap (λ (ns : List Node). c.args.self.now.nodes.items ++ ns) (sym e) ∙ put_last outer done c.args.self.now.nodes.items s h.nodes_are);
  lists_are = h.lists_are;
  parts_are = let l = length-append done (s ∷ []) in omega (arith, h.parts_are, l);
}
