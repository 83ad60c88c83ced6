use Rattle.std.proofs.Common.{◌≡◌, length}
use Rattle.qs_prooftext_meaning.specs.Contexts.{setting_of}
use Rattle.qs_prooftext_assertions.proofs.AssertionLaws.{starts, ends, passed_out, some_left, none_left_of}
use Rattle.qs_prooftext_assertions.proofs.assertions.read_nodes.Goals as goal

pub trees-init : goal.trees-init
trees-init c = λ s h.
    starts (setting_of c.args.context) c.args.context.text.now c.args.sort c.args.nodes.now c.push.new.self.items c.new-todo.result.items c.new-out.result.items s h c.new-todo.ensures.items c.in_ok-push.ensures.items c.new-out.ensures.items

pub returns-in_err-rest : goal.returns-in_err-rest
returns-in_err-rest c = λ s h.
    passed_out _ c.from_residual-in_err-rest.result c.in_err-rest.field-0.0 _ c.from_residual-in_err-rest.ensures (c.in_err-rest.ensures.goes _ (c.trees.invariant s h) (some_left (length c.trees.rest.now) c.trees-test.ensures))

pub trees-preserved : goal.trees-preserved
trees-preserved c = λ s h. c.in_ok-rest.ensures.goes _ (c.trees.invariant s h) (some_left (length c.trees.rest.now) c.trees-test.ensures)

pub returns : goal.returns
returns c = λ s h.
    let l : length c.trees.rest.now ≡ 0 = none_left_of (length c.trees.rest.now) c.trees-test.ensures in
    ends (setting_of c.args.context) c.args.context.text.now c.trees.rest.now c.trees.todo.items c.trees.out.items _ (c.trees.invariant s h) l
