use Rattle.std.proofs.Common.{inl, sym, ◌∙◌}
use Rattle.qs_prooftext_meaning.specs.Contexts.{setting_of}
use Rattle.qs_prooftext_assertions.proofs.AssertionLaws.{opens, stays_shut, behind_is}
use Rattle.qs_prooftext_assertions.proofs.assertions.open_list.Goals as goal

pub returns-in_ok-put_sorts-in-Some : goal.returns-in_ok-put_sorts-in-Some
returns-in_ok-put_sorts-in-Some c = λ place parts h k.
    opens (setting_of c.args.context) c.args.sort c.args.list.at place c.saturating_sub-behind.result c.args.list.word.now parts c.divisor_in-divisor.result c.in-Some.row c.args.todo.now.items c.put_sorts.new.todo.items c.args.out.now.items c.put_node.new.out.items
    (behind_is c.saturating_sub-behind.result c.args.list.count parts c.saturating_sub-behind.ensures k)
    (c.divisor_in-divisor.ensures parts h) (sym c.in-Some.is ∙ c.row_of_list.ensures) c.in_ok-put_node-in-Some.ensures c.in_ok-put_sorts-in-Some.ensures

pub returns-in-None : goal.returns-in-None
returns-in-None c = λ place parts h k.
    inl (stays_shut (setting_of c.args.context) c.args.sort c.args.list.at place c.saturating_sub-behind.result c.args.list.word.now parts c.divisor_in-divisor.result
    (behind_is c.saturating_sub-behind.result c.args.list.count parts c.saturating_sub-behind.ensures k)
    (c.divisor_in-divisor.ensures parts h) (sym c.in-None.is ∙ c.row_of_list.ensures))
