use Rattle.qs_tasks_list.proofs.ListLaws.{pairs_more}
use Rattle.qs_tasks_list.proofs.numbers.pairs.Goals as goal

pub pairs-preserved : goal.pairs-preserved
pairs-preserved c =
    pairs_more c.pairs.bytes.items c.push.new.self.items c.pairs.rest.now c.args.digits.now c.in-Some.byte c.in-len2-up.len_at_least c.in-Some.ensures c.in_ok-push.ensures.items c.pairs.invariant
