use Rattle.std.proofs.Common.{refl}
use Rattle.qs_prooftext.proofs.HeadLaws.{first_is_headed}
use Rattle.qs_prooftext.proofs.lists.first_list.Goals as goal

pub returns-in-Some-head_of : goal.returns-in-Some-head_of
returns-in-Some-head_of c = λ ss h.
    first_is_headed c.args.text.now c.args.rest.now c.in-Some.first.now c.in-Some._others.now ss c.in-List.at c.in-List.count c.in-List.parts.now c.in-Some-head_of.word.now c.in-Some-head_of.others.now _ h c.in-Some.ensures c.in-List.ensures c.in-Some-head_of.ensures refl refl c.saturating_sub.ensures refl
