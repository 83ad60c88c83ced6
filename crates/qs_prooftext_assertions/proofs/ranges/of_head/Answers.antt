use Rattle.std.proofs.Common.{sym, ◌∙◌}
use Rattle.qs_prooftext_meaning.specs.Contexts.{setting_of}
use Rattle.qs_prooftext_assertions.proofs.RangeLaws.{head_gives}
use Rattle.qs_prooftext_assertions.proofs.ranges.of_head.Goals as goal

pub returns-in-Some : goal.returns-in-Some
returns-in-Some c = λ ss h k.
    head_gives (setting_of c.args.context) c.args.at c.args.word.now c.in-Some.known ss c.of_list.result (sym c.range_word.ensures ∙ c.in-Some.is) (c.of_list.ensures ss h k)
