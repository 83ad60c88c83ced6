use Rattle.qs_prooftext_meaning.specs.Contexts.{setting_of}
use Rattle.qs_prooftext_assertions.proofs.AssertionLaws.{behind_is, has_parts}
use Rattle.qs_prooftext_assertions.proofs.RangeLaws.{list_gives, symbol_gives}
use Rattle.qs_prooftext_assertions.proofs.ranges.read_range.Goals as goal

pub returns-in-Symbol : goal.returns-in-Symbol
returns-in-Symbol c = λ s h.
    symbol_gives (setting_of c.args.context) s c.in-Symbol.at c.in-Symbol.word.now c.find_variable.result c.of_variable.result (c.in-Symbol.ensures s h) c.find_variable.ensures c.of_variable.ensures

pub returns-in-Some : goal.returns-in-Some
returns-in-Some c = λ s h.
    let p = c.in-List.ensures s h in
    let q = c.in-Some.ensures p.parts p.stand in
    list_gives (setting_of c.args.context) c.args.context.text.now s c.in-List.at c.in-List.count c.in-List.parts.now c.in-Some.word.now c.in-Some.others.now c.of_head.result p q
    (c.of_head.ensures q.parts q.stand (behind_is c.saturating_sub.result c.in-List.count q.parts c.saturating_sub.ensures (has_parts c.args.context.text.now s c.in-List.at c.in-List.count c.in-List.parts.now c.in-Some.word.now c.in-Some.others.now p q)))
