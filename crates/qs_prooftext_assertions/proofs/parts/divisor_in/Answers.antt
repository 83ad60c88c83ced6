use Rattle.std.proofs.Common.{ap, sym, ◌∙◌, SFits, w64, to_z-of_z, rules}
use Rattle.qs_prooftext_assertions.specs.Flattening.{divisor_of, natural_in}
use Rattle.qs_prooftext_assertions.proofs.PartLaws.{no_second, second_stands}
use Rattle.qs_prooftext_assertions.proofs.parts.divisor_in.Goals as goal

pub returns-in_default-first_part : goal.returns-in_default-first_part
returns-in_default-first_part c = λ ss h p q e.
    no_second c.args.text.now c.args.parts.now ss p q c.in-Some.first.now c.in-Some.others.now h e c.in-Some.ensures c.in_default-first_part.ensures

pub returns-in-Number : goal.returns-in-Number
returns-in-Number c = λ ss h p q e.
    let s = second_stands c.args.text.now c.args.parts.now ss p q c.in-Some.first.now c.in-Some.others.now c.in-Some-first_part.second.now c.in-Some-first_part.behind.now h e c.in-Some.ensures c.in-Some-first_part.ensures in
    let fits : SFits w64 c.in-Number.number = search rules in
    c.natural_in.ensures ∙ (ap natural_in (to_z-of_z fits) ∙ sym (ap divisor_of (c.in-Number.ensures q s)))

pub returns-in-Symbol : goal.returns-in-Symbol
returns-in-Symbol c = λ ss h p q e.
    let s = second_stands c.args.text.now c.args.parts.now ss p q c.in-Some.first.now c.in-Some.others.now c.in-Some-first_part.second.now c.in-Some-first_part.behind.now h e c.in-Some.ensures c.in-Some-first_part.ensures in
    sym (ap divisor_of (c.in-Symbol.ensures q s))

pub returns-in-List : goal.returns-in-List
returns-in-List c = λ ss h p q e.
    let s = second_stands c.args.text.now c.args.parts.now ss p q c.in-Some.first.now c.in-Some.others.now c.in-Some-first_part.second.now c.in-Some-first_part.behind.now h e c.in-Some.ensures c.in-Some-first_part.ensures in
    let l = c.in-List.ensures q s in
    sym (ap divisor_of l.same)
