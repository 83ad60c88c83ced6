use Rattle.std.proofs.Common.{ap, length, arith}
use Rattle.std.proofs.lemmas.List.{length-map}
use Rattle.qs_tasks_list.specs.Lines.{words_of}
use Rattle.qs_tasks_list.proofs.ListLaws.{few_words, many_words}
use Rattle.qs_tasks_list.proofs.lines.line_of.Goals as goal

pub returns-in-len1 : goal.returns-in-len1
returns-in-len1 c =
    let n = simp length-map at (ap length c.in_ok-words.ensures) in
    let w = ap length c.as_slice.ensures.value in
    let below = c.in-len1.len_below in
    few_words (words_of c.args.line.now) (omega (arith, n, w, below))

pub returns-in-len2 : goal.returns-in-len2
returns-in-len2 c =
    let n = simp length-map at (ap length c.in_ok-words.ensures) in
    let w = ap length c.as_slice.ensures.value in
    let below = c.in-len2.len_below in
    few_words (words_of c.args.line.now) (omega (arith, n, w, below))

pub returns : goal.returns
returns c =
    let n = simp length-map at (ap length c.in_ok-words.ensures) in
    let w = ap length c.as_slice.ensures.value in
    let least = c.in-len5-up.len_at_least in
    many_words (words_of c.args.line.now) (omega (arith, n, w, least))
