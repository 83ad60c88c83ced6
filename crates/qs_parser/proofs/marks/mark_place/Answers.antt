use Rattle.std.proofs.Common.{◌≡◌, ◌<◌, ◌≤◌, length, get_or, slice_set, sym, ap, ◌∙◌, rules, arith}
use Rattle.std.proofs.lemmas.Bool.Decides.{nat_tests}
use Rattle.qs_parser_grammar.specs.ParseMarked.{also}
use Rattle.qs_parser.proofs.PlaceLaws.{one_set, beyond}
use Rattle.qs_parser.proofs.marks.mark_place.Goals as goal

pub returns-then-place-tokens : goal.returns-then-place-tokens
returns-then-place-tokens c =
    let there : c.args.place < length c.args.tokens.now = grind (arith, nat_tests, c.if-place-tokens.true) in
    let is : c.mark_token.new.token ≡ also c.args.name.now (get_or c.args.tokens.now c.args.place c.index-tokens-place.result) = search rules in
    ap (slice_set c.args.tokens.now c.args.place) is ∙ one_set c.args.name.now c.args.place c.args.tokens.now c.index-tokens-place.result there

pub returns-else-place-tokens : goal.returns-else-place-tokens
returns-else-place-tokens c =
    let behind : length c.args.tokens.now ≤ c.args.place = grind (arith, nat_tests, c.if-place-tokens.false) in
    sym (beyond c.args.name.now c.args.place c.args.tokens.now behind)
