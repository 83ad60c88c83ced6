use Rattle.std.proofs.Common.{◌≡◌, ◌<◌, ◌^◌, length, arith}
use Rattle.qs_lexer.specs.Terminals.{terminals}
use Rattle.qs_lexer.proofs.TerminalLaws.{as_many}
use Rattle.qs_parser.proofs.Top.{no_marks}
use Rattle.qs_parser.proofs.parse.unit.Goals as goal

pub unit_of-requires-clause-few : goal.unit_of-requires-clause-few
unit_of-requires-clause-few c =
    let many : length (terminals c.args.text.now 0 c.args.tokens.now) ≡ length c.args.tokens.now = as_many c.args.text.now 0 c.args.tokens.now in
    let few : length c.args.tokens.now < 2 ^ 32 = c.are_few.ensures in
    rw c.in_ok-seen.ensures.terminals (omega (arith, many, few))

pub unit_of-requires-clause-unmarked : goal.unit_of-requires-clause-unmarked
unit_of-requires-clause-unmarked c = rw c.in_ok-seen.ensures.terminals (no_marks c.args.text.now 0 c.args.tokens.now)
