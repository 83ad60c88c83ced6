use Rattle.std.proofs.Common.{◌<◌, ◌≤◌, ◌-◌, ◌^◌, ℕ, length, get_or, arith}
use Rattle.std.proofs.lemmas.Bool.Decides.{nat_tests}
use Rattle.qs_syntax_vocabulary.specs.declared.tokens.Token.{Token}
use Rattle.qs_syntax_vocabulary.specs.declared.tokens.TokenKind.TheVariants as kinds
use Rattle.qs_lexer.proofs.TerminalLaws.{number_low}
use Rattle.qs_lexer.proofs.TokenLaws.{tokens_of}
use Rattle.qs_parser.proofs.parse.are_few.Goals as goal

pub returns : goal.returns
returns c =
    let some : 0 < length c.args.tokens.now = grind (arith, nat_tests, c.is_empty.ensures, c.if-is_empty.false) in
    let last : ℕ = length c.args.tokens.now - 1 in
    let inside : last < length c.args.tokens.now = omega (arith, some) in
    let none : Token = record { kind = kinds.Name; start = 0; end = 0 } in
    let low : last ≤ (get_or c.args.tokens.now last none).start = number_low c.args.text.now c.args.tokens.now c.requires last none inside in
    let long : (get_or c.args.tokens.now last none).start < (get_or c.args.tokens.now last none).end = (tokens_of c.args.text.now c.args.tokens.now c.requires last none inside).some in
    let fits : (get_or c.args.tokens.now last none).end < 2 ^ 32 = c.fits.ensures in
    omega (arith, low, long, fits)
