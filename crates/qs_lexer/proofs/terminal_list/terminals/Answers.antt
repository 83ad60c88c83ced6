use Rattle.std.proofs.Common.{arith}
use Rattle.qs_lexer.proofs.TerminalLaws.{ended, number_low, seen_items}
use Rattle.qs_lexer.proofs.TokenLaws.{tokens_of}
use Rattle.qs_syntax_vocabulary.specs.declared.tokens.TokenKind.TheVariants as kinds
use Rattle.qs_lexer.proofs.terminal_list.terminals.Goals as goal

pub terminal-requires-clause-numbered : goal.terminal-requires-clause-numbered
terminal-requires-clause-numbered c = number_low c.args.text.now c.args.tokens.now c.requires.tokens_of c.loop-at.at _ c.loop-at-test.true

pub terminal-requires-clause-ordered : goal.terminal-requires-clause-ordered
terminal-requires-clause-ordered c =
    let t = tokens_of c.args.text.now c.args.tokens.now c.requires.tokens_of c.loop-at.at (record { kind = kinds.Name; start = 0; end = 0 }) c.loop-at-test.true in
    omega (arith, t.some)

pub terminal-requires-clause-within : goal.terminal-requires-clause-within
terminal-requires-clause-within c =
    (tokens_of c.args.text.now c.args.tokens.now c.requires.tokens_of c.loop-at.at (record { kind = kinds.Name; start = 0; end = 0 }) c.loop-at-test.true).within

pub returns-clause-are_well_formed : goal.returns-clause-are_well_formed
returns-clause-are_well_formed c =
    seen_items c.args.text.now c.args.tokens.now c.loop-at.list.items c.requires.tokens_of c.type_inv.text
    (ended c.args.text.now c.args.tokens.now c.loop-at.list.items c.loop-at.at c.loop-at-test.false c.loop-at.invariant)
