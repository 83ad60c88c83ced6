use Rattle.std.proofs.Common.{◌≡◌, ◌++◌, drop}
use Rattle.qs_lexer.specs.Terminals.{terminals}
use Rattle.qs_lexer.proofs.terminal_list.terminals.Given as goal

abbrev pub invariant-loop-at : goal.invariant-loop-at
invariant-loop-at l = l.list.items ++ terminals l.text l.at (drop l.at l.tokens) ≡ terminals l.text 0 l.tokens
