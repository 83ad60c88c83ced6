use Rattle.std.proofs.Common.{◌≡◌, drop}
use Rattle.qs_triples.specs.Views.{entry_in}
use Rattle.qs_triples.proofs.calls.entry_in.Given as goal

-- none so far is of the function
abbrev pub invariant-loop-entry : goal.invariant-loop-entry
invariant-loop-entry l = entry_in l.entries l.g.0 ≡ entry_in (drop l.entry-index l.entries) l.g.0
