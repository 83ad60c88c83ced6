use Rattle.std.proofs.Common.{◌≡◌, take, vec_len}
use Rattle.qs_typing_findings.proofs.scopes.Scopes.leave.Given as goal

abbrev pub invariant-loop-self : goal.invariant-loop-self
invariant-loop-self l = record {
  start : l.self.start ≡ l.initial.self.start;
  kept : take l.self.start l.self.bindings.items ≡ take l.initial.self.start l.initial.self.bindings.items;
}

abbrev pub decreases-loop-self : goal.decreases-loop-self
decreases-loop-self l = vec_len l.self.bindings
