use Rattle.std.proofs.Common.{◌≡◌, drop}
use Rattle.qs_entail.specs.Faults.{definition}
use Rattle.qs_entail.proofs.unfolding.defined.Given as goal

-- no definition so far has the name
abbrev pub invariant-loop-define : goal.invariant-loop-define
invariant-loop-define l = definition l.defines l.name ≡ definition (drop l.define-index l.defines) l.name
