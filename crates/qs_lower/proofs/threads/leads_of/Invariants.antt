use Rattle.std.proofs.Common.{◌≡◌, ◌++◌, map, drop}
use Rattle.qs_tac.specs.TreeOf.{instruction_tree}
use Rattle.qs_lower.specs.Leads.{leads_of}
use Rattle.qs_lower.proofs.threads.leads_of.Given as goal

abbrev pub invariant-loop-i : goal.invariant-loop-i
invariant-loop-i l = l.all.items ++ leads_of (map instruction_tree (drop l.i-index l.code)) ≡ leads_of (map instruction_tree l.code)
