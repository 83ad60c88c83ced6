use Rattle.std.proofs.Common.{◌≡◌, ◌++◌, length, map, take, drop}
use Rattle.qs_tac.specs.TreeOf.{instruction_tree}
use Rattle.qs_lower.specs.Leads.{follow_leads}
use Rattle.qs_lower_expressions.specs.Threads.{retargeted}
use Rattle.qs_lower.proofs.threads.retarget_all.Given as goal

abbrev pub invariant-loop-i : goal.invariant-loop-i
invariant-loop-i l =
    map instruction_tree (take l.i-index l.code)
    ++ map (retargeted (follow_leads l.leads (length l.leads))) (map instruction_tree (drop l.i-index l.code))
    ≡ map (retargeted (follow_leads l.leads (length l.leads))) (map instruction_tree l.initial.code)
