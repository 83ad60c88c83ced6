-- A walk in code, as the definitions see it.
use Rattle.qs_typing_findings.specs.declared.walk.Walk.{Walk}
use Rattle.qs_typing_findings.specs.FoundOf.{found_tree}
use Rattle.qs_typing_findings.specs.NotedOf.{noted_tree}
use Rattle.qs_typing_findings.specs.UnitWalk.{WalkTree}

abbrev pub walk_tree : Walk → WalkTree
walk_tree w = record { found = found_tree w.found; noted = noted_tree w.noted }
