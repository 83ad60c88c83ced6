-- Where each instruction of some code jumps, looked up by the index.
use Rattle.std.specs.Prelude.{◌≡◌, ℕ, zero, suc, List, length, map, Option, Some, None, unwrap_or}
use Rattle.std.specs.declared.alloc.Global.{Global}
use Rattle.std.specs.declared.vec.Vec.{Vec}
use Rattle.std.specs.List.{slice_get}
use Rattle.qs_tac.specs.Trees.{InstructionTree}
use Rattle.qs_tac.specs.TreeOf.{instruction_tree}
use Rattle.qs_tac.specs.declared.instruction.Instruction.{Instruction}
use Rattle.qs_lower_expressions.specs.Threads.{leads_to, retargeted, threaded}

abbrev pub leads_of : List InstructionTree → List (Option ℕ)
leads_of code = map (λ i. leads_to (Some i)) code

abbrev pub lead_in : Option (Option ℕ) → Option ℕ
lead_in None = None
lead_in (Some lead) = lead

-- where so many jumps lead at most
abbrev pub follow_leads : List (Option ℕ) → (jumps : ℕ) → (index : ℕ) → ℕ
follow_leads leads zero i = i
follow_leads leads (suc n) i = follow_leads leads n (unwrap_or (lead_in (slice_get leads i)) i)

-- each jump goes where the jumps lead in the end
abbrev pub followed : List (Option ℕ) → InstructionTree → InstructionTree
followed leads = retargeted (follow_leads leads (length leads))

abbrev pub instruction_trees : List Instruction → List InstructionTree
instruction_trees code = map instruction_tree code

abbrev pub IsThreaded : (before after : Vec Instruction Global) → Type 0
IsThreaded before after = instruction_trees after.items ≡ threaded (instruction_trees before.items)
