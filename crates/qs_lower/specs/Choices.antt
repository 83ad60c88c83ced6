-- The code that chooses the part of a switch.
use Rattle.std.specs.Prelude.{ℕ, ◌+◌, ◌==◌, Bool, true, false, List, [], ◌∷◌, ◌++◌, Option, Some, None, unwrap_or}
use Rattle.std.specs.List.{slice_get}
use Rattle.qs_memory.specs.declared.operation.Signedness.TheVariants.{Signed}
use Rattle.qs_memory.specs.declared.operation.Comparison.TheVariants.{Equal}
use Rattle.qs_core.specs.declared.labels.CoreLabel.{CoreLabel}
use Rattle.qs_core.specs.declared.labels.CoreLabel.TheVariants.{Case, Default}
use Rattle.qs_tac.specs.Trees.{InstructionTree, jump, branch}
use Rattle.qs_tac.specs.declared.operands.Operand.{Operand}
use Rattle.qs_tac.specs.declared.operands.Operand.TheVariants.{Constant}
use Rattle.qs_tac.specs.declared.operands.Condition.TheVariants.{Compare}
use Rattle.qs_lower_expressions.specs.Expressions.{ExprCode, size_of, code_of, operand_of}

-- ---- places, where jumps to the parts go

abbrev pub place_in : List ℕ → (part : ℕ) → ℕ
place_in places part = unwrap_or (slice_get places part) 0

-- to `default`, or behind the switch
abbrev pub other_place : Option ℕ → (places : List ℕ) → (behind : ℕ) → ℕ
other_place None places behind = behind
other_place (Some part) places behind = place_in places part

-- ---- cases

abbrev pub if_equal : Operand → (value to : ℕ) → InstructionTree
if_equal o n to = branch (Compare Equal Signed o (Constant n)) to

-- of a label of its own
abbrev pub label_code : Operand → CoreLabel → (places : List ℕ) → List InstructionTree
label_code o (Case n part) places = if_equal o n (place_in places part) ∷ []
label_code o (Default part) places = []

abbrev pub label_count : CoreLabel → ℕ
label_count (Case n part) = 1
label_count (Default part) = 0

-- 6.8.4.2p5: to the part of the first case that has the value of the operand
abbrev pub case_code : Operand → List CoreLabel → (places : List ℕ) → List InstructionTree
case_code o [] places = []
case_code o (label ∷ labels) places = label_code o label places ++ case_code o labels places

abbrev pub case_count : List CoreLabel → ℕ
case_count [] = 0
case_count (label ∷ labels) = label_count label + case_count labels

-- without a case the operand is still asked, since it may be undefined
abbrev pub is_asked : List CoreLabel → Bool
is_asked labels = case_count labels == 0

abbrev pub asked_size : (is_asked : Bool) → ℕ
asked_size true = 1
asked_size false = 0

abbrev pub asked_code : (is_asked : Bool) → Operand → (to : ℕ) → List InstructionTree
asked_code true o to = if_equal o 0 to ∷ []
asked_code false o to = []

-- ---- the operand, the cases, and a jump where none has its value

abbrev pub choice_size : ExprCode → List CoreLabel → ℕ
choice_size e labels = size_of e + (case_count labels + (asked_size (is_asked labels) + 1))

abbrev pub choice_code : (t : ℕ) → ExprCode → List CoreLabel → (places : List ℕ) → (other at : ℕ) → List InstructionTree
choice_code t e labels places other at =
    let o = operand_of e t in
    code_of e t at ++ (case_code o labels places ++ (asked_code (is_asked labels) o other ++ jump other ∷ []))
