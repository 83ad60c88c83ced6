-- Where code goes on, and the jumps and branches that take it there. No jump is made to what follows anyway.
use Rattle.std.specs.Prelude.{ℕ, Bool, true, false, List, [], ◌∷◌}
use Rattle.qs_memory.specs.declared.operation.Comparison.{Comparison}
use Rattle.qs_memory.specs.declared.operation.Comparison.TheVariants as comparisons
use Rattle.qs_tac.specs.Trees.{InstructionTree, jump, branch}
use Rattle.qs_tac.specs.declared.operands.Condition.{Condition}
use Rattle.qs_tac.specs.declared.operands.Condition.TheVariants.{NotZero, Zero, Compare, ComparePointers}

-- the place is where jumps go, and where the code goes on that stands behind
pub data Exit : Type 0 where
  -- what is behind the code comes next
  falls : (place : ℕ) → Exit
  goes : (place : ℕ) → Exit

abbrev pub is_fall : Exit → Bool
is_fall (falls p) = true
is_fall (goes p) = false

abbrev pub place_of : Exit → ℕ
place_of (falls p) = p
place_of (goes p) = p

-- the same exit, of a part that doesn't stand at the end of the code
abbrev pub settled : Exit → Exit
settled exit = goes (place_of exit)

-- ---- jumps

abbrev pub exit_size : (is_fall : Bool) → ℕ
exit_size true = 0
exit_size false = 1

abbrev pub exit_code : Exit → List InstructionTree
exit_code (falls p) = []
exit_code (goes p) = jump p ∷ []

-- ---- branches

abbrev pub opposite_comparison : Comparison → Comparison
opposite_comparison comparisons.Less = comparisons.GreaterOrEqual
opposite_comparison comparisons.LessOrEqual = comparisons.Greater
opposite_comparison comparisons.Greater = comparisons.LessOrEqual
opposite_comparison comparisons.GreaterOrEqual = comparisons.Less
opposite_comparison comparisons.Equal = comparisons.NotEqual
opposite_comparison comparisons.NotEqual = comparisons.Equal

abbrev pub opposite : Condition → Condition
opposite (NotZero o) = Zero o
opposite (Zero o) = NotZero o
opposite (Compare op s o p) = Compare (opposite_comparison op) s o p
opposite (ComparePointers op o p) = ComparePointers (opposite_comparison op) o p

-- whether the exits of a condition that holds, and of one that doesn't, fall
abbrev pub branch_size : (met unmet : Bool) → ℕ
branch_size true unmet = 1
branch_size false true = 1
branch_size false false = 2

-- one branch where one of the two falls; where both do, the condition is still asked, since it may be undefined
abbrev pub branch_code : Condition → (met unmet : Exit) → List InstructionTree
branch_code c (falls y) (falls n) = branch c y ∷ []
branch_code c (falls y) (goes n) = branch (opposite c) n ∷ []
branch_code c (goes y) (falls n) = branch c y ∷ []
branch_code c (goes y) (goes n) = branch c y ∷ jump n ∷ []
