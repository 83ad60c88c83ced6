-- Code that is put behind other code.
use Rattle.std.proofs.Common.{◌≡◌, ℕ, ◌+◌, Bool, true, false, List, ◌++◌, length, map, ap, ◌∙◌, subst, append_assoc}
use Rattle.qs_tac.specs.Trees.{InstructionTree}
use Rattle.qs_tac.specs.TreeOf.{instruction_tree}
use Rattle.qs_tac.specs.declared.instruction.Instruction.{Instruction}
use Rattle.qs_lower_expressions.specs.Exits.{Exit, falls, goes}
use Rattle.qs_lower_expressions.specs.Expressions.{number_of}
use Rattle.qs_lower_expressions.specs.Plans.{Emitted, number_code}

pub emitted_then : (c d e : List Instruction) (a b : List InstructionTree) → Emitted c d a → Emitted d e b → Emitted c e (a ++ b)
emitted_then c d e a b h k = k ∙ ap (λ l. l ++ b) h ∙ append_assoc (map instruction_tree c) a b

-- the number that a test gives
pub number_emitted :
    (size : (met unmet : Bool) → ℕ) (test : (met unmet : Exit) → (t at : ℕ) → List InstructionTree) (x t : ℕ) (c d e : List Instruction) (met unmet end : ℕ)
    → Emitted c d (test (falls met) (goes unmet) t (length c)) → Emitted d e (number_code x end)
    → met ≡ length c + size true false → unmet ≡ met + 2 → end ≡ unmet + 1 → Emitted c e (number_of size test x t (length c))
number_emitted size test x t c d e met unmet end h k m u n =
    subst (λ (i : ℕ). Emitted c e (test (falls i) (goes (i + 2)) t (length c) ++ number_code x (i + 2 + 1))) m
    (subst (λ (j : ℕ). Emitted c e (test (falls met) (goes j) t (length c) ++ number_code x (j + 1))) u
    (subst (λ (i : ℕ). Emitted c e (test (falls met) (goes unmet) t (length c) ++ number_code x i)) n
    (emitted_then c d e (test (falls met) (goes unmet) t (length c)) (number_code x end) h k)))
