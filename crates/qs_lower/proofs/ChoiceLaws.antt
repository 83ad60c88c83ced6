-- The code that chooses the part of a switch, label by label.
use Rattle.std.proofs.Common.{◌≡◌, ℕ, suc, ◌+◌, ◌<◌, Bool, true, false, List, [], ◌∷◌, ◌++◌, length, get_or, drop, refl, sym, ap, ◌∙◌, append_assoc}
use Rattle.qs_core.specs.declared.labels.CoreLabel.{CoreLabel}
use Rattle.qs_core.specs.declared.labels.CoreLabel.TheVariants.{Case, Default}
use Rattle.qs_core.proofs.LabelLaws.{label_front}
use Rattle.qs_tac.specs.Trees.{InstructionTree}
use Rattle.qs_tac.specs.declared.operands.Operand.{Operand}
use Rattle.qs_lower_expressions.specs.Expressions.{ExprCode, operand_of}
use Rattle.qs_lower.specs.Choices.{label_code, label_count, case_code, case_count, is_asked, asked_size, asked_code, choice_size, choice_code}
use Rattle.qs_lower_expressions.proofs.SizeLaws.{both, one_more, Sized, code_length}

-- ---- in a loop over labels

pub count_at : (labels : List CoreLabel) (i : ℕ) (x : CoreLabel) → i < length labels → x ≡ get_or labels i x → case_count (drop i labels) ≡ label_count x + case_count (drop (suc i) labels)
count_at labels i x h is = ap case_count (label_front labels i x h is)

pub code_at :
    (o : Operand) (places : List ℕ) (labels : List CoreLabel) (i : ℕ) (x : CoreLabel) → i < length labels → x ≡ get_or labels i x
    → (code : List InstructionTree) → (code ++ label_code o x places) ++ case_code o (drop (suc i) labels) places ≡ code ++ case_code o (drop i labels) places
code_at o places labels i x h is code =
    append_assoc code (label_code o x places) (case_code o (drop (suc i) labels) places)
    ∙ ap (λ (l : List InstructionTree). code ++ l) (sym (ap (λ (ls : List CoreLabel). case_code o ls places) (label_front labels i x h is)))

-- ---- how long the code is

label_length : (o : Operand) (x : CoreLabel) (places : List ℕ) → length (label_code o x places) ≡ label_count x
label_length o (Case n part) places = refl
label_length o (Default part) places = refl

pub case_length : (o : Operand) (labels : List CoreLabel) (places : List ℕ) → length (case_code o labels places) ≡ case_count labels
case_length o [] places = refl
case_length o (x ∷ labels) places = both _ _ _ _ (label_length o x places) (case_length o labels places)

asked_length : (b : Bool) (o : Operand) (to : ℕ) → length (asked_code b o to) ≡ asked_size b
asked_length true o to = refl
asked_length false o to = refl

pub choice_length : (t : ℕ) (e : ExprCode) (labels : List CoreLabel) (places : List ℕ) (other at : ℕ) → Sized e → length (choice_code t e labels places other at) ≡ choice_size e labels
choice_length t e labels places other at h =
    both _ _ _ _ (code_length e h.into t at)
    (both _ _ _ _ (case_length (operand_of e t) labels places) (one_more _ _ _ (asked_length (is_asked labels) (operand_of e t) other)))
