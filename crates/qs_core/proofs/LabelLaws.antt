-- Labels of a switch, one after the other.
use Rattle.std.proofs.Common.{◌≡◌, ◌<◌, ℕ, suc, List, ◌∷◌, length, get_or, drop, sym, ap, ◌∙◌}
use Rattle.std.proofs.Math.Seq.{drop-cons}
use Rattle.qs_core.specs.declared.labels.CoreLabel.{CoreLabel}
use Rattle.qs_core.specs.Statements.{default_part}

pub label_front : (labels : List CoreLabel) (i : ℕ) (x : CoreLabel) → i < length labels → x ≡ get_or labels i x → drop i labels ≡ x ∷ drop (suc i) labels
label_front labels i x h is = drop-cons labels i x h ∙ ap (λ (y : CoreLabel). y ∷ drop (suc i) labels) (sym is)

pub default_at : (labels : List CoreLabel) (i : ℕ) (x : CoreLabel) → i < length labels → x ≡ get_or labels i x → default_part (drop i labels) ≡ default_part (x ∷ drop (suc i) labels)
default_at labels i x h is = ap default_part (label_front labels i x h is)
