-- Counts, members by number, and the numbers of items.
use Rattle.std.proofs.Common.{◌≡◌, ◌≤◌, ◌<◌, ℕ, zero, suc, List, [], ◌∷◌, get_or, length, refl, sym, ap, arith}
use Rattle.std.specs.Prelude.{Ok, Err}
use Rattle.qs_assert.specs.Trees.{CondTree}
use Rattle.qs_entail.specs.declared.certificate.Certificate.{Certificate}
use Rattle.qs_entail.specs.Building.{breaks}
use Rattle.qs_entail.specs.Facts.{condition_at}
use Rattle.qs_entail.specs.Faults.{count_certs}
use Rattle.qs_entail.specs.View.{certs_tree}

pub certs_number : (cs : List Certificate) → count_certs (certs_tree cs) ≡ length cs
certs_number [] = refl
certs_number (c ∷ cs) = ap suc (certs_number cs)

pub condition_in : (cs : List CondTree) (i : ℕ) (d : CondTree) → i < length cs → d ≡ get_or cs i d → condition_at cs i ≡ Ok d
condition_in [] i d h e = absurd (omega arith)
condition_in (c ∷ cs) zero d h e = ap Ok (sym e)
condition_in (c ∷ cs) (suc i) d h e = condition_in cs i d (omega arith) e

pub condition_out : (cs : List CondTree) (i : ℕ) → length cs ≤ i → condition_at cs i ≡ Err breaks
condition_out [] i h = refl
condition_out (c ∷ cs) zero h = absurd (omega arith)
condition_out (c ∷ cs) (suc i) h = condition_out cs i (omega arith)
