-- The first definition that is out of order.
use Rattle.std.proofs.Common.{◌≡◌, ℕ, ◌+◌, ◌<◌, Bool, true, false, if◌then◌else◌, List, [], ◌∷◌, ◌++◌, length, get_or, Some, arith}
use Rattle.std.proofs.lemmas.List.{length-append}
use Rattle.std.proofs.lemmas.Option.{slice_get-get_or}
use Rattle.qs_assert.specs.Order.{names_known, is_among, order_fault_behind, order_fault}
use Rattle.qs_assert.specs.declared.define.Define.{Define}
use Rattle.qs_certify.specs.Certification.{IsMisplaced}

order_behind : (ds earlier : List Define) (at : ℕ) → order_fault_behind ds earlier ≡ Some at → at < length earlier + length ds
order_behind [] earlier at h = cc
order_behind (d ∷ ds) earlier at h = by (names_known d.body (is_among earlier)) h (order_behind ds (earlier ++ d ∷ []) at)
  where
    by :
        (b : Bool) → (if b then order_fault_behind ds (earlier ++ d ∷ []) else Some (length earlier)) ≡ Some at
        → (order_fault_behind ds (earlier ++ d ∷ []) ≡ Some at → at < length (earlier ++ d ∷ []) + length ds)
        → at < length earlier + length (d ∷ ds)
    by true h more =
        let below = more h in
        let longer : length (earlier ++ d ∷ []) ≡ length earlier + 1 = length-append earlier (d ∷ []) in
        omega arith
    by false h more = let same : length earlier ≡ at = cc in omega arith

pub order_within : (ds : List Define) (at : ℕ) → order_fault ds ≡ Some at → at < length ds
order_within ds at h = let below = order_behind ds [] at h in omega arith

pub is_misplaced : (ds : List Define) (at : ℕ) (d : Define) (name : List ℕ) → order_fault ds ≡ Some at → name ≡ (get_or ds at d).name → IsMisplaced ds name
is_misplaced ds at d name h is =
    record { at = at; first = h; define = get_or ds at d; stands = slice_get-get_or ds at d (order_within ds at h); is = is }

pub ruleset misplaced_definition = (order_within, is_misplaced)
