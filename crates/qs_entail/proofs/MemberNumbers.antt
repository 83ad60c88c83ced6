-- The member of a number, found by passing those before it.
use Rattle.std.proofs.Common.{◌≡◌, ◌-◌, ◌<◌, ℕ, zero, suc, List, [], ◌∷◌, refl, ap, ◌∙◌, arith}
use Rattle.std.specs.Prelude.{ℤ, pos, negsuc, ◌<ℤ◌, Result, Ok, Err}
use Rattle.std.proofs.lemmas.Int.{ints}
use Rattle.qs_assert.specs.Trees.{AssertionTree, AssertionTrees, assertions_of}
use Rattle.qs_base.specs.Results.{bind}
use Rattle.qs_entail.specs.Building.{Stop, breaks}
use Rattle.qs_entail.specs.Faults.{member, member_at}

-- behind the first
pub passed : (ms rest : List AssertionTree) (m : AssertionTree) (i : ℕ) → ms ≡ m ∷ rest → 0 < i → member (assertions_of ms) i ≡ member (assertions_of rest) (i - 1)
passed ms rest m zero e h = absurd (omega arith)
passed ms rest m (suc i) e h =
    let less : i ≡ suc i - 1 = omega arith in
    ap (λ (l : List AssertionTree). member (assertions_of l) (suc i)) e ∙ ap (member (assertions_of rest)) less

-- the first
pub found : (ms rest : List AssertionTree) (m : AssertionTree) (i : ℕ) → ms ≡ m ∷ rest → i ≡ 0 → member (assertions_of ms) i ≡ Ok m
found ms rest m i e h = λ z. member (assertions_of (e z)) (h z)

-- and none
pub missing : (ms : List AssertionTree) (i : ℕ) → ms ≡ [] → member (assertions_of ms) i ≡ Err breaks
missing ms i e = ap (λ (l : List AssertionTree). member (assertions_of l) i) e

pub negative : (members : AssertionTrees) (i : ℤ) → i <ℤ pos 0 → member_at members i ≡ Err breaks
negative members (pos i) h = absurd (omega (arith, ints))
negative members (negsuc i) h = refl

-- ---- members of what may be no greatest

pub among : (r : Result AssertionTrees Stop) (members : AssertionTrees) (i : ℤ) (a : Result AssertionTree Stop) → r ≡ Ok members → member_at members i ≡ a → bind r (λ members. member_at members i) ≡ a
among r members i a e h = ap (λ (r : Result AssertionTrees Stop). bind r (λ members. member_at members i)) e ∙ h

pub nowhere : (r : Result AssertionTrees Stop) (i : ℤ) → r ≡ Err breaks → bind r (λ members. member_at members i) ≡ Err breaks
nowhere r i e = ap (λ (r : Result AssertionTrees Stop). bind r (λ members. member_at members i)) e
