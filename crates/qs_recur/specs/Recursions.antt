-- What is derived of a unit, and why there may be none.
use Rattle.std.specs.Prelude.{◌≡◌, ◌≢◌, ◌⊎◌, ℕ, not, true, false, List, [], length, filter, map, is_some, Some, option_map}
use Rattle.qs_assert.specs.Order.{IsInOrder}
use Rattle.qs_core.specs.CallGraph.{below, is_member, IsCircle}
use Rattle.qs_core.specs.Trees.{CoreUnitTree}
use Rattle.qs_triples.specs.Derivations.{EntryTree, ProofsTree, entry_of, spec_of}
use Rattle.qs_triples.specs.Entries.{IsDerived, has_entry}
use Rattle.qs_callgraph.specs.Orders.{CalleesFirst}
use Rattle.qs_recur.specs.Needs.{Preconditions, AreNeeds, helpers, balanced}

-- ---- which functions have an entry

-- the preconditions of the entries
abbrev pub pres_of : ProofsTree → Preconditions
pres_of proofs f = option_map (λ s. s.pre) (spec_of proofs f)

-- those with an entry are exactly those that count or pass, each with its precondition
pub record HasEntries (u : CoreUnitTree) (proofs : ProofsTree) : Type 0 where
  pub needs : AreNeeds u (pres_of proofs)
  pub specs : (f : ℕ) → spec_of proofs f ≡ option_map balanced (pres_of proofs f)
  -- each once, callees before callers
  pub order : CalleesFirst (helpers u) (λ g. false) [] (map (λ e. e.function) proofs.functions)

-- ---- derived entries

-- proofs in which the entries of a file stand, whatever else does
pub record Stand (given proofs : ProofsTree) : Type 0 where
  pub in_order : IsInOrder proofs.defines
  pub kept : (f : ℕ) (e : EntryTree) → entry_of given f ≡ Some e → spec_of proofs f ≡ Some e.spec

-- each entry is derived, in the file alone and in all that it is filled to
abbrev pub AreDerived : CoreUnitTree → (given : ProofsTree) → Type 0
AreDerived u given =
    (proofs : ProofsTree) (f : ℕ) (e : EntryTree) → Stand given proofs → entry_of given f ≡ Some e → IsDerived u proofs e

-- ---- cycles

-- The cycle is f that calls itself, and counts.
pub record CountsAlone (u : CoreUnitTree) (pres : Preconditions) (fs : List ℕ) : Type 0 where
  pub function : ℕ
  pub alone : (g : ℕ) → is_member g fs ≡ true → g ≡ function
  pub counts : is_some (pres function) ≡ true

-- each cycle is one counting function, which calls itself
abbrev pub OnlyCountingCycle : CoreUnitTree → Preconditions → Type 0
OnlyCountingCycle u pres = (fs : List ℕ) → IsCircle u fs → CountsAlone u pres fs

-- two of these differ
pub record HasTwo (fs : List ℕ) : Type 0 where
  pub first : ℕ
  pub second : ℕ
  pub one : is_member first fs ≡ true
  pub other : is_member second fs ≡ true
  pub differ : first ≢ second

-- A cycle that has no derivation: of several functions, or of one that calls itself and doesn't count.
pub record IsUncounted (u : CoreUnitTree) (fs : List ℕ) : Type 0 where
  pub circle : IsCircle u fs
  pub uncounted : HasTwo fs ⊎ ((pres : Preconditions) → AreNeeds u pres → CountsAlone u pres fs → ⊥)

-- ---- the whole

-- the functions without an entry, in order of definition
abbrev pub left_of : CoreUnitTree → ProofsTree → List ℕ
left_of u proofs = filter (λ f. not (has_entry proofs f)) (below (length u.functions))

pub record Derives (u : CoreUnitTree) (proofs : ProofsTree) (left : List ℕ) : Type 0 where
  pub closed : proofs.defines ≡ []
  pub entries : HasEntries u proofs
  pub derived : AreDerived u proofs
  pub left_out : left ≡ left_of u proofs
  pub cycles : OnlyCountingCycle u (pres_of proofs)
