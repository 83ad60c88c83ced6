-- What is added where a file has no entry: open functions and their definitions, and the entries of all others.
use Rattle.std.specs.Prelude.{◌≡◌, ℕ, ◌<◌, ◌||◌, Bool, true, false, if◌then◌else◌, List, [], ◌∷◌, ◌++◌, length, map, filter, Option, Some, None}
use Rattle.std.specs.List.{list_any}
use Rattle.qs_assert.specs.declared.define.Define.{Define}
use Rattle.qs_assert.specs.Trees.{AssertionTree, natural, infinity, cost, num, total, greatest, product, guard, choose, named, assertions_of}
use Rattle.qs_assert.specs.Variables.{variables}
use Rattle.qs_core.specs.Trees.{CoreUnitTree}
use Rattle.qs_core.specs.CallGraph.{is_member, called_by, IsOpen}
use Rattle.qs_core.specs.FunctionNames.{function_name}
use Rattle.qs_triples.specs.Derivations.{EntryTree, ProofsTree, entry_of, entries_of}
use Rattle.qs_triples.specs.Entries.{has_entry}

-- ---- what calls need

-- the cost of a function, and what it needs itself
abbrev pub for_call : (ℕ → AssertionTree) → ℕ → AssertionTree
for_call needs g = total (assertions_of (cost g ∷ needs g ∷ []))

-- what the greatest of some calls needs
abbrev pub for_calls : (ℕ → AssertionTree) → List ℕ → AssertionTree
for_calls needs [] = natural 0
for_calls needs (g ∷ []) = for_call needs g
for_calls needs (g ∷ h ∷ gs) = greatest (assertions_of (map (for_call needs) (g ∷ h ∷ gs)))

-- ---- open functions

-- the definition of an open function: its own name, for what the functions that it calls need
abbrev pub open_definition : CoreUnitTree → ℕ → Define
open_definition u f = record {
  name = function_name u f;
  body = for_calls (λ g. named (function_name u g)) (called_by u f);
}

-- functions in an order in which each stands once, and behind those that it calls; earlier ones stand before them
abbrev pub CalleesFirst : CoreUnitTree → (earlier fs : List ℕ) → Type 0
CalleesFirst u earlier [] = Unit {0}
CalleesFirst u earlier (f ∷ fs) =
    (is_member f earlier ≡ false) × ((g : ℕ) → is_member g (called_by u f) ≡ true → is_member g earlier ≡ true)
    × CalleesFirst u (f ∷ earlier) fs

-- these are the open functions, callees before callers
pub record AreOpen (u : CoreUnitTree) (given : ProofsTree) (fs : List ℕ) : Type 0 where
  pub open_ones : (f : ℕ) → is_member f fs ≡ true → IsOpen u (has_entry given) f
  pub all_there : (f : ℕ) → IsOpen u (has_entry given) f → is_member f fs ≡ true
  pub in_order : CalleesFirst u [] fs

-- ---- what stands for a function without an entry

abbrev pub is_infinity : AssertionTree → Bool
is_infinity infinity = true
is_infinity (natural n) = false
is_infinity (cost f) = false
is_infinity (num t) = false
is_infinity (total parts) = false
is_infinity (greatest parts) = false
is_infinity (product parts) = false
is_infinity (guard c a) = false
is_infinity (choose c a b) = false
is_infinity (named n) = false

abbrev pub has_variables : AssertionTree → Bool
has_variables a = list_any (λ x. true) (variables a)

-- a precondition that says nothing to those who call the function without a derivation
abbrev pub is_useless : AssertionTree → Bool
is_useless a = has_variables a || is_infinity a

-- a function without an entry isn't met
abbrev pub pre_in : Option EntryTree → AssertionTree
pre_in None = infinity
pre_in (Some e) = e.spec.pre

abbrev pub pre_of : ProofsTree → ℕ → AssertionTree
pre_of proofs g = pre_in (entry_of proofs g)

-- what a function that isn't open needs, by the preconditions of those that it calls
abbrev pub path_pre : ProofsTree → List ℕ → AssertionTree
path_pre proofs gs =
    if list_any (λ g. is_useless (pre_of proofs g)) gs then infinity else for_calls (pre_of proofs) gs

-- an entry whose postcondition is this precondition too
abbrev pub HasBoth : AssertionTree → EntryTree → Type 0
HasBoth a e = (e.spec.pre ≡ a) × (e.spec.post ≡ a)

-- The proofs have the definitions of the open functions before those of the file, the file's entries in their order, and
-- one entry for each other function.
pub record Filled (u : CoreUnitTree) (given proofs : ProofsTree) : Type 0 where
  pub opened : List ℕ
  pub are_open : AreOpen u given opened
  pub defines : proofs.defines ≡ map (open_definition u) opened ++ given.defines
  pub kept : filter (λ (e : EntryTree). has_entry given e.function) proofs.functions ≡ given.functions
  pub one :
      (f : ℕ) → f < length u.functions → has_entry given f ≡ false
      → length (entries_of proofs f) ≡ 1
  pub known : (e : EntryTree) (f : ℕ) → entry_of proofs f ≡ Some e → f < length u.functions
  pub of_open :
      (f : ℕ) (e : EntryTree) → is_member f opened ≡ true → entry_of proofs f ≡ Some e
      → HasBoth (named (function_name u f)) e
  pub of_others :
      (f : ℕ) (e : EntryTree) → has_entry given f ≡ false → is_member f opened ≡ false
      → entry_of proofs f ≡ Some e → HasBoth (path_pre proofs (called_by u f)) e
