-- What is added for a small unit, computed from the definitions.
use Rattle.std.proofs.Common.{◌≡◌, ℕ, ◌+◌, ◌*◌, ◌≤◌, ◌==◌, ◌||◌, List, [], ◌∷◌, codes, map, true, false, None, ⊎_elim, refl, sym, subst, arith}
use Rattle.std.proofs.lemmas.Bool.{both_ways}
use Rattle.qs_memory.specs.declared.scalar.Scalar.TheVariants as scalars
use Rattle.qs_calls.specs.declared.callee.Callee.TheVariants.{Function, PutChar}
use Rattle.qs_events.specs.Weights.{Costs}
use Rattle.qs_assert.specs.Trees.{natural, cost, total, greatest, named, assertions_of}
use Rattle.qs_assert.specs.Values.{finite}
use Rattle.qs_core.specs.CallGraph.{HasCall}
use Rattle.qs_core.specs.declared.labels.CoreLabel.TheVariants.{Case, Default}
use Rattle.qs_core.specs.Trees.{literal, CoreStmtTree, skip, seq, call, branch, loop, switch, break, stmts_of, CoreFunctionTree, CoreUnitTree}
use Rattle.qs_triples.specs.Derivations.{ProofsTree}
use Rattle.qs_triples.specs.Entries.{entry_fault}
use Rattle.qs_triples.specs.Filled.{open_definition}
use Rattle.qs_triples.specs.Valuations.{value_at_entry}
use Rattle.qs_analyse.specs.Fillable.{open_entry}
use Rattle.qs_analyse.specs.Paths.{IsChainFrom, IsLongestPath, total_cost}
use Rattle.qs_callgraph.proofs.MemberLaws.{first_cases}

abbrev calls_to : ℕ → CoreStmtTree
calls_to g = call None (Function (record { 0 = g })) []

abbrev with_body : List ℕ → List CoreStmtTree → CoreFunctionTree
with_body name body = record {
  name = name;
  parameters = [];
  variables = [];
  temporaries = [];
  blocks = [];
  result_type = None;
  body = stmts_of body;
}

abbrev first : CoreFunctionTree
first = with_body (codes "first") (branch (literal scalars.Int 0) (calls_to 2) (seq (stmts_of (calls_to 1 ∷ skip ∷ []))) ∷ [])

-- the first calls the second and the third, and the second the third
abbrev tower : CoreUnitTree
tower = record {
  functions =
      first
      ∷ with_body (codes "second") (loop (calls_to 2) skip ∷ call None PutChar [] ∷ [])
      ∷ with_body (codes "third") (skip ∷ [])
      ∷ [];
  main = 0;
  data_blocks = [];
}

abbrev filled : ProofsTree
filled = record { defines = map (open_definition tower) (2 ∷ 1 ∷ 0 ∷ []); functions = map (open_entry tower) (2 ∷ 1 ∷ 0 ∷ []) }

-- ---- definitions

none_is_called : (open_definition tower 2).body ≡ natural 0
none_is_called = refl

one_is_called : (open_definition tower 1).body ≡ total (assertions_of (cost 2 ∷ named (codes "third") ∷ []))
one_is_called = refl

two_are_called :
    (open_definition tower 0).body
    ≡ greatest (assertions_of (total (assertions_of (cost 1 ∷ named (codes "second") ∷ [])) ∷ total (assertions_of (cost 2 ∷ named (codes "third") ∷ [])) ∷ []))
two_are_called = refl

-- ---- derivations that check

third_is_derived : entry_fault tower filled (open_entry tower 2) ≡ None
third_is_derived = refl

second_is_derived : entry_fault tower filled (open_entry tower 1) ≡ None
second_is_derived = refl

first_is_derived : entry_fault tower filled (open_entry tower 0) ≡ None
first_is_derived = refl

-- what stands behind a switch, and each of its parts, needs the name
abbrev switching : CoreUnitTree
switching = record {
  functions =
      with_body (codes "first")
      (switch (literal scalars.Int 0) (Case 1 0 ∷ Case 2 1 ∷ Default 3 ∷ []) (stmts_of (calls_to 1 ∷ calls_to 2 ∷ break ∷ skip ∷ []))
      ∷ calls_to 2 ∷ [])
      ∷ with_body (codes "second") []
      ∷ with_body (codes "third") []
      ∷ [];
  main = 0;
  data_blocks = [];
}

a_switch_is_derived :
    entry_fault switching
    (record { defines = map (open_definition switching) (2 ∷ 1 ∷ 0 ∷ []); functions = map (open_entry switching) (2 ∷ 1 ∷ 0 ∷ []) })
    (open_entry switching 0)
    ≡ None
a_switch_is_derived = refl

-- ---- longest paths

one_callee : (f g : ℕ) → ((f == g) || false) ≡ true → f ≡ g
one_callee f g h = ⊎_elim (λ (e : f ≡ g). e) (λ (n : false ≡ true). absurd (both_ways false refl n)) (first_cases g f [] h)

abbrev costs : Costs
costs f = f * 8 + 16

value_of_first : value_at_entry costs filled.defines first [] (named (codes "first")) ≡ finite 56
value_of_first = refl

path_of_second : IsLongestPath tower costs 1 56
path_of_second = record { chain = 2 ∷ []; is_chain = (refl, tt); reached = refl; bound = bound }
  where
    bound : (gs : List ℕ) → IsChainFrom tower 1 gs → costs 1 + total_cost costs gs ≤ 56
    bound [] c = omega arith
    bound (g ∷ []) c = let e = one_callee 2 g c.0 in subst (λ (h : ℕ). 24 + (costs h + 0) ≤ 56) e (omega arith)
    bound (g ∷ h ∷ gs) c = absurd (both_ways false refl (subst (λ (x : ℕ). HasCall tower x h) (sym (one_callee 2 g c.0)) c.1.0))
