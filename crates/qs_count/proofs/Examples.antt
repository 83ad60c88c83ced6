-- Calls one after the other: what they cost together, what bounds them, and who needs an entry.
use Rattle.std.proofs.Common.{◌≡◌, ℕ, [], ◌∷◌, codes, List, Option, Some, None, refl}
use Rattle.qs_memory.specs.declared.scalar.Scalar.TheVariants as scalars
use Rattle.qs_events.specs.Runs.{events_of}
use Rattle.qs_events.specs.Weights.{calls_in, run_weight}
use Rattle.qs_calls.specs.declared.callee.Callee.TheVariants.{Function}
use Rattle.qs_assert.specs.Trees.{AssertionTree, natural, cost, total, assertions_of}
use Rattle.qs_assert.specs.Values.{finite}
use Rattle.qs_assert.specs.declared.define.Amount.TheVariants.{Finite}
use Rattle.qs_entail.specs.Certificates.{arithmetic}
use Rattle.qs_core.specs.Trees as core
use Rattle.qs_core.specs.Trees.{CoreStmtTree, CoreFunctionTree, CoreUnitTree, stmts_of}
use Rattle.qs_core.specs.Units.{main_run}
use Rattle.qs_triples.specs.Derivations.{DerivationTree, leaf, sequence, call, no_derivations, derivation_and, EntryTree, ProofsTree}
use Rattle.qs_triples.specs.Entries.{entry_fault_for}
use Rattle.qs_triples.specs.declared.resource.Resource.TheVariants.{Calls}
use Rattle.qs_count.specs.Laws.{cost_of_call}
use Rattle.qs_count.specs.MainCount.{main_count}
use Rattle.qs_count.specs.Missing.{with_functions}
use Rattle.qs_count.proofs.MissingLaws.{needing}

-- ---- the unit: f calls nothing, g calls f twice, and main calls g

abbrev calls_of : ℕ → CoreStmtTree
calls_of g = core.call None (Function (record { 0 = g })) []

abbrev function : List ℕ → List CoreStmtTree → CoreFunctionTree
function name body = record {
  name = name;
  parameters = [];
  variables = [];
  temporaries = [];
  blocks = [];
  result_type = None;
  body = stmts_of body;
}

abbrev main : CoreFunctionTree
main = record (function (codes "main") (calls_of 1 ∷ core.return (Some (core.literal scalars.Int 0)) ∷ [])) { result_type = Some scalars.Int }

abbrev unit : CoreUnitTree
unit = record {
  functions = function (codes "f") [] ∷ function (codes "g") (calls_of 0 ∷ calls_of 0 ∷ []) ∷ main ∷ [];
  main = 2;
  data_blocks = [];
}

-- ---- the entries: nothing is left at an end

abbrev entry_of : ℕ → AssertionTree → DerivationTree → EntryTree
entry_of f pre body = record {
  function = f;
  spec = record { pre = pre; post = natural 0 };
  entry = arithmetic [];
  body = body;
}

abbrev framed : AssertionTree → DerivationTree
framed a = call a (arithmetic [])

abbrev both : DerivationTree → DerivationTree → DerivationTree
both d e = sequence (derivation_and d (derivation_and e no_derivations))

abbrev of_f : EntryTree
of_f = entry_of 0 (natural 0) (sequence no_derivations)

-- behind the first call what the second one costs is still there
abbrev twice : AssertionTree
twice = total (assertions_of (cost 0 ∷ cost 0 ∷ []))

abbrev of_g : EntryTree
of_g = entry_of 1 twice (both (framed (cost 0)) (framed (natural 0)))

abbrev of_main : EntryTree
of_main = entry_of 2 (total (assertions_of (cost 1 ∷ twice ∷ []))) (both (framed (natural 0)) leaf)

abbrev proofs : ProofsTree
proofs = record { defines = []; functions = of_f ∷ of_g ∷ of_main ∷ [] }

f_is_counted : entry_fault_for Calls unit proofs of_f ≡ None
f_is_counted = refl

g_is_counted : entry_fault_for Calls unit proofs of_g ≡ None
g_is_counted = refl

main_is_counted : entry_fault_for Calls unit proofs of_main ≡ None
main_is_counted = refl

-- ---- runs

four_calls : calls_in (events_of (main_run unit [] [] 3)) ≡ 4
four_calls = refl

four_are_enough : cost_of_call (λ f. 1) proofs 2 main of_main [] ≡ finite 4
four_are_enough = refl

-- main's own call, and its precondition where f and g cost 1 each
four_are_counted : main_count unit proofs [] ≡ Finite 4
four_are_counted = refl

-- three of them stand in one another
three_on_the_stack : run_weight (λ f. 1) (main_run unit [] [] 3) ≡ 3
three_on_the_stack = refl

-- ---- who needs an entry

abbrev missing_with : List EntryTree → Option ℕ
missing_with es = with_functions (record { defines = []; functions = es }) None (needing unit (record { defines = []; functions = es }))

none_is_missing : missing_with (of_f ∷ of_g ∷ of_main ∷ []) ≡ None
none_is_missing = refl

-- main needs one always
main_is_missing : missing_with (of_f ∷ of_g ∷ []) ≡ Some 2
main_is_missing = refl

g_is_missing : missing_with (of_f ∷ of_main ∷ []) ≡ Some 1
g_is_missing = refl

f_is_missing : missing_with (of_g ∷ of_main ∷ []) ≡ Some 0
f_is_missing = refl

-- what g calls needs none where g has none
g_alone_is_missing : missing_with (of_main ∷ []) ≡ Some 1
g_alone_is_missing = refl

-- the first in order of definition
f_before_main : missing_with (of_g ∷ []) ≡ Some 0
f_before_main = refl
