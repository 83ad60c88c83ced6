-- A loop with a continue and a break, calls with two arguments, and bodies that end without a return.
use Rattle.std.proofs.Common.{◌≡◌, ℕ, List, [], ◌∷◌, codes, pos, Some, None, refl}
use Rattle.std.specs.Prelude.{Option}
use Rattle.qs_memory.specs.declared.scalar.Scalar.{Scalar}
use Rattle.qs_memory.specs.declared.scalar.Scalar.TheVariants as scalars
use Rattle.qs_memory.specs.declared.operation.Signedness.TheVariants.{Signed}
use Rattle.qs_memory.specs.declared.operation.Arithmetic.TheVariants as arithmetics
use Rattle.qs_memory.specs.declared.operation.Comparison.{Comparison}
use Rattle.qs_memory.specs.declared.operation.Comparison.TheVariants as comparisons
use Rattle.qs_memory.specs.declared.operation.BinaryOperation.TheVariants as binaries
use Rattle.qs_calls.specs.declared.callee.Callee.TheVariants.{Function}
use Rattle.qs_calls.specs.declared.parameter.Parameter.TheVariants.{Plain}
use Rattle.qs_assert.specs.declared.variable.VarKind.{VarKind}
use Rattle.qs_assert.specs.declared.variable.VarKind.TheVariants as kinds
use Rattle.qs_assert.specs.declared.variable.NumberType.TheVariants as numbers
use Rattle.qs_assert.specs.declared.variable.Var.{Var}
use Rattle.qs_assert.specs.Trees.{TermTree, variable, AssertionTree, natural, cost, num, total, assertions_of}
use Rattle.qs_entail.specs.declared.fault.Rule.TheVariants as rules
use Rattle.qs_entail.specs.Certificates.{Item, once, cost_range, num_bounds, CertTree, same, all, arithmetic, fact}
use Rattle.qs_entail.specs.Faults.{step}
use Rattle.qs_entail.specs.View.{certs_of}
use Rattle.qs_core.specs.declared.numbers.Target.TheVariants as targets
use Rattle.qs_core.specs.Trees as core
use Rattle.qs_core.specs.Trees.{CoreExprTree, CoreStmtTree, CoreVariableTree, CoreFunctionTree, CoreUnitTree, stmts_of}
use Rattle.qs_triples.specs.Derivations.{DerivationTree, leaf, sequence, conditional, loop, call, balanced_call, consequence, DerivationTrees, no_derivations, derivation_and, SpecTree, EntryTree, ProofsTree}
use Rattle.qs_triples.specs.Rules.{in_postcondition, at_node, DerivFault, shape, mentions, certificate, entry}
use Rattle.qs_triples.specs.Entries.{entry_fault}

abbrev int_variable : VarKind → Var
int_variable k = record { kind = k; number = numbers.Int }

abbrev of : VarKind → TermTree
of k = variable (int_variable k)

abbrev literal : ℕ → CoreExprTree
literal k = core.literal scalars.Int k

abbrev plain : ℕ → CoreExprTree
plain x = core.variable scalars.Int x

abbrev set : ℕ → CoreExprTree → CoreStmtTree
set x e = core.assign (targets.Variable x) e

abbrev is : Comparison → ℕ → CoreExprTree
is op k = core.binary (binaries.Compare op Signed) (plain 0) (literal k)

abbrev plus : CoreExprTree → CoreExprTree → CoreExprTree
plus a b = core.binary (binaries.Arithmetic arithmetics.Add Signed) a b

abbrev int_named : List ℕ → CoreVariableTree
int_named name = record { name = name; ordinal = 1; scalar = scalars.Int }

-- int g(int x) { return x + 1; }
abbrev g : CoreFunctionTree
g = record {
  name = codes "g";
  parameters = record { name = codes "x"; place = Plain 0 } ∷ [];
  variables = int_named (codes "x") ∷ [];
  temporaries = [];
  blocks = [];
  result_type = Some scalars.Int;
  body = stmts_of (core.return (Some (plus (plain 0) (literal 1))) ∷ []);
}

-- int i; int s; s = 0; for (i = 0; i < 10; i = g(i)) { if (i == 3) continue; if (i == 6) break; s = s + i; } return s;
abbrev main : CoreFunctionTree
main = record {
  name = codes "main";
  parameters = [];
  variables = int_named (codes "i") ∷ int_named (codes "s") ∷ [];
  temporaries = scalars.Int ∷ [];
  blocks = [];
  result_type = Some scalars.Int;
  body = stmts_of (
      set 1 (literal 0)
      ∷ set 0 (literal 0)
      ∷ core.loop
      (core.branch (is comparisons.Less 10)
      (core.seq (stmts_of (
      core.branch (is comparisons.Equal 3) core.continue core.skip
      ∷ core.branch (is comparisons.Equal 6) core.break core.skip
      ∷ set 1 (plus (plain 1) (plain 0))
      ∷ [])))
      core.break)
      (core.seq (stmts_of (
      core.call (Some 0) (Function (record { 0 = 0 })) (plain 0 ∷ [])
      ∷ set 0 (core.temporary scalars.Int 0)
      ∷ [])))
      ∷ core.return (Some (plain 1))
      ∷ core.return (Some (literal 0))
      ∷ []);
}

-- void h(int a, int b) that does nothing, and int k(int n, int m) { h(n, m); } that ends without a return
abbrev two_ints : List ℕ → List ℕ → Option Scalar → List CoreStmtTree → CoreFunctionTree
two_ints name first type body = record {
  name = name;
  parameters = record { name = first; place = Plain 0 } ∷ record { name = codes "b"; place = Plain 1 } ∷ [];
  variables = int_named first ∷ int_named (codes "b") ∷ [];
  temporaries = [];
  blocks = [];
  result_type = type;
  body = stmts_of body;
}

abbrev h : CoreFunctionTree
h = two_ints (codes "h") (codes "a") None (core.skip ∷ [])

abbrev k : CoreFunctionTree
k = two_ints (codes "k") (codes "a") (Some scalars.Int) (core.call None (Function (record { 0 = 2 })) (plain 0 ∷ plain 1 ∷ []) ∷ [])

abbrev unit : CoreUnitTree
unit = record { functions = g ∷ main ∷ h ∷ k ∷ []; main = 1; data_blocks = [] }

abbrev listed : List DerivationTree → DerivationTrees
listed [] = no_derivations
listed (d ∷ ds) = derivation_and d (listed ds)

-- ---- the loop

abbrev for_g : SpecTree
for_g = record { pre = natural 0; post = natural 0 }

abbrev proofs : ProofsTree
proofs = record {
  defines = [];
  functions =
      record { function = 0; spec = for_g; entry = same; body = sequence (listed (leaf ∷ [])) }
      ∷ record { function = 2; spec = record { pre = num (of (kinds.Plain 0)); post = num (of (kinds.Old 1)) }; entry = same; body = leaf }
      ∷ [];
}

-- the greatest of cost g, and cost g and 0, is at most cost g
abbrev step_derivation : DerivationTree
step_derivation = sequence (listed (consequence (cost 0) (all (certs_of (same ∷ arithmetic [] ∷ []))) balanced_call ∷ leaf ∷ []))

abbrev body_derivation : DerivationTree
body_derivation = conditional (sequence (listed (conditional leaf leaf ∷ conditional leaf leaf ∷ leaf ∷ []))) leaf

abbrev main_with : AssertionTree → DerivationTree → EntryTree
main_with a d = record {
  function = 1;
  spec = record { pre = a; post = a };
  entry = same;
  body = sequence (listed (leaf ∷ leaf ∷ d ∷ leaf ∷ leaf ∷ []));
}

abbrev fault_of : EntryTree → Option DerivFault
fault_of e = entry_fault unit proofs e

main_is_derived : fault_of (main_with (cost 0) (loop (cost 0) same body_derivation step_derivation)) ≡ None
main_is_derived = refl

-- the conditional isn't the same assertion in both branches where the loop's end needs less
less_behind_the_loop :
    fault_of (record {
      function = 1;
      spec = record { pre = cost 0; post = natural 0 };
      entry = same;
      body = sequence (listed (leaf ∷ leaf ∷ loop (cost 0) same body_derivation step_derivation ∷ leaf ∷ leaf ∷ []));
    })
    ≡ Some (certificate (2 ∷ []) (step [] rules.Same))
less_behind_the_loop = refl

-- the step comes before the body
the_step_is_first : fault_of (main_with (cost 0) (loop (cost 0) same leaf leaf)) ≡ Some (shape (2 ∷ 1 ∷ []))
the_step_is_first = refl

the_body_is_next : fault_of (main_with (cost 0) (loop (cost 0) same leaf step_derivation)) ≡ Some (shape (2 ∷ 0 ∷ []))
the_body_is_next = refl

-- and before both what the invariant mentions
the_invariant_is_before : fault_of (main_with (cost 0) (loop (num (of (kinds.Plain 5))) same leaf leaf)) ≡ Some (mentions (at_node (2 ∷ [])) None (int_variable (kinds.Plain 5)))
the_invariant_is_before = refl

-- without its consequence the step needs a maximum, so the branches differ
an_invariant_too_small : fault_of (main_with (cost 0) (loop (cost 0) same body_derivation (sequence (listed (balanced_call ∷ leaf ∷ []))))) ≡ Some (certificate (2 ∷ []) (step [] rules.Same))
an_invariant_too_small = refl

-- i = g(i) where the next assertion speaks of i: then it speaks of $0, which the call doesn't leave alone
the_destination_in_the_next : fault_of (main_with (cost 0) (loop (num (of (kinds.Plain 0))) same body_derivation step_derivation)) ≡ Some (mentions (at_node (2 ∷ 1 ∷ 0 ∷ [])) None (int_variable (kinds.Temporary 0)))
the_destination_in_the_next = refl

-- ---- arguments

abbrev item : ℕ → Item
item i = once 1 (pos i)

-- k needs cost h and num a, and behind the call num b is left
abbrev k_with : AssertionTree → CertTree → CertTree → EntryTree
k_with a c d = record {
  function = 3;
  spec = record { pre = a; post = natural 0 };
  entry = c;
  body = sequence (listed (call (natural 0) d ∷ []));
}

abbrev cost_and : TermTree → AssertionTree
cost_and t = total (assertions_of (cost 2 ∷ num t ∷ []))

-- num b and cost h are at least 0
abbrev leaves_b : CertTree
leaves_b = fact (cost_range 2) (fact (num_bounds (of (kinds.Plain 1))) (arithmetic (item 1 ∷ item 2 ∷ [])))

arguments_in_their_places : fault_of (k_with (cost_and (of (kinds.Plain 0))) (arithmetic []) leaves_b) ≡ None
arguments_in_their_places = refl

the_other_argument_before : fault_of (k_with (cost_and (of (kinds.Plain 1))) (arithmetic []) leaves_b) ≡ Some (entry (step [] rules.Arithmetic))
the_other_argument_before = refl

the_other_argument_behind : fault_of (k_with (cost_and (of (kinds.Plain 0))) (arithmetic []) (fact (cost_range 2) (fact (num_bounds (of (kinds.Plain 0))) (arithmetic (item 1 ∷ item 2 ∷ []))))) ≡ Some (certificate (0 ∷ []) (step (0 ∷ 0 ∷ []) rules.Arithmetic))
the_other_argument_behind = refl

-- ---- the end of a body

abbrev k_and : AssertionTree → Option DerivFault
k_and post = fault_of (record { function = 3; spec = record { pre = natural 0; post = post }; entry = same; body = leaf })

-- the end of k's body is met, where there is no result
a_result_at_the_end : k_and (num (of kinds.Returned)) ≡ Some (mentions in_postcondition None (int_variable kinds.Returned))
a_result_at_the_end = refl

-- what a postcondition may not mention at all comes before
another_variable_first : k_and (total (assertions_of (num (of kinds.Returned) ∷ num (of (kinds.Plain 0)) ∷ []))) ≡ Some (mentions in_postcondition None (int_variable (kinds.Plain 0)))
another_variable_first = refl

the_body_of_k : k_and (natural 0) ≡ Some (shape [])
the_body_of_k = refl
