-- Two functions that call each other, their derivations, and derivations with one thing wrong.
use Rattle.std.proofs.Common.{◌≡◌, ℕ, List, [], ◌∷◌, codes, pos, Some, None, refl}
use Rattle.std.specs.Prelude.{Option}
use Rattle.qs_memory.specs.declared.scalar.Scalar.TheVariants as scalars
use Rattle.qs_memory.specs.declared.operation.Signedness.TheVariants.{Unsigned}
use Rattle.qs_memory.specs.declared.operation.Arithmetic.TheVariants as arithmetics
use Rattle.qs_memory.specs.declared.operation.Comparison.TheVariants as comparisons
use Rattle.qs_memory.specs.declared.operation.BinaryOperation.TheVariants as binaries
use Rattle.qs_calls.specs.declared.callee.Callee.TheVariants.{Function}
use Rattle.qs_calls.specs.declared.parameter.Parameter.TheVariants.{Plain}
use Rattle.qs_assert.specs.declared.variable.VarKind.{VarKind}
use Rattle.qs_assert.specs.declared.variable.VarKind.TheVariants as kinds
use Rattle.qs_assert.specs.declared.variable.NumberType.TheVariants as numbers
use Rattle.qs_assert.specs.declared.variable.Var.{Var}
use Rattle.qs_assert.specs.Trees.{TermTree, number, variable, sub, wrapu, eq, AssertionTree, cost, num, total, product, assertions_of}
use Rattle.qs_entail.specs.declared.fault.Rule.TheVariants as rules
use Rattle.qs_entail.specs.Certificates.{Item, once, twice, range, cost_range, apart, num_is, wrapu_is, CertTree, same, all, split, arithmetic, fact}
use Rattle.qs_entail.specs.Faults.{step}
use Rattle.qs_entail.specs.View.{certs_of}
use Rattle.qs_core.specs.Trees as core
use Rattle.qs_core.specs.Trees.{CoreExprTree, CoreFunctionTree, CoreUnitTree, stmts_of}
use Rattle.qs_triples.specs.Derivations.{DerivationTree, leaf, sequence, conditional, balanced_call, no_derivations, derivation_and, EntryTree, ProofsTree}
use Rattle.qs_triples.specs.Rules.{DerivFault, entry}
use Rattle.qs_triples.specs.Entries.{entry_fault}

-- ---- the unit

abbrev n : CoreExprTree
n = core.variable scalars.Unsigned 0

abbrev unsigned : ℕ → CoreExprTree
unsigned k = core.literal scalars.Unsigned k

-- int NAME(unsigned n) { if (n == 0u) return RESULT; return OTHER(n - 1u); }
abbrev parity : (name : List ℕ) → (result other : ℕ) → CoreFunctionTree
parity name result other = record {
  name = name;
  parameters = record { name = codes "n"; place = Plain 0 } ∷ [];
  variables = record { name = codes "n"; ordinal = 1; scalar = scalars.Unsigned } ∷ [];
  temporaries = scalars.Int ∷ [];
  blocks = [];
  result_type = Some scalars.Int;
  body = stmts_of (
      core.branch (core.binary (binaries.Compare comparisons.Equal Unsigned) n (unsigned 0)) (core.return (Some (core.literal scalars.Int result))) core.skip
      ∷ core.call (Some 0) (Function (record { 0 = other })) (core.binary (binaries.Arithmetic arithmetics.Subtract Unsigned) n (unsigned 1) ∷ [])
      ∷ core.return (Some (core.temporary scalars.Int 0))
      ∷ []);
}

-- int main(unsigned n) { return even(n); }
abbrev main : CoreFunctionTree
main = record {
  name = codes "main";
  parameters = record { name = codes "n"; place = Plain 0 } ∷ [];
  variables = record { name = codes "n"; ordinal = 1; scalar = scalars.Unsigned } ∷ [];
  temporaries = scalars.Int ∷ [];
  blocks = [];
  result_type = Some scalars.Int;
  body = stmts_of (
      core.call (Some 0) (Function (record { 0 = 0 })) (n ∷ [])
      ∷ core.return (Some (core.temporary scalars.Int 0))
      ∷ core.return (Some (core.literal scalars.Int 0))
      ∷ []);
}

-- even, odd, main
abbrev unit : CoreUnitTree
unit = record { functions = parity (codes "even") 1 1 ∷ parity (codes "odd") 0 0 ∷ main ∷ []; main = 2; data_blocks = [] }

-- ---- the proofs

abbrev unsigned_variable : VarKind → Var
unsigned_variable k = record { kind = k; number = numbers.Unsigned }

abbrev of : VarKind → TermTree
of k = variable (unsigned_variable k)

-- as many costs of both as this number
abbrev costs : TermTree → AssertionTree
costs t = product (assertions_of (num t ∷ total (assertions_of (cost 0 ∷ cost 1 ∷ [])) ∷ []))

abbrev n_less : TermTree
n_less = sub (of (kinds.Plain 0)) (number (pos 1))

abbrev item : ℕ → Item
item i = once 1 (pos i)

abbrev pair : ℕ → ℕ → Item
pair i j = twice 1 (pos i) (pos j)

-- the costs of both for each turn, but for what is left over
abbrev counted : List Item → CertTree
counted left =
    fact (range (unsigned_variable (kinds.Plain 0)))
    (fact (apart (pos 0) (item 1 ∷ []))
    (fact (wrapu_is n_less (item 3 ∷ []) (item 2 ∷ item 0 ∷ []))
    (fact (num_is (of (kinds.Plain 0)) (item 1 ∷ []))
    (fact (num_is (wrapu n_less) (item 3 ∷ item 4 ∷ []))
    (fact (cost_range 0)
    (fact (cost_range 1)
    (arithmetic (pair 6 10 ∷ pair 5 10 ∷ pair 9 10 ∷ pair 6 11 ∷ pair 5 11 ∷ pair 9 11 ∷ left))))))))

abbrev by_cases : CertTree → CertTree
by_cases c = split (eq (of (kinds.Plain 0)) (number (pos 0))) same (all (certs_of (same ∷ c ∷ [])))

abbrev three_parts : DerivationTree → DerivationTree → DerivationTree → DerivationTree
three_parts d e g = sequence (derivation_and d (derivation_and e (derivation_and g no_derivations)))

-- beside the call of the other function its own cost is left over
abbrev of_parity : (function own : ℕ) → EntryTree
of_parity f own = record {
  function = f;
  spec = record { pre = costs (of (kinds.Plain 0)); post = costs (of (kinds.Old 0)) };
  entry = by_cases (counted (item own ∷ []));
  body = three_parts (conditional leaf leaf) balanced_call leaf;
}

abbrev with_even : TermTree → AssertionTree
with_even t = total (assertions_of (cost 0 ∷ costs t ∷ []))

abbrev of_main : EntryTree
of_main = record {
  function = 2;
  spec = record { pre = with_even (of (kinds.Plain 0)); post = with_even (of (kinds.Old 0)) };
  entry = all (certs_of (same ∷ same ∷ []));
  body = three_parts balanced_call leaf leaf;
}

abbrev proofs : ProofsTree
proofs = record { defines = []; functions = of_parity 0 10 ∷ of_parity 1 11 ∷ of_main ∷ [] }

abbrev fault_of : EntryTree → Option DerivFault
fault_of e = entry_fault unit proofs e

-- ---- right

even_is_derived : fault_of (of_parity 0 10) ≡ None
even_is_derived = refl

odd_is_derived : fault_of (of_parity 1 11) ≡ None
odd_is_derived = refl

main_is_derived : fault_of of_main ≡ None
main_is_derived = refl

-- ---- wrong

-- even calls odd, so its own cost is left over and not that of odd
the_costs_exchanged : fault_of (of_parity 0 11) ≡ Some (entry (step (1 ∷ 1 ∷ 0 ∷ 0 ∷ 0 ∷ 0 ∷ 0 ∷ 0 ∷ 0 ∷ []) rules.Arithmetic))
the_costs_exchanged = refl
