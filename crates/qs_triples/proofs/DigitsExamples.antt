-- A function that prints a number digit by digit, its derivation by the length of the number in bits, and derivations with one
-- thing wrong.
use Rattle.std.proofs.Common.{◌≡◌, ℕ, List, [], ◌∷◌, codes, pos, Some, None, refl}
use Rattle.std.specs.Prelude.{Option}
use Rattle.qs_memory.specs.declared.scalar.Scalar.TheVariants as scalars
use Rattle.qs_memory.specs.declared.operation.Signedness.TheVariants.{Unsigned}
use Rattle.qs_memory.specs.declared.operation.Arithmetic.TheVariants as arithmetics
use Rattle.qs_memory.specs.declared.operation.Comparison.TheVariants as comparisons
use Rattle.qs_memory.specs.declared.operation.BinaryOperation.TheVariants as binaries
use Rattle.qs_calls.specs.declared.callee.Callee.TheVariants.{Function, PutChar}
use Rattle.qs_calls.specs.declared.parameter.Parameter.TheVariants.{Plain}
use Rattle.qs_assert.specs.declared.variable.VarKind.{VarKind}
use Rattle.qs_assert.specs.declared.variable.VarKind.TheVariants as kinds
use Rattle.qs_assert.specs.declared.variable.NumberType.TheVariants as numbers
use Rattle.qs_assert.specs.Trees.{TermTree, number, variable, div, bits, le, AssertionTree, cost, num, product, assertions_of}
use Rattle.qs_entail.specs.declared.fault.Rule.TheVariants as rules
use Rattle.qs_entail.specs.Certificates.{Item, once, twice, cost_range, num_is, quotient_bounds, bits_bound, bits_half, bits_rise, CertTree, same, all, split, contradict, arithmetic, fact}
use Rattle.qs_entail.specs.Faults.{step}
use Rattle.qs_entail.specs.View.{certs_of}
use Rattle.qs_core.specs.Trees as core
use Rattle.qs_core.specs.Trees.{CoreExprTree, CoreFunctionTree, CoreUnitTree, stmts_of}
use Rattle.qs_triples.specs.Derivations.{DerivationTree, leaf, sequence, conditional, balanced_call, no_derivations, derivation_and, EntryTree, ProofsTree}
use Rattle.qs_triples.specs.Rules.{DerivFault, shape, entry}
use Rattle.qs_triples.specs.Entries.{entry_fault}

-- ---- the unit

abbrev n : CoreExprTree
n = core.variable scalars.Unsigned 0

abbrev unsigned : ℕ → CoreExprTree
unsigned k = core.literal scalars.Unsigned k

-- 48u + n % 10u, as an int
abbrev digit : CoreExprTree
digit = core.conversion scalars.Int (core.binary (binaries.Arithmetic arithmetics.Add Unsigned) (unsigned 48) (core.binary (binaries.Arithmetic arithmetics.Remainder Unsigned) n (unsigned 10)))

-- void print(unsigned n) { if (n >= 10u) print(n / 10u); putchar(48u + n % 10u); }
abbrev print : CoreFunctionTree
print = record {
  name = codes "print";
  parameters = record { name = codes "n"; place = Plain 0 } ∷ [];
  variables = record { name = codes "n"; ordinal = 1; scalar = scalars.Unsigned } ∷ [];
  temporaries = [];
  blocks = [];
  result_type = None;
  body = stmts_of (
      core.branch (core.binary (binaries.Compare comparisons.GreaterOrEqual Unsigned) n (unsigned 10))
      (core.call None (Function (record { 0 = 0 })) (core.binary (binaries.Arithmetic arithmetics.Divide Unsigned) n (unsigned 10) ∷ []))
      core.skip
      ∷ core.call None PutChar (digit ∷ [])
      ∷ []);
}

abbrev unit : CoreUnitTree
unit = record { functions = print ∷ []; main = 0; data_blocks = [] }

-- ---- the proofs

abbrev of : VarKind → TermTree
of k = variable (record { kind = k; number = numbers.Unsigned })

-- as many costs of print as a number has bits
abbrev costs : TermTree → AssertionTree
costs t = product (assertions_of (num (bits t) ∷ cost 0 ∷ []))

abbrev given : TermTree
given = of (kinds.Plain 0)

abbrev tenth : TermTree
tenth = div given 10

abbrev half : TermTree
half = div given 2

abbrev item : ℕ → Item
item i = once 1 (pos i)

abbrev pair : ℕ → ℕ → Item
pair i j = twice 1 (pos i) (pos j)

-- a tenth of n isn't more than its half, so it has a bit less than n; these items are n - 1
abbrev a_bit_less : List Item → CertTree
a_bit_less at_least_1 =
    fact (bits_half given at_least_1)
    (fact (bits_rise tenth half (item 6 ∷ []))
    (fact (bits_bound given)
    (fact (num_is (bits given) (item 10 ∷ []))
    (fact (bits_bound tenth)
    (fact (num_is (bits tenth) (item 13 ∷ []))
    (fact (cost_range 0)
    (arithmetic (pair 7 16 ∷ pair 9 16 ∷ pair 11 16 ∷ pair 15 16 ∷ []))))))))

-- a tenth of a number from 10 on isn't more than its half
abbrev no_other_way : CertTree
no_other_way =
    contradict (once 8 (pos 0) ∷ once 4 (pos 1) ∷ once 5 (pos 2) ∷ once 4 (pos 3) ∷ once 5 (pos 5) ∷ once 10 (pos 6) ∷ [])

abbrev counted : CertTree → CertTree
counted c =
    split (le (number (pos 10)) given)
    (all (certs_of (
    same
    ∷ fact (quotient_bounds given 10)
    (fact (quotient_bounds given 2)
    (split (le tenth half) c no_other_way))
    ∷ [])))
    same

abbrev with : CertTree → DerivationTree → EntryTree
with c d = record { function = 0; spec = record { pre = costs given; post = costs (of (kinds.Old 0)) }; entry = c; body = d }

abbrev two_parts : DerivationTree → DerivationTree → DerivationTree
two_parts d e = sequence (derivation_and d (derivation_and e no_derivations))

abbrev proofs : ProofsTree
proofs = record { defines = []; functions = with same leaf ∷ [] }

abbrev fault_of : EntryTree → Option DerivFault
fault_of e = entry_fault unit proofs e

-- ---- right

print_is_derived : fault_of (with (counted (a_bit_less (item 1 ∷ once 9 (pos 0) ∷ []))) (two_parts (conditional balanced_call leaf) leaf)) ≡ None
print_is_derived = refl

-- ---- wrong

-- n - 10 in the place of n - 1
a_false_half : fault_of (with (counted (a_bit_less (item 1 ∷ []))) (two_parts (conditional balanced_call leaf) leaf)) ≡ Some (entry (step (0 ∷ 1 ∷ 0 ∷ 0 ∷ 0 ∷ []) rules.Fact))
a_false_half = refl

-- a call of `putchar` needs nothing
a_call_of_the_environment : fault_of (with same (two_parts (conditional balanced_call leaf) balanced_call)) ≡ Some (shape (1 ∷ []))
a_call_of_the_environment = refl
