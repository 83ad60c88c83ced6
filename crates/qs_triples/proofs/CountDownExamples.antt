-- A function that counts down, its derivation, and derivations with one thing wrong.
use Rattle.std.proofs.Common.{◌≡◌, ℕ, true, false, [], ◌∷◌, codes, pos, Some, None, refl}
use Rattle.std.specs.Prelude.{Option}
use Rattle.qs_memory.specs.declared.scalar.Scalar.TheVariants as scalars
use Rattle.qs_memory.specs.declared.operation.Signedness.TheVariants.{Unsigned}
use Rattle.qs_memory.specs.declared.operation.Arithmetic.TheVariants as arithmetics
use Rattle.qs_memory.specs.declared.operation.Comparison.TheVariants as comparisons
use Rattle.qs_memory.specs.declared.operation.BinaryOperation.TheVariants as binaries
use Rattle.qs_calls.specs.declared.callee.Callee.TheVariants.{Function}
use Rattle.qs_calls.specs.declared.parameter.Parameter.TheVariants.{Plain, Placed}
use Rattle.qs_assert.specs.declared.variable.VarKind.{VarKind}
use Rattle.qs_assert.specs.declared.variable.VarKind.TheVariants as kinds
use Rattle.qs_assert.specs.declared.variable.NumberType.TheVariants as numbers
use Rattle.qs_assert.specs.declared.variable.Var.{Var}
use Rattle.qs_assert.specs.Trees.{TermTree, number, variable, sub, wrapu, eq, AssertionTree, natural, infinity, cost, num, total, product, assertions_of}
use Rattle.qs_entail.specs.declared.fault.Rule.TheVariants as rules
use Rattle.qs_entail.specs.Certificates.{Item, once, twice, range, cost_range, apart, num_is, num_bounds, wrapu_is, CertTree, same, all, split, arithmetic, fact}
use Rattle.qs_entail.specs.Faults.{step}
use Rattle.qs_entail.specs.View.{certs_of}
use Rattle.qs_core.specs.Trees as core
use Rattle.qs_core.specs.Trees.{CoreExprTree, CoreFunctionTree, CoreUnitTree, stmts_of}
use Rattle.qs_triples.specs.Derivations.{DerivationTree, leaf, sequence, conditional, loop, call, balanced_call, consequence, no_derivations, derivation_and, SpecTree, EntryTree, ProofsTree}
use Rattle.qs_triples.specs.Rules.{in_precondition, in_postcondition, at_node, DerivFault, shape, mentions, certificate, no_spec, entry, bad_order}
use Rattle.qs_triples.specs.Entries.{entry_fault, entry_fault_for}
use Rattle.qs_triples.specs.declared.resource.Resource.TheVariants.{Calls}
use Rattle.qs_triples.specs.Mentions.{in_body}

-- ---- the unit

abbrev n : CoreExprTree
n = core.variable scalars.Unsigned 0

abbrev unsigned : ℕ → CoreExprTree
unsigned k = core.literal scalars.Unsigned k

-- unsigned f(unsigned n) { if (n == 0u) return 0u; return f(n - 1u) + 1u; }
abbrev f : CoreFunctionTree
f = record {
  name = codes "f";
  parameters = record { name = codes "n"; place = Plain 0 } ∷ [];
  variables = record { name = codes "n"; ordinal = 1; scalar = scalars.Unsigned } ∷ [];
  temporaries = scalars.Unsigned ∷ [];
  blocks = [];
  result_type = Some scalars.Unsigned;
  body = stmts_of (
      core.branch (core.binary (binaries.Compare comparisons.Equal Unsigned) n (unsigned 0)) (core.return (Some (unsigned 0))) core.skip
      ∷ core.call (Some 0) (Function (record { 0 = 0 })) (core.binary (binaries.Arithmetic arithmetics.Subtract Unsigned) n (unsigned 1) ∷ [])
      ∷ core.return (Some (core.binary (binaries.Arithmetic arithmetics.Add Unsigned) (core.temporary scalars.Unsigned 0) (unsigned 1)))
      ∷ []);
}

-- int main(unsigned n) { f(n); return 0; }
abbrev pub main : CoreFunctionTree
main = record {
  name = codes "main";
  parameters = record { name = codes "n"; place = Plain 0 } ∷ [];
  variables = record { name = codes "n"; ordinal = 1; scalar = scalars.Unsigned } ∷ [];
  temporaries = [];
  blocks = [];
  result_type = Some scalars.Int;
  body = stmts_of (
      core.call None (Function (record { 0 = 0 })) (n ∷ [])
      ∷ core.return (Some (core.literal scalars.Int 0))
      ∷ core.return (Some (core.literal scalars.Int 0))
      ∷ []);
}

abbrev pub unit : CoreUnitTree
unit = record { functions = f ∷ main ∷ []; main = 1; data_blocks = [] }

-- ---- the proofs

abbrev unsigned_variable : VarKind → Var
unsigned_variable k = record { kind = k; number = numbers.Unsigned }

abbrev of : VarKind → TermTree
of k = variable (unsigned_variable k)

-- as many costs of f as this number
abbrev costs : TermTree → AssertionTree
costs t = product (assertions_of (num t ∷ cost 0 ∷ []))

abbrev n_less : TermTree
n_less = sub (of (kinds.Plain 0)) (number (pos 1))

abbrev item : ℕ → Item
item i = once 1 (pos i)

abbrev pair : ℕ → ℕ → Item
pair i j = twice 1 (pos i) (pos j)

-- where n isn't 0, n - 1 doesn't wrap, and (n - 1 + 1) * cost f is n * cost f
abbrev counted : CertTree
counted =
    fact (range (unsigned_variable (kinds.Plain 0)))
    (fact (apart (pos 0) (item 1 ∷ []))
    (fact (wrapu_is n_less (item 3 ∷ []) (item 2 ∷ item 0 ∷ []))
    (fact (num_is (of (kinds.Plain 0)) (item 1 ∷ []))
    (fact (num_is (wrapu n_less) (item 3 ∷ item 4 ∷ []))
    (fact (cost_range 0)
    (arithmetic (pair 6 10 ∷ pair 5 10 ∷ pair 9 10 ∷ [])))))))

abbrev by_cases : CertTree → CertTree
by_cases c = split (eq (of (kinds.Plain 0)) (number (pos 0))) same (all (certs_of (same ∷ c ∷ [])))

abbrev spec : SpecTree
spec = record { pre = costs (of (kinds.Plain 0)); post = costs (of (kinds.Old 0)) }

abbrev three_parts : DerivationTree → DerivationTree → DerivationTree → DerivationTree
three_parts d e g = sequence (derivation_and d (derivation_and e (derivation_and g no_derivations)))

abbrev either_way : DerivationTree
either_way = conditional leaf leaf

abbrev body : DerivationTree
body = three_parts either_way balanced_call leaf

abbrev with_entry : CertTree → DerivationTree → EntryTree
with_entry c d = record { function = 0; spec = spec; entry = c; body = d }

abbrev more_costs : TermTree → AssertionTree
more_costs t = total (assertions_of (cost 0 ∷ costs t ∷ []))

abbrev of_main : EntryTree
of_main = record {
  function = 1;
  spec = record { pre = more_costs (of (kinds.Plain 0)); post = more_costs (of (kinds.Old 0)) };
  entry = all (certs_of (same ∷ same ∷ []));
  body = three_parts balanced_call leaf leaf;
}

abbrev proofs : ProofsTree
proofs = record { defines = []; functions = with_entry (by_cases counted) body ∷ of_main ∷ [] }

abbrev fault_of : EntryTree → Option DerivFault
fault_of e = entry_fault unit proofs e

-- ---- right

f_is_derived : fault_of (with_entry (by_cases counted) body) ≡ None
f_is_derived = refl

main_is_derived : fault_of of_main ≡ None
main_is_derived = refl

-- ---- a wrong entry

-- that n isn't 0 is forgotten, so that n in place of n - 1 is shown to be no less than 0
abbrev n_forgotten : CertTree
n_forgotten =
    fact (range (unsigned_variable (kinds.Plain 0)))
    (fact (wrapu_is n_less (item 1 ∷ []) (item 2 ∷ item 0 ∷ []))
    (fact (num_is (of (kinds.Plain 0)) (item 1 ∷ []))
    (fact (num_is (wrapu n_less) (item 3 ∷ item 4 ∷ []))
    (fact (cost_range 0)
    (arithmetic (pair 6 10 ∷ pair 5 10 ∷ pair 9 10 ∷ []))))))

a_false_step : fault_of (with_entry (by_cases n_forgotten) body) ≡ Some (entry (step (1 ∷ 1 ∷ 0 ∷ []) rules.Fact))
a_false_step = refl

-- ---- wrong nodes

abbrev faulty : DerivationTree → Option DerivFault
faulty d = fault_of (with_entry (by_cases counted) d)

a_call_is_no_leaf : faulty (three_parts either_way leaf leaf) ≡ Some (shape (1 ∷ []))
a_call_is_no_leaf = refl

a_part_too_few : faulty (sequence (derivation_and either_way (derivation_and balanced_call no_derivations))) ≡ Some (shape [])
a_part_too_few = refl

a_conditional_is_no_leaf : faulty (three_parts leaf balanced_call leaf) ≡ Some (shape (0 ∷ []))
a_conditional_is_no_leaf = refl

a_return_is_no_call : faulty (three_parts either_way balanced_call balanced_call) ≡ Some (shape (2 ∷ []))
a_return_is_no_call = refl

a_call_is_no_loop : faulty (three_parts either_way (loop infinity same leaf leaf) leaf) ≡ Some (shape (1 ∷ []))
a_call_is_no_loop = refl

a_branch_in_a_branch : faulty (three_parts (conditional leaf (sequence no_derivations)) balanced_call leaf) ≡ Some (shape (0 ∷ 1 ∷ []))
a_branch_in_a_branch = refl

-- the last part of a sequence comes first
the_last_fault_is_first : faulty (three_parts leaf leaf (sequence no_derivations)) ≡ Some (shape (2 ∷ []))
the_last_fault_is_first = refl

-- the first branch of a conditional comes first
the_first_branch_is_first : faulty (three_parts (conditional (sequence no_derivations) (sequence no_derivations)) balanced_call leaf) ≡ Some (shape (0 ∷ 0 ∷ []))
the_first_branch_is_first = refl

-- ---- consequences

-- of what the return needs
abbrev at_return : DerivationTree → Option DerivFault
at_return d = faulty (three_parts either_way balanced_call d)

the_same_again : at_return (consequence (costs (of (kinds.Old 0))) same leaf) ≡ None
the_same_again = refl

a_consequence_of_a_consequence : at_return (consequence (costs (of (kinds.Old 0))) same (consequence (costs (of (kinds.Old 0))) same leaf)) ≡ Some (shape (2 ∷ []))
a_consequence_of_a_consequence = refl

less_than_needed : at_return (consequence (natural 0) same leaf) ≡ Some (certificate (2 ∷ []) (step [] rules.Same))
less_than_needed = refl

-- there is one temporary
a_foreign_variable : at_return (consequence (costs (of (kinds.Temporary 1))) same leaf) ≡ Some (mentions (at_node (2 ∷ [])) None (unsigned_variable (kinds.Temporary 1)))
a_foreign_variable = refl

-- n is unsigned
a_foreign_type : at_return (consequence (num (variable (record { kind = kinds.Plain 0; number = numbers.Int }))) same leaf) ≡ Some (mentions (at_node (2 ∷ [])) None (record { kind = kinds.Plain 0; number = numbers.Int }))
a_foreign_type = refl

-- what stands in a body may mention the result
the_result_in_a_body : at_return (consequence (total (assertions_of (num (of kinds.Returned) ∷ costs (of (kinds.Old 0)) ∷ []))) same leaf) ≡ Some (certificate (2 ∷ []) (step [] rules.Same))
the_result_in_a_body = refl

-- ---- calls

abbrev framed : AssertionTree → CertTree → DerivationTree
framed a c = three_parts either_way (call a c) leaf

abbrev frame : AssertionTree
frame = costs (of (kinds.Old 0))

a_frame_with_the_destination : faulty (framed (num (of (kinds.Temporary 0))) same) ≡ Some (mentions (at_node (1 ∷ [])) None (unsigned_variable (kinds.Temporary 0)))
a_frame_with_the_destination = refl

a_frame_with_a_foreign_variable : faulty (framed (num (of (kinds.Plain 7))) same) ≡ Some (mentions (at_node (1 ∷ [])) None (unsigned_variable (kinds.Plain 7)))
a_frame_with_a_foreign_variable = refl

a_call_without_reason : faulty (framed frame same) ≡ Some (certificate (1 ∷ []) (step [] rules.Same))
a_call_without_reason = refl

-- main needs nothing at its end
abbrev main_with : AssertionTree → CertTree → EntryTree
main_with a c = record {
  function = 1;
  spec = record { pre = more_costs (of (kinds.Plain 0)); post = natural 0 };
  entry = arithmetic [];
  body = three_parts (call a c) leaf leaf;
}

-- cost f and num n times cost f are at least 0
abbrev not_negative : CertTree
not_negative = fact (cost_range 0) (fact (num_bounds (of (kinds.Plain 0))) (arithmetic (item 1 ∷ pair 2 1 ∷ [])))

a_call_with_a_frame : fault_of (main_with (natural 0) not_negative) ≡ None
a_call_with_a_frame = refl

-- the frame is part of what is needed before the call
a_frame_too_much : fault_of (main_with (natural 1) (fact (cost_range 0) (fact (num_bounds (of (kinds.Plain 0))) (arithmetic (item 0 ∷ item 1 ∷ pair 2 1 ∷ []))))) ≡ Some (entry (step [] rules.Arithmetic))
a_frame_too_much = refl

abbrev no_specs : ProofsTree
no_specs = record { defines = []; functions = [] }

-- f has no entry
a_call_without_spec : entry_fault unit no_specs of_main ≡ Some (no_spec (0 ∷ []) 0)
a_call_without_spec = refl

a_framed_call_without_spec : entry_fault unit no_specs (main_with (natural 0) not_negative) ≡ Some (no_spec (0 ∷ []) 0)
a_framed_call_without_spec = refl

-- that the callee has a specification comes before what the frame mentions
abbrev foreign_frame : EntryTree
foreign_frame = main_with (num (of (kinds.Plain 7))) same

a_foreign_frame : fault_of foreign_frame ≡ Some (mentions (at_node (0 ∷ [])) None (unsigned_variable (kinds.Plain 7)))
a_foreign_frame = refl

no_spec_before_mentions : entry_fault unit no_specs foreign_frame ≡ Some (no_spec (0 ∷ []) 0)
no_spec_before_mentions = refl

abbrev with_spec : SpecTree → ProofsTree
with_spec s = record { defines = []; functions = record { function = 0; spec = s; entry = same; body = leaf } ∷ [] }

-- f gives nothing back
an_unbalanced_call : entry_fault unit (with_spec (record { pre = costs (of (kinds.Plain 0)); post = natural 0 })) of_main ≡ Some (shape (0 ∷ []))
an_unbalanced_call = refl

-- main's call of f has no destination
abbrev calls_f : AssertionTree → EntryTree
calls_f a = record {
  function = 1;
  spec = record { pre = a; post = natural 0 };
  entry = same;
  body = three_parts (call (natural 0) same) leaf leaf;
}

a_result_without_destination : entry_fault unit (with_spec (record { pre = natural 0; post = num (of kinds.Returned) })) (calls_f (natural 0)) ≡ Some (mentions (at_node (0 ∷ [])) (Some 0) (unsigned_variable kinds.Returned))
a_result_without_destination = refl

-- ---- calls are counted: no call gives anything back, so nothing is left at an end

abbrev in_calls : ProofsTree → EntryTree → Option DerivFault
in_calls p e = entry_fault_for Calls unit p e

-- at the end nothing is needed, and where n is 0 nothing else is
abbrev by_cases_counted : CertTree
by_cases_counted =
    split (eq (of (kinds.Plain 0)) (number (pos 0)))
    (fact (num_bounds (of (kinds.Plain 0))) (fact (cost_range 0) (arithmetic (pair 3 5 ∷ []))))
    counted

abbrev pub counted_f : EntryTree
counted_f = record {
  function = 0;
  spec = record { pre = costs (of (kinds.Plain 0)); post = natural 0 };
  entry = by_cases_counted;
  body = three_parts either_way (call (natural 0) (arithmetic [])) leaf;
}

abbrev pub counted_main : EntryTree
counted_main = record {
  function = 1;
  spec = record { pre = more_costs (of (kinds.Plain 0)); post = natural 0 };
  entry = arithmetic [];
  body = three_parts (call (natural 0) (arithmetic [])) leaf leaf;
}

abbrev pub counted_proofs : ProofsTree
counted_proofs = record { defines = []; functions = counted_f ∷ counted_main ∷ [] }

f_is_counted : in_calls counted_proofs counted_f ≡ None
f_is_counted = refl

main_is_counted : in_calls counted_proofs counted_main ≡ None
main_is_counted = refl

-- on the stack the call gives back its cost, which is more than nothing by that cost
not_on_the_stack : entry_fault unit counted_proofs counted_f ≡ Some (certificate (1 ∷ []) (step [] rules.Arithmetic))
not_on_the_stack = refl

abbrev stacked_f : EntryTree
stacked_f = record counted_f { body = three_parts either_way (call (natural 0) (fact (cost_range 0) (arithmetic (item 1 ∷ [])))) leaf }

-- with a certificate for that the same specification holds there too
the_same_on_the_stack : entry_fault unit counted_proofs stacked_f ≡ None
the_same_on_the_stack = refl

-- and where calls are counted its cost isn't there behind the call
no_cost_behind_a_call : in_calls counted_proofs stacked_f ≡ Some (certificate (1 ∷ []) (step (0 ∷ []) rules.Arithmetic))
no_cost_behind_a_call = refl

-- what is balanced on the stack has no rule here
no_balanced_call : in_calls proofs (with_entry (by_cases counted) body) ≡ Some (shape (1 ∷ []))
no_balanced_call = refl

-- that comes before the callee's specification
shape_before_spec : in_calls no_specs of_main ≡ Some (shape (0 ∷ []))
shape_before_spec = refl

a_counted_call_without_spec : in_calls no_specs counted_main ≡ Some (no_spec (0 ∷ []) 0)
a_counted_call_without_spec = refl

-- a balanced specification gives back what is never given back
abbrev giving : ProofsTree
giving = record { defines = []; functions = record counted_f { spec = spec } ∷ [] }

nothing_to_give_back : in_calls giving (record counted_f { spec = spec }) ≡ Some (certificate (1 ∷ []) (step [] rules.Arithmetic))
nothing_to_give_back = refl

-- ---- specifications

abbrev with_spec_of_f : AssertionTree → AssertionTree → Option DerivFault
with_spec_of_f p q = fault_of (record { function = 0; spec = record { pre = p; post = q }; entry = same; body = body })

a_pre_with_an_old_value : with_spec_of_f (costs (of (kinds.Old 0))) (natural 0) ≡ Some (mentions in_precondition None (unsigned_variable (kinds.Old 0)))
a_pre_with_an_old_value = refl

a_pre_with_a_temporary : with_spec_of_f (costs (of (kinds.Temporary 0))) (natural 0) ≡ Some (mentions in_precondition None (unsigned_variable (kinds.Temporary 0)))
a_pre_with_a_temporary = refl

a_post_with_a_present_value : with_spec_of_f (natural 0) (costs (of (kinds.Plain 0))) ≡ Some (mentions in_postcondition None (unsigned_variable (kinds.Plain 0)))
a_post_with_a_present_value = refl

-- the body ends in a return, so the postcondition may speak of the result; before the return that is $0 + 1, which is the
-- call's destination
the_destination_behind_a_call : with_spec_of_f (natural 0) (num (of kinds.Returned)) ≡ Some (mentions (at_node (1 ∷ [])) None (unsigned_variable (kinds.Temporary 0)))
the_destination_behind_a_call = refl

-- ---- definitions

abbrev later : ProofsTree
later = record {
  defines =
      record { name = codes "h"; body = AssertionTree.named (codes "k") }
      ∷ record { name = codes "k"; body = natural 0 }
      ∷ [];
  functions = [];
}

a_name_before_its_definition : entry_fault unit later of_main ≡ Some (bad_order 0)
a_name_before_its_definition = refl

-- ---- a parameter that has a block

plain_is_mentioned : in_body f (kinds.Plain 0) ≡ true
plain_is_mentioned = refl

placed_is_not : in_body (record f { parameters = record { name = codes "n"; place = Placed 0 scalars.Unsigned } ∷ [] }) (kinds.Plain 0) ≡ false
placed_is_not = refl
