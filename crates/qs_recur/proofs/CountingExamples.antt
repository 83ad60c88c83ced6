-- Functions that count a parameter down, and functions just outside in each point, computed from the definitions.
use Rattle.std.proofs.Common.{◌≡◌, ◌≤◌, ℕ, zero, suc, List, [], ◌∷◌, arith, codes, pos, Some, None, inl, refl}
use Rattle.std.specs.Prelude.{◌==◌, Bool, true, false, if◌then◌else◌, Option, is_none, option_map, map, replicate}
use Rattle.std.proofs.lemmas.Bool.{ne_eqb}
use Rattle.std.specs.List.{list_all}
use Rattle.qs_memory.specs.declared.scalar.Scalar.{Scalar}
use Rattle.qs_memory.specs.declared.scalar.Scalar.TheVariants as scalars
use Rattle.qs_memory.specs.declared.operation.Signedness.TheVariants.{Unsigned}
use Rattle.qs_memory.specs.declared.operation.Arithmetic.{Arithmetic}
use Rattle.qs_memory.specs.declared.operation.Arithmetic.TheVariants as arithmetics
use Rattle.qs_memory.specs.declared.operation.Comparison.{Comparison}
use Rattle.qs_memory.specs.declared.operation.Comparison.TheVariants as comparisons
use Rattle.qs_memory.specs.declared.operation.BinaryOperation.TheVariants as binaries
use Rattle.qs_memory.specs.declared.operation.UnaryOperation.TheVariants as unaries
use Rattle.qs_calls.specs.declared.callee.Callee.TheVariants.{Function, PutChar}
use Rattle.qs_calls.specs.declared.parameter.Parameter.TheVariants.{Plain, Placed}
use Rattle.qs_assert.specs.declared.variable.VarKind.TheVariants as kinds
use Rattle.qs_assert.specs.Trees.{TermTree, AssertionTree, variable, bits, natural, cost, total, greatest, assertions_of}
use Rattle.qs_core.specs.declared.labels.CoreLabel.TheVariants.{Case}
use Rattle.qs_entail.specs.Certificates.{same}
use Rattle.qs_core.specs.declared.numbers.Target.TheVariants as targets
use Rattle.qs_core.specs.Trees as core
use Rattle.qs_core.specs.Trees.{CoreExprTree, CoreStmtTree, CoreFunctionTree, CoreUnitTree, stmts_of}
use Rattle.qs_triples.specs.Derivations.{leaf, SpecTree, EntryTree, ProofsTree}
use Rattle.qs_triples.specs.Entries.{entry_fault}
use Rattle.qs_recur.specs.Entries.{proofs_of, entries_along}
use Rattle.qs_recur.specs.Needs.{Preconditions, AreNeeds, need, unsigned, costs, balanced}
use Rattle.qs_recur.specs.Recursions.{pres_of, left_of, IsUncounted}

abbrev n : CoreExprTree
n = core.variable scalars.Unsigned 0

abbrev number : ℕ → CoreExprTree
number k = core.literal scalars.Unsigned k

abbrev compared : Comparison → CoreExprTree → CoreExprTree → CoreExprTree
compared op a b = core.binary (binaries.Compare op Unsigned) a b

abbrev computed : Arithmetic → CoreExprTree → CoreExprTree → CoreExprTree
computed op a b = core.binary (binaries.Arithmetic op Unsigned) a b

abbrev less : ℕ → CoreExprTree
less k = computed arithmetics.Subtract n (number k)

abbrev quotient : ℕ → CoreExprTree
quotient k = computed arithmetics.Divide n (number k)

abbrev call_of : ℕ → CoreExprTree → CoreStmtTree
call_of g e = core.call None (Function (record { 0 = g })) (e ∷ [])

abbrev returned : CoreStmtTree
returned = core.return None

abbrev if_then : CoreExprTree → CoreStmtTree → CoreStmtTree
if_then e s = core.branch e s core.skip

-- void name(unsigned n) { .. }
abbrev function : List ℕ → List CoreStmtTree → CoreFunctionTree
function name body = record {
  name = name;
  parameters = record { name = codes "n"; place = Plain 0 } ∷ [];
  variables = record { name = codes "n"; ordinal = 1; scalar = scalars.Unsigned } ∷ [];
  temporaries = [];
  blocks = [];
  result_type = None;
  body = stmts_of body;
}

abbrev unit_of : List CoreFunctionTree → CoreUnitTree
unit_of functions = record { functions = functions; main = 0; data_blocks = [] }

abbrev nothing_known : Preconditions
nothing_known g = None

-- what f needs, alone in its unit
abbrev need_of : List CoreStmtTree → Option AssertionTree
need_of body = need (unit_of (function (codes "f") body ∷ [])) nothing_known 0

-- as many costs of f as n, and as n has bits
abbrev by_value : Option AssertionTree
by_value = Some (costs (variable (unsigned (kinds.Plain 0))) 0)

abbrev by_length : Option AssertionTree
by_length = Some (costs (bits (variable (unsigned (kinds.Plain 0)))) 0)

-- ---- functions that count

-- if (n == 0u) return; f(n - 1u);
countdown : need_of (if_then (compared comparisons.Equal n (number 0)) returned ∷ call_of 0 (less 1) ∷ []) ≡ by_value
countdown = refl

-- if (n >= 10u) f(n / 10u); putchar(48);
digits : need_of (if_then (compared comparisons.GreaterOrEqual n (number 10)) (call_of 0 (quotient 10)) ∷ core.call None PutChar (core.literal scalars.Int 48 ∷ []) ∷ []) ≡ by_length
digits = refl

-- if (n) { f(n / 2u); f(n / 2u); }
a_tree_walk : need_of (if_then n (core.seq (stmts_of (call_of 0 (quotient 2) ∷ call_of 0 (quotient 2) ∷ []))) ∷ []) ≡ by_length
a_tree_walk = refl

-- if (n <= 1u) return; f(n - 1u); f(n - 2u);
fibonacci : need_of (if_then (compared comparisons.LessOrEqual n (number 1)) returned ∷ call_of 0 (less 1) ∷ call_of 0 (less 2) ∷ []) ≡ by_value
fibonacci = refl

-- if (n < 2u) return; f(n - 1u); f(n / 2u);
not_each_call_divides : need_of (if_then (compared comparisons.Less n (number 2)) returned ∷ call_of 0 (less 1) ∷ call_of 0 (quotient 2) ∷ []) ≡ by_value
not_each_call_divides = refl

-- if (n < 5u) return; if (n < 9u) return; f(n - 7u);
the_test_is_the_second : need_of (if_then (compared comparisons.Less n (number 5)) returned ∷ if_then (compared comparisons.Less n (number 9)) returned ∷ call_of 0 (less 7) ∷ []) ≡ by_value
the_test_is_the_second = refl

-- if (5u <= n) { for (;;) { f(n - 5u); break; } }
in_a_loop : need_of (if_then (compared comparisons.LessOrEqual (number 5) n) (core.loop (core.seq (stmts_of (call_of 0 (less 5) ∷ core.break ∷ []))) core.skip) ∷ []) ≡ by_value
in_a_loop = refl

-- if (n <= 4294967295u) return; f(n / 3u);
the_greatest_number : need_of (if_then (compared comparisons.LessOrEqual n (number 4294967295)) returned ∷ call_of 0 (quotient 3) ∷ []) ≡ by_length
the_greatest_number = refl

-- if (4u < n) f(n - 5u);
more_than_four : need_of (if_then (compared comparisons.Less (number 4) n) (call_of 0 (less 5)) ∷ []) ≡ by_value
more_than_four = refl

-- if (n <= 4u) return; f(n - 5u);
at_most_four : need_of (if_then (compared comparisons.LessOrEqual n (number 4)) returned ∷ call_of 0 (less 5) ∷ []) ≡ by_value
at_most_four = refl

-- if (n < 5u) return; f(n - 5u);
below_five : need_of (if_then (compared comparisons.Less n (number 5)) returned ∷ call_of 0 (less 5) ∷ []) ≡ by_value
below_five = refl

-- ---- just outside

abbrev left_out : Option AssertionTree
left_out = None

-- if (n == 0u) return; f(n - 2u);
more_than_the_test_gives : need_of (if_then (compared comparisons.Equal n (number 0)) returned ∷ call_of 0 (less 2) ∷ []) ≡ left_out
more_than_the_test_gives = refl

-- if (4u < n) f(n - 6u);
six_of_more_than_four : need_of (if_then (compared comparisons.Less (number 4) n) (call_of 0 (less 6)) ∷ []) ≡ left_out
six_of_more_than_four = refl

-- if (5u <= n) f(n - 6u);
six_of_five : need_of (if_then (compared comparisons.LessOrEqual (number 5) n) (call_of 0 (less 6)) ∷ []) ≡ left_out
six_of_five = refl

-- if (n <= 4u) return; f(n - 6u);
six_past_four : need_of (if_then (compared comparisons.LessOrEqual n (number 4)) returned ∷ call_of 0 (less 6) ∷ []) ≡ left_out
six_past_four = refl

-- if (n < 5u) return; f(n - 6u);
six_from_five : need_of (if_then (compared comparisons.Less n (number 5)) returned ∷ call_of 0 (less 6) ∷ []) ≡ left_out
six_from_five = refl

-- if (n == 0u) return; f(n - 0u);
nothing_taken_off : need_of (if_then (compared comparisons.Equal n (number 0)) returned ∷ call_of 0 (less 0) ∷ []) ≡ left_out
nothing_taken_off = refl

-- if (n == 0u) return; f(n / 1u);
divided_by_one : need_of (if_then (compared comparisons.Equal n (number 0)) returned ∷ call_of 0 (quotient 1) ∷ []) ≡ left_out
divided_by_one = refl

-- if (n < 0u) return; f(n - 1u);
no_least_value : need_of (if_then (compared comparisons.Less n (number 0)) returned ∷ call_of 0 (less 1) ∷ []) ≡ left_out
no_least_value = refl

-- if (!n) return; f(n - 1u);
a_negation_is_no_test : need_of (if_then (core.unary unaries.Not n) returned ∷ call_of 0 (less 1) ∷ []) ≡ left_out
a_negation_is_no_test = refl

-- if (0u == n) return; f(n - 1u);
the_number_first : need_of (if_then (compared comparisons.Equal (number 0) n) returned ∷ call_of 0 (less 1) ∷ []) ≡ left_out
the_number_first = refl

-- if (n == 0u) { } f(n - 1u);
the_small_ones_go_on : need_of (if_then (compared comparisons.Equal n (number 0)) core.skip ∷ call_of 0 (less 1) ∷ []) ≡ left_out
the_small_ones_go_on = refl

-- if (n >= 1u) { } f(n - 1u);
a_call_behind : need_of (if_then (compared comparisons.GreaterOrEqual n (number 1)) core.skip ∷ call_of 0 (less 1) ∷ []) ≡ left_out
a_call_behind = refl

-- f(n - 1u); if (n == 0u) return;
a_call_before : need_of (call_of 0 (less 1) ∷ if_then (compared comparisons.Equal n (number 0)) returned ∷ []) ≡ left_out
a_call_before = refl

-- if (n == 0u) return; n = n - 1u; f(n - 1u);
the_counter_is_assigned : need_of (if_then (compared comparisons.Equal n (number 0)) returned ∷ core.assign (targets.Variable 0) (less 1) ∷ call_of 0 (less 1) ∷ []) ≡ left_out
the_counter_is_assigned = refl

-- if (n == 0u) return; if (n == 7u) n = 1u; f(n - 1u);
in_one_branch : need_of (if_then (compared comparisons.Equal n (number 0)) returned ∷ if_then (compared comparisons.Equal n (number 7)) (core.assign (targets.Variable 0) (number 1)) ∷ call_of 0 (less 1) ∷ []) ≡ left_out
in_one_branch = refl

-- ---- other functions that a counting one calls

-- f calls g, which calls nothing: the cost of g, what it needs, and the costs of f itself
abbrev calls_g : CoreUnitTree
calls_g = unit_of (
    function (codes "f") (if_then (compared comparisons.Equal n (number 0)) returned ∷ call_of 1 n ∷ call_of 0 (less 1) ∷ [])
    ∷ function (codes "g") []
    ∷ []
    )

abbrev knows_g : AssertionTree → Preconditions
knows_g pre zero = None
knows_g pre (suc zero) = Some pre
knows_g pre (suc (suc g)) = None

a_helper : need calls_g (knows_g (natural 0)) 0 ≡ Some (total (assertions_of (total (assertions_of (cost 1 ∷ natural 0 ∷ [])) ∷ costs (variable (unsigned (kinds.Plain 0))) 0 ∷ [])))
a_helper = refl

a_helper_without_entry : need calls_g nothing_known 0 ≡ left_out
a_helper_without_entry = refl

-- the precondition of a helper that counts itself mentions a variable
a_helper_that_counts : need calls_g (knows_g (costs (variable (unsigned (kinds.Plain 0))) 1)) 0 ≡ left_out
a_helper_that_counts = refl

a_helper_with_a_maximum : need calls_g (knows_g (greatest (assertions_of (cost 1 ∷ cost 1 ∷ [])))) 0 ≡ left_out
a_helper_with_a_maximum = refl

-- ---- functions that pass

-- void f(unsigned n) { g(n); g(7u); }
abbrev passes_n : List CoreStmtTree → CoreUnitTree
passes_n body = unit_of (function (codes "f") body ∷ function (codes "g") (call_of 1 n ∷ []) ∷ [])

abbrev of_g : Preconditions
of_g = knows_g (costs (variable (unsigned (kinds.Plain 0))) 1)

abbrev pays_g : AssertionTree → AssertionTree
pays_g a = total (assertions_of (cost 1 ∷ a ∷ []))

one_call : need (passes_n (call_of 1 n ∷ [])) of_g 0 ≡ Some (pays_g (costs (variable (unsigned (kinds.Plain 0))) 1))
one_call = refl

two_calls :
    need (passes_n (call_of 1 n ∷ call_of 1 (number 7) ∷ [])) of_g 0
    ≡ Some (greatest (assertions_of (pays_g (costs (variable (unsigned (kinds.Plain 0))) 1) ∷ pays_g (costs (TermTree.number (pos 7)) 1) ∷ [])))
two_calls = refl

no_call : need (passes_n []) of_g 0 ≡ Some (natural 0)
no_call = refl

-- g(n + 1u);
not_plain : need (passes_n (call_of 1 (computed arithmetics.Add n (number 1)) ∷ [])) of_g 0 ≡ left_out
not_plain = refl

-- n = 1u; g(n);
not_fixed : need (passes_n (core.assign (targets.Variable 0) (number 1) ∷ call_of 1 n ∷ [])) of_g 0 ≡ left_out
not_fixed = refl

-- ---- which parameter

-- void f(unsigned n, unsigned m) { if (n == 0u) return; if (m == 0u) return; f(n - 1u, m - 1u); }
abbrev m : CoreExprTree
m = core.variable scalars.Unsigned 1

abbrev two_parameters : List CoreStmtTree → CoreFunctionTree
two_parameters body = record (function (codes "f") body) {
  parameters = record { name = codes "n"; place = Plain 0 } ∷ record { name = codes "m"; place = Plain 1 } ∷ [];
  variables = record { name = codes "n"; ordinal = 1; scalar = scalars.Unsigned } ∷ record { name = codes "m"; ordinal = 1; scalar = scalars.Unsigned } ∷ [];
}

abbrev both_less : CoreStmtTree
both_less = core.call None (Function (record { 0 = 0 })) (less 1 ∷ computed arithmetics.Subtract m (number 1) ∷ [])

the_first_counts :
    need (unit_of (two_parameters (if_then (compared comparisons.Equal n (number 0)) returned ∷ if_then (compared comparisons.Equal m (number 0)) returned ∷ both_less ∷ []) ∷ [])) nothing_known 0 ≡ by_value
the_first_counts = refl

-- without the test of n
the_second_counts :
    need (unit_of (two_parameters (if_then (compared comparisons.Equal m (number 0)) returned ∷ both_less ∷ []) ∷ [])) nothing_known 0
    ≡ Some (costs (variable (unsigned (kinds.Plain 1))) 0)
the_second_counts = refl

abbrev countdown_body : List CoreStmtTree
countdown_body = if_then (compared comparisons.Equal n (number 0)) returned ∷ call_of 0 (less 1) ∷ []

-- the same with a parameter of another type, or whose address is taken
abbrev typed : Scalar → CoreFunctionTree
typed s = record (function (codes "f") countdown_body) { variables = record { name = codes "n"; ordinal = 1; scalar = s } ∷ [] }

an_int_counter : need (unit_of (typed scalars.Int ∷ [])) nothing_known 0 ≡ left_out
an_int_counter = refl

a_char_counter : need (unit_of (typed scalars.Char ∷ [])) nothing_known 0 ≡ left_out
a_char_counter = refl

a_placed_counter : need (unit_of (record (function (codes "f") countdown_body) { parameters = record { name = codes "n"; place = Placed 0 scalars.Unsigned } ∷ [] } ∷ [])) nothing_known 0 ≡ left_out
a_placed_counter = refl

-- ---- switches

-- switch (n) { case 0: ; .. } with so many cases, and then the countdown
abbrev switched : ℕ → List CoreStmtTree
switched cases = core.switch n (replicate cases (Case 0 0)) (stmts_of (core.skip ∷ [])) ∷ countdown_body

as_many_cases_as_there_may_be : need_of (switched 250) ≡ by_value
as_many_cases_as_there_may_be = refl

one_case_more : need_of (switched 251) ≡ left_out
one_case_more = refl

-- ---- two helpers

abbrev calls_two : CoreUnitTree
calls_two = unit_of (
    function (codes "f") (if_then (compared comparisons.Equal n (number 0)) returned ∷ call_of 2 n ∷ call_of 1 n ∷ call_of 2 n ∷ call_of 0 (less 1) ∷ [])
    ∷ function (codes "g") []
    ∷ function (codes "h") (call_of 1 n ∷ [])
    ∷ []
    )

abbrev knows_two : Preconditions
knows_two zero = None
knows_two (suc zero) = Some (natural 0)
knows_two (suc (suc zero)) = Some (total (assertions_of (cost 1 ∷ natural 0 ∷ [])))
knows_two (suc (suc (suc g))) = None

-- in order of definition, each once
two_helpers :
    need calls_two knows_two 0
    ≡ Some (total (assertions_of (total (assertions_of (cost 1 ∷ natural 0 ∷ cost 2 ∷ total (assertions_of (cost 1 ∷ natural 0 ∷ [])) ∷ [])) ∷ costs (variable (unsigned (kinds.Plain 0))) 0 ∷ [])))
two_helpers = refl

-- h passes
the_second_helper_needs_the_first : need calls_two knows_two 2 ≡ knows_two 2
the_second_helper_needs_the_first = refl

-- ---- a whole unit: f counts, g passes, and h, which calls f at n + 1, is left out

abbrev whole : CoreUnitTree
whole = unit_of (
    function (codes "f") countdown_body
    ∷ function (codes "g") (call_of 0 n ∷ [])
    ∷ function (codes "h") (call_of 0 (computed arithmetics.Add n (number 1)) ∷ [])
    ∷ []
    )

abbrev counted : AssertionTree
counted = costs (variable (unsigned (kinds.Plain 0))) 0

abbrev entry_with : ℕ → AssertionTree → EntryTree
entry_with f pre = record { function = f; spec = balanced pre; entry = same; body = leaf }

abbrev whole_proofs : ProofsTree
whole_proofs = record { defines = []; functions = entry_with 0 counted ∷ entry_with 1 (total (assertions_of (cost 0 ∷ counted ∷ []))) ∷ [] }

-- a number that is neither 0 nor 1 has no entry
neither_has : (a b : Bool) (d e : EntryTree) → a ≡ false → b ≡ false → option_map (λ (s : SpecTree). s.pre) (option_map (λ (e : EntryTree). e.spec) (if a then Some d else if b then Some e else None)) ≡ None
neither_has true b d e h i = cc
neither_has false true d e h i = cc
neither_has false false d e h i = refl

is_greater : (n f : ℕ) → n ≤ 1 → n ≡ suc (suc (suc f)) → ⊥
is_greater n f l e = omega (arith, l, e)

whole_needs : AreNeeds whole (pres_of whole_proofs)
whole_needs zero = refl
whole_needs (suc zero) = refl
whole_needs (suc (suc zero)) = refl
whole_needs (suc (suc (suc f))) =
    neither_has (0 == suc (suc (suc f))) (1 == suc (suc (suc f))) (entry_with 0 counted) (entry_with 1 (total (assertions_of (cost 0 ∷ counted ∷ []))))
    (ne_eqb 0 (suc (suc (suc f))) (is_greater 0 f (omega arith))) (ne_eqb 1 (suc (suc (suc f))) (is_greater 1 f (omega arith)))

h_is_left_out : left_of whole whole_proofs ≡ 2 ∷ []
h_is_left_out = refl

-- ---- cycles

-- f and g call each other
two_in_turn : IsUncounted (unit_of (function (codes "f") (call_of 1 n ∷ []) ∷ function (codes "g") (call_of 0 n ∷ []) ∷ [])) (0 ∷ 1 ∷ [])
two_in_turn = record { circle = (refl, refl); uncounted = inl (record { first = 0; second = 1; one = refl; other = refl; differ = λ e. cc }) }

-- ---- what is written is derived

-- whether each entry along this order is derived, in a file of these alone
abbrev all_derived : CoreUnitTree → List ℕ → Bool
all_derived u fs = list_all (λ (e : EntryTree). is_none (entry_fault u (proofs_of (entries_along u fs [])) e)) (entries_along u fs [])

abbrev functions_along : CoreUnitTree → List ℕ → List ℕ
functions_along u fs = map (λ (e : EntryTree). e.function) (entries_along u fs [])

whole_along : functions_along whole (0 ∷ 1 ∷ 2 ∷ []) ≡ 0 ∷ 1 ∷ []
whole_along = refl

whole_derived : all_derived whole (0 ∷ 1 ∷ 2 ∷ []) ≡ true
whole_derived = refl

-- f counts by the bits of n; g passes n, 7 and n again
abbrev halves : CoreUnitTree
halves = unit_of (
    function (codes "f") (if_then (compared comparisons.Less n (number 3)) returned ∷ call_of 0 (quotient 3) ∷ call_of 0 (quotient 2) ∷ [])
    ∷ function (codes "g") (call_of 0 n ∷ call_of 0 (number 7) ∷ call_of 0 n ∷ [])
    ∷ []
    )

halves_derived : all_derived halves (0 ∷ 1 ∷ []) ≡ true
halves_derived = refl

-- f counts with two helpers
two_helpers_derived : all_derived calls_two (1 ∷ 2 ∷ 0 ∷ []) ≡ true
two_helpers_derived = refl

-- a switch stands last: behind it, where none of its cases is taken, what was needed at the entry is left
abbrev ends_in_switch : CoreUnitTree
ends_in_switch = unit_of (
    function (codes "f") (
    if_then (compared comparisons.Equal n (number 0)) returned ∷ call_of 0 (less 1)
    ∷ core.switch n (Case 1 0 ∷ Case 2 0 ∷ Case 1 0 ∷ []) (stmts_of (call_of 0 (less 1) ∷ [])) ∷ []
    )
    ∷ []
    )

ends_in_switch_derived : all_derived ends_in_switch (0 ∷ []) ≡ true
ends_in_switch_derived = refl

ends_in_switch_counts : functions_along ends_in_switch (0 ∷ []) ≡ 0 ∷ []
ends_in_switch_counts = refl
