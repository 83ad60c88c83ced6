-- Certificates and their verdicts, computed from the definitions.
use Rattle.std.proofs.Common.{◌≡◌, ℕ, zero, suc, ◌+◌, ◌-◌, ◌^◌, List, [], ◌∷◌, refl}
use Rattle.std.specs.Prelude.{pos, negsuc, map, Option, Some, None}
use Rattle.qs_assert.specs.declared.define.Define.{Define}
use Rattle.qs_assert.specs.declared.variable.Var.{Var}
use Rattle.qs_assert.specs.declared.variable.VarKind.TheVariants.{Plain}
use Rattle.qs_assert.specs.declared.variable.NumberType.{NumberType}
use Rattle.qs_assert.specs.declared.variable.NumberType.TheVariants.{Int, Unsigned, Char}
use Rattle.qs_assert.specs.Trees.{TermTree, number, variable, sub, wrapu, bits, CondTree, le, eq, not, AssertionTree, natural, infinity, cost, num, total, greatest, product, guard, choose, named, AssertionTrees, no_assertions, assertion_and, assertions_of}
use Rattle.qs_poly.specs.declared.fault.PolyFault.{PolyFault}
use Rattle.qs_poly.specs.declared.fault.PolyFault.TheVariants.{Wide, ManyTerms, HighDegree}
use Rattle.qs_entail.specs.declared.fault.Rule.{Rule}
use Rattle.qs_entail.specs.declared.fault.Rule.TheVariants as rules
use Rattle.qs_entail.specs.Certificates.{Item, once, twice, FactTree, range, cost_range, apart, num_is, num_bounds, wrapu_is, wraps_is, wrapu_bounds, wraps_bounds, quotient_bounds, bits_bound, bits_half, bits_rise, CertTree, same, via, pick, all, parts, assume, drop, split, contradict, arithmetic, by_definition, fact}
use Rattle.qs_entail.specs.Faults.{CertFault, step, limit}
use Rattle.qs_entail.specs.Verdicts.{verdict}
use Rattle.qs_entail.specs.View.{certs_of}

-- ---- answers

abbrev fails : List ℕ → Rule → Option CertFault
fails path rule = Some (step path rule)

abbrev passes : List ℕ → PolyFault → Option CertFault
passes path fault = Some (limit path fault)

-- without hypotheses and definitions
abbrev answers : AssertionTree → AssertionTree → List CertTree → List (Option CertFault)
answers p q = map (verdict [] [] p q)

-- whether p is at least 0 by a fact and then these items
abbrev shows : List CondTree → FactTree → List Item → ℕ → Option CertFault
shows hypotheses f items p = verdict hypotheses [] (natural p) (natural 0) (fact f (arithmetic items))

-- the first two polynomials behind 1
abbrev both : List Item
both = once 1 (pos 1) ∷ once 1 (pos 2) ∷ []

-- item i once
abbrev one : ℕ → List Item
one i = once 1 (pos i) ∷ []

-- ---- terms

abbrev x : NumberType → Var
x type = record { kind = Plain 0; number = type }

abbrev n : TermTree
n = variable (x Unsigned)

abbrev constant : ℕ → TermTree
constant k = number (pos k)

-- (sub n 1)
abbrev n_less : TermTree
n_less = sub n (constant 1)

abbrev n_is_zero : CondTree
n_is_zero = eq n (constant 0)

-- ---- the rules

by_same : answers (natural 5) (natural 5) (same ∷ []) ≡ None ∷ []
by_same = refl

by_same_of_others : answers (natural 5) (natural 3) (same ∷ []) ≡ fails [] rules.Same ∷ []
by_same_of_others = refl

-- 5 - 3 is 2 * 1
differences : answers (natural 5) (natural 3) (arithmetic (once 2 (pos 0) ∷ []) ∷ arithmetic (once 1 (pos 0) ∷ []) ∷ arithmetic (once 2 (pos 1) ∷ []) ∷ arithmetic (once 2 (negsuc 0) ∷ []) ∷ []) ≡ None ∷ fails [] rules.Arithmetic ∷ fails [] rules.Arithmetic ∷ fails [] rules.Arithmetic ∷ []
differences = refl

-- only plain assertions have polynomials
not_plain : answers (greatest no_assertions) (natural 0) (arithmetic [] ∷ []) ≡ fails [] rules.Arithmetic ∷ []
not_plain = refl

-- from p to 4 and from 4 to q, by 1 each
abbrev by_four : CertTree
by_four = via (natural 4) (arithmetic (one 0)) (arithmetic (one 0))

in_two_steps : answers (natural 5) (natural 3) (by_four ∷ []) ≡ None ∷ []
in_two_steps = refl

first_step_fails : answers (natural 6) (natural 3) (by_four ∷ []) ≡ fails (0 ∷ []) rules.Arithmetic ∷ []
first_step_fails = refl

second_step_fails : answers (natural 5) (natural 2) (by_four ∷ []) ≡ fails (1 ∷ []) rules.Arithmetic ∷ []
second_step_fails = refl

abbrev greatest_of : ℕ → ℕ → AssertionTree
greatest_of a b = greatest (assertions_of (natural a ∷ natural b ∷ []))

picks : answers (greatest_of 5 7) (natural 7) (map (λ i. pick i same) (pos 1 ∷ pos 0 ∷ pos 2 ∷ negsuc 0 ∷ [])) ≡ None ∷ fails (0 ∷ []) rules.Same ∷ fails [] rules.Pick ∷ fails [] rules.Pick ∷ []
picks = refl

picked_of_no_greatest : answers (natural 7) (natural 7) (pick (pos 0) same ∷ []) ≡ fails [] rules.Pick ∷ []
picked_of_no_greatest = refl

all_members : map (λ q. verdict [] [] (natural 7) q (all (certs_of (same ∷ same ∷ [])))) (greatest_of 7 7 ∷ greatest_of 7 6 ∷ natural 7 ∷ []) ≡ None ∷ fails (1 ∷ []) rules.Same ∷ fails [] rules.All ∷ []
all_members = refl

too_many_members : answers (natural 7) (greatest_of 7 7) (all (certs_of (same ∷ same ∷ same ∷ [])) ∷ []) ≡ fails [] rules.All ∷ []
too_many_members = refl

abbrev sum_of : ℕ → ℕ → AssertionTree
sum_of a b = total (assertions_of (natural a ∷ natural b ∷ []))

abbrev two_parts : CertTree
two_parts = parts (certs_of (same ∷ same ∷ []))

by_summands : map (λ q. verdict [] [] (sum_of 4 5) q two_parts) (sum_of 4 5 ∷ sum_of 4 6 ∷ natural 4 ∷ []) ≡ None ∷ fails (1 ∷ []) rules.Same ∷ fails [] rules.Parts ∷ []
by_summands = refl

too_few_parts : answers (sum_of 4 5) (sum_of 4 5) (parts (certs_of (same ∷ [])) ∷ []) ≡ fails [] rules.Parts ∷ []
too_few_parts = refl

assumed : map (λ p. verdict [] [] p (natural 5) (assume same)) (guard n_is_zero (natural 5) ∷ natural 5 ∷ []) ≡ None ∷ fails [] rules.Assume ∷ []
assumed = refl

-- 1 and what (not (eq n 0)) pushes show nothing
dropped_without_reason : map (λ q. verdict [] [] (natural 5) q (drop (contradict (one 0)) same)) (guard n_is_zero (natural 5) ∷ natural 5 ∷ []) ≡ fails (0 ∷ []) rules.Contradict ∷ fails [] rules.DropGuard ∷ []
dropped_without_reason = refl

-- 3 <= 3, whose negation pushes 3 - 3 - 1
dropped : map (λ p. verdict [] [] (natural p) (guard (le (constant 3) (constant 3)) (natural 5)) (drop (contradict (one 1)) same)) (5 ∷ 3 ∷ []) ≡ None ∷ fails (1 ∷ []) rules.Same ∷ []
dropped = refl

abbrev chosen : ℕ → ℕ → AssertionTree
chosen a b = choose n_is_zero (natural a) (natural b)

branches : map (λ q. verdict [] [] (natural 5) q (split n_is_zero same same)) (chosen 5 5 ∷ chosen 5 6 ∷ chosen 6 5 ∷ []) ≡ None ∷ fails (1 ∷ []) rules.Same ∷ fails (0 ∷ []) rules.Same ∷ []
branches = refl

-- 1 <= 0 pushes 0 - 1
contradictions : map (λ k. verdict (le (constant 1) (constant 0) ∷ []) [] (natural 0) infinity (contradict (once k (pos 1) ∷ []))) (1 ∷ 2 ∷ []) ≡ None ∷ fails [] rules.Contradict ∷ []
contradictions = refl

-- h is 5; k has no definition
abbrev definitions : List Define
definitions = record { name = 104 ∷ []; body = natural 5 } ∷ []

by_name : map (λ letter. verdict [] definitions (named (104 ∷ [])) (natural 5) (by_definition (letter ∷ []) same)) (104 ∷ 107 ∷ []) ≡ None ∷ fails [] rules.ByDefinition ∷ []
by_name = refl

-- ---- the facts

-- a cost is at least 0
costs : answers (cost 0) (natural 0) (fact (cost_range 0) (arithmetic (one 1)) ∷ arithmetic (one 1) ∷ []) ≡ None ∷ fails [] rules.Arithmetic ∷ []
costs = refl

-- from the least number of a type to its greatest
types : map (λ type. shows [] (range (x type)) both 4294967295) (Int ∷ Unsigned ∷ []) ≡ None ∷ None ∷ []
types = refl

types_end : map (λ type. shows [] (range (x type)) both 4294967296) (Int ∷ Unsigned ∷ []) ≡ fails (0 ∷ []) rules.Arithmetic ∷ fails (0 ∷ []) rules.Arithmetic ∷ []
types_end = refl

chars : map (shows [] (range (x Char)) both) (255 ∷ 256 ∷ []) ≡ None ∷ fails (0 ∷ []) rules.Arithmetic ∷ []
chars = refl

-- (not (eq n 0)) and (eq n 0): L1 is -n and L2 is n
differ : map (λ i. shows (not n_is_zero ∷ n_is_zero ∷ []) (apart i (one 2)) [] 0) (pos 0 ∷ pos 1 ∷ pos 2 ∷ negsuc 0 ∷ []) ≡ None ∷ fails [] rules.Fact ∷ fails [] rules.Fact ∷ fails [] rules.Fact ∷ []
differ = refl

differ_by : map (λ i. shows (not n_is_zero ∷ n_is_zero ∷ []) (apart (pos 0) (one i)) [] 0) (1 ∷ 0 ∷ []) ≡ None ∷ fails [] rules.Fact ∷ []
differ_by = refl

natural_parts : map (λ k. shows [] (num_is (constant 5) (once k (pos 0) ∷ [])) both 0) (5 ∷ 4 ∷ []) ≡ None ∷ fails [] rules.Fact ∷ []
natural_parts = refl

-- under 2 <= n, num n - 2 is (n - 2) and (num n - n)
at_least_two : map (λ hypotheses. verdict hypotheses [] (num n) (natural 2) (fact (num_bounds n) (arithmetic (once 1 (pos 1) ∷ once 1 (pos 3) ∷ [])))) ((le (constant 2) n ∷ []) ∷ [] ∷ []) ≡ None ∷ fails (0 ∷ []) rules.Arithmetic ∷ []
at_least_two = refl

unsigned_words : map (λ k. shows [] (wrapu_is (constant 5) (once k (pos 0) ∷ []) (once 4294967290 (pos 0) ∷ [])) both 0) (5 ∷ 4 ∷ []) ≡ None ∷ fails [] rules.Fact ∷ []
unsigned_words = refl

-- 5 and 2^31
signed_words : map (λ k. shows [] (wraps_is (constant 5) (once k (pos 0) ∷ []) (once 2147483642 (pos 0) ∷ [])) both 0) (2147483653 ∷ 2147483652 ∷ []) ≡ None ∷ fails [] rules.Fact ∷ []
signed_words = refl

unsigned_bounds : map (shows [] (wrapu_bounds n) both) (4294967295 ∷ 4294967296 ∷ []) ≡ None ∷ fails (0 ∷ []) rules.Arithmetic ∷ []
unsigned_bounds = refl

signed_bounds : map (shows [] (wraps_bounds n) both) (4294967295 ∷ 4294967296 ∷ []) ≡ None ∷ fails (0 ∷ []) rules.Arithmetic ∷ []
signed_bounds = refl

quotients : map (λ k. shows [] (quotient_bounds n k) both 7) (8 ∷ 9 ∷ 0 ∷ []) ≡ None ∷ fails (0 ∷ []) rules.Arithmetic ∷ fails [] rules.Fact ∷ []
quotients = refl

-- the length of n in bits is at least 0, so it is its natural part
lengths : map (λ i. verdict [] [] (natural 0) (natural 0) (fact (bits_bound n) (fact (num_is (bits n) (one i)) (arithmetic [])))) (1 ∷ 0 ∷ []) ≡ None ∷ fails (0 ∷ []) rules.Fact ∷ []
lengths = refl

no_length : shows [] (bits_bound n) (one 1) 0 ≡ fails (0 ∷ []) rules.Arithmetic
no_length = refl

-- the two that `half` adds cancel, where n is at least 1
halves : map (λ hypotheses. shows hypotheses (bits_half n (one 1)) (once 1 (pos 2) ∷ once 1 (pos 3) ∷ []) 0) ((le (constant 1) n ∷ []) ∷ []) ≡ None ∷ []
halves = refl

no_half : shows [] (bits_half n (one 0)) (once 1 (pos 2) ∷ once 1 (pos 3) ∷ []) 0 ≡ fails [] rules.Fact
no_half = refl

-- n - 1 has no more bits than n
rises : shows [] (bits_rise n_less n (one 0)) [] 0 ∷ shows [] (bits_rise n n_less (one 0)) [] 0 ∷ [] ≡ None ∷ fails [] rules.Fact ∷ []
rises = refl

-- ---- limits

abbrev fifth_power : AssertionTree
fifth_power = product (assertions_of (cost 0 ∷ cost 0 ∷ cost 0 ∷ cost 0 ∷ cost 0 ∷ []))

high_degree : answers fifth_power fifth_power (arithmetic [] ∷ same ∷ []) ≡ passes [] HighDegree ∷ None ∷ []
high_degree = refl

-- the costs of so many functions from a number on
abbrev costs_from : ℕ → ℕ → AssertionTrees
costs_from f zero = no_assertions
costs_from f (suc k) = assertion_and (cost f) (costs_from (suc f) k)

-- 8 terms times 9 terms
many_terms : answers (product (assertions_of (total (costs_from 0 8) ∷ total (costs_from 8 9) ∷ []))) (natural 0) (arithmetic [] ∷ []) ≡ passes [] ManyTerms ∷ []
many_terms = refl

wide : answers (natural 0) (natural 0) (arithmetic (once (2 ^ 64 - 1) (pos 0) ∷ []) ∷ []) ≡ passes [] Wide ∷ []
wide = refl

-- ---- the order of faults

-- an item out of range comes before a limit, a limit before an equality
outside_first : answers (natural 0) (natural 0) (arithmetic (once (2 ^ 64 - 1) (pos 0) ∷ once 1 (pos 1) ∷ []) ∷ []) ≡ fails [] rules.Arithmetic ∷ []
outside_first = refl

-- a hypothesis that is too wide: the root's own condition comes first
abbrev too_wide : List CondTree
too_wide = le (constant 0) (constant (2 ^ 56 + 1)) ∷ []

root_first : map (λ q. verdict too_wide [] (natural 5) (natural q) same) (5 ∷ 3 ∷ []) ≡ passes [] Wide ∷ fails [] rules.Same ∷ []
root_first = refl

-- both the condition and its negation are pushed before the first part
abbrev wide_negation : CondTree
wide_negation = le (constant 0) (constant (2 ^ 56))

negation_first : answers (natural 5) (natural 3) (split wide_negation same same ∷ []) ≡ passes [] Wide ∷ []
negation_first = refl

-- ---- a recursion that counts down

-- (mul (num n) (cost f))
abbrev start : AssertionTree
start = product (assertions_of (num n ∷ cost 0 ∷ []))

-- (add (cost f) (mul (num (wrapu (sub n 1))) (cost f)))
abbrev call : AssertionTree
call = total (assertions_of (cost 0 ∷ product (assertions_of (num (wrapu n_less) ∷ cost 0 ∷ [])) ∷ []))

abbrev body : AssertionTree
body = choose n_is_zero start (greatest (assertions_of (start ∷ call ∷ [])))

-- what n - 1 is, where the polynomial of this number is n - 1, and what the call costs
abbrev counted_down : ℕ → CertTree
counted_down i =
    fact (wrapu_is n_less (one i) (once 1 (pos 2) ∷ once 1 (pos 0) ∷ [])) (fact (num_is n (one 1)) (fact (num_is (wrapu n_less) (once 1 (pos 3) ∷ once 1 (pos 4) ∷ [])) (fact (cost_range 0) (arithmetic (twice 1 (pos 6) (pos 10) ∷ twice 1 (pos 5) (pos 10) ∷ twice 1 (pos 9) (pos 10) ∷ [])))))

abbrev entry : CertTree → CertTree
entry c = split n_is_zero same (all (certs_of (same ∷ fact (range (x Unsigned)) c ∷ [])))

recursion : answers start body (entry (fact (apart (pos 0) (one 1)) (counted_down 3)) ∷ []) ≡ None ∷ []
recursion = refl

-- n is not known to be at least 1
no_recursion : answers start body (entry (counted_down 1) ∷ []) ≡ fails (1 ∷ 1 ∷ 0 ∷ []) rules.Fact ∷ []
no_recursion = refl

-- a call and what stays
abbrev called : AssertionTree
called = total (assertions_of (cost 0 ∷ start ∷ []))

call_and_rest : answers called (greatest (assertions_of (called ∷ called ∷ []))) (all (certs_of (same ∷ same ∷ [])) ∷ []) ≡ None ∷ []
call_and_rest = refl
