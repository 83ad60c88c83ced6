-- Which functions get a derivation, and the precondition of each, by those of the functions that it calls. A *counting*
-- function calls itself and counts a parameter down; a *passing* one calls only such functions, at plain arguments.
use Rattle.std.specs.Prelude.{◌≡◌, ℕ, suc, ◌==◌, ◌&&◌, not, nat_le, Bool, true, false, if◌then◌else◌, List, [], ◌∷◌, length, filter, Option, Some, None, option_map}
use Rattle.std.specs.List.{slice_get, list_all}
use Rattle.std.specs.Option.{option_or}
use Rattle.qs_memory.specs.Partial.{◌>>=◌, only_if}
use Rattle.qs_memory.specs.Scalars.{is_integer}
use Rattle.qs_memory.specs.declared.scalar.Scalar.{Scalar}
use Rattle.qs_memory.specs.declared.scalar.Scalar.TheVariants as scalars
use Rattle.qs_assert.specs.declared.variable.Var.{Var}
use Rattle.qs_assert.specs.declared.variable.VarKind.{VarKind}
use Rattle.qs_assert.specs.declared.variable.VarKind.TheVariants as kinds
use Rattle.qs_assert.specs.declared.variable.NumberType.TheVariants as numbers
use Rattle.qs_assert.specs.Images.{assertion_image}
use Rattle.qs_assert.specs.Trees.{TermTree, variable, bits, AssertionTree, natural, cost, num, total, greatest, product, assertions_of}
use Rattle.qs_assert.specs.Variables.{variables}
use Rattle.qs_core.specs.CallGraph.{below, called_by, calls}
use Rattle.qs_core.specs.Interfaces.{variable_type}
use Rattle.qs_core.specs.Terms.{condition_of}
use Rattle.qs_core.specs.Trees as core
use Rattle.qs_core.specs.Trees.{CoreExprTree, CoreStmtTree, CoreStmts, no_stmts, stmt_and, CoreFunctionTree, CoreUnitTree}
use Rattle.qs_triples.specs.Derivations.{SpecTree}
use Rattle.qs_triples.specs.Entries.{ends_in_return}
use Rattle.qs_triples.specs.Mentions.{as_old, has_plain_parameter, pre_images}
use Rattle.qs_triples.specs.Rules.{at_call}
use Rattle.qs_recur.specs.Bodies.{CallTree, all_calls_made, has_call, have_call, one_assigns, all_switches_fit, end_passes, last_end_passes}
use Rattle.qs_recur.specs.Counters.{Test, below as below_least, at_least, least_of, test_in, Step, step_of, falls, is_quotient}
use Rattle.qs_recur.specs.Sizes.{is_short, is_of_costs, costs_little}

-- the preconditions of the functions that have an entry
abbrev pub Preconditions : Type 0
Preconditions = (function : ℕ) → Option AssertionTree

-- ---- the test of a counting function

-- where a body has its test, and which it is
pub record Place : Type 0 where
  pub part : ℕ
  pub test : Test

-- whether a statement surely returns, by its form
abbrev pub returns : CoreStmtTree → Bool
returns (core.return e) = true
returns (core.seq ss) = ends_in_return ss
returns core.skip = false
returns (core.assign x e) = false
returns (core.store s to e) = false
returns (core.copy size alignment to from) = false
returns (core.fill contents to) = false
returns (core.call x g es) = false
returns (core.branch e s t) = false
returns (core.loop body step) = false
returns (core.switch e labels ss) = false
returns core.break = false
returns core.continue = false

-- where statements stand behind, something else is needed there
abbrev pub end_passes_before : (behind : CoreStmts) → CoreStmtTree → Bool
end_passes_before no_stmts s = true
end_passes_before (stmt_and t others) s = end_passes s

-- Below the least value of the counter no call of f itself is made: the first branch is taken then, and returns without
-- one; or that branch is taken for all others, and has all such calls.
abbrev pub is_guarded : (f : ℕ) → Test → (first second : CoreStmtTree) → (behind : CoreStmts) → Bool
is_guarded f (below_least k) s t others = not (has_call f s) && returns s
is_guarded f (at_least k) s t others = not (has_call f t) && not (have_call f others) && end_passes_before others s

abbrev pub step_falls : (least : ℕ) → Option Step → Bool
step_falls least None = false
step_falls least (Some s) = falls least s

-- from the least value on, a call of f itself makes the counter x smaller
abbrev pub call_falls : (f x : ℕ) → (least : ℕ) → CallTree → Bool
call_falls f x least c = if c.function == f then step_falls least (step_of x c.arguments) else true

abbrev pub calls_fall : (f x : ℕ) → CoreStmts → (least : ℕ) → Bool
calls_fall f x body least = list_all (call_falls f x least) (all_calls_made body)

-- the test of x that a part is, where these stand behind it in the body
abbrev pub branch_test : (f x : ℕ) → (body : CoreStmts) → CoreExprTree → (first second : CoreStmtTree) → (behind : CoreStmts) → Option Test
branch_test f x body e s t others =
    condition_of e >>= test_in x >>= λ test.
    only_if (nat_le 1 (least_of test) && is_guarded f test s t others && calls_fall f x body (least_of test)) (Some test)

abbrev pub part_test : (f x : ℕ) → (body : CoreStmts) → CoreStmtTree → (behind : CoreStmts) → Option Test
part_test f x body (core.branch e s t) others = branch_test f x body e s t others
part_test f x body core.skip others = None
part_test f x body (core.seq ss) others = None
part_test f x body (core.assign y e) others = None
part_test f x body (core.store s to e) others = None
part_test f x body (core.copy size alignment to from) others = None
part_test f x body (core.fill contents to) others = None
part_test f x body (core.call k g es) others = None
part_test f x body (core.loop b step) others = None
part_test f x body (core.switch e labels ss) others = None
part_test f x body core.break others = None
part_test f x body core.continue others = None
part_test f x body (core.return e) others = None

-- the first part that is a test of x, where none before it calls f; i is the number of the first of these
abbrev pub place_in : (f x : ℕ) → (body : CoreStmts) → (i : ℕ) → CoreStmts → Option Place
place_in f x body i no_stmts = None
place_in f x body i (stmt_and s ss) =
    option_or
    (option_map (λ test. record { part = i; test = test }) (part_test f x body s ss))
    (only_if (not (has_call f s)) (place_in f x body (suc i) ss))

-- ---- the precondition of a counting function

abbrev pub unsigned : VarKind → Var
unsigned kind = record { kind = kind; number = numbers.Unsigned }

-- as many costs of f as this number
abbrev pub costs : (number : TermTree) → (f : ℕ) → AssertionTree
costs t f = product (assertions_of (num t ∷ cost f ∷ []))

-- the counter, or its length in bits where each call divides it
abbrev pub measure : (by_bits : Bool) → (x : Var) → TermTree
measure true x = bits (variable x)
measure false x = variable x

abbrev pub step_divides : Option Step → Bool
step_divides None = false
step_divides (Some s) = is_quotient s

abbrev pub divides : (f x : ℕ) → CallTree → Bool
divides f x c = if c.function == f then step_divides (step_of x c.arguments) else true

-- whether each call of f itself divides the counter
abbrev pub all_divide : (f x : ℕ) → CoreStmts → Bool
all_divide f x body = list_all (divides f x) (all_calls_made body)

-- the other functions that f calls, each once, in order of definition
abbrev pub helpers : CoreUnitTree → (f : ℕ) → List ℕ
helpers u f = filter (λ g. not (g == f)) (called_by u f)

-- one of them, and what it needs
pub record Helper : Type 0 where
  pub function : ℕ
  pub need : AssertionTree

-- where each has an entry whose precondition has only numbers, costs, sums and products
abbrev pub helpers_with : Preconditions → List ℕ → Option (List Helper)
helpers_with pres [] = Some []
helpers_with pres (g ∷ gs) =
    pres g >>= λ pre. helpers_with pres gs >>= λ others.
    only_if (is_of_costs pre) (Some (record { function = g; need = pre } ∷ others))

-- the cost of a function, and what it needs
abbrev pub cost_and : ℕ → AssertionTree → List AssertionTree → List AssertionTree
cost_and g need others = cost g ∷ need ∷ others

abbrev pub members : List Helper → List AssertionTree
members [] = []
members (h ∷ hs) = cost_and h.function h.need (members hs)

-- what they take, once each
abbrev pub helpers_need : List Helper → AssertionTree
helpers_need hs = total (assertions_of (members hs))

abbrev pub with_helpers : List Helper → AssertionTree → AssertionTree
with_helpers [] own = own
with_helpers (h ∷ hs) own = total (assertions_of (helpers_need (h ∷ hs) ∷ own ∷ []))

abbrev pub helpers_cost_little : List Helper → Bool
helpers_cost_little [] = true
helpers_cost_little (h ∷ hs) = costs_little (helpers_need (h ∷ hs))

-- ---- counting functions

-- how a function counts
pub record Counting : Type 0 where
  -- the number of the parameter
  pub counter : ℕ
  pub place : Place
  pub by_bits : Bool
  pub helpers : List Helper

abbrev pub own_need : (f : ℕ) → Counting → AssertionTree
own_need f c = costs (measure c.by_bits (unsigned (kinds.Plain c.counter))) f

-- the precondition
abbrev pub counting_pre : (f : ℕ) → Counting → AssertionTree
counting_pre f c = with_helpers c.helpers (own_need f c)

abbrev pub is_unsigned : Option Scalar → Bool
is_unsigned None = false
is_unsigned (Some scalars.Char) = false
is_unsigned (Some scalars.Int) = false
is_unsigned (Some scalars.Unsigned) = true
is_unsigned (Some scalars.Pointer) = false

-- a plain parameter of type `unsigned` that is never assigned
abbrev pub may_count : CoreFunctionTree → (x : ℕ) → Bool
may_count function x =
    has_plain_parameter function x && is_unsigned (variable_type function x) && not (one_assigns x function.body)

abbrev pub if_short : (f : ℕ) → Counting → Option Counting
if_short f c = only_if (is_short (counting_pre f c)) (Some c)

abbrev pub counting_with : CoreFunctionTree → (f x : ℕ) → List Helper → Option Counting
counting_with function f x hs =
    only_if (may_count function x) (place_in f x function.body 0 function.body) >>= λ place.
    if_short f (record { counter = x; place = place; by_bits = all_divide f x function.body; helpers = hs })

-- the first of these parameters that fits
abbrev pub first_counting : CoreFunctionTree → (f : ℕ) → (xs : List ℕ) → List Helper → Option Counting
first_counting function f [] hs = None
first_counting function f (x ∷ xs) hs = option_or (counting_with function f x hs) (first_counting function f xs hs)

-- what the switches of a body are asked for
abbrev pub body_fits : CoreFunctionTree → Bool
body_fits function = all_switches_fit function.body && last_end_passes function.body

-- how f counts, where these are the preconditions of those that it calls
abbrev pub counting : CoreUnitTree → Preconditions → (f : ℕ) → CoreFunctionTree → Option Counting
counting u pres f function =
    only_if (body_fits function) (helpers_with pres (helpers u f)) >>= λ hs.
    only_if (helpers_cost_little hs) (first_counting function f (below (length function.parameters)) hs)

-- ---- passing functions

-- a literal, or a plain parameter that is never assigned
abbrev pub is_fixed : CoreFunctionTree → CoreExprTree → Bool
is_fixed function (core.literal s n) = is_integer s
is_fixed function (core.variable s x) = has_plain_parameter function x && not (one_assigns x function.body)
is_fixed function core.null_pointer = false
is_fixed function (core.temporary s k) = false
is_fixed function (core.address_of b) = false
is_fixed function (core.load s a) = false
is_fixed function (core.member offset a) = false
is_fixed function (core.unary op a) = false
is_fixed function (core.binary op a b) = false
is_fixed function (core.conversion s a) = false
is_fixed function (core.logical_and a b) = false
is_fixed function (core.logical_or a b) = false
is_fixed function (core.conditional c a b) = false

abbrev pub is_fixed_if : CoreFunctionTree → Option CoreExprTree → Bool
is_fixed_if function None = false
is_fixed_if function (Some e) = is_fixed function e

abbrev pub fixed_at : CoreFunctionTree → (arguments : List CoreExprTree) → VarKind → Bool
fixed_at function es (kinds.Plain i) = is_fixed_if function (slice_get es i)
fixed_at function es (kinds.Temporary k) = false
fixed_at function es (kinds.Old i) = false
fixed_at function es kinds.Returned = false

-- each argument for a parameter that the precondition speaks of is fixed
abbrev pub arguments_fixed : CoreFunctionTree → (arguments : List CoreExprTree) → (pre : AssertionTree) → Bool
arguments_fixed function es pre = list_all (λ (x : Var). fixed_at function es x.kind) (variables pre)

-- what a call needs: the cost of the callee, and its precondition at the arguments
abbrev pub call_need : CoreUnitTree → CallTree → (pre : AssertionTree) → Option AssertionTree
call_need u c pre =
    slice_get u.functions c.function >>= λ g.
    Some (total (assertions_of (cost_and c.function (at_call (pre_images g c.arguments) pre) [])))

abbrev pub passed_call : CoreUnitTree → Preconditions → CoreFunctionTree → CallTree → Option AssertionTree
passed_call u pres function c =
    pres c.function >>= λ pre. only_if (arguments_fixed function c.arguments pre) (call_need u c pre)

abbrev pub passed_calls : CoreUnitTree → Preconditions → CoreFunctionTree → List CallTree → Option (List AssertionTree)
passed_calls u pres function [] = Some []
passed_calls u pres function (c ∷ cs) =
    passed_call u pres function c >>= λ a. passed_calls u pres function cs >>= λ others. Some (a ∷ others)

-- the greatest of these
abbrev pub greatest_of : List AssertionTree → AssertionTree
greatest_of [] = natural 0
greatest_of (a ∷ []) = a
greatest_of (a ∷ b ∷ parts) = greatest (assertions_of (a ∷ b ∷ parts))

-- Where it speaks of parameters, something else is needed behind the body.
abbrev pub end_fits : CoreFunctionTree → List Var → Bool
end_fits function [] = true
end_fits function (x ∷ xs) = last_end_passes function.body

abbrev pub passing_fits : CoreFunctionTree → (need : AssertionTree) → Bool
passing_fits function need = is_short need && end_fits function (variables need)

-- what each call of a passing function needs, in order
abbrev pub passing : CoreUnitTree → Preconditions → CoreFunctionTree → Option (List AssertionTree)
passing u pres function =
    only_if (all_switches_fit function.body) (passed_calls u pres function (all_calls_made function.body)) >>= λ parts.
    only_if (passing_fits function (greatest_of parts)) (Some parts)

-- ---- what a function needs

abbrev pub counted_need : (f : ℕ) → Option Counting → Option AssertionTree
counted_need f c = option_map (counting_pre f) c

-- where it calls itself it is to count, else to pass
abbrev pub need_in : CoreUnitTree → Preconditions → (f : ℕ) → CoreFunctionTree → Option AssertionTree
need_in u pres f function =
    if calls u f f then counted_need f (counting u pres f function) else option_map greatest_of (passing u pres function)

-- the precondition of f by those of the functions that it calls, if it gets an entry
abbrev pub need : CoreUnitTree → Preconditions → (f : ℕ) → Option AssertionTree
need u pres f = slice_get u.functions f >>= need_in u pres f

-- each function has the precondition that the rules give it
abbrev pub AreNeeds : CoreUnitTree → Preconditions → Type 0
AreNeeds u pres = (f : ℕ) → pres f ≡ need u pres f

-- the postcondition is the precondition of the values at the entry
abbrev pub balanced : AssertionTree → SpecTree
balanced pre = record { pre = pre; post = assertion_image as_old pre }
