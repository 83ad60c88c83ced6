-- What is written for a function that passes on what its calls need: its derivation, and the certificates that it wants.
use Rattle.std.specs.Prelude.{ℕ, zero, suc, ◌+◌, ◌*◌, Bool, true, false, if◌then◌else◌, pos, List, [], ◌∷◌, filter, length, not, Option, Some, None}
use Rattle.qs_assert.specs.declared.variable.Var.{Var}
use Rattle.qs_assert.specs.Sameness.{same_assertion}
use Rattle.qs_assert.specs.Substitution.{same_variable}
use Rattle.qs_assert.specs.Trees.{TermTree, number, variable, add, sub, mul, div, wrapu, wraps, bits, CondTree, eq, AssertionTree, natural, infinity, cost, num, total, greatest, product, guard, choose, named, AssertionTrees, no_assertions, assertion_and}
use Rattle.qs_assert.specs.Variables.{variables, all_variables}
use Rattle.qs_core.specs.Trees as core
use Rattle.qs_core.specs.Trees.{CoreExprTree, CoreFunctionTree, CoreUnitTree}
use Rattle.qs_entail.specs.Certificates.{CertTree, same, pick, all, parts, assume, drop, CertTrees, no_certs, cert_and}
use Rattle.qs_recur.specs.Around.{Ways, itself, written}
use Rattle.qs_recur.specs.Certificates.{value_kept_at, bits_kept_at, equals_itself}
use Rattle.qs_recur.specs.Needs.{Preconditions, passed_call, greatest_of, balanced}
use Rattle.qs_recur.specs.Written.{ways_by}
use Rattle.qs_triples.specs.Derivations.{EntryTree}
use Rattle.qs_triples.specs.Mentions.{old_kind, as_old}

-- ---- the parameters that are passed on

-- each once, where it stands first
abbrev pub each_once : List Var → List Var
each_once [] = []
each_once (x ∷ xs) = x ∷ filter (λ y. not (same_variable y x)) (each_once xs)

abbrev pub passed_on : AssertionTree → List Var
passed_on need = each_once (variables need)

-- a parameter is as it was at the entry
abbrev pub is_kept : Var → CondTree
is_kept x = eq (variable x) (as_old x)

-- where all of these are
abbrev pub guarded_by : List Var → AssertionTree → AssertionTree
guarded_by [] need = need
guarded_by (x ∷ xs) need = guard (is_kept x) (guarded_by xs need)

-- ---- certificates

-- under so many guards
abbrev pub assumed : ℕ → CertTree → CertTree
assumed zero c = c
assumed (suc n) c = assume (assumed n c)

-- at the entry each parameter is what it is
abbrev pub all_entered : ℕ → CertTree
all_entered zero = same
all_entered (suc n) = drop equals_itself (all_entered n)

-- how many stand before it
abbrev pub place_of : Var → List Var → ℕ
place_of x [] = 0
place_of x (y ∷ ys) = if same_variable y x then 0 else suc (place_of x ys)

-- 1 is known, and two polynomials of each guard
abbrev pub known_by : List Var → ℕ
known_by xs = 1 + 2 * length xs

-- those of this one: what it was, less what it is; and what it is, less what it was
abbrev pub less_at : Var → List Var → ℕ
less_at x xs = 1 + 2 * place_of x xs

abbrev pub more_at : Var → List Var → ℕ
more_at x xs = 2 + 2 * place_of x xs

abbrev pub is_closed : List Var → Bool
is_closed [] = true
is_closed (x ∷ xs) = false

-- what was needed at the entry is what is needed now; xs are kept
module _ (xs : List Var) where
  abbrev pub bits_left : (f : ℕ) → TermTree → CertTree
  bits_left f (variable x) = bits_kept_at (known_by xs) (more_at x xs) f x.kind (old_kind x.kind)
  -- these aren't met
  bits_left f (number k) = same
  bits_left f (add ts) = same
  bits_left f (sub t u) = same
  bits_left f (mul ts) = same
  bits_left f (div t k) = same
  bits_left f (wrapu t) = same
  bits_left f (wraps t) = same
  bits_left f (bits t) = same

  -- as many costs of f as this number
  abbrev pub costs_left : (f : ℕ) → TermTree → CertTree
  costs_left f (variable x) = value_kept_at (known_by xs) (less_at x xs) (more_at x xs) f x.kind (old_kind x.kind)
  costs_left f (bits t) = bits_left f t
  -- these aren't met
  costs_left f (number k) = same
  costs_left f (add ts) = same
  costs_left f (sub t u) = same
  costs_left f (mul ts) = same
  costs_left f (div t k) = same
  costs_left f (wrapu t) = same
  costs_left f (wraps t) = same

  abbrev pub left_of_cost : TermTree → AssertionTree → CertTree
  left_of_cost t (cost f) = costs_left f t
  -- these aren't met
  left_of_cost t (natural n) = same
  left_of_cost t infinity = same
  left_of_cost t (num u) = same
  left_of_cost t (total summands) = same
  left_of_cost t (greatest members) = same
  left_of_cost t (product factors) = same
  left_of_cost t (guard c a) = same
  left_of_cost t (choose c a b) = same
  left_of_cost t (named n) = same

  abbrev pub left_of_number : AssertionTree → AssertionTrees → CertTree
  left_of_number (num t) no_assertions = same
  left_of_number (num t) (assertion_and a others) = left_of_cost t a
  -- these aren't met
  left_of_number (natural n) others = same
  left_of_number infinity others = same
  left_of_number (cost f) others = same
  left_of_number (total summands) others = same
  left_of_number (greatest members) others = same
  left_of_number (product factors) others = same
  left_of_number (guard c a) others = same
  left_of_number (choose c a b) others = same
  left_of_number (named n) others = same

  abbrev pub left_of_product : AssertionTrees → CertTree
  left_of_product no_assertions = same
  left_of_product (assertion_and a others) = left_of_number a others

  abbrev mutual
    pub all_left : AssertionTree → CertTree
    all_left (natural n) = same
    all_left (cost f) = same
    all_left (total summands) = if is_closed (all_variables summands) then same else parts (parts_left summands)
    all_left (greatest members) = if is_closed (all_variables members) then same else all (members_left 0 members)
    all_left (product factors) = if is_closed (all_variables factors) then same else left_of_product factors
    -- these aren't met
    all_left infinity = same
    all_left (num t) = same
    all_left (guard c a) = same
    all_left (choose c a b) = same
    all_left (named n) = same

    pub parts_left : AssertionTrees → CertTrees
    parts_left no_assertions = no_certs
    parts_left (assertion_and a others) = cert_and (all_left a) (parts_left others)

    -- i is the number of the first of these
    pub members_left : (i : ℕ) → AssertionTrees → CertTrees
    members_left i no_assertions = no_certs
    members_left i (assertion_and a others) = cert_and (pick (pos i) (all_left a)) (members_left (suc i) others)

-- the first of these that is the same
abbrev pub index_of : AssertionTree → List AssertionTree → ℕ
index_of a [] = 0
index_of a (b ∷ bs) = if same_assertion b a then 0 else suc (index_of a bs)

-- what a call needs is one of the needs, or the only one
abbrev pub picked : AssertionTree → List AssertionTree → CertTree
picked a [] = same
picked a (b ∷ []) = same
picked a (b ∷ c ∷ needs) = pick (pos (index_of a (b ∷ c ∷ needs))) same

abbrev pub picked_if : Option AssertionTree → List AssertionTree → CertTree
picked_if None needs = same
picked_if (Some a) needs = picked a needs

-- ---- a function that passes on

-- where nothing is passed on, what is needed is the same everywhere
abbrev pub passing_ways : (xs : List Var) → (need : AssertionTree) → Ways
passing_ways [] need = record { next = itself; on_break = itself; on_continue = itself; on_return = itself }
passing_ways (x ∷ xs) need = ways_by (λ n. assumed (length (x ∷ xs)) (all_left (x ∷ xs) need))

module _ (u : CoreUnitTree) (pres : Preconditions) (function : CoreFunctionTree) (needs : List AssertionTree) where
  abbrev pub passing_need : AssertionTree
  passing_need = greatest_of needs

  abbrev pub passed : List Var
  passed = passed_on passing_need

  abbrev pub pay_passing : (g : ℕ) → (arguments : List CoreExprTree) → CertTree
  pay_passing g es = assumed (length passed) (picked_if (passed_call u pres function (record { function = g; arguments = es })) needs)

  abbrev pub passing_entry : (f : ℕ) → EntryTree
  passing_entry f = record {
    function = f;
    spec = balanced passing_need;
    entry = all_entered (length passed);
    body = written (guarded_by passed passing_need) pay_passing (core.seq function.body) (passing_ways passed passing_need);
  }
