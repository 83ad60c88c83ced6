-- What is written for a function that counts: its derivation, and the certificates that it wants.
use Rattle.std.specs.Prelude.{ℕ, zero, suc, ◌+◌, ◌==◌, Bool, true, false, if◌then◌else◌, pos, List, [], ◌∷◌, Option, Some, None}
use Rattle.qs_assert.specs.declared.variable.VarKind.{VarKind}
use Rattle.qs_assert.specs.declared.variable.VarKind.TheVariants as kinds
use Rattle.qs_assert.specs.Trees.{TermTree, number, bits, CondTree, le, lt, eq, ne, not, and, or, AssertionTree, natural, infinity, cost, num, total, greatest, product, guard, choose, named, AssertionTrees, no_assertions, assertion_and, assertions_of}
use Rattle.qs_core.specs.Trees as core
use Rattle.qs_core.specs.Trees.{CoreExprTree, CoreStmtTree, CoreStmts, no_stmts, stmt_and, CoreFunctionTree}
use Rattle.qs_entail.specs.Certificates.{once, cost_range, num_bounds, CertTree, same, via, parts, assume, split, arithmetic, fact, CertTrees, no_certs, cert_and}
use Rattle.qs_recur.specs.Around.{Ways, shown, before, to_itself, written, all_written}
use Rattle.qs_triples.specs.Derivations.{DerivationTree, leaf, sequence, conditional, consequence, DerivationTrees, no_derivations, derivation_and, EntryTree}
use Rattle.qs_triples.specs.ExpressionTerms.{expression_condition}
use Rattle.qs_recur.specs.Counters.{Test, below, at_least, least_of, Step, less, divided, step_of}
use Rattle.qs_recur.specs.Certificates.{item, pair, unsigned_term, less_term, quotient_term, less_paid, quotient_paid, bits_paid, value_kept, bits_kept, entry_guarded, one_reached, least_reached, guard_dropped}
use Rattle.qs_recur.specs.Needs.{unsigned, costs, measure, Helper, cost_and, helpers_need, Counting, counting_pre, balanced}

-- ---- the members of sums; known is how many polynomials are known

-- both summands, each by its own
abbrev pub both_parts : CertTree → CertTree → CertTree
both_parts c d = parts (cert_and c (cert_and d no_certs))

-- what is at least 0
abbrev mutual
  pub not_negative : (known : ℕ) → AssertionTree → CertTree
  not_negative known (natural n) = arithmetic (once n (pos 0) ∷ [])
  not_negative known (cost f) = fact (cost_range f) (arithmetic (item known ∷ []))
  not_negative known (total summands) = via (total (zeros summands)) (parts (none_negative known summands)) (arithmetic [])
  -- these aren't met
  not_negative known infinity = same
  not_negative known (num t) = same
  not_negative known (greatest members) = same
  not_negative known (product factors) = same
  not_negative known (guard c a) = same
  not_negative known (choose c a b) = same
  not_negative known (named n) = same

  pub none_negative : (known : ℕ) → AssertionTrees → CertTrees
  none_negative known no_assertions = no_certs
  none_negative known (assertion_and a others) = cert_and (not_negative known a) (none_negative known others)

  -- as many zeros
  pub zeros : AssertionTrees → AssertionTrees
  zeros no_assertions = no_assertions
  zeros (assertion_and a others) = assertion_and (natural 0) (zeros others)

-- the costs of the calls of f itself
abbrev pub costs_not_negative : (known : ℕ) → TermTree → (f : ℕ) → CertTree
costs_not_negative known t f = fact (num_bounds t) (fact (cost_range f) (arithmetic (pair known (known + 2) ∷ [])))

-- zeros in place of what the helpers take, but for g
abbrev pub only_members : (g : ℕ) → List Helper → List AssertionTree
only_members g [] = []
only_members g (h ∷ hs) =
    if h.function == g then cost_and h.function h.need (only_members g hs) else natural 0 ∷ natural 0 ∷ only_members g hs

abbrev pub member_certificates : (known : ℕ) → (g : ℕ) → List Helper → CertTrees
member_certificates known g [] = no_certs
member_certificates known g (h ∷ hs) =
    if h.function == g then cert_and same (cert_and same (member_certificates known g hs))
    else cert_and (not_negative known (cost h.function)) (cert_and (not_negative known h.need) (member_certificates known g hs))

-- ---- what calls need, where the guards are known; t is what is counted

-- there is enough for a helper
abbrev pub helper_paid : (known : ℕ) → TermTree → (f g : ℕ) → List Helper → CertTree
helper_paid known t f g hs =
    via (total (assertions_of (total (assertions_of (only_members g hs)) ∷ natural 0 ∷ [])))
    (both_parts (parts (member_certificates known g hs)) (costs_not_negative known t f))
    (arithmetic [])

-- and for a call of f itself, where the certificate shows it of the costs of f alone; u is what it counts
abbrev pub own_paid : (u : TermTree) → (f : ℕ) → List Helper → CertTree → CertTree
own_paid u f [] c = c
own_paid u f (h ∷ hs) c =
    via (total (assertions_of (helpers_need (h ∷ hs) ∷ total (assertions_of (cost f ∷ costs u f ∷ [])) ∷ [])))
    (both_parts same c) (arithmetic [])

-- what was at the entry is left
abbrev pub all_kept : List Helper → CertTree → CertTree
all_kept [] c = c
all_kept (h ∷ hs) c = both_parts same c

-- ---- a function that counts

abbrev pub counter_of : Counting → VarKind
counter_of c = kinds.Plain c.counter

abbrev pub entered_of : Counting → VarKind
entered_of c = kinds.Old c.counter

abbrev pub least_in : Counting → ℕ
least_in c = least_of c.place.test

abbrev pub counted : Counting → TermTree
counted c = measure c.by_bits (unsigned (counter_of c))

-- what a step hands on
abbrev pub handed_on : VarKind → Step → TermTree
handed_on x (less k) = less_term x k
handed_on x (divided k) = quotient_term x k

abbrev pub measured : (by_bits : Bool) → TermTree → TermTree
measured true t = bits t
measured false t = t

-- the costs of f pay for the call, and for what it needs itself
abbrev pub step_paid : (f : ℕ) → Counting → Step → CertTree
step_paid f c (less k) = less_paid f (counter_of c) k (least_in c)
step_paid f c (divided k) = if c.by_bits then bits_paid f (counter_of c) k (least_in c) else quotient_paid f (counter_of c) k (least_in c)

abbrev pub if_step : (f : ℕ) → Counting → Option Step → CertTree
if_step f c None = same
if_step f c (Some s) = own_paid (measured c.by_bits (handed_on (counter_of c) s)) f c.helpers (step_paid f c s)

-- what is needed before statements: that the counter is as it was; and that it is at least the least value
abbrev pub as_entered : (f : ℕ) → Counting → AssertionTree
as_entered f c = guard (eq (unsigned_term (counter_of c)) (unsigned_term (entered_of c))) (counting_pre f c)

abbrev pub past_least : (f : ℕ) → Counting → AssertionTree
past_least f c =
    guard (eq (unsigned_term (counter_of c)) (unsigned_term (entered_of c)))
    (guard (le (number (pos (least_in c))) (unsigned_term (counter_of c))) (counting_pre f c))

-- the first pays for helpers alone
abbrev pub pay_entered : (f : ℕ) → Counting → ℕ → List CoreExprTree → CertTree
pay_entered f c g es = assume (helper_paid 3 (counted c) f g c.helpers)

abbrev pub pay_past : (f : ℕ) → Counting → ℕ → List CoreExprTree → CertTree
pay_past f c g es =
    assume (assume (if g == f then if_step f c (step_of c.counter es) else helper_paid 4 (counted c) f g c.helpers))

-- the costs of f that were counted at the entry
abbrev pub measure_kept : (known : ℕ) → (f : ℕ) → Counting → CertTree
measure_kept known f c =
    if c.by_bits then bits_kept known f (counter_of c) (entered_of c) else value_kept known f (counter_of c) (entered_of c)

abbrev pub entered_left : (f : ℕ) → Counting → (conditions : ℕ) → CertTree
entered_left f c n = assume (all_kept c.helpers (measure_kept 3 f c))

abbrev pub past_left : (f : ℕ) → Counting → (conditions : ℕ) → CertTree
past_left f c n = assume (assume (all_kept c.helpers (measure_kept 4 f c)))

-- all of a body's ways to its end
abbrev pub ways_by : ((conditions : ℕ) → CertTree) → Ways
ways_by c = record { next = shown c; on_break = shown c; on_continue = shown c; on_return = shown c }

-- the branch past the least value comes back to where the counter is as it was, if there is something behind
abbrev pub back_ways : CoreStmts → Ways → Ways
back_ways no_stmts w = w
back_ways (stmt_and s ss) w = record w { next = shown guard_dropped }

-- why the test tells
abbrev pub told_by : VarKind → CondTree → CertTree
told_by x (eq t u) = one_reached x
told_by x (ne t u) = one_reached x
told_by x (le t u) = least_reached
told_by x (lt t u) = least_reached
told_by x (not c) = same
told_by x (and cs) = same
told_by x (or cs) = same

module _ (f : ℕ) (c : Counting) where
  abbrev pub before_entered : CoreStmtTree → Ways → DerivationTree
  before_entered s w = written (as_entered f c) (pay_entered f c) s w

  abbrev pub before_past : CoreStmtTree → Ways → DerivationTree
  before_past s w = written (past_least f c) (pay_past f c) s w

  -- the branch that the test takes below the least value, or from it on
  abbrev pub test_branches : Test → (first second : CoreStmtTree) → (behind : CoreStmts) → DerivationTree
  test_branches (below n) s t ss =
      conditional (before_entered s (ways_by (entered_left f c))) (before_past t (before ss (ways_by (past_left f c))))
  test_branches (at_least n) s t ss =
      conditional (before_past s (back_ways ss (ways_by (past_left f c)))) (before_entered t (before ss (ways_by (entered_left f c))))

  abbrev pub test_certificate : Test → CondTree → CertTree
  test_certificate (below n) e = split e same (told_by (counter_of c) e)
  test_certificate (at_least n) e = split e (told_by (counter_of c) e) same

  abbrev pub test_by : Option CondTree → DerivationTree → DerivationTree
  test_by None d = d
  test_by (Some e) d = consequence (as_entered f c) (test_certificate c.place.test e) d

  abbrev pub test_written : CoreStmtTree → (behind : CoreStmts) → DerivationTree
  test_written (core.branch e s t) ss = test_by (expression_condition e) (test_branches c.place.test s t ss)
  test_written core.skip ss = leaf
  test_written (core.seq inner) ss = leaf
  test_written (core.assign x e) ss = leaf
  test_written (core.store s to e) ss = leaf
  test_written (core.copy size alignment to from) ss = leaf
  test_written (core.fill contents to) ss = leaf
  test_written (core.call x g es) ss = leaf
  test_written (core.loop body step) ss = leaf
  test_written (core.switch e labels inner) ss = leaf
  test_written core.break ss = leaf
  test_written core.continue ss = leaf
  test_written (core.return e) ss = leaf

  -- what stands behind the test
  abbrev pub behind_written : Test → CoreStmts → DerivationTrees
  behind_written (below n) ss = all_written (past_least f c) (pay_past f c) ss (ways_by (past_left f c))
  behind_written (at_least n) ss = all_written (as_entered f c) (pay_entered f c) ss (ways_by (entered_left f c))

  -- so many parts stand before the test
  abbrev pub parts_written : ℕ → CoreStmts → DerivationTrees
  parts_written n no_stmts = no_derivations
  parts_written zero (stmt_and s ss) = derivation_and (test_written s ss) (behind_written c.place.test ss)
  parts_written (suc n) (stmt_and s ss) = derivation_and (before_entered s (to_itself (ways_by (entered_left f c)))) (parts_written n ss)

  abbrev pub counting_entry : CoreFunctionTree → EntryTree
  counting_entry function = record {
    function = f;
    spec = balanced (counting_pre f c);
    entry = entry_guarded;
    body = sequence (parts_written c.place.part function.body);
  }
