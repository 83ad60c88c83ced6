-- The first fault of a certificate: the first node that fails, a node before its parts. At a node the
-- conditions without polynomials come first, then the limits, then the equalities of polynomials. What
-- hypotheses push is the root's.
use Rattle.std.specs.Prelude.{ℕ, suc, ◌+◌, ℤ, pos, negsuc, Bool, true, false, if◌then◌else◌, ◌&&◌, nat_lt, nat_le, ◌==◌, List, [], ◌∷◌, ◌++◌, length, Option, Some, None, Result, Ok, Err}
use Rattle.std.specs.Option.{option_or}
use Rattle.qs_assert.specs.declared.define.Define.{Define}
use Rattle.qs_entail.specs.declared.fault.Rule.{Rule}
use Rattle.qs_entail.specs.declared.fault.Rule.TheVariants as rules
use Rattle.qs_assert.specs.Sameness.{same_assertion}
use Rattle.qs_assert.specs.Trees.{CondTree, le, lt, eq, ne, not, and, or, CondTrees, no_conds, cond_and, AssertionTree, natural, infinity, AssertionTrees, no_assertions, assertion_and}
use Rattle.qs_entail.specs.Certificates.{Item, once, twice, FactTree, range, cost_range, apart, num_is, num_bounds, wrapu_is, wraps_is, wrapu_bounds, wraps_bounds, quotient_bounds, bits_bound, bits_half, bits_rise, CertTree, same, via, pick, all, parts, assume, drop, split, contradict, arithmetic, by_definition, fact, CertTrees, no_certs, cert_and}
use Rattle.qs_base.specs.Results.{bind}
use Rattle.qs_entail.specs.Building.{Stop, is_plain}
use Rattle.qs_entail.specs.Pushing.{Known, with_polynomials, at_first, push, push_list}
use Rattle.qs_entail.specs.Facts.{condition, different_sides, added}
use Rattle.qs_entail.specs.Faults.{CertFault, step, node, part, members_of, member_of, member_count, summands_of, summand_count, guarded_of, definition, branch, unfolded, contradiction, arithmetic_holds, count_certs}

-- ---- the conditions and the count of polynomials that hypotheses push

pub record Outline : Type 0 where
  pub conditions : List CondTree
  pub count : ℕ

abbrev pub takes : CondTree → ℕ → Outline → Outline
takes c n o = record { conditions = o.conditions ++ c ∷ []; count = o.count + n }

abbrev mutual
  pub outline : CondTree → Outline → Outline
  outline (le t u) o = takes (le t u) 1 o
  outline (lt t u) o = takes (lt t u) 1 o
  outline (eq t u) o = takes (eq t u) 2 o
  outline (ne t u) o = takes (ne t u) 0 o
  outline (not c) o = outline_not c o
  outline (and cs) o = outline_all cs o
  outline (or cs) o = takes (or cs) 0 o

  pub outline_not : CondTree → Outline → Outline
  outline_not (le t u) o = takes (lt u t) 1 o
  outline_not (lt t u) o = takes (le u t) 1 o
  outline_not (eq t u) o = takes (not (eq t u)) 0 o
  outline_not (ne t u) o = takes (eq t u) 2 o
  outline_not (not c) o = outline c o
  outline_not (and cs) o = takes (not (and cs)) 0 o
  outline_not (or cs) o = outline_nots cs o

  pub outline_all : CondTrees → Outline → Outline
  outline_all no_conds o = o
  outline_all (cond_and c cs) o = outline_all cs (outline c o)

  pub outline_nots : CondTrees → Outline → Outline
  outline_nots no_conds o = o
  outline_nots (cond_and c cs) o = outline_nots cs (outline_not c o)

abbrev pub outline_list : List CondTree → Outline → Outline
outline_list [] o = o
outline_list (c ∷ cs) o = outline_list cs (outline c o)

-- ---- the conditions without polynomials of a node

abbrev pub is_given : {A : Type 0} → Result A Stop → Bool
is_given (Ok a) = true
is_given (Err failure) = false

abbrev pub is_counted : ℤ → ℕ → Bool
is_counted (pos i) n = nat_lt i n
is_counted (negsuc i) n = false

abbrev pub are_counted : List Item → ℕ → Bool
are_counted [] n = true
are_counted (once k i ∷ items) n = is_counted i n && are_counted items n
are_counted (twice k i j ∷ items) n = (is_counted i n && is_counted j n) && are_counted items n

abbrev pub fact_stands : FactTree → Outline → Bool
fact_stands (range x) o = true
fact_stands (cost_range f) o = true
fact_stands (apart i w) o = is_given (bind (condition o.conditions i) different_sides) && are_counted w o.count
fact_stands (num_is t w) o = are_counted w o.count
fact_stands (num_bounds t) o = true
fact_stands (wrapu_is t v w) o = are_counted v o.count && are_counted w o.count
fact_stands (wraps_is t v w) o = are_counted v o.count && are_counted w o.count
fact_stands (wrapu_bounds t) o = true
fact_stands (wraps_bounds t) o = true
fact_stands (quotient_bounds t n) o = nat_le 1 n
fact_stands (bits_bound t) o = true
fact_stands (bits_half t w) o = are_counted w o.count
fact_stands (bits_rise t u w) o = are_counted w o.count

abbrev pub has_count : ℕ → Result ℕ Stop → Bool
has_count n (Ok m) = n == m
has_count n (Err failure) = false

abbrev pub stands : CertTree → List Define → Outline → AssertionTree → AssertionTree → Bool
stands same ds o p q = same_assertion p q
stands (via r c d) ds o p q = true
stands (pick i c) ds o p q = is_given (member_of p i)
stands (all cs) ds o p q = has_count (count_certs cs) (member_count q)
stands (parts cs) ds o p q = has_count (count_certs cs) (summand_count p) && has_count (count_certs cs) (summand_count q)
stands (assume c) ds o p q = is_given (guarded_of p)
stands (drop c d) ds o p q = is_given (guarded_of q)
stands (split b c d) ds o p q = true
stands (contradict w) ds o p q = are_counted w o.count
stands (arithmetic w) ds o p q = (is_plain p && is_plain q) && are_counted w o.count
stands (by_definition n c) ds o p q = is_given (definition ds n)
stands (fact f c) ds o p q = fact_stands f o

abbrev pub rule_of : CertTree → Rule
rule_of same = rules.Same
rule_of (via r c d) = rules.Via
rule_of (pick i c) = rules.Pick
rule_of (all cs) = rules.All
rule_of (parts cs) = rules.Parts
rule_of (assume c) = rules.Assume
rule_of (drop c d) = rules.DropGuard
rule_of (split b c d) = rules.Split
rule_of (contradict w) = rules.Contradict
rule_of (arithmetic w) = rules.Arithmetic
rule_of (by_definition n c) = rules.ByDefinition
rule_of (fact f c) = rules.Fact

-- ---- nodes

-- what is known, by its conditions and the count of its polynomials
abbrev pub outlined : Known → Outline
outlined k = record { conditions = k.conditions; count = length k.polynomials }

-- a node: its conditions without polynomials, and then the rest
abbrev pub begun : CertTree → List Define → Outline → AssertionTree → AssertionTree → Option CertFault → Option CertFault
begun c ds o p q rest = if stands c ds o p q then rest else Some (step [] (rule_of c))

abbrev mutual
  -- the first fault of the polynomials and the parts of a node whose other conditions hold
  pub rest : CertTree → List Define → Known → AssertionTree → AssertionTree → Option CertFault
  rest same ds k p q = None
  rest (via r c d) ds k p q =
      option_or (part 0 (begun c ds (outlined k) p r (rest c ds k p r))) (part 1 (begun d ds (outlined k) r q (rest d ds k r q)))
  rest (pick i c) ds k p q =
      node rules.Pick (member_of p i) (λ a. part 0 (begun c ds (outlined k) a q (rest c ds k a q)))
  rest (all cs) ds k p q = node rules.All (members_of q) (λ members. faults_all cs 0 ds k p members)
  rest (parts cs) ds k p q =
      node rules.Parts (summands_of p) (λ left. node rules.Parts (summands_of q) (λ right. faults_parts cs 0 ds k left right))
  rest (assume c) ds k p q =
      node rules.Assume (guarded_of p) (λ g. node rules.Assume (push g.condition k) (λ k'. part 0 (begun c ds (outlined k') g.body q (rest c ds k' g.body q))))
  rest (drop c d) ds k p q =
      node rules.DropGuard (guarded_of q) (λ g. node rules.DropGuard (push (not g.condition) k) (λ k'.
      option_or (part 0 (begun c ds (outlined k') (natural 0) infinity (rest c ds k' (natural 0) infinity))) (part 1 (begun d ds (outlined k) p g.body (rest d ds k p g.body)))))
  rest (split b c d) ds k p q =
      node rules.Split (push b k) (λ k'. node rules.Split (push (not b) k) (λ k''.
      option_or (part 0 (begun c ds (outlined k') (branch b true p) (branch b true q) (rest c ds k' (branch b true p) (branch b true q)))) (part 1 (begun d ds (outlined k'') (branch b false p) (branch b false q) (rest d ds k'' (branch b false p) (branch b false q))))))
  rest (contradict w) ds k p q = node rules.Contradict (contradiction w k) (λ _. None)
  rest (arithmetic w) ds k p q = node rules.Arithmetic (arithmetic_holds w k p q) (λ _. None)
  rest (by_definition n c) ds k p q =
      node rules.ByDefinition (definition ds n) (λ body. part 0 (begun c ds (outlined k) (unfolded n body p) (unfolded n body q) (rest c ds k (unfolded n body p) (unfolded n body q))))
  rest (fact f c) ds k p q =
      node rules.Fact (added f k) (λ ps. part 0 (begun c ds (outlined (with_polynomials ps k)) p q (rest c ds (with_polynomials ps k) p q)))

  pub faults_all : CertTrees → ℕ → List Define → Known → AssertionTree → AssertionTrees → Option CertFault
  faults_all no_certs i ds k p members = None
  faults_all (cert_and c cs) i ds k p no_assertions = None
  faults_all (cert_and c cs) i ds k p (assertion_and q others) =
      option_or (part i (begun c ds (outlined k) p q (rest c ds k p q))) (faults_all cs (suc i) ds k p others)

  pub faults_parts : CertTrees → ℕ → List Define → Known → AssertionTrees → AssertionTrees → Option CertFault
  faults_parts no_certs i ds k left right = None
  faults_parts (cert_and c cs) i ds k no_assertions right = None
  faults_parts (cert_and c cs) i ds k (assertion_and p ps) no_assertions = None
  faults_parts (cert_and c cs) i ds k (assertion_and p ps) (assertion_and q qs) =
      option_or (part i (begun c ds (outlined k) p q (rest c ds k p q))) (faults_parts cs (suc i) ds k ps qs)

-- the first fault of a certificate that P is at least Q, under what is known
abbrev pub fault : CertTree → List Define → Known → AssertionTree → AssertionTree → Option CertFault
fault c ds k p q = begun c ds (outlined k) p q (rest c ds k p q)

-- ---- the verdict

-- 1 is known to be at least 0
abbrev pub outlined_first : Outline
outlined_first = record { conditions = []; count = 1 }

-- the root's conditions without polynomials hold under the hypotheses
abbrev pub root_stands : List CondTree → List Define → AssertionTree → AssertionTree → CertTree → Bool
root_stands hypotheses ds p q c = stands c ds (outline_list hypotheses outlined_first) p q

-- the first fault of a root whose other conditions hold, and of its parts
abbrev pub rest_under : List CondTree → List Define → AssertionTree → AssertionTree → CertTree → Option CertFault
rest_under hypotheses ds p q c = node (rule_of c) (push_list hypotheses at_first) (λ k. rest c ds k p q)

-- The first fault, or none where the certificate shows under the hypotheses that P is at least Q. The root is
-- a node that pushes the hypotheses.
abbrev pub verdict : List CondTree → List Define → AssertionTree → AssertionTree → CertTree → Option CertFault
verdict hypotheses ds p q c =
    begun c ds (outline_list hypotheses outlined_first) p q (rest_under hypotheses ds p q c)
