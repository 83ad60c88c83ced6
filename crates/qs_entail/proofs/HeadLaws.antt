-- The heads of assertions and conditions tell how many parts they have, and whether they are of a form.
use Rattle.std.proofs.Common.{◌≡◌, ℕ, zero, suc, List, length, refl, sym, ap, ◌∙◌, true, false, arith}
use Rattle.std.specs.Prelude.{ℤ, pos, negsuc, Bool, ◌&&◌, ◌||◌, nat_lt, Option, Some, None, Result, Ok, Err}
use Rattle.qs_assert.specs.declared.node.CondNode.TheVariants.{Eq, Ne, Not}
use Rattle.qs_assert.specs.declared.node.AssertionNode.TheVariants.{Guard}
use Rattle.qs_assert.specs.declared.node.Node.{Node}
use Rattle.qs_assert.specs.declared.node.Node.TheVariants.{Condition, Assertion}
use Rattle.qs_assert.specs.Trees.{CondTree, le, lt, eq, ne, not, and, or, AssertionTree, natural, infinity, cost, num, total, greatest, product, guard, choose, named, AssertionTrees, no_assertions, assertion_and, assertion_list}
use Rattle.qs_assert.specs.Listing.{cond_nodes, assertion_nodes}
use Rattle.qs_assert.specs.Reading.{others}
use Rattle.qs_base.specs.Results.{bind}
use Rattle.qs_entail.specs.Building.{Stop}
use Rattle.qs_entail.specs.Facts.{equal_sides, different_sides}
use Rattle.qs_entail.specs.Faults.{members_of, summands_of, guarded_of, member, member_at, count}
use Rattle.qs_assert.specs.Views.{begins}
use Rattle.qs_entail.specs.Fronts.{greatest_count, total_count}
use Rattle.qs_entail.specs.Standing.{counted}
use Rattle.qs_entail.specs.Verdicts.{is_given, is_counted}

count_is : (parts : AssertionTrees) → count parts ≡ length (assertion_list parts)
count_is no_assertions = refl
count_is (assertion_and a parts) = ap suc (count_is parts)

members_counted : (a : AssertionTree) → bind (members_of a) (λ members. Ok (count members)) ≡ counted (greatest_count (assertion_nodes a))
members_counted (natural n) = refl
members_counted infinity = refl
members_counted (cost f) = refl
members_counted (num t) = refl
members_counted (total parts) = refl
members_counted (greatest parts) = ap (λ (n : ℕ). Ok n) (count_is parts)
members_counted (product parts) = refl
members_counted (guard c a) = refl
members_counted (choose c a b) = refl
members_counted (named n) = refl

pub members_are : (a : AssertionTree) (nodes : List Node) (r : Option ℕ) → nodes ≡ assertion_nodes a → r ≡ greatest_count nodes → bind (members_of a) (λ members. Ok (count members)) ≡ counted r
members_are a nodes r e h = members_counted a ∙ sym (ap counted (h ∙ ap greatest_count e))

summands_counted : (a : AssertionTree) → bind (summands_of a) (λ summands. Ok (count summands)) ≡ counted (total_count (assertion_nodes a))
summands_counted (natural n) = refl
summands_counted infinity = refl
summands_counted (cost f) = refl
summands_counted (num t) = refl
summands_counted (total parts) = ap (λ (n : ℕ). Ok n) (count_is parts)
summands_counted (greatest parts) = refl
summands_counted (product parts) = refl
summands_counted (guard c a) = refl
summands_counted (choose c a b) = refl
summands_counted (named n) = refl

pub summands_are : (a : AssertionTree) (nodes : List Node) (r : Option ℕ) → nodes ≡ assertion_nodes a → r ≡ total_count nodes → bind (summands_of a) (λ summands. Ok (count summands)) ≡ counted r
summands_are a nodes r e h = summands_counted a ∙ sym (ap counted (h ∙ ap total_count e))

-- ---- members by number

none_below : (i : ℕ) → false ≡ nat_lt i 0
none_below i = grind arith

first_below : (n : ℕ) → true ≡ nat_lt 0 (suc n)
first_below n = grind arith

next_below : (i n : ℕ) → nat_lt i n ≡ nat_lt (suc i) (suc n)
next_below i n = grind arith

member_given : (parts : AssertionTrees) (i : ℕ) → is_given (member parts i) ≡ nat_lt i (count parts)
member_given no_assertions i = none_below i
member_given (assertion_and a parts) zero = first_below (count parts)
member_given (assertion_and a parts) (suc i) = member_given parts i ∙ next_below i (count parts)

member_at_given : (parts : AssertionTrees) (i : ℤ) → is_given (member_at parts i) ≡ is_counted i (count parts)
member_at_given parts (pos i) = member_given parts i
member_at_given parts (negsuc i) = refl

pub numbered : (r : Result AssertionTrees Stop) (i : ℤ) (n : ℕ) (b : Bool) → bind r (λ members. Ok (count members)) ≡ counted (Some n) → b ≡ is_counted i n → b ≡ is_given (bind r (λ members. member_at members i))
numbered (Ok parts) i n b e h =
    let same : count parts ≡ n = cc in
    h ∙ (sym (ap (λ (k : ℕ). is_counted i k) same) ∙ sym (member_at_given parts i))
numbered (Err failure) i n b e h = cc

pub none_numbered : (r : Result AssertionTrees Stop) (i : ℤ) → bind r (λ members. Ok (count members)) ≡ counted None → false ≡ is_given (bind r (λ members. member_at members i))
none_numbered (Ok parts) i e = cc
none_numbered (Err failure) i e = refl

-- ---- guards, and conditions that say that terms differ

guard_begins : (a : AssertionTree) → begins (assertion_nodes a) (Assertion Guard) ≡ is_given (guarded_of a)
guard_begins (natural n) = refl
guard_begins infinity = refl
guard_begins (cost f) = refl
guard_begins (num t) = refl
guard_begins (total parts) = refl
guard_begins (greatest parts) = refl
guard_begins (product parts) = refl
guard_begins (guard c a) = refl
guard_begins (choose c a b) = refl
guard_begins (named n) = refl

pub guard_given : (a : AssertionTree) (nodes : List Node) (b : Bool) → nodes ≡ assertion_nodes a → b ≡ begins nodes (Assertion Guard) → b ≡ is_given (guarded_of a)
guard_given a nodes b e h = h ∙ (ap (λ (l : List Node). begins l (Assertion Guard)) e ∙ guard_begins a)

abbrev pub begins_different : List Node → Bool
begins_different nodes = begins nodes (Condition Ne) || (begins nodes (Condition Not) && begins (others nodes) (Condition Eq))

equal_begins : (c : CondTree) → begins (cond_nodes c) (Condition Eq) ≡ is_given (equal_sides c)
equal_begins (le t u) = refl
equal_begins (lt t u) = refl
equal_begins (eq t u) = refl
equal_begins (ne t u) = refl
equal_begins (not c) = refl
equal_begins (and cs) = refl
equal_begins (or cs) = refl

different_begins : (c : CondTree) → begins_different (cond_nodes c) ≡ is_given (different_sides c)
different_begins (le t u) = refl
different_begins (lt t u) = refl
different_begins (eq t u) = refl
different_begins (ne t u) = refl
different_begins (not c) = equal_begins c
different_begins (and cs) = refl
different_begins (or cs) = refl

pub difference_given : (c : CondTree) (nodes : List Node) (b : Bool) → nodes ≡ cond_nodes c → b ≡ begins_different nodes → b ≡ is_given (different_sides c)
difference_given c nodes b e h = h ∙ (ap begins_different e ∙ different_begins c)
