-- What the functions of a sample cost at most, and how long a path of their calls can be.
use Rattle.std.proofs.Common.{◌≡◌, ℕ, zero, suc, ◌+◌, ◌*◌, ◌<◌, ◌≤◌, ◌^◌, List, [], ◌∷◌, length, All, slice_index_or, refl, arith}
use Rattle.std.proofs.lemmas.List.Elements.{All-nil, All-cons}
use Rattle.qs_syntax.specs.declared.nodes.Node.{Node}
use Rattle.qs_syntax.specs.Trees.{ExprTree, expr, call, no_exprs, expr_and, function, UnitTree}
use Rattle.qs_events.specs.Weights.{Costs}
use Rattle.qs_types.specs.Contexts.{Context}
use Rattle.qs_types.specs.UnitRules.{after_declaration}
use Rattle.qs_meaning.specs.Typed.{Function}
use Rattle.qs_elaborate_limits.specs.Caps.{cap, caps_from, EachBelow}
use Rattle.qs_elaborate_bodies.specs.Names.{FunctionNames}
use Rattle.qs_elaborate_bodies.specs.Units.{functions_core}
use Rattle.qs_analyse.specs.Paths.{IsChainFrom, total_cost, IsLongestPath}
use Rattle.qs_machine.specs.State.{stack_limit}
use Rattle.qs_driver_session.proofs.SampleTrees.{function_name, next, IsValue, the_next, a_call, returning, function_of, main_of, main_body, IsTail, the_main, a_function}
use Rattle.qs_driver_session.proofs.SampleMeaning.{typed_tail}
use Rattle.qs_driver.proofs.SampleCore.{core_by, calls_the_one_before}

-- ---- costs

-- no function of a sample costs more
abbrev pub most_cost : ℕ
most_cost = 96

abbrev pub AreCheap : List ℕ → Type 0
AreCheap [] = Unit {0}
AreCheap (cost ∷ costs) = (cost ≤ most_cost) × AreCheap costs

value_cap : (c : Context) (node p r : Node) (k : ℕ) {j : ℕ} {e : ExprTree} → IsValue j e → cap c (function_of node p r k e) (returning r e) ≤ most_cost
value_cap c node p r k (the_next a b d) =
    let is : cap c (function_of node p r k (next a b d)) (returning r (next a b d)) ≡ 32 = refl in
    omega arith
value_cap c node p r k (a_call n a b d j) =
    let e : ExprTree = expr n (call (function_name (suc j)) (expr_and (next a b d) no_exprs)) in
    let is : cap c (function_of node p r k e) (returning r e) ≡ 48 = refl in
    omega arith

pub caps_are_cheap : (c : Context) {j left : ℕ} {ds : UnitTree} → IsTail j left ds → AreCheap (caps_from c ds)
caps_are_cheap c (the_main node m n) = let is : cap c (main_of node m n) (main_body m n) ≡ 80 = refl in (omega arith, tt)
caps_are_cheap c (a_function node p r j left e ds v t) =
    (value_cap c node p r (suc j) v, caps_are_cheap (after_declaration c (function (function_of node p r (suc j) e))) t)

pub cheap_below : (costs caps : List ℕ) → EachBelow costs caps → AreCheap caps → AreCheap costs
cheap_below [] caps e a = tt
cheap_below (x ∷ xs) [] e a = absurd e
cheap_below (x ∷ xs) (y ∷ ys) e a =
    let lower : x ≤ y = e.0 in
    let cheap : y ≤ most_cost = a.0 in
    (omega arith, cheap_below xs ys e.1 a.1)

pub cheap_at : (costs : List ℕ) (f : ℕ) → AreCheap costs → slice_index_or costs f 0 ≤ most_cost
cheap_at [] f a = omega arith
cheap_at (x ∷ xs) zero a = a.0
cheap_at (x ∷ xs) (suc f) a = cheap_at xs f a.1

pub all_cheap : (costs : List ℕ) → AreCheap costs → All (λ c. c < 2 ^ 32) costs
all_cheap [] a = All-nil (λ c. c < 2 ^ 32)
all_cheap (x ∷ xs) a = let cheap : x ≤ most_cost = a.0 in All-cons (λ c. c < 2 ^ 32) x xs (omega arith) (all_cheap xs a.1)

-- ---- paths

functions_count : (names : List FunctionNames) (gs : List Function) → length (functions_core names gs) ≡ length gs
functions_count names [] = refl
functions_count [] (g ∷ gs) = let behind : length (functions_core [] gs) ≡ length gs = functions_count [] gs in omega arith
functions_count (n ∷ names) (g ∷ gs) = let behind : length (functions_core names gs) ≡ length gs = functions_count names gs in omega arith

tail_count : (j left : ℕ) → length (typed_tail j left) ≡ left + 1
tail_count j zero = omega arith
tail_count j (suc left) = let behind : length (typed_tail (suc j) left) ≡ left + 1 = tail_count (suc j) left in omega arith

pub few_functions : (names : List FunctionNames) (n : ℕ) → n < 512 → length (core_by names n).functions < 2 ^ 63
few_functions names n l = omega (arith, functions_count names (typed_tail 0 n), tail_count 0 n)

chain_is_short : (names : List FunctionNames) (n : ℕ) (gs : List ℕ) (f : ℕ) → 1 ≤ n → IsChainFrom (core_by names n) f gs → length gs ≤ f
chain_is_short names n [] f l c = omega arith
chain_is_short names n (g ∷ gs) f l c =
    let before : suc g ≡ f = calls_the_one_before names n f g l c.0 in
    let behind : length gs ≤ g = chain_is_short names n gs g l c.1 in
    omega arith

total_is_small : (cost : Costs) (gs : List ℕ) → ((f : ℕ) → cost f ≤ most_cost) → total_cost cost gs ≤ most_cost * length gs
total_is_small cost [] cheap = omega arith
total_is_small cost (g ∷ gs) cheap =
    let one : cost g ≤ most_cost = cheap g in
    let others : total_cost cost gs ≤ most_cost * length gs = total_is_small cost gs cheap in
    omega arith

-- with these costs there is a stack for the longest path from main
pub longest_path_is_small : (names : List FunctionNames) (n : ℕ) (cost : Costs) (bound : ℕ) → 1 ≤ n → n < 512 → ((f : ℕ) → cost f ≤ most_cost)
    → IsLongestPath (core_by names n) cost n bound → bound ≤ stack_limit
longest_path_is_small names n cost bound l h cheap path =
    let reached : cost n + total_cost cost path.chain ≡ bound = path.reached in
    let one : cost n ≤ most_cost = cheap n in
    let total : total_cost cost path.chain ≤ most_cost * length path.chain = total_is_small cost path.chain cheap in
    let short : length path.chain ≤ n = chain_is_short names n path.chain n l path.is_chain in
    omega arith
