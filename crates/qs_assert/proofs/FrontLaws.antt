-- The nodes of a tree are the first tree of a list that begins with them.
use Rattle.std.proofs.Common.{◌≡◌, ◌<◌, ◌+◌, ℕ, suc, take, drop, refl, ap, ◌∙◌, sym, subst, List, [], ◌∷◌, ◌++◌, length, map, append_assoc, length-append, length-drop, add-one, arith}
use Rattle.std.proofs.lemmas.List.{map-append, take_at, drop_at}
use Rattle.qs_assert.specs.declared.node.TermNode.{TermNode}
use Rattle.qs_assert.specs.declared.node.TermNode.TheVariants.{Number, Variable, Add, Sub, Mul, Div, WrapUnsigned, WrapSigned, Bits}
use Rattle.qs_assert.specs.declared.node.CondNode.TheVariants.{Le, Lt, Eq, Ne, Not, And, Or}
use Rattle.qs_assert.specs.declared.node.AssertionNode.TheVariants.{Natural, Infinity, Cost, Num, Total, Greatest, Product, Guard, If, Named}
use Rattle.qs_assert.specs.declared.node.Node.{Node}
use Rattle.qs_assert.specs.declared.node.Node.TheVariants.{Term, Condition, Assertion}
use Rattle.qs_assert.specs.Trees.{TermTree, number, variable, add, sub, mul, div, wrapu, wraps, bits, TermTrees, no_terms, term_and, CondTree, le, lt, eq, ne, not, and, or, CondTrees, no_conds, cond_and, AssertionTree, natural, infinity, cost, num, total, greatest, product, guard, choose, named, AssertionTrees, no_assertions, assertion_and, term_list, cond_list, assertion_list}
use Rattle.qs_assert.specs.Listing.{term_nodes, terms_nodes, inner_term, cond_nodes, conds_nodes, assertion_nodes, assertions_nodes}
use Rattle.qs_assert.specs.Shapes.{arity}
use Rattle.qs_assert.specs.Views.{front_length}

pub none_needed : (nodes : List Node) → front_length nodes 0 ≡ 0
none_needed [] = refl
none_needed (node ∷ nodes) = refl

-- k trees at the front of any list
pub record Fronts (xs : List Node) (k : ℕ) : Type 0 where
  pub holds : (n : ℕ) (rest : List Node) → front_length (xs ++ rest) (n + k) ≡ length xs + front_length rest n

nothing : Fronts [] 0
nothing = record {
  holds = λ n rest.
      let less : n + 0 ≡ n = omega arith in
      let none : front_length rest n ≡ 0 + front_length rest n = omega arith in
      ap (front_length rest) less ∙ none;
}

pub together : (xs ys : List Node) (j k : ℕ) → Fronts xs j → Fronts ys k → Fronts (xs ++ ys) (j + k)
together xs ys j k a b = record {
  holds = λ n rest.
      let more : n + (j + k) ≡ (n + k) + j = omega arith in
      let one = ap (λ (l : List Node). front_length l (n + (j + k))) (append_assoc xs ys rest) in
      let two = ap (front_length (xs ++ (ys ++ rest))) more in
      let three = a.holds (n + k) (ys ++ rest) in
      let four = ap (λ (m : ℕ). length xs + m) (b.holds n rest) in
      let five : length xs + (length ys + front_length rest n) ≡ length (xs ++ ys) + front_length rest n = omega (arith, length-append xs ys) in
      one ∙ (two ∙ (three ∙ (four ∙ five)));
}

headed : (node : Node) (xs : List Node) → Fronts xs (arity node) → Fronts (node ∷ xs) 1
headed node xs a = record {
  holds = λ n rest.
      ap (front_length (node ∷ (xs ++ rest))) (add-one n) ∙ (ap suc (a.holds n rest) ∙ omega arith);
}

apart : (xs ys : List TermNode) (j k : ℕ) → Fronts (map Term xs) j → Fronts (map Term ys) k → Fronts (map Term (xs ++ ys)) (j + k)
apart xs ys j k a b = subst (λ (l : List Node). Fronts l (j + k)) (sym (map-append Term xs ys)) (together (map Term xs) (map Term ys) j k a b)

counted : (xs : List Node) (j k : ℕ) → j ≡ k → Fronts xs j → Fronts xs k
counted xs j k e a = subst (λ (m : ℕ). Fronts xs m) e a

mutual
  pub term_front : (t : TermTree) → Fronts (inner_term t) 1
  term_front (number k) = headed (Term (Number k)) [] nothing
  term_front (variable x) = headed (Term (Variable x)) [] nothing
  term_front (add ts) = headed (Term (Add _)) _ (terms_front ts)
  term_front (sub t u) = headed (Term Sub) _ (apart (term_nodes t) (term_nodes u) 1 1 (term_front t) (term_front u))
  term_front (mul ts) = headed (Term (Mul _)) _ (terms_front ts)
  term_front (div t k) = headed (Term (Div k)) _ (term_front t)
  term_front (wrapu t) = headed (Term WrapUnsigned) _ (term_front t)
  term_front (wraps t) = headed (Term WrapSigned) _ (term_front t)
  term_front (bits t) = headed (Term Bits) _ (term_front t)

  terms_front : (ts : TermTrees) → Fronts (map Term (terms_nodes ts)) (length (term_list ts))
  terms_front no_terms = nothing
  terms_front (term_and t ts) =
      counted _ (1 + length (term_list ts)) _ (omega arith) (apart (term_nodes t) (terms_nodes ts) 1 (length (term_list ts)) (term_front t) (terms_front ts))

two_fronts : (node : Node) (t u : TermTree) → arity node ≡ 2 → Fronts (node ∷ inner_term t ++ inner_term u) 1
two_fronts node t u e =
    headed node _ (counted _ 2 _ (sym e) (together (inner_term t) (inner_term u) 1 1 (term_front t) (term_front u)))

mutual
  pub cond_front : (c : CondTree) → Fronts (cond_nodes c) 1
  cond_front (le t u) = two_fronts (Condition Le) t u refl
  cond_front (lt t u) = two_fronts (Condition Lt) t u refl
  cond_front (eq t u) = two_fronts (Condition Eq) t u refl
  cond_front (ne t u) = two_fronts (Condition Ne) t u refl
  cond_front (not c) = headed (Condition Not) _ (cond_front c)
  cond_front (and cs) = headed (Condition (And _)) _ (conds_front cs)
  cond_front (or cs) = headed (Condition (Or _)) _ (conds_front cs)

  pub conds_front : (cs : CondTrees) → Fronts (conds_nodes cs) (length (cond_list cs))
  conds_front no_conds = nothing
  conds_front (cond_and c cs) =
      counted _ (1 + length (cond_list cs)) _ (omega arith) (together (cond_nodes c) (conds_nodes cs) 1 (length (cond_list cs)) (cond_front c) (conds_front cs))

mutual
  pub assertion_front : (a : AssertionTree) → Fronts (assertion_nodes a) 1
  assertion_front (natural n) = headed (Assertion (Natural n)) [] nothing
  assertion_front infinity = headed (Assertion Infinity) [] nothing
  assertion_front (cost f) = headed (Assertion (Cost (record { 0 = f }))) [] nothing
  assertion_front (num t) = headed (Assertion Num) _ (term_front t)
  assertion_front (total parts) = headed (Assertion (Total _)) _ (assertions_front parts)
  assertion_front (greatest parts) = headed (Assertion (Greatest _)) _ (assertions_front parts)
  assertion_front (product parts) = headed (Assertion (Product _)) _ (assertions_front parts)
  assertion_front (guard c a) =
      headed (Assertion Guard) _ (together (cond_nodes c) (assertion_nodes a) 1 1 (cond_front c) (assertion_front a))
  assertion_front (choose c a b) =
      headed (Assertion If) _ (together (cond_nodes c) (assertion_nodes a ++ assertion_nodes b) 1 2 (cond_front c) (together (assertion_nodes a) (assertion_nodes b) 1 1 (assertion_front a) (assertion_front b)))
  assertion_front (named n) = headed (Assertion (Named n)) [] nothing

  pub assertions_front : (parts : AssertionTrees) → Fronts (assertions_nodes parts) (length (assertion_list parts))
  assertions_front no_assertions = nothing
  assertions_front (assertion_and a parts) =
      counted _ (1 + length (assertion_list parts)) _ (omega arith) (together (assertion_nodes a) (assertions_nodes parts) 1 (length (assertion_list parts)) (assertion_front a) (assertions_front parts))

-- the first tree of a list, and what follows it

pub front_is : (xs rest nodes : List Node) → Fronts xs 1 → nodes ≡ xs ++ rest → front_length nodes 1 ≡ length xs
front_is xs rest nodes f e = ap (λ (l : List Node). front_length l 1) e ∙ (f.holds 0 rest ∙ omega (arith, none_needed rest))

pub first_is : (xs rest nodes : List Node) → Fronts xs 1 → nodes ≡ xs ++ rest → take (front_length nodes 1) nodes ≡ xs
first_is xs rest nodes f e = ap (take (front_length nodes 1)) e ∙ take_at xs rest (front_length nodes 1) (sym (front_is xs rest nodes f e))

pub others_are : (xs rest nodes : List Node) → Fronts xs 1 → nodes ≡ xs ++ rest → drop (front_length nodes 1) nodes ≡ rest
others_are xs rest nodes f e = ap (drop (front_length nodes 1)) e ∙ drop_at xs rest (front_length nodes 1) (sym (front_is xs rest nodes f e))

-- what follows it is shorter
pub fewer : (nodes rest : List Node) → 0 < length nodes → rest ≡ drop (front_length nodes 1) nodes → length rest < length nodes
fewer [] rest h e = absurd (omega arith)
fewer (node ∷ nodes) rest h e = omega (arith, ap length e, length-drop (front_length (node ∷ nodes) 1) (node ∷ nodes))
