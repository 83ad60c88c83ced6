-- The steps over the nodes of a tree give its polynomial.
use Rattle.std.proofs.Common.{◌≡◌, pos, List, [], ◌∷◌, ◌++◌, map, drop, length, refl, sym, ap, ◌∙◌}
use Rattle.std.specs.Prelude.{Result, Ok, Err}
use Rattle.qs_assert.specs.declared.node.TermNode.{TermNode}
use Rattle.qs_assert.specs.declared.node.TermNode.TheVariants.{Add, Sub, Mul, Div, WrapUnsigned, WrapSigned, Bits}
use Rattle.qs_assert.specs.declared.node.CondNode.TheVariants.{Le, Lt, Eq, Ne}
use Rattle.qs_assert.specs.declared.node.AssertionNode.TheVariants.{Num, Total, Greatest, Product, Guard, If}
use Rattle.qs_assert.specs.declared.node.Node.{Node}
use Rattle.qs_assert.specs.declared.node.Node.TheVariants.{Term}
use Rattle.qs_assert.specs.Trees.{TermTree, number, variable, add, sub, mul, div, wrapu, wraps, bits, TermTrees, no_terms, term_and, CondTree, le, lt, eq, ne, not, and, or, CondTrees, no_conds, cond_and, AssertionTree, natural, infinity, cost, num, total, greatest, product, guard, choose, named, AssertionTrees, no_assertions, assertion_and, term_list, assertion_list}
use Rattle.qs_assert.specs.Listing.{term_nodes, terms_nodes, inner_term, cond_nodes, conds_nodes, assertion_nodes, assertions_nodes}
use Rattle.qs_poly.specs.Polynomials.{Polynomial, nothing}
use Rattle.qs_poly.specs.Operations as operation
use Rattle.qs_entail.specs.declared.operation.Operation.{Operation}
use Rattle.qs_entail.specs.declared.operation.Operation.TheVariants as operations
use Rattle.qs_base.specs.Results.{bind}
use Rattle.qs_entail.specs.Building.{Stop, limited, term_polynomial, sum_onto, product_onto, assertion_polynomial, total_onto, factors_onto}
use Rattle.qs_entail.specs.Stacks.{operated, on_both, joined, step_term, term_steps, Stacks, step_cond, step_assertion, step_node, node_steps}

abbrev Attempt : Type 0
Attempt = Result Polynomial Stop

-- ---- what is joined

bind_itself : (a : Attempt) → bind a (λ p. Ok p) ≡ a
bind_itself (Ok p) = refl
bind_itself (Err failure) = refl

-- an attempt joined to one, and what follows
then : (f : Operation) (a x : Attempt) (more : Polynomial → Attempt) → bind (on_both f a x) more ≡ bind a (λ p. bind x (λ q. bind (limited (operated f p q)) more))
then f (Ok p) (Ok q) more = refl
then f (Ok p) (Err failure) more = refl
then f (Err failure) x more = refl

sum_read : (ts : TermTrees) (more : List Attempt) (a : Attempt) → joined operations.Sum (length (term_list ts)) (map term_polynomial (term_list ts) ++ more) a ≡ bind a (sum_onto ts)
sum_read no_terms more a = sym (bind_itself a)
sum_read (term_and t ts) more a = sum_read ts more (on_both operations.Sum a (term_polynomial t)) ∙ then operations.Sum a (term_polynomial t) (sum_onto ts)

product_read : (ts : TermTrees) (more : List Attempt) (a : Attempt) → joined operations.Product (length (term_list ts)) (map term_polynomial (term_list ts) ++ more) a ≡ bind a (product_onto ts)
product_read no_terms more a = sym (bind_itself a)
product_read (term_and t ts) more a = product_read ts more (on_both operations.Product a (term_polynomial t)) ∙ then operations.Product a (term_polynomial t) (product_onto ts)

total_read : (parts : AssertionTrees) (more : List Attempt) (a : Attempt) → joined operations.Sum (length (assertion_list parts)) (map assertion_polynomial (assertion_list parts) ++ more) a ≡ bind a (total_onto parts)
total_read no_assertions more a = sym (bind_itself a)
total_read (assertion_and b parts) more a = total_read parts more (on_both operations.Sum a (assertion_polynomial b)) ∙ then operations.Sum a (assertion_polynomial b) (total_onto parts)

factors_read : (parts : AssertionTrees) (more : List Attempt) (a : Attempt) → joined operations.Product (length (assertion_list parts)) (map assertion_polynomial (assertion_list parts) ++ more) a ≡ bind a (factors_onto parts)
factors_read no_assertions more a = sym (bind_itself a)
factors_read (assertion_and b parts) more a = factors_read parts more (on_both operations.Product a (assertion_polynomial b)) ∙ then operations.Product a (assertion_polynomial b) (factors_onto parts)

drop_read : {A B : Type 0} (f : A → B) (xs : List A) (more : List B) → drop (length xs) (map f xs ++ more) ≡ more
drop_read f [] more = refl
drop_read f (x ∷ xs) more = drop_read f xs more

-- ---- terms

term_steps-append : (xs ys : List TermNode) (s : List Attempt) → term_steps (xs ++ ys) s ≡ term_steps xs (term_steps ys s)
term_steps-append [] ys s = refl
term_steps-append (x ∷ xs) ys s = ap (step_term x) (term_steps-append xs ys s)

mutual
  pub term_read : (t : TermTree) (more : List Attempt) → term_steps (term_nodes t) more ≡ term_polynomial t ∷ more
  term_read (number k) more = refl
  term_read (variable x) more = refl
  term_read (add ts) more =
      ap (step_term (Add (length (term_list ts)))) (terms_read ts more) ∙ (λ i. sum_read ts more (Ok nothing) i ∷ drop_read term_polynomial (term_list ts) more i)
  term_read (sub t u) more =
      ap (step_term Sub) (term_steps-append (term_nodes t) (term_nodes u) more ∙ ap (term_steps (term_nodes t)) (term_read u more) ∙ term_read t (term_polynomial u ∷ more))
  term_read (mul ts) more =
      ap (step_term (Mul (length (term_list ts)))) (terms_read ts more) ∙ (λ i. product_read ts more (Ok (operation.number (pos 1))) i ∷ drop_read term_polynomial (term_list ts) more i)
  term_read (div t k) more = ap (step_term (Div k)) (term_read t more)
  term_read (wrapu t) more = ap (step_term WrapUnsigned) (term_read t more)
  term_read (wraps t) more = ap (step_term WrapSigned) (term_read t more)
  term_read (bits t) more = ap (step_term Bits) (term_read t more)

  terms_read : (ts : TermTrees) (more : List Attempt) → term_steps (terms_nodes ts) more ≡ map term_polynomial (term_list ts) ++ more
  terms_read no_terms more = refl
  terms_read (term_and t ts) more =
      term_steps-append (term_nodes t) (terms_nodes ts) more ∙ ap (term_steps (term_nodes t)) (terms_read ts more) ∙ term_read t (map term_polynomial (term_list ts) ++ more)

-- ---- conditions and assertions

node_steps-append : (xs ys : List Node) (s : Stacks) → node_steps (xs ++ ys) s ≡ node_steps xs (node_steps ys s)
node_steps-append [] ys s = refl
node_steps-append (x ∷ xs) ys s = ap (step_node x) (node_steps-append xs ys s)

inner_steps : (nodes : List TermNode) (s : Stacks) → node_steps (map Term nodes) s ≡ record s { terms = term_steps nodes s.terms }
inner_steps [] s = refl
inner_steps (node ∷ nodes) s = ap (step_node (Term node)) (inner_steps nodes s)

inner_read : (t : TermTree) (s : Stacks) → node_steps (inner_term t) s ≡ record s { terms = term_polynomial t ∷ s.terms }
inner_read t s = inner_steps (term_nodes t) s ∙ ap (λ (xs : List Attempt). record s { terms = xs }) (term_read t s.terms)

two_read : (t u : TermTree) (s : Stacks) → node_steps (inner_term t ++ inner_term u) s ≡ record s { terms = term_polynomial t ∷ (term_polynomial u ∷ s.terms) }
two_read t u s =
    node_steps-append (inner_term t) (inner_term u) s ∙ ap (node_steps (inner_term t)) (inner_read u s) ∙ inner_read t (record s { terms = term_polynomial u ∷ s.terms })

-- a condition leaves the stacks as they were
mutual
  cond_read : (c : CondTree) (s : Stacks) → node_steps (cond_nodes c) s ≡ s
  cond_read (le t u) s = ap (step_cond Le) (two_read t u s)
  cond_read (lt t u) s = ap (step_cond Lt) (two_read t u s)
  cond_read (eq t u) s = ap (step_cond Eq) (two_read t u s)
  cond_read (ne t u) s = ap (step_cond Ne) (two_read t u s)
  cond_read (not c) s = cond_read c s
  cond_read (and cs) s = conds_read cs s
  cond_read (or cs) s = conds_read cs s

  conds_read : (cs : CondTrees) (s : Stacks) → node_steps (conds_nodes cs) s ≡ s
  conds_read no_conds s = refl
  conds_read (cond_and c cs) s = node_steps-append (cond_nodes c) (conds_nodes cs) s ∙ ap (node_steps (cond_nodes c)) (conds_read cs s) ∙ cond_read c s

abbrev with_assertion : Attempt → Stacks → Stacks
with_assertion a s = record s { assertions = a ∷ s.assertions }

abbrev with_assertions : List Attempt → Stacks → Stacks
with_assertions xs s = record s { assertions = xs ++ s.assertions }

mutual
  pub assertion_read : (a : AssertionTree) (s : Stacks) → node_steps (assertion_nodes a) s ≡ with_assertion (assertion_polynomial a) s
  assertion_read (natural n) s = refl
  assertion_read infinity s = refl
  assertion_read (cost f) s = refl
  assertion_read (num t) s = ap (step_assertion Num) (inner_read t s)
  assertion_read (total parts) s =
      ap (step_assertion (Total (length (assertion_list parts)))) (assertions_read parts s)
      ∙ (λ i. record s { assertions = total_read parts s.assertions (Ok nothing) i ∷ drop_read assertion_polynomial (assertion_list parts) s.assertions i })
  assertion_read (greatest parts) s =
      ap (step_assertion (Greatest (length (assertion_list parts)))) (assertions_read parts s)
      ∙ (λ i. record s { assertions = assertion_polynomial (greatest parts) ∷ drop_read assertion_polynomial (assertion_list parts) s.assertions i })
  assertion_read (product parts) s =
      ap (step_assertion (Product (length (assertion_list parts)))) (assertions_read parts s)
      ∙ (λ i. record s { assertions = factors_read parts s.assertions (Ok (operation.number (pos 1))) i ∷ drop_read assertion_polynomial (assertion_list parts) s.assertions i })
  assertion_read (guard c a) s =
      ap (step_assertion Guard) (node_steps-append (cond_nodes c) (assertion_nodes a) s ∙ ap (node_steps (cond_nodes c)) (assertion_read a s) ∙ cond_read c (with_assertion (assertion_polynomial a) s))
  assertion_read (choose c a b) s =
      ap (step_assertion If)
      (node_steps-append (cond_nodes c) (assertion_nodes a ++ assertion_nodes b) s
      ∙ ap (node_steps (cond_nodes c)) (node_steps-append (assertion_nodes a) (assertion_nodes b) s ∙ ap (node_steps (assertion_nodes a)) (assertion_read b s) ∙ assertion_read a (with_assertion (assertion_polynomial b) s))
      ∙ cond_read c (with_assertion (assertion_polynomial a) (with_assertion (assertion_polynomial b) s)))
  assertion_read (named n) s = refl

  assertions_read : (parts : AssertionTrees) (s : Stacks) → node_steps (assertions_nodes parts) s ≡ with_assertions (map assertion_polynomial (assertion_list parts)) s
  assertions_read no_assertions s = refl
  assertions_read (assertion_and a parts) s =
      node_steps-append (assertion_nodes a) (assertions_nodes parts) s ∙ ap (node_steps (assertion_nodes a)) (assertions_read parts s) ∙ assertion_read a (with_assertions (map assertion_polynomial (assertion_list parts)) s)
