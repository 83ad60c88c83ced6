-- The nodes of a tree are put as its form.
use Rattle.std.proofs.Common.{◌≡◌, ℕ, suc, List, [], ◌∷◌, ◌++◌, map, length, pos, append_assoc, refl, sym, ap, ◌∙◌}
use Rattle.std.specs.Prelude.{replicate, codes}
use Rattle.std.proofs.lemmas.List.{append-nil, map-append}
use Rattle.qs_assert.specs.declared.node.Node.{Node}
use Rattle.qs_assert.specs.declared.node.Node.TheVariants.{Term, Condition, Assertion}
use Rattle.qs_assert.specs.declared.node.TermNode.{TermNode}
use Rattle.qs_assert.specs.declared.node.TermNode.TheVariants as terms
use Rattle.qs_assert.specs.declared.node.CondNode.TheVariants as conditions
use Rattle.qs_assert.specs.declared.node.AssertionNode.TheVariants as assertions
use Rattle.qs_assert.specs.Listing.{term_nodes, terms_nodes, inner_term, cond_nodes, conds_nodes, assertion_nodes, assertions_nodes}
use Rattle.qs_assert.specs.Trees.{TermTree, number, variable, add, sub, mul, div, wrapu, wraps, bits, TermTrees, no_terms, term_and, term_list, CondTree, le, lt, eq, ne, not, and, or, CondTrees, no_conds, cond_and, cond_list, AssertionTree, natural, infinity, cost, num, total, greatest, product, guard, choose, named, AssertionTrees, no_assertions, assertion_and, assertion_list}
use Rattle.qs_sexpr.specs.Marks.{Mark, opens, closes, word, marks, all_marks}
use Rattle.qs_sexpr.specs.Writing.{Form, number_form}
use Rattle.qs_prooftext_writing.specs.declared.putting.Due.{Due}
use Rattle.qs_prooftext_writing.specs.declared.putting.Due.TheVariants.{Tree, Natural, Close}
use Rattle.qs_prooftext_writing.specs.Putting.{Put, all_put, begun, node_put}
use Rattle.qs_prooftext_meaning.specs.Writing.{Words, forms_of, headed, term_form, term_forms, condition_form, condition_forms, assertion_form, assertion_forms}

-- ---- lists of forms

-- the forms, and then these marks
abbrev pub before : List Form → List Mark → List Mark
before [] ms = ms
before (f ∷ fs) ms = marks f ++ before fs ms

before_is : (fs : List Form) (ms : List Mark) → before fs ms ≡ all_marks (forms_of fs) ++ ms
before_is [] ms = refl
before_is (f ∷ fs) ms = ap (λ (t : List Mark). marks f ++ t) (before_is fs ms) ∙ sym (append_assoc (marks f) (all_marks (forms_of fs)) ms)

-- a list with a head
pub headed_is : (w : List ℕ) (fs : List Form) (ms : List Mark) → opens ∷ word w ∷ before fs (closes ∷ ms) ≡ marks (headed w fs) ++ ms
headed_is w fs ms =
    ap (λ (t : List Mark). opens ∷ word w ∷ t) (before_is fs (closes ∷ ms) ∙ sym (append_assoc (all_marks (forms_of fs)) (closes ∷ []) ms))

-- what is due is put behind so many trees
due_joined : (n : ℕ) (ds : List Due) → (replicate n Tree ++ Close ∷ []) ++ ds ≡ replicate n Tree ++ (Close ∷ ds)
due_joined n ds = append_assoc (replicate n Tree) (Close ∷ []) ds

after_close : (w : Words) (ns : List Node) (ds : List Due) → all_put w ns (Close ∷ ds) ≡ closes ∷ all_put w ns ds
after_close w [] ds = refl
after_close w (n ∷ ns) ds = refl

after_natural : (w : Words) (ns : List Node) (k : ℕ) (ds : List Due) → all_put w ns (Natural k ∷ ds) ≡ marks (number_form (pos k)) ++ all_put w ns ds
after_natural w [] k ds = refl
after_natural w (n ∷ ns) k ds = refl

-- ---- trees

-- so many trees with these nodes are put as these forms, whatever stands behind them
abbrev PutsForms : Words → List Node → ℕ → List Form → Type 0
PutsForms w xs n fs = (ns : List Node) (ds : List Due) → all_put w (xs ++ ns) (replicate n Tree ++ ds) ≡ before fs (all_put w ns ds)

nothing : (w : Words) → PutsForms w [] 0 []
nothing w ns ds = refl

one_more : (w : Words) (xs ys : List Node) (n : ℕ) (f : Form) (fs : List Form) → PutsForms w xs 1 (f ∷ []) → PutsForms w ys n fs → PutsForms w (xs ++ ys) (suc n) (f ∷ fs)
one_more w xs ys n f fs h k ns ds =
    ap (λ (zs : List Node). all_put w zs (Tree ∷ (replicate n Tree ++ ds))) (append_assoc xs ys ns)
    ∙ (h (ys ++ ns) (replicate n Tree ++ ds) ∙ ap (λ (ms : List Mark). marks f ++ ms) (k ns ds))

a_list : (w : Words) (node : Node) (head : List ℕ) (n : ℕ) (xs : List Node) (fs : List Form) → node_put w node ≡ begun head n → PutsForms w xs n fs → PutsForms w (node ∷ xs) 1 (headed head fs ∷ [])
a_list w node head n xs fs e h ns ds =
    ap (λ (p : Put). p.begins ++ all_put w (xs ++ ns) (p.dues ++ ds)) e
    ∙ (ap (λ (d : List Due). opens ∷ word head ∷ all_put w (xs ++ ns) d) (due_joined n ds)
    ∙ (ap (λ (ms : List Mark). opens ∷ word head ∷ ms) (h ns (Close ∷ ds) ∙ ap (before fs) (after_close w ns ds))
    ∙ headed_is head fs (all_put w ns ds)))

in_terms : (w : Words) (xs ys : List TermNode) (n : ℕ) (fs : List Form) → PutsForms w (map Term xs ++ map Term ys) n fs → PutsForms w (map Term (xs ++ ys)) n fs
in_terms w xs ys n fs h ns ds =
    ap (λ (zs : List Node). all_put w (zs ++ ns) (replicate n Tree ++ ds)) (map-append Term xs ys) ∙ h ns ds

a_quotient : (w : Words) (k : ℕ) (xs : List Node) (f : Form) → PutsForms w xs 1 (f ∷ []) → PutsForms w (Term (terms.Div k) ∷ xs) 1 (headed (codes "div") (f ∷ number_form (pos k) ∷ []) ∷ [])
a_quotient w k xs f h ns ds =
    ap (λ (ms : List Mark). opens ∷ word (codes "div") ∷ ms)
    (h ns (Natural k ∷ Close ∷ ds) ∙ ap (λ (ms : List Mark). marks f ++ ms) (after_natural w ns k (Close ∷ ds) ∙ ap (λ (ms : List Mark). marks (number_form (pos k)) ++ ms) (after_close w ns ds)))
    ∙ headed_is (codes "div") (f ∷ number_form (pos k) ∷ []) (all_put w ns ds)

-- ---- terms

mutual
  term_is : (w : Words) (t : TermTree) → PutsForms w (map Term (term_nodes t)) 1 (term_form w t ∷ [])
  term_is w (number k) = λ ns ds. refl
  term_is w (variable x) = λ ns ds. refl
  term_is w (add ts) = a_list w (Term (terms.Add (length (term_list ts)))) (codes "add") (length (term_list ts)) (map Term (terms_nodes ts)) (term_forms w ts) refl (terms_are w ts)
  term_is w (sub t u) =
      a_list w (Term terms.Sub) (codes "sub") 2 (map Term (term_nodes t ++ term_nodes u)) (term_form w t ∷ term_form w u ∷ []) refl
      (in_terms w (term_nodes t) (term_nodes u) 2 (term_form w t ∷ term_form w u ∷ []) (one_more w _ _ 1 (term_form w t) (term_form w u ∷ []) (term_is w t) (term_is w u)))
  term_is w (mul ts) = a_list w (Term (terms.Mul (length (term_list ts)))) (codes "mul") (length (term_list ts)) (map Term (terms_nodes ts)) (term_forms w ts) refl (terms_are w ts)
  term_is w (div t k) = a_quotient w k (map Term (term_nodes t)) (term_form w t) (term_is w t)
  term_is w (wrapu t) = a_list w (Term terms.WrapUnsigned) (codes "wrapu") 1 (map Term (term_nodes t)) (term_form w t ∷ []) refl (term_is w t)
  term_is w (wraps t) = a_list w (Term terms.WrapSigned) (codes "wraps") 1 (map Term (term_nodes t)) (term_form w t ∷ []) refl (term_is w t)
  term_is w (bits t) = a_list w (Term terms.Bits) (codes "bits") 1 (map Term (term_nodes t)) (term_form w t ∷ []) refl (term_is w t)

  terms_are : (w : Words) (ts : TermTrees) → PutsForms w (map Term (terms_nodes ts)) (length (term_list ts)) (term_forms w ts)
  terms_are w no_terms = nothing w
  terms_are w (term_and t ts) =
      in_terms w (term_nodes t) (terms_nodes ts) (suc (length (term_list ts))) (term_form w t ∷ term_forms w ts)
      (one_more w _ _ (length (term_list ts)) (term_form w t) (term_forms w ts) (term_is w t) (terms_are w ts))

-- ---- conditions

two_terms : (w : Words) (t u : TermTree) → PutsForms w (inner_term t ++ inner_term u) 2 (term_form w t ∷ term_form w u ∷ [])
two_terms w t u = one_more w _ _ 1 (term_form w t) (term_form w u ∷ []) (term_is w t) (term_is w u)

mutual
  condition_is : (w : Words) (c : CondTree) → PutsForms w (cond_nodes c) 1 (condition_form w c ∷ [])
  condition_is w (le t u) = a_list w (Condition conditions.Le) (codes "le") 2 (inner_term t ++ inner_term u) (term_form w t ∷ term_form w u ∷ []) refl (two_terms w t u)
  condition_is w (lt t u) = a_list w (Condition conditions.Lt) (codes "lt") 2 (inner_term t ++ inner_term u) (term_form w t ∷ term_form w u ∷ []) refl (two_terms w t u)
  condition_is w (eq t u) = a_list w (Condition conditions.Eq) (codes "eq") 2 (inner_term t ++ inner_term u) (term_form w t ∷ term_form w u ∷ []) refl (two_terms w t u)
  condition_is w (ne t u) = a_list w (Condition conditions.Ne) (codes "ne") 2 (inner_term t ++ inner_term u) (term_form w t ∷ term_form w u ∷ []) refl (two_terms w t u)
  condition_is w (not c) = a_list w (Condition conditions.Not) (codes "not") 1 (cond_nodes c) (condition_form w c ∷ []) refl (condition_is w c)
  condition_is w (and cs) = a_list w (Condition (conditions.And (length (cond_list cs)))) (codes "and") (length (cond_list cs)) (conds_nodes cs) (condition_forms w cs) refl (conditions_are w cs)
  condition_is w (or cs) = a_list w (Condition (conditions.Or (length (cond_list cs)))) (codes "or") (length (cond_list cs)) (conds_nodes cs) (condition_forms w cs) refl (conditions_are w cs)

  conditions_are : (w : Words) (cs : CondTrees) → PutsForms w (conds_nodes cs) (length (cond_list cs)) (condition_forms w cs)
  conditions_are w no_conds = nothing w
  conditions_are w (cond_and c cs) =
      one_more w _ _ (length (cond_list cs)) (condition_form w c) (condition_forms w cs) (condition_is w c) (conditions_are w cs)

-- ---- assertions

mutual
  assertion_is : (w : Words) (a : AssertionTree) → PutsForms w (assertion_nodes a) 1 (assertion_form w a ∷ [])
  assertion_is w (natural n) = λ ns ds. refl
  assertion_is w infinity = a_list w (Assertion assertions.Infinity) (codes "inf") 0 [] [] refl (nothing w)
  assertion_is w (cost f) = λ ns ds. refl
  assertion_is w (num t) = a_list w (Assertion assertions.Num) (codes "num") 1 (inner_term t) (term_form w t ∷ []) refl (term_is w t)
  assertion_is w (total parts) = a_list w (Assertion (assertions.Total (length (assertion_list parts)))) (codes "add") (length (assertion_list parts)) (assertions_nodes parts) (assertion_forms w parts) refl (assertions_are w parts)
  assertion_is w (greatest parts) = a_list w (Assertion (assertions.Greatest (length (assertion_list parts)))) (codes "max") (length (assertion_list parts)) (assertions_nodes parts) (assertion_forms w parts) refl (assertions_are w parts)
  assertion_is w (product parts) = a_list w (Assertion (assertions.Product (length (assertion_list parts)))) (codes "mul") (length (assertion_list parts)) (assertions_nodes parts) (assertion_forms w parts) refl (assertions_are w parts)
  assertion_is w (guard c a) =
      a_list w (Assertion assertions.Guard) (codes "guard") 2 (cond_nodes c ++ assertion_nodes a) (condition_form w c ∷ assertion_form w a ∷ []) refl
      (one_more w _ _ 1 (condition_form w c) (assertion_form w a ∷ []) (condition_is w c) (assertion_is w a))
  assertion_is w (choose c a b) =
      a_list w (Assertion assertions.If) (codes "if") 3 (cond_nodes c ++ (assertion_nodes a ++ assertion_nodes b)) (condition_form w c ∷ assertion_form w a ∷ assertion_form w b ∷ []) refl
      (one_more w _ _ 2 (condition_form w c) (assertion_form w a ∷ assertion_form w b ∷ []) (condition_is w c)
      (one_more w _ _ 1 (assertion_form w a) (assertion_form w b ∷ []) (assertion_is w a) (assertion_is w b)))
  assertion_is w (named name) = λ ns ds. refl

  assertions_are : (w : Words) (parts : AssertionTrees) → PutsForms w (assertions_nodes parts) (length (assertion_list parts)) (assertion_forms w parts)
  assertions_are w no_assertions = nothing w
  assertions_are w (assertion_and a parts) =
      one_more w _ _ (length (assertion_list parts)) (assertion_form w a) (assertion_forms w parts) (assertion_is w a) (assertions_are w parts)

-- ---- whole trees

alone : (w : Words) (xs : List Node) (f : Form) → PutsForms w xs 1 (f ∷ []) → all_put w xs (Tree ∷ []) ≡ marks f
alone w xs f h = ap (λ (zs : List Node). all_put w zs (Tree ∷ [])) (sym (append-nil xs)) ∙ (h [] [] ∙ append-nil (marks f))

pub term_alone : (w : Words) (t : TermTree) → all_put w (map Term (term_nodes t)) (Tree ∷ []) ≡ marks (term_form w t)
term_alone w t = alone w (map Term (term_nodes t)) (term_form w t) (term_is w t)

pub condition_alone : (w : Words) (c : CondTree) → all_put w (cond_nodes c) (Tree ∷ []) ≡ marks (condition_form w c)
condition_alone w c = alone w (cond_nodes c) (condition_form w c) (condition_is w c)

pub assertion_alone : (w : Words) (a : AssertionTree) → all_put w (assertion_nodes a) (Tree ∷ []) ≡ marks (assertion_form w a)
assertion_alone w a = alone w (assertion_nodes a) (assertion_form w a) (assertion_is w a)
