-- Nodes that are those of terms.
use Rattle.std.proofs.Common.{◌≡◌, ◌≢◌, ◌≤◌, ◌<◌, ℕ, zero, suc, ◌+◌, refl, sym, ap, ◌∙◌, Bool, true, false, List, [], ◌∷◌, ◌++◌, length, map, take, drop, append_assoc, append-nil, zero-add, length-drop, arith, one-add, suc-add}
use Rattle.std.proofs.lemmas.List.{length-take-le, take-append-drop}
use Rattle.std.proofs.Math.Seq.{drop-cons}
use Rattle.qs_assert.specs.declared.node.TermNode.{TermNode}
use Rattle.qs_assert.specs.declared.node.Node.TheVariants.{Term}
use Rattle.qs_assert.specs.declared.node.TermNode.TheVariants.{Number, Variable, Add, Sub, Mul, Div, WrapUnsigned, WrapSigned, Bits}
use Rattle.qs_assert.specs.Trees.{TermTree, number, variable, add, sub, mul, div, wrapu, wraps, bits, TermTrees, no_terms, term_and, terms_of, term_list}
use Rattle.qs_assert.specs.Listing.{term_heads, term_nodes, terms_nodes}
use Rattle.qs_assert.specs.Reading.{term_list-of}
use Rattle.qs_assert.specs.Shapes.{term_arity, are_terms}

-- ---- the nodes of a term are those of one term

two_more : (k : ℕ) → 2 + k ≡ suc (suc k)
two_more k = omega arith

mutual
  filled : (t : TermTree) (k : ℕ) (rest : List TermNode) → are_terms (term_nodes t ++ rest) (suc k) ≡ are_terms rest k
  filled (number z) k rest = ap (are_terms rest) (zero-add k)
  filled (variable x) k rest = ap (are_terms rest) (zero-add k)
  filled (add ts) k rest = all_filled ts k rest
  filled (sub t u) k rest =
      ap (are_terms ((term_nodes t ++ term_nodes u) ++ rest)) (two_more k)
      ∙ (ap (λ (l : List TermNode). are_terms l (suc (suc k))) (append_assoc (term_nodes t) (term_nodes u) rest) ∙ (filled t (suc k) (term_nodes u ++ rest) ∙ filled u k rest))
  filled (mul ts) k rest = all_filled ts k rest
  filled (div t n) k rest = ap (are_terms (term_nodes t ++ rest)) (one-add k) ∙ filled t k rest
  filled (wrapu t) k rest = ap (are_terms (term_nodes t ++ rest)) (one-add k) ∙ filled t k rest
  filled (wraps t) k rest = ap (are_terms (term_nodes t ++ rest)) (one-add k) ∙ filled t k rest
  filled (bits t) k rest = ap (are_terms (term_nodes t ++ rest)) (one-add k) ∙ filled t k rest

  all_filled : (ts : TermTrees) (k : ℕ) (rest : List TermNode) → are_terms (terms_nodes ts ++ rest) (length (term_list ts) + k) ≡ are_terms rest k
  all_filled no_terms k rest = ap (are_terms rest) (zero-add k)
  all_filled (term_and t ts) k rest =
      ap (are_terms ((term_nodes t ++ terms_nodes ts) ++ rest)) (suc-add (length (term_list ts)) k)
      ∙ (ap (λ (l : List TermNode). are_terms l (suc (length (term_list ts) + k))) (append_assoc (term_nodes t) (terms_nodes ts) rest)
      ∙ (filled t (length (term_list ts) + k) (terms_nodes ts ++ rest) ∙ all_filled ts k rest))

is_one : (t : TermTree) → are_terms (term_nodes t) 1 ≡ true
is_one t = ap (λ (l : List TermNode). are_terms l 1) (sym (append-nil (term_nodes t))) ∙ filled t 0 []

-- ---- and such nodes are those of a term

nodes_apart : (ts us : List TermTree) → terms_nodes (terms_of (ts ++ us)) ≡ terms_nodes (terms_of ts) ++ terms_nodes (terms_of us)
nodes_apart [] us = refl
nodes_apart (t ∷ ts) us =
    ap (λ (l : List TermNode). term_nodes t ++ l) (nodes_apart ts us) ∙ sym (append_assoc (term_nodes t) (terms_nodes (terms_of ts)) (terms_nodes (terms_of us)))

-- the first n terms are the parts of a node
many : (n k : ℕ) (nodes : List TermNode) (ts : List TermTree) (head : ℕ → TermNode) (tree : TermTrees → TermTree) → ((us : TermTrees) → term_nodes (tree us) ≡ head (length (term_list us)) ∷ terms_nodes us) → length ts ≡ n + k → nodes ≡ terms_nodes (terms_of ts) → (us : List TermTree) × ((length us ≡ suc k) × (head n ∷ nodes ≡ terms_nodes (terms_of us)))
many n k nodes ts head tree is l e = (tree (terms_of (take n ts)) ∷ drop n ts, (ap suc count, all))
  where
    within : n ≤ length ts
    within = omega arith

    count : length (drop n ts) ≡ k
    count = length-drop n ts ∙ omega arith

    own : length (term_list (terms_of (take n ts))) ≡ n
    own = ap length (term_list-of (take n ts)) ∙ length-take-le n ts within

    parts : terms_nodes (terms_of ts) ≡ terms_nodes (terms_of (take n ts)) ++ terms_nodes (terms_of (drop n ts))
    parts = ap (λ (l : List TermTree). terms_nodes (terms_of l)) (sym (take-append-drop n ts)) ∙ nodes_apart (take n ts) (drop n ts)

    all : head n ∷ nodes ≡ term_nodes (tree (terms_of (take n ts))) ++ terms_nodes (terms_of (drop n ts))
    all =
        (λ i. head (sym own i) ∷ (e ∙ parts) i)
        ∙ sym (ap (λ (l : List TermNode). l ++ terms_nodes (terms_of (drop n ts))) (is (terms_of (take n ts))))

-- the first term is the part of a node
single : (k : ℕ) (nodes : List TermNode) (ts : List TermTree) (head : TermNode) (tree : TermTree → TermTree) → ((t : TermTree) → term_nodes (tree t) ≡ head ∷ term_nodes t) → length ts ≡ 1 + k → nodes ≡ terms_nodes (terms_of ts) → (us : List TermTree) × ((length us ≡ suc k) × (head ∷ nodes ≡ terms_nodes (terms_of us)))
single k nodes [] head tree is l e = absurd (omega arith)
single k nodes (t ∷ ts) head tree is l e =
    (tree t ∷ ts, (l ∙ one-add k, ap (λ (ns : List TermNode). head ∷ ns) e ∙ sym (ap (λ (ns : List TermNode). ns ++ terms_nodes (terms_of ts)) (is t))))

two_parts : (k : ℕ) (nodes : List TermNode) (ts : List TermTree) → length ts ≡ 2 + k → nodes ≡ terms_nodes (terms_of ts) → (us : List TermTree) × ((length us ≡ suc k) × (Sub ∷ nodes ≡ terms_nodes (terms_of us)))
two_parts k nodes [] l e = absurd (omega arith)
two_parts k nodes (t ∷ []) l e = absurd (omega arith)
two_parts k nodes (t ∷ (u ∷ ts)) l e =
    (sub t u ∷ ts, (ap suc count, ap (λ (ns : List TermNode). Sub ∷ ns) (e ∙ sym (append_assoc (term_nodes t) (term_nodes u) (terms_nodes (terms_of ts))))))
  where
    count : length ts ≡ k
    count = omega arith

headed : (head : TermNode) (k : ℕ) (nodes : List TermNode) (ts : List TermTree) → length ts ≡ term_arity head + k → nodes ≡ terms_nodes (terms_of ts) → (us : List TermTree) × ((length us ≡ suc k) × (head ∷ nodes ≡ terms_nodes (terms_of us)))
headed (Number z) k nodes ts l e = (number z ∷ ts, (ap suc (l ∙ zero-add k), ap (λ (ns : List TermNode). Number z ∷ ns) e))
headed (Variable x) k nodes ts l e = (variable x ∷ ts, (ap suc (l ∙ zero-add k), ap (λ (ns : List TermNode). Variable x ∷ ns) e))
headed (Add n) k nodes ts l e = many n k nodes ts Add add (λ us. refl) l e
headed Sub k nodes ts l e = two_parts k nodes ts l e
headed (Mul n) k nodes ts l e = many n k nodes ts Mul mul (λ us. refl) l e
headed (Div n) k nodes ts l e = single k nodes ts (Div n) (λ t. div t n) (λ t. refl) l e
headed WrapUnsigned k nodes ts l e = single k nodes ts WrapUnsigned wrapu (λ t. refl) l e
headed WrapSigned k nodes ts l e = single k nodes ts WrapSigned wraps (λ t. refl) l e
headed Bits k nodes ts l e = single k nodes ts Bits bits (λ t. refl) l e

terms_there : (nodes : List TermNode) (k : ℕ) → are_terms nodes k ≡ true → (ts : List TermTree) × ((length ts ≡ k) × (nodes ≡ terms_nodes (terms_of ts)))
terms_there [] zero h = ([], (refl, refl))
terms_there [] (suc k) h = cc
terms_there (node ∷ nodes) zero h = cc
terms_there (node ∷ nodes) (suc k) h =
    let r = terms_there nodes (term_arity node + k) h in headed node k nodes r.0 r.1.0 r.1.1

the_only : (nodes : List TermNode) (ts : List TermTree) → length ts ≡ 1 → nodes ≡ terms_nodes (terms_of ts) → (t : TermTree) × (nodes ≡ term_nodes t)
the_only nodes [] l e = absurd (omega arith)
the_only nodes (t ∷ []) l e = (t, e ∙ append-nil (term_nodes t))
the_only nodes (t ∷ (u ∷ ts)) l e = absurd (omega arith)

pub term_there : (nodes : List TermNode) (b : Bool) → b ≡ are_terms nodes 1 → b ≡ true → (t : TermTree) × (nodes ≡ term_nodes t)
term_there nodes b e h = let r = terms_there nodes 1 (sym e ∙ h) in the_only nodes r.0 r.1.0 r.1.1

not_both : true ≡ false → ⊥
not_both p = cc

pub none_there : (nodes : List TermNode) (b : Bool) → b ≡ are_terms nodes 1 → b ≡ false → (t : TermTree) → nodes ≢ term_nodes t
none_there nodes b e h t k = not_both (sym (is_one t) ∙ (ap (λ (l : List TermNode). are_terms l 1) (sym k) ∙ (sym e ∙ h)))

-- ---- node by node

pub shape_stop : (nodes : List TermNode) (i due : ℕ) (d : TermNode) → i < length nodes → due ≡ 0 → are_terms (drop i nodes) due ≡ false
shape_stop nodes i due d h z = ap (are_terms (drop i nodes)) z ∙ ap (λ (l : List TermNode). are_terms l 0) (drop-cons nodes i d h)

-- ---- the heads of terms

pub heads_are : (nodes : List TermNode) → term_heads (map Term nodes) ≡ nodes
heads_are [] = refl
heads_are (node ∷ nodes) = ap (λ (l : List TermNode). node ∷ l) (heads_are nodes)
