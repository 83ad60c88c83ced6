-- What is pushed, by its conditions and the count of its polynomials. So the verdict is the first fault under
-- what the hypotheses push.
use Rattle.std.proofs.Common.{◌≡◌, ℕ, refl, sym, ap, ◌∙◌, length-append, add-zero}
use Rattle.std.specs.Prelude.{List, [], ◌∷◌, ◌++◌, length, Result, Ok, Err}
use Rattle.qs_assert.specs.declared.define.Define.{Define}
use Rattle.qs_assert.specs.Trees.{TermTree, CondTree, le, lt, eq, ne, not, and, or, CondTrees, no_conds, cond_and, AssertionTree}
use Rattle.qs_poly.specs.Polynomials.{Polynomial}
use Rattle.qs_poly.specs.Operations.{lessened}
use Rattle.qs_base.specs.Results.{bind}
use Rattle.qs_entail.specs.Certificates.{CertTree}
use Rattle.qs_entail.specs.Building.{Stop, limited, difference, term_polynomial}
use Rattle.qs_entail.specs.Pushing.{Known, at_first, with_condition, with_polynomials, push_le, push_lt, push_eq, push, push_not, push_all, push_nots, push_list}
use Rattle.qs_entail.proofs.BuildingLaws.{bind_ok}
use Rattle.qs_entail.specs.Verdicts.{takes, outline, outline_not, outline_all, outline_nots, outline_list, outlined, fault, verdict}

-- ---- pushes

made : (k k' : Known) → (let r : Result Known Stop = Ok k in r) ≡ Ok k' → k ≡ k'
made k k' h = cc

longer : (k : Known) (c : CondTree) (ps : List Polynomial) → takes c (length ps) (outlined k) ≡ outlined (with_polynomials ps (with_condition c k))
longer k c ps = ap (λ (n : ℕ). record { conditions = k.conditions ++ c ∷ []; count = n }) (sym (length-append k.polynomials ps))

pushed : (k k' : Known) (c : CondTree) (ps : List Polynomial) → (let r : Result Known Stop = Ok (with_polynomials ps (with_condition c k)) in r) ≡ Ok k' → takes c (length ps) (outlined k) ≡ outlined k'
pushed k k' c ps h = longer k c ps ∙ ap outlined (made (with_polynomials ps (with_condition c k)) k' h)

last_of_one : (k k' : Known) (c : CondTree) (d : Result Polynomial Stop) → bind d (λ d. Ok (with_polynomials (d ∷ []) (with_condition c k))) ≡ Ok k' → takes c 1 (outlined k) ≡ outlined k'
last_of_one k k' c (Ok d) h = pushed k k' c (d ∷ []) h
last_of_one k k' c (Err failure) h = cc

pushes_one : (k k' : Known) (c : CondTree) (r s : Result Polynomial Stop) (f : Polynomial → Polynomial → Result Polynomial Stop) → bind r (λ p. bind s (λ q. bind (f p q) (λ d. Ok (with_polynomials (d ∷ []) (with_condition c k))))) ≡ Ok k' → takes c 1 (outlined k) ≡ outlined k'
pushes_one k k' c (Ok p) (Ok q) f h = last_of_one k k' c (f p q) h
pushes_one k k' c (Ok p) (Err failure) f h = cc
pushes_one k k' c (Err failure) s f h = cc

last_of_two : (k k' : Known) (c : CondTree) (d e : Result Polynomial Stop) → bind d (λ d. bind e (λ e. Ok (with_polynomials (d ∷ e ∷ []) (with_condition c k)))) ≡ Ok k' → takes c 2 (outlined k) ≡ outlined k'
last_of_two k k' c (Ok d) (Ok e) h = pushed k k' c (d ∷ e ∷ []) h
last_of_two k k' c (Ok d) (Err failure) h = cc
last_of_two k k' c (Err failure) e h = cc

pushes_two : (k k' : Known) (c : CondTree) (r s : Result Polynomial Stop) (f g : Polynomial → Polynomial → Result Polynomial Stop) → bind r (λ p. bind s (λ q. bind (f p q) (λ d. bind (g p q) (λ e. Ok (with_polynomials (d ∷ e ∷ []) (with_condition c k)))))) ≡ Ok k' → takes c 2 (outlined k) ≡ outlined k'
pushes_two k k' c (Ok p) (Ok q) f g h = last_of_two k k' c (f p q) (g p q) h
pushes_two k k' c (Ok p) (Err failure) f g h = cc
pushes_two k k' c (Err failure) s f g h = cc

pushes_none : (k k' : Known) (c : CondTree) → (let r : Result Known Stop = Ok (with_condition c k) in r) ≡ Ok k' → takes c 0 (outlined k) ≡ outlined k'
pushes_none k k' c h = none ∙ ap outlined (made (with_condition c k) k' h)
  where
    none : takes c 0 (outlined k) ≡ outlined (with_condition c k)
    none = simp (add-zero)

le_outlined : (t u : TermTree) (k k' : Known) → push_le t u k ≡ Ok k' → takes (le t u) 1 (outlined k) ≡ outlined k'
le_outlined t u k k' h = pushes_one k k' (le t u) (term_polynomial t) (term_polynomial u) (λ p q. difference q p) h

lt_outlined : (t u : TermTree) (k k' : Known) → push_lt t u k ≡ Ok k' → takes (lt t u) 1 (outlined k) ≡ outlined k'
lt_outlined t u k k' h = pushes_one k k' (lt t u) (term_polynomial t) (term_polynomial u) (λ p q. limited (lessened q 1 p 1)) h

eq_outlined : (t u : TermTree) (k k' : Known) → push_eq t u k ≡ Ok k' → takes (eq t u) 2 (outlined k) ≡ outlined k'
eq_outlined t u k k' h = pushes_two k k' (eq t u) (term_polynomial t) (term_polynomial u) (λ p q. difference q p) difference h

mutual
  push_outlined : (c : CondTree) (k k' : Known) → push c k ≡ Ok k' → outline c (outlined k) ≡ outlined k'
  push_outlined (le t u) k k' h = le_outlined t u k k' h
  push_outlined (lt t u) k k' h = lt_outlined t u k k' h
  push_outlined (eq t u) k k' h = eq_outlined t u k k' h
  push_outlined (ne t u) k k' h = pushes_none k k' (ne t u) h
  push_outlined (not c) k k' h = push_not_outlined c k k' h
  push_outlined (and cs) k k' h = push_all_outlined cs k k' h
  push_outlined (or cs) k k' h = pushes_none k k' (or cs) h

  push_not_outlined : (c : CondTree) (k k' : Known) → push_not c k ≡ Ok k' → outline_not c (outlined k) ≡ outlined k'
  push_not_outlined (le t u) k k' h = lt_outlined u t k k' h
  push_not_outlined (lt t u) k k' h = le_outlined u t k k' h
  push_not_outlined (eq t u) k k' h = pushes_none k k' (not (eq t u)) h
  push_not_outlined (ne t u) k k' h = eq_outlined t u k k' h
  push_not_outlined (not c) k k' h = push_outlined c k k' h
  push_not_outlined (and cs) k k' h = pushes_none k k' (not (and cs)) h
  push_not_outlined (or cs) k k' h = push_nots_outlined cs k k' h

  push_all_outlined : (cs : CondTrees) (k k' : Known) → push_all cs k ≡ Ok k' → outline_all cs (outlined k) ≡ outlined k'
  push_all_outlined no_conds k k' h = ap outlined (made k k' h)
  push_all_outlined (cond_and c cs) k k' h =
      let a = bind_ok (push c k) (λ k'. push_all cs k') k' h in ap (outline_all cs) (push_outlined c k a.0 a.1.0) ∙ push_all_outlined cs a.0 k' a.1.1

  push_nots_outlined : (cs : CondTrees) (k k' : Known) → push_nots cs k ≡ Ok k' → outline_nots cs (outlined k) ≡ outlined k'
  push_nots_outlined no_conds k k' h = ap outlined (made k k' h)
  push_nots_outlined (cond_and c cs) k k' h =
      let a = bind_ok (push_not c k) (λ k'. push_nots cs k') k' h in ap (outline_nots cs) (push_not_outlined c k a.0 a.1.0) ∙ push_nots_outlined cs a.0 k' a.1.1

pub list_outlined : (cs : List CondTree) (k k' : Known) → push_list cs k ≡ Ok k' → outline_list cs (outlined k) ≡ outlined k'
list_outlined [] k k' h = ap outlined (made k k' h)
list_outlined (c ∷ cs) k k' h =
    let a = bind_ok (push c k) (λ k'. push_list cs k') k' h in ap (outline_list cs) (push_outlined c k a.0 a.1.0) ∙ list_outlined cs a.0 k' a.1.1

-- ---- the verdict

pub one_fault : (hypotheses : List CondTree) (ds : List Define) (p q : AssertionTree) (c : CertTree) (k : Known) → push_list hypotheses at_first ≡ Ok k → verdict hypotheses ds p q c ≡ fault c ds k p q
one_fault hypotheses ds p q c k h = rw (list_outlined hypotheses at_first k h, h) refl
