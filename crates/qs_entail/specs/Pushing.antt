-- What is known at a node of a certificate, and what a condition adds to it.
use Rattle.std.specs.Prelude.{pos, List, [], ◌∷◌, ◌++◌, Result, Ok}
use Rattle.qs_assert.specs.Trees.{TermTree, CondTree, le, lt, eq, ne, not, and, or, CondTrees, no_conds, cond_and}
use Rattle.qs_poly.specs.Polynomials.{Polynomial}
use Rattle.qs_poly.specs.Operations.{number, lessened}
use Rattle.qs_base.specs.Results.{bind}
use Rattle.qs_entail.specs.Building.{Stop, limited, difference, term_polynomial}

-- the conditions that hold, and the polynomials that are at least 0, each in the order of pushing
pub record Known : Type 0 where
  pub conditions : List CondTree
  pub polynomials : List Polynomial

-- L begins with 1
abbrev pub at_first : Known
at_first = record { conditions = []; polynomials = number (pos 1) ∷ [] }

abbrev pub with_condition : CondTree → Known → Known
with_condition c k = record k { conditions = k.conditions ++ c ∷ [] }

abbrev pub with_polynomials : List Polynomial → Known → Known
with_polynomials ps k = record k { polynomials = k.polynomials ++ ps }

-- `(le t u)`: u - t
abbrev pub push_le : TermTree → TermTree → Known → Result Known Stop
push_le t u k = bind (term_polynomial t) (λ p. bind (term_polynomial u) (λ q. bind (difference q p) (λ d. Ok (with_polynomials (d ∷ []) (with_condition (le t u) k)))))

-- `(lt t u)`: u - t - 1
abbrev pub push_lt : TermTree → TermTree → Known → Result Known Stop
push_lt t u k =
    bind (term_polynomial t) (λ p. bind (term_polynomial u) (λ q. bind (limited (lessened q 1 p 1)) (λ d. Ok (with_polynomials (d ∷ []) (with_condition (lt t u) k)))))

-- `(eq t u)`: u - t, then t - u
abbrev pub push_eq : TermTree → TermTree → Known → Result Known Stop
push_eq t u k =
    bind (term_polynomial t) (λ p. bind (term_polynomial u) (λ q. bind (difference q p) (λ d. bind (difference p q) (λ e. Ok (with_polynomials (d ∷ e ∷ []) (with_condition (eq t u) k))))))

abbrev mutual
  pub push : CondTree → Known → Result Known Stop
  push (le t u) k = push_le t u k
  push (lt t u) k = push_lt t u k
  push (eq t u) k = push_eq t u k
  push (ne t u) k = Ok (with_condition (ne t u) k)
  push (not c) k = push_not c k
  push (and cs) k = push_all cs k
  push (or cs) k = Ok (with_condition (or cs) k)

  -- the negation of a condition
  pub push_not : CondTree → Known → Result Known Stop
  push_not (le t u) k = push_lt u t k
  push_not (lt t u) k = push_le u t k
  push_not (eq t u) k = Ok (with_condition (not (eq t u)) k)
  push_not (ne t u) k = push_eq t u k
  push_not (not c) k = push c k
  push_not (and cs) k = Ok (with_condition (not (and cs)) k)
  push_not (or cs) k = push_nots cs k

  pub push_all : CondTrees → Known → Result Known Stop
  push_all no_conds k = Ok k
  push_all (cond_and c cs) k = bind (push c k) (λ k'. push_all cs k')

  pub push_nots : CondTrees → Known → Result Known Stop
  push_nots no_conds k = Ok k
  push_nots (cond_and c cs) k = bind (push_not c k) (λ k'. push_nots cs k')

abbrev pub push_list : List CondTree → Known → Result Known Stop
push_list [] k = Ok k
push_list (c ∷ cs) k = bind (push c k) (λ k'. push_list cs k')
