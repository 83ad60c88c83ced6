-- A condition is pushed as the conditions that are pushed for it.
use Rattle.std.proofs.Common.{◌≡◌, refl, ap, ◌∙◌, sym, Bool, true, false, List, [], ◌∷◌, ◌++◌, append-nil, Result, Ok, Err}
use Rattle.qs_poly.specs.Polynomials.{Polynomial}
use Rattle.qs_poly.specs.Operations.{lessened}
use Rattle.qs_assert.specs.Trees.{TermTree, CondTree, le, lt, eq, ne, not, and, or, CondTrees, no_conds, cond_and}
use Rattle.qs_base.specs.Results.{bind}
use Rattle.qs_entail.specs.Building.{Stop, Two, limited, difference, term_polynomial}
use Rattle.qs_entail.specs.Extending.{pushed}
use Rattle.qs_entail.specs.Flattening.{flat, flats, both_polynomials, push_whole, push_wholes}
use Rattle.qs_entail.specs.Pushing.{Known, with_condition, with_polynomials, push_le, push_lt, push_eq, push_all, push_nots}

-- ---- attempts one after the other

bind_ok : {A : Type 0} (r : Result A Stop) → bind r (λ a. Ok a) ≡ r
bind_ok (Ok a) = refl
bind_ok (Err failure) = refl

bind_bind : {A B C : Type 0} (r : Result A Stop) (f : A → Result B Stop) (g : B → Result C Stop) → bind (bind r f) g ≡ bind r (λ a. bind (f a) g)
bind_bind (Ok a) f g = refl
bind_bind (Err failure) f g = refl

-- the polynomials of two terms, and then what is made of them
after_both : {C : Type 0} (r s : Result Polynomial Stop) (f : Two → Result C Stop) →
    bind (bind r (λ p. bind s (λ q. Ok (record { first = p; second = q })))) f ≡ bind r (λ p. bind s (λ q. f (record { first = p; second = q })))
after_both (Ok p) (Ok q) f = refl
after_both (Ok p) (Err failure) f = refl
after_both (Err failure) s f = refl

-- ---- a condition that is pushed whole

abbrev put_on : CondTree → Known → List Polynomial → Known
put_on c k ps = with_polynomials ps (with_condition c k)

both_on : (t u : TermTree) (f : Two → Result (List Polynomial) Stop) (g : List Polynomial → Result Known Stop) →
    bind (bind (both_polynomials t u) f) g ≡ bind (term_polynomial t) (λ p. bind (term_polynomial u) (λ q. bind (f (record { first = p; second = q })) g))
both_on t u f g = bind_bind (both_polynomials t u) f g ∙ after_both (term_polynomial t) (term_polynomial u) (λ z. bind (f z) g)

le_whole : (t u : TermTree) (k : Known) → push_whole (le t u) k ≡ push_le t u k
le_whole t u k =
    both_on t u (λ z. bind (difference z.second z.first) (λ d. Ok (d ∷ []))) (λ ps. Ok (put_on (le t u) k ps)) ∙
    (λ i. bind (term_polynomial t) (λ p. bind (term_polynomial u) (λ q. bind_bind (difference q p) (λ d. Ok (d ∷ [])) (λ ps. Ok (put_on (le t u) k ps)) i)))

lt_whole : (t u : TermTree) (k : Known) → push_whole (lt t u) k ≡ push_lt t u k
lt_whole t u k =
    both_on t u (λ z. bind (limited (lessened z.second 1 z.first 1)) (λ d. Ok (d ∷ []))) (λ ps. Ok (put_on (lt t u) k ps)) ∙
    (λ i. bind (term_polynomial t) (λ p. bind (term_polynomial u) (λ q. bind_bind (limited (lessened q 1 p 1)) (λ d. Ok (d ∷ [])) (λ ps. Ok (put_on (lt t u) k ps)) i)))

eq_whole : (t u : TermTree) (k : Known) → push_whole (eq t u) k ≡ push_eq t u k
eq_whole t u k =
    both_on t u (λ z. bind (difference z.second z.first) (λ d. bind (difference z.first z.second) (λ e. Ok (d ∷ e ∷ [])))) (λ ps. Ok (put_on (eq t u) k ps)) ∙
    ((λ i. bind (term_polynomial t) (λ p. bind (term_polynomial u) (λ q. bind_bind (difference q p) (λ d. bind (difference p q) (λ e. Ok (d ∷ e ∷ []))) (λ ps. Ok (put_on (eq t u) k ps)) i))) ∙
    (λ i. bind (term_polynomial t) (λ p. bind (term_polynomial u) (λ q. bind (difference q p) (λ d. bind_bind (difference p q) (λ e. Ok (d ∷ e ∷ [])) (λ ps. Ok (put_on (eq t u) k ps)) i)))))

-- without polynomials
bare_whole : (c : CondTree) (k : Known) → (let r : Result Known Stop = Ok (put_on c k []) in r) ≡ Ok (with_condition c k)
bare_whole c k = ap (λ (l : List Polynomial). Ok (record (with_condition c k) { polynomials = l })) (append-nil k.polynomials)

-- ---- all that are pushed

wholes-append : (xs ys : List CondTree) (k : Known) → push_wholes (xs ++ ys) k ≡ bind (push_wholes xs k) (λ k'. push_wholes ys k')
wholes-append [] ys k = refl
wholes-append (x ∷ xs) ys k =
    (λ i. bind (push_whole x k) (λ k'. wholes-append xs ys k' i)) ∙ sym (bind_bind (push_whole x k) (λ k'. push_wholes xs k') (λ k'. push_wholes ys k'))

one_whole : (c : CondTree) (k : Known) (r : Result Known Stop) → push_whole c k ≡ r → push_wholes (c ∷ []) k ≡ r
one_whole c k r e = bind_ok (push_whole c k) ∙ e

mutual
  flat_pushed : (negated : Bool) (c : CondTree) (k : Known) → push_wholes (flat negated c) k ≡ pushed negated c k
  flat_pushed false (le t u) k = one_whole (le t u) k _ (le_whole t u k)
  flat_pushed false (lt t u) k = one_whole (lt t u) k _ (lt_whole t u k)
  flat_pushed false (eq t u) k = one_whole (eq t u) k _ (eq_whole t u k)
  flat_pushed false (ne t u) k = one_whole (ne t u) k _ (bare_whole (ne t u) k)
  flat_pushed false (not c) k = flat_pushed true c k
  flat_pushed false (and cs) k = all_pushed cs k
  flat_pushed false (or cs) k = one_whole (or cs) k _ (bare_whole (or cs) k)
  flat_pushed true (le t u) k = one_whole (lt u t) k _ (lt_whole u t k)
  flat_pushed true (lt t u) k = one_whole (le u t) k _ (le_whole u t k)
  flat_pushed true (eq t u) k = one_whole (not (eq t u)) k _ (bare_whole (not (eq t u)) k)
  flat_pushed true (ne t u) k = one_whole (eq t u) k _ (eq_whole t u k)
  flat_pushed true (not c) k = flat_pushed false c k
  flat_pushed true (and cs) k = one_whole (not (and cs)) k _ (bare_whole (not (and cs)) k)
  flat_pushed true (or cs) k = nots_pushed cs k

  all_pushed : (cs : CondTrees) (k : Known) → push_wholes (flats false cs) k ≡ push_all cs k
  all_pushed no_conds k = refl
  all_pushed (cond_and c cs) k =
      wholes-append (flat false c) (flats false cs) k ∙ (λ i. bind (flat_pushed false c k i) (λ k'. all_pushed cs k' i))

  nots_pushed : (cs : CondTrees) (k : Known) → push_wholes (flats true cs) k ≡ push_nots cs k
  nots_pushed no_conds k = refl
  nots_pushed (cond_and c cs) k =
      wholes-append (flat true c) (flats true cs) k ∙ (λ i. bind (flat_pushed true c k i) (λ k'. nots_pushed cs k' i))

pub is_pushed : (negated : Bool) (c : CondTree) (list : List CondTree) (k : Known) → list ≡ flat negated c → push_wholes list k ≡ pushed negated c k
is_pushed negated c list k e = ap (λ (l : List CondTree). push_wholes l k) e ∙ flat_pushed negated c k
