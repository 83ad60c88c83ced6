-- Rows with one number more.
use Rattle.std.proofs.Common.{◌≡◌, ℕ, zero, suc, ◌+◌, ◌<◌, ◌≤◌, List, [], ◌∷◌, ◌++◌, take, length, set, get_or, Option, Some, None, refl, sym, ap, ◌∙◌, subst, ◌⊎◌, inl, inr, ⊎_elim, arith}
use Rattle.std.specs.Prelude.{slice_get, Vec, option_to_list, Contains}
use Rattle.std.specs.declared.alloc.Global.{Global}
use Rattle.std.proofs.Math.ListN.{length-set}
use Rattle.std.proofs.lemmas.Bool.{cases_eq}
use Rattle.std.proofs.lemmas.List.{get_or-map, take_more, append-nil}
use Rattle.std.proofs.lemmas.List.Elements.{Contains-append_left, Contains-append_right, Contains-append_cases, Contains-push, Contains-push_cases}
use Rattle.std.proofs.lemmas.Option.{get_or_from_slice_get}
use Rattle.qs_alloc.proofs.Tests.{none_in_empty, get_within, get_past}
use Rattle.qs_alloc.specs.Rows.{Rows, row, Grown, Noted, NotedAll}

pub some_same : {X : Type 0} → (x y : X) → Some x ≡ Some y → x ≡ y
some_same x y e = cc

pub get_below : {X : Type 0} → (xs : List X) (p : ℕ) (x : X) → slice_get xs p ≡ Some x → p < length xs
get_below [] p x e = absurd (cc)
get_below (y ∷ xs) zero x e = omega arith
get_below (y ∷ xs) (suc p) x e = let h = get_below xs p x e in omega arith

pub row_at : (rows : Rows) (k : ℕ) (d : Vec ℕ Global) → k < length rows → row rows k ≡ (get_or rows k d).items
row_at rows k d l = get_or-map (λ (v : Vec ℕ Global). v.items) rows k d [] l

pub row_read : (rows : Rows) (k : ℕ) (r : Vec ℕ Global) → k < length rows → r ≡ get_or rows k r → row rows k ≡ r.items
row_read rows k r l e = row_at rows k r l ∙ ap (λ (v : Vec ℕ Global). v.items) (sym e)

pub row_past : (rows : Rows) (k : ℕ) → length rows ≤ k → row rows k ≡ []
row_past [] k l = refl
row_past (x ∷ rows) zero l = absurd (omega arith)
row_past (x ∷ rows) (suc k) l = row_past rows k (omega arith)

pub row_below : (rows : Rows) (k v : ℕ) → Contains (row rows k) v → k < length rows
row_below [] k v c = absurd (none_in_empty v c)
row_below (x ∷ rows) zero v c = omega arith
row_below (x ∷ rows) (suc k) v c = let h = row_below rows k v c in omega arith

row_set_same : (rows : Rows) (k : ℕ) (v : Vec ℕ Global) → k < length rows → row (set rows k v) k ≡ v.items
row_set_same [] k v l = absurd (omega arith)
row_set_same (x ∷ rows) zero v l = refl
row_set_same (x ∷ rows) (suc k) v l = row_set_same rows k v (omega arith)

row_set_other : (rows : Rows) (k j : ℕ) (v : Vec ℕ Global) → (j ≡ k → ⊥) → row (set rows k v) j ≡ row rows j
row_set_other [] k j v ne = refl
row_set_other (x ∷ rows) zero zero v ne = absurd (ne refl)
row_set_other (x ∷ rows) zero (suc j) v ne = refl
row_set_other (x ∷ rows) (suc k) zero v ne = refl
row_set_other (x ∷ rows) (suc k) (suc j) v ne = row_set_other rows k j v (λ e. ne (ap suc e))

pub row_push_empty : (rows : Rows) (v : Vec ℕ Global) → v.items ≡ [] → (k : ℕ) → row (rows ++ v ∷ []) k ≡ row rows k
row_push_empty [] v e zero = e
row_push_empty [] v e (suc k) = refl
row_push_empty (x ∷ rows) v e zero = refl
row_push_empty (x ∷ rows) v e (suc k) = row_push_empty rows v e k

record NotedSet (k v : ℕ) (before now : Rows) : Type 0 where
  count : length now ≡ length before
  there : Contains (row now k) v
  keeps : (j w : ℕ) → Contains (row before j) w → Contains (row now j) w
  from : (j w : ℕ) → Contains (row now j) w → Contains (row before j) w ⊎ ((j ≡ k) × (w ≡ v))

noted_set : (rows : Rows) (k v : ℕ) (old new : Vec ℕ Global) → k < length rows → old ≡ get_or rows k old → new.items ≡ old.items ++ v ∷ [] → NotedSet k v rows (set rows k new)
noted_set rows k v old new l at e = record {
  count = length-set rows k new;
  there = subst (λ (xs : List ℕ). Contains xs v) (sym after_push) (Contains-push (row rows k) v);
  keeps = λ j w c. ⊎_elim (λ q. here j w q c) (λ ne. subst (λ (xs : List ℕ). Contains xs w) (sym (row_set_other rows k j new ne)) c) (cases_eq j k);
  from = λ j w c. ⊎_elim (λ q. back j w q c) (λ ne. inl (subst (λ (xs : List ℕ). Contains xs w) (row_set_other rows k j new ne) c)) (cases_eq j k);
}
  where
    after_push : row (set rows k new) k ≡ row rows k ++ v ∷ []
    after_push = row_set_same rows k new l ∙ e ∙ ap (λ (xs : List ℕ). xs ++ v ∷ []) (sym (row_read rows k old l at))

    here : (j w : ℕ) → j ≡ k → Contains (row rows j) w → Contains (row (set rows k new) j) w
    here j w q c = subst (λ (i : ℕ). Contains (row (set rows k new) i) w) (sym q) (subst (λ (xs : List ℕ). Contains xs w) (sym after_push) (Contains-append_left (row rows k) (v ∷ []) w (subst (λ (i : ℕ). Contains (row rows i) w) q c)))

    back : (j w : ℕ) → j ≡ k → Contains (row (set rows k new) j) w → Contains (row rows j) w ⊎ ((j ≡ k) × (w ≡ v))
    back j w q c = ⊎_elim (λ x. inl (subst (λ (i : ℕ). Contains (row rows i) w) (sym q) x)) (λ x. inr (q, sym x)) (Contains-push_cases (row rows k) v w (subst (λ (xs : List ℕ). Contains xs w) after_push (subst (λ (i : ℕ). Contains (row (set rows k new) i) w) q c)))

-- from nothing
pub grown_more : (before rows now : Rows) (v : Vec ℕ Global) → now ≡ rows ++ v ∷ [] → v.items ≡ [] → ((k : ℕ) → row rows k ≡ row before k) → (k : ℕ) → row now k ≡ row before k
grown_more before rows now v e empty h k = ap (λ (l : Rows). row l k) e ∙ row_push_empty rows v empty k ∙ h k

pub noted_grown : (k v : ℕ) (before mid : Rows) (old new : Vec ℕ Global) → Grown (k + 1) before mid → old ≡ get_or mid k old → new.items ≡ old.items ++ v ∷ [] → Noted k v before (set mid k new)
noted_grown k v before mid old new grown at e =
    let l : k < length mid = let size = grown.size in omega arith in
    let n = noted_set mid k v old new l at e in
    record {
      size = n.count ∙ grown.size;
      there = n.there;
      keeps = λ j w c. n.keeps j w (subst (λ (xs : List ℕ). Contains xs w) (sym (grown.rows j)) c);
      from = λ j w c. ⊎_elim (λ x. inl (subst (λ (xs : List ℕ). Contains xs w) (grown.rows j) x)) (λ x. inr x) (n.from j w c);
    }

pub noted_as : (xs ys : List ℕ) (v : ℕ) (a b : Rows) → xs ≡ ys → NotedAll xs v a b → NotedAll ys v a b
noted_as xs ys v a b e h = subst (λ (l : List ℕ). NotedAll l v a b) e h

pub noted_none : (v : ℕ) (rows : Rows) → NotedAll [] v rows rows
noted_none v rows = record {
  longer = omega arith;
  there = λ k c. absurd (none_in_empty k c);
  keeps = λ j w c. c;
  from = λ j w c. inl c;
}

pub noted_one : (k v : ℕ) (before now : Rows) → Noted k v before now → NotedAll (k ∷ []) v before now
noted_one k v before now n = record {
  longer = let s = n.size in omega arith;
  there = λ j c. only j c;
  keeps = n.keeps;
  from = λ j w c. ⊎_elim (λ x. inl x) (λ x. inr (subst (Contains (k ∷ [])) (sym x.0) (0, omega arith, refl), x.1)) (n.from j w c);
}
  where
    only : (j : ℕ) → Contains (k ∷ []) j → Contains (row now j) v
    only j (zero, m, e) = subst (λ (i : ℕ). Contains (row now i) v) e n.there
    only j (suc i, m, e) = absurd (omega (arith, m))

pub noted_both : (xs ys : List ℕ) (v : ℕ) (a b c : Rows) → NotedAll xs v a b → NotedAll ys v b c → NotedAll (xs ++ ys) v a c
noted_both xs ys v a b c x y = record {
  longer = let l = x.longer in let m = y.longer in omega arith;
  there = λ k d. ⊎_elim (λ z. y.keeps k v (x.there k z)) (λ z. y.there k z) (Contains-append_cases xs ys k d);
  keeps = λ j w d. y.keeps j w (x.keeps j w d);
  from = λ j w d. ⊎_elim
      (λ z. ⊎_elim (λ o. inl o) (λ o. inr (Contains-append_left xs ys j o.0, o.1)) (x.from j w z))
      (λ z. inr (Contains-append_right xs ys j z.0, z.1))
      (y.from j w d);
}

pub take_long : (xs : List ℕ) (k : ℕ) → length xs ≤ k → take k xs ≡ xs
take_long [] zero l = refl
take_long [] (suc k) l = refl
take_long (x ∷ xs) zero l = absurd (omega (arith, l))
take_long (x ∷ xs) (suc k) l = ap (λ ys. x ∷ ys) (take_long xs k (omega (arith, l)))

pub row_empty : (rows : Rows) (k : ℕ) → rows ≡ [] → row rows k ≡ []
row_empty rows k e = ap (λ (l : Rows). row l k) e

-- the keys from the beginning, up to one more
pub noted_more : (keys : List ℕ) (k v : ℕ) (a b c : Rows) → NotedAll (take k keys) v a b → NotedAll (option_to_list (slice_get keys k)) v b c → NotedAll (take (k + 1) keys) v a c
noted_more keys k v a b c x y = subst (λ (xs : List ℕ). NotedAll xs v a c) (sym (take_next keys k)) (noted_both (take k keys) (option_to_list (slice_get keys k)) v a b c x y)
  where
    one : (xs : List ℕ) (n : ℕ) (o : Option ℕ) → slice_get xs n ≡ o → take (n + 1) xs ≡ take n xs ++ option_to_list o
    one xs n None e =
        let l = get_past xs n e in
        take_long xs (n + 1) (omega (arith, l)) ∙ sym (append-nil (take n xs) ∙ take_long xs n l)
    one xs n (Some x) e =
        take_more xs n x (get_within xs n x e) ∙ ap (λ (y : ℕ). take n xs ++ y ∷ []) (get_or_from_slice_get xs n x x e)

    take_next : (xs : List ℕ) (n : ℕ) → take (n + 1) xs ≡ take n xs ++ option_to_list (slice_get xs n)
    take_next xs n = one xs n (slice_get xs n) refl

pub row_push_old : (rows : Rows) (v : Vec ℕ Global) (k : ℕ) → k < length rows → row (rows ++ v ∷ []) k ≡ row rows k
row_push_old [] v k l = absurd (omega arith)
row_push_old (x ∷ rows) v zero l = refl
row_push_old (x ∷ rows) v (suc k) l = row_push_old rows v k (omega arith)

pub row_push_new : (rows : Rows) (v : Vec ℕ Global) (k : ℕ) → length rows ≡ k → row (rows ++ v ∷ []) k ≡ v.items
row_push_new [] v zero e = refl
row_push_new [] v (suc k) e = absurd (omega arith)
row_push_new (x ∷ rows) v zero e = absurd (omega arith)
row_push_new (x ∷ rows) v (suc k) e = row_push_new rows v k (omega arith)
