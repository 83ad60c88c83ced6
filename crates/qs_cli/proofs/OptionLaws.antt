-- Each option is known and no key stands twice, as one walk over the items finds it.
use Rattle.std.proofs.Common.{◌≡◌, ◌∙◌, Bool, true, false, not, ◌&&◌, ◌||◌, refl, sym, ap, ap₂, List, [], ◌∷◌, ◌++◌, map, true≢false}
use Rattle.std.specs.Prelude.{bytes_eq}
use Rattle.std.specs.List.{list_all}
use Rattle.std.proofs.lemmas.Slice.Eq.{bytes_eq-Decides}
use Rattle.qs_cli.specs.Words.{Text, Item, key, among, is_known, are_distinct, is_allowed, stands}

-- `before` are the items before these
abbrev pub each_once : List Text → List Item → List Item → Bool
each_once names before [] = true
each_once names before (i ∷ is) = (is_known names i && not (stands (key i) before)) && each_once names (before ++ i ∷ []) is

pub stands-append : (k : Text) (before : List Item) (i : Item) → stands k (before ++ i ∷ []) ≡ (stands k before || bytes_eq (key i) k)
stands-append k [] i = or_none (bytes_eq (key i) k)
  where
    or_none : (b : Bool) → (b || false) ≡ b
    or_none true = refl
    or_none false = refl
stands-append k (j ∷ before) i = go (bytes_eq (key j) k) (stands-append k before i)
  where
    go : (b : Bool) → stands k (before ++ i ∷ []) ≡ (stands k before || bytes_eq (key i) k)
        → (b || stands k (before ++ i ∷ [])) ≡ ((b || stands k before) || bytes_eq (key i) k)
    go true h = refl
    go false h = h

bytes_eq-comm : (a b : Text) → bytes_eq a b ≡ bytes_eq b a
bytes_eq-comm a b = go (bytes_eq a b) refl (bytes_eq b a) refl
  where
    go : (x : Bool) → bytes_eq a b ≡ x → (y : Bool) → bytes_eq b a ≡ y → x ≡ y
    go true e true f = refl
    go true e false f = absurd (true≢false (sym ((bytes_eq-Decides b a).1 (sym ((bytes_eq-Decides a b).0 e))) ∙ f))
    go false e true f = absurd (true≢false (sym ((bytes_eq-Decides a b).1 (sym ((bytes_eq-Decides b a).0 f))) ∙ e))
    go false e false f = refl

-- no item has the key of one before
abbrev are_fresh : List Item → List Item → Bool
are_fresh before is = list_all (λ i. not (stands (key i) before)) is

are_fresh-append : (before : List Item) (i : Item) (is : List Item) → are_fresh (before ++ i ∷ []) is ≡ (are_fresh before is && not (among (key i) (map key is)))
are_fresh-append before i [] = refl
are_fresh-append before i (j ∷ is) =
    ap₂ (λ s f. not s && f) (stands-append (key j) before i ∙ ap (λ e. stands (key j) before || e) (bytes_eq-comm (key i) (key j))) (are_fresh-append before i is)
    ∙ moved (stands (key j) before) (bytes_eq (key j) (key i)) (are_fresh before is) (among (key i) (map key is))
  where
    moved : (s e f m : Bool) → (not (s || e) && (f && not m)) ≡ ((not s && f) && not (e || m))
    moved true e f m = refl
    moved false true true m = refl
    moved false true false m = refl
    moved false false f m = refl

each_once_from : (names : List Text) (before is : List Item)
    → each_once names before is ≡ ((list_all (is_known names) is && are_distinct (map key is)) && are_fresh before is)
each_once_from names before [] = refl
each_once_from names before (i ∷ is) =
    ap (λ b. (is_known names i && not (stands (key i) before)) && b) (each_once_from names (before ++ i ∷ []) is)
    ∙ ap (λ f. (is_known names i && not (stands (key i) before)) && ((list_all (is_known names) is && are_distinct (map key is)) && f)) (are_fresh-append before i is)
    ∙ moved (is_known names i) (not (stands (key i) before)) (list_all (is_known names) is) (are_distinct (map key is)) (are_fresh before is) (not (among (key i) (map key is)))
  where
    moved : (k s a d f m : Bool) → ((k && s) && ((a && d) && (f && m))) ≡ (((k && a) && (m && d)) && (s && f))
    moved false s a d f m = refl
    moved true s false d f m = none s
      where
        none : (s : Bool) → (s && false) ≡ false
        none true = refl
        none false = refl
    moved true true true false f true = refl
    moved true true true false f false = refl
    moved true true true true true true = refl
    moved true true true true true false = refl
    moved true true true true false true = refl
    moved true true true true false false = refl
    moved true false true d f m = all (m && d)
      where
        all : (x : Bool) → false ≡ (x && false)
        all true = refl
        all false = refl

pub each_once_all : (names : List Text) (is : List Item) → each_once names [] is ≡ is_allowed names is
each_once_all names is = each_once_from names [] is ∙ ap (λ f. is_allowed names is && f) (none is) ∙ whole _
  where
    none : (is : List Item) → are_fresh [] is ≡ true
    none [] = refl
    none (i ∷ is) = none is

    whole : (b : Bool) → (b && true) ≡ b
    whole true = refl
    whole false = refl
