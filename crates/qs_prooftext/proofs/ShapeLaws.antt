-- Lists with a head and so many leaves: what their rows make of their parts, and what their heads make of the trees behind the leaves.
use Rattle.std.proofs.Common.{arith, ◌≡◌, ℕ, ◌+◌, ◌==◌, Bool, false, if◌then◌else◌, List, [], ◌∷◌, length, Some, Ok, Err, refl, sym, ap, ◌∙◌}
use Rattle.qs_base.specs.Results.{bind}
use Rattle.qs_sexpr.specs.Trees.{Sexp, Sexps, no_parts, part_and, count}
use Rattle.qs_prooftext_meaning.specs.declared.fault.TextFault.TheVariants.{UnknownForm}
use Rattle.qs_prooftext_assertions.specs.Firsts.{first_means, tail, tails}
use Rattle.qs_prooftext.specs.HeadWalks.{listed}
use Rattle.qs_prooftext_meaning.specs.Kinds.{Kind, Of, Row, none, one, two, three, four, any}
use Rattle.qs_prooftext_meaning.specs.Meanings.{Answer, means, each_means, all_mean, row_means, takes}
use Rattle.qs_prooftext_meaning.specs.Settings.{Setting}
use Rattle.qs_prooftext_assertions.proofs.FlatLaws.{all_count}

-- ---- answers in turn

pub then_one : {A B C : Type 0} (x : Answer A) (f : A → B) (k : B → C) → bind (bind x (λ v. Ok (f v))) (λ w. Ok (k w)) ≡ bind x (λ v. Ok (k (f v)))
then_one (Err e) f k = refl
then_one (Ok v) f k = refl

pub then_two : {A B C D : Type 0} (x : Answer A) (y : Answer B) (f : A → B → C) (k : C → D) → bind (bind x (λ v. bind y (λ u. Ok (f v u)))) (λ w. Ok (k w)) ≡ bind x (λ v. bind y (λ u. Ok (k (f v u))))
then_two (Err e) y f k = refl
then_two (Ok v) (Err e) f k = refl
then_two (Ok v) (Ok u) f k = refl

pub then_three : {A B C D E : Type 0} (x : Answer A) (y : Answer B) (z : Answer C) (f : A → B → C → D) (k : D → E) → bind (bind x (λ v. bind y (λ u. bind z (λ t. Ok (f v u t))))) (λ w. Ok (k w)) ≡ bind x (λ v. bind y (λ u. bind z (λ t. Ok (k (f v u t)))))
then_three (Err e) y z f k = refl
then_three (Ok v) (Err e) z f k = refl
then_three (Ok v) (Ok u) (Err e) f k = refl
then_three (Ok v) (Ok u) (Ok t) f k = refl

-- ---- parts of each shape

-- so many trees
s_one : {A C : Type 0} (x : Answer A) (made : A → C) (pl : List A → C) → ((v : A) → made v ≡ pl (v ∷ [])) → bind (bind x (λ v. Ok (v, tt))) (λ (v : A × Unit {0}). Ok (made v.0)) ≡ bind (bind x (λ v. Ok (v ∷ []))) (λ cs. Ok (pl cs))
s_one (Err f) made pl e = refl
s_one {C = C} (Ok v) made pl e = ap (λ (c : C). Ok c) (e v)

s_two : {A C : Type 0} (x y : Answer A) (made : A → A → C) (pl : List A → C) → ((u v : A) → made u v ≡ pl (u ∷ v ∷ [])) → bind (bind x (λ v. bind (bind y (λ u. Ok (u, tt))) (λ vs. Ok (v, vs)))) (λ (v : A × (A × Unit {0})). Ok (made v.0 v.1.0)) ≡ bind (bind x (λ v. bind (bind y (λ u. Ok (u ∷ []))) (λ vs. Ok (v ∷ vs)))) (λ cs. Ok (pl cs))
s_two (Err f) y made pl e = refl
s_two (Ok u) (Err f) made pl e = refl
s_two {C = C} (Ok u) (Ok v) made pl e = ap (λ (c : C). Ok c) (e u v)

s_any : {A C : Type 0} (y : Answer (List A)) (made pl : List A → C) → ((vs : List A) → y ≡ Ok vs → made vs ≡ pl vs) → bind y (λ vs. Ok (made vs)) ≡ bind y (λ cs. Ok (pl cs))
s_any (Err f) made pl h = refl
s_any {C = C} (Ok vs) made pl h = ap (λ (c : C). Ok c) (h vs refl)

-- a leaf, and so many trees
s_leaf : {A B C H : Type 0} (x : Answer A) (made : A → C) (head : A → H) (pl : H → List B → C) → ((v : A) → made v ≡ pl (head v) []) → bind (bind x (λ v. Ok (v, tt))) (λ (v : A × Unit {0}). Ok (made v.0)) ≡ bind (bind x (λ v. Ok (head v))) (λ h. Ok (pl h []))
s_leaf (Err f) made head pl e = refl
s_leaf {C = C} (Ok v) made head pl e = ap (λ (c : C). Ok c) (e v)

s_leaf_one : {A B C H : Type 0} (x : Answer A) (y : Answer B) (made : A → B → C) (head : A → H) (pl : H → List B → C) → ((v : A) (u : B) → made v u ≡ pl (head v) (u ∷ [])) → bind (bind x (λ v. bind (bind y (λ u. Ok (u, tt))) (λ vs. Ok (v, vs)))) (λ (v : A × (B × Unit {0})). Ok (made v.0 v.1.0)) ≡ bind (bind x (λ v. Ok (head v))) (λ h. bind (bind y (λ u. Ok (u ∷ []))) (λ cs. Ok (pl h cs)))
s_leaf_one (Err f) y made head pl e = refl
s_leaf_one (Ok v) (Err f) made head pl e = refl
s_leaf_one {C = C} (Ok v) (Ok u) made head pl e = ap (λ (c : C). Ok c) (e v u)

s_leaf_two : {A B C H : Type 0} (x : Answer A) (y z : Answer B) (made : A → B → B → C) (head : A → H) (pl : H → List B → C) → ((v : A) (u w : B) → made v u w ≡ pl (head v) (u ∷ w ∷ [])) → bind (bind x (λ v. bind (bind y (λ u. bind (bind z (λ t. Ok (t, tt))) (λ vs. Ok (u, vs)))) (λ vs. Ok (v, vs)))) (λ (v : A × (B × (B × Unit {0}))). Ok (made v.0 v.1.0 v.1.1.0)) ≡ bind (bind x (λ v. Ok (head v))) (λ h. bind (bind y (λ u. bind (bind z (λ t. Ok (t ∷ []))) (λ vs. Ok (u ∷ vs)))) (λ cs. Ok (pl h cs)))
s_leaf_two (Err f) y z made head pl e = refl
s_leaf_two (Ok v) (Err f) z made head pl e = refl
s_leaf_two (Ok v) (Ok u) (Err f) made head pl e = refl
s_leaf_two {C = C} (Ok v) (Ok u) (Ok w) made head pl e = ap (λ (c : C). Ok c) (e v u w)

-- two leaves, and so many trees
s_leaves : {A D B C H : Type 0} (x : Answer A) (y : Answer D) (made : A → D → C) (head : A → D → H) (pl : H → List B → C) → ((v : A) (u : D) → made v u ≡ pl (head v u) []) → bind (bind x (λ v. bind (bind y (λ u. Ok (u, tt))) (λ vs. Ok (v, vs)))) (λ (v : A × (D × Unit {0})). Ok (made v.0 v.1.0)) ≡ bind (bind x (λ v. bind y (λ u. Ok (head v u)))) (λ h. Ok (pl h []))
s_leaves (Err f) y made head pl e = refl
s_leaves (Ok v) (Err f) made head pl e = refl
s_leaves {C = C} (Ok v) (Ok u) made head pl e = ap (λ (c : C). Ok c) (e v u)

s_leaves_one : {A D B C H : Type 0} (x : Answer A) (y : Answer D) (z : Answer B) (made : A → D → B → C) (head : A → D → H) (pl : H → List B → C) → ((v : A) (u : D) (w : B) → made v u w ≡ pl (head v u) (w ∷ [])) → bind (bind x (λ v. bind (bind y (λ u. bind (bind z (λ t. Ok (t, tt))) (λ vs. Ok (u, vs)))) (λ vs. Ok (v, vs)))) (λ (v : A × (D × (B × Unit {0}))). Ok (made v.0 v.1.0 v.1.1.0)) ≡ bind (bind x (λ v. bind y (λ u. Ok (head v u)))) (λ h. bind (bind z (λ t. Ok (t ∷ []))) (λ cs. Ok (pl h cs)))
s_leaves_one (Err f) y z made head pl e = refl
s_leaves_one (Ok v) (Err f) z made head pl e = refl
s_leaves_one (Ok v) (Ok u) (Err f) made head pl e = refl
s_leaves_one {C = C} (Ok v) (Ok u) (Ok w) made head pl e = ap (λ (c : C). Ok c) (e v u w)

s_leaves_two : {A D B C H : Type 0} (x : Answer A) (y : Answer D) (z q : Answer B) (made : A → D → B → B → C) (head : A → D → H) (pl : H → List B → C) → ((v : A) (u : D) (w r : B) → made v u w r ≡ pl (head v u) (w ∷ r ∷ [])) → bind (bind x (λ v. bind (bind y (λ u. bind (bind z (λ t. bind (bind q (λ s. Ok (s, tt))) (λ vs. Ok (t, vs)))) (λ vs. Ok (u, vs)))) (λ vs. Ok (v, vs)))) (λ (v : A × (D × (B × (B × Unit {0})))). Ok (made v.0 v.1.0 v.1.1.0 v.1.1.1.0)) ≡ bind (bind x (λ v. bind y (λ u. Ok (head v u)))) (λ h. bind (bind z (λ t. bind (bind q (λ s. Ok (s ∷ []))) (λ vs. Ok (t ∷ vs)))) (λ cs. Ok (pl h cs)))
s_leaves_two (Err f) y z q made head pl e = refl
s_leaves_two (Ok v) (Err f) z q made head pl e = refl
s_leaves_two (Ok v) (Ok u) (Err f) q made head pl e = refl
s_leaves_two (Ok v) (Ok u) (Ok w) (Err f) made head pl e = refl
s_leaves_two {C = C} (Ok v) (Ok u) (Ok w) (Ok r) made head pl e = ap (λ (c : C). Ok c) (e v u w r)

-- three leaves and a tree
s_three_one : {A D E B C H : Type 0} (x : Answer A) (y : Answer D) (q : Answer E) (z : Answer B) (made : A → D → E → B → C) (head : A → D → E → H) (pl : H → List B → C) → ((v : A) (u : D) (r : E) (w : B) → made v u r w ≡ pl (head v u r) (w ∷ [])) → bind (bind x (λ v. bind (bind y (λ u. bind (bind q (λ s. bind (bind z (λ t. Ok (t, tt))) (λ vs. Ok (s, vs)))) (λ vs. Ok (u, vs)))) (λ vs. Ok (v, vs)))) (λ (v : A × (D × (E × (B × Unit {0})))). Ok (made v.0 v.1.0 v.1.1.0 v.1.1.1.0)) ≡ bind (bind x (λ v. bind y (λ u. bind q (λ s. Ok (head v u s))))) (λ h. bind (bind z (λ t. Ok (t ∷ []))) (λ cs. Ok (pl h cs)))
s_three_one (Err f) y q z made head pl e = refl
s_three_one (Ok v) (Err f) q z made head pl e = refl
s_three_one (Ok v) (Ok u) (Err f) z made head pl e = refl
s_three_one (Ok v) (Ok u) (Ok r) (Err f) made head pl e = refl
s_three_one {C = C} (Ok v) (Ok u) (Ok r) (Ok w) made head pl e = ap (λ (c : C). Ok c) (e v u r w)

-- ---- so many parts

pub is_not_so_many : (n m l : ℕ) → l ≡ n → (l ≡ m → ⊥) → (n == m) ≡ false
is_not_so_many n m l c e = grind (arith, c, e)

pub leaves_and : (l n m k : ℕ) → k ≡ m → n ≡ l + m → l + k ≡ n
leaves_and l n m k e f = omega (arith, e, f)

pub no_leaves : (n k : ℕ) → k ≡ n → 0 + k ≡ n
no_leaves n k e = omega (arith, e)

at_none : (P : Sexps → Type 0) (ss : Sexps) → count ss ≡ 0 → P no_parts → P ss
at_none P no_parts e h = h
at_none P (part_and p ss) e h = absurd (omega (arith, e))

at_one : (P : Sexps → Type 0) (ss : Sexps) → count ss ≡ 1 → ((p : Sexp) → P (part_and p no_parts)) → P ss
at_one P no_parts e h = absurd (omega (arith, e))
at_one P (part_and p ss) e h = at_none (λ xs. P (part_and p xs)) ss (omega (arith, e)) (h p)

at_two : (P : Sexps → Type 0) (ss : Sexps) → count ss ≡ 2 → ((p q : Sexp) → P (part_and p (part_and q no_parts))) → P ss
at_two P no_parts e h = absurd (omega (arith, e))
at_two P (part_and p ss) e h = at_one (λ xs. P (part_and p xs)) ss (omega (arith, e)) (h p)

at_three : (P : Sexps → Type 0) (ss : Sexps) → count ss ≡ 3 → ((p q r : Sexp) → P (part_and p (part_and q (part_and r no_parts)))) → P ss
at_three P no_parts e h = absurd (omega (arith, e))
at_three P (part_and p ss) e h = at_two (λ xs. P (part_and p xs)) ss (omega (arith, e)) (h p)

at_four : (P : Sexps → Type 0) (ss : Sexps) → count ss ≡ 4 → ((p q r s : Sexp) → P (part_and p (part_and q (part_and r (part_and s no_parts))))) → P ss
at_four P no_parts e h = absurd (omega (arith, e))
at_four P (part_and p ss) e h = at_three (λ xs. P (part_and p xs)) ss (omega (arith, e)) (h p)

-- ---- rows of each shape

-- what a list with this row is, and what it is by its head
abbrev pub by_row : {k : Kind} → Setting → Row k → Sexps → Answer (Of k)
by_row g row ss = row_means row (λ ks. each_means g ks ss) (λ a. all_mean g a ss)

abbrev pub by_head : {H : Type 0} → (k : Kind) → (H → List (Of k) → Of k) → Setting → Answer H → (leaves : ℕ) → Sexps → Answer (Of k)
by_head k pl g head leaves ss = bind head (λ h. bind (all_mean g k (tails leaves ss)) (λ vs. Ok (pl h vs)))

-- a list with as many parts as its row takes, or with another count
pub taken_by : {k : Kind} (g : Setting) (at : ℕ) (row : Row k) (ss : Sexps) (b : Bool) → takes row (count ss) ≡ b → listed g at (Some row) ss ≡ (if b then by_row g row ss else Err (UnknownForm at))
taken_by g at row ss b e = λ i. if e i then by_row g row ss else Err (UnknownForm at)

-- how many trees are parts of a head that was read
pub made_arity : {A H : Type 0} (arity : H → ℕ) (x : Answer A) (f : A → H) (h : H) (n : ℕ) → ((a : A) → arity (f a) ≡ n) → bind x (λ a. Ok (f a)) ≡ Ok h → arity h ≡ n
made_arity arity (Err e) f h n a q = absurd (cc)
made_arity arity (Ok v) f h n a q = let r : f v ≡ h = cc in ap arity (sym r) ∙ a v

abbrev read_as : {H : Type 0} → H → Answer H
read_as h = Ok h

pub head_arity : {H : Type 0} (arity : H → ℕ) (x h : H) (n : ℕ) → arity x ≡ n → read_as x ≡ read_as h → arity h ≡ n
head_arity arity x h n a q = let r : x ≡ h = cc in ap arity (sym r) ∙ a

pub none_row : {H : Type 0} (k : Kind) (pl : H → List (Of k) → Of k) (g : Setting) (ss : Sexps) (made : Of k) (h : H) → count ss ≡ 0 → made ≡ pl h [] → by_row {k = k} g (none made) ss ≡ by_head k pl g (Ok h) 0 ss
none_row k pl g ss made h e f =
    at_none (λ xs. by_row {k = k} g (none made) xs ≡ by_head k pl g (Ok h) 0 xs) ss e (ap (λ (v : Of k). Ok v) f)

pub one_row : {H : Type 0} (k : Kind) (pl : H → List (Of k) → Of k) (g : Setting) (ss : Sexps) (made : Of k → Of k) (h : H) → count ss ≡ 1 → ((v : Of k) → made v ≡ pl h (v ∷ [])) → by_row {k = k} g (one k made) ss ≡ by_head k pl g (Ok h) 0 ss
one_row k pl g ss made h e f =
    at_one (λ xs. by_row {k = k} g (one k made) xs ≡ by_head k pl g (Ok h) 0 xs) ss e (λ p. s_one (means g k p) made (pl h) f)

pub two_row : {H : Type 0} (k : Kind) (pl : H → List (Of k) → Of k) (g : Setting) (ss : Sexps) (made : Of k → Of k → Of k) (h : H) → count ss ≡ 2 → ((u v : Of k) → made u v ≡ pl h (u ∷ v ∷ [])) → by_row {k = k} g (two k k made) ss ≡ by_head k pl g (Ok h) 0 ss
two_row k pl g ss made h e f =
    at_two (λ xs. by_row {k = k} g (two k k made) xs ≡ by_head k pl g (Ok h) 0 xs) ss e (λ p q. s_two (means g k p) (means g k q) made (pl h) f)

pub any_row : {H : Type 0} (k : Kind) (pl : H → List (Of k) → Of k) (g : Setting) (ss : Sexps) (made : List (Of k) → Of k) (h : H) → ((vs : List (Of k)) → length vs ≡ count ss → made vs ≡ pl h vs) → by_row {k = k} g (any k made) ss ≡ by_head k pl g (Ok h) 0 ss
any_row k pl g ss made h f = s_any (all_mean g k ss) made (pl h) (λ vs e. f vs (all_count g k ss vs e))

pub leaf_row : {H : Type 0} (k a : Kind) (pl : H → List (Of k) → Of k) (g : Setting) (ss : Sexps) (made : Of a → Of k) (head : Of a → H) → count ss ≡ 1 → ((v : Of a) → made v ≡ pl (head v) []) → by_row {k = k} g (one a made) ss ≡ by_head k pl g (bind (first_means g a ss) (λ v. Ok (head v))) 1 ss
leaf_row k a pl g ss made head e f =
    at_one (λ xs. by_row {k = k} g (one a made) xs ≡ by_head k pl g (bind (first_means g a xs) (λ v. Ok (head v))) 1 xs) ss e (λ p. s_leaf (means g a p) made head pl f)

pub leaf_one_row : {H : Type 0} (k a : Kind) (pl : H → List (Of k) → Of k) (g : Setting) (ss : Sexps) (made : Of a → Of k → Of k) (head : Of a → H) → count ss ≡ 2 → ((v : Of a) (u : Of k) → made v u ≡ pl (head v) (u ∷ [])) → by_row {k = k} g (two a k made) ss ≡ by_head k pl g (bind (first_means g a ss) (λ v. Ok (head v))) 1 ss
leaf_one_row k a pl g ss made head e f =
    at_two (λ xs. by_row {k = k} g (two a k made) xs ≡ by_head k pl g (bind (first_means g a xs) (λ v. Ok (head v))) 1 xs) ss e (λ p q. s_leaf_one (means g a p) (means g k q) made head pl f)

pub leaf_two_row : {H : Type 0} (k a : Kind) (pl : H → List (Of k) → Of k) (g : Setting) (ss : Sexps) (made : Of a → Of k → Of k → Of k) (head : Of a → H) → count ss ≡ 3 → ((v : Of a) (u w : Of k) → made v u w ≡ pl (head v) (u ∷ w ∷ [])) → by_row {k = k} g (three a k k made) ss ≡ by_head k pl g (bind (first_means g a ss) (λ v. Ok (head v))) 1 ss
leaf_two_row k a pl g ss made head e f =
    at_three (λ xs. by_row {k = k} g (three a k k made) xs ≡ by_head k pl g (bind (first_means g a xs) (λ v. Ok (head v))) 1 xs) ss e (λ p q r. s_leaf_two (means g a p) (means g k q) (means g k r) made head pl f)

-- two first parts
abbrev pub pair_means : {H : Type 0} → (a b : Kind) → Setting → (Of a → Of b → H) → Sexps → Answer H
pair_means a b g head ss = bind (first_means g a ss) (λ v. bind (first_means g b (tail ss)) (λ u. Ok (head v u)))

pub leaves_row : {H : Type 0} (k a b : Kind) (pl : H → List (Of k) → Of k) (g : Setting) (ss : Sexps) (made : Of a → Of b → Of k) (head : Of a → Of b → H) → count ss ≡ 2 → ((v : Of a) (u : Of b) → made v u ≡ pl (head v u) []) → by_row {k = k} g (two a b made) ss ≡ by_head k pl g (pair_means a b g head ss) 2 ss
leaves_row k a b pl g ss made head e f =
    at_two (λ xs. by_row {k = k} g (two a b made) xs ≡ by_head k pl g (pair_means a b g head xs) 2 xs) ss e (λ p q. s_leaves (means g a p) (means g b q) made head pl f)

pub leaves_one_row : {H : Type 0} (k a b : Kind) (pl : H → List (Of k) → Of k) (g : Setting) (ss : Sexps) (made : Of a → Of b → Of k → Of k) (head : Of a → Of b → H) → count ss ≡ 3 → ((v : Of a) (u : Of b) (w : Of k) → made v u w ≡ pl (head v u) (w ∷ [])) → by_row {k = k} g (three a b k made) ss ≡ by_head k pl g (pair_means a b g head ss) 2 ss
leaves_one_row k a b pl g ss made head e f =
    at_three (λ xs. by_row {k = k} g (three a b k made) xs ≡ by_head k pl g (pair_means a b g head xs) 2 xs) ss e (λ p q r. s_leaves_one (means g a p) (means g b q) (means g k r) made head pl f)

pub leaves_two_row : {H : Type 0} (k a b : Kind) (pl : H → List (Of k) → Of k) (g : Setting) (ss : Sexps) (made : Of a → Of b → Of k → Of k → Of k) (head : Of a → Of b → H) → count ss ≡ 4 → ((v : Of a) (u : Of b) (w r : Of k) → made v u w r ≡ pl (head v u) (w ∷ r ∷ [])) → by_row {k = k} g (four a b k k made) ss ≡ by_head k pl g (pair_means a b g head ss) 2 ss
leaves_two_row k a b pl g ss made head e f =
    at_four (λ xs. by_row {k = k} g (four a b k k made) xs ≡ by_head k pl g (pair_means a b g head xs) 2 xs) ss e (λ p q r s. s_leaves_two (means g a p) (means g b q) (means g k r) (means g k s) made head pl f)

-- three first parts
abbrev pub triple_means : {H : Type 0} → (a b c : Kind) → Setting → (Of a → Of b → Of c → H) → Sexps → Answer H
triple_means a b c g head ss =
    bind (first_means g a ss) (λ v. bind (first_means g b (tail ss)) (λ u. bind (first_means g c (tail (tail ss))) (λ t. Ok (head v u t))))

pub three_one_row : {H : Type 0} (k a b c : Kind) (pl : H → List (Of k) → Of k) (g : Setting) (ss : Sexps) (made : Of a → Of b → Of c → Of k → Of k) (head : Of a → Of b → Of c → H) → count ss ≡ 4 → ((v : Of a) (u : Of b) (t : Of c) (w : Of k) → made v u t w ≡ pl (head v u t) (w ∷ [])) → by_row {k = k} g (four a b c k made) ss ≡ by_head k pl g (triple_means a b c g head ss) 3 ss
three_one_row k a b c pl g ss made head e f =
    at_four (λ xs. by_row {k = k} g (four a b c k made) xs ≡ by_head k pl g (triple_means a b c g head xs) 3 xs) ss e (λ p q r s. s_three_one (means g a p) (means g b q) (means g c r) (means g k s) made head pl f)
