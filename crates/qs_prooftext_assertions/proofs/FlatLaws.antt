-- The nodes of lists by their rows.
use Rattle.std.proofs.Common.{arith, ◌≡◌, ℕ, suc, ◌+◌, ◌==◌, nat_le, Bool, true, false, List, [], ◌∷◌, ◌++◌, length, replicate, if◌then◌else◌, Option, Some, None, Ok, Err, refl, sym, ap, ◌∙◌, append_assoc}
use Rattle.std.proofs.lemmas.List.{append-nil}
use Rattle.std.specs.Option.{option_to_list}
use Rattle.std.proofs.lemmas.Bool.{eqb-true}
use Rattle.qs_base.specs.Results.{bind}
use Rattle.qs_assert.specs.declared.node.Node.{Node}
use Rattle.qs_sexpr.specs.Trees.{Sexps, no_parts, part_and, count}
use Rattle.qs_prooftext_meaning.specs.declared.fault.TextFault.{TextFault}
use Rattle.qs_prooftext_meaning.specs.declared.fault.TextFault.TheVariants.{UnknownForm}
use Rattle.qs_prooftext_assertions.specs.declared.sorts.Parts.TheVariants.{Zero, One, Two, Three, Many}
use Rattle.qs_prooftext_assertions.specs.declared.sorts.Row.{Row as CodeRow}
use Rattle.qs_prooftext_assertions.specs.declared.sorts.Sort.{Sort}
use Rattle.qs_prooftext_assertions.specs.AssertionRows.{fitting, row_flat}
use Rattle.qs_prooftext_assertions.specs.Flattening.{kind_of, nodes_of, nodes_of_all, joined, flat, flats, sorts}
use Rattle.qs_prooftext_meaning.specs.Kinds.{Kind, Of, Row, none, one, two, three, many}
use Rattle.qs_prooftext_meaning.specs.Meanings.{Answer, means, each_means, all_mean, list_means}
use Rattle.qs_prooftext_meaning.specs.Settings.{Setting}

-- ---- answers joined

pub joined-assoc : (a b c : Answer (List Node)) → joined (joined a b) c ≡ joined a (joined b c)
joined-assoc (Err f) b c = refl
joined-assoc (Ok ns) (Err f) c = refl
joined-assoc (Ok ns) (Ok ms) (Err f) = refl
joined-assoc (Ok ns) (Ok ms) (Ok ls) = ap (λ (xs : List Node). Ok xs) (append_assoc ns ms ls)

pub joined-nil : (a : Answer (List Node)) → joined (Ok []) a ≡ a
joined-nil (Err f) = refl
joined-nil (Ok ns) = refl

pub joined-done : (a : Answer (List Node)) → joined a (Ok []) ≡ a
joined-done (Err f) = refl
joined-done (Ok ns) = ap (λ (xs : List Node). Ok xs) (append-nil ns)

-- ---- lists and atoms one after another

abbrev pub onto : Sexps → Sexps → Sexps
onto no_parts others = others
onto (part_and s ss) others = part_and s (onto ss others)

pub onto-count : (ss others : Sexps) → count (onto ss others) ≡ count ss + count others
onto-count no_parts others = omega arith
onto-count (part_and s ss) others = let e = onto-count ss others in omega (arith, e)

pub flats-onto : (g : Setting) (ks ls : List Sort) (ss others : Sexps) → length ks ≡ count ss → flats g (ks ++ ls) (onto ss others) ≡ joined (flats g ks ss) (flats g ls others)
flats-onto g [] ls no_parts others h = sym (joined-nil (flats g ls others))
flats-onto g [] ls (part_and s ss) others h = absurd (omega (arith, h))
flats-onto g (k ∷ ks) ls no_parts others h = absurd (omega (arith, h))
flats-onto g (k ∷ ks) ls (part_and s ss) others h =
    ap (joined (flat g k s)) (flats-onto g ks ls ss others (omega (arith, h))) ∙ sym (joined-assoc (flat g k s) (flats g ks ss) (flats g ls others))

-- ---- how many

next_count : {A : Type 0} (x : Answer A) (y : Answer (List A)) (vs : List A) (n : ℕ) → ((ws : List A) → y ≡ Ok ws → length ws ≡ n) → bind x (λ v. bind y (λ ws. Ok (v ∷ ws))) ≡ Ok vs → length vs ≡ n + 1
next_count (Err f) y vs n h e = absurd (cc)
next_count (Ok v) (Err f) vs n h e = absurd (cc)
next_count {A = A} (Ok v) (Ok ws) vs n h e =
    let q : v ∷ ws ≡ vs = cc in
    let l = ap (λ (xs : List A). length xs) q in
    let m = h ws refl in
    omega (arith, l, m)

pub all_count : (g : Setting) (k : Kind) (parts : Sexps) (vs : List (Of k)) → all_mean g k parts ≡ Ok vs → length vs ≡ count parts
all_count g k no_parts vs e = let q : [] ≡ vs = cc in let l = ap (λ (xs : List (Of k)). length xs) q in omega (arith, l)
all_count g k (part_and p ps) vs e = next_count (means g k p) (all_mean g k ps) vs (count ps) (λ ws h. all_count g k ps ws h) e

-- ---- rows

guarded : {A B : Type 0} (b : Bool) (x : Answer A) (y : Answer B) (next : A → Answer B) (f : TextFault) → (b ≡ true → bind x next ≡ y) → bind (if b then x else Err f) next ≡ (if b then y else Err f)
guarded true x y next f h = h refl
guarded false x y next f h = refl

one_plain : {A C : Type 0} (x : Answer A) (made : A → C) (na : A → List Node) (nc : C → List Node) (e : List Node) → ((p : A) → nc (made p) ≡ e ++ (na p ++ [])) → bind (bind (bind x (λ v. Ok (v, tt))) (λ (v : A × Unit {0}). Ok (made v.0))) (λ v. Ok (nc v)) ≡ joined (Ok e) (joined (bind x (λ v. Ok (na v))) (Ok []))
one_plain (Err f) made na nc e h = refl
one_plain (Ok p) made na nc e h = ap (λ (xs : List Node). Ok xs) (h p)

abbrev two_values : {A B : Type 0} → Answer A → Answer B → Answer (A × (B × Unit {0}))
two_values x y = bind x (λ v. bind (bind y (λ u. Ok (u, tt))) (λ vs. Ok (v, vs)))

two_plain : {A B C : Type 0} (x : Answer A) (y : Answer B) (made : A → B → C) (na : A → List Node) (nb : B → List Node) (nc : C → List Node) (e : List Node) → ((p : A) (q : B) → two_values x y ≡ Ok (p, (q, tt)) → nc (made p q) ≡ e ++ (na p ++ (nb q ++ []))) → bind (bind (bind x (λ v. bind (bind y (λ u. Ok (u, tt))) (λ vs. Ok (v, vs)))) (λ (v : A × (B × Unit {0})). Ok (made v.0 v.1.0))) (λ v. Ok (nc v)) ≡ joined (Ok e) (joined (bind x (λ v. Ok (na v))) (joined (bind y (λ v. Ok (nb v))) (Ok [])))
two_plain (Err f) y made na nb nc e h = refl
two_plain (Ok p) (Err f) made na nb nc e h = refl
two_plain (Ok p) (Ok q) made na nb nc e h = ap (λ (xs : List Node). Ok xs) (h p q refl)

three_plain : {A B C D : Type 0} (x : Answer A) (y : Answer B) (z : Answer C) (made : A → B → C → D) (na : A → List Node) (nb : B → List Node) (nc : C → List Node) (nd : D → List Node) (e : List Node) → ((p : A) (q : B) (r : C) → nd (made p q r) ≡ e ++ (na p ++ (nb q ++ (nc r ++ [])))) → bind (bind (bind x (λ v. bind (bind y (λ u. bind (bind z (λ t. Ok (t, tt))) (λ vs. Ok (u, vs)))) (λ vs. Ok (v, vs)))) (λ (v : A × (B × (C × Unit {0}))). Ok (made v.0 v.1.0 v.1.1.0))) (λ v. Ok (nd v)) ≡ joined (Ok e) (joined (bind x (λ v. Ok (na v))) (joined (bind y (λ v. Ok (nb v))) (joined (bind z (λ v. Ok (nc v))) (Ok []))))
three_plain (Err f) y z made na nb nc nd e h = refl
three_plain (Ok p) (Err f) z made na nb nc nd e h = refl
three_plain (Ok p) (Ok q) (Err f) made na nb nc nd e h = refl
three_plain (Ok p) (Ok q) (Ok r) made na nb nc nd e h = ap (λ (xs : List Node). Ok xs) (h p q r)

next_plain : {A : Type 0} (x : Answer A) (y : Answer (List A)) (na : A → List Node) (ns : List A → List Node) → ((v : A) (vs : List A) → ns (v ∷ vs) ≡ na v ++ ns vs) → joined (bind x (λ v. Ok (na v))) (bind y (λ vs. Ok (ns vs))) ≡ bind (bind x (λ v. bind y (λ vs. Ok (v ∷ vs)))) (λ vs. Ok (ns vs))
next_plain (Err f) y na ns h = refl
next_plain (Ok v) (Err f) na ns h = refl
next_plain (Ok v) (Ok vs) na ns h = ap (λ (xs : List Node). Ok xs) (sym (h v vs))

pub copies_flat : (g : Setting) (a : Sort) (parts : Sexps) → flats g (replicate (count parts) a) parts ≡ bind (all_mean g (kind_of a) parts) (λ vs. Ok (nodes_of_all a vs))
copies_flat g a no_parts = refl
copies_flat g a (part_and p ps) =
    let e : count ps + 1 ≡ suc (count ps) = omega arith in
    ap (λ (n : ℕ). flats g (replicate n a) (part_and p ps)) e ∙ (ap (joined (flat g a p)) (copies_flat g a ps) ∙ next_plain (means g (kind_of a) p) (all_mean g (kind_of a) ps) (nodes_of a) (nodes_of_all a) (λ v vs. refl))

many_plain : {A C : Type 0} (y : Answer (List A)) (made : List A → C) (ns : List A → List Node) (nc : C → List Node) (e : List Node) → ((vs : List A) → y ≡ Ok vs → nc (made vs) ≡ e ++ ns vs) → bind (bind y (λ vs. Ok (made vs))) (λ v. Ok (nc v)) ≡ joined (Ok e) (bind y (λ vs. Ok (ns vs)))
many_plain (Err f) made ns nc e h = refl
many_plain (Ok vs) made ns nc e h = ap (λ (xs : List Node). Ok xs) (h vs refl)

-- ---- what a list with a row means, as nodes

abbrev pub spec_flat : Setting → (k : Sort) → (at : ℕ) → Option (Row (kind_of k)) → Sexps → Answer (List Node)
spec_flat g k at o parts =
    bind (list_means at o (count parts) (λ ks. each_means g ks parts) (λ a. all_mean g a parts)) (λ v. Ok (nodes_of k v))

abbrev pub code_flat : Setting → (at : ℕ) → Option CodeRow → Sexps → Answer (List Node)
code_flat g at o parts = row_flat g at (fitting o (count parts)) parts

fitted : (g : Setting) (at : ℕ) (row : CodeRow) (parts : Sexps) (b : Bool) → (if b then joined (Ok (option_to_list row.node)) (flats g (sorts row.parts (count parts)) parts) else Err (UnknownForm at)) ≡ row_flat g at (if b then Some row else None) parts
fitted g at row parts true = refl
fitted g at row parts false = refl

pub none_row : (g : Setting) (k : Sort) (at : ℕ) (made : Of (kind_of k)) (node : Option Node) (parts : Sexps) → nodes_of k made ≡ option_to_list node ++ [] → spec_flat g k at (Some (none made)) parts ≡ code_flat g at (Some (record { node = node; parts = Zero })) parts
none_row g k at made node parts h =
    guarded (count parts == 0) (Ok made) _ (λ v. Ok (nodes_of k v)) (UnknownForm at) (λ e. ap (λ (xs : List Node). Ok xs) h) ∙ fitted g at (record { node = node; parts = Zero }) parts (count parts == 0)

one_inner : (g : Setting) (k a : Sort) (made : Of (kind_of a) → Of (kind_of k)) (node : Option Node) (parts : Sexps) → count parts ≡ 1 → ((x : Of (kind_of a)) → nodes_of k (made x) ≡ option_to_list node ++ (nodes_of a x ++ [])) → bind (bind (each_means g (kind_of a ∷ []) parts) (λ v. Ok (made v.0))) (λ v. Ok (nodes_of k v)) ≡ joined (Ok (option_to_list node)) (flats g (a ∷ []) parts)
one_inner g k a made node no_parts e h = absurd (omega (arith, e))
one_inner g k a made node (part_and p no_parts) e h =
    one_plain (means g (kind_of a) p) made (nodes_of a) (nodes_of k) (option_to_list node) h
one_inner g k a made node (part_and p (part_and q ps)) e h = absurd (omega (arith, e))

pub one_row : (g : Setting) (k a : Sort) (at : ℕ) (made : Of (kind_of a) → Of (kind_of k)) (node : Option Node) (parts : Sexps) → ((x : Of (kind_of a)) → nodes_of k (made x) ≡ option_to_list node ++ (nodes_of a x ++ [])) → spec_flat g k at (Some (one (kind_of a) made)) parts ≡ code_flat g at (Some (record { node = node; parts = One a })) parts
one_row g k a at made node parts h =
    guarded (count parts == 1) _ _ (λ v. Ok (nodes_of k v)) (UnknownForm at) (λ e. one_inner g k a made node parts (eqb-true (count parts) 1 e) h) ∙ fitted g at (record { node = node; parts = One a }) parts (count parts == 1)

two_inner : (g : Setting) (k a b : Sort) (made : Of (kind_of a) → Of (kind_of b) → Of (kind_of k)) (node : Option Node) (parts : Sexps) → count parts ≡ 2 → ((x : Of (kind_of a)) (y : Of (kind_of b)) → each_means g (kind_of a ∷ kind_of b ∷ []) parts ≡ Ok (x, (y, tt)) → nodes_of k (made x y) ≡ option_to_list node ++ (nodes_of a x ++ (nodes_of b y ++ []))) → bind (bind (each_means g (kind_of a ∷ kind_of b ∷ []) parts) (λ v. Ok (made v.0 v.1.0))) (λ v. Ok (nodes_of k v)) ≡ joined (Ok (option_to_list node)) (flats g (a ∷ b ∷ []) parts)
two_inner g k a b made node no_parts e h = absurd (omega (arith, e))
two_inner g k a b made node (part_and p no_parts) e h = absurd (omega (arith, e))
two_inner g k a b made node (part_and p (part_and q no_parts)) e h =
    two_plain (means g (kind_of a) p) (means g (kind_of b) q) made (nodes_of a) (nodes_of b) (nodes_of k) (option_to_list node) h
two_inner g k a b made node (part_and p (part_and q (part_and r ps))) e h = absurd (omega (arith, e))

pub two_row : (g : Setting) (k a b : Sort) (at : ℕ) (made : Of (kind_of a) → Of (kind_of b) → Of (kind_of k)) (node : Option Node) (parts : Sexps) → (count parts ≡ 2 → (x : Of (kind_of a)) (y : Of (kind_of b)) → each_means g (kind_of a ∷ kind_of b ∷ []) parts ≡ Ok (x, (y, tt)) → nodes_of k (made x y) ≡ option_to_list node ++ (nodes_of a x ++ (nodes_of b y ++ []))) → spec_flat g k at (Some (two (kind_of a) (kind_of b) made)) parts ≡ code_flat g at (Some (record { node = node; parts = Two a b })) parts
two_row g k a b at made node parts h =
    guarded (count parts == 2) _ _ (λ v. Ok (nodes_of k v)) (UnknownForm at) (λ e. two_inner g k a b made node parts (eqb-true (count parts) 2 e) (h (eqb-true (count parts) 2 e))) ∙ fitted g at (record { node = node; parts = Two a b }) parts (count parts == 2)

three_inner : (g : Setting) (k a b c : Sort) (made : Of (kind_of a) → Of (kind_of b) → Of (kind_of c) → Of (kind_of k)) (node : Option Node) (parts : Sexps) → count parts ≡ 3 → ((x : Of (kind_of a)) (y : Of (kind_of b)) (z : Of (kind_of c)) → nodes_of k (made x y z) ≡ option_to_list node ++ (nodes_of a x ++ (nodes_of b y ++ (nodes_of c z ++ [])))) → bind (bind (each_means g (kind_of a ∷ kind_of b ∷ kind_of c ∷ []) parts) (λ v. Ok (made v.0 v.1.0 v.1.1.0))) (λ v. Ok (nodes_of k v)) ≡ joined (Ok (option_to_list node)) (flats g (a ∷ b ∷ c ∷ []) parts)
three_inner g k a b c made node no_parts e h = absurd (omega (arith, e))
three_inner g k a b c made node (part_and p no_parts) e h = absurd (omega (arith, e))
three_inner g k a b c made node (part_and p (part_and q no_parts)) e h = absurd (omega (arith, e))
three_inner g k a b c made node (part_and p (part_and q (part_and r no_parts))) e h =
    three_plain (means g (kind_of a) p) (means g (kind_of b) q) (means g (kind_of c) r) made (nodes_of a) (nodes_of b) (nodes_of c) (nodes_of k) (option_to_list node) h
three_inner g k a b c made node (part_and p (part_and q (part_and r (part_and s ps)))) e h = absurd (omega (arith, e))

pub three_row : (g : Setting) (k a b c : Sort) (at : ℕ) (made : Of (kind_of a) → Of (kind_of b) → Of (kind_of c) → Of (kind_of k)) (node : Option Node) (parts : Sexps) → ((x : Of (kind_of a)) (y : Of (kind_of b)) (z : Of (kind_of c)) → nodes_of k (made x y z) ≡ option_to_list node ++ (nodes_of a x ++ (nodes_of b y ++ (nodes_of c z ++ [])))) → spec_flat g k at (Some (three (kind_of a) (kind_of b) (kind_of c) made)) parts ≡ code_flat g at (Some (record { node = node; parts = Three a b c })) parts
three_row g k a b c at made node parts h =
    guarded (count parts == 3) _ _ (λ v. Ok (nodes_of k v)) (UnknownForm at) (λ e. three_inner g k a b c made node parts (eqb-true (count parts) 3 e) h) ∙ fitted g at (record { node = node; parts = Three a b c }) parts (count parts == 3)

pub many_row : (g : Setting) (k a : Sort) (at : ℕ) (made : List (Of (kind_of a)) → Of (kind_of k)) (node : Option Node) (parts : Sexps) → ((vs : List (Of (kind_of a))) → length vs ≡ count parts → nodes_of k (made vs) ≡ option_to_list node ++ nodes_of_all a vs) → spec_flat g k at (Some (many (kind_of a) made)) parts ≡ code_flat g at (Some (record { node = node; parts = Many a })) parts
many_row g k a at made node parts h =
    guarded (nat_le 2 (count parts)) _ _ (λ v. Ok (nodes_of k v)) (UnknownForm at) (λ e. many_plain (all_mean g (kind_of a) parts) made (nodes_of_all a) (nodes_of k) (option_to_list node) (λ vs w. h vs (all_count g (kind_of a) parts vs w)) ∙ ap (joined (Ok (option_to_list node))) (sym (copies_flat g a parts))) ∙ fitted g at (record { node = node; parts = Many a }) parts (nat_le 2 (count parts))
