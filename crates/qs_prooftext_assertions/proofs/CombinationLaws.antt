-- What combinations and their items mean.
use Rattle.std.proofs.Common.{arith, ◌≡◌, ◌⊎◌, inl, inr, ℕ, List, [], ◌∷◌, ◌++◌, Result, Ok, Err, refl, sym, ap, ◌∙◌, subst, append_assoc, Vec, Global}
use Rattle.std.proofs.lemmas.List.{map-append}
use Rattle.qs_base.specs.Results.{bind}
use Rattle.qs_entail.specs.Certificates.{Item, once, twice}
use Rattle.qs_entail.specs.View.{item_view, items_view}
use Rattle.qs_entail.specs.declared.item.Item as code
use Rattle.qs_sexpr.specs.Parts.{Splits}
use Rattle.qs_sexpr.specs.Trees.{Sexp, list, Sexps, no_parts, part_and, count}
use Rattle.qs_sexpr.specs.declared.node.Node.{Node}
use Rattle.qs_prooftext_meaning.specs.declared.fault.TextFault.{TextFault}
use Rattle.qs_prooftext_meaning.specs.declared.fault.TextFault.TheVariants.{NoMemory}
use Rattle.qs_prooftext_assertions.specs.Answers.{Gives, Stands, StandAll, IsList}
use Rattle.qs_prooftext_assertions.specs.Firsts.{once_means, twice_means, ItemsLeft}
use Rattle.qs_prooftext_meaning.specs.Kinds.{a_combination, a_natural, an_index, an_item}
use Rattle.qs_prooftext_meaning.specs.Meanings.{Answer, means, all_mean}
use Rattle.qs_prooftext_meaning.specs.Settings.{Setting}
use Rattle.qs_prooftext_assertions.proofs.PartLaws.{first_stands, others_stand, no_split}

-- ---- items

two_bound : {A B C : Type 0} (x : Answer A) (y : Answer B) (made : A → B → C) → bind (bind x (λ v. bind (bind y (λ u. Ok (u, tt))) (λ vs. Ok (v, vs)))) (λ (v : A × (B × Unit {0})). Ok (made v.0 v.1.0)) ≡ bind x (λ p. bind y (λ q. Ok (made p q)))
two_bound (Err f) y made = refl
two_bound (Ok p) (Err f) made = refl
two_bound (Ok p) (Ok q) made = refl

three_bound : {A B C D : Type 0} (x : Answer A) (y : Answer B) (z : Answer C) (made : A → B → C → D) → bind (bind x (λ v. bind (bind y (λ u. bind (bind z (λ t. Ok (t, tt))) (λ vs. Ok (u, vs)))) (λ vs. Ok (v, vs)))) (λ (v : A × (B × (C × Unit {0}))). Ok (made v.0 v.1.0 v.1.1.0)) ≡ bind x (λ p. bind y (λ q. bind z (λ r. Ok (made p q r))))
three_bound (Err f) y z made = refl
three_bound (Ok p) (Err f) z made = refl
three_bound (Ok p) (Ok q) (Err f) made = refl
three_bound (Ok p) (Ok q) (Ok r) made = refl

once_is : (g : Setting) (at : ℕ) (ss : Sexps) → count ss ≡ 2 → means g an_item (list at ss) ≡ once_means g ss
once_is g at no_parts e = absurd (omega (arith, e))
once_is g at (part_and p no_parts) e = absurd (omega (arith, e))
once_is g at (part_and p (part_and q no_parts)) e = two_bound (means g a_natural p) (means g an_index q) once
once_is g at (part_and p (part_and q (part_and r ss))) e = absurd (omega (arith, e))

twice_is : (g : Setting) (at : ℕ) (ss : Sexps) → count ss ≡ 3 → means g an_item (list at ss) ≡ twice_means g ss
twice_is g at no_parts e = absurd (omega (arith, e))
twice_is g at (part_and p no_parts) e = absurd (omega (arith, e))
twice_is g at (part_and p (part_and q no_parts)) e = absurd (omega (arith, e))
twice_is g at (part_and p (part_and q (part_and r no_parts))) e =
    three_bound (means g a_natural p) (means g an_index q) (means g an_index r) twice
twice_is g at (part_and p (part_and q (part_and r (part_and s ss)))) e = absurd (omega (arith, e))

pub once_gives : (g : Setting) (text : List ℕ) (s : Sexp) (at n : ℕ) (nodes : List Node) (r : Result code.Item TextFault) (p : IsList text s at n nodes) → n ≡ 2 → Gives item_view (once_means g p.parts) r → Gives item_view (means g an_item s) r
once_gives g text s at n nodes r p e h =
    let P : Answer Item → Type 0 = λ a. Gives item_view a r in
    subst P (sym (ap (means g an_item) p.same ∙ once_is g at p.parts (sym p.counts ∙ e))) h

pub twice_gives : (g : Setting) (text : List ℕ) (s : Sexp) (at n : ℕ) (nodes : List Node) (r : Result code.Item TextFault) (p : IsList text s at n nodes) → n ≡ 3 → Gives item_view (twice_means g p.parts) r → Gives item_view (means g an_item s) r
twice_gives g text s at n nodes r p e h =
    let P : Answer Item → Type 0 = λ a. Gives item_view a r in
    subst P (sym (ap (means g an_item) p.same ∙ twice_is g at p.parts (sym p.counts ∙ e))) h

-- ---- lists of items

bound-ok : {A : Type 0} (x : Answer (List A)) → bind x (λ vs. Ok vs) ≡ x
bound-ok (Err f) = refl
bound-ok (Ok vs) = refl

one_more : (x : Answer Item) (y : Answer (List Item)) (items : List Item) (item : Item) → x ≡ Ok item → bind (bind x (λ v. bind y (λ vs. Ok (v ∷ vs)))) (λ vs. Ok (items ++ vs)) ≡ bind y (λ vs. Ok ((items ++ item ∷ []) ++ vs))
one_more x (Err f) items item e = λ i. bind (bind (e i) (λ v. Err f)) (λ vs. Ok (items ++ vs))
one_more x (Ok vs) items item e =
    (λ i. bind (bind (e i) (λ v. Ok (v ∷ vs))) (λ ws. Ok (items ++ ws))) ∙ ap (λ (ws : List Item). Ok ws) (sym (append_assoc items (item ∷ []) vs))

items_in : (g : Setting) (text : List ℕ) (rest first others : List Node) (items : List Item) (item : Item) (due : Answer (List Item)) (forest : Sexps) → StandAll text rest forest → bind (all_mean g an_item forest) (λ vs. Ok (items ++ vs)) ≡ due → Splits rest first others → ((s : Sexp) → Stands text first s → means g an_item s ≡ Ok item) → ItemsLeft g text others (items ++ item ∷ []) due
items_in g text rest first others items item due no_parts h e p f = no_split text rest first others h p
items_in g text rest first others items item due (part_and s ss) h e p f = record {
  forest = ss;
  stand = others_stand text rest s ss first others h p;
  same = sym (one_more (means g an_item s) (all_mean g an_item ss) items item (f s (first_stands text rest s ss first others h p))) ∙ e;
}

pub items_go : (g : Setting) (text : List ℕ) (rest first others : List Node) (items items_now : List code.Item) (item : code.Item) (due : Answer (List Item)) → ItemsLeft g text rest (items_view items) due → Splits rest first others → ((s : Sexp) → Stands text first s → means g an_item s ≡ Ok (item_view item)) → items_now ≡ items ++ item ∷ [] → ItemsLeft g text others (items_view items_now) due
items_go g text rest first others items items_now item due l p f e =
    let q : items_view items ++ item_view item ∷ [] ≡ items_view items_now = sym (ap items_view e ∙ map-append item_view items (item ∷ [])) in
    subst (λ (vs : List Item). ItemsLeft g text others vs due) q (items_in g text rest first others (items_view items) (item_view item) due l.forest l.stand l.same p f)

stopped : (x : Answer Item) (y : Answer (List Item)) (items : List Item) (fault : TextFault) (due : Answer (List Item)) → bind (bind x (λ v. bind y (λ vs. Ok (v ∷ vs)))) (λ vs. Ok (items ++ vs)) ≡ due → (x ≡ Err fault) ⊎ (fault ≡ NoMemory) → (due ≡ Err fault) ⊎ (fault ≡ NoMemory)
stopped x y items fault due e (inl h) = inl (sym e ∙ (λ i. bind (bind (h i) (λ v. bind y (λ vs. Ok (v ∷ vs)))) (λ vs. Ok (items ++ vs))))
stopped x y items fault due e (inr h) = inr h

items_fault_in : (g : Setting) (text : List ℕ) (rest first others : List Node) (items : List Item) (fault : TextFault) (due : Answer (List Item)) (forest : Sexps) → StandAll text rest forest → bind (all_mean g an_item forest) (λ vs. Ok (items ++ vs)) ≡ due → Splits rest first others → ((s : Sexp) → Stands text first s → (means g an_item s ≡ Err fault) ⊎ (fault ≡ NoMemory)) → (due ≡ Err fault) ⊎ (fault ≡ NoMemory)
items_fault_in g text rest first others items fault due no_parts h e p f = no_split text rest first others h p
items_fault_in g text rest first others items fault due (part_and s ss) h e p f =
    stopped (means g an_item s) (all_mean g an_item ss) items fault due e (f s (first_stands text rest s ss first others h p))

pub items_stop : (g : Setting) (text : List ℕ) (rest first others : List Node) (items : List Item) (fault : TextFault) (due : Answer (List Item)) → ItemsLeft g text rest items due → Splits rest first others → ((s : Sexp) → Stands text first s → (means g an_item s ≡ Err fault) ⊎ (fault ≡ NoMemory)) → (due ≡ Err fault) ⊎ (fault ≡ NoMemory)
items_stop g text rest first others items fault due l p f =
    items_fault_in g text rest first others items fault due l.forest l.stand l.same p f

pub combination_is : (g : Setting) (text : List ℕ) (s : Sexp) (at n : ℕ) (nodes : List Node) (p : IsList text s at n nodes) → means g a_combination s ≡ all_mean g an_item p.parts
combination_is g text s at n nodes p = ap (means g a_combination) p.same ∙ bound-ok (all_mean g an_item p.parts)

pub combination_gives : (g : Setting) (text : List ℕ) (s : Sexp) (at n : ℕ) (nodes : List Node) (r : Result (Vec code.Item Global) TextFault) (p : IsList text s at n nodes) → Gives (λ items. items_view items.items) (all_mean g an_item p.parts) r → Gives (λ items. items_view items.items) (means g a_combination s) r
combination_gives g text s at n nodes r p h =
    let P : Answer (List Item) → Type 0 = λ a. Gives (λ (items : Vec code.Item Global). items_view items.items) a r in
    subst P (sym (combination_is g text s at n nodes p)) h
