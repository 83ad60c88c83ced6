-- Which list or atom has these nodes.
use Rattle.std.proofs.Common.{arith, ◌≡◌, ◌<◌, ℕ, ℤ, List, [], ◌∷◌, ◌++◌, length, get_or, take, drop, sym, ap, ◌∙◌, subst, length-append}
use Rattle.std.proofs.Math.Seq.{drop-append_seam}
use Rattle.qs_sexpr.specs.Trees.{Sexp, number, symbol, list, Sexps, no_parts, part_and, node, sexp_nodes, sexps_nodes, count}
use Rattle.qs_sexpr.specs.declared.node.Item.{Item}
use Rattle.qs_sexpr.specs.declared.node.Node.{Node}
use Rattle.qs_sexpr.specs.declared.node.Item.TheVariants as items
use Rattle.qs_sexpr.specs.Parts.{Splits}
use Rattle.qs_prooftext_assertions.specs.Answers.{Stands, StandAll, IsList, IsHeaded}

-- nothing has no nodes
pub none_at : {P : Type 0} (text : List ℕ) (nodes : List Node) (s : Sexp) → Stands text nodes s → length nodes ≡ 0 → P
none_at text nodes (number at v) h e = absurd (let l = ap (λ (xs : List Node). length xs) h.nodes_are in omega (arith, l, e))
none_at text nodes (symbol at w) h e = absurd (let l = ap (λ (xs : List Node). length xs) h.nodes_are in omega (arith, l, e))
none_at text nodes (list at parts) h e = absurd (let l = ap (λ (xs : List Node). length xs) h.nodes_are in omega (arith, l, e))

first_is : (nodes : List Node) (d x : Node) (xs : List Node) → nodes ≡ x ∷ xs → get_or nodes 0 d ≡ x
first_is nodes d x xs e = ap (λ (ys : List Node). get_or ys 0 d) e

item_is : (nodes : List Node) (d x : Node) (xs : List Node) (item : Item) → nodes ≡ x ∷ xs → (get_or nodes 0 d).item ≡ item → x.item ≡ item
item_is nodes d x xs item e f = sym (ap (λ (y : Node). y.item) (first_is nodes d x xs e)) ∙ f

pub number_at : (text : List ℕ) (nodes : List Node) (s : Sexp) (d : Node) (n : ℤ) → Stands text nodes s → (get_or nodes 0 d).item ≡ items.Number n → s ≡ number (get_or nodes 0 d).at n
number_at text nodes (number at v) d n h e =
    let q : items.Number v ≡ items.Number n = item_is nodes d _ _ _ h.nodes_are e in
    let r : v ≡ n = cc in
    let p : get_or nodes 0 d ≡ node at (items.Number v) = first_is nodes d _ _ h.nodes_are in
    λ i. number (sym p i).at (r i)
number_at text nodes (symbol at w) d n h e =
    absurd (let q : items.Symbol (length w) ≡ items.Number n = item_is nodes d _ _ _ h.nodes_are e in cc)
number_at text nodes (list at parts) d n h e =
    absurd (let q : items.List (count parts) (length (sexps_nodes parts)) ≡ items.Number n = item_is nodes d _ _ _ h.nodes_are e in cc)

pub symbol_at : (text : List ℕ) (nodes : List Node) (s : Sexp) (d : Node) (n : ℕ) (w : List ℕ) → Stands text nodes s → (get_or nodes 0 d).item ≡ items.Symbol n → w ≡ take n (drop (get_or nodes 0 d).at text) → s ≡ symbol (get_or nodes 0 d).at w
symbol_at text nodes (number at v) d n w h e f =
    absurd (let q : items.Number v ≡ items.Symbol n = item_is nodes d _ _ _ h.nodes_are e in cc)
symbol_at text nodes (symbol at v) d n w h e f =
    let q : items.Symbol (length v) ≡ items.Symbol n = item_is nodes d _ _ _ h.nodes_are e in
    let r : length v ≡ n = cc in
    let p : get_or nodes 0 d ≡ node at (items.Symbol (length v)) = first_is nodes d _ _ h.nodes_are in
    let s : v ≡ w = sym h.lies.1 ∙ ((λ i. take (r i) (drop (sym p i).at text)) ∙ sym f) in
    λ i. symbol (sym p i).at (s i)
symbol_at text nodes (list at parts) d n w h e f =
    absurd (let q : items.List (count parts) (length (sexps_nodes parts)) ≡ items.Symbol n = item_is nodes d _ _ _ h.nodes_are e in cc)

pub list_at : (text : List ℕ) (nodes : List Node) (s : Sexp) (d : Node) (n size : ℕ) (inner : List Node) → Stands text nodes s → (get_or nodes 0 d).item ≡ items.List n size → ((at : ℕ) → (parts : Sexps) → nodes ≡ sexp_nodes (list at parts) → inner ≡ sexps_nodes parts) → IsList text s (get_or nodes 0 d).at n inner
list_at text nodes (number at v) d n size inner h e f =
    absurd (let q : items.Number v ≡ items.List n size = item_is nodes d _ _ _ h.nodes_are e in cc)
list_at text nodes (symbol at v) d n size inner h e f =
    absurd (let q : items.Symbol (length v) ≡ items.List n size = item_is nodes d _ _ _ h.nodes_are e in cc)
list_at text nodes (list at parts) d n size inner h e f =
    let q : items.List (count parts) (length (sexps_nodes parts)) ≡ items.List n size = item_is nodes d _ _ _ h.nodes_are e in
    let r : count parts ≡ n = cc in
    record {
      parts = parts;
      same = ap (λ (x : Node). list x.at parts) (sym (first_is nodes d _ _ h.nodes_are));
      counts = sym r;
      stand = record { nodes_are = f at parts h.nodes_are; lie = h.lies.1 };
    }

-- ---- the first part

pub first_stands : (text : List ℕ) (nodes : List Node) (s : Sexp) (ss : Sexps) (first others : List Node) → StandAll text nodes (part_and s ss) → Splits nodes first others → Stands text first s
first_stands text nodes s ss first others h p = record { nodes_are = p.part s ss h.nodes_are; lies = h.lie.0 }

pub others_stand : (text : List ℕ) (nodes : List Node) (s : Sexp) (ss : Sexps) (first others : List Node) → StandAll text nodes (part_and s ss) → Splits nodes first others → StandAll text others ss
others_stand text nodes s ss first others h p = record { nodes_are = p.others_are s ss h.nodes_are; lie = h.lie.1 }

pub no_split : {P : Type 0} (text : List ℕ) (nodes first others : List Node) → StandAll text nodes no_parts → Splits nodes first others → P
no_split text nodes first others h p =
    absurd (let l = ap (λ (xs : List Node). length xs) (sym h.nodes_are ∙ p.whole) in let m = length-append first others in let k = p.some in omega (arith, l, m, k))

pub some_nodes : (s : Sexp) → 0 < length (sexp_nodes s)
some_nodes (number at v) = omega arith
some_nodes (symbol at w) = omega arith
some_nodes (list at parts) = omega arith

pub no_first : {P : Type 0} (text : List ℕ) (nodes : List Node) (s : Sexp) (ss : Sexps) → StandAll text nodes (part_and s ss) → nodes ≡ [] → P
no_first text nodes s ss h e =
    absurd (let l = ap (λ (xs : List Node). length xs) (sym e ∙ h.nodes_are) in let m = length-append (sexp_nodes s) (sexps_nodes ss) in let k = some_nodes s in omega (arith, l, m, k))

pub front : (n : ℕ) (first others : List Node) → length first ≡ n → drop n (first ++ others) ≡ others
front n first others e = ap (λ (m : ℕ). drop m (first ++ others)) (sym e) ∙ drop-append_seam first others

pub head_is : (text : List ℕ) (nodes : List Node) (ss : Sexps) (first others : List Node) (at : ℕ) (w : List ℕ) → StandAll text nodes ss → Splits nodes first others → ((s : Sexp) → Stands text first s → s ≡ symbol at w) → IsHeaded text ss w others
head_is text nodes no_parts first others at w h p e = no_split text nodes first others h p
head_is text nodes (part_and s ss) first others at w h p e = record {
  place = at;
  parts = ss;
  same = ap (λ (x : Sexp). part_and x ss) (e s (first_stands text nodes s ss first others h p));
  stand = others_stand text nodes s ss first others h p;
}

-- ---- the second of two parts

pub second_stands : (text : List ℕ) (nodes : List Node) (ss : Sexps) (p q : Sexp) (first others second behind : List Node) → StandAll text nodes ss → ss ≡ part_and p (part_and q no_parts) → Splits nodes first others → Splits others second behind → Stands text second q
second_stands text nodes ss p q first others second behind h e f s =
    let k : StandAll text nodes (part_and p (part_and q no_parts)) = subst (λ (xs : Sexps). StandAll text nodes xs) e h in
    first_stands text others q no_parts second behind (others_stand text nodes p (part_and q no_parts) first others k f) s

pub no_second : {P : Type 0} (text : List ℕ) (nodes : List Node) (ss : Sexps) (p q : Sexp) (first others : List Node) → StandAll text nodes ss → ss ≡ part_and p (part_and q no_parts) → Splits nodes first others → others ≡ [] → P
no_second text nodes ss p q first others h e f s =
    let k : StandAll text nodes (part_and p (part_and q no_parts)) = subst (λ (xs : Sexps). StandAll text nodes xs) e h in
    no_first text others q no_parts (others_stand text nodes p (part_and q no_parts) first others k f) s
