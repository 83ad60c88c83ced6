-- Nodes of lists of trees, and what the open lists say of them.
use Rattle.std.proofs.Common.{arith, ◌≡◌, ℕ, ◌+◌, ◌-◌, ◌<◌, ◌≤◌, List, [], ◌∷◌, ◌++◌, length, reverse, get_or, set, refl, sym, ap, subst, ◌∙◌, append_assoc, length-append}
use Rattle.std.proofs.lemmas.List.{reverse-append, append-nil}
use Rattle.std.proofs.Math.Seq.{set-append_seam}
use Rattle.qs_sexpr.specs.Trees.{Sexp, number, symbol, list, count, node, sexp_nodes}
use Rattle.qs_sexpr.specs.Scan.{Layer, parts_of}
use Rattle.std.proofs.Common.{true}
use Rattle.qs_sexpr.specs.Readers.{front, opens, nodes_of, Closes}
use Rattle.qs_sexpr.specs.declared.reader.Reader.{Reader}
use Rattle.qs_sexpr.specs.declared.node.Node.{Node}
use Rattle.qs_sexpr.specs.declared.node.Item.TheVariants as items
use Rattle.qs_sexpr.specs.declared.reader.OpenList.{OpenList}

pub nodes_of-append : (ss ts : List Sexp) → nodes_of (ss ++ ts) ≡ nodes_of ss ++ nodes_of ts
nodes_of-append [] ts = refl
nodes_of-append (s ∷ ss) ts = ap (λ (ns : List Node). sexp_nodes s ++ ns) (nodes_of-append ss ts) ∙ sym (append_assoc (sexp_nodes s) (nodes_of ss) (nodes_of ts))

pub nodes_of-last : (ss : List Sexp) (s : Sexp) → nodes_of (ss ++ s ∷ []) ≡ nodes_of ss ++ sexp_nodes s
nodes_of-last ss s = nodes_of-append ss (s ∷ []) ∙ ap (λ (ns : List Node). nodes_of ss ++ ns) (append-nil (sexp_nodes s))

pub count-parts_of : (ss : List Sexp) → count (parts_of ss) ≡ length ss
count-parts_of [] = refl
count-parts_of (s ∷ ss) = let e = count-parts_of ss in omega (arith, e)

some_nodes : (s : Sexp) → 1 ≤ length (sexp_nodes s)
some_nodes (number at value) = omega arith
some_nodes (symbol at bytes) = omega arith
some_nodes (list at parts) = omega arith

pub few_parts : (ss : List Sexp) → length ss ≤ length (nodes_of ss)
few_parts [] = omega arith
few_parts (s ∷ ss) =
    let h = few_parts ss in
    let l = length-append (sexp_nodes s) (nodes_of ss) in
    let k = some_nodes s in
    omega (arith, h, l, k)

pub length-opens : (outer : List Layer) → length (opens outer) ≡ length outer
length-opens [] = refl
length-opens (layer ∷ outer) = let e = length-opens outer in omega (arith, e)

pub get_or-seam : (xs : List Node) (y : Node) (ys : List Node) (d : Node) → get_or (xs ++ y ∷ ys) (length xs) d ≡ y
get_or-seam [] y ys d = refl
get_or-seam (x ∷ xs) y ys d = get_or-seam xs y ys d

abbrev first : OpenList → List OpenList → OpenList
first d [] = d
first d (x ∷ xs) = x

abbrev others : List OpenList → List OpenList
others [] = []
others (x ∷ xs) = xs

-- the innermost list ends
pub record Ends (layer : Layer) (outer : List Layer) (done : List Sexp) (nodes : List Node) (open_list : OpenList) (left : List OpenList) : Type 0 where
  pub within : open_list.node < length nodes
  pub small : open_list.parts ≤ open_list.node
  pub place : (d : Node) → get_or nodes open_list.node d ≡ node layer.place (items.List 0 0)
  pub closed : set nodes open_list.node (node layer.place (items.List (length done) (length nodes - open_list.node - 1))) ≡ front outer ++ nodes_of (layer.before ++ list layer.place (parts_of done) ∷ [])
  pub left_are : reverse left ≡ opens outer
  pub parts_are : open_list.parts + 1 ≡ length (layer.before ++ list layer.place (parts_of done) ∷ [])

abbrev pub EndsIn : List Layer → List Sexp → List Node → OpenList → List OpenList → Type 0
EndsIn [] done nodes o left = ⊥
EndsIn (layer ∷ outer) done nodes o left = Ends layer outer done nodes o left

closed_at : (b : List Node) (place p s : ℕ) (inner : List Node) → p ≡ s → set (b ++ node place (items.List 0 0) ∷ inner) (length b) (node place (items.List s (length (b ++ node place (items.List 0 0) ∷ inner) - length b - 1))) ≡ b ++ node place (items.List p (length inner)) ∷ inner
closed_at b place p s inner e =
    let k : length (b ++ node place (items.List 0 0) ∷ inner) - length b - 1 ≡ length inner = let l = length-append b (node place (items.List 0 0) ∷ inner) in omega (arith, l) in
    set-append_seam b (node place (items.List 0 0)) inner (node place (items.List s (length (b ++ node place (items.List 0 0) ∷ inner) - length b - 1))) ∙ (λ i. b ++ node place (items.List (sym e i) (k i)) ∷ inner)

whole : (layer : Layer) (outer : List Layer) (done : List Sexp) → front outer ++ nodes_of (layer.before ++ list layer.place (parts_of done) ∷ []) ≡ (front outer ++ nodes_of layer.before) ++ node layer.place (items.List (count (parts_of done)) (length (nodes_of done))) ∷ nodes_of done
whole layer outer done =
    ap (λ (ns : List Node). front outer ++ ns) (nodes_of-last layer.before (list layer.place (parts_of done))) ∙ sym (append_assoc (front outer) (nodes_of layer.before) (sexp_nodes (list layer.place (parts_of done))))

ends_at : (layer : Layer) (outer : List Layer) (done : List Sexp) (o : OpenList) (left : List OpenList) → o ≡ record { node = length (front outer ++ nodes_of layer.before); parts = length layer.before } → reverse left ≡ opens outer → Ends layer outer done (front (layer ∷ outer) ++ nodes_of done) o left
ends_at layer outer done o left e f =
    let b : List Node = front outer ++ nodes_of layer.before in
    let ph : Node = node layer.place (items.List 0 0) in
    let seam : (b ++ ph ∷ []) ++ nodes_of done ≡ b ++ ph ∷ nodes_of done = append_assoc b (ph ∷ []) (nodes_of done) in
    let at : o.node ≡ length b = ap (λ (q : OpenList). q.node) e in
    let ps : o.parts ≡ length layer.before = ap (λ (q : OpenList). q.parts) e in
    let few = few_parts layer.before in
    let lb = length-append (front outer) (nodes_of layer.before) in
    let ls = length-append b (ph ∷ nodes_of done) in
    let lw : length ((b ++ ph ∷ []) ++ nodes_of done) ≡ length (b ++ ph ∷ nodes_of done) = ap (λ (ns : List Node). length ns) seam in
    let ll = length-append layer.before (list layer.place (parts_of done) ∷ []) in
    record {
      within = omega (arith, at, lw, ls);
      small = omega (arith, at, ps, few, lb);
      place = λ d. (λ i. get_or (seam i) (at i) d) ∙ get_or-seam b ph (nodes_of done) d;
      closed = (λ i. set (seam i) (at i) (node layer.place (items.List (length done) (length (seam i) - at i - 1)))) ∙ (closed_at b layer.place (count (parts_of done)) (length done) (nodes_of done) (count-parts_of done) ∙ sym (whole layer outer done));
      left_are = f;
      parts_are = omega (arith, ps, ll);
    }

ends_from : (outer : List Layer) (done : List Sexp) (o : OpenList) (left : List OpenList) → o ∷ reverse left ≡ opens outer → EndsIn outer done (front outer ++ nodes_of done) o left
ends_from [] done o left h = absurd (let l : length (o ∷ reverse left) ≡ 0 = ap (λ (xs : List OpenList). length xs) h in omega (arith, l))
ends_from (layer ∷ outer) done o left h = ends_at layer outer done o left (ap (first o) h) (ap others h)

pub ends : (outer : List Layer) (done : List Sexp) (nodes : List Node) (lists left : List OpenList) (o : OpenList) → nodes ≡ front outer ++ nodes_of done → reverse lists ≡ opens outer → lists ≡ left ++ o ∷ [] → EndsIn outer done nodes o left
ends outer done nodes lists left o n l p =
    let P : List Node → Type 0 = λ ns. EndsIn outer done ns o left in
    subst P (sym n) (ends_from outer done o left (sym (reverse-append left (o ∷ [])) ∙ (ap (λ (xs : List OpenList). reverse xs) (sym p) ∙ l)))

within_in : (outer : List Layer) (done : List Sexp) (nodes : List Node) (o : OpenList) (left : List OpenList) → EndsIn outer done nodes o left → (o.node < length nodes) × (o.parts ≤ o.node)
within_in [] done nodes o left h = absurd h
within_in (layer ∷ outer) done nodes o left h = (h.within, h.small)

pub within : (outer : List Layer) (done : List Sexp) (nodes : List Node) (lists left : List OpenList) (o : OpenList) → nodes ≡ front outer ++ nodes_of done → reverse lists ≡ opens outer → lists ≡ left ++ o ∷ [] → (o.node < length nodes) × (o.parts ≤ o.node)
within outer done nodes lists left o n l p = within_in outer done nodes o left (ends outer done nodes lists left o n l p)

pub closes : (outer : List Layer) (done : List Sexp) (nodes : List Node) (o : OpenList) (left : List OpenList) (now : Reader) (at p n : ℕ) (d : Node) → EndsIn outer done nodes o left → now.nodes.items ≡ set nodes o.node (node at (items.List p (n - o.node - 1))) → p ≡ length done → n ≡ length nodes → at ≡ (get_or nodes o.node d).at → now.lists.items ≡ left → now.parts ≡ o.parts + 1 → Closes outer done now true
closes [] done nodes o left now at p n d h ns e f g l q = absurd h
closes (layer ∷ outer) done nodes o left now at p n d h ns e f g l q = (
  refl,
  record {
    nodes_are = ns ∙ ((λ i. set nodes o.node (node ((g ∙ ap (λ (x : Node). x.at) (h.place d)) i) (items.List (e i) (f i - o.node - 1)))) ∙ h.closed);
    lists_are = ap (λ (xs : List OpenList). reverse xs) l ∙ h.left_are;
    parts_are = q ∙ h.parts_are;
  },
)

pub few_nodes : (outer : List Layer) (done : List Sexp) → length done ≤ length (front outer ++ nodes_of done)
few_nodes outer done = let f = few_parts done in let l = length-append (front outer) (nodes_of done) in omega (arith, f, l)

pub put_last : (outer : List Layer) (done : List Sexp) (nodes : List Node) (s : Sexp) → nodes ≡ front outer ++ nodes_of done → nodes ++ sexp_nodes s ≡ front outer ++ nodes_of (done ++ s ∷ [])
put_last outer done nodes s e =
    ap (λ (ns : List Node). ns ++ sexp_nodes s) e ∙ (append_assoc (front outer) (nodes_of done) (sexp_nodes s) ∙ ap (λ (ns : List Node). front outer ++ ns) (sym (nodes_of-last done s)))
