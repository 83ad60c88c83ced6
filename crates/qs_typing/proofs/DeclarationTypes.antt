-- The types that declarations give, as they are built.
use Rattle.std.proofs.Common.{◌≡◌, ℕ, suc, ◌+◌, ◌-◌, ◌<◌, ◌≤◌, List, [], ◌∷◌, ◌++◌, Some, Box, rules, length, take, get_or, refl, sym, ap, ◌∙◌, arith}
use Rattle.std.proofs.lemmas.List.{take_more}
use Rattle.std.specs.declared.alloc.Global.{Global}
use Rattle.qs_syntax.specs.Trees.{list}
use Rattle.qs_syntax.specs.TreeOf.{initialisers_tree, list_tree}
use Rattle.qs_syntax.specs.declared.declarations.Initialiser.{Initialiser}
use Rattle.qs_syntax.specs.declared.declarations.InitialiserList.{InitialiserList, the_lemmas}
use Rattle.qs_types.specs.Types.{TypeTree, array}
use Rattle.qs_types.specs.TypeOf.{type_step, type_tree}
use Rattle.qs_types.specs.Declarations.{arrays, initialisers_count, length_by}
use Rattle.qs_types.specs.declared.types.CType.{CType, CType-F, Array, fold-roll-CType}
use Rattle.qs_types.specs.declared.types.CType.TheVariants.{rolls-Array}

-- ---- arrays

arrays_inner : (t : TypeTree) (ns : List ℕ) (n : ℕ) → arrays t (ns ++ n ∷ []) ≡ arrays (array t n) ns
arrays_inner t [] n = refl
arrays_inner t (m ∷ ns) n = ap (λ u. array u m) (arrays_inner t ns n)

arrays_more : (t : TypeTree) (ns : List ℕ) (i : ℕ) → i < length ns → arrays t (take (i + 1) ns) ≡ arrays (array t (get_or ns i 0)) (take i ns)
arrays_more t ns i h = ap (arrays t) (take_more ns i 0 h) ∙ arrays_inner t (take i ns) (get_or ns i 0)

array_of : (b : Box CType Global) (n : ℕ) → type_tree (Array b n) ≡ array (type_tree b.value) n
array_of b n = ap type_tree (sym (rolls-Array b n)) ∙ fold-roll-CType TypeTree type_step (CType-F.Array b n)

-- the last of the lengths is the innermost
pub arrays_step : (t : CType) (b : Box CType Global) (ns : List ℕ) (i : ℕ) → 0 < i → i ≤ length ns → b.value ≡ t
    → arrays (type_tree t) (take i ns) ≡ arrays (type_tree (Array b (get_or ns (i - 1) 0))) (take (i - 1) ns)
arrays_step t b ns i h k e =
    let m : i - 1 + 1 ≡ i = omega arith in
    ap (λ n. arrays (type_tree t) (take n ns)) (sym m)
    ∙ arrays_more (type_tree t) ns (i - 1) (omega arith)
    ∙ ap (λ u. arrays (array (type_tree u) (get_or ns (i - 1) 0)) (take (i - 1) ns)) (sym e)
    ∙ ap (λ u. arrays u (take (i - 1) ns)) (sym (array_of b (get_or ns (i - 1) 0)))

-- ---- the length that a list gives

pub count_of : (is : List Initialiser) → initialisers_count (initialisers_tree is) ≡ length is
count_of [] = refl
count_of (i ∷ is) = ap suc (count_of is)

list_of : (l : InitialiserList) → list_tree l ≡ list l.node (initialisers_tree l.items.items)
list_of l = search (rules, the_lemmas)

pub list_counts : (l : InitialiserList) → length_by (Some (list_tree l)) ≡ Some (length l.items.items)
list_counts l = ap (λ i. length_by (Some i)) (list_of l) ∙ ap Some (count_of l.items.items)
