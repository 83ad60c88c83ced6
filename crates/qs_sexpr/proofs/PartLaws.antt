-- Where the nodes of a list or atom end.
use Rattle.std.proofs.Common.{arith, ◌≡◌, ℕ, ◌<◌, ◌≤◌, min, List, [], ◌∷◌, ◌++◌, length, take, drop, sym, ap, ◌∙◌, length-append}
use Rattle.std.proofs.lemmas.List.{length-take, take-append-drop}
use Rattle.std.proofs.Math.Seq.{take-append_seam, drop-append_seam}
use Rattle.qs_sexpr.specs.Parts.{Splits, tree_length}
use Rattle.qs_sexpr.specs.Trees.{Sexp, number, symbol, list, Sexps, part_and, sexp_nodes, sexps_nodes}
use Rattle.qs_sexpr.specs.declared.node.Node.{Node}

min_left : (n m : ℕ) → n ≤ m → min n m ≡ n
min_left n m h = grind (arith, h)

tree_ends : (part : Sexp) (others : List Node) → tree_length (sexp_nodes part ++ others) ≡ length (sexp_nodes part)
tree_ends (number at value) others = let m = min_left 0 (length others) (omega arith) in omega (arith, m)
tree_ends (symbol at bytes) others = let m = min_left 0 (length others) (omega arith) in omega (arith, m)
tree_ends (list at parts) others =
    let l = length-append (sexps_nodes parts) others in
    let m = min_left (length (sexps_nodes parts)) (length (sexps_nodes parts ++ others)) (omega (arith, l)) in
    omega (arith, m)

pub part_ends : (nodes : List Node) (part : Sexp) (parts : Sexps) → nodes ≡ sexps_nodes (part_and part parts) → take (tree_length nodes) nodes ≡ sexp_nodes part
part_ends nodes part parts e =
    ap (λ (ns : List Node). take (tree_length ns) ns) e ∙ (ap (λ (n : ℕ). take n (sexp_nodes part ++ sexps_nodes parts)) (tree_ends part (sexps_nodes parts)) ∙ take-append_seam (sexp_nodes part) (sexps_nodes parts))

pub others_follow : (nodes : List Node) (part : Sexp) (parts : Sexps) → nodes ≡ sexps_nodes (part_and part parts) → drop (tree_length nodes) nodes ≡ sexps_nodes parts
others_follow nodes part parts e =
    ap (λ (ns : List Node). drop (tree_length ns) ns) e ∙ (ap (λ (n : ℕ). drop n (sexp_nodes part ++ sexps_nodes parts)) (tree_ends part (sexps_nodes parts)) ∙ drop-append_seam (sexp_nodes part) (sexps_nodes parts))

length_of_some : (node : Node) (nodes : List Node) → 0 < length (take (tree_length (node ∷ nodes)) (node ∷ nodes))
length_of_some node nodes =
    let t = length-take (tree_length (node ∷ nodes)) (node ∷ nodes) in
    omega (arith, t)

some : (nodes : List Node) → 0 < length nodes → 0 < length (take (tree_length nodes) nodes)
some [] h = absurd (omega (arith, h))
some (node ∷ nodes) h = length_of_some node nodes

pub splits : (nodes : List Node) → 0 < length nodes → Splits nodes (take (tree_length nodes) nodes) (drop (tree_length nodes) nodes)
splits nodes h = record {
  whole = sym (take-append-drop (tree_length nodes) nodes);
  some = some nodes h;
  part = λ part parts e. part_ends nodes part parts e;
  others_are = λ part parts e. others_follow nodes part parts e;
}
