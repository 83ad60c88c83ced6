-- Where the nodes of a list or atom end.
use Rattle.std.specs.Prelude.{◌≡◌, ℕ, ◌+◌, ◌<◌, min, List, [], ◌∷◌, ◌++◌, length}
use Rattle.std.specs.Borrow.{Bor}
use Rattle.qs_sexpr.specs.Trees.{Sexp, Sexps, list, part_and, sexp_nodes, sexps_nodes}
use Rattle.qs_sexpr.specs.declared.node.Item.{Item}
use Rattle.qs_sexpr.specs.declared.node.Item.TheVariants as items
use Rattle.qs_sexpr.specs.declared.node.Node.{Node}

-- how many nodes stand below an item
abbrev pub below : Item → ℕ
below (items.Number value) = 0
below (items.Symbol bytes) = 0
below (items.List parts nodes) = nodes

-- how many nodes the first list or atom has
abbrev pub tree_length : List Node → ℕ
tree_length [] = 0
tree_length (node ∷ nodes) = min (below node.item) (length nodes) + 1

-- nodes in two: at least one first; of nodes of parts, those of the first part and those of the others
pub record Splits (nodes first others : List Node) : Type 0 where
  pub whole : nodes ≡ first ++ others
  pub some : 0 < length first
  pub part : (part : Sexp) → (parts : Sexps) → nodes ≡ sexps_nodes (part_and part parts) → first ≡ sexp_nodes part
  pub others_are : (part : Sexp) → (parts : Sexps) → nodes ≡ sexps_nodes (part_and part parts) → others ≡ sexps_nodes parts

-- the same of the parts that a slice is split in
abbrev pub SplitsInto : List Node → Bor (List Node) × Bor (List Node) → Type 0
SplitsInto nodes split = Splits nodes split.0.now split.1.now

-- these are the nodes of the parts of the list that has those nodes
abbrev pub AreOfParts : List Node → List Node → Type 0
AreOfParts below nodes = (at : ℕ) → (parts : Sexps) → nodes ≡ sexp_nodes (list at parts) → below ≡ sexps_nodes parts
