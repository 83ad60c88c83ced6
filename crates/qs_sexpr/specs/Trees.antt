-- Lists and atoms as trees, each with the number of its first byte, and the nodes of a tree.
use Rattle.std.specs.Prelude.{ℕ, ◌+◌, ℤ, List, [], ◌∷◌, ◌++◌, length}
use Rattle.qs_sexpr.specs.declared.node.Node.{Node}
use Rattle.qs_sexpr.specs.declared.node.Item.{Item}
use Rattle.qs_sexpr.specs.declared.node.Item.TheVariants as items

-- a number, a symbol with its bytes, or a list with its parts
mutual
  pub data Sexp : Type 0 where
    number : (at : ℕ) → (value : ℤ) → Sexp
    symbol : (at : ℕ) → (bytes : List ℕ) → Sexp
    list : (at : ℕ) → (parts : Sexps) → Sexp

  pub data Sexps : Type 0 where
    no_parts : Sexps
    part_and : Sexp → Sexps → Sexps

abbrev pub count : Sexps → ℕ
count no_parts = 0
count (part_and part parts) = count parts + 1

abbrev pub node : ℕ → Item → Node
node at item = record { at = at; item = item }

-- each node stands before those of its parts
abbrev mutual
  pub sexp_nodes : Sexp → List Node
  sexp_nodes (number at value) = node at (items.Number value) ∷ []
  sexp_nodes (symbol at bytes) = node at (items.Symbol (length bytes)) ∷ []
  sexp_nodes (list at parts) = node at (items.List (count parts) (length (sexps_nodes parts))) ∷ sexps_nodes parts

  pub sexps_nodes : Sexps → List Node
  sexps_nodes no_parts = []
  sexps_nodes (part_and part parts) = sexp_nodes part ++ sexps_nodes parts
