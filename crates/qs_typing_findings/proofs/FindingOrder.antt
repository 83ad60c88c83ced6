-- What is found of the nodes of an expression stands in the order of their numbers.
use Rattle.std.proofs.Common.{◌≡◌, List, ◌∷◌, ◌++◌, map, refl, ap, ◌∙◌}
use Rattle.std.proofs.lemmas.List.{map-append}
use Rattle.qs_syntax.specs.Trees.{ExprTree, expr, ShapeTree, Exprs, no_exprs, expr_and}
use Rattle.qs_syntax.specs.Trees as trees
use Rattle.qs_syntax.specs.Nodes.{expr_nodes, shape_nodes, exprs_nodes}
use Rattle.qs_typing_findings.specs.ExprFindings.{node_of, of_nodes, of_parts, of_all}

two : {X : Type 0} (a b c d : List X) → a ≡ b → c ≡ d → a ++ c ≡ b ++ d
two a b c d p q = λ i. p i ++ q i

-- the nodes of an expression are those of which something is found, in the same order
mutual
  pub expr_aligned : (e : ExprTree) → expr_nodes e ≡ of_nodes node_of e
  expr_aligned (expr node shape) = ap (λ ns. node ∷ ns) (shape_aligned shape)

  pub shape_aligned : (shape : ShapeTree) → shape_nodes shape ≡ of_parts node_of shape
  shape_aligned (trees.constant n u) = refl
  shape_aligned (trees.text bytes) = refl
  shape_aligned (trees.name x) = refl
  shape_aligned (trees.unary operator a) = expr_aligned a
  shape_aligned (trees.step operator a) = expr_aligned a
  shape_aligned (trees.cast n a) = expr_aligned a
  shape_aligned (trees.sizeof_type n) = refl
  shape_aligned (trees.sizeof_expr a) = expr_aligned a
  shape_aligned (trees.binary operator a b) = two (expr_nodes a) (of_nodes node_of a) (expr_nodes b) (of_nodes node_of b) (expr_aligned a) (expr_aligned b)
  shape_aligned (trees.assign operator a b) = two (expr_nodes a) (of_nodes node_of a) (expr_nodes b) (of_nodes node_of b) (expr_aligned a) (expr_aligned b)
  shape_aligned (trees.conditional d a b) =
      two (expr_nodes d) (of_nodes node_of d) (expr_nodes a ++ expr_nodes b) (of_nodes node_of a ++ of_nodes node_of b) (expr_aligned d)
      (two (expr_nodes a) (of_nodes node_of a) (expr_nodes b) (of_nodes node_of b) (expr_aligned a) (expr_aligned b))
  shape_aligned (trees.comma a b) = two (expr_nodes a) (of_nodes node_of a) (expr_nodes b) (of_nodes node_of b) (expr_aligned a) (expr_aligned b)
  shape_aligned (trees.subscript a b) = two (expr_nodes a) (of_nodes node_of a) (expr_nodes b) (of_nodes node_of b) (expr_aligned a) (expr_aligned b)
  shape_aligned (trees.member access a x) = expr_aligned a
  shape_aligned (trees.call f es) = exprs_aligned es

  pub exprs_aligned : (es : Exprs) → exprs_nodes es ≡ of_all node_of es
  exprs_aligned no_exprs = refl
  exprs_aligned (expr_and e es) = two (expr_nodes e) (of_nodes node_of e) (exprs_nodes es) (of_all node_of es) (expr_aligned e) (exprs_aligned es)

-- something of something of each node
mutual
  pub of_nodes-map : {A B : Type 0} (g : ExprTree → A) (f : A → B) (e : ExprTree) → map f (of_nodes g e) ≡ of_nodes (λ e. f (g e)) e
  of_nodes-map g f (expr node shape) = ap (λ l. f (g (expr node shape)) ∷ l) (of_parts-map g f shape)

  of_parts-map : {A B : Type 0} (g : ExprTree → A) (f : A → B) (shape : ShapeTree) → map f (of_parts g shape) ≡ of_parts (λ e. f (g e)) shape
  of_parts-map g f (trees.constant n u) = refl
  of_parts-map g f (trees.text bytes) = refl
  of_parts-map g f (trees.name x) = refl
  of_parts-map g f (trees.unary operator a) = of_nodes-map g f a
  of_parts-map g f (trees.step operator a) = of_nodes-map g f a
  of_parts-map g f (trees.cast n a) = of_nodes-map g f a
  of_parts-map g f (trees.sizeof_type n) = refl
  of_parts-map g f (trees.sizeof_expr a) = of_nodes-map g f a
  of_parts-map g f (trees.binary operator a b) = map-append f (of_nodes g a) (of_nodes g b) ∙ (λ i. of_nodes-map g f a i ++ of_nodes-map g f b i)
  of_parts-map g f (trees.assign operator a b) = map-append f (of_nodes g a) (of_nodes g b) ∙ (λ i. of_nodes-map g f a i ++ of_nodes-map g f b i)
  of_parts-map g f (trees.conditional d a b) = map-append f (of_nodes g d) (of_nodes g a ++ of_nodes g b) ∙ (λ i. of_nodes-map g f d i ++ (map-append f (of_nodes g a) (of_nodes g b) ∙ (λ j. of_nodes-map g f a j ++ of_nodes-map g f b j)) i)
  of_parts-map g f (trees.comma a b) = map-append f (of_nodes g a) (of_nodes g b) ∙ (λ i. of_nodes-map g f a i ++ of_nodes-map g f b i)
  of_parts-map g f (trees.subscript a b) = map-append f (of_nodes g a) (of_nodes g b) ∙ (λ i. of_nodes-map g f a i ++ of_nodes-map g f b i)
  of_parts-map g f (trees.member access a x) = of_nodes-map g f a
  of_parts-map g f (trees.call h es) = of_all-map g f es

  of_all-map : {A B : Type 0} (g : ExprTree → A) (f : A → B) (es : Exprs) → map f (of_all g es) ≡ of_all (λ e. f (g e)) es
  of_all-map g f no_exprs = refl
  of_all-map g f (expr_and e es) = map-append f (of_nodes g e) (of_all g es) ∙ (λ i. of_nodes-map g f e i ++ of_all-map g f es i)
