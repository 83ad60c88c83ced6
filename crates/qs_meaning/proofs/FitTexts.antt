-- The texts of a unit whose literals are as read consist of bytes.
use Rattle.std.proofs.Common.{◌≡◌, ℕ, true, List, [], ◌∷◌, ◌++◌, refl, ◌∙◌}
use Rattle.std.specs.List.{list_all}
use Rattle.std.proofs.lemmas.List.Folds.{list_all-append}
use Rattle.std.proofs.lemmas.Bool.{and_from}
use Rattle.std.specs.Cmp.{first_so, second_so}
use Rattle.qs_syntax.specs.Trees.{ExprTree, expr, ShapeTree, Exprs, no_exprs, expr_and, UnitTree}
use Rattle.qs_syntax.specs.Trees as trees
use Rattle.qs_types.specs.References.{TextBlock, expr_texts, shape_texts, exprs_texts}
use Rattle.qs_types.specs.Sites.{Site, unit_sites}
use Rattle.qs_meaning.specs.InitialLaws.{consists_of_bytes, has_bytes, texts_are_bytes}
use Rattle.qs_meaning.specs.FitLaws.{literals_fit, shape_literals_fit, all_literals_fit, unit_literals_fit}

two : (xs ys : List TextBlock) → list_all consists_of_bytes xs ≡ true → list_all consists_of_bytes ys ≡ true → list_all consists_of_bytes (xs ++ ys) ≡ true
two xs ys h k = list_all-append consists_of_bytes xs ys ∙ and_from _ _ h k

mutual
  texts_of : (e : ExprTree) → literals_fit e ≡ true → list_all consists_of_bytes (expr_texts e) ≡ true
  texts_of (expr node shape) h = shape_texts_of node.id shape h

  shape_texts_of : (id : ℕ) (shape : ShapeTree) → shape_literals_fit shape ≡ true → list_all consists_of_bytes (shape_texts id shape) ≡ true
  shape_texts_of id (trees.constant n u) h = refl
  shape_texts_of id (trees.text bytes) h = and_from _ _ h refl
  shape_texts_of id (trees.name x) h = refl
  shape_texts_of id (trees.unary operator a) h = texts_of a h
  shape_texts_of id (trees.step operator a) h = texts_of a h
  shape_texts_of id (trees.cast name a) h = texts_of a h
  shape_texts_of id (trees.sizeof_type name) h = refl
  shape_texts_of id (trees.sizeof_expr a) h = texts_of a h
  shape_texts_of id (trees.binary operator a b) h = two (expr_texts a) (expr_texts b) (texts_of a (first_so _ _ h)) (texts_of b (second_so (literals_fit a) _ h))
  shape_texts_of id (trees.assign operator a b) h = two (expr_texts a) (expr_texts b) (texts_of a (first_so _ _ h)) (texts_of b (second_so (literals_fit a) _ h))
  shape_texts_of id (trees.conditional c a b) h =
      let rest = second_so (literals_fit c) _ h in
      two (expr_texts c) (expr_texts a ++ expr_texts b) (texts_of c (first_so _ _ h))
      (two (expr_texts a) (expr_texts b) (texts_of a (first_so _ _ rest)) (texts_of b (second_so (literals_fit a) _ rest)))
  shape_texts_of id (trees.comma a b) h = two (expr_texts a) (expr_texts b) (texts_of a (first_so _ _ h)) (texts_of b (second_so (literals_fit a) _ h))
  shape_texts_of id (trees.subscript a b) h = two (expr_texts a) (expr_texts b) (texts_of a (first_so _ _ h)) (texts_of b (second_so (literals_fit a) _ h))
  shape_texts_of id (trees.member access a x) h = texts_of a h
  shape_texts_of id (trees.call f es) h = all_texts_of es h

  all_texts_of : (es : Exprs) → all_literals_fit es ≡ true → list_all consists_of_bytes (exprs_texts es) ≡ true
  all_texts_of no_exprs h = refl
  all_texts_of (expr_and e es) h = two (expr_texts e) (exprs_texts es) (texts_of e (first_so _ _ h)) (all_texts_of es (second_so (literals_fit e) _ h))

sites_have : (ss : List Site) → list_all (λ (s : Site). literals_fit s.expression) ss ≡ true → list_all has_bytes ss ≡ true
sites_have [] h = refl
sites_have (s ∷ ss) h = and_from _ _ (texts_of s.expression (first_so _ _ h)) (sites_have ss (second_so (literals_fit s.expression) _ h))

pub texts_of_literals : (unit : UnitTree) → unit_literals_fit unit ≡ true → texts_are_bytes unit ≡ true
texts_of_literals unit h = sites_have (unit_sites unit) h
