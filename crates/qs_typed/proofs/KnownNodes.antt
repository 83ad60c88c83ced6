-- Lists by the numbers of nodes have what is known at each node of an expression.
use Rattle.std.proofs.Common.{◌≡◌, ℕ, List, [], ◌∷◌, ◌++◌, Option, Some, ap}
use Rattle.std.specs.List.{slice_get}
use Rattle.qs_memory.specs.Partial.{◌>>=◌}
use Rattle.qs_syntax.specs.declared.nodes.Node.{Node}
use Rattle.qs_syntax.specs.Trees.{ExprTree, expr, ShapeTree, Exprs, no_exprs, expr_and}
use Rattle.qs_syntax.specs.Trees as trees
use Rattle.qs_types.specs.Types.{TypeTree}
use Rattle.qs_types.specs.Contexts.{Context}
use Rattle.qs_types.specs.declared.referent.Referent.{Referent}
use Rattle.qs_types.specs.Expressions.{type_of}
use Rattle.qs_types.specs.Referents.{referent_of}
use Rattle.qs_typing_findings.specs.ExprFindings.{node_of, of_nodes, of_parts, of_all}
use Rattle.qs_typed_nodes.specs.Known.{Known, at_number}
use Rattle.qs_typed_nodes.specs.Agrees.{NodesKnown, PartsKnown, AllKnown}

-- what holds of each element
abbrev pub Each : {A : Type 0} → (A → Type 0) → List A → Type 0
Each P [] = Unit {0}
Each P (x ∷ xs) = P x × Each P xs

pub each_left : {A : Type 0} (P : A → Type 0) (xs ys : List A) → Each P (xs ++ ys) → Each P xs
each_left P [] ys h = tt
each_left P (x ∷ xs) ys h = (h.0, each_left P xs ys h.1)

pub each_right : {A : Type 0} (P : A → Type 0) (xs ys : List A) → Each P (xs ++ ys) → Each P ys
each_right P [] ys h = h
each_right P (x ∷ xs) ys h = each_right P xs ys h.1

-- what belongs to a node stands at its number
abbrev pub StandsIn : {A : Type 0} → List (Option A) → Node × Option A → Type 0
StandsIn xs p = slice_get xs p.0.id ≡ Some p.1

pub at_node : {A : Type 0} (xs : List (Option A)) (n : ℕ) (o : Option A) → slice_get xs n ≡ Some o → at_number xs n ≡ o
at_node xs n o e = ap (λ x. x >>= λ y. y) e

-- the types and the referents of an expression's nodes
abbrev with_types : Context → ExprTree → Node × Option TypeTree
with_types c e = (node_of e, type_of c e)

abbrev with_referents : Context → ExprTree → Node × Option Referent
with_referents c e = (node_of e, referent_of c e)

mutual
  pub nodes_known : (k : Known) (c : Context) (e : ExprTree) → Each (StandsIn k.types) (of_nodes (with_types c) e) → Each (StandsIn k.referents) (of_nodes (with_referents c) e) → NodesKnown k c e
  nodes_known k c (expr node shape) t r =
      (at_node k.types node.id (type_of c (expr node shape)) t.0, (at_node k.referents node.id (referent_of c (expr node shape)) r.0, parts_known k c shape t.1 r.1))

  parts_known : (k : Known) (c : Context) (shape : ShapeTree) → Each (StandsIn k.types) (of_parts (with_types c) shape) → Each (StandsIn k.referents) (of_parts (with_referents c) shape) → PartsKnown k c shape
  parts_known k c (trees.constant n u) t r = tt
  parts_known k c (trees.text bytes) t r = tt
  parts_known k c (trees.name x) t r = tt
  parts_known k c (trees.unary operator a) t r = nodes_known k c a t r
  parts_known k c (trees.step operator a) t r = nodes_known k c a t r
  parts_known k c (trees.cast n a) t r = nodes_known k c a t r
  parts_known k c (trees.sizeof_type n) t r = tt
  parts_known k c (trees.sizeof_expr a) t r = nodes_known k c a t r
  parts_known k c (trees.binary operator a b) t r = (
    nodes_known k c a (each_left (StandsIn k.types) (of_nodes (with_types c) a) (of_nodes (with_types c) b) t) (each_left (StandsIn k.referents) (of_nodes (with_referents c) a) (of_nodes (with_referents c) b) r),
    nodes_known k c b (each_right (StandsIn k.types) (of_nodes (with_types c) a) (of_nodes (with_types c) b) t) (each_right (StandsIn k.referents) (of_nodes (with_referents c) a) (of_nodes (with_referents c) b) r),
  )
  parts_known k c (trees.assign operator a b) t r = (
    nodes_known k c a (each_left (StandsIn k.types) (of_nodes (with_types c) a) (of_nodes (with_types c) b) t) (each_left (StandsIn k.referents) (of_nodes (with_referents c) a) (of_nodes (with_referents c) b) r),
    nodes_known k c b (each_right (StandsIn k.types) (of_nodes (with_types c) a) (of_nodes (with_types c) b) t) (each_right (StandsIn k.referents) (of_nodes (with_referents c) a) (of_nodes (with_referents c) b) r),
  )
  parts_known k c (trees.conditional d a b) t r =
      let tr = each_right (StandsIn k.types) (of_nodes (with_types c) d) (of_nodes (with_types c) a ++ of_nodes (with_types c) b) t in
      let rr = each_right (StandsIn k.referents) (of_nodes (with_referents c) d) (of_nodes (with_referents c) a ++ of_nodes (with_referents c) b) r in (
        nodes_known k c d (each_left (StandsIn k.types) (of_nodes (with_types c) d) (of_nodes (with_types c) a ++ of_nodes (with_types c) b) t)
            (each_left (StandsIn k.referents) (of_nodes (with_referents c) d) (of_nodes (with_referents c) a ++ of_nodes (with_referents c) b) r),
        (
          nodes_known k c a (each_left (StandsIn k.types) (of_nodes (with_types c) a) (of_nodes (with_types c) b) tr) (each_left (StandsIn k.referents) (of_nodes (with_referents c) a) (of_nodes (with_referents c) b) rr),
          nodes_known k c b (each_right (StandsIn k.types) (of_nodes (with_types c) a) (of_nodes (with_types c) b) tr) (each_right (StandsIn k.referents) (of_nodes (with_referents c) a) (of_nodes (with_referents c) b) rr),
        ),
      )
  parts_known k c (trees.comma a b) t r = (
    nodes_known k c a (each_left (StandsIn k.types) (of_nodes (with_types c) a) (of_nodes (with_types c) b) t) (each_left (StandsIn k.referents) (of_nodes (with_referents c) a) (of_nodes (with_referents c) b) r),
    nodes_known k c b (each_right (StandsIn k.types) (of_nodes (with_types c) a) (of_nodes (with_types c) b) t) (each_right (StandsIn k.referents) (of_nodes (with_referents c) a) (of_nodes (with_referents c) b) r),
  )
  parts_known k c (trees.subscript a b) t r = (
    nodes_known k c a (each_left (StandsIn k.types) (of_nodes (with_types c) a) (of_nodes (with_types c) b) t) (each_left (StandsIn k.referents) (of_nodes (with_referents c) a) (of_nodes (with_referents c) b) r),
    nodes_known k c b (each_right (StandsIn k.types) (of_nodes (with_types c) a) (of_nodes (with_types c) b) t) (each_right (StandsIn k.referents) (of_nodes (with_referents c) a) (of_nodes (with_referents c) b) r),
  )
  parts_known k c (trees.member access a x) t r = nodes_known k c a t r
  parts_known k c (trees.call f es) t r = all_known k c es t r

  all_known : (k : Known) (c : Context) (es : Exprs) → Each (StandsIn k.types) (of_all (with_types c) es) → Each (StandsIn k.referents) (of_all (with_referents c) es) → AllKnown k c es
  all_known k c no_exprs t r = tt
  all_known k c (expr_and e es) t r = (
    nodes_known k c e (each_left (StandsIn k.types) (of_nodes (with_types c) e) (of_all (with_types c) es) t) (each_left (StandsIn k.referents) (of_nodes (with_referents c) e) (of_all (with_referents c) es) r),
    all_known k c es (each_right (StandsIn k.types) (of_nodes (with_types c) e) (of_all (with_types c) es) t) (each_right (StandsIn k.referents) (of_nodes (with_referents c) e) (of_all (with_referents c) es) r),
  )
