use Rattle.std.proofs.Common.{◌≡◌, map, drop}
use Rattle.qs_meaning.specs.Typed.{in_order, pointer_to}
use Rattle.qs_typed_trees.specs.TreeOf.{effect_tree, object_tree}
use Rattle.qs_typed_nodes.specs.Behind.{behind}
use Rattle.qs_typed_nodes.specs.KnownOf.{known_tree}
use Rattle.qs_typed_nodes.specs.KnownStatements.{pieces_set_known}
use Rattle.qs_typed_nodes.specs.PieceOf.{piece_tree}
use Rattle.qs_typed_bodies.proofs.initialisers.pieces_effects.Given as goal

abbrev pub invariant-loop-p : goal.invariant-loop-p
invariant-loop-p l =
    pieces_set_known (known_tree l.k) (pointer_to (object_tree l.base)) (map piece_tree l.ps)
    ≡ behind in_order (map effect_tree l.all.items) (pieces_set_known (known_tree l.k) (pointer_to (object_tree l.base)) (map piece_tree (drop l.p-index l.ps)))
