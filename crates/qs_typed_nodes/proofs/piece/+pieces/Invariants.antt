use Rattle.std.proofs.Common.{◌≡◌, map, drop}
use Rattle.qs_meaning.specs.Initialisers.{pieces_from}
use Rattle.qs_syntax.specs.TreeOf.{initialisers_tree}
use Rattle.qs_types.specs.EnvOf.{env_tree}
use Rattle.qs_types.specs.TypeOf.{type_tree}
use Rattle.qs_typed_nodes.specs.Behind.{followed}
use Rattle.qs_typed_nodes.specs.PieceOf.{piece_tree}
use Rattle.qs_typed_nodes.proofs.piece.+pieces.Given as goal

abbrev pub invariant-pieces_from-loop-n : goal.invariant-pieces_from-loop-n
invariant-pieces_from-loop-n l =
    pieces_from (env_tree l.env) (type_tree l.t) l.offset 0 (initialisers_tree l.is)
    ≡ followed (map piece_tree l.all.items) (pieces_from (env_tree l.env) (type_tree l.t) l.offset l.n (initialisers_tree (drop l.n l.is)))
