-- Packed places of all functions.
use Rattle.std.specs.Prelude.{List, [], ◌∷◌}
use Rattle.qs_tac.specs.Trees.{TacFunctionTree}
use Rattle.qs_tac.specs.Places.{PlacesTree, Packed}

-- of each function, and of no more
pub data AllPacked : List TacFunctionTree → List PlacesTree → Type 0 where
  none : AllPacked [] []
  more : (f : TacFunctionTree) (p : PlacesTree) (functions : List TacFunctionTree) (ps : List PlacesTree) → Packed f p → AllPacked functions ps → AllPacked (f ∷ functions) (p ∷ ps)
