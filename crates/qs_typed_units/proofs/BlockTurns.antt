-- The blocks of variables, one after another.
use Rattle.std.proofs.Common.{◌≡◌, List, [], ◌∷◌, ◌++◌, Option, Some, None, append_assoc, refl, sym, ap, ◌∙◌}
use Rattle.qs_memory.specs.Partial.{◌>>=◌}
use Rattle.qs_syntax.specs.Trees.{VariableTree, variables, DeclarationTree, UnitTree}
use Rattle.qs_meaning.specs.Typed.{StaticBlock}
use Rattle.qs_typed_nodes.specs.Behind.{followed}
use Rattle.qs_typed_units.specs.KnownPrograms.{Tables}
use Rattle.qs_typed_units.specs.KnownBlocks.{variable_block_known, file_variables_known, blocks_known}

pub variable_more : (t : Tables) (v : VariableTree) (vs : List VariableTree) (b : StaticBlock) (all : List StaticBlock) → variable_block_known t v ≡ Some b
    → followed all (file_variables_known t (v ∷ vs)) ≡ followed (all ++ b ∷ []) (file_variables_known t vs)
variable_more t v vs b all e = ap (λ o. followed all (o >>= λ now. file_variables_known t vs >>= λ rest. Some (now ∷ rest))) e ∙ go (file_variables_known t vs)
  where
    go : (o : Option (List StaticBlock)) → followed all (o >>= λ rest. Some (b ∷ rest)) ≡ followed (all ++ b ∷ []) o
    go None = refl
    go (Some bs) = ap Some (sym (append_assoc all (b ∷ []) bs))

pub variables_more : (t : Tables) (d : DeclarationTree) (ds : UnitTree) (now all : List StaticBlock) → file_variables_known t d.variables ≡ Some now
    → followed all (blocks_known t (variables d ∷ ds)) ≡ followed (all ++ now) (blocks_known t ds)
variables_more t d ds now all e = ap (λ o. followed all (o >>= λ now. blocks_known t ds >>= λ rest. Some (now ++ rest))) e ∙ go (blocks_known t ds)
  where
    go : (o : Option (List StaticBlock)) → followed all (o >>= λ rest. Some (now ++ rest)) ≡ followed (all ++ now) o
    go None = refl
    go (Some bs) = ap Some (sym (append_assoc all now bs))
