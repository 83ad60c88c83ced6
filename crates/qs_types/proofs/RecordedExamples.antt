-- The names of types and the blocks of data of a unit.
use Rattle.std.proofs.Common.{◌≡◌, ℕ, List, [], ◌∷◌, None, map, refl}
use Rattle.qs_syntax.specs.declared.types.Base.TheVariants as bases
use Rattle.qs_syntax.specs.Trees.{ExprTree, UnitTree}
use Rattle.qs_syntax.specs.Trees as trees
use Rattle.qs_syntax.specs.Numbering.{numbered_unit}
use Rattle.qs_types.specs.Limits.{Block, text_block}
use Rattle.qs_types.specs.Recorded.{type_names_of, global_blocks}
use Rattle.qs_types.specs.References.{literal_blocks}
use Rattle.qs_types.proofs.RuleTrees.{e, number, one, many, global, valued, struct_s, forward_s, g, eval}

abbrev text : List ℕ → ExprTree
text bytes = e (trees.text bytes)

abbrev at : (node size : ℕ) → Block
at node size = record { node = node; size = size }

-- struct s;struct s {int m;};
one_tag : type_names_of (numbered_unit (forward_s ∷ struct_s ∷ [])) ≡ record { tags = record { name = 115 ∷ []; place = 0 } ∷ []; types = [] }
one_tag = refl

-- char a[3];void g(void){"x";}char b[2]="y";char *c="";
abbrev some_data : UnitTree
some_data = numbered_unit (global bases.Char 0 97 (many (number 3)) None ∷ g (eval (text (120 ∷ [])) ∷ []) ∷ global bases.Char 0 98 (many (number 2)) (valued (text (121 ∷ []))) ∷ global bases.Char 1 99 one (valued (text [])) ∷ [])

variables : global_blocks some_data ≡ at 0 3 ∷ at 5 2 ∷ at 8 4 ∷ []
variables = refl

texts : map text_block (literal_blocks some_data) ≡ at 4 2 ∷ at 9 1 ∷ []
texts = refl
