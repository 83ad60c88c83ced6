-- Which texts are blocks.
use Rattle.std.proofs.Common.{◌≡◌, ℕ, false, List, [], ◌∷◌, Some, refl}
use Rattle.qs_syntax_vocabulary.specs.declared.operators.BinaryOperator.TheVariants as binaries
use Rattle.qs_syntax.specs.declared.types.Base.TheVariants as bases
use Rattle.qs_syntax.specs.Trees.{ExprTree, unnumbered, structure}
use Rattle.qs_syntax.specs.Trees as trees
use Rattle.qs_syntax.specs.Numbering.{numbered_unit}
use Rattle.qs_types.specs.References.{TextBlock, literal_blocks}
use Rattle.qs_types.proofs.RuleTrees.{e, number, one, many, declarator, global, local, listed, valued, s_base, g, eval}

abbrev text : List ℕ → ExprTree
text bytes = e (trees.text bytes)

abbrev at : ℕ → List ℕ → TextBlock
at node bytes = record { node = node; bytes = bytes }

-- char a[2]="xx"; at file scope
filled_at_file_scope : literal_blocks (numbered_unit (global bases.Char 0 97 (many (number 2)) (valued (text (120 ∷ 120 ∷ []))) ∷ [])) ≡ []
filled_at_file_scope = refl

-- void g(void){char a[2]="xx";}
filled_local : literal_blocks (numbered_unit (g (local bases.Char 0 97 (many (number 2)) (valued (text (120 ∷ 120 ∷ []))) ∷ []) ∷ [])) ≡ at 3 (120 ∷ 120 ∷ []) ∷ []
filled_local = refl

-- char *a="x";
pointed : literal_blocks (numbered_unit (global bases.Char 1 97 one (valued (text (120 ∷ []))) ∷ [])) ≡ at 1 (120 ∷ []) ∷ []
pointed = refl

-- char a[2][2]={"x","y"};
filled_in_list : literal_blocks (numbered_unit (global bases.Char 0 97 (record { is_open = false; given = number 2 ∷ number 2 ∷ [] }) (listed (trees.value (text (120 ∷ [])) ∷ trees.value (text (121 ∷ [])) ∷ [])) ∷ [])) ≡ []
filled_in_list = refl

-- struct s {char m[2],*n;};struct s a={"x","y"};
filled_in_struct : literal_blocks (numbered_unit (
    structure (record { node = unnumbered 0; name = Some (115 ∷ []); members = record { base = bases.Char; declarators = declarator 0 109 (many (number 2)) ∷ declarator 1 110 one ∷ [] } ∷ [] })
    ∷ global s_base 0 97 one (listed (trees.value (text (120 ∷ [])) ∷ trees.value (text (121 ∷ [])) ∷ [])) ∷ [])) ≡ at 7 (121 ∷ []) ∷ []
filled_in_struct = refl

-- void g(void){"x"+1;sizeof "y";}
in_order : literal_blocks (numbered_unit (g (eval (e (trees.binary binaries.Add (text (120 ∷ [])) (number 1))) ∷ eval (e (trees.sizeof_expr (text (121 ∷ [])))) ∷ []) ∷ []))
    ≡ at 3 (120 ∷ []) ∷ at 7 (121 ∷ []) ∷ []
in_order = refl
