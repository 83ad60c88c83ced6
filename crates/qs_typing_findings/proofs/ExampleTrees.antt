-- Words for the trees of the examples.
use Rattle.std.proofs.Common.{ℕ, false, List, [], ◌∷◌, None, Some}
use Rattle.qs_syntax.specs.declared.types.Base.{Base}
use Rattle.qs_syntax.specs.Trees.{unnumbered, ExprTree, expr, ShapeTree, LengthsTree, StmtTree, DeclTree}
use Rattle.qs_syntax.specs.Trees as trees

abbrev pub e : ShapeTree → ExprTree
e shape = expr (unnumbered 0) shape

abbrev pub number : ℕ → ExprTree
number n = e (trees.constant n false)

abbrev pub a : ExprTree
a = e (trees.name (97 ∷ []))

abbrev pub b : ExprTree
b = e (trees.name (98 ∷ []))

abbrev pub one : LengthsTree
one = record { is_open = false; given = [] }

abbrev pub many : ℕ → LengthsTree
many n = record { is_open = false; given = number n ∷ [] }

abbrev pub declared : Base → ℕ → LengthsTree → trees.DeclarationTree
declared base name lengths = record {
  base = base;
  variables = record { declarator = record { node = unnumbered 0; stars = 0; name = name ∷ []; lengths = lengths }; initialiser = None } ∷ [];
}

abbrev pub global : Base → ℕ → LengthsTree → DeclTree
global base name lengths = trees.variables (declared base name lengths)

abbrev pub local : Base → ℕ → LengthsTree → StmtTree
local base name lengths = trees.declaration (declared base name lengths)

abbrev pub f_name : List ℕ
f_name = 102 ∷ []

abbrev pub header : Base → List ℕ → List trees.ParameterTree → DeclTree
header base name ps = trees.function (record { node = unnumbered 0; result_type = record { base = base; stars = 0 }; name = name; parameters = ps; body = None })

abbrev pub body : Base → List ℕ → List StmtTree → DeclTree
body base name ss = trees.function (record { node = unnumbered 0; result_type = record { base = base; stars = 0 }; name = name; parameters = []; body = Some (trees.stmts_of ss) })

-- f();
abbrev pub call_f : StmtTree
call_f = trees.expression (unnumbered 0) (e (trees.call f_name trees.no_exprs))
