-- Words for the trees of the examples.
use Rattle.std.proofs.Common.{ℕ, true, false, List, [], ◌∷◌, Option, Some, None}
use Rattle.qs_syntax.specs.declared.types.Base.{Base}
use Rattle.qs_syntax.specs.declared.types.Base.TheVariants as bases
use Rattle.qs_syntax.specs.Trees.{unnumbered, ExprTree, expr, ShapeTree, exprs_of, LengthsTree, DeclaratorTree, InitialiserTree, initialisers_of, StmtTree, stmts_of, DeclTree, of_struct, of_base, structure, forward, typedef, function, variables, UnitTree}
use Rattle.qs_syntax.specs.Trees as trees
use Rattle.qs_syntax.specs.Numbering.{numbered_unit}
use Rattle.qs_types.specs.declared.rules.Rule.{Rule}
use Rattle.qs_types.specs.Rules.{Fault}
use Rattle.qs_types.specs.UnitRules.{faults_in}

abbrev pub found : UnitTree → List Fault
found unit = faults_in (numbered_unit unit)

abbrev pub fault : ℕ → Rule → List Fault
fault node rule = record { node = node; rule = rule } ∷ []

-- ---- expressions

abbrev pub e : ShapeTree → ExprTree
e shape = expr (unnumbered 0) shape

abbrev pub number : ℕ → ExprTree
number n = e (trees.constant n false)

abbrev pub a : ExprTree
a = e (trees.name (97 ∷ []))

abbrev pub b : ExprTree
b = e (trees.name (98 ∷ []))

abbrev pub x : ExprTree
x = e (trees.name (120 ∷ []))

abbrev pub call_f : List ExprTree → ExprTree
call_f es = e (trees.call (102 ∷ []) (exprs_of es))

-- ---- declarations

abbrev pub one : LengthsTree
one = record { is_open = false; given = [] }

abbrev pub many : ExprTree → LengthsTree
many n = record { is_open = false; given = n ∷ [] }

abbrev pub some : LengthsTree
some = record { is_open = true; given = [] }

abbrev pub declarator : ℕ → ℕ → LengthsTree → DeclaratorTree
declarator stars name lengths = record { node = unnumbered 0; stars = stars; name = name ∷ []; lengths = lengths }

abbrev pub global : Base → ℕ → ℕ → LengthsTree → Option InitialiserTree → DeclTree
global base stars name lengths i = variables (record { base = base; variables = record { declarator = declarator stars name lengths; initialiser = i } ∷ [] })

abbrev pub local : Base → ℕ → ℕ → LengthsTree → Option InitialiserTree → StmtTree
local base stars name lengths i = trees.declaration (record { base = base; variables = record { declarator = declarator stars name lengths; initialiser = i } ∷ [] })

abbrev pub listed : List InitialiserTree → Option InitialiserTree
listed is = Some (trees.list (unnumbered 0) (initialisers_of is))

abbrev pub valued : ExprTree → Option InitialiserTree
valued v = Some (trees.value v)

abbrev pub s_base : Base
s_base = bases.Struct (115 ∷ [])

-- struct s {int m;};
abbrev pub struct_s : DeclTree
struct_s = structure (record { node = unnumbered 0; name = Some (115 ∷ []); members = record { base = bases.Int; declarators = declarator 0 109 one ∷ [] } ∷ [] })

-- struct s;
abbrev pub forward_s : DeclTree
forward_s = forward (record { node = unnumbered 0; name = 115 ∷ [] })

-- typedef BASE NAME;
abbrev pub defines : Base → ℕ → ℕ → LengthsTree → DeclTree
defines base stars name lengths = typedef (record { defined = of_base base; names = declarator stars name lengths ∷ [] })

-- typedef struct TAG {int m;} NAME;
abbrev pub defines_struct : Option (List ℕ) → ℕ → DeclTree
defines_struct tag name = typedef (record {
  defined = of_struct (record { node = unnumbered 0; name = tag; members = record { base = bases.Int; declarators = declarator 0 109 one ∷ [] } ∷ [] });
  names = declarator 0 name one ∷ [];
})

-- the type names T and U
abbrev pub t_base : Base
t_base = bases.Named (84 ∷ [])

abbrev pub u_base : Base
u_base = bases.Named (85 ∷ [])

abbrev pub parameter : Base → ℕ → Option (List ℕ) → trees.ParameterTree
parameter base stars name = record { node = unnumbered 0; type_name = record { base = base; stars = stars }; name = name; lengths = one }

-- ---- functions

abbrev pub header : Base → List ℕ → List trees.ParameterTree → DeclTree
header base name ps = function (record { node = unnumbered 0; result_type = record { base = base; stars = 0 }; name = name; parameters = ps; body = None })

abbrev pub body : Base → List ℕ → List trees.ParameterTree → List StmtTree → DeclTree
body base name ps ss = function (record { node = unnumbered 0; result_type = record { base = base; stars = 0 }; name = name; parameters = ps; body = Some (stmts_of ss) })

-- void g(void) { .. }
abbrev pub g : List StmtTree → DeclTree
g ss = body bases.Void (103 ∷ []) [] ss

abbrev pub eval : ExprTree → StmtTree
eval v = trees.expression (unnumbered 0) v

abbrev pub f_name : List ℕ
f_name = 102 ∷ []
