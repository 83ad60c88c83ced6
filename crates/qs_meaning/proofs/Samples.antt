-- Words for the trees of the examples.
use Rattle.std.proofs.Common.{ℕ, true, false, List, [], ◌∷◌, Option, Some, None}
use Rattle.qs_syntax.specs.declared.types.Base.{Base}
use Rattle.qs_syntax.specs.declared.types.Base.TheVariants as bases
use Rattle.qs_syntax_vocabulary.specs.declared.operators.UnaryOperator.TheVariants as unaries
use Rattle.qs_syntax_vocabulary.specs.declared.operators.StepOperator.TheVariants as steps
use Rattle.qs_syntax_vocabulary.specs.declared.operators.BinaryOperator.{BinaryOperator}
use Rattle.qs_syntax_vocabulary.specs.declared.operators.BinaryOperator.TheVariants as binaries
use Rattle.qs_syntax_vocabulary.specs.declared.operators.AssignmentOperator.{AssignmentOperator}
use Rattle.qs_syntax_vocabulary.specs.declared.operators.AssignmentOperator.TheVariants as assigns
use Rattle.qs_syntax_vocabulary.specs.declared.operators.Access.TheVariants as accesses
use Rattle.qs_syntax.specs.Trees.{unnumbered, ExprTree, expr, ShapeTree, exprs_of, LengthsTree, DeclaratorTree, InitialiserTree, initialisers_of, ParameterTree, StmtTree, stmts_of, no_else, DeclTree, structure, function, variables}
use Rattle.qs_syntax.specs.Trees as trees

-- ---- expressions

abbrev pub e : ShapeTree → ExprTree
e shape = expr (unnumbered 0) shape

abbrev pub number : ℕ → ExprTree
number n = e (trees.constant n false)

abbrev pub natural : ℕ → ExprTree
natural n = e (trees.constant n true)

abbrev pub named : ℕ → ExprTree
named x = e (trees.name (x ∷ []))

abbrev pub a : ExprTree
a = named 97

abbrev pub b : ExprTree
b = named 98

abbrev pub c : ExprTree
c = named 99

abbrev pub i : ExprTree
i = named 105

abbrev pub p : ExprTree
p = named 112

abbrev pub q : ExprTree
q = named 113

abbrev pub text : List ℕ → ExprTree
text bytes = e (trees.text bytes)

abbrev pub op : BinaryOperator → ExprTree → ExprTree → ExprTree
op operator x y = e (trees.binary operator x y)

abbrev pub plus : ExprTree → ExprTree → ExprTree
plus = op binaries.Add

abbrev pub less : ExprTree → ExprTree → ExprTree
less = op binaries.Less

abbrev pub set : ExprTree → ExprTree → ExprTree
set x y = e (trees.assign assigns.Plain x y)

abbrev pub update : AssignmentOperator → ExprTree → ExprTree → ExprTree
update operator x y = e (trees.assign operator x y)

abbrev pub minus : ExprTree → ExprTree
minus x = e (trees.unary unaries.Minus x)

abbrev pub address : ExprTree → ExprTree
address x = e (trees.unary unaries.Address x)

abbrev pub deref : ExprTree → ExprTree
deref x = e (trees.unary unaries.Indirect x)

abbrev pub at : ExprTree → ExprTree → ExprTree
at x y = e (trees.subscript x y)

abbrev pub dot : ExprTree → ℕ → ExprTree
dot x m = e (trees.member accesses.Dot x (m ∷ []))

abbrev pub arrow : ExprTree → ℕ → ExprTree
arrow x m = e (trees.member accesses.Arrow x (m ∷ []))

abbrev pub comma : ExprTree → ExprTree → ExprTree
comma x y = e (trees.comma x y)

abbrev pub after : ExprTree → ExprTree
after x = e (trees.step steps.IncrementAfter x)

abbrev pub cast : Base → ℕ → ExprTree → ExprTree
cast base stars x = e (trees.cast (record { base = base; stars = stars }) x)

abbrev pub call : ℕ → List ExprTree → ExprTree
call f es = e (trees.call (f ∷ []) (exprs_of es))

abbrev pub putchar : ExprTree → ExprTree
putchar x = e (trees.call (112 ∷ 117 ∷ 116 ∷ 99 ∷ 104 ∷ 97 ∷ 114 ∷ []) (exprs_of (x ∷ [])))

abbrev pub getchar : ExprTree
getchar = e (trees.call (103 ∷ 101 ∷ 116 ∷ 99 ∷ 104 ∷ 97 ∷ 114 ∷ []) (exprs_of []))

-- ---- declarations

abbrev pub one : LengthsTree
one = record { is_open = false; given = [] }

abbrev pub many : ℕ → LengthsTree
many n = record { is_open = false; given = number n ∷ [] }

abbrev pub open_length : LengthsTree
open_length = record { is_open = true; given = [] }

abbrev pub declarator : ℕ → ℕ → LengthsTree → DeclaratorTree
declarator stars x lengths = record { node = unnumbered 0; stars = stars; name = x ∷ []; lengths = lengths }

abbrev pub valued : ExprTree → InitialiserTree
valued x = trees.value x

abbrev pub listed : List InitialiserTree → InitialiserTree
listed is = trees.list (unnumbered 0) (initialisers_of is)

abbrev pub numbers : List ℕ → List InitialiserTree
numbers [] = []
numbers (n ∷ ns) = valued (number n) ∷ numbers ns

abbrev pub global : Base → ℕ → ℕ → LengthsTree → Option InitialiserTree → DeclTree
global base stars x lengths initialiser =
    variables (record { base = base; variables = record { declarator = declarator stars x lengths; initialiser = initialiser } ∷ [] })

abbrev pub local : Base → ℕ → ℕ → LengthsTree → Option InitialiserTree → StmtTree
local base stars x lengths initialiser =
    trees.declaration (record { base = base; variables = record { declarator = declarator stars x lengths; initialiser = initialiser } ∷ [] })

-- int x; and int *x;
abbrev pub int_ : ℕ → StmtTree
int_ x = local bases.Int 0 x one None

abbrev pub pointer_ : ℕ → StmtTree
pointer_ x = local bases.Int 1 x one None

abbrev pub array_ : ℕ → ℕ → StmtTree
array_ x n = local bases.Int 0 x (many n) None

abbrev pub s_base : Base
s_base = bases.Struct (115 ∷ [])

-- struct s {char m; int n;};
abbrev pub struct_s : DeclTree
struct_s = structure (record {
  node = unnumbered 0;
  name = Some (115 ∷ []);
  members =
      record { base = bases.Char; declarators = declarator 0 109 one ∷ [] }
      ∷ record { base = bases.Int; declarators = declarator 0 110 one ∷ [] }
      ∷ [];
})

-- ---- statements

abbrev pub eval : ExprTree → StmtTree
eval x = trees.expression (unnumbered 0) x

abbrev pub return : ExprTree → StmtTree
return x = trees.return (unnumbered 0) (Some x)

abbrev pub block : List StmtTree → StmtTree
block ss = trees.block (stmts_of ss)

abbrev pub when : ExprTree → StmtTree → StmtTree
when x s = trees.branch (unnumbered 0) x s no_else

abbrev pub while : ExprTree → StmtTree → StmtTree
while x s = trees.while_loop (unnumbered 0) x s

-- the labels of a switch stand among its items
abbrev pub switch : ExprTree → List StmtTree → StmtTree
switch x ss = trees.switch (unnumbered 0) x (stmts_of ss)

abbrev pub case : ExprTree → StmtTree
case x = trees.case_label (unnumbered 0) x

abbrev pub default : StmtTree
default = trees.default_label (unnumbered 0)

abbrev pub break : StmtTree
break = trees.break (unnumbered 0)

abbrev pub continue : StmtTree
continue = trees.continue (unnumbered 0)

-- ---- functions

abbrev pub parameter : Base → ℕ → ℕ → ParameterTree
parameter base stars x = record { node = unnumbered 0; type_name = record { base = base; stars = stars }; name = Some (x ∷ []); lengths = one }

abbrev pub defined : Base → (stars : ℕ) → (name : List ℕ) → List ParameterTree → List StmtTree → DeclTree
defined base stars f ps ss =
    function (record { node = unnumbered 0; result_type = record { base = base; stars = stars }; name = f; parameters = ps; body = Some (stmts_of ss) })

-- int main(void){ .. }
abbrev pub main_ : List StmtTree → DeclTree
main_ ss = defined bases.Int 0 (109 ∷ 97 ∷ 105 ∷ 110 ∷ []) [] ss

-- int x=..,y=..;
abbrev pub two_ints : ℕ → Option InitialiserTree → ℕ → Option InitialiserTree → trees.DeclarationTree
two_ints x i y j = record {
  base = bases.Int;
  variables = record { declarator = declarator 0 x one; initialiser = i } ∷ record { declarator = declarator 0 y one; initialiser = j } ∷ [];
}

-- the members are given by their names and types
abbrev pub struct_named : ℕ → List trees.MembersTree → DeclTree
struct_named tag members = structure (record { node = unnumbered 0; name = Some (tag ∷ []); members = members })

abbrev pub member_of : Base → ℕ → LengthsTree → trees.MembersTree
member_of base x lengths = record { base = base; declarators = declarator 0 x lengths ∷ [] }

-- a header without a body
abbrev pub header : Base → (stars : ℕ) → (name : List ℕ) → List ParameterTree → DeclTree
header base stars f ps = function (record { node = unnumbered 0; result_type = record { base = base; stars = stars }; name = f; parameters = ps; body = None })

abbrev pub main_name : List ℕ
main_name = 109 ∷ 97 ∷ 105 ∷ 110 ∷ []
