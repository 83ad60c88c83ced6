-- How many expressions and nodes the typed trees of small sources count; beside each expression how many its source has.
use Rattle.std.proofs.Common.{◌≡◌, ℕ, ◌+◌, List, [], ◌∷◌, Option, Some, map, refl}
use Rattle.qs_syntax.specs.declared.types.Base.TheVariants as bases
use Rattle.qs_syntax_vocabulary.specs.declared.operators.BinaryOperator.TheVariants as binaries
use Rattle.qs_syntax_vocabulary.specs.declared.operators.AssignmentOperator.TheVariants as assigns
use Rattle.qs_syntax.specs.Numbering.{numbered_unit}
use Rattle.qs_syntax.specs.Trees.{UnitTree}
use Rattle.qs_memory.specs.Partial.{◌>>=◌}
use Rattle.qs_meaning.specs.Typed.{TypedProgram}
use Rattle.qs_meaning.specs.Units.{typed_of}
use Rattle.qs_meaning.proofs.Samples.{number, natural, named, plus, op, eval, when, defined, parameter, main_, main_name, at, deref, after, set, update, valued, listed, local, one, many, int_, array_, pointer_}
use Rattle.qs_meaning.proofs.Samples as c
use Rattle.qs_elaborate_laws.specs.Counts.{expressions_in, nodes_in}

-- in each function

abbrev expressions_of : UnitTree → Option (List ℕ)
expressions_of unit = typed_of (numbered_unit unit) >>= λ (u : TypedProgram). Some (map expressions_in u.functions)

abbrev nodes_of : UnitTree → Option (List ℕ)
nodes_of unit = typed_of (numbered_unit unit) >>= λ (u : TypedProgram). Some (map nodes_in u.functions)

-- ---- unsigned f(unsigned n){if(n==0u)return 0u;return f(n-1u)+1u;} int main(unsigned n){f(n);return 0;}

abbrev counting : UnitTree
counting =
    defined bases.Unsigned 0 (102 ∷ []) (parameter bases.Unsigned 0 110 ∷ [])
    (when (op binaries.Equal (named 110) (natural 0)) (c.return (natural 0)) ∷ c.return (plus (c.call 102 (op binaries.Subtract (named 110) (natural 1) ∷ [])) (natural 1)) ∷ [])
    ∷ defined bases.Int 0 main_name (parameter bases.Unsigned 0 110 ∷ []) (eval (c.call 102 (named 110 ∷ [])) ∷ c.return (number 0) ∷ [])
    ∷ []

all_expressions : expressions_of counting ≡ Some (10 ∷ 3 ∷ [])
all_expressions = refl

-- the header, the parameter, if and two returns; an expression that is a statement counts no more
all_nodes : nodes_of counting ≡ Some ((2 + 3 + 10) ∷ (2 + 1 + 3) ∷ [])
all_nodes = refl

-- ---- int main(void){int a[3];int i;int *p;a[i]+=1;(*p)++;a[i]=*p;int b=i+1;int c[2]={i,i+1};}

abbrev writing : UnitTree
writing =
    main_
    (array_ 97 3
    ∷ int_ 105
    ∷ pointer_ 112
    ∷ eval (update assigns.Add (at c.a c.i) (number 1))
    ∷ eval (after (deref c.p))
    ∷ eval (set (at c.a c.i) (deref c.p))
    ∷ local bases.Int 0 98 one (Some (valued (plus c.i (number 1))))
    ∷ local bases.Int 0 99 (many 2) (Some (listed (valued c.i ∷ valued (plus c.i (number 1)) ∷ [])))
    ∷ [])
    ∷ []

-- of 5, 3, 6, 3 and 4
written_expressions : expressions_of writing ≡ Some ((4 + 3 + 5 + 3 + 4) ∷ [])
written_expressions = refl

-- the header and the list
written_nodes : nodes_of writing ≡ Some ((1 + 1 + 19) ∷ [])
written_nodes = refl

-- ---- int main(int a){switch(a){case 1+2:a=1;default:;}return 0;}

abbrev choosing : UnitTree
choosing =
    defined bases.Int 0 main_name (parameter bases.Int 0 97 ∷ [])
    (c.switch (named 97) (c.case (plus (number 1) (number 2)) ∷ eval (set (named 97) (number 1)) ∷ c.default ∷ c.block [] ∷ []) ∷ c.return (number 0) ∷ [])
    ∷ []

-- of 1, 3, 3 and 1: the expression of a `case` is a constant, of which its value alone is left
chosen_expressions : expressions_of choosing ≡ Some ((1 + 0 + 1 + 1) ∷ [])
chosen_expressions = refl

-- the header, the parameter, the switch, two labels and the return
chosen_nodes : nodes_of choosing ≡ Some ((2 + 4 + 3) ∷ [])
chosen_nodes = refl
