-- What units do that have names of types: what those do in which the types are written in full.
use Rattle.std.proofs.Common.{◌≡◌, ℕ, false, [], ◌∷◌, None, refl}
use Rattle.qs_syntax.specs.declared.types.Base.{Base}
use Rattle.qs_syntax.specs.declared.types.Base.TheVariants as bases
use Rattle.qs_syntax.specs.Trees.{unnumbered, of_base, of_struct, typedef, LengthsTree, DeclTree}
use Rattle.qs_syntax.specs.Trees as trees
use Rattle.qs_meaning.proofs.Samples as c
use Rattle.qs_meaning.proofs.Samples.{number, a, b, dot, at, one, many, declarator, struct_named, member_of, eval, parameter, defined, main_, local, global}
use Rattle.qs_meaning.proofs.Outcomes.{typed_program, outcome, ends}

-- typedef base x;
abbrev named : Base → (stars : ℕ) → (x : ℕ) → LengthsTree → DeclTree
named base stars x lengths = typedef (record { defined = of_base base; names = declarator stars x lengths ∷ [] })

abbrev node_base : Base
node_base = bases.Struct (110 ∷ [])

abbrev t_base : Base
t_base = bases.Named (116 ∷ [])

abbrev u_base : Base
u_base = bases.Named (117 ∷ [])

-- T a;a.v=4;a.n=0;return a.v;
abbrev with_one_node : Base → DeclTree
with_one_node base = main_ (local base 0 97 one None ∷ eval (c.set (dot a 118) (number 4)) ∷ eval (c.set (dot a 110) (number 0)) ∷ c.return (dot a 118) ∷ [])

-- int v;
abbrev value_member : trees.MembersTree
value_member = member_of bases.Int 118 one

-- base *n;
abbrev next_member : Base → trees.MembersTree
next_member base = record { base = base; declarators = declarator 1 110 one ∷ [] }

-- typedef struct n t;struct n{int v;t *n;};int main(void){t a;..}
linked_by_name : outcome (named node_base 0 116 one ∷ struct_named 110 (value_member ∷ next_member t_base ∷ []) ∷ with_one_node t_base ∷ []) ≡ ends 4
linked_by_name = refl

-- it is that of struct n{int v;struct n *n;};int main(void){struct n a;..}
linked_in_full :
    typed_program (named node_base 0 116 one ∷ struct_named 110 (value_member ∷ next_member t_base ∷ []) ∷ with_one_node t_base ∷ [])
    ≡ typed_program (struct_named 110 (value_member ∷ next_member node_base ∷ []) ∷ with_one_node node_base ∷ [])
linked_in_full = refl

-- typedef struct{int v;}t;t a;a.v=4;return a.v;
without_tag : outcome (typedef (record {
  defined = of_struct (record { node = unnumbered 0; name = None; members = value_member ∷ [] });
  names = declarator 0 116 one ∷ [];
}) ∷ main_ (local t_base 0 97 one None ∷ eval (c.set (dot a 118) (number 4)) ∷ c.return (dot a 118) ∷ []) ∷ []) ≡ ends 4
without_tag = refl

-- typedef char t[2];typedef t u[2];u a;: an array of two arrays of two bytes
arrays_of_arrays : typed_program (named bases.Char 0 116 (many 2) ∷ named t_base 0 117 (many 2) ∷ global u_base 0 97 one None ∷ main_ (c.return (at (at a (number 1)) (number 0)) ∷ []) ∷ [])
    ≡ typed_program (global bases.Char 0 97 (record { is_open = false; given = number 2 ∷ number 2 ∷ [] }) None ∷ main_ (c.return (at (at a (number 1)) (number 0)) ∷ []) ∷ [])
arrays_of_arrays = refl

-- typedef int t[3];int f(t b){return b[1];}: the parameter is a pointer
array_parameter : typed_program (named bases.Int 0 116 (many 3) ∷ defined bases.Int 0 (102 ∷ []) (parameter t_base 0 98 ∷ []) (c.return (at b (number 1)) ∷ []) ∷ [])
    ≡ typed_program (defined bases.Int 0 (102 ∷ []) (parameter bases.Int 1 98 ∷ []) (c.return (at b (number 1)) ∷ []) ∷ [])
array_parameter = refl
