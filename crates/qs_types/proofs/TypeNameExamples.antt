-- Units with type names that keep the rules, and others that just don't.
use Rattle.std.proofs.Common.{◌≡◌, [], ◌∷◌, Some, None, refl}
use Rattle.qs_syntax_vocabulary.specs.declared.operators.AssignmentOperator.TheVariants as assigns
use Rattle.qs_syntax.specs.declared.types.Base.TheVariants as bases
use Rattle.qs_syntax.specs.Trees.{unnumbered, of_base, structure, typedef, StmtTree}
use Rattle.qs_syntax.specs.Trees as trees
use Rattle.qs_syntax.specs.Numbering.{numbered_unit}
use Rattle.qs_types.specs.Contexts.{type_under, start_context}
use Rattle.qs_types.specs.Limits.{data_bytes}
use Rattle.qs_types.specs.Types.{struct}
use Rattle.qs_types.specs.UnitRules.{context_after}
use Rattle.qs_types.specs.declared.rules.Rule.TheVariants as rules
use Rattle.qs_types.proofs.RuleTrees.{found, fault, e, number, a, b, one, many, some, declarator, global, s_base, struct_s, defines, defines_struct, t_base, u_base, parameter, header, body, g, eval, f_name}

-- ---- a name is declared once in the scope of the file, but by `typedef` again

-- typedef int T;T a;
type_name_kept : found (defines bases.Int 0 84 one ∷ global t_base 0 97 one None ∷ []) ≡ []
type_name_kept = refl

-- int T;typedef int T;
behind_variable : found (global bases.Int 0 84 one None ∷ defines bases.Int 0 84 one ∷ []) ≡ fault 1 rules.DeclaredTwice
behind_variable = refl

-- typedef int T;int T;
before_variable : found (defines bases.Int 0 84 one ∷ global bases.Int 0 84 one None ∷ []) ≡ fault 1 rules.DeclaredTwice
before_variable = refl

-- int f(void);typedef int f;
behind_function : found (header bases.Int f_name [] ∷ defines bases.Int 0 102 one ∷ []) ≡ fault 1 rules.DeclaredTwice
behind_function = refl

-- typedef int f;int f(void);
before_function : found (defines bases.Int 0 102 one ∷ header bases.Int f_name [] ∷ []) ≡ fault 1 rules.DeclaredTwice
before_function = refl

-- ---- again the same type

-- typedef int T;typedef int T,*U;
same_again : found (defines bases.Int 0 84 one ∷ typedef (record { defined = of_base bases.Int; names = declarator 0 84 one ∷ declarator 1 85 one ∷ [] }) ∷ []) ≡ []
same_again = refl

-- typedef int T;typedef char T;
other_again : found (defines bases.Int 0 84 one ∷ defines bases.Char 0 84 one ∷ []) ≡ fault 1 rules.RenamedType
other_again = refl

-- typedef int T;typedef T T;typedef T *U;typedef int *U;
by_its_name : found (defines bases.Int 0 84 one ∷ defines t_base 0 84 one ∷ defines t_base 1 85 one ∷ defines bases.Int 1 85 one ∷ []) ≡ []
by_its_name = refl

-- ---- tags

-- typedef struct s T;T *a;struct s *b;
tag_declared : found (defines s_base 0 84 one ∷ global t_base 1 97 one None ∷ global s_base 1 98 one None ∷ []) ≡ []
tag_declared = refl

-- typedef struct s T;T a;
tag_incomplete : found (defines s_base 0 84 one ∷ global t_base 0 97 one None ∷ []) ≡ fault 1 rules.IncompleteType
tag_incomplete = refl

-- typedef struct s T;struct s {int m;T *n;};T a;
tag_completed :
    found (defines s_base 0 84 one
    ∷ structure (record { node = unnumbered 0; name = Some (115 ∷ []); members = record { base = bases.Int; declarators = declarator 0 109 one ∷ [] } ∷ record { base = t_base; declarators = declarator 1 110 one ∷ [] } ∷ [] })
    ∷ global t_base 0 97 one None ∷ []) ≡ []
tag_completed = refl

-- struct s {int m;};typedef struct s {int m;} T;
tag_defined_twice : found (struct_s ∷ defines_struct (Some (115 ∷ [])) 84 ∷ []) ≡ fault 2 rules.UnknownTag
tag_defined_twice = refl

abbrev assigned : StmtTree
assigned = eval (e (trees.assign assigns.Plain a b))

-- typedef struct {int m;} T;typedef struct {int m;} U;T a;U b;void g(void){a=b;}
two_structs : found (defines_struct None 84 ∷ defines_struct None 85 ∷ global t_base 0 97 one None ∷ global u_base 0 98 one None ∷ g (assigned ∷ []) ∷ []) ≡ fault 10 rules.AssignedType
two_structs = refl

-- typedef struct {int m;} T;typedef T U;T a;U b;void g(void){a=b;}
one_struct : found (defines_struct None 84 ∷ defines t_base 0 85 one ∷ global t_base 0 97 one None ∷ global u_base 0 98 one None ∷ g (assigned ∷ []) ∷ []) ≡ []
one_struct = refl

-- typedef struct {int m;} T;struct s {int m;};typedef struct s U;
struct_numbers :
    type_under (context_after start_context (defines_struct None 84 ∷ struct_s ∷ defines s_base 0 85 one ∷ [])) (84 ∷ [])
    ∷ type_under (context_after start_context (defines_struct None 84 ∷ struct_s ∷ defines s_base 0 85 one ∷ [])) (85 ∷ []) ∷ []
    ≡ Some (Some (struct 0)) ∷ Some (Some (struct 1)) ∷ []
struct_numbers = refl

-- ---- `void`, lengths and sizes

-- typedef void T;
void_named : found (defines bases.Void 0 84 one ∷ []) ≡ fault 0 rules.IncompleteType
void_named = refl

-- typedef void *T;
void_pointer_named : found (defines bases.Void 1 84 one ∷ []) ≡ fault 0 rules.IncompleteType
void_pointer_named = refl

-- typedef struct s T[2];
incomplete_elements : found (defines s_base 0 84 (many (number 2)) ∷ []) ≡ fault 0 rules.IncompleteType
incomplete_elements = refl

-- typedef int T[];
open_length : found (defines bases.Int 0 84 some ∷ []) ≡ fault 0 rules.ArrayLength
open_length = refl

-- typedef int T[0];
bad_length : found (defines bases.Int 0 84 (many (number 0)) ∷ []) ≡ fault 0 rules.ArrayLength
bad_length = refl

-- typedef char T[16777216];
large_kept : found (defines bases.Char 0 84 (many (number 16777216)) ∷ []) ≡ []
large_kept = refl

-- typedef char T[16777217];
large_broken : found (defines bases.Char 0 84 (many (number 16777217)) ∷ []) ≡ fault 0 rules.LargeType
large_broken = refl

-- typedef char T[3];T a[2];char b[sizeof(T)];
array_sizes : data_bytes (numbered_unit (defines bases.Char 0 84 (many (number 3)) ∷ global t_base 0 97 (many (number 2)) None ∷ global bases.Char 0 98 (many (e (trees.sizeof_type (record { base = t_base; stars = 0 })))) None ∷ [])) ≡ 11
array_sizes = refl

-- typedef int T[2];void f(T a){a=0;}
array_parameter : found (defines bases.Int 0 84 (many (number 2)) ∷ body bases.Void f_name (parameter t_base 0 (Some (97 ∷ [])) ∷ []) (eval (e (trees.assign assigns.Plain a (number 0))) ∷ []) ∷ []) ≡ []
array_parameter = refl

-- typedef int T[2];T f(void);
array_result : found (defines bases.Int 0 84 (many (number 2)) ∷ header t_base f_name [] ∷ []) ≡ fault 2 rules.SignatureType
array_result = refl

-- typedef unsigned T;int a[(T)3];
cast_lengths : found (defines bases.Unsigned 0 84 one ∷ global bases.Int 0 97 (many (e (trees.cast (record { base = t_base; stars = 0 }) (number 3)))) None ∷ []) ≡ []
cast_lengths = refl
