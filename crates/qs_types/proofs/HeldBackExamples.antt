-- Which rules wait for the types of a node's parts, and which parts of a struct, a list or a header are at fault.
use Rattle.std.proofs.Common.{◌≡◌, false, List, [], ◌∷◌, None, Some, refl}
use Rattle.qs_syntax_vocabulary.specs.declared.operators.BinaryOperator.TheVariants as binaries
use Rattle.qs_syntax.specs.declared.types.Base.TheVariants as bases
use Rattle.qs_syntax.specs.Trees.{unnumbered, structure, DeclTree, DeclaratorTree, initialisers_of}
use Rattle.qs_syntax.specs.Trees as trees
use Rattle.qs_types.specs.declared.rules.Rule.TheVariants as rules
use Rattle.qs_types.specs.GivenFunctions.{main_name}
use Rattle.qs_types.proofs.RuleTrees.{found, fault, e, number, a, x, call_f, one, many, declarator, global, local, listed, valued, s_base, struct_s, parameter, header, g, eval, f_name}

-- ---- initialisers without type

-- void *a=x;
held_back : found (global bases.Void 1 97 one (valued x) ∷ []) ≡ fault 1 rules.UnknownVariable
held_back = refl

-- int a[0]=x;
held_back_2 : found (global bases.Int 0 97 (many (number 0)) (valued x) ∷ []) ≡ fault 2 rules.UnknownVariable
held_back_2 = refl

-- void g(void){int a;int a=x;}
held_back_3 : found (g (local bases.Int 0 97 one None ∷ local bases.Int 0 97 one (valued x) ∷ []) ∷ []) ≡ fault 3 rules.UnknownVariable
held_back_3 = refl

-- void *a=a;
names_itself : found (global bases.Void 1 97 one (valued a) ∷ []) ≡ fault 0 rules.IncompleteType
names_itself = refl

-- struct s a=a; without struct s
names_itself_2 : found (global s_base 0 97 one (valued a) ∷ []) ≡ fault 0 rules.UnknownTag
names_itself_2 = refl

-- void *a={x};
list_holds_nothing : found (global bases.Void 1 97 one (listed (trees.value x ∷ [])) ∷ [])
    ≡ record { node = 0; rule = rules.IncompleteType } ∷ record { node = 2; rule = rules.UnknownVariable } ∷ []
list_holds_nothing = refl

-- void f(void);void *a=f();
void_has_type : found (header bases.Void f_name [] ∷ global bases.Void 1 97 one (valued (call_f [])) ∷ [])
    ≡ record { node = 1; rule = rules.IncompleteType } ∷ record { node = 2; rule = rules.MisplacedValue } ∷ []
void_has_type = refl

-- ---- members that are too large

abbrev struct_of : List DeclaratorTree → DeclTree
struct_of ds = structure (record { node = unnumbered 0; name = Some (115 ∷ []); members = record { base = bases.Char; declarators = ds } ∷ [] })

-- struct s {char m[16777216];};
largest_struct : found (struct_of (declarator 0 109 (many (number 16777216)) ∷ []) ∷ []) ≡ []
largest_struct = refl

-- struct s {char m[16777216],n;};
member_past : found (struct_of (declarator 0 109 (many (number 16777216)) ∷ declarator 0 110 one ∷ []) ∷ []) ≡ fault 3 rules.LargeType
member_past = refl

-- struct s {char m,n[16777216],o;};
member_too_large : found (struct_of (declarator 0 109 one ∷ declarator 0 110 (many (number 16777216)) ∷ declarator 0 111 one ∷ []) ∷ []) ≡ fault 2 rules.LargeType
member_too_large = refl

-- struct s {char m[16777217],n;};
member_itself_large : found (struct_of (declarator 0 109 (many (number 16777217)) ∷ declarator 0 110 one ∷ []) ∷ []) ≡ fault 1 rules.LargeType
member_itself_large = refl

-- ---- lists

-- int a[1]={1,2};
list_too_long : found (global bases.Int 0 97 (many (number 1)) (listed (trees.value (number 1) ∷ trees.value (number 2) ∷ [])) ∷ []) ≡ fault 0 rules.InitialiserType
list_too_long = refl

-- int a[1][1]={{1,2}};
inner_too_long : found (global bases.Int 0 97 (record { is_open = false; given = number 1 ∷ number 1 ∷ [] }) (listed (trees.list (unnumbered 0) (initialisers_of (trees.value (number 1) ∷ trees.value (number 2) ∷ [])) ∷ [])) ∷ [])
    ≡ fault 3 rules.InitialiserType
inner_too_long = refl

-- int a={1};
list_for_scalar : found (global bases.Int 0 97 one (listed (trees.value (number 1) ∷ [])) ∷ []) ≡ fault 0 rules.InitialiserType
list_for_scalar = refl

-- int a[1]={{1}};
list_in_list : found (global bases.Int 0 97 (many (number 1)) (listed (trees.list (unnumbered 0) (initialisers_of (trees.value (number 1) ∷ [])) ∷ [])) ∷ []) ≡ fault 2 rules.InitialiserType
list_in_list = refl

-- struct s {int m;};struct s a={1,2};
struct_list_too_long : found (struct_s ∷ global s_base 0 97 one (listed (trees.value (number 1) ∷ trees.value (number 2) ∷ [])) ∷ []) ≡ fault 2 rules.InitialiserType
struct_list_too_long = refl

-- int a[2]={1};
list_shorter : found (global bases.Int 0 97 (many (number 2)) (listed (trees.value (number 1) ∷ [])) ∷ []) ≡ []
list_shorter = refl

-- ---- headers with a part that has no type

abbrev array_parameter : List trees.ExprTree → trees.ParameterTree
array_parameter lengths = record { node = unnumbered 0; type_name = record { base = bases.Int; stars = 0 }; name = Some (97 ∷ []); lengths = record { is_open = false; given = lengths } }

-- int main(int a[x]);
first_length_without_type : found (header bases.Int main_name (array_parameter (x ∷ []) ∷ []) ∷ [])
    ≡ record { node = 0; rule = rules.MainType } ∷ record { node = 2; rule = rules.UnknownVariable } ∷ []
first_length_without_type = refl

-- int main(int a[1][x]);
inner_length_without_type : found (header bases.Int main_name (array_parameter (number 1 ∷ x ∷ []) ∷ []) ∷ []) ≡ fault 3 rules.UnknownVariable
inner_length_without_type = refl

-- int f(int);int f(int a[x]);
pointer_after_all : found (header bases.Int f_name (parameter bases.Int 0 None ∷ []) ∷ header bases.Int f_name (array_parameter (x ∷ []) ∷ []) ∷ [])
    ≡ record { node = 2; rule = rules.DeclaredTwice } ∷ record { node = 4; rule = rules.UnknownVariable } ∷ []
pointer_after_all = refl

-- int f(int);int f(struct s);
part_without_type : found (header bases.Int f_name (parameter bases.Int 0 None ∷ []) ∷ header bases.Int f_name (parameter s_base 0 None ∷ []) ∷ []) ≡ fault 3 rules.UnknownTag
part_without_type = refl

-- int f(int);char f(struct s);
other_part_differs : found (header bases.Int f_name (parameter bases.Int 0 None ∷ []) ∷ header bases.Char f_name (parameter s_base 0 None ∷ []) ∷ [])
    ≡ record { node = 2; rule = rules.DeclaredTwice } ∷ record { node = 3; rule = rules.UnknownTag } ∷ []
other_part_differs = refl

-- int f(void);int f(struct s);
count_differs : found (header bases.Int f_name [] ∷ header bases.Int f_name (parameter s_base 0 None ∷ []) ∷ [])
    ≡ record { node = 1; rule = rules.DeclaredTwice } ∷ record { node = 2; rule = rules.UnknownTag } ∷ []
count_differs = refl

-- int main(struct s);
main_without_type : found (header bases.Int main_name (parameter s_base 0 None ∷ []) ∷ []) ≡ fault 1 rules.UnknownTag
main_without_type = refl

-- char main(struct s);
main_result_differs : found (header bases.Char main_name (parameter s_base 0 None ∷ []) ∷ [])
    ≡ record { node = 0; rule = rules.MainType } ∷ record { node = 1; rule = rules.UnknownTag } ∷ []
main_result_differs = refl

-- int f(int);struct s {int m;};int f(struct s);
struct_has_type : found (header bases.Int f_name (parameter bases.Int 0 None ∷ []) ∷ struct_s ∷ header bases.Int f_name (parameter s_base 0 None ∷ []) ∷ [])
    ≡ record { node = 4; rule = rules.DeclaredTwice } ∷ record { node = 5; rule = rules.SignatureType } ∷ []
struct_has_type = refl

-- ---- cases that just aren't faults

-- void f(int);void g(void){f(1);}
argument_count_kept : found (header bases.Void f_name (parameter bases.Int 0 (None) ∷ []) ∷ g (eval (call_f (number 1 ∷ [])) ∷ []) ∷ []) ≡ []
argument_count_kept = refl

-- void g(void){int *a;a<a;}
order_operands_kept : found (g (local bases.Int 1 97 one None ∷ eval (e (trees.binary binaries.Less a a)) ∷ []) ∷ []) ≡ []
order_operands_kept = refl

-- void g(void){int *a;a<0;}
order_operands_broken : found (g (local bases.Int 1 97 one None ∷ eval (e (trees.binary binaries.Less a (number 0))) ∷ []) ∷ []) ≡ fault 3 rules.OrderOperands
order_operands_broken = refl
