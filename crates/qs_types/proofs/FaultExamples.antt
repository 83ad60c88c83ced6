-- Units that break a rule, each in a form that a weaker rule would let pass.
use Rattle.std.proofs.Common.{◌≡◌, ℕ, List, [], ◌∷◌, Some, None, refl}
use Rattle.qs_syntax_vocabulary.specs.declared.operators.BinaryOperator.{BinaryOperator}
use Rattle.qs_syntax_vocabulary.specs.declared.operators.BinaryOperator.TheVariants as binaries
use Rattle.qs_syntax_vocabulary.specs.declared.operators.StepOperator.TheVariants as steps
use Rattle.qs_syntax_vocabulary.specs.declared.operators.UnaryOperator.TheVariants as unaries
use Rattle.qs_syntax_vocabulary.specs.declared.operators.AssignmentOperator.{AssignmentOperator}
use Rattle.qs_syntax_vocabulary.specs.declared.operators.AssignmentOperator.TheVariants as assigns
use Rattle.qs_syntax_vocabulary.specs.declared.operators.Access.TheVariants as accesses
use Rattle.qs_syntax.specs.declared.types.Base.{Base}
use Rattle.qs_syntax.specs.declared.types.Base.TheVariants as bases
use Rattle.qs_syntax.specs.Trees.{unnumbered, ExprTree, StmtTree, DeclTree, LengthsTree, ParameterTree, structure, function, stmts_of, no_start, start_declaration, no_else}
use Rattle.qs_syntax.specs.Trees as trees
use Rattle.qs_types.specs.declared.rules.Rule.TheVariants as rules
use Rattle.qs_types.specs.declared.rules.Rule.{Rule}
use Rattle.qs_types.specs.GivenFunctions.{main_name, putchar_name}
use Rattle.qs_types.specs.Rules.{Fault}
use Rattle.qs_types.proofs.RuleTrees.{found, fault, e, number, a, b, call_f, one, many, some, declarator, global, local, listed, valued, s_base, struct_s, forward_s, parameter, header, body, g, eval, f_name}

-- ---- words

abbrev faults : (m : ℕ) → Rule → (n : ℕ) → Rule → List Fault
faults m r n s = record { node = m; rule = r } ∷ record { node = n; rule = s } ∷ []

abbrev empty : StmtTree
empty = trees.empty (unnumbered 0)

abbrev joined : BinaryOperator → ExprTree → ExprTree → ExprTree
joined operator x y = e (trees.binary operator x y)

abbrev assigned : AssignmentOperator → ExprTree → ExprTree → ExprTree
assigned operator x y = e (trees.assign operator x y)

abbrev name : ℕ → ExprTree
name x = e (trees.name (x ∷ []))

-- a parameter of this name with these lengths
abbrev sized_parameter : Base → (stars name : ℕ) → LengthsTree → ParameterTree
sized_parameter base stars name lengths =
    record { node = unnumbered 0; type_name = record { base = base; stars = stars }; name = Some (name ∷ []); lengths = lengths }

-- a function with this result, which may have stars
abbrev starred : Base → (stars : ℕ) → List ℕ → List StmtTree → DeclTree
starred base stars name ss =
    function (record { node = unnumbered 0; result_type = record { base = base; stars = stars }; name = name; parameters = []; body = Some (stmts_of ss) })

abbrev starred_header : Base → (stars : ℕ) → List ℕ → DeclTree
starred_header base stars name =
    function (record { node = unnumbered 0; result_type = record { base = base; stars = stars }; name = name; parameters = []; body = None })

-- a struct with one member int m of these lengths
abbrev struct_of : (tag : ℕ) → LengthsTree → DeclTree
struct_of tag lengths =
    structure (record { node = unnumbered 0; name = Some (tag ∷ []); members = record { base = bases.Int; declarators = declarator 0 109 lengths ∷ [] } ∷ [] })

abbrev t_base : Base
t_base = bases.Struct (116 ∷ [])

-- void g(void) { .. } behind struct s {int m;}; and struct s a;
abbrev with_struct : List StmtTree → List DeclTree
with_struct ss = struct_s ∷ global s_base 0 97 one None ∷ g ss ∷ []

abbrev with_structs : List StmtTree → List DeclTree
with_structs ss = struct_s ∷ global s_base 0 97 one None ∷ global s_base 0 98 one None ∷ g ss ∷ []

-- ---- one scope for a name (K1)

-- void f(int a){int a;}
parameter_hidden : found (body bases.Void f_name (parameter bases.Int 0 (Some (97 ∷ [])) ∷ []) (local bases.Int 0 97 one None ∷ []) ∷ []) ≡ fault 2 rules.DeclaredTwice
parameter_hidden = refl

-- void f(int a,int a);
parameters_alike : found (header bases.Void f_name (parameter bases.Int 0 (Some (97 ∷ [])) ∷ parameter bases.Int 0 (Some (97 ∷ [])) ∷ []) ∷ []) ≡ fault 2 rules.DeclaredTwice
parameters_alike = refl

-- void f(void){}void f(void){}
two_bodies : found (body bases.Void f_name [] [] ∷ body bases.Void f_name [] [] ∷ []) ≡ fault 1 rules.DeclaredTwice
two_bodies = refl

-- int putchar(int c){return c;}
putchar_with_body : found (body bases.Int putchar_name (parameter bases.Int 0 (Some (99 ∷ [])) ∷ []) (trees.return (unnumbered 0) (Some (name 99)) ∷ []) ∷ []) ≡ fault 0 rules.DeclaredTwice
putchar_with_body = refl

-- int putchar; at file scope
putchar_a_variable : found (trees.variables (record { base = bases.Int; variables = record { declarator = record { node = unnumbered 0; stars = 0; name = putchar_name; lengths = one }; initialiser = None } ∷ [] }) ∷ []) ≡ fault 0 rules.DeclaredTwice
putchar_a_variable = refl

-- int a;int a;
globals_alike : found (global bases.Int 0 97 one None ∷ global bases.Int 0 97 one None ∷ []) ≡ fault 1 rules.DeclaredTwice
globals_alike = refl

-- int f(void);int f;
function_and_global : found (header bases.Int f_name [] ∷ global bases.Int 0 102 one None ∷ []) ≡ fault 1 rules.DeclaredTwice
function_and_global = refl

-- void g(void){for(int i;;){}i;}  (K2)
behind_its_loop : found (g (trees.for_loop (unnumbered 0) (start_declaration (record { base = bases.Int; variables = record { declarator = declarator 0 105 one; initialiser = None } ∷ [] })) None None (trees.block (stmts_of [])) ∷ eval (name 105) ∷ []) ∷ []) ≡ fault 4 rules.UnknownVariable
behind_its_loop = refl

-- ---- void and incomplete types (K7)

-- void f(void *p);
void_parameter : found (header bases.Void f_name (parameter bases.Void 1 (Some (112 ∷ [])) ∷ []) ∷ []) ≡ fault 1 rules.IncompleteType
void_parameter = refl

-- void *f(void);
void_pointer_result : found (starred_header bases.Void 1 f_name ∷ []) ≡ fault 0 rules.IncompleteType
void_pointer_result = refl

-- void g(void){sizeof(void);}
size_of_void : found (g (eval (e (trees.sizeof_type (record { base = bases.Void; stars = 0 }))) ∷ []) ∷ []) ≡ faults 2 rules.IncompleteType 2 rules.IncompleteType
size_of_void = refl

-- void g(void){(void)1;}
cast_to_void : found (g (eval (e (trees.cast (record { base = bases.Void; stars = 0 }) (number 1))) ∷ []) ∷ []) ≡ faults 2 rules.IncompleteType 2 rules.CastType
cast_to_void = refl

-- struct s;void g(void){sizeof(struct s);}
size_of_incomplete : found (forward_s ∷ g (eval (e (trees.sizeof_type (record { base = s_base; stars = 0 }))) ∷ []) ∷ []) ≡ fault 3 rules.IncompleteType
size_of_incomplete = refl

-- struct s;struct s a[2];
incomplete_elements : found (forward_s ∷ global s_base 0 97 (many (number 2)) None ∷ []) ≡ fault 1 rules.IncompleteType
incomplete_elements = refl

-- ---- lengths (K9)

-- void f(int a[0]);
parameter_of_none : found (header bases.Void f_name (sized_parameter bases.Int 0 97 (many (number 0)) ∷ []) ∷ []) ≡ fault 1 rules.ArrayLength
parameter_of_none = refl

-- struct s {int m[];};
member_open : found (struct_of 115 some ∷ []) ≡ fault 1 rules.ArrayLength
member_open = refl

-- ---- signatures (K11, K12)

-- struct s {int m;};struct s f(void);
struct_result : found (struct_s ∷ header s_base f_name [] ∷ []) ≡ fault 2 rules.SignatureType
struct_result = refl

-- int main(int *a);
main_of_pointer : found (header bases.Int main_name (parameter bases.Int 1 (Some (97 ∷ [])) ∷ []) ∷ []) ≡ fault 0 rules.MainType
main_of_pointer = refl

-- void main(void){}
main_void : found (body bases.Void main_name [] [] ∷ []) ≡ fault 0 rules.MainType
main_void = refl

-- ---- operators (K16 to K22)

-- void g(void){1++;}
step_of_number : found (g (eval (e (trees.step steps.IncrementAfter (number 1))) ∷ []) ∷ []) ≡ fault 2 rules.StepOperand
step_of_number = refl

-- void g(void){int *a;1-a;}
number_less_pointer : found (g (local bases.Int 1 97 one None ∷ eval (joined binaries.Subtract (number 1) a) ∷ []) ∷ []) ≡ fault 3 rules.SumOperands
number_less_pointer = refl

-- void g(void){int *a;char *b;a-b;}
difference_of_two : found (g (local bases.Int 1 97 one None ∷ local bases.Char 1 98 one None ∷ eval (joined binaries.Subtract a b) ∷ []) ∷ []) ≡ fault 4 rules.SumOperands
difference_of_two = refl

-- void g(void){int *a;char *b;a<b;}
order_of_two : found (g (local bases.Int 1 97 one None ∷ local bases.Char 1 98 one None ∷ eval (joined binaries.Less a b) ∷ []) ∷ []) ≡ fault 4 rules.OrderOperands
order_of_two = refl

-- void g(void){int *a;char *b;a==b;}
equality_of_two : found (g (local bases.Int 1 97 one None ∷ local bases.Char 1 98 one None ∷ eval (joined binaries.Equal a b) ∷ []) ∷ []) ≡ fault 4 rules.EqualityOperands
equality_of_two = refl

-- struct s a;void g(void){a&&1;}
struct_and : found (with_struct (eval (joined binaries.And a (number 1)) ∷ [])) ≡ faults 5 rules.TruthOperand 6 rules.MisplacedValue
struct_and = refl

-- struct s a;void g(void){1||a;}
or_struct : found (with_struct (eval (joined binaries.Or (number 1) a) ∷ [])) ≡ faults 5 rules.TruthOperand 7 rules.MisplacedValue
or_struct = refl

-- struct s a;void g(void){if(a);}
if_struct : found (with_struct (trees.branch (unnumbered 0) a empty no_else ∷ [])) ≡ faults 4 rules.TruthOperand 5 rules.MisplacedValue
if_struct = refl

-- struct s a;void g(void){do;while(a);}
do_struct : found (with_struct (trees.do_loop (unnumbered 0) empty a ∷ [])) ≡ faults 4 rules.TruthOperand 6 rules.MisplacedValue
do_struct = refl

-- struct s a;void g(void){for(;a;);}
for_struct : found (with_struct (trees.for_loop (unnumbered 0) no_start (Some a) None empty ∷ [])) ≡ faults 4 rules.TruthOperand 5 rules.MisplacedValue
for_struct = refl

-- struct s a;void g(void){a?1:2;}
choice_by_struct : found (with_struct (eval (e (trees.conditional a (number 1) (number 2))) ∷ [])) ≡ faults 5 rules.BranchTypes 6 rules.MisplacedValue
choice_by_struct = refl

-- ---- assignments (K23, K24)

-- void g(void){1=2;}
number_assigned : found (g (eval (assigned assigns.Plain (number 1) (number 2)) ∷ []) ∷ []) ≡ fault 2 rules.AssignedType
number_assigned = refl

-- void g(void){int *a;a=1;}
pointer_from_number : found (g (local bases.Int 1 97 one None ∷ eval (assigned assigns.Plain a (number 1)) ∷ []) ∷ []) ≡ fault 3 rules.AssignedType
pointer_from_number = refl

-- struct s a;struct t b;void g(void){a=b;}
structs_of_two : found (struct_s ∷ struct_of 116 one ∷ global s_base 0 97 one None ∷ global t_base 0 98 one None ∷ g (eval (assigned assigns.Plain a b) ∷ []) ∷ []) ≡ fault 8 rules.AssignedType
structs_of_two = refl

-- void g(void){int a;int *b;a+=b;}
number_moved_by_pointer : found (g (local bases.Int 0 97 one None ∷ local bases.Int 1 98 one None ∷ eval (assigned assigns.Add a b) ∷ []) ∷ []) ≡ fault 4 rules.CompoundOperands
number_moved_by_pointer = refl

-- void g(void){int a[2];a+=1;}
array_moved : found (g (local bases.Int 0 97 (many (number 2)) None ∷ eval (assigned assigns.Add a (number 1)) ∷ []) ∷ []) ≡ fault 4 rules.CompoundOperands
array_moved = refl

-- ---- members and casts (K25, K26)

-- struct s a;void g(void){a->m;}
arrow_of_struct : found (with_struct (eval (e (trees.member accesses.Arrow a (109 ∷ []))) ∷ [])) ≡ faults 5 rules.UnknownMember 6 rules.MisplacedValue
arrow_of_struct = refl

-- struct s *a;void g(void){a.m;}
dot_of_pointer : found (struct_s ∷ global s_base 1 97 one None ∷ g (eval (e (trees.member accesses.Dot a (109 ∷ []))) ∷ []) ∷ []) ≡ fault 5 rules.UnknownMember
dot_of_pointer = refl

-- struct s;struct s *a;void g(void){a->m;}
arrow_of_incomplete : found (forward_s ∷ global s_base 1 97 one None ∷ g (eval (e (trees.member accesses.Arrow a (109 ∷ []))) ∷ []) ∷ []) ≡ fault 4 rules.UnknownMember
arrow_of_incomplete = refl

-- void g(void){int *a;(int)a;}
pointer_to_int : found (g (local bases.Int 1 97 one None ∷ eval (e (trees.cast (record { base = bases.Int; stars = 0 }) a)) ∷ []) ∷ []) ≡ fault 3 rules.CastType
pointer_to_int = refl

-- struct s {int m;};void g(void){(struct s)1;}
number_to_struct : found (struct_s ∷ g (eval (e (trees.cast (record { base = s_base; stars = 0 }) (number 1))) ∷ []) ∷ []) ≡ fault 4 rules.CastType
number_to_struct = refl

-- ---- jumps (K27, K28)

-- int f(void){return;}
return_without : found (starred bases.Int 0 f_name (trees.return (unnumbered 0) None ∷ []) ∷ []) ≡ fault 1 rules.ReturnedType
return_without = refl

-- int *f(void){return 1;}
pointer_returned : found (starred bases.Int 1 f_name (trees.return (unnumbered 0) (Some (number 1)) ∷ []) ∷ []) ≡ fault 1 rules.ReturnedType
pointer_returned = refl

-- void g(void){continue;}
continue_alone : found (g (trees.continue (unnumbered 0) ∷ []) ∷ []) ≡ fault 1 rules.MisplacedJump
continue_alone = refl

-- void g(void){while(1);break;}
break_behind : found (g (trees.while_loop (unnumbered 0) (number 1) empty ∷ trees.break (unnumbered 0) ∷ []) ∷ []) ≡ fault 4 rules.MisplacedJump
break_behind = refl

-- ---- where values stand (K29)

-- struct s a;struct s b;void g(void){(a=b).m;}
assigned_member : found (with_structs (eval (e (trees.member accesses.Dot (assigned assigns.Plain a b) (109 ∷ []))) ∷ [])) ≡ faults 6 rules.UnknownMember 7 rules.MisplacedValue
assigned_member = refl

-- struct s a;struct s b;void g(void){a=b,a=b;}
comma_of_structs : found (with_structs (eval (e (trees.comma (assigned assigns.Plain a b) (assigned assigns.Plain a b))) ∷ [])) ≡ fault 6 rules.MisplacedValue
comma_of_structs = refl

-- struct s a;void g(void){sizeof(1,a);}
size_of_comma : found (with_struct (eval (e (trees.sizeof_expr (e (trees.comma (number 1) a)))) ∷ [])) ≡ fault 8 rules.MisplacedValue
size_of_comma = refl

-- void f(void);void g(void){1+f();}
void_call_added : found (header bases.Void f_name [] ∷ g (eval (joined binaries.Add (number 1) (call_f [])) ∷ []) ∷ []) ≡ faults 3 rules.SumOperands 5 rules.MisplacedValue
void_call_added = refl

-- ---- initialisers (K30)

-- int b[2];int a[2]=b;
array_from_array : found (global bases.Int 0 98 (many (number 2)) None ∷ global bases.Int 0 97 (many (number 2)) (valued b) ∷ []) ≡ fault 2 rules.InitialiserType
array_from_array = refl

-- struct s b;struct s a=b;
struct_of_file_scope : found (struct_s ∷ global s_base 0 98 one None ∷ global s_base 0 97 one (valued b) ∷ []) ≡ fault 3 rules.InitialiserType
struct_of_file_scope = refl

-- int b[1];int *a=&b[0];
address_of_element : found (global bases.Int 0 98 (many (number 1)) None ∷ global bases.Int 1 97 one (valued (e (trees.unary unaries.Address (e (trees.subscript b (number 0)))))) ∷ []) ≡ fault 2 rules.InitialiserType
address_of_element = refl

-- char a[3]={"ab"};
text_in_list : found (global bases.Char 0 97 (many (number 3)) (listed (trees.value (e (trees.text (97 ∷ 98 ∷ []))) ∷ [])) ∷ []) ≡ fault 2 rules.InitialiserType
text_in_list = refl
