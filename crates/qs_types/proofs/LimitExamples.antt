-- The node at which each count passes its limit, at small limits and at those of the language.
use Rattle.std.proofs.Common.{◌≡◌, ℕ, true, false, List, [], ◌∷◌, map, Some, None, replicate, refl}
use Rattle.qs_syntax_vocabulary.specs.declared.operators.UnaryOperator.TheVariants as unaries
use Rattle.qs_syntax.specs.declared.types.Base.TheVariants as bases
use Rattle.qs_syntax.specs.Trees.{ExprTree, ParameterTree, unnumbered, UnitTree}
use Rattle.qs_syntax.specs.Trees as trees
use Rattle.qs_syntax.specs.Numbering.{numbered_unit}
use Rattle.qs_types.specs.GivenFunctions.{putchar_name, main_name}
use Rattle.qs_syntax.specs.Units.{height_limit}
use Rattle.qs_types.specs.Limits.{function_count, parameter_count, main_parameter_count, data_bytes, most_placed, node_limit, first_past_nodes, function_limit, first_past_functions, parameter_limit, first_past_parameters, first_past_globals, global_limit, first_past_locals, local_limit}
use Rattle.qs_types.specs.WellTyped.{first_undefined, has_main}
use Rattle.qs_types.proofs.RuleTrees.{e, number, a, call_f, one, many, global, local, valued, parameter, header, body, g, eval, f_name}

abbrev h_name : List ℕ
h_name = 104 ∷ []

abbrev text : List ℕ → ExprTree
text bytes = e (trees.text bytes)

abbrev empty : trees.StmtTree
empty = trees.empty (unnumbered 0)

-- ---- nodes: void g(void){;;} has three

nodes_at : first_past_nodes 3 (numbered_unit (g (empty ∷ empty ∷ []) ∷ [])) ≡ None
nodes_at = refl

nodes_past : first_past_nodes 2 (numbered_unit (g (empty ∷ empty ∷ []) ∷ [])) ≡ Some 2
nodes_past = refl

-- ---- functions: void f(void);void f(void);void h(void);int putchar(int);

abbrev headers : UnitTree
headers = numbered_unit (header bases.Void f_name [] ∷ header bases.Void f_name [] ∷ header bases.Void h_name [] ∷ header bases.Int putchar_name (parameter bases.Int 0 None ∷ []) ∷ [])

-- putchar counts where it is declared, and a name once
function_names : function_count headers ≡ 3
function_names = refl

functions_at : first_past_functions 3 headers ≡ None
functions_at = refl

putchar_counts : first_past_functions 2 headers ≡ Some 3
putchar_counts = refl

functions_past : first_past_functions 1 headers ≡ Some 2
functions_past = refl

-- ---- parameters: void f(int);void h(int,int,int);

abbrev parameters : UnitTree
parameters = numbered_unit (header bases.Void f_name (parameter bases.Int 0 None ∷ []) ∷ header bases.Void h_name (parameter bases.Int 0 None ∷ parameter bases.Int 0 None ∷ parameter bases.Int 0 None ∷ []) ∷ [])

most_parameters : parameter_count parameters ≡ 3
most_parameters = refl

parameters_at : first_past_parameters (λ name. 3) parameters ≡ None
parameters_at = refl

parameters_past : first_past_parameters (λ name. 2) parameters ≡ Some 5
parameters_past = refl

-- ---- the numbers of the language

node_limit_is : node_limit ≡ 10000
node_limit_is = refl

function_limit_is : function_limit ≡ 512
function_limit_is = refl

parameter_limits : map parameter_limit (f_name ∷ main_name ∷ []) ≡ 16 ∷ 8 ∷ []
parameter_limits = refl

global_limit_is : global_limit ≡ 16777216
global_limit_is = refl

local_limit_is : local_limit ≡ 1048576
local_limit_is = refl

height_limit_is : height_limit ≡ 128
height_limit_is = refl

abbrev int_parameters : ℕ → List ParameterTree
int_parameters n = replicate n (parameter bases.Int 0 None)

-- a header with so many parameters of type `int`
abbrev int_header : (name : List ℕ) → ℕ → UnitTree
int_header name n = numbered_unit (header bases.Int name (int_parameters n) ∷ [])

sixteen_parameters : first_past_parameters parameter_limit (int_header f_name 16) ≡ None
sixteen_parameters = refl

seventeen_parameters : first_past_parameters parameter_limit (int_header f_name 17) ≡ Some 17
seventeen_parameters = refl

eight_of_main : first_past_parameters parameter_limit (int_header main_name 8) ≡ None
eight_of_main = refl

nine_of_main : first_past_parameters parameter_limit (int_header main_name 9) ≡ Some 9
nine_of_main = refl

parameters_of_main : map main_parameter_count (int_header f_name 9 ∷ int_header main_name 9 ∷ []) ≡ 0 ∷ 9 ∷ []
parameters_of_main = refl

-- ---- data

-- char a[16777216];
largest_global : first_past_globals global_limit (numbered_unit (global bases.Char 0 97 (many (number 16777216)) None ∷ [])) ≡ None
largest_global = refl

-- char a[16777216];char b;
global_past : first_past_globals global_limit (numbered_unit (global bases.Char 0 97 (many (number 16777216)) None ∷ global bases.Char 0 98 one None ∷ [])) ≡ Some 2
global_past = refl

-- char a;int b; take 8 bytes
global_aligned : first_past_globals 7 (numbered_unit (global bases.Char 0 97 one None ∷ global bases.Int 0 98 one None ∷ [])) ≡ Some 1
global_aligned = refl

global_bytes : data_bytes (numbered_unit (global bases.Char 0 97 one None ∷ global bases.Int 0 98 one None ∷ [])) ≡ 8
global_bytes = refl

global_aligned_at : first_past_globals 8 (numbered_unit (global bases.Char 0 97 one None ∷ global bases.Int 0 98 one None ∷ [])) ≡ None
global_aligned_at = refl

-- void g(void){"x";}char a; the text lies behind the variable, at 4
text_behind : first_past_globals 5 (numbered_unit (g (eval (text (120 ∷ [])) ∷ []) ∷ global bases.Char 0 97 one None ∷ [])) ≡ Some 2
text_behind = refl

text_bytes : data_bytes (numbered_unit (g (eval (text (120 ∷ [])) ∷ []) ∷ global bases.Char 0 97 one None ∷ [])) ≡ 6
text_bytes = refl

text_behind_at : first_past_globals 6 (numbered_unit (g (eval (text (120 ∷ [])) ∷ []) ∷ global bases.Char 0 97 one None ∷ [])) ≡ None
text_behind_at = refl

-- char a[2]="xx"; takes 2 bytes
filled_at : first_past_globals 2 (numbered_unit (global bases.Char 0 97 (many (number 2)) (valued (text (120 ∷ 120 ∷ []))) ∷ [])) ≡ None
filled_at = refl

-- char *a="xx"; takes 4 bytes and 3
pointed : first_past_globals 6 (numbered_unit (global bases.Char 1 97 one (valued (text (120 ∷ 120 ∷ []))) ∷ [])) ≡ Some 1
pointed = refl

pointed_at : first_past_globals 7 (numbered_unit (global bases.Char 1 97 one (valued (text (120 ∷ 120 ∷ []))) ∷ [])) ≡ None
pointed_at = refl

-- void g(void){sizeof "xx";}
below_sizeof : first_past_globals 2 (numbered_unit (g (eval (e (trees.sizeof_expr (text (120 ∷ 120 ∷ [])))) ∷ []) ∷ [])) ≡ Some 3
below_sizeof = refl

-- ---- placed locals and parameters

-- void g(void){char a[1048576];}
largest_local : first_past_locals local_limit (numbered_unit (g (local bases.Char 0 97 (many (number 1048576)) None ∷ []) ∷ [])) ≡ None
largest_local = refl

-- void g(void){char a[1048577];}
local_past : first_past_locals local_limit (numbered_unit (g (local bases.Char 0 97 (many (number 1048577)) None ∷ []) ∷ [])) ≡ Some 1
local_past = refl

-- void g(void){char b[3];int a;&a;} takes 8 bytes
locals_rounded : first_past_locals 7 (numbered_unit (g (local bases.Char 0 98 (many (number 3)) None ∷ local bases.Int 0 97 one None ∷ eval (e (trees.unary unaries.Address a)) ∷ []) ∷ [])) ≡ Some 3
locals_rounded = refl

locals_bytes : most_placed (numbered_unit (g (local bases.Char 0 98 (many (number 3)) None ∷ local bases.Int 0 97 one None ∷ eval (e (trees.unary unaries.Address a)) ∷ []) ∷ [])) ≡ 8
locals_bytes = refl

locals_rounded_at : first_past_locals 8 (numbered_unit (g (local bases.Char 0 98 (many (number 3)) None ∷ local bases.Int 0 97 one None ∷ eval (e (trees.unary unaries.Address a)) ∷ []) ∷ [])) ≡ None
locals_rounded_at = refl

-- void g(void){char b[3];int a;a;} takes 4 bytes
plain_takes_none : first_past_locals 4 (numbered_unit (g (local bases.Char 0 98 (many (number 3)) None ∷ local bases.Int 0 97 one None ∷ eval a ∷ []) ∷ [])) ≡ None
plain_takes_none = refl

-- void f(int a){&a;} takes 4 bytes
parameter_placed : first_past_locals 3 (numbered_unit (body bases.Void f_name (parameter bases.Int 0 (Some (97 ∷ [])) ∷ []) (eval (e (trees.unary unaries.Address a)) ∷ []) ∷ [])) ≡ Some 1
parameter_placed = refl

-- void g(void){char b[3];}void f(void){char b[9];}void h(void){char b[5];}: the most of one function
most_of_one : most_placed (numbered_unit (g (local bases.Char 0 98 (many (number 3)) None ∷ []) ∷ body bases.Void f_name [] (local bases.Char 0 98 (many (number 9)) None ∷ []) ∷ body bases.Void h_name [] (local bases.Char 0 98 (many (number 5)) None ∷ []) ∷ [])) ≡ 12
most_of_one = refl

-- ---- functions without a body

-- void f(void);void f(void);void g(void){f();}
undefined : first_undefined (numbered_unit (header bases.Void f_name [] ∷ header bases.Void f_name [] ∷ g (eval (call_f []) ∷ []) ∷ [])) ≡ Some 0
undefined = refl

-- void f(void);void g(void){f();}void f(void){}
defined_behind : first_undefined (numbered_unit (header bases.Void f_name [] ∷ g (eval (call_f []) ∷ []) ∷ body bases.Void f_name [] [] ∷ [])) ≡ None
defined_behind = refl

-- void h(void);void f(void);void g(void){sizeof f();}
undefined_below_sizeof : first_undefined (numbered_unit (header bases.Void h_name [] ∷ header bases.Void f_name [] ∷ g (eval (e (trees.sizeof_expr (call_f []))) ∷ []) ∷ [])) ≡ Some 1
undefined_below_sizeof = refl

-- int putchar(int);void g(void){putchar(1);}
putchar_defined : first_undefined (numbered_unit (header bases.Int putchar_name (parameter bases.Int 0 None ∷ []) ∷ g (eval (e (trees.call putchar_name (trees.exprs_of (number 1 ∷ [])))) ∷ []) ∷ [])) ≡ None
putchar_defined = refl

-- int main(void);
main_without_body : has_main (numbered_unit (header bases.Int (109 ∷ 97 ∷ 105 ∷ 110 ∷ []) [] ∷ [])) ≡ false
main_without_body = refl

-- int main(void){}
main_with_body : has_main (numbered_unit (body bases.Int (109 ∷ 97 ∷ 105 ∷ 110 ∷ []) [] [] ∷ [])) ≡ true
main_with_body = refl
