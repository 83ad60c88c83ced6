-- From source trees to core: the names of variables, and initialisers.
use Rattle.std.proofs.Common.{◌≡◌, ℕ, false, List, [], ◌∷◌, codes, Option, Some, None, refl}
use Rattle.std.specs.List.{slice_get}
use Rattle.qs_syntax.specs.declared.types.Base.TheVariants as bases
use Rattle.qs_syntax_vocabulary.specs.declared.operators.StepOperator.TheVariants as steps
use Rattle.qs_syntax.specs.Numbering.{numbered_unit}
use Rattle.qs_syntax.specs.Trees.{UnitTree, StmtTree, unnumbered, start_declaration, else_by}
use Rattle.qs_syntax.specs.Trees as trees
use Rattle.qs_memory.specs.Partial.{◌>>=◌}
use Rattle.qs_memory.specs.Memory.{zeros, repeated, nothing, joined}
use Rattle.qs_memory.specs.declared.scalar.Scalar.TheVariants.{Int, Pointer}
use Rattle.qs_memory.specs.declared.operation.Signedness.TheVariants as signs
use Rattle.qs_memory.specs.declared.operation.Direction.TheVariants.{Up}
use Rattle.qs_memory.specs.declared.operation.Arithmetic.TheVariants.{Subtract}
use Rattle.qs_memory.specs.declared.operation.BinaryOperation.TheVariants.{Arithmetic, Move}
use Rattle.qs_calls.specs.declared.callee.Callee.TheVariants.{Function}
use Rattle.qs_calls.specs.declared.parameter.Parameter.TheVariants.{Plain}
use Rattle.qs_core.specs.declared.numbers.BlockId.TheVariants.{Local, Data}
use Rattle.qs_core.specs.Trees.{CoreExprTree, literal, temporary, address_of, member, binary, CoreStmtTree, skip, store, copy, fill, call, branch, loop, break, return, CoreStmts, stmts_of, CoreVariableTree, CoreFunctionTree, CoreUnitTree}
use Rattle.qs_core.specs.Trees as core
use Rattle.qs_elaborate_bodies.specs.Parts.{keep, written, plain}
use Rattle.qs_elaborate_bodies.specs.Units.{core_of}
use Rattle.qs_meaning.proofs.Samples.{number, numbers, named, a, address, at, call as source_call, text, one, many, local, int_, array_, s_base, struct_s, eval, block, parameter, defined, main_name, main_, valued, listed}
use Rattle.qs_meaning.proofs.Samples as c

-- the function with this number
abbrev function_of : (number : ℕ) → UnitTree → Option CoreFunctionTree
function_of k unit = core_of (numbered_unit unit) >>= λ (u : CoreUnitTree). slice_get u.functions k

-- ---- names
-- int main(int x){{int x;x=1;}for(int x=2;x;x--);if(x){int x;x=3;}else{int x[2];x[0]=1;}{int x;x=4;&x;}int y;{int x;x=5;}return x;}

abbrev x : trees.ExprTree
x = named 120

-- x=n;
abbrev sets : ℕ → StmtTree
sets n = eval (c.set x (number n))

abbrev seven_variables : UnitTree
seven_variables =
    defined bases.Int 0 main_name (parameter bases.Int 0 120 ∷ [])
    (block (int_ 120 ∷ sets 1 ∷ [])
    ∷ trees.for_loop (unnumbered 0)
    (start_declaration (record { base = bases.Int; variables = record { declarator = c.declarator 0 120 one; initialiser = Some (valued (number 2)) } ∷ [] }))
    (Some x) (Some (c.e (trees.step steps.DecrementAfter x))) (trees.empty (unnumbered 0))
    ∷ trees.branch (unnumbered 0) x (block (int_ 120 ∷ sets 3 ∷ [])) (else_by (block (array_ 120 2 ∷ eval (c.set (at x (number 0)) (number 1)) ∷ [])))
    ∷ block (int_ 120 ∷ sets 4 ∷ eval (address x) ∷ [])
    ∷ int_ 121
    ∷ block (int_ 120 ∷ sets 5 ∷ [])
    ∷ c.return x
    ∷ [])
    ∷ []

abbrev int_named : List ℕ → ℕ → CoreVariableTree
int_named name k = record { name = name; ordinal = k; scalar = Int }

abbrev int_variable : ℕ → CoreExprTree
int_variable k = core.variable Int k

abbrev core_number : ℕ → CoreExprTree
core_number n = literal Int n

abbrev returns : CoreExprTree → CoreStmtTree
returns e = return (Some e)

-- the fifth x is the array, the sixth is placed
abbrev pub core_seven : CoreFunctionTree
core_seven = record {
  name = codes "main";
  parameters = record { name = codes "x"; place = Plain 0 } ∷ [];
  variables =
      int_named (codes "x") 1
      ∷ int_named (codes "x") 2
      ∷ int_named (codes "x") 3
      ∷ int_named (codes "x") 4
      ∷ int_named (codes "y") 1
      ∷ int_named (codes "x") 7
      ∷ [];
  temporaries = Pointer ∷ [];
  blocks = 8 ∷ 4 ∷ [];
  result_type = Some Int;
  body = stmts_of (
      written Int (plain 1) (core_number 1)
      ∷ written Int (plain 2) (core_number 2)
      ∷ loop (branch (int_variable 2) skip break) (written Int (plain 2) (binary (Arithmetic Subtract signs.Signed) (int_variable 2) (core_number 1)))
      ∷ branch (int_variable 0) (written Int (plain 3) (core_number 3)) (store Int (binary (Move Up signs.Signed 4) (address_of (Local 0)) (core_number 0)) (core_number 1))
      ∷ store Int (address_of (Local 1)) (core_number 4)
      ∷ keep 0 (address_of (Local 1))
      ∷ written Int (plain 5) (core_number 5)
      ∷ returns (int_variable 0)
      ∷ returns (core_number 0)
      ∷ []);
}

seven_in_core : function_of 0 seven_variables ≡ Some core_seven
seven_in_core = refl

-- ---- initialisers; behind struct s{char m;int n;}; int f(void){return 1;}

abbrev body_of_main : List StmtTree → Option CoreStmts
body_of_main ss =
    function_of 1 (struct_s ∷ defined bases.Int 0 (102 ∷ []) [] (c.return (number 1) ∷ []) ∷ main_ ss ∷ []) >>= λ (g : CoreFunctionTree). Some g.body

-- what a body has, and the end of main
abbrev does : List CoreStmtTree → Option CoreStmts
does ss = Some (stmts_of ss)

abbrev call_f : trees.ExprTree
call_f = source_call 102 []

abbrev calls_f : ℕ → CoreStmtTree
calls_f k = call (Some k) (Function (record { 0 = 0 })) []

abbrev result_f : ℕ → CoreExprTree
result_f k = temporary Int k

abbrev ends : CoreStmtTree
ends = returns (core_number 0)

-- int a=f();
plain_initialised : body_of_main (local bases.Int 0 97 one (Some (valued call_f)) ∷ []) ≡ does (calls_f 0 ∷ written Int (plain 0) (result_f 0) ∷ ends ∷ [])
plain_initialised = refl

-- int a=f();&a; the address is an operand before the call
placed_initialised :
    body_of_main (local bases.Int 0 97 one (Some (valued call_f)) ∷ eval (address a) ∷ [])
    ≡ does (keep 0 (address_of (Local 0)) ∷ calls_f 1 ∷ store Int (temporary Pointer 0) (result_f 1) ∷ keep 2 (address_of (Local 0)) ∷ ends ∷ [])
placed_initialised = refl

-- struct s a;struct s b=a;
struct_initialised :
    body_of_main (local s_base 0 97 one None ∷ local s_base 0 98 one (Some (valued a)) ∷ [])
    ≡ does (copy 8 4 (address_of (Local 1)) (address_of (Local 0)) ∷ ends ∷ [])
struct_initialised = refl

-- char a[4]="hi";
text_initialised :
    body_of_main (local bases.Char 0 97 (many 4) (Some (valued (text (104 ∷ 105 ∷ [])))) ∷ [])
    ≡ does (fill (repeated 4 (zeros 1)) (address_of (Local 0)) ∷ copy 3 1 (member 0 (address_of (Local 0))) (address_of (Data 0)) ∷ ends ∷ [])
text_initialised = refl

-- int a[2]={f(),7}; zeros first, and each address is an operand before its expression
list_initialised :
    body_of_main (local bases.Int 0 97 (many 2) (Some (listed (valued call_f ∷ valued (number 7) ∷ []))) ∷ [])
    ≡ does (
    fill (repeated 2 (zeros 4)) (address_of (Local 0))
    ∷ keep 0 (member 0 (address_of (Local 0)))
    ∷ calls_f 1
    ∷ store Int (temporary Pointer 0) (result_f 1)
    ∷ store Int (member 4 (address_of (Local 0))) (core_number 7)
    ∷ ends
    ∷ [])
list_initialised = refl

-- struct s a;struct s b[2]={a}; a struct in a list is copied
struct_in_list_initialised :
    body_of_main (local s_base 0 97 one None ∷ local s_base 0 98 (many 2) (Some (listed (valued a ∷ []))) ∷ [])
    ≡ does (
    fill (repeated 2 (joined (zeros 0) (joined (zeros 1) (joined (zeros 3) (joined (zeros 4) (joined (zeros 0) nothing)))))) (address_of (Local 1))
    ∷ copy 8 4 (member 0 (address_of (Local 1))) (address_of (Local 0))
    ∷ ends
    ∷ [])
struct_in_list_initialised = refl

-- int a[2][2]={{7},{8,9}}; only the expressions that are there are stored
inner_lists_initialised :
    body_of_main (local bases.Int 0 97 (record { is_open = false; given = number 2 ∷ number 2 ∷ [] })
    (Some (listed (listed (numbers (7 ∷ [])) ∷ listed (numbers (8 ∷ 9 ∷ [])) ∷ []))) ∷ [])
    ≡ does (
    fill (repeated 2 (repeated 2 (zeros 4))) (address_of (Local 0))
    ∷ store Int (member 0 (address_of (Local 0))) (core_number 7)
    ∷ store Int (member 8 (address_of (Local 0))) (core_number 8)
    ∷ store Int (member 12 (address_of (Local 0))) (core_number 9)
    ∷ ends
    ∷ [])
inner_lists_initialised = refl
