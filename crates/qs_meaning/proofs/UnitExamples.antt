-- What units do that have several declarations, parameters, structs in structs; the trees of their functions; roots.
use Rattle.std.proofs.Common.{◌≡◌, ℕ, false, [], ◌∷◌, List, Option, Some, None, refl}
use Rattle.qs_syntax.specs.declared.types.Base.{Base}
use Rattle.qs_syntax.specs.declared.types.Base.TheVariants as bases
use Rattle.qs_syntax_vocabulary.specs.declared.operators.BinaryOperator.TheVariants as binaries
use Rattle.qs_syntax.specs.Trees.{unnumbered, start_expression, start_declaration, else_by, UnitTree}
use Rattle.qs_syntax.specs.Trees as trees
use Rattle.qs_memory.specs.declared.scalar.Scalar.TheVariants.{Char, Int}
use Rattle.qs_memory.specs.declared.operation.Signedness.TheVariants.{Signed}
use Rattle.qs_memory.specs.declared.operation.Arithmetic.TheVariants.{Add}
use Rattle.qs_memory.specs.declared.operation.Comparison.TheVariants.{Less}
use Rattle.qs_memory.specs.declared.operation.BinaryOperation.TheVariants.{Arithmetic, Compare}
use Rattle.qs_memory.specs.Partial.{◌>>=◌}
use Rattle.qs_memory.specs.Values.{Value, integer}
use Rattle.qs_events.specs.Events.{Calls, Returns}
use Rattle.qs_events.specs.BoundedRun.{Ended, Undefined}
use Rattle.qs_events.specs.Runs.{emit, undefined, ended}
use Rattle.qs_calls.specs.World.{RootRun}
use Rattle.qs_calls.specs.declared.parameter.Parameter.TheVariants.{Plain, Placed}
use Rattle.qs_meaning.specs.Typed.{unchanged, converted, as_written, Expr, constant, value, pointer_to, binary, variable, object, set, update, nothing, discard, assign, in_order, evaluate, block, branch, while_loop, do_loop, for_loop, break, continue, return, no_stmts, stmt_and, local, Function, TypedProgram}
use Rattle.qs_meaning.specs.Runs.{run_of, source_run}
use Rattle.qs_meaning.proofs.Samples as c
use Rattle.qs_meaning.proofs.Samples.{number, a, b, i, p, op, plus, less, address, deref, dot, call, text, one, many, int_, pointer_, two_ints, struct_named, member_of, header, main_name, eval, when, parameter, defined, main_, valued, listed, numbers, global}
use Rattle.qs_meaning.proofs.Outcomes.{typed_program, program_of, outcome, of_main, ends}

-- ---- statements and declarations

-- if(0)return 1;else return 2;
else_taken : of_main (trees.branch (unnumbered 0) (number 0) (c.return (number 1)) (else_by (c.return (number 2))) ∷ []) ≡ ends 2
else_taken = refl

-- int i; for(i=2;i<3;i++); return i;
for_starts : of_main (int_ 105 ∷ trees.for_loop (unnumbered 0) (start_expression (c.set i (number 2))) (Some (less i (number 3))) (Some (c.after i))
    (trees.empty (unnumbered 0)) ∷ c.return i ∷ []) ≡ ends 3
for_starts = refl

-- int a=1,b=2; return b*10+a;
two_locals : of_main (trees.declaration (two_ints 97 (Some (valued (number 1))) 98 (Some (valued (number 2)))) ∷ c.return (plus (op binaries.Multiply b (number 10)) a) ∷
    []) ≡ ends 21
two_locals = refl

-- int a,b=7; int main(void){a=1;return b*10+a;}
two_globals : outcome (trees.variables (two_ints 97 None 98 (Some (valued (number 7)))) ∷ main_
    (eval (c.set a (number 1)) ∷ c.return (plus (op binaries.Multiply b (number 10)) a) ∷ []) ∷ []) ≡ ends 71
two_globals = refl

-- int *p; {int a; a=5; p=&a;} return *p; a local lives as long as its call
inner_local_lives : of_main (pointer_ 112 ∷ c.block (int_ 97 ∷ eval (c.set a (number 5)) ∷ eval (c.set p (address a)) ∷ []) ∷ c.return (deref p) ∷ []) ≡ ends 5
inner_local_lives = refl

-- ---- functions

-- int f(int a,int b){return a*10+b;} int main(void){int a;a=1;return f(a,a=2);}
arguments_in_order :
    outcome (defined bases.Int 0 (102 ∷ []) (parameter bases.Int 0 97 ∷ parameter bases.Int 0 98 ∷ []) (c.return (plus (op binaries.Multiply a (number 10)) b) ∷ [])
    ∷ main_ (int_ 97 ∷ eval (c.set a (number 1)) ∷ c.return (call 102 (a ∷ c.set a (number 2) ∷ [])) ∷ []) ∷ [])
    ≡ Some (Ended (Calls 1 ∷ Calls 0 ∷ Returns 0 ∷ Returns 1 ∷ []) 12)
arguments_in_order = refl

-- int f(void); int main(void){return f();} int f(void){return 5;}
header_before_body : outcome (header bases.Int 0 (102 ∷ []) [] ∷ main_ (c.return (call 102 []) ∷ []) ∷ defined bases.Int 0 (102 ∷ []) [] (c.return (number 5) ∷ []) ∷
    []) ≡ Some (Ended (Calls 0 ∷ Calls 1 ∷ Returns 1 ∷ Returns 0 ∷ []) 5)
header_before_body = refl

-- int f(void); int main(void){f();return 3;} is not well typed; its run is undefined at the call
no_body :
    (typed_program (header bases.Int 0 (102 ∷ []) [] ∷ main_ (eval (call 102 []) ∷ c.return (number 3) ∷ []) ∷ []) >>= λ u. Some (source_run u [] [] 3))
    ≡ Some (Undefined (Calls 0 ∷ []))
no_body = refl

-- int a; int main(void){if(a==0){a=1;return main()+7;}} the end of main returns 0, also where it is called
called_main :
    outcome (global bases.Int 0 97 one None ∷ main_ (when (op binaries.Equal a (number 0))
    (c.block (eval (c.set a (number 1)) ∷ c.return (plus (c.e (trees.call main_name trees.no_exprs)) (number 7)) ∷ [])) ∷ []) ∷ [])
    ≡ Some (Ended (Calls 0 ∷ Calls 0 ∷ Returns 0 ∷ Returns 0 ∷ []) 7)
called_main = refl

-- int main(int a,int b){return a*10+b;} with 4 and 2
main_with_arguments :
    (program_of (defined bases.Int 0 main_name (parameter bases.Int 0 97 ∷ parameter bases.Int 0 98 ∷ []) (c.return (plus (op binaries.Multiply a (number 10)) b) ∷ []) ∷
    []) >>= λ u. Some (source_run u (integer 4 ∷ integer 2 ∷ []) [] 1))
    ≡ Some (Ended (Calls 0 ∷ Returns 0 ∷ []) 42)
main_with_arguments = refl

-- ---- roots: int f(int a){return a+1;}

abbrev root_run : ℕ → List Value → Option RootRun
root_run root xs = program_of (defined bases.Int 0 (102 ∷ []) (parameter bases.Int 0 97 ∷ []) (c.return (plus a (number 1)) ∷ []) ∷ []) >>= λ u. Some
    (run_of u root xs (record { memory = []; input = 9 ∷ [] }) 1)

-- what is left: the result, the memory, the input
root_ends : root_run 0 (integer 299 ∷ []) ≡ Some (emit (Calls 0) (emit (Returns 0) (ended (record { result = Some (integer 300); memory = []; input = 9 ∷ [] }))))
root_ends = refl

no_such_root : root_run 7 (integer 299 ∷ []) ≡ Some undefined
no_such_root = refl

-- 6.5.2.2p6: as many arguments as parameters
too_few_arguments : root_run 0 [] ≡ Some (emit (Calls 0) undefined)
too_few_arguments = refl

too_many_arguments : root_run 0 (integer 1 ∷ integer 2 ∷ []) ≡ Some (emit (Calls 0) undefined)
too_many_arguments = refl

-- int main(void){return 0;} with an argument
argument_of_main :
    (program_of (main_ (c.return (number 0) ∷ []) ∷ []) >>= λ u. Some (source_run u (integer 4 ∷ []) [] 1))
    ≡ Some (Undefined (Calls 0 ∷ []))
argument_of_main = refl

-- ---- structs

abbrev t_base : Base
t_base = bases.Struct (116 ∷ [])

abbrev r_base : Base
r_base = bases.Struct (114 ∷ [])

-- struct t {int n;char m;}; struct t a; struct t b; int main(void){b.n=3;b.m=4;a=b;return a.n*10+a.m;}
padding_at_the_end :
    outcome (struct_named 116 (member_of bases.Int 110 one ∷ member_of bases.Char 109 one ∷ []) ∷ global t_base 0 97 one None ∷ global t_base 0 98 one None
    ∷ main_ (eval (c.set (dot b 110) (number 3)) ∷ eval (c.set (dot b 109) (number 4)) ∷ eval (c.set a b) ∷ c.return
    (plus (op binaries.Multiply (dot a 110) (number 10)) (dot a 109)) ∷ []) ∷ [])
    ≡ ends 34
padding_at_the_end = refl

-- struct t {int n;char m;}; struct r {char m;struct t n;}; struct r a={1,{2,3}}; int main(void){struct r b={4,{5}};b.n.m=6;a.n=b.n;return ..;}
structs_in_structs :
    outcome (struct_named 116 (member_of bases.Int 110 one ∷ member_of bases.Char 109 one ∷ []) ∷ struct_named 114
    (member_of bases.Char 109 one ∷ member_of t_base 110 one ∷ [])
    ∷ global r_base 0 97 one (Some (listed (valued (number 1) ∷ listed (numbers (2 ∷ 3 ∷ [])) ∷ [])))
    ∷ main_ (c.local r_base 0 98 one (Some (listed (valued (number 4) ∷ listed (numbers (5 ∷ [])) ∷ []))) ∷ eval (c.set (dot (dot b 110) 109) (number 6)) ∷ eval
    (c.set (dot a 110) (dot b 110))
    ∷ c.return (plus (plus (op binaries.Multiply (dot (dot a 110) 110) (number 10)) (dot (dot a 110) 109)) (op binaries.Multiply (dot a 109) (number 100))) ∷ []) ∷ [])
    ≡ ends 156
structs_in_structs = refl

-- struct t {int n;char m[2];}; struct t a={1,"x"}; int main(void){struct t b={2,"y"};return a.m[0]+b.m[0]+b.m[1];}
texts_in_structs :
    outcome (struct_named 116 (member_of bases.Int 110 one ∷ member_of bases.Char 109 (many 2) ∷ [])
    ∷ global t_base 0 97 one (Some (listed (valued (number 1) ∷ valued (text (120 ∷ [])) ∷ [])))
    ∷ main_ (c.local t_base 0 98 one (Some (listed (valued (number 2) ∷ valued (text (121 ∷ [])) ∷ [])))
    ∷ c.return (plus (plus (c.at (dot a 109) (number 0)) (c.at (dot b 109) (number 0))) (c.at (dot b 109) (number 1))) ∷ []) ∷ [])
    ≡ ends 241
texts_in_structs = refl

-- ---- the tree of a function: int f(char a,int b){&b;if(b)a=b;else{}while(a<1)break;do continue;while(b);for(int i=0;;a++)return b;return 7;}

abbrev sample : UnitTree
sample =
    defined bases.Char 0 (102 ∷ []) (parameter bases.Char 0 97 ∷ parameter bases.Int 0 98 ∷ [])
    (eval (address b)
    ∷ trees.branch (unnumbered 0) b (eval (c.set a b)) (else_by (c.block []))
    ∷ c.while (less a (number 1)) (trees.break (unnumbered 0))
    ∷ trees.do_loop (unnumbered 0) (trees.continue (unnumbered 0)) b
    ∷ trees.for_loop (unnumbered 0) (start_declaration (record
    { base = bases.Int; variables = record { declarator = c.declarator 0 105 one; initialiser = Some (valued (number 0)) } ∷ [] })) None (Some (c.after a)) (c.return b)
    ∷ c.return (number 7) ∷ [])
    ∷ []

abbrev char_a : Expr
char_a = value Char (variable 0)

abbrev int_b : Expr
int_b = value Int (object (pointer_to (local 0)))

abbrev first_function : Option TypedProgram → Option (List Function)
first_function None = None
first_function (Some u) = Some u.functions

function_tree :
    first_function (program_of sample)
    ≡ Some (record {
      name = 102 ∷ [];
      result = Some Char;
      parameters = Plain 0 ∷ Placed 0 Int ∷ [];
      variables = Char ∷ Int ∷ Int ∷ [];
      blocks = 4 ∷ [];
      body =
          stmt_and (evaluate (discard (pointer_to (local 0))))
          (stmt_and (branch int_b (evaluate (assign (set Char (variable 0) (converted Int Char) int_b))) (block no_stmts))
          (stmt_and (while_loop (binary (Compare Less Signed) as_written (converted Char Int) unchanged char_a (constant Int 1)) break)
          (stmt_and (do_loop continue int_b)
          (stmt_and (for_loop (in_order (assign (set Int (variable 2) unchanged (constant Int 0))) nothing) None
          (assign (update Char (variable 0) (Arithmetic Add Signed) (converted Char Int) unchanged (converted Int Char) (constant Int 1)))
          (return (converted Int Char) int_b))
          (stmt_and (return (converted Int Char) (constant Int 7)) no_stmts)))));
      is_main = false;
    } ∷ [])
function_tree = refl
