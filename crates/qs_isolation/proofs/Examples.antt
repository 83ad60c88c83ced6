-- What tasks touch, computed from the definitions.
use Rattle.std.proofs.Common.{◌≡◌, ℕ, List, [], ◌∷◌, Option, Some, None, refl, arith}
use Rattle.qs_syntax.specs.declared.types.Base.TheVariants as bases
use Rattle.qs_syntax.specs.Numbering.{numbered_unit}
use Rattle.qs_syntax.specs.Trees.{ExprTree, UnitTree, DeclTree, StmtTree}
use Rattle.qs_syntax.specs.Trees as trees
use Rattle.qs_memory.specs.Partial.{◌>>=◌}
use Rattle.qs_meaning.proofs.Samples.{e, number, named, a, b, p, q, set, plus, address, deref, call, text, one, global, local, eval, when, header, parameter, putchar, defined, main_, valued, return}
use Rattle.qs_meaning.specs.Units.{typed_of}
use Rattle.qs_isolation.specs.Links.{Links, links_of}
use Rattle.qs_isolation.specs.Touches.{no_link, one_more, Touches}
use Rattle.qs_isolation.specs.Isolation.{TaskTouches, IsFirstConflict}

-- the links of a unit
abbrev links : UnitTree → Option Links
links unit = typed_of (numbered_unit unit) >>= λ u. Some (links_of (numbered_unit unit) u)

abbrev linked_by : (called named led : List (List ℕ)) → Option Links
linked_by called named led = Some (record { called = called; named = named; led = led })

-- void x(void){ .. } and int x(void){ .. }
abbrev task : ℕ → List StmtTree → DeclTree
task x ss = defined bases.Void 0 (x ∷ []) [] ss

abbrev gives : ℕ → List StmtTree → DeclTree
gives x ss = defined bases.Int 0 (x ∷ []) [] ss

abbrev int_of : ℕ → DeclTree
int_of x = global bases.Int 0 x one None

abbrev main : DeclTree
main = main_ (return (number 0) ∷ [])

abbrev size_of : ExprTree → ExprTree
size_of x = e (trees.sizeof_expr x)

-- ---- names

-- int a; int b; void f(void){a=a+1;} void g(void){b=b+1;} int main(void){return 0;}
own_variables :
    links (int_of 97 ∷ int_of 98 ∷ task 102 (eval (set a (plus a (number 1))) ∷ []) ∷ task 103 (eval (set b (plus b (number 1))) ∷ []) ∷ main ∷ [])
    ≡ linked_by ([] ∷ [] ∷ [] ∷ []) ((0 ∷ 0 ∷ []) ∷ (1 ∷ 1 ∷ []) ∷ [] ∷ []) ([] ∷ [] ∷ [])
own_variables = refl

-- .. void g(void){b=a;}
shared_variable :
    links (int_of 97 ∷ int_of 98 ∷ task 102 (eval (set a (number 1)) ∷ []) ∷ task 103 (eval (set b a) ∷ []) ∷ main ∷ [])
    ≡ linked_by ([] ∷ [] ∷ [] ∷ []) ((0 ∷ []) ∷ (1 ∷ 0 ∷ []) ∷ [] ∷ []) ([] ∷ [] ∷ [])
shared_variable = refl

-- int a; void f(void){int a;a=1;} a local hides the variable
hidden_by_a_local :
    links (int_of 97 ∷ task 102 (local bases.Int 0 97 one None ∷ eval (set a (number 1)) ∷ []) ∷ main ∷ []) ≡ linked_by ([] ∷ [] ∷ []) ([] ∷ [] ∷ []) ([] ∷ [])
hidden_by_a_local = refl

-- int a; int b; void f(void){b=sizeof a;} the name below `sizeof` counts
below_sizeof :
    links (int_of 97 ∷ int_of 98 ∷ task 102 (eval (set b (size_of a)) ∷ []) ∷ main ∷ []) ≡ linked_by ([] ∷ [] ∷ []) ((1 ∷ 0 ∷ []) ∷ [] ∷ []) ([] ∷ [] ∷ [])
below_sizeof = refl

-- ---- calls

-- int a; int f(void){return a;} void g(void){if(0)f();} calls count wherever they stand
call_not_reached :
    links (int_of 97 ∷ gives 102 (return a ∷ []) ∷ task 103 (when (number 0) (eval (call 102 [])) ∷ []) ∷ main ∷ [])
    ≡ linked_by ([] ∷ (0 ∷ []) ∷ [] ∷ []) ((0 ∷ []) ∷ [] ∷ [] ∷ []) ([] ∷ [])
call_not_reached = refl

-- int a; int b; int f(void){return a;} void g(void){b=sizeof f();} but one below `sizeof` is no call
call_below_sizeof :
    links (int_of 97 ∷ int_of 98 ∷ gives 102 (return a ∷ []) ∷ task 103 (eval (set b (size_of (call 102 []))) ∷ []) ∷ main ∷ [])
    ≡ linked_by ([] ∷ [] ∷ [] ∷ []) ((0 ∷ []) ∷ (1 ∷ []) ∷ [] ∷ []) ([] ∷ [] ∷ [])
call_below_sizeof = refl

-- void g(void);void f(void){putchar(65);}int a;int b;void h(int a){b=a;}void g(void){h(1);} a header is no function, functions go by their
-- definitions, a parameter hides a variable, and putchar has no body
abbrev mixed : UnitTree
mixed =
    header bases.Void 0 (103 ∷ []) [] ∷ task 102 (eval (putchar (number 65)) ∷ []) ∷ int_of 97 ∷ int_of 98
    ∷ defined bases.Void 0 (104 ∷ []) (parameter bases.Int 0 97 ∷ []) (eval (set b a) ∷ []) ∷ task 103 (eval (call 104 (number 1 ∷ [])) ∷ []) ∷ []

abbrev mixed_links : Links
mixed_links = record { called = [] ∷ [] ∷ (1 ∷ []) ∷ []; named = [] ∷ (1 ∷ []) ∷ [] ∷ []; led = [] ∷ [] ∷ [] }

in_any_order : links mixed ≡ Some mixed_links
in_any_order = refl

-- g touches b by a call of h
by_a_call : Touches mixed_links 2 1
by_a_call = record { function = 1; reached = one_more 2 1 no_link refl; named = 1; has_name = refl; led = no_link }

-- ---- initial pointers

-- int a; int *p=&a; int **q=&p; void f(void){a=1;} void g(void){**q=2;}
abbrev chain : UnitTree
chain =
    int_of 97 ∷ global bases.Int 1 112 one (Some (valued (address a))) ∷ global bases.Int 2 113 one (Some (valued (address p)))
    ∷ task 102 (eval (set a (number 1)) ∷ []) ∷ task 103 (eval (set (deref (deref q)) (number 2)) ∷ []) ∷ main ∷ []

abbrev chain_links : Links
chain_links = record {
  called = [] ∷ [] ∷ [] ∷ [];
  named = (0 ∷ []) ∷ (2 ∷ []) ∷ [] ∷ [];
  led = [] ∷ (0 ∷ 0 ∷ 0 ∷ 0 ∷ []) ∷ (1 ∷ 1 ∷ 1 ∷ 1 ∷ []) ∷ [];
}

pointers_lead : links chain ≡ Some chain_links
pointers_lead = refl

-- char *p="x"; void f(void){p="y";} texts are no variables
texts_are_none :
    links (global bases.Char 1 112 one (Some (valued (text (120 ∷ [])))) ∷ task 102 (eval (set p (text (121 ∷ []))) ∷ []) ∷ main ∷ [])
    ≡ linked_by ([] ∷ [] ∷ []) ((0 ∷ []) ∷ [] ∷ []) ([] ∷ [] ∷ [] ∷ [])
texts_are_none = refl

-- ---- conflicts: both tasks touch `a`, the first by its name, the second by two pointers

first_touches : TaskTouches chain_links (0 ∷ 1 ∷ []) 0 0
first_touches = record { root = 0; is = refl; touches = record { function = 0; reached = no_link; named = 0; has_name = refl; led = no_link } }

second_touches : TaskTouches chain_links (0 ∷ 1 ∷ []) 1 0
second_touches = record {
  root = 1;
  is = refl;
  touches = record { function = 1; reached = no_link; named = 2; has_name = refl; led = one_more 1 0 (one_more 2 1 no_link refl) refl };
}

conflict : IsFirstConflict chain_links (0 ∷ 1 ∷ []) 0 0 1
conflict = record {
  conflict = record { in_order = omega arith; by_first = first_touches; by_second = second_touches };
  least_variable = λ other i j h. omega arith;
  least_tasks = λ i j h. let order = h.in_order in (omega arith, omega arith);
}
