-- What tasks put alone, computed from the definition.
use Rattle.std.proofs.Common.{◌≡◌, ℕ, List, [], ◌∷◌, Option, Some, None, refl}
use Rattle.qs_syntax.specs.declared.types.Base.TheVariants as bases
use Rattle.qs_syntax_vocabulary.specs.declared.operators.BinaryOperator.TheVariants as binaries
use Rattle.qs_syntax.specs.Numbering.{numbered_unit}
use Rattle.qs_syntax.specs.Trees.{StmtTree, UnitTree}
use Rattle.qs_memory.specs.Partial.{◌>>=◌}
use Rattle.qs_events.specs.Runs.{ending_of, is_undefined}
use Rattle.qs_meaning.specs.Units.{typed_of}
use Rattle.qs_meaning.proofs.Samples.{number, a, set, plus, op, putchar, getchar, one, global, eval, defined, main_, return}
use Rattle.qs_tasks_run.specs.Tasks.{Task}
use Rattle.qs_tasks_source.specs.Activations.{alone, output_alone}

-- int a; void f(void){ .. } int main(void){return 0;}
abbrev unit_of : List StmtTree → UnitTree
unit_of ss = numbered_unit (global bases.Int 0 97 one None ∷ defined bases.Void 0 (102 ∷ []) [] ss ∷ main_ (return (number 0) ∷ []) ∷ [])

abbrev task_with : (input : List ℕ) → Task
task_with input = record { function = 0; name = 102 ∷ []; priority = 1; input = input }

abbrev puts : List StmtTree → (input : List ℕ) → (n count : ℕ) → Option (List ℕ)
puts ss input n count = typed_of (unit_of ss) >>= λ u. Some (output_alone u (task_with input) n count)

-- a=a+1;putchar(64+a);
abbrev counts : List StmtTree
counts = eval (set a (plus a (number 1))) ∷ eval (putchar (plus (number 64) a)) ∷ []

-- each finds the variable as the one before left it
one_after_the_other : puts counts [] 9 3 ≡ Some (65 ∷ 66 ∷ 67 ∷ [])
one_after_the_other = refl

none_yet : puts counts [] 9 0 ≡ Some []
none_yet = refl

within_no_bound : puts counts [] 0 3 ≡ Some []
within_no_bound = refl

-- putchar(getchar()); each takes what is left of the input, and then its end
takes_on : puts (eval (putchar getchar) ∷ []) (88 ∷ 89 ∷ []) 9 3 ≡ Some (88 ∷ 89 ∷ 255 ∷ [])
takes_on = refl

-- a=a+1;putchar(64+1/(2-a)); the first is defined, and two are not
abbrev divides : List StmtTree
divides =
    eval (set a (plus a (number 1))) ∷ eval (putchar (plus (number 64) (op binaries.Divide (number 1) (op binaries.Subtract (number 2) a)))) ∷ []

first_is_defined : puts divides [] 9 1 ≡ Some (65 ∷ [])
first_is_defined = refl

second_is_undefined : (typed_of (unit_of divides) >>= λ u. Some (ending_of (alone u (task_with []) 9 2))) ≡ Some is_undefined
second_is_undefined = refl
