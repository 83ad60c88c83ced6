-- Trees that don't fit come to other places, and those that meet one of the nine cases don't: computed from the definition.
use Rattle.std.proofs.Common.{◌≡◌, false, [], ◌∷◌, None, refl}
use Rattle.qs_memory.specs.declared.scalar.Scalar.TheVariants as scalars
use Rattle.qs_memory.specs.declared.operation.Signedness.TheVariants.{Signed}
use Rattle.qs_memory.specs.declared.operation.Arithmetic.TheVariants.{Divide}
use Rattle.qs_memory.specs.declared.operation.UnaryOperation.TheVariants as unaries
use Rattle.qs_memory.specs.declared.operation.BinaryOperation.TheVariants.{Arithmetic}
use Rattle.qs_calls.specs.declared.callee.Callee.TheVariants as callees
use Rattle.qs_events.specs.Events.{Calls}
use Rattle.qs_events.specs.Runs.{emit, undefined}
use Rattle.qs_calls.specs.World.{World, RootRun}
use Rattle.qs_meaning.specs.Typed.{constant, value, pointer_to, unary, unchanged, converted, cast, binary, as_written, variable, object, static, no_arguments, argument_and, set, assign, discard, perform, Stmt, evaluate, break, no_stmts, stmt_and, TypedProgram}
use Rattle.qs_meaning.specs.Elsewhere as elsewhere

-- a program of one function, which does this
abbrev doing : Stmt → TypedProgram
doing s = record {
  functions = record { name = []; result = None; parameters = []; variables = scalars.Int ∷ []; blocks = []; body = stmt_and s no_stmts; is_main = false } ∷ [];
  blocks = [];
}

abbrev nothing_yet : World
nothing_yet = record { memory = []; input = [] }

abbrev run : RootRun → Stmt → RootRun
run other s = elsewhere.run_of other (doing s) 0 [] nothing_yet 2

-- `break` where there is no loop
breaks_nowhere : (other : RootRun) → run other break ≡ emit (Calls 0) other
breaks_nowhere other = refl

-- a pointer that becomes an `int`
converts_pointer : (other : RootRun) → run other (evaluate (discard (cast (converted scalars.Pointer scalars.Int) (pointer_to (static 0))))) ≡ emit (Calls 0) other
converts_pointer other = refl

-- the sign of a pointer
negates_pointer : (other : RootRun) → run other (evaluate (discard (unary (unaries.Minus Signed) unchanged (pointer_to (static 0))))) ≡ emit (Calls 0) other
negates_pointer other = refl

-- a pointer that is stored as an `int`
stores_pointer :
    (other : RootRun)
    → run other (evaluate (assign (set scalars.Int (object (pointer_to (static 0))) unchanged (pointer_to (static 0))))) ≡ emit (Calls 0) other
stores_pointer other = refl

-- an object whose address is a number
reads_at_number : (other : RootRun) → run other (evaluate (discard (value scalars.Int (object (constant scalars.Int 0))))) ≡ emit (Calls 0) other
reads_at_number other = refl

-- a function that there isn't
calls_nothing : (other : RootRun) → run other (evaluate (perform (callees.Function (record { 0 = 1 })) no_arguments)) ≡ emit (Calls 0) other
calls_nothing other = refl

-- an argument without a parameter
passes_too_much :
    (other : RootRun)
    → run other (evaluate (perform (callees.Function (record { 0 = 0 })) (argument_and unchanged (constant scalars.Int 1) no_arguments)))
    ≡ emit (Calls 0) (emit (Calls 0) other)
passes_too_much other = refl

-- a call of putchar without an argument
puts_nothing : (other : RootRun) → run other (evaluate (perform callees.PutChar no_arguments)) ≡ emit (Calls 0) other
puts_nothing other = refl

-- a variable without a value is one of the nine cases, and so are an access where no block is, and a division by zero
reads_nothing : (other : RootRun) → run other (evaluate (discard (value scalars.Int (variable 0)))) ≡ emit (Calls 0) undefined
reads_nothing other = refl

reads_no_block : (other : RootRun) → run other (evaluate (discard (value scalars.Int (object (pointer_to (static 0)))))) ≡ emit (Calls 0) undefined
reads_no_block other = refl

divides_by_zero :
    (other : RootRun)
    → run other (evaluate (discard (binary (Arithmetic Divide Signed) as_written unchanged unchanged (constant scalars.Int 1) (constant scalars.Int 0))))
    ≡ emit (Calls 0) undefined
divides_by_zero other = refl
