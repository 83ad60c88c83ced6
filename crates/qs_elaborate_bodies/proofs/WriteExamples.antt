-- Rows of compound assignments, steps and discarded values, by examples; names as in int x; int *p; a placed local a; int f(), g().
use Rattle.std.proofs.Common.{◌≡◌, ℕ, List, [], ◌∷◌, Some, None, refl}
use Rattle.qs_memory.specs.declared.scalar.Scalar.TheVariants.{Int, Pointer}
use Rattle.qs_memory.specs.declared.operation.Signedness.TheVariants as signs
use Rattle.qs_memory.specs.declared.operation.Direction.TheVariants.{Up, Down}
use Rattle.qs_memory.specs.declared.operation.Arithmetic.TheVariants.{Add, Subtract}
use Rattle.qs_memory.specs.declared.operation.BinaryOperation.{BinaryOperation}
use Rattle.qs_memory.specs.declared.operation.BinaryOperation.TheVariants.{Arithmetic, Move}
use Rattle.qs_calls.specs.declared.callee.Callee.{Callee}
use Rattle.qs_calls.specs.declared.callee.Callee.TheVariants.{Function}
use Rattle.qs_core.specs.declared.numbers.BlockId.TheVariants.{Local}
use Rattle.qs_core.specs.Trees.{CoreExprTree, literal, temporary, address_of, load, CoreStmtTree, store}
use Rattle.qs_core.specs.Trees as core
use Rattle.qs_meaning.specs.Typed.{unchanged, as_written, local, Expr, constant, value, pointer_to, called, stepped_after, cast, binary, logical_and, assigned, sequence, variable, object, no_arguments, set, update, discard, assign, perform, in_order}
use Rattle.qs_elaborate_bodies.specs.Parts.{Temporaries, keep, written, Valued, Listed, plain}
use Rattle.qs_elaborate_bodies.specs.Expressions.{expression_core, effect_core}

abbrev x : Expr
x = value Int (variable 0)

abbrev core_x : CoreExprTree
core_x = core.variable Int 0

abbrev p : Expr
p = value Pointer (variable 1)

abbrev core_p : CoreExprTree
core_p = core.variable Pointer 1

abbrev a : Expr
a = pointer_to (local 0)

abbrev core_a : CoreExprTree
core_a = address_of (Local 0)

abbrev function_f : Callee
function_f = Function (record { 0 = 0 })

abbrev function_g : Callee
function_g = Function (record { 0 = 1 })

abbrev f : Expr
f = called Int function_f no_arguments

abbrev g : Expr
g = called Int function_g no_arguments

abbrev calls_f : ℕ → CoreStmtTree
calls_f k = core.call (Some k) function_f []

abbrev calls_g : ℕ → CoreStmtTree
calls_g k = core.call (Some k) function_g []

abbrev int_temporary : ℕ → CoreExprTree
int_temporary k = temporary Int k

abbrev pointer_temporary : ℕ → CoreExprTree
pointer_temporary k = temporary Pointer k

abbrev plus : BinaryOperation
plus = Arithmetic Add signs.Signed

abbrev less_one : BinaryOperation
less_one = Arithmetic Subtract signs.Signed

abbrev up : BinaryOperation
up = Move Up signs.Signed 4

abbrev down : BinaryOperation
down = Move Down signs.Signed 4

abbrev one : CoreExprTree
one = literal Int 1

abbrev gives : List CoreStmtTree → CoreExprTree → Temporaries → Valued
gives ss e ts = record { statements = ss; value = e; temporaries = ts }

abbrev does : List CoreStmtTree → Temporaries → Listed
does ss ts = record { statements = ss; temporaries = ts }

-- ---- compound assignments

-- p+=x;
pointer_moved :
    effect_core (assign (update Pointer (variable 1) up unchanged unchanged unchanged x)) []
    ≡ does (written Pointer (plain 1) (core.binary up core_p core_x) ∷ []) []
pointer_moved = refl

-- x+=f() used: the old value is an operand before the call
plain_update_used :
    expression_core (assigned (update Int (variable 0) plus unchanged unchanged unchanged f)) []
    ≡ gives (keep 0 core_x ∷ calls_f 1 ∷ written Int (plain 0) (core.binary plus (int_temporary 0) (int_temporary 1)) ∷ []) core_x (Int ∷ Int ∷ [])
plain_update_used = refl

-- a=f(), where a is placed: its address is an operand before the call
placed_set : effect_core (assign (set Int (object a) unchanged f)) [] ≡ does (keep 0 core_a ∷ calls_f 1 ∷ store Int (pointer_temporary 0) (int_temporary 1) ∷ []) (Pointer ∷ Int ∷ [])
placed_set = refl

-- p[f()]+=g(); the index, the address, the old value, and then the right side
three_saved :
    effect_core (assign (update Int (object (binary up as_written unchanged unchanged p f)) plus unchanged unchanged unchanged g)) []
    ≡ does (
    keep 0 core_p
    ∷ calls_f 1
    ∷ keep 2 (core.binary up (pointer_temporary 0) (int_temporary 1))
    ∷ keep 3 (load Int (pointer_temporary 2))
    ∷ calls_g 4
    ∷ store Int (pointer_temporary 2) (core.binary plus (int_temporary 3) (int_temporary 4))
    ∷ []) (Pointer ∷ Int ∷ Pointer ∷ Int ∷ Int ∷ [])
three_saved = refl

-- ---- steps

-- p++ used
pointer_stepped :
    expression_core (stepped_after Pointer (variable 1) up unchanged unchanged) []
    ≡ gives (keep 0 core_p ∷ written Pointer (plain 1) (core.binary up (pointer_temporary 0) one) ∷ []) (pointer_temporary 0) (Pointer ∷ [])
pointer_stepped = refl

-- p-- used
pointer_stepped_down :
    expression_core (stepped_after Pointer (variable 1) down unchanged unchanged) []
    ≡ gives (keep 0 core_p ∷ written Pointer (plain 1) (core.binary down (pointer_temporary 0) one) ∷ []) (pointer_temporary 0) (Pointer ∷ [])
pointer_stepped_down = refl

-- a-- used, where a is placed
placed_stepped :
    expression_core (stepped_after Int (object a) less_one unchanged unchanged) []
    ≡ gives (keep 0 (load Int core_a) ∷ store Int core_a (core.binary less_one (int_temporary 0) one) ∷ []) (int_temporary 0) (Int ∷ [])
placed_stepped = refl

-- --a used, where a is placed
placed_stepped_before :
    expression_core (assigned (update Int (object a) less_one unchanged unchanged unchanged (constant Int 1))) []
    ≡ gives (keep 0 (core.binary less_one (load Int core_a) one) ∷ store Int core_a (int_temporary 0) ∷ []) (int_temporary 0) (Int ∷ [])
placed_stepped_before = refl

-- ---- discarded values

-- *p;
discarded_load : effect_core (discard (value Int (object p))) [] ≡ does (keep 0 (load Int core_p) ∷ []) (Int ∷ [])
discarded_load = refl

-- x&&x;
discarded_and : effect_core (discard (logical_and x x)) [] ≡ does (keep 0 (core.logical_and core_x core_x) ∷ []) (Int ∷ [])
discarded_and = refl

-- f()+1;
discarded_sum :
    effect_core (discard (binary plus as_written unchanged unchanged f (constant Int 1))) []
    ≡ does (calls_f 0 ∷ keep 1 (core.binary plus (int_temporary 0) one) ∷ []) (Int ∷ Int ∷ [])
discarded_sum = refl

-- (int)f();
discarded_cast : effect_core (discard (cast unchanged f)) [] ≡ does (calls_f 0 ∷ keep 1 (int_temporary 0) ∷ []) (Int ∷ Int ∷ [])
discarded_cast = refl

-- an address
discarded_address : effect_core (discard a) [] ≡ does (keep 0 core_a ∷ []) (Pointer ∷ [])
discarded_address = refl

-- x,f();
discarded_comma : effect_core (in_order (discard x) (perform function_f no_arguments)) [] ≡ does (keep 0 core_x ∷ core.call None function_f [] ∷ []) (Int ∷ [])
discarded_comma = refl

-- (x,5)+f(): a literal behind statements isn't saved
literal_behind_statements :
    expression_core (binary plus as_written unchanged unchanged (sequence (discard x) (constant Int 5)) f) []
    ≡ gives (keep 0 core_x ∷ calls_f 1 ∷ []) (core.binary plus (literal Int 5) (int_temporary 1)) (Int ∷ Int ∷ [])
literal_behind_statements = refl
