-- What expressions are in core. Operands, arguments and the sides of an assignment follow one another from left to right.
use Rattle.std.specs.Prelude.{ℕ, ◌||◌, List, [], ◌∷◌, ◌++◌, Some, None, if◌then◌else◌}
use Rattle.qs_memory.specs.declared.scalar.Scalar.{Scalar}
use Rattle.qs_memory.specs.declared.scalar.Scalar.TheVariants as scalars
use Rattle.qs_memory.specs.declared.operation.UnaryOperation.TheVariants.{Truth}
use Rattle.qs_memory.specs.declared.operation.BinaryOperation.{BinaryOperation}
use Rattle.qs_calls.specs.declared.callee.Callee.{Callee}
use Rattle.qs_core.specs.declared.numbers.BlockId.{BlockId}
use Rattle.qs_core.specs.declared.numbers.BlockId.TheVariants.{Local, Data}
use Rattle.qs_core.specs.Trees.{CoreExprTree, CoreStmtTree}
use Rattle.qs_core.specs.Trees as core
use Rattle.qs_meaning.specs.Typed.{Conversion, unchanged, Order, as_written, exchanged, Object, local, static, Expr, constant, value, pointer_to, member, called, stepped_after, unary, cast, binary, logical_and, logical_or, conditional, assigned, sequence, Lvalue, variable, object, Arguments, no_arguments, argument_and, Assignment, set, update, Effect, nothing, discard, assign, perform, copy, fill, in_order}
use Rattle.qs_meaning.specs.Fits.{amount_type}
use Rattle.qs_elaborate_bodies.specs.Literals.{converted_core}
use Rattle.qs_elaborate_bodies.specs.Acting.{acts, arguments_act}
use Rattle.qs_elaborate_bodies.specs.Parts.{Temporaries, next_number, with_temporary, keep, Valued, Listed, pure, with_value, in_turn, before, saved, saved_if, joined, Location, plain, pointed, Located, at_address, address_saved_if, value_at, value_read, written, one_statement}

-- ---- operations

-- the unit's blocks are the first ones of the memory
abbrev pub block_of : Object → BlockId
block_of (local k) = Local k
block_of (static k) = Data k

abbrev pub in_their_order : BinaryOperation → Order → (a b : CoreExprTree) → CoreExprTree
in_their_order operation as_written a b = core.binary operation a b
in_their_order operation exchanged a b = core.binary operation b a

abbrev pub operation_core : BinaryOperation → Order → (left right : Conversion) → (a b : CoreExprTree) → CoreExprTree
operation_core operation order left right a b = in_their_order operation order (converted_core left a) (converted_core right b)

-- what a compound assignment writes
abbrev pub updated_core : BinaryOperation → (left right back : Conversion) → (a b : CoreExprTree) → CoreExprTree
updated_core operation left right back a b = converted_core back (operation_core operation as_written left right a b)

-- 6.5.2.4p2: the amount of a step, of the type that the operation takes on its right
abbrev pub step_amount : BinaryOperation → CoreExprTree
step_amount operation = core.literal (amount_type operation) 1

-- ---- calls

pub record ValuedAll : Type 0 where
  pub statements : List CoreStmtTree
  pub values : List CoreExprTree
  pub temporaries : Temporaries

abbrev pub no_values : Temporaries → ValuedAll
no_values ts = record { statements = []; values = []; temporaries = ts }

-- each argument is converted to its parameter's type
abbrev pub argument_before : Conversion → Valued → ValuedAll → ValuedAll
argument_before c a rest = record {
  statements = a.statements ++ rest.statements;
  values = converted_core c a.value ∷ rest.values;
  temporaries = rest.temporaries;
}

-- a call whose result is used
abbrev pub call_valued : Scalar → Callee → ValuedAll → Valued
call_valued s f given = record {
  statements = given.statements ++ core.call (Some (next_number given.temporaries)) f given.values ∷ [];
  value = core.temporary s (next_number given.temporaries);
  temporaries = with_temporary given.temporaries s;
}

-- a call whose result is discarded, or which has none
abbrev pub call_listed : Callee → ValuedAll → Listed
call_listed f given = record { statements = given.statements ++ core.call None f given.values ∷ []; temporaries = given.temporaries }

-- ---- `&&`, `||` and `?:`, where an operand behind the first one acts: an If, whose branches give one temporary

-- a branch that gives the temporary this value
abbrev pub branch_with : List CoreStmtTree → (temporary : ℕ) → CoreExprTree → CoreStmtTree
branch_with ss k a = one_statement (ss ++ keep k a ∷ [])

-- 6.5.13p3, 6.5.14p3: whether the value differs from 0
abbrev pub truth_core : CoreExprTree → CoreExprTree
truth_core a = core.unary Truth a

abbrev pub truth_literal : ℕ → CoreExprTree
truth_literal n = core.literal scalars.Int n

abbrev pub and_branching : Valued → Valued → Valued
and_branching a b =
    let k = next_number b.temporaries in
    record {
      statements = a.statements ++ core.branch a.value (branch_with b.statements k (truth_core b.value)) (branch_with [] k (truth_literal 0)) ∷ [];
      value = core.temporary scalars.Int k;
      temporaries = with_temporary b.temporaries scalars.Int;
    }

-- the temporary is written before those of b
abbrev pub or_branching : Valued → Valued → Valued
or_branching a b =
    let k = next_number a.temporaries in
    record {
      statements = a.statements ++ core.branch a.value (branch_with [] k (truth_literal 1)) (branch_with b.statements k (truth_core b.value)) ∷ [];
      value = core.temporary scalars.Int k;
      temporaries = b.temporaries;
    }

-- the temporary is written before those of b
abbrev pub choice_branching : Scalar → (second third : Conversion) → (c a b : Valued) → Valued
choice_branching s second third c a b =
    let k = next_number a.temporaries in
    record {
      statements = c.statements
          ++ core.branch c.value (branch_with a.statements k (converted_core second a.value)) (branch_with b.statements k (converted_core third b.value)) ∷ [];
      value = core.temporary s k;
      temporaries = b.temporaries;
    }

abbrev pub choice_joined : (second third : Conversion) → (c a b : Valued) → Valued
choice_joined second third c a b = record {
  statements = c.statements ++ (a.statements ++ b.statements);
  value = core.conditional c.value (converted_core second a.value) (converted_core third b.value);
  temporaries = b.temporaries;
}

-- ---- assignments

-- what is written where
pub record Written : Type 0 where
  pub statements : List CoreStmtTree
  pub scalar : Scalar
  pub location : Location
  pub value : CoreExprTree
  pub temporaries : Temporaries

abbrev pub set_core : Scalar → Conversion → Located → Valued → Written
set_core s c l a = record {
  statements = l.statements ++ a.statements;
  scalar = s;
  location = l.location;
  value = converted_core c a.value;
  temporaries = a.temporaries;
}

-- the value that stands there is the second operand
abbrev pub update_core : Scalar → BinaryOperation → (left right back : Conversion) → Location → (old new : Valued) → Written
update_core s operation left right back l old new = record {
  statements = old.statements ++ new.statements;
  scalar = s;
  location = l;
  value = updated_core operation left right back old.value new.value;
  temporaries = new.temporaries;
}

abbrev pub write_discarded : Written → Listed
write_discarded w = record { statements = w.statements ++ written w.scalar w.location w.value ∷ []; temporaries = w.temporaries }

-- the value of an assignment to a plain variable is the variable; otherwise the value is put in a temporary before it is stored
abbrev pub write_at : Scalar → Location → List CoreStmtTree → CoreExprTree → Temporaries → Valued
write_at s (plain x) ss a ts = record { statements = ss ++ written s (plain x) a ∷ []; value = core.variable s x; temporaries = ts }
write_at s (pointed p) ss a ts =
    let k = next_number ts in
    record {
      statements = ss ++ keep k a ∷ written s (pointed p) (core.temporary s k) ∷ [];
      value = core.temporary s k;
      temporaries = with_temporary ts s;
    }

abbrev pub write_valued : Written → Valued
write_valued w = write_at w.scalar w.location w.statements w.value w.temporaries

-- a++ and a--: the value before goes into a temporary
abbrev pub step_valued : Scalar → BinaryOperation → (left back : Conversion) → Located → Valued
step_valued s operation left back l =
    let k = next_number l.temporaries in
    record {
      statements = l.statements
          ++ keep k (value_at s l.location)
          ∷ written s l.location (updated_core operation left unchanged back (core.temporary s k) (step_amount operation))
          ∷ [];
      value = core.temporary s k;
      temporaries = with_temporary l.temporaries s;
    }

-- ---- effects

abbrev pub listed : List CoreStmtTree → Temporaries → Listed
listed ss ts = record { statements = ss; temporaries = ts }

-- a value that is discarded is put in a temporary too
abbrev pub discarded : Valued → Listed
discarded a = listed (saved a).statements (saved a).temporaries

abbrev pub copied : (size alignment : ℕ) → Valued → Valued → Listed
copied size alignment a b = listed ((a.statements ++ b.statements) ++ core.copy size alignment a.value b.value ∷ []) b.temporaries

-- ---- expressions

abbrev mutual
  pub expression_core : Expr → Temporaries → Valued
  expression_core (constant s n) ts = pure (core.literal s n) ts
  expression_core (value s l) ts = value_read s (lvalue_core l ts)
  expression_core (pointer_to o) ts = pure (core.address_of (block_of o)) ts
  expression_core (member offset a) ts = with_value (core.member offset) (expression_core a ts)
  expression_core (called s f es) ts = call_valued s f (arguments_core es ts)
  expression_core (stepped_after s l operation left back) ts = step_valued s operation left back (lvalue_core l ts)
  expression_core (unary operation c a) ts = with_value (λ x. core.unary operation (converted_core c x)) (expression_core a ts)
  expression_core (cast c a) ts = with_value (converted_core c) (expression_core a ts)
  expression_core (binary operation order left right a b) ts =
      let first = saved_if (acts b) (expression_core a ts) in
      joined (operation_core operation order left right) first (expression_core b first.temporaries)
  expression_core (logical_and a b) ts =
      let first = expression_core a ts in
      if acts b then and_branching first (expression_core b first.temporaries)
      else joined core.logical_and first (expression_core b first.temporaries)
  expression_core (logical_or a b) ts =
      let first = expression_core a ts in
      if acts b then or_branching first (expression_core b (with_temporary first.temporaries scalars.Int))
      else joined core.logical_or first (expression_core b first.temporaries)
  expression_core (conditional s a second third b c) ts =
      let first = expression_core a ts in
      let met = expression_core b first.temporaries in
      if acts b || acts c then choice_branching s second third first met (expression_core c (with_temporary met.temporaries s))
      else choice_joined second third first met (expression_core c met.temporaries)
  expression_core (assigned a) ts = write_valued (assignment_core a ts)
  expression_core (sequence a b) ts = let first = effect_core a ts in before first (expression_core b first.temporaries)

  pub lvalue_core : Lvalue → Temporaries → Located
  lvalue_core (variable x) ts = record { statements = []; location = plain x; temporaries = ts }
  lvalue_core (object a) ts = at_address (expression_core a ts)

  pub arguments_core : Arguments → Temporaries → ValuedAll
  arguments_core no_arguments ts = no_values ts
  arguments_core (argument_and c a es) ts =
      let first = saved_if (arguments_act es) (expression_core a ts) in argument_before c first (arguments_core es first.temporaries)

  pub assignment_core : Assignment → Temporaries → Written
  assignment_core (set s l c a) ts =
      let at = address_saved_if (acts a) (lvalue_core l ts) in set_core s c at (expression_core a at.temporaries)
  assignment_core (update s l operation left right back a) ts =
      let at = address_saved_if (acts a) (lvalue_core l ts) in
      let old = saved_if (acts a) (value_read s at) in
      update_core s operation left right back at.location old (expression_core a old.temporaries)

  pub effect_core : Effect → Temporaries → Listed
  effect_core nothing ts = listed [] ts
  effect_core (discard a) ts = discarded (expression_core a ts)
  effect_core (assign a) ts = write_discarded (assignment_core a ts)
  effect_core (perform f es) ts = call_listed f (arguments_core es ts)
  effect_core (copy size alignment a b) ts =
      let to = saved_if (acts b) (expression_core a ts) in copied size alignment to (expression_core b to.temporaries)
  effect_core (fill blank a) ts =
      let at = expression_core a ts in listed (at.statements ++ core.fill blank at.value ∷ []) at.temporaries
  effect_core (in_order a b) ts = let first = effect_core a ts in in_turn first (effect_core b first.temporaries)
