-- The value of an expression, which has no side effects.
use Rattle.std.specs.Prelude.{ℕ, ◌+◌, true, false, if◌then◌else◌, List, [], ◌∷◌, Option, Some}
use Rattle.qs_memory.specs.Partial.{◌>>=◌}
use Rattle.qs_memory.specs.Values.{Pointer, null, into, Value, integer, address, as_pointer, convert}
use Rattle.qs_memory.specs.Memory.{Memory}
use Rattle.qs_memory.specs.Memory as memory
use Rattle.qs_memory.specs.Pointers.{member_of, truth}
use Rattle.qs_memory.specs.Operations.{of_truth, apply_unary, apply_binary, unary_type, binary_type}
use Rattle.qs_memory.specs.declared.scalar.Scalar.{Scalar}
use Rattle.qs_memory.specs.declared.scalar.Scalar.TheVariants as scalars
use Rattle.qs_calls.specs.World.{Environment}
use Rattle.qs_core.specs.declared.numbers.BlockId.{BlockId}
use Rattle.qs_core.specs.declared.numbers.BlockId.TheVariants.{Local, Data}
use Rattle.qs_core.specs.Trees.{CoreExprTree, literal, null_pointer, variable, temporary, address_of, load, member, unary, binary, conversion, logical_and, logical_or, conditional}

-- what belongs to one call: the number of its first block, and the values of its variables and of
-- its temporaries
pub record Locals : Type 0 where
  pub first_block : ℕ
  pub variables : Environment
  pub temporaries : Environment

-- the unit's data are the first blocks of every memory
abbrev pub block_pointer : BlockId → Locals → Pointer
block_pointer (Local i) l = into (l.first_block + i) 0
block_pointer (Data i) l = into i 0

-- an `int` of value 1 or 0
abbrev pub truth_value : Memory → Value → Option Value
truth_value m v = truth m v >>= λ b. Some (of_truth b)

abbrev pub value : CoreExprTree → Locals → Memory → Option Value
value (literal s n) l m = Some (integer n)
value null_pointer l m = Some (address null)
-- UNDEFINED 1 (6.3.2.1p2): a variable without a value
value (variable s x) l m = l.variables x
value (temporary s k) l m = l.temporaries k
value (address_of b) l m = Some (address (block_pointer b l))
value (load s a) l m = value a l m >>= λ v. as_pointer v >>= λ p. memory.load s m p
value (member offset a) l m =
    value a l m >>= λ v. as_pointer v >>= λ p. member_of m p offset >>= λ q. Some (address q)
value (unary op a) l m = value a l m >>= λ v. apply_unary op m v
value (binary op a b) l m = value a l m >>= λ v. value b l m >>= λ w. apply_binary op m v w
value (conversion s a) l m = value a l m >>= λ v. convert s v
-- 6.5.13p4, 6.5.14p4, 6.5.15p4: the second operand counts only where the first doesn't decide
value (logical_and a b) l m =
    value a l m >>= λ v. truth m v >>= λ yes. if yes then
    (value b l m >>= λ w. truth_value m w) else Some (of_truth false)
value (logical_or a b) l m =
    value a l m >>= λ v. truth m v >>= λ yes. if yes then Some (of_truth true) else
    (value b l m >>= λ w. truth_value m w)
value (conditional c a b) l m =
    value c l m >>= λ v. truth m v >>= λ yes. if yes then value a l m else value b l m

abbrev pub values : List CoreExprTree → Locals → Memory → Option (List Value)
values [] l m = Some []
values (a ∷ others) l m = value a l m >>= λ v. values others l m >>= λ vs. Some (v ∷ vs)

-- ---- types

-- the type of an expression's value
abbrev pub type_of : CoreExprTree → Scalar
type_of (literal s n) = s
type_of null_pointer = scalars.Pointer
type_of (variable s x) = s
type_of (temporary s k) = s
type_of (address_of b) = scalars.Pointer
type_of (load s a) = s
type_of (member offset a) = scalars.Pointer
type_of (unary op a) = unary_type op
type_of (binary op a b) = binary_type op
type_of (conversion s a) = s
type_of (logical_and a b) = scalars.Int
type_of (logical_or a b) = scalars.Int
type_of (conditional c a b) = type_of a
