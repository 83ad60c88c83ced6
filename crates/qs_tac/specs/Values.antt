-- The values that instructions take.
use Rattle.std.specs.Prelude.{ℕ, ◌+◌, not, Bool, List, [], ◌∷◌, Option, Some, None}
use Rattle.qs_memory.specs.Partial.{◌>>=◌}
use Rattle.qs_memory.specs.Values.{Pointer, null, into, Value, integer, address, as_integer, as_pointer, convert}
use Rattle.qs_memory.specs.Integers.{compares}
use Rattle.qs_memory.specs.Memory.{Memory}
use Rattle.qs_memory.specs.Pointers.{member_of, truth, compares_pointers}
use Rattle.qs_memory.specs.Operations.{on_integers, on_pointers, apply_binary}
use Rattle.qs_memory.specs.declared.scalar.Scalar.TheVariants as scalars
use Rattle.qs_memory.specs.declared.operation.Direction.TheVariants.{Up}
use Rattle.qs_memory.specs.declared.operation.BinaryOperation.TheVariants as binaries
use Rattle.qs_tac.specs.Holders.{Holder}
use Rattle.qs_tac.specs.declared.operands.Operand.{Operand}
use Rattle.qs_tac.specs.declared.operands.Operand.TheVariants.{Temporary, Integer, Byte, Constant, Null, Local, Data}
use Rattle.qs_tac.specs.declared.operands.Index.{Index}
use Rattle.qs_tac.specs.declared.operands.Address.{Address}
use Rattle.qs_tac.specs.declared.operands.Condition.{Condition}
use Rattle.qs_tac.specs.declared.operands.Condition.TheVariants.{NotZero, Zero, Compare, ComparePointers}

-- a function that runs: the index of its next instruction, the number of the first block of its call, and
-- the values of its temporaries
pub record Activation (S : Type 0) : Type 0 where
  pub function : ℕ
  pub at : ℕ
  pub first_block : ℕ
  pub held : S

-- the unit's data are the first blocks of every memory. UNDEFINED 1 (6.3.2.1p2): a temporary without a
-- value; UNDEFINED too: an integer is asked for where a pointer stands, which no typed program meets
abbrev pub operand : {S : Type 0} → Holder S → Operand → Activation S → Option Value
operand h (Temporary t) a = h.read a.function a.held t
operand h (Integer t) a = h.read a.function a.held t >>= λ v. as_integer v >>= λ n. Some (integer n)
operand h (Byte t) a = h.read a.function a.held t >>= λ v. convert scalars.Char v
operand h (Constant n) a = Some (integer n)
operand h Null a = Some (address null)
operand h (Local i) a = Some (address (into (a.first_block + i) 0))
operand h (Data i) a = Some (address (into i 0))

abbrev pub operands : {S : Type 0} → Holder S → List Operand → Activation S → Option (List Value)
operands h [] a = Some []
operands h (o ∷ others) a = operand h o a >>= λ v. operands h others a >>= λ vs. Some (v ∷ vs)

-- 6.5.2.3p3, p4: a pointer to the member at the offset, where one is taken
abbrev pub member_at : Memory → (offset : Option ℕ) → Pointer → Option Pointer
member_at m None q = Some q
member_at m (Some offset) q = member_of m q offset

-- 6.5.6p8, 6.5.2.3: a pointer so many elements behind another, and there to the member at the offset
abbrev pub indexed : {S : Type 0} → Holder S → Option Index → Pointer → Activation S → Memory → Option Pointer
indexed h None q a m = Some q
indexed h (Some index) q a m =
    operand h index.count a >>= λ n.
    apply_binary (binaries.Move Up index.signedness index.element) m (address q) n >>= λ v.
    as_pointer v >>= λ r. member_at m index.offset r

-- 6.5.2.1, 6.5.2.3: a pointer to the member at the offset, and there to the element
abbrev pub pointer : {S : Type 0} → Holder S → Address → Activation S → Memory → Option Pointer
pointer h p a m =
    operand h p.base a >>= λ v. as_pointer v >>= λ q. member_at m p.offset q >>= λ r. indexed h p.index r a m

-- 6.5.8, 6.5.9; 6.8.4.1p2
abbrev pub holds : {S : Type 0} → Holder S → Condition → Activation S → Memory → Option Bool
holds h (NotZero o) a m = operand h o a >>= λ v. truth m v
holds h (Zero o) a m = operand h o a >>= λ v. truth m v >>= λ b. Some (not b)
holds h (Compare op s o p) a m =
    operand h o a >>= λ v. operand h p a >>= λ w. on_integers (λ x y. Some (compares op s x y)) v w
holds h (ComparePointers op o p) a m =
    operand h o a >>= λ v. operand h p a >>= λ w. on_pointers (compares_pointers op m) v w
