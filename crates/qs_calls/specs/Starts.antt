-- What a run may start from: a function of the unit, arguments of its parameters' types, a memory
-- that begins with the unit's data, and an input. Each language whose runs are over block memory
-- cites this.
use Rattle.std.specs.Prelude.{◌≡◌, ℕ, ◌<◌, ◌≤◌, Bool, true, List, [], ◌∷◌, length, All, Option, Some, None}
use Rattle.std.specs.List.{slice_get}
use Rattle.qs_memory.specs.Values.{Value, has_type}
use Rattle.qs_memory.specs.Memory.{Memory, block_at}
use Rattle.qs_memory.specs.Soundness.{IsSoundValue, IsSound, ComesAfter}
use Rattle.qs_memory.specs.declared.scalar.Scalar.{Scalar}
use Rattle.qs_memory.specs.declared.scalar.Scalar.TheVariants as scalars
use Rattle.qs_calls.specs.World.{World}
use Rattle.qs_calls.specs.declared.callee.Callee.{Callee}
use Rattle.qs_calls.specs.declared.callee.Callee.TheVariants.{Function, PutChar, GetChar}

-- ---- what a unit shows of itself

-- the types of a function's parameters, and of its result if it has one (6.9.1p3, p7)
pub record Signature : Type 0 where
  pub parameters : List Scalar
  pub result_type : Option Scalar

-- a block that is there from the beginning: a file-scope variable, or a string literal
pub record DataExtent : Type 0 where
  pub size : ℕ
  pub is_writable : Bool

-- the functions with a body, and the data, which are the first blocks of every memory; each has the
-- number of its place
pub record Interface : Type 0 where
  pub functions : List Signature
  pub data_blocks : List DataExtent

-- 7.21.7.6, 7.21.7.8: the functions that the environment gives have types as well
abbrev pub signature_of : Interface → Callee → Option Signature
signature_of unit (Function f) = slice_get unit.functions f.0
signature_of unit PutChar =
    Some (record { parameters = scalars.Int ∷ []; result_type = Some scalars.Int })
signature_of unit GetChar = Some (record { parameters = []; result_type = Some scalars.Int })

-- where there is no function there is no result
abbrev pub result_type_of : Option Signature → Option Scalar
result_type_of None = None
result_type_of (Some f) = f.result_type

-- ---- values of types

-- a value of this type, in a memory
pub record IsOf (m : Memory) (s : Scalar) (v : Value) : Type 0 where
  pub typed : has_type s v ≡ true
  pub sound : IsSoundValue m v

-- as many values as types, each of its type
abbrev pub AreOf : Memory → List Scalar → List Value → Type 0
AreOf m [] [] = Unit {0}
AreOf m [] (v ∷ vs) = ⊥
AreOf m (s ∷ types) [] = ⊥
AreOf m (s ∷ types) (v ∷ vs) = IsOf m s v × AreOf m types vs

-- a function returns values of its type alone, or ends without one
abbrev pub ResultIsOf : Memory → Option Scalar → Option Value → Type 0
ResultIsOf m result_type None = Unit {0}
ResultIsOf m None (Some v) = ⊥
ResultIsOf m (Some s) (Some v) = IsOf m s v

-- ---- memories

pub record IsDataExtent (m : Memory) (block : ℕ) (d : DataExtent) : Type 0 where
  pub size : (block_at m block).size ≡ d.size
  pub writable : (block_at m block).is_writable ≡ d.is_writable

-- the first blocks are these data; one that was released may still not be accessed
pub record BeginsWith (data_blocks : List DataExtent) (m : Memory) : Type 0 where
  pub count : length data_blocks ≤ length m
  pub each :
      (block : ℕ) (d : DataExtent) → slice_get data_blocks block ≡ Some d → IsDataExtent m block d

-- a sound memory that begins with the unit's data, and an input of bytes
pub record IsReady (unit : Interface) (w : World) : Type 0 where
  pub sound : IsSound w.memory
  pub data_blocks : BeginsWith unit.data_blocks w.memory
  pub input : All (λ byte. byte < 256) w.input

-- ---- where runs start, and what they leave

-- there is such a function, and these are arguments for it
abbrev pub Takes : Memory → Option Signature → List Value → Type 0
Takes m None arguments = ⊥
Takes m (Some f) arguments = AreOf m f.parameters arguments

-- the premise of what is said of every root, memory and input
pub record MayStart (unit : Interface) (root : ℕ) (arguments : List Value)
    (w : World) : Type 0 where
  pub takes : Takes w.memory (slice_get unit.functions root) arguments
  pub ready : IsReady unit w

-- the end of a call that began with this memory
pub record IsReturn (unit : Interface) (result_type : Option Scalar) (start : Memory)
    (result : Option Value) (w : World) : Type 0 where
  pub typed : ResultIsOf w.memory result_type result
  pub ready : IsReady unit w
  pub after : ComesAfter start w.memory
