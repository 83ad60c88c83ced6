-- Which temporaries are needed after each instruction of linear code. A certificate has a list of them for
-- each instruction; what no list says needs no place.
use Rattle.std.specs.Prelude.{◌≡◌, ℕ, ◌+◌, ◌⊎◌, Bool, true, false, if◌then◌else◌, List, [], ◌∷◌, ◌++◌, Option, Some, None, option_to_list, slice_index_or, Contains}
use Rattle.std.specs.List.{slice_get}
use Rattle.qs_tac.specs.Trees.{InstructionTree, move, unary, binary, convert, address_of, load, store}
use Rattle.qs_tac.specs.Trees.{copy, fill, call, jump, branch, return}
use Rattle.qs_tac.specs.Uses.{reads, writes}

-- ---- what comes next

-- whether the instruction behind it can come next
abbrev pub goes_on : InstructionTree → Bool
goes_on (move x o) = true
goes_on (unary op x o) = true
goes_on (binary op x o p) = true
goes_on (convert s x o) = true
goes_on (address_of x p) = true
goes_on (load s x p) = true
goes_on (store s p o) = true
goes_on (copy size alignment p q) = true
goes_on (fill blank p) = true
goes_on (call x f arguments) = true
goes_on (jump to) = false
goes_on (branch c to) = true
goes_on (return o) = false

-- where it may jump
abbrev pub target : InstructionTree → Option ℕ
target (move x o) = None
target (unary op x o) = None
target (binary op x o p) = None
target (convert s x o) = None
target (address_of x p) = None
target (load s x p) = None
target (store s p o) = None
target (copy size alignment p q) = None
target (fill blank p) = None
target (call x f arguments) = None
target (jump to) = Some to
target (branch c to) = Some to
target (return o) = None

abbrev pub is_call : InstructionTree → Bool
is_call (move x o) = false
is_call (unary op x o) = false
is_call (binary op x o p) = false
is_call (convert s x o) = false
is_call (address_of x p) = false
is_call (load s x p) = false
is_call (store s p o) = false
is_call (copy size alignment p q) = false
is_call (fill blank p) = false
is_call (call x f arguments) = true
is_call (jump to) = false
is_call (branch c to) = false
is_call (return o) = false

-- the indices of what can come next, behind an instruction with this index
abbrev pub nexts : InstructionTree → (index : ℕ) → List ℕ
nexts i p = (if goes_on i then (p + 1) ∷ [] else []) ++ option_to_list (target i)

-- the instruction at q can come next after that at p, whether or not anything leads to p
pub record Follows (code : List InstructionTree) (p q : ℕ) : Type 0 where
  pub instruction : InstructionTree
  pub here : slice_get code p ≡ Some instruction
  pub next : Contains (nexts instruction p) q

-- ---- certificates

-- what is needed after each instruction, by their indices
abbrev pub Certificate : Type 0
Certificate = List (List ℕ)

abbrev pub after : Certificate → (index : ℕ) → List ℕ
after needed p = slice_index_or needed p []

-- what an instruction reads, and what is needed after it and not written by it
abbrev pub NeededBefore : InstructionTree → (later : List ℕ) → (temporary : ℕ) → Type 0
NeededBefore i later t = Contains (reads i) t ⊎ (Contains later t × ¬ (writes i ≡ Some t))

-- before the instruction with the index p
pub record IsNeeded (code : List InstructionTree) (needed : Certificate) (p t : ℕ) : Type 0 where
  pub instruction : InstructionTree
  pub here : slice_get code p ≡ Some instruction
  pub why : NeededBefore instruction (after needed p) t

-- what is needed before an instruction is needed after each that can come before it
pub record IsClosed (code : List InstructionTree) (needed : Certificate) : Type 0 where
  pub flows : (p q t : ℕ) → Follows code p q → IsNeeded code needed q t → Contains (after needed p) t

-- every closed certificate lists what this one does
pub record IsLeast (code : List InstructionTree) (needed : Certificate) : Type 0 where
  pub least :
      (other : Certificate) → IsClosed code other → (p t : ℕ) → Contains (after needed p) t → Contains (after other p) t

-- ---- held at once

-- needed after an instruction, or written by it
abbrev pub HeldBehind : InstructionTree → (later : List ℕ) → (temporary : ℕ) → Type 0
HeldBehind i later t = Contains later t ⊎ (writes i ≡ Some t)

-- whether or not what the instruction with the index p writes is needed
pub record IsHeld (code : List InstructionTree) (needed : Certificate) (p t : ℕ) : Type 0 where
  pub instruction : InstructionTree
  pub here : slice_get code p ≡ Some instruction
  pub why : HeldBehind instruction (after needed p) t

-- t is needed after a call
pub record CrossesCall (code : List InstructionTree) (needed : Certificate) (t : ℕ) : Type 0 where
  pub at : ℕ
  pub instruction : InstructionTree
  pub here : slice_get code at ≡ Some instruction
  pub is_call : is_call instruction ≡ true
  pub needed_after : Contains (after needed at) t
