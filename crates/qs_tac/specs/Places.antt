-- The places in which the values of a function may stand, and which of them keep what it does.
use Rattle.std.specs.Prelude.{◌≡◌, ℕ, zero, suc, ◌+◌, ◌<◌, ◌==◌, ◌&&◌, ◌⊎◌, not, nat_lt, nat_le, Bool, true, false, if◌then◌else◌}
use Rattle.std.specs.Prelude.{List, [], ◌∷◌, length, map, slice_index_or, Contains, Vec}
use Rattle.std.specs.declared.alloc.Global.{Global}
use Rattle.qs_calls.specs.declared.parameter.Parameter.TheVariants.{Plain}
use Rattle.qs_tac.specs.Trees.{TacFunctionTree}
use Rattle.qs_tac.specs.TreeOf.{function_trees}
use Rattle.qs_tac.specs.declared.units.TacFunction.{TacFunction}
use Rattle.qs_tac.specs.declared.places.Place.{Place}
use Rattle.qs_tac.specs.declared.places.Place.TheVariants.{Slot, Register}
use Rattle.qs_tac.specs.declared.places.Places.{Places}
use Rattle.qs_tac.specs.Holders.{is_saved_register, is_kept}
use Rattle.qs_tac.specs.Liveness.{Certificate, IsClosed, IsLeast, IsNeeded, IsHeld, CrossesCall}

-- where the temporaries of a function stand, by their numbers, and which are needed after each instruction
pub record PlacesTree : Type 0 where
  pub at : List Place
  pub needed : Certificate

abbrev pub lists : List (Vec ℕ Global) → Certificate
lists vectors = map (λ v. v.items) vectors

abbrev pub places_tree : Places → PlacesTree
places_tree p = record { at = p.at.items; needed = lists p.needed.items }

-- of functions, by their numbers
abbrev pub places_trees : List Places → List PlacesTree
places_trees ps = map places_tree ps

-- ---- a slot for each temporary

abbrev pub slots_from : (first count : ℕ) → List Place
slots_from first zero = []
slots_from first (suc count) = Slot first ∷ slots_from (first + 1) count

-- each temporary stands in the slot of its own number, needed or not
abbrev pub all_slots : TacFunctionTree → PlacesTree
all_slots f = record { at = slots_from 0 f.temporaries; needed = [] }

-- the places of each function are such slots
abbrev pub HaveOwnSlots : List TacFunction → List Places → Type 0
HaveOwnSlots functions ps = places_trees ps ≡ map all_slots (function_trees functions)

-- where a temporary stands; no temporary has a number from the length of the list on
abbrev pub place_of : PlacesTree → (temporary : ℕ) → Place
place_of p t = slice_index_or p.at t (Slot t)

abbrev pub no_places : PlacesTree
no_places = record { at = []; needed = [] }

-- by the numbers of function and temporary
abbrev pub place_in : List PlacesTree → (function temporary : ℕ) → Place
place_in ps f = place_of (slice_index_or ps f no_places)

-- ---- registers

-- x10 to x17, which are kept for the steps that the instructions themselves are made of: no value stands
-- where the arguments of a call go
abbrev pub is_for_steps : (register : ℕ) → Bool
is_for_steps r = nat_le 10 r && nat_le r 17

-- x5 to x9 and x18 to x31; x0 is zero, x1 to x4 are the return address and the pointers to stack, data and thread
abbrev pub is_for_values : (register : ℕ) → Bool
is_for_values r = nat_le 5 r && nat_le r 31 && not (is_for_steps r)

-- ---- slots

abbrev pub slots_among : List Place → ℕ
slots_among [] = 0
slots_among (Slot k ∷ places) = suc (slots_among places)
slots_among (Register r ∷ places) = slots_among places

-- the temporaries that stand in slots
abbrev pub slot_count : PlacesTree → ℕ
slot_count p = slots_among p.at

abbrev pub is_slot_among : List Place → (slot : ℕ) → Bool
is_slot_among [] k = false
is_slot_among (Slot l ∷ places) k = if l == k then true else is_slot_among places k
is_slot_among (Register r ∷ places) k = is_slot_among places k

-- the slots in the order of the last temporaries that stand in them
abbrev pub slots_by_last : List Place → List ℕ
slots_by_last [] = []
slots_by_last (Slot k ∷ places) = if is_slot_among places k then slots_by_last places else k ∷ slots_by_last places
slots_by_last (Register r ∷ places) = slots_by_last places

-- how many slots have a last temporary behind that of this one: so many lie before it in a frame
abbrev pub slot_rank : List Place → (slot : ℕ) → ℕ
slot_rank [] k = 0
slot_rank (p ∷ places) k = if is_slot_among places k then slot_rank places k else length (slots_by_last places)

-- ---- places that keep the meaning

-- needed at the entry, which counts as an instruction that writes the parameters
abbrev pub IsHeldAtEntry : TacFunctionTree → Certificate → (temporary : ℕ) → Type 0
IsHeldAtEntry f needed t = Contains f.parameters (Plain t) ⊎ IsNeeded f.code needed 0 t

-- both are held at the same instruction, or at the entry
pub data Interfere (f : TacFunctionTree) (needed : Certificate) (t u : ℕ) : Type 0 where
  at_entry : IsHeldAtEntry f needed t → IsHeldAtEntry f needed u → Interfere f needed t u
  at_instruction : (p : ℕ) → IsHeld f.code needed p t → IsHeld f.code needed p u → Interfere f needed t u

-- a value may stand in a register for values, and in a slot with a number below the count of temporaries in slots
abbrev pub may_stand : (slots : ℕ) → Place → Bool
may_stand slots (Slot k) = nat_lt k slots
may_stand slots (Register r) = is_for_values r

-- what a temporary holds while it is needed nothing else writes
pub record KeepValues (f : TacFunctionTree) (p : PlacesTree) : Type 0 where
  pub one_place_each : length p.at ≡ f.temporaries
  pub one_list_each : length p.needed ≡ length f.code
  pub closed : IsClosed f.code p.needed
  -- what is held at once stands apart
  pub apart : (t u : ℕ) → Interfere f p.needed t u → place_of p t ≡ place_of p u → t ≡ u
  -- a call leaves what is needed after it
  pub kept : (t : ℕ) → CrossesCall f.code p.needed t → is_kept (place_of p t) ≡ true
  pub stand : (t : ℕ) → t < f.temporaries → may_stand (slot_count p) (place_of p t) ≡ true

-- a slot for each temporary, whatever is needed; or places that keep values
pub data Accepted (f : TacFunctionTree) (p : PlacesTree) : Type 0 where
  own_slots : p.at ≡ (all_slots f).at → Accepted f p
  keep_values : KeepValues f p → Accepted f p

-- ---- places that leave no register empty

-- a temporary stands in the register beside which t may not stand there
pub record IsTaken (f : TacFunctionTree) (p : PlacesTree) (register t : ℕ) : Type 0 where
  pub by : ℕ
  pub below : by < f.temporaries
  pub stands : place_of p by ≡ Register register
  pub interferes : Interfere f p.needed t by

-- no temporary stands in a slot while it could stand in a register
pub record Packed (f : TacFunctionTree) (p : PlacesTree) : Type 0 where
  pub keep_values : KeepValues f p
  pub least : IsLeast f.code p.needed
  pub full :
      (t k r : ℕ) → t < f.temporaries → place_of p t ≡ Slot k → is_for_values r ≡ true
      → (CrossesCall f.code p.needed t → is_saved_register r ≡ true) → IsTaken f p r t
