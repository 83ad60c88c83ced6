-- The test of places: a computing twin of each condition that accepted places meet.
use Rattle.std.specs.Prelude.{◌≡◌, ℕ, ◌+◌, ◌==◌, ◌&&◌, ◌||◌, not, Bool, true, false, List, [], ◌∷◌, length, Option, Some, None, slice_index_or}
use Rattle.std.specs.List.{slice_get, list_all, list_any}
use Rattle.qs_calls.specs.World.{World}
use Rattle.qs_calls.specs.declared.parameter.Parameter.{Parameter}
use Rattle.qs_calls.specs.declared.parameter.Parameter.TheVariants.{Plain, Placed}
use Rattle.qs_memory.specs.Values.{Value}
use Rattle.qs_tac.specs.Trees.{InstructionTree, TacFunctionTree, TacUnitTree}
use Rattle.qs_tac.specs.Holders.{same_place, is_kept}
use Rattle.qs_tac.specs.Uses.{reads, writes}
use Rattle.qs_tac.specs.Liveness.{goes_on, target, is_call, Certificate, after}
use Rattle.qs_tac.specs.Places.{PlacesTree, no_places, slots_among, may_stand}
use Rattle.qs_tac.specs.Units.{tac_run, placed_run}
use Rattle.qs_tac.specs.declared.places.Place.{Place}
use Rattle.qs_tac.specs.declared.places.Place.TheVariants.{Slot, Register}

-- ---- a slot for each temporary

abbrev pub is_slot : Place → (slot : ℕ) → Bool
is_slot (Slot k) slot = k == slot
is_slot (Register r) slot = false

-- slots one after the other, from this one on
abbrev pub are_in_order : (first : ℕ) → List Place → Bool
are_in_order first [] = true
are_in_order first (p ∷ places) = is_slot p first && are_in_order (first + 1) places

abbrev pub are_own_slots : List Place → (count : ℕ) → Bool
are_own_slots places count = length places == count && are_in_order 0 places

-- ---- the certificate is closed

abbrev pub is_among : List ℕ → (temporary : ℕ) → Bool
is_among list t = list_any (λ u. u == t) list

abbrev pub is_written : Option ℕ → (temporary : ℕ) → Bool
is_written None t = false
is_written (Some x) t = x == t

-- t is written, or needed earlier too
abbrev pub is_passed : (written : Option ℕ) → (earlier : List ℕ) → (t : ℕ) → Bool
is_passed written earlier t = is_written written t || is_among earlier t

-- what is needed before the instruction is needed earlier
abbrev pub flows : InstructionTree → (later earlier : List ℕ) → Bool
flows i later earlier = list_all (is_among earlier) (reads i) && list_all (is_passed (writes i) earlier) later

abbrev pub flows_into : Option InstructionTree → (later earlier : List ℕ) → Bool
flows_into None later earlier = true
flows_into (Some i) later earlier = flows i later earlier

abbrev pub flows_from : List InstructionTree → Certificate → (next : ℕ) → (earlier : List ℕ) → Bool
flows_from code needed q earlier = flows_into (slice_get code q) (after needed q) earlier

abbrev pub flows_from_target : List InstructionTree → Certificate → Option ℕ → (earlier : List ℕ) → Bool
flows_from_target code needed None earlier = true
flows_from_target code needed (Some q) earlier = flows_from code needed q earlier

-- from all that can come behind the instruction with the index p
abbrev pub flows_on : List InstructionTree → Certificate → (p : ℕ) → InstructionTree → Bool
flows_on code needed p i =
    (not (goes_on i) || flows_from code needed (p + 1) (after needed p))
    && flows_from_target code needed (target i) (after needed p)

-- ---- what is held at once stands apart

abbrev pub place_at : List Place → (temporary : ℕ) → Place
place_at at t = slice_index_or at t (Slot t)

abbrev pub is_apart : List Place → (t u : ℕ) → Bool
is_apart at t u = t == u || not (same_place (place_at at t) (place_at at u))

abbrev pub are_apart : List Place → List ℕ → Bool
are_apart at list = list_all (λ t. list_all (is_apart at t) list) list

-- what is needed after an instruction, and what it writes
abbrev pub is_held_apart : List Place → (written : Option ℕ) → (later : List ℕ) → Bool
is_held_apart at None later = are_apart at later
is_held_apart at (Some x) later = list_all (is_apart at x) later && are_apart at later

abbrev pub is_apart_from_parameter : List Place → (t : ℕ) → Parameter → Bool
is_apart_from_parameter at t (Plain u) = is_apart at t u
is_apart_from_parameter at t (Placed i s) = true

-- u is written, or stands apart from t
abbrev pub is_written_or_apart : List Place → (t : ℕ) → (written : Option ℕ) → (u : ℕ) → Bool
is_written_or_apart at t written u = is_written written u || is_apart at t u

-- from what is needed before the first instruction
abbrev pub is_apart_from_first : List Place → (t : ℕ) → Option InstructionTree → (later : List ℕ) → Bool
is_apart_from_first at t None later = true
is_apart_from_first at t (Some i) later =
    list_all (is_apart at t) (reads i) && list_all (is_written_or_apart at t (writes i)) later

abbrev pub is_apart_at_entry : List Parameter → List Place → Option InstructionTree → (later : List ℕ) → (t : ℕ) → Bool
is_apart_at_entry parameters at first later t =
    list_all (is_apart_from_parameter at t) parameters && is_apart_from_first at t first later

abbrev pub is_parameter_apart : List Parameter → List Place → Option InstructionTree → (later : List ℕ) → Parameter → Bool
is_parameter_apart parameters at first later (Plain t) = is_apart_at_entry parameters at first later t
is_parameter_apart parameters at first later (Placed i s) = true

abbrev pub are_reads_apart : List Parameter → List Place → Option InstructionTree → (later : List ℕ) → Bool
are_reads_apart parameters at None later = true
are_reads_apart parameters at (Some i) later = list_all (is_apart_at_entry parameters at (Some i) later) (reads i)

-- the parameters, and what is needed before the first instruction; what is needed after it too stands apart there
abbrev pub is_entry_apart : List Parameter → List Place → Option InstructionTree → (later : List ℕ) → Bool
is_entry_apart parameters at first later =
    list_all (is_parameter_apart parameters at first later) parameters && are_reads_apart parameters at first later

-- ---- each instruction, and each place

-- what is needed after a call stands where calls leave it
abbrev pub is_kept_at : List Place → (temporary : ℕ) → Bool
is_kept_at at t = is_kept (place_at at t)

abbrev pub keeps_at : List InstructionTree → List Place → Certificate → (p : ℕ) → InstructionTree → Bool
keeps_at code at needed p i =
    (not (is_call i) || list_all (is_kept_at at) (after needed p))
    && flows_on code needed p i && is_held_apart at (writes i) (after needed p)

-- the instructions from the index p on
abbrev pub keeps_from : List InstructionTree → List Place → Certificate → (p : ℕ) → List InstructionTree → Bool
keeps_from code at needed p [] = true
keeps_from code at needed p (i ∷ rest) = keeps_at code at needed p i && keeps_from code at needed (p + 1) rest

abbrev pub all_stand : List Place → Bool
all_stand at = list_all (may_stand (slots_among at)) at

abbrev pub keeps_values : TacFunctionTree → PlacesTree → Bool
keeps_values f p =
    length p.at == f.temporaries && length p.needed == length f.code
    && is_entry_apart f.parameters p.at (slice_get f.code 0) (after p.needed 0)
    && keeps_from f.code p.at p.needed 0 f.code && all_stand p.at

abbrev pub is_accepted : TacFunctionTree → PlacesTree → Bool
is_accepted f p = are_own_slots p.at f.temporaries || keeps_values f p

-- ---- of all functions

-- of the function with this number
abbrev pub is_verified : List PlacesTree → (f : ℕ) → TacFunctionTree → Bool
is_verified ps f g = is_accepted g (slice_index_or ps f no_places)

-- of functions, the first of which has this number
abbrev pub are_verified : List PlacesTree → (f : ℕ) → List TacFunctionTree → Bool
are_verified ps f [] = true
are_verified ps f (g ∷ functions) = is_verified ps f g && are_verified ps (f + 1) functions

-- the unit does with its values in these places what it does with them in temporaries
abbrev pub KeepsRuns : TacUnitTree → List PlacesTree → Type 0
KeepsRuns u ps =
    (root : ℕ) (arguments : List Value) (w : World) (m : ℕ)
    → placed_run u ps root arguments w m ≡ tac_run u root arguments w m
