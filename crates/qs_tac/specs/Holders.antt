-- What holds the values of temporaries while a function runs: temporaries themselves, or places in its
-- frame and in registers. A run is the same for all of them, but for what they hold.
use Rattle.std.specs.Prelude.{ℕ, ◌==◌, ◌&&◌, ◌||◌, nat_le, Bool, true, false, if◌then◌else◌, List, [], ◌∷◌, Option, Some, None}
use Rattle.qs_memory.specs.Values.{Value}
use Rattle.qs_calls.specs.World.{Environment, with_value}
use Rattle.qs_tac.specs.declared.places.Place.{Place}
use Rattle.qs_tac.specs.declared.places.Place.TheVariants.{Slot, Register}

-- S is all that an activation of a function holds
pub record Holder (S : Type 0) : Type 0 where
  -- at the entry, from the values of the parameters
  pub enter : (function : ℕ) → Environment → S
  pub read : (function : ℕ) → S → (temporary : ℕ) → Option Value
  pub write : (function : ℕ) → S → (temporary : ℕ) → Value → S
  -- what a call that the function makes leaves of it
  pub keep : S → S

-- ---- temporaries: each holds its value, whatever is called

abbrev pub temporaries : Holder Environment
temporaries = record {
  enter = λ f e. e;
  read = λ f e t. e t;
  write = λ f e t v. with_value e t v;
  keep = λ e. e;
}

-- ---- places

-- the values in the slots of a frame and in registers
abbrev pub File : Type 0
File = Place → Option Value

abbrev pub same_place : Place → Place → Bool
same_place (Slot k) (Slot l) = k == l
same_place (Slot k) (Register r) = false
same_place (Register r) (Slot k) = false
same_place (Register r) (Register s) = r == s

abbrev pub with_place : File → Place → Option Value → File
with_place file p v q = if same_place q p then v else file q

-- each of these temporaries in its place
abbrev pub placed_values : (at : ℕ → Place) → Environment → (temporaries : List ℕ) → File
placed_values at e [] p = None
placed_values at e (t ∷ ts) p = with_place (placed_values at e ts) (at t) (e t) p

-- x8, x9 and x18 to x27: a function gives them back to its caller as they were
abbrev pub is_saved_register : ℕ → Bool
is_saved_register r = r == 8 || r == 9 || (nat_le 18 r && nat_le r 27)

-- a call leaves the slots of its caller, and these registers
abbrev pub is_kept : Place → Bool
is_kept (Slot k) = true
is_kept (Register r) = is_saved_register r

abbrev pub kept : File → File
kept file p = if is_kept p then file p else None

-- parameters: those of a function that are temporaries; at: where its temporaries stand
abbrev pub places : (parameters : ℕ → List ℕ) → (at : ℕ → ℕ → Place) → Holder File
places parameters at = record {
  enter = λ f e. placed_values (at f) e (parameters f);
  read = λ f file t. file (at f t);
  write = λ f file t v. with_place file (at f t) (Some v);
  keep = kept;
}
