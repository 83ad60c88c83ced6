-- Steps that may fail, one after another: the first that fails decides.
use Rattle.std.specs.Prelude.{Bool, true, false, Option, Some, Result, Ok, Err}

-- What a step gives goes into the next one; its error is passed on.
abbrev pub bind : {A B E : Type 0} → Result A E → (A → Result B E) → Result B E
bind (Ok a) next = next a
bind (Err e) next = Err e

-- a step behind a test, which fails with this error
abbrev pub require : {A E : Type 0} → Bool → E → Result A E → Result A E
require true e r = r
require false e r = Err e

-- the fault that a step's error is, or else the first fault of what follows
abbrev pub fault_or : {A E F : Type 0} → (E → F) → Result A E → (A → Option F) → Option F
fault_or told (Ok a) others = others a
fault_or told (Err e) others = Some (told e)
