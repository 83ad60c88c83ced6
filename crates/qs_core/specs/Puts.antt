-- What functions in code put behind a text.
use Rattle.std.specs.Prelude.{◌≡◌, ℕ, List, ◌++◌, Vec, Result, OnOk}
use Rattle.std.specs.declared.alloc.Global.{Global}

-- behind the text so far, this one
abbrev pub Puts : {A E : Type 0} → Vec ℕ Global → List ℕ → Vec ℕ Global → Result A E → Type 0
Puts old text new result = OnOk result (new.items ≡ old.items ++ text)
