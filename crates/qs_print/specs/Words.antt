-- What it is to write terminals: each is spelled, with a blank behind it.
use Rattle.std.specs.Prelude.{◌≡◌, ℕ, List, [], ◌∷◌, ◌++◌, Vec}
use Rattle.std.specs.declared.alloc.Global.{Global}
use Rattle.qs_base.specs.Characters.{space}
use Rattle.qs_syntax_vocabulary.specs.declared.terminal.Terminal.{Terminal}
use Rattle.qs_print.specs.Spelling.{spelling}

abbrev pub spaced : List Terminal → List ℕ
spaced [] = []
spaced (l ∷ ls) = spelling l ++ space ∷ spaced ls

-- behind the text `before`, these terminals were written
pub record Writes (before : List ℕ) (ls : List Terminal) (after : List ℕ) : Type 0 where
  pub text : after ≡ before ++ spaced ls

-- the same of the text in memory
abbrev pub Puts : Vec ℕ Global → List Terminal → Vec ℕ Global → Type 0
Puts before ls after = Writes before.items ls after.items
