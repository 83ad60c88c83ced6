-- What a unit is: trees that some tokens are read as, with their nodes numbered.
use Rattle.std.specs.Prelude.{◌≡◌, ℕ, ◌≤◌, true, List}
use Rattle.std.specs.List.{list_all}
use Rattle.qs_syntax_vocabulary.specs.declared.terminal.Terminal.{Terminal}
use Rattle.qs_syntax_vocabulary.specs.WellFormed.{is_well_formed}
use Rattle.qs_syntax.specs.Trees.{DeclTree}
use Rattle.qs_syntax.specs.ReadsUnits.{ReadsUnit}
use Rattle.qs_syntax.specs.Numbering.{numbered_unit}

-- the greatest height of a reading
abbrev pub height_limit : ℕ
height_limit = 128

-- these trees are a reading of some tokens, not too high, with its nodes numbered
pub record Reading (ds : List DeclTree) : Type 0 where
  pub tokens : List Terminal
  pub height : ℕ
  pub unnumbered : List DeclTree
  pub are_tokens : list_all is_well_formed tokens ≡ true
  pub reads : ReadsUnit height tokens unnumbered
  pub low : height ≤ height_limit
  pub are_numbered : ds ≡ numbered_unit unnumbered

-- there is such a reading
abbrev pub IsRead : List DeclTree → Type 0
IsRead ds = ∥ Reading ds ∥₁

-- the nodes are numbered
abbrev pub IsNumbered : List DeclTree → Type 0
IsNumbered ds = ∥ numbered_unit ds ≡ ds ∥₁
