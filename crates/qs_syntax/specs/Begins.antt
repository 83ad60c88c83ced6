-- What tokens begin: a unit (C11 6.9) that some list which continues them is read as.
use Rattle.std.specs.Prelude.{ℕ, ◌≤◌, List, ◌++◌}
use Rattle.qs_syntax_vocabulary.specs.declared.terminal.Terminal.{Terminal}
use Rattle.qs_syntax.specs.Trees.{DeclTree}
use Rattle.qs_syntax.specs.ReadsUnits.{ReadsUnit}
use Rattle.qs_syntax.specs.Units.{height_limit}

-- the tokens begin a unit of some height
pub record BeginsUnit (tokens : List Terminal) : Type 0 where
  pub rest : List Terminal
  pub height : ℕ
  pub ds : List DeclTree
  pub reads : ReadsUnit height (tokens ++ rest) ds

-- the tokens begin a unit that is not too high
pub record BeginsLowUnit (tokens : List Terminal) : Type 0 where
  pub rest : List Terminal
  pub height : ℕ
  pub ds : List DeclTree
  pub reads : ReadsUnit height (tokens ++ rest) ds
  pub low : height ≤ height_limit
