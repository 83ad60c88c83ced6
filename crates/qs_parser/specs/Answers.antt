-- What the parser answers.
use Rattle.std.specs.Prelude.{◌≡◌, ◌≢◌, ◌↔◌, ℕ, suc, ◌<◌, ◌≤◌, List, length, take, Result, Ok, Err}
use Rattle.qs_syntax_vocabulary.specs.declared.terminal.Terminal.{Terminal}
use Rattle.qs_syntax.specs.declared.unit.Unit as unit
use Rattle.qs_syntax.specs.Trees.{DeclTree}
use Rattle.qs_syntax.specs.UnitTrees.{unit_tree}
use Rattle.qs_syntax.specs.Numbering.{numbered_unit}
use Rattle.qs_syntax.specs.ReadsUnits.{ReadsUnit}
use Rattle.qs_syntax.specs.Begins.{BeginsUnit, BeginsLowUnit}
use Rattle.qs_syntax.specs.Units.{height_limit}
use Rattle.qs_parser.specs.declared.syntax_fault.SyntaxFault.{SyntaxFault}
use Rattle.qs_parser.specs.declared.syntax_fault.SyntaxFault.TheVariants as faults

-- the trees are a reading of these tokens that is not too high, with its nodes numbered
pub record ReadsAs (tokens : List Terminal) (ds : List DeclTree) : Type 0 where
  pub height : ℕ
  pub unnumbered : List DeclTree
  pub reads : ReadsUnit height tokens unnumbered
  pub low : height ≤ height_limit
  pub are_numbered : ds ≡ numbered_unit unnumbered

-- each reading that the tokens have is higher than the limit; there may be none at all
abbrev pub HasNoReading : List Terminal → Type 0
HasNoReading tokens = (height : ℕ) (ds : List DeclTree) → ReadsUnit height tokens ds → height ≤ height_limit → ⊥

-- The tokens before the one with this number begin a unit that is low enough, and with it they begin none of whatever height. At the end
-- of the tokens the number is how many they are: they begin a unit and are none.
pub record IsUnexpected (tokens : List Terminal) (number : ℕ) : Type 0 where
  pub within : number ≤ length tokens
  pub before : BeginsLowUnit (take number tokens)
  pub not_with : number < length tokens → BeginsUnit (take (suc number) tokens) → ⊥
  pub none : (height : ℕ) (ds : List DeclTree) → ReadsUnit height tokens ds → ⊥

-- The tokens before the one with this number begin a unit that is low enough, and with it they begin one, but none that is low enough: it
-- is the first token at which every reading is too high.
pub record IsTooDeep (tokens : List Terminal) (number : ℕ) : Type 0 where
  pub within : number < length tokens
  pub before : BeginsLowUnit (take number tokens)
  pub with : BeginsUnit (take (suc number) tokens)
  pub none : BeginsLowUnit (take (suc number) tokens) → ⊥

-- the tokens have this fault
abbrev pub HasFault : List Terminal → SyntaxFault → Type 0
HasFault tokens faults.NoMemory = Unit {0}
HasFault tokens (faults.Unexpected number) = IsUnexpected tokens number
HasFault tokens (faults.TooDeep number) = IsTooDeep tokens number

-- what is answered is allowed
abbrev pub Answers : List Terminal → Result unit.Unit SyntaxFault → Type 0
Answers tokens (Ok unit) = ReadsAs tokens (unit_tree unit)
Answers tokens (Err fault) = HasFault tokens fault

-- the answer is the unit with this tree
abbrev pub GivesTree : Result unit.Unit SyntaxFault → List DeclTree → Type 0
GivesTree (Ok unit) ds = unit_tree unit ≡ ds
GivesTree (Err fault) ds = ⊥

-- A unit is answered exactly where the tokens have a reading that is not too high, and a fault exactly where they have it.
pub record Decides (tokens : List Terminal) (result : Result unit.Unit SyntaxFault) : Type 0 where
  pub unit : (ds : List DeclTree) → GivesTree result ds ↔ ReadsAs tokens ds
  pub fault : (fault : SyntaxFault) → fault ≢ faults.NoMemory → (result ≡ Err fault) ↔ HasFault tokens fault

-- want of memory is answered, or the answer is the only one that is right
abbrev pub IsDecision : List Terminal → Result unit.Unit SyntaxFault → Type 0
IsDecision tokens result = result ≢ Err faults.NoMemory → Decides tokens result
