-- What is promised of tokens.
use Rattle.std.specs.Prelude.{◌≡◌, ◌≢◌, ℕ, List}
use Rattle.qs_syntax_vocabulary.specs.declared.terminal.Terminal.{Terminal}
use Rattle.qs_syntax.specs.Trees.{DeclTree}
use Rattle.qs_syntax.specs.ReadsUnits.{ReadsUnit}
use Rattle.qs_parser.specs.Answers.{HasFault}
use Rattle.qs_parser.specs.declared.syntax_fault.SyntaxFault.{SyntaxFault}
use Rattle.qs_parser.specs.declared.syntax_fault.SyntaxFault.TheVariants.{NoMemory}

-- tokens have at most one reading as a unit, of one height
abbrev pub OneReading : Type 0
OneReading =
    (tokens : List Terminal) (ds es : List DeclTree) (h k : ℕ) → ReadsUnit h tokens ds → ReadsUnit k tokens es
    → (ds ≡ es) × (h ≡ k)

-- tokens have at most one fault besides want of memory
abbrev pub OneFault : Type 0
OneFault =
    (tokens : List Terminal) (fault other : SyntaxFault) → HasFault tokens fault → HasFault tokens other
    → fault ≢ NoMemory → other ≢ NoMemory → fault ≡ other
