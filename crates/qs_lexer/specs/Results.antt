-- What an answer of the lexer says, and what it must be.
use Rattle.std.specs.Prelude.{◌≡◌, ◌⊎◌, ℕ, List, Result, Ok, Err}
use Rattle.std.specs.declared.vec.Vec.{Vec}
use Rattle.std.specs.declared.alloc.Global.{Global}
use Rattle.qs_lexer.specs.Tokens.{Tokens, LexFaultAt}
use Rattle.qs_lexer.specs.declared.fault.FaultKind.{FaultKind}
use Rattle.qs_lexer.specs.declared.fault.FaultKind.TheVariants as kinds
use Rattle.qs_lexer.specs.declared.fault.LexFault.{LexFault}
use Rattle.qs_lexer.specs.declared.fault.LexFault.TheVariants as faults
use Rattle.qs_syntax_vocabulary.specs.declared.tokens.Token.{Token}

-- the fault of this kind at this place
abbrev pub fault_at : FaultKind → ℕ → LexFault
fault_at kinds.BadByte at = faults.BadByte at
fault_at kinds.OpenComment at = faults.OpenComment at
fault_at kinds.BadLiteral at = faults.BadLiteral at
fault_at kinds.WideLiteral at = faults.WideLiteral at
fault_at kinds.Directive at = faults.Directive at
fault_at kinds.OpenText at = faults.OpenText at

abbrev pub SaysFault : List ℕ → LexFault → Type 0
SaysFault text faults.NoMemory = Unit {0}
SaysFault text (faults.BadByte at) = LexFaultAt text kinds.BadByte at
SaysFault text (faults.OpenComment at) = LexFaultAt text kinds.OpenComment at
SaysFault text (faults.BadLiteral at) = LexFaultAt text kinds.BadLiteral at
SaysFault text (faults.WideLiteral at) = LexFaultAt text kinds.WideLiteral at
SaysFault text (faults.Directive at) = LexFaultAt text kinds.Directive at
SaysFault text (faults.OpenText at) = LexFaultAt text kinds.OpenText at

-- what an answer says of the text; want of memory says nothing
abbrev pub Says : List ℕ → Result (Vec Token Global) LexFault → Type 0
Says text (Ok tokens) = Tokens text tokens.items
Says text (Err fault) = SaysFault text fault

-- the answer is this list, if memory was found
abbrev pub GivesTokens : List Token → Result (Vec Token Global) LexFault → Type 0
GivesTokens tokens (Ok vec) = vec.items ≡ tokens
GivesTokens tokens (Err fault) = fault ≡ faults.NoMemory

-- the answer is this fault, if memory was found
abbrev pub GivesFault : FaultKind → ℕ → Result (Vec Token Global) LexFault → Type 0
GivesFault kind at (Ok vec) = ⊥
GivesFault kind at (Err fault) = (fault ≡ fault_at kind at) ⊎ (fault ≡ faults.NoMemory)
