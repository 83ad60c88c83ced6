-- A source that a command reads: its text, or why it is refused.
use Rattle.std.specs.Prelude.{◌≡◌, ◌↔◌, ℕ, List, length, Option, Some, None, Result, Ok, Err, slice_get}
use Rattle.qs_base.specs.Positions.{line_at, column_at}
use Rattle.qs_base.specs.declared.places.Pos.{Pos}
use Rattle.qs_syntax.specs.declared.nodes.Node.{Node}
use Rattle.qs_syntax_vocabulary.specs.declared.tokens.Token.{Token}
use Rattle.qs_syntax.specs.Nodes.{unit_nodes}
use Rattle.qs_syntax.specs.Trees.{DeclTree}
use Rattle.qs_lexer.specs.Tokens.{Tokens, LexFaultAt}
use Rattle.qs_lexer.specs.Results.{fault_at}
use Rattle.qs_lexer.specs.Terminals.{terminals}
use Rattle.qs_lexer.specs.declared.fault.FaultKind.{FaultKind}
use Rattle.qs_lexer.specs.declared.fault.LexFault.{LexFault}
use Rattle.qs_lexer.specs.declared.fault.LexFault.TheVariants as lexical_faults
use Rattle.qs_parser.specs.Answers.{ReadsAs, HasFault, HasNoReading}
use Rattle.qs_parser.specs.declared.syntax_fault.SyntaxFault.{SyntaxFault}
use Rattle.qs_parser.specs.declared.syntax_fault.SyntaxFault.TheVariants as syntax_faults
use Rattle.qs_types.specs.WellTyped.{WellTyped}
use Rattle.qs_types.specs.Limits.{IsWithinLimits}
use Rattle.qs_typing_findings.specs.Refusals.{IsCause}
use Rattle.qs_typing_findings.specs.TypedOf.{typed_tree}
use Rattle.qs_typing_findings.specs.declared.typed_unit.TypedUnit.{TypedUnit}
use Rattle.qs_typing_findings.specs.declared.type_fault.TypeFault.{TypeFault}
use Rattle.qs_typing_findings.specs.declared.type_fault.TypeFault.TheVariants as type_faults
use Rattle.qs_ports.specs.StoreView.{StoreView}
use Rattle.qs_driver_session.specs.Limits.{source_limit}
use Rattle.qs_driver_steps.specs.Files.{IsUntouched, IsTooLong}
use Rattle.qs_driver_session.specs.Files.{HoldsWith, WasRead, WasReadWith, CannotRead}
use Rattle.qs_driver_session.specs.declared.status.Status.{Status}
use Rattle.qs_driver_session.specs.declared.status.Status.TheVariants.{Source, Missing, NoMemory}
use Rattle.qs_driver_session.specs.declared.status.SourceFault.TheVariants.{TooLong, Lex, Syntax, Typing}
use Rattle.qs_driver_session.specs.declared.status.TokenPlace.{TokenPlace}
use Rattle.qs_driver_session.specs.declared.status.TokenPlace.TheVariants.{At, End}
use Rattle.qs_driver_session.specs.declared.status.FileKind.TheVariants as kinds

-- ---- places

-- the line and column of this byte
pub record IsPlaceOf (text : List ℕ) (at : ℕ) (pos : Pos) : Type 0 where
  pub line : pos.line ≡ line_at text at
  pub column : pos.column ≡ column_at text at

-- the token with this number starts at this line and column
pub record IsStartOf (text : List ℕ) (tokens : List Token) (number : ℕ) (pos : Pos) : Type 0 where
  pub token : Token
  pub is : slice_get tokens number ≡ Some token
  pub place : IsPlaceOf text token.start pos

-- the number is the count of all tokens, and the text ends at this line and column
pub record IsEndOf (text : List ℕ) (tokens : List Token) (number : ℕ) (pos : Pos) : Type 0 where
  pub all : number ≡ length tokens
  pub place : IsPlaceOf text (length text) pos

-- the place of the token with this number, or of the end, where all tokens stand before
abbrev pub IsTokenPlace : List ℕ → List Token → ℕ → TokenPlace → Type 0
IsTokenPlace text tokens number (At pos) = IsStartOf text tokens number pos
IsTokenPlace text tokens number (End pos) = IsEndOf text tokens number pos

-- the node with this number stands at a token that starts at this line and column
pub record IsNodeStart (text : List ℕ) (tokens : List Token) (trees : List DeclTree) (number : ℕ)
    (pos : Pos) : Type 0 where
  pub node : Node
  pub is : slice_get (unit_nodes trees) number ≡ Some node
  pub start : IsStartOf text tokens node.token pos

-- the place of the node that is named, and none where none is named
abbrev pub IsNodePlace : List ℕ → List Token → List DeclTree → Option ℕ → Option Pos → Type 0
IsNodePlace text tokens trees (Some number) (Some pos) = IsNodeStart text tokens trees number pos
IsNodePlace text tokens trees (Some number) None = ⊥
IsNodePlace text tokens trees None (Some pos) = ⊥
IsNodePlace text tokens trees None None = Unit {0}

-- ---- a text

-- the text has this lexical fault, at this line and column
pub record HasLexFault (text : List ℕ) (fault : LexFault) (pos : Pos) : Type 0 where
  pub kind : FaultKind
  pub at : ℕ
  pub is : fault ≡ fault_at kind at
  pub stands : LexFaultAt text kind at
  pub place : IsPlaceOf text at pos

-- the byte at which a lexical fault begins
abbrev pub byte_of : LexFault → Option ℕ
byte_of lexical_faults.NoMemory = None
byte_of (lexical_faults.BadByte at) = Some at
byte_of (lexical_faults.OpenComment at) = Some at
byte_of (lexical_faults.BadLiteral at) = Some at
byte_of (lexical_faults.WideLiteral at) = Some at
byte_of (lexical_faults.Directive at) = Some at
byte_of (lexical_faults.OpenText at) = Some at

-- the number of the token that a syntax fault names
abbrev pub number_of : SyntaxFault → Option ℕ
number_of syntax_faults.NoMemory = None
number_of (syntax_faults.Unexpected number) = Some number
number_of (syntax_faults.TooDeep number) = Some number

-- the text has tokens, they have this fault, and the token that it names, or their end, stands at this place
pub record HasSyntaxFault (text : List ℕ) (fault : SyntaxFault) (place : TokenPlace) : Type 0 where
  pub tokens : List Token
  pub are_tokens : Tokens text tokens
  pub number : ℕ
  pub names : number_of fault ≡ Some number
  pub stands : HasFault (terminals text 0 tokens) fault
  pub place_is : IsTokenPlace text tokens number place

-- the text has tokens, and they have no reading that isn't too high
pub record IsNoUnit (text : List ℕ) : Type 0 where
  pub tokens : List Token
  pub are_tokens : Tokens text tokens
  pub none : HasNoReading (terminals text 0 tokens)

-- the text has tokens, and they are read as a unit
pub record IsUnit (text : List ℕ) : Type 0 where
  pub tokens : List Token
  pub are_tokens : Tokens text tokens
  pub trees : List DeclTree
  pub reads : ReadsAs (terminals text 0 tokens) trees

-- the number of the node that a type fault names
abbrev pub node_of : TypeFault → Option ℕ
node_of (type_faults.Rule node rule) = Some node
node_of (type_faults.Limit kind node) = Some node
node_of type_faults.NoMain = None
node_of (type_faults.Undefined node) = Some node
node_of type_faults.NoMemory = None

-- the text is a unit that this type fault is the first cause to refuse; the node that it names, where it names one, stands at this place
pub record HasTypeFault (text : List ℕ) (fault : TypeFault) (place : Option Pos) : Type 0 where
  pub unit : IsUnit text
  pub cause : IsCause unit.trees fault
  pub place_is : IsNodePlace text unit.tokens unit.trees (node_of fault) place

-- the text is a unit that keeps the typing rules and is within the limits
pub record IsTypedUnit (text : List ℕ) : Type 0 where
  pub unit : IsUnit text
  pub well_typed : WellTyped unit.trees
  pub within_limits : IsWithinLimits unit.trees

-- why a text isn't known to be a typed unit, and the status at that
pub data RefusesText (text : List ℕ) (status : Status) : Type 0 where
  has_lex_fault : (fault : LexFault) (pos : Pos) → HasLexFault text fault pos
      → status ≡ Source (Lex fault pos) → RefusesText text status
  has_syntax_fault : (fault : SyntaxFault) (place : TokenPlace) → HasSyntaxFault text fault place
      → status ≡ Source (Syntax fault place) → RefusesText text status
  has_type_fault : (fault : TypeFault) (place : Option Pos) → HasTypeFault text fault place
      → status ≡ Source (Typing fault place) → RefusesText text status
  lacks_memory : status ≡ NoMemory → RefusesText text status

-- the text is this unit, which keeps the typing rules and is within the limits
pub record IsTypedAs (text : List ℕ) (trees : List DeclTree) : Type 0 where
  pub typed : IsTypedUnit text
  pub trees_are : typed.unit.trees ≡ trees

-- the answer of `typed_text`
abbrev pub TypesText : List ℕ → Result TypedUnit Status → Type 0
TypesText text (Ok unit) = IsTypedAs text (typed_tree unit)
TypesText text (Err status) = RefusesText text status

-- ---- a source in the store

-- the file is there, is within the limit of a source, and its text has this property
abbrev pub HoldsText : Option (List ℕ) → (List ℕ → Type 0) → Type 0
HoldsText file Property = HoldsWith file source_limit Property

-- a text that has this property was read as the source's
abbrev pub ReadsText : StoreView → List ℕ → (List ℕ → Type 0) → Type 0
ReadsText before name Property = WasReadWith before name source_limit Property

-- Why there is no source to go on with, and the status at that.
pub data LacksSource (before after : StoreView) (name : List ℕ) (status : Status) : Type 0 where
  unread : CannotRead before after name kinds.Source source_limit status
      → LacksSource before after name status
  lex_fault : (fault : LexFault) (pos : Pos) → IsUntouched before after
      → ReadsText before name (λ text. HasLexFault text fault pos)
      → status ≡ Source (Lex fault pos) → LacksSource before after name status
  syntax_fault : (fault : SyntaxFault) (place : TokenPlace) → IsUntouched before after
      → ReadsText before name (λ text. HasSyntaxFault text fault place)
      → status ≡ Source (Syntax fault place) → LacksSource before after name status
  type_fault : (fault : TypeFault) (place : Option Pos) → IsUntouched before after
      → ReadsText before name (λ text. HasTypeFault text fault place)
      → status ≡ Source (Typing fault place) → LacksSource before after name status
  no_memory : IsUntouched before after → status ≡ NoMemory → LacksSource before after name status

-- the source was read, its text is this unit, and no file changed
pub record HasUnit (before after : StoreView) (name : List ℕ) (trees : List DeclTree) : Type 0 where
  pub text : List ℕ
  pub read : WasRead before after name source_limit text
  pub typed_as : IsTypedAs text trees

-- the answer of `read_unit`
abbrev pub ReadsUnit : StoreView → StoreView → List ℕ → Result TypedUnit Status → Type 0
ReadsUnit before after name (Ok unit) = HasUnit before after name (typed_tree unit)
ReadsUnit before after name (Err status) = LacksSource before after name status

-- ---- when a source is refused

-- the statuses at which a source is refused
pub data IsOfSource : Status → Type 0 where
  missing_source : IsOfSource (Missing kinds.Source)
  long_source : IsOfSource (Source (TooLong kinds.Source))
  ill_spelled : (fault : LexFault) (pos : Pos) → IsOfSource (Source (Lex fault pos))
  no_reading : (fault : SyntaxFault) (place : TokenPlace) → IsOfSource (Source (Syntax fault place))
  ill_typed : (fault : TypeFault) (place : Option Pos) → IsOfSource (Source (Typing fault place))

-- some syntax fault is answered
abbrev pub IsSyntax : Status → Type 0
IsSyntax status =
    (fault : SyntaxFault) × (place : TokenPlace) × (status ≡ Source (Syntax fault place))

-- Each refusal of a source comes exactly where its cause is.
pub record RefusesSource (file : Option (List ℕ)) (status : Status) : Type 0 where
  pub missing : (status ≡ Missing kinds.Source) ↔ (file ≡ None)
  pub too_long : (status ≡ Source (TooLong kinds.Source)) ↔ IsTooLong file source_limit
  pub lexical : (fault : LexFault) (pos : Pos)
      → (status ≡ Source (Lex fault pos)) ↔ HoldsText file (λ text. HasLexFault text fault pos)
  pub no_unit : IsSyntax status ↔ HoldsText file IsNoUnit
  pub syntactic : (fault : SyntaxFault) (place : TokenPlace)
      → (status ≡ Source (Syntax fault place))
      ↔ HoldsText file (λ text. HasSyntaxFault text fault place)
  pub typing : (fault : TypeFault) (place : Option Pos)
      → (status ≡ Source (Typing fault place))
      ↔ HoldsText file (λ text. HasTypeFault text fault place)
