-- Where a unit comes from: the text of a source.
use Rattle.std.specs.Prelude.{ℕ, List, Option}
use Rattle.qs_base.specs.declared.places.Pos.{Pos}
use Rattle.qs_syntax_vocabulary.specs.declared.tokens.Token.{Token}
use Rattle.qs_syntax.specs.Trees.{DeclTree}
use Rattle.qs_lexer.specs.Tokens.{Tokens}
use Rattle.qs_lexer.specs.declared.fault.LexFault.{LexFault}
use Rattle.qs_parser.specs.declared.syntax_fault.SyntaxFault.{SyntaxFault}
use Rattle.qs_typing_findings.specs.declared.type_fault.TypeFault.{TypeFault}
use Rattle.qs_driver_steps.specs.Reading.{deciding, reading}
use Rattle.qs_driver_steps.specs.Steps.{Step, Steps, gives, first}
use Rattle.qs_driver_session.specs.Limits.{source_limit}
use Rattle.qs_driver_session.specs.Source.{HasLexFault, HasSyntaxFault, HasTypeFault, IsUnit, IsTypedAs}
use Rattle.qs_driver_session.specs.Statuses.{tool}
use Rattle.qs_driver_session.specs.declared.status.FileKind.TheVariants as kinds
use Rattle.qs_driver_session.specs.declared.status.SourceFault.TheVariants.{Lex, Syntax, Typing}
use Rattle.qs_driver_session.specs.declared.status.Status.{Status}
use Rattle.qs_driver_session.specs.declared.status.Status.TheVariants.{Source}
use Rattle.qs_driver_session.specs.declared.status.TokenPlace.{TokenPlace}

-- ---- what is wrong with a text, and where

pub record LexRefusal : Type 0 where
  pub fault : LexFault
  pub pos : Pos

pub record SyntaxRefusal : Type 0 where
  pub fault : SyntaxFault
  pub place : TokenPlace

pub record TypeRefusal : Type 0 where
  pub fault : TypeFault
  pub place : Option Pos

abbrev pub lex_status : LexRefusal → Status
lex_status f = Source (Lex f.fault f.pos)

abbrev pub syntax_status : SyntaxRefusal → Status
syntax_status f = Source (Syntax f.fault f.place)

abbrev pub type_status : TypeRefusal → Status
type_status f = Source (Typing f.fault f.place)

-- ---- the steps

-- the text consists of tokens
pub record IsLexed (text : List ℕ) : Type 0 where
  pub tokens : List Token
  pub are_tokens : Tokens text tokens

-- the text consists of tokens
abbrev pub lexing : (text : List ℕ) → Step tool
lexing text =
    deciding 4 (λ (u : Unit {0}). IsLexed text)
    (λ (f : LexRefusal). HasLexFault text f.fault f.pos) lex_status

-- they are read as a unit
abbrev pub parsing : (text : List ℕ) → Step tool
parsing text =
    deciding 5 (λ (u : Unit {0}). IsUnit text)
    (λ (f : SyntaxRefusal). HasSyntaxFault text f.fault f.place) syntax_status

-- it keeps the typing rules and is within the limits, and these are its trees
abbrev pub typing : (text : List ℕ) → Step tool
typing text =
    deciding 6 (λ (trees : List DeclTree). IsTypedAs text trees)
    (λ (f : TypeRefusal). HasTypeFault text f.fault f.place) type_status

-- the typed unit of a text
abbrev pub of_text : (text : List ℕ) → Steps tool (List DeclTree)
of_text text = first (lexing text) (λ u. first (parsing text) (λ v. first (typing text) gives))

-- the typed unit of the source with this name
abbrev pub origin : (name : List ℕ) → Steps tool (List DeclTree)
origin name = first (reading 3 kinds.Source source_limit name) of_text
