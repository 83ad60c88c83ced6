-- The line that tells a status.
use Rattle.std.specs.Prelude.{ℕ, List, [], Option, Some, None}
use Rattle.qs_base.specs.declared.places.Pos.{Pos}
use Rattle.qs_lexer.specs.declared.fault.FaultKind.TheVariants as kinds
use Rattle.qs_lexer.specs.declared.fault.LexFault.{LexFault}
use Rattle.qs_lexer.specs.declared.fault.LexFault.TheVariants as lexical
use Rattle.qs_parser.specs.declared.syntax_fault.SyntaxFault.{SyntaxFault}
use Rattle.qs_parser.specs.declared.syntax_fault.SyntaxFault.TheVariants as syntax
use Rattle.qs_typing_findings.specs.declared.type_fault.TypeFault.{TypeFault}
use Rattle.qs_typing_findings.specs.declared.type_fault.TypeFault.TheVariants as typing
use Rattle.qs_assert.specs.declared.define.Amount.{Amount}
use Rattle.qs_assert.specs.declared.define.Amount.TheVariants.{Finite, Infinite, Wide}
use Rattle.qs_prooftext_meaning.specs.declared.fault.TextFault.{TextFault}
use Rattle.qs_prooftext_meaning.specs.declared.fault.TextFault.TheVariants as proof_file
use Rattle.qs_elf.specs.Faults.{stated_number}
use Rattle.qs_elf.specs.declared.fault.ElfFault.{ElfFault}
use Rattle.qs_elf.specs.declared.fault.ElfFault.TheVariants as executable
use Rattle.qs_report.specs.Lines as lines
use Rattle.qs_report.specs.declared.fault_texts.ElfText.TheVariants as elf_texts
use Rattle.qs_report.specs.declared.fault_texts.FaultText.{FaultText}
use Rattle.qs_report.specs.declared.fault_texts.FaultText.TheVariants as texts
use Rattle.qs_report.specs.declared.fault_texts.ProofFileText.TheVariants as proof_file_texts
use Rattle.qs_report.specs.declared.fault_texts.Shown.{Shown}
use Rattle.qs_report.specs.declared.fault_texts.Shown.TheVariants as shown
use Rattle.qs_driver_session.specs.Names.{Names, file_name, names_in}
use Rattle.qs_driver_session.specs.declared.names.FileNames.{FileNames}
use Rattle.qs_driver_session.specs.declared.status.Status.{Status}
use Rattle.qs_driver_session.specs.declared.status.Status.TheVariants.{Done, Source, Proof, Words, Missing, StoreFailed, Image, Elf, Trapped, StepLimit, NoBound, StackTooLarge, SinkFailed, NoMemory}
use Rattle.qs_driver_session.specs.declared.status.SourceFault.TheVariants.{TooLong, Lex, Syntax, Typing}
use Rattle.qs_driver_session.specs.declared.status.ProofFault.TheVariants.{Text, Cycle, NoEntry, Order, Entry}
use Rattle.qs_driver_session.specs.declared.status.TokenPlace.{TokenPlace}
use Rattle.qs_driver_session.specs.declared.status.TokenPlace.TheVariants.{At, End}
use Rattle.qs_driver_session.specs.declared.status.WordsFault.TheVariants.{Usage, SameName, ArgCount, ArgRange}

-- what is wrong with the bytes of a source
abbrev pub lex_text : LexFault → Pos → FaultText
lex_text lexical.NoMemory pos = texts.NoMemory
lex_text (lexical.BadByte at) pos = texts.Lex pos kinds.BadByte
lex_text (lexical.OpenComment at) pos = texts.Lex pos kinds.OpenComment
lex_text (lexical.BadLiteral at) pos = texts.Lex pos kinds.BadLiteral
lex_text (lexical.WideLiteral at) pos = texts.Lex pos kinds.WideLiteral
lex_text (lexical.Directive at) pos = texts.Lex pos kinds.Directive
lex_text (lexical.OpenText at) pos = texts.Lex pos kinds.OpenText

-- what can't stand there: a token, or the end
abbrev pub unexpected_text : TokenPlace → FaultText
unexpected_text (At pos) = texts.UnexpectedToken pos
unexpected_text (End pos) = texts.UnexpectedEnd pos

abbrev pub pos_of : TokenPlace → Pos
pos_of (At pos) = pos
pos_of (End pos) = pos

-- what is wrong with the tokens of a source
abbrev pub syntax_text : SyntaxFault → TokenPlace → FaultText
syntax_text syntax.NoMemory place = texts.NoMemory
syntax_text (syntax.Unexpected number) place = unexpected_text place
syntax_text (syntax.TooDeep number) place = texts.TooDeep (pos_of place)

-- what is wrong with the types of a source, at the place of the node that the fault names
abbrev pub placed_text : TypeFault → Pos → FaultText
placed_text (typing.Rule node rule) pos = texts.Rule pos rule
placed_text (typing.Limit kind node) pos = texts.Limit pos kind
placed_text typing.NoMain pos = texts.NoMain
placed_text (typing.Undefined node) pos = texts.NoBody pos
placed_text typing.NoMemory pos = texts.NoMemory

-- that there is no main names no node, and every other fault names one
abbrev pub typing_text : TypeFault → Option Pos → FaultText
typing_text fault None = texts.NoMain
typing_text fault (Some pos) = placed_text fault pos

-- what is wrong with the text of a proof file
abbrev pub proof_file_text : TextFault → Pos → FaultText
proof_file_text proof_file.NoMemory pos = texts.NoMemory
proof_file_text (proof_file.BadByte at) pos = texts.ProofFile pos proof_file_texts.BadByte
proof_file_text (proof_file.Unbalanced at) pos = texts.ProofFile pos proof_file_texts.Unbalanced
proof_file_text (proof_file.UnknownForm at) pos = texts.ProofFile pos proof_file_texts.UnknownForm
proof_file_text (proof_file.BadNumber at) pos = texts.ProofFile pos proof_file_texts.BadNumber
proof_file_text (proof_file.TooDeep at) pos = texts.ProofFile pos proof_file_texts.TooDeep
proof_file_text (proof_file.Duplicate at) pos = texts.ProofFile pos proof_file_texts.Duplicate
proof_file_text (proof_file.NoSuchFunction at) pos = texts.ProofFile pos proof_file_texts.NoSuchFunction

-- what is wrong with an executable
abbrev pub elf_text : ElfFault → FaultText
elf_text executable.Short = texts.Elf elf_texts.Short
elf_text (executable.Length bytes) = texts.Elf (elf_texts.Length bytes)
elf_text (executable.Field at) = texts.Elf (elf_texts.Field at)
elf_text (executable.Image fault) = texts.Elf (elf_texts.Image fault)
elf_text (executable.Differs word) = texts.Elf (elf_texts.Differs (stated_number word))
elf_text executable.NoMemory = texts.NoMemory

-- a bound as lines show it
abbrev pub shown_of : Amount → Shown
shown_of (Finite bytes) = shown.Number bytes
shown_of Infinite = shown.Infinite
shown_of Wide = shown.Wide

-- the line of a fault that names this file, or none
abbrev pub named_line : List ℕ → FaultText → List ℕ
named_line file text = lines.fault_line file [] text

-- the one line that tells a fault
abbrev pub status_line : Names → Status → List ℕ
status_line names Done = []
status_line names (Source (TooLong kind)) = named_line (file_name names kind) texts.TooLong
status_line names (Source (Lex fault pos)) = named_line names.source (lex_text fault pos)
status_line names (Source (Syntax fault place)) = named_line names.source (syntax_text fault place)
status_line names (Source (Typing fault place)) = named_line names.source (typing_text fault place)
status_line names (Proof (Text fault pos)) = named_line names.derivation (proof_file_text fault pos)
status_line names (Proof (Cycle functions)) = named_line [] (texts.Cycle functions)
status_line names (Proof (NoEntry name)) =
    lines.fault_line names.derivation name texts.NoEntry
status_line names (Proof (Order name)) = lines.fault_line names.derivation name texts.Order
status_line names (Proof (Entry f spot text)) =
    lines.fault_line names.derivation f (texts.Proof spot text)
status_line names (Words Usage) = named_line [] texts.Usage
status_line names (Words SameName) = named_line names.output texts.SameName
status_line names (Words (ArgCount expected given)) = named_line [] (texts.ArgCount expected given)
status_line names (Words (ArgRange i)) = named_line [] (texts.ArgRange i)
status_line names (Missing kind) = named_line (file_name names kind) texts.Missing
status_line names (StoreFailed kind) = named_line (file_name names kind) texts.Failed
status_line names (Image fault) = named_line names.image (texts.Image fault)
status_line names (Elf fault) = named_line names.elf (elf_text fault)
status_line names (Trapped cause pc) = named_line [] (texts.Trapped cause pc)
status_line names (StepLimit steps) = named_line [] (texts.StepLimit steps)
status_line names (NoBound bound) = named_line [] (texts.NoBound (shown_of bound))
status_line names (StackTooLarge size) = named_line [] (texts.StackTooLarge size)
status_line names SinkFailed = []
status_line names NoMemory = named_line [] texts.NoMemory

-- the same, where the code holds the names
abbrev pub line_of : FileNames → Status → List ℕ
line_of names status = status_line (names_in names) status
