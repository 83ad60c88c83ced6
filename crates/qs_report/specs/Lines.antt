-- The lines that the tool prints, a row for each. docs/TOOL.md has those that it prints today.
use Rattle.std.specs.Prelude.{ℕ, List, [], ◌∷◌, ◌++◌, Result, codes, decimal, flat_map}
use Rattle.qs_base.specs.declared.places.Pos.{Pos}
use Rattle.qs_image.specs.declared.fault.ImageFault.{ImageFault}
use Rattle.qs_machine.specs.declared.answers.Cause.{Cause}
use Rattle.qs_ports.specs.SinkView.{SinkView, PutsOn}
use Rattle.qs_ports.specs.declared.sink.SinkFault.{SinkFault}
use Rattle.qs_report.specs.Words.{lex_word, proof_file_word, image_text, elf_text, trap_word, rule_text, limit_word, shown_text, hexadecimal, spot_text, proof_text, spaced}
use Rattle.qs_report.specs.declared.fault_texts.Shown.{Shown}
use Rattle.qs_report.specs.declared.fault_texts.Count.{Count}
use Rattle.qs_report.specs.declared.fault_texts.Count.TheVariants.{Checked, Derived, Functions, Output}
use Rattle.qs_report.specs.declared.fault_texts.ElfText.{ElfText}
use Rattle.qs_report.specs.declared.fault_texts.ProofText.{ProofText}
use Rattle.qs_report.specs.declared.fault_texts.Spot.{Spot}
use Rattle.qs_report.specs.declared.fault_texts.FaultText.{FaultText}
use Rattle.qs_report.specs.declared.fault_texts.FaultText.TheVariants.{Usage, SameName, Missing, Failed, TooLong, Lex, UnexpectedToken, UnexpectedEnd, TooDeep, Rule, Limit, NoMain, NoBody, ProofFile, Cycle, Proof, NoEntry, Order, ArgCount, ArgRange, Image, Elf, Trapped, StepLimit, NoBound, StackTooLarge, NoMemory}

-- the parts one after the other, ended by a line feed
abbrev pub line : List (List ℕ) → List ℕ
line [] = 10 ∷ []
line (part ∷ parts) = part ++ line parts

-- `FILE:L:C: TEXT`, with a line and a column in bytes, from 1
abbrev pub line_at : List ℕ → Pos → List ℕ → List ℕ
line_at file pos text = line (file ∷ codes ":" ∷ decimal pos.line ∷ codes ":" ∷ decimal pos.column ∷ codes ": " ∷ text ∷ [])

-- the same, with the digits of the line and of the column, and a text of two parts
abbrev pub place_line : List ℕ → List ℕ → List ℕ → List ℕ → List ℕ → List ℕ
place_line file number column text more = line (file ∷ codes ":" ∷ number ∷ codes ":" ∷ column ∷ codes ": " ∷ text ∷ more ∷ [])

-- such a line is put on a sink that is seen by this view
abbrev pub PutsAt :
    {Sink : Type 0} → (Sink → SinkView) → Sink → Sink → (file number column text more : List ℕ) → Result Unit SinkFault → Type 0
PutsAt view old new file number column text more result = PutsOn view old new (place_line file number column text more) result

abbrev pub both_at : List ℕ → Pos → List ℕ → List ℕ → List ℕ
both_at file pos text more = place_line file (decimal pos.line) (decimal pos.column) text more

-- a number between two texts
abbrev pub between_line : List ℕ → ℕ → List ℕ → List ℕ
between_line head number tail = line (head ∷ decimal number ∷ tail ∷ [])

-- two numbers, each behind a text
abbrev pub pair_line : List ℕ → ℕ → List ℕ → ℕ → List ℕ
pair_line head first middle second = line (head ∷ decimal first ∷ middle ∷ decimal second ∷ [])

-- ---- results

abbrev pub cost_line : List ℕ → ℕ → List ℕ
cost_line name cost = line (codes "cost " ∷ name ∷ codes " " ∷ decimal cost ∷ [])

abbrev pub bound_line : Shown → List ℕ
bound_line bound = line (codes "bound " ∷ shown_text bound ∷ [])

abbrev pub calls_line : Shown → List ℕ
calls_line bound = line (codes "calls " ∷ shown_text bound ∷ [])

abbrev pub end_line : ℕ → List ℕ
end_line status = line (codes "exit " ∷ decimal status ∷ [])

abbrev pub count_line : Count → List ℕ
count_line (Checked given filled) = line (codes "checked " ∷ decimal given ∷ codes " derived " ∷ decimal filled ∷ [])
count_line (Derived filled) = line (codes "derived " ∷ decimal filled ∷ [])
count_line (Functions count) = line (codes "functions " ∷ decimal count ∷ [])
count_line (Output bytes) = line (codes "output " ∷ decimal bytes ∷ [])

-- ---- the parts of lines of faults

-- the names of functions that call each other, at the end of their line
abbrev pub names_end : List (List ℕ) → List ℕ
names_end names = line (flat_map spaced names ∷ [])

abbrev pub cycle_line : List (List ℕ) → List ℕ
cycle_line names = line (codes "recursion without derivation:" ∷ flat_map spaced names ∷ [])

-- what is wrong in a derivation, at the end of its line
abbrev pub proof_end : ProofText → List ℕ
proof_end text = line (codes ": " ∷ proof_text text ∷ [])

-- the same behind the place of it
abbrev pub spot_end : Spot → ProofText → List ℕ
spot_end spot text = line (spot_text spot ∷ codes ": " ∷ proof_text text ∷ [])

abbrev pub spot_line : List ℕ → List ℕ → Spot → ProofText → List ℕ
spot_line file name spot text = line (file ∷ codes ": " ∷ name ∷ codes " " ∷ spot_text spot ∷ codes ": " ∷ proof_text text ∷ [])

-- `main` expects so many arguments and is given so many
abbrev pub arguments_line : ℕ → ℕ → List ℕ
arguments_line expected given = pair_line (codes "arguments: expected ") expected (codes " given ") given

-- the argument of this number is no value of its type
abbrev pub argument_line : ℕ → List ℕ
argument_line argument = between_line (codes "argument ") argument (codes " out of range")

-- a text of two parts behind a file and what is told of it
abbrev pub labelled_line : (file label text more : List ℕ) → List ℕ
labelled_line file label text more = line (file ∷ label ∷ text ∷ more ∷ [])

-- the bytes of an image are wrong, which a file is or carries
abbrev pub image_line : (file label : List ℕ) → ImageFault → List ℕ
image_line file label fault = line (file ∷ label ∷ image_text fault ∷ [])

abbrev pub elf_line : (file : List ℕ) → ElfText → List ℕ
elf_line file fault = line (file ∷ codes ": elf " ∷ elf_text fault ∷ [])

abbrev pub trap_line : Cause → ℕ → List ℕ
trap_line cause pc = line (codes "trap " ∷ trap_word cause ∷ codes " at 0x" ∷ hexadecimal pc ∷ [])

-- ---- faults: the file and the function or definition are named where the line has them

abbrev pub fault_line : List ℕ → List ℕ → FaultText → List ℕ
fault_line file name Usage = line (codes "usage: qsc COMMAND FILE OPTIONS" ∷ [])
fault_line file name SameName = line (codes "same name: " ∷ file ∷ [])
fault_line file name Missing = line (codes "missing: " ∷ file ∷ [])
fault_line file name Failed = line (codes "failed: " ∷ file ∷ [])
fault_line file name TooLong = line (codes "too long: " ∷ file ∷ [])
fault_line file name (Lex pos fault) = line_at file pos (lex_word fault)
fault_line file name (UnexpectedToken pos) = line_at file pos (codes "unexpected token")
fault_line file name (UnexpectedEnd pos) = line_at file pos (codes "unexpected end")
fault_line file name (TooDeep pos) = line_at file pos (codes "too deep")
fault_line file name (Rule pos rule) = line_at file pos (rule_text rule)
fault_line file name (Limit pos kind) = line_at file pos (codes "limit " ++ limit_word kind)
fault_line file name NoMain = line (file ∷ codes ": no main" ∷ [])
fault_line file name (NoBody pos) = line_at file pos (codes "no body")
fault_line file name (ProofFile pos fault) = line_at file pos (proof_file_word fault)
fault_line file name (Cycle names) = cycle_line names.items
fault_line file name (Proof spot text) = spot_line file name spot text
fault_line file name NoEntry = line (file ∷ codes ": no entry " ∷ name ∷ [])
fault_line file name Order = line (file ∷ codes ": order " ∷ name ∷ [])
fault_line file name (ArgCount expected given) = arguments_line expected given
fault_line file name (ArgRange argument) = argument_line argument
fault_line file name (Image fault) = image_line file (codes ": image ") fault
fault_line file name (Elf fault) = elf_line file fault
fault_line file name (Trapped cause pc) = trap_line cause pc
fault_line file name (StepLimit steps) = line (codes "step limit " ∷ decimal steps ∷ [])
fault_line file name (NoBound bound) = line (codes "no bound: " ∷ shown_text bound ∷ [])
fault_line file name (StackTooLarge size) = line (codes "stack too large: " ∷ decimal size ∷ [])
fault_line file name NoMemory = line (codes "out of memory" ∷ [])
