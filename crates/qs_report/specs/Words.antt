-- The words of lines.
use Rattle.std.specs.Prelude.{ℕ, List, [], ◌∷◌, ◌++◌, codes, decimal, flat_map}
use Rattle.std.specs.Int.{w32, to_be_bytes}
use Rattle.hex.specs.Hex.{encode_lower}
use Rattle.qs_image.specs.Bytes.{word_number}
use Rattle.qs_image.specs.declared.fault.ImageFault.{ImageFault}
use Rattle.qs_image.specs.declared.fault.ImageFault.TheVariants as image
use Rattle.qs_lexer.specs.declared.fault.FaultKind.{FaultKind}
use Rattle.qs_lexer.specs.declared.fault.FaultKind.TheVariants as lexical
use Rattle.qs_machine.specs.declared.answers.Cause.{Cause}
use Rattle.qs_machine.specs.declared.answers.Cause.TheVariants as cause
use Rattle.qs_types.specs.Rules.{rule_number}
use Rattle.qs_types.specs.declared.limits.LimitKind.{LimitKind}
use Rattle.qs_types.specs.declared.limits.LimitKind.TheVariants.{Nodes, Functions, Parameters, Globals, Locals}
use Rattle.qs_types.specs.declared.rules.Rule.{Rule}
use Rattle.qs_entail.specs.Said as step_rules
use Rattle.qs_entail.specs.Said.{limit_number}
use Rattle.qs_report.specs.declared.fault_texts.Shown.{Shown}
use Rattle.qs_report.specs.declared.fault_texts.Shown.TheVariants.{Number, Infinite, Wide}
use Rattle.qs_report.specs.declared.fault_texts.ElfText.{ElfText}
use Rattle.qs_report.specs.declared.fault_texts.ElfText.TheVariants as elf
use Rattle.qs_report.specs.declared.fault_texts.ProofFileText.{ProofFileText}
use Rattle.qs_report.specs.declared.fault_texts.ProofFileText.TheVariants as proof_file
use Rattle.qs_report.specs.declared.fault_texts.Path.{Path}
use Rattle.qs_report.specs.declared.fault_texts.Spot.{Spot}
use Rattle.qs_report.specs.declared.fault_texts.Spot.TheVariants.{Pre, Post, Entry, Body, BodyCert}
use Rattle.qs_report.specs.declared.fault_texts.ProofText.{ProofText}
use Rattle.qs_report.specs.declared.fault_texts.ProofText.TheVariants.{Shape, Mentions, Step, Limit}

-- what is wrong with the bytes of a source
abbrev pub lex_word : FaultKind → List ℕ
lex_word lexical.BadByte = codes "bad byte"
lex_word lexical.OpenComment = codes "open comment"
lex_word lexical.BadLiteral = codes "bad literal"
lex_word lexical.WideLiteral = codes "wide literal"
lex_word lexical.Directive = codes "directive"
lex_word lexical.OpenText = codes "open text"

-- what is wrong with the text of a proof file
abbrev pub proof_file_word : ProofFileText → List ℕ
proof_file_word proof_file.BadByte = codes "bad byte"
proof_file_word proof_file.Unbalanced = codes "unbalanced"
proof_file_word proof_file.UnknownForm = codes "unknown form"
proof_file_word proof_file.BadNumber = codes "bad number"
proof_file_word proof_file.TooDeep = codes "too deep"
proof_file_word proof_file.Duplicate = codes "duplicate"
proof_file_word proof_file.NoSuchFunction = codes "no such function"

-- what is wrong with the bytes of an image; a count has the number of its word, a cost and parameters that of their record
abbrev pub image_text : ImageFault → List ℕ
image_text image.Short = codes "short"
image_text image.Magic = codes "magic"
image_text (image.Count word) = codes "count " ++ decimal (word_number word)
image_text image.Trailing = codes "trailing"
image_text image.Entry = codes "entry"
image_text (image.Cost number) = codes "cost " ++ decimal number
image_text image.Names = codes "names"
image_text (image.Params number) = codes "params " ++ decimal number

-- what is wrong with the bytes of an executable: where it carries no image, the words of the image's fault
abbrev pub elf_text : ElfText → List ℕ
elf_text elf.Short = codes "short"
elf_text (elf.Length bytes) = codes "length " ++ decimal bytes
elf_text (elf.Field at) = codes "field " ++ decimal at
elf_text (elf.Image fault) = image_text fault
elf_text (elf.Differs word) = codes "differs " ++ decimal word

-- the cause of a trap
abbrev pub trap_word : Cause → List ℕ
trap_word cause.Overflow = codes "overflow"
trap_word cause.IllegalInstruction = codes "illegal"
trap_word cause.FetchOutside = codes "fetch"
trap_word cause.JumpMisaligned = codes "jump"
trap_word cause.LoadMisaligned = codes "load misaligned"
trap_word cause.LoadOutside = codes "load"
trap_word cause.StoreMisaligned = codes "store misaligned"
trap_word cause.StoreOutside = codes "store"
trap_word cause.UnknownCall = codes "call"
trap_word cause.Breakpoint = codes "break"

-- a typing rule, by its number
abbrev pub rule_text : Rule → List ℕ
rule_text rule = codes "rule K" ++ decimal (rule_number rule)

abbrev pub limit_word : LimitKind → List ℕ
limit_word Nodes = codes "nodes"
limit_word Functions = codes "functions"
limit_word Parameters = codes "parameters"
limit_word Globals = codes "globals"
limit_word Locals = codes "locals"

abbrev pub shown_text : Shown → List ℕ
shown_text (Number n) = decimal n
shown_text Infinite = codes "infinite"
shown_text Wide = codes "wide"

-- eight digits
abbrev pub hexadecimal : ℕ → List ℕ
hexadecimal n = encode_lower (to_be_bytes w32 n)

-- a point and the number of a part
abbrev pub step_text : ℕ → List ℕ
step_text part = codes "." ++ decimal part

-- `.` at the root, and below it the numbers of the parts, each behind a point
abbrev pub path_text : List ℕ → List ℕ
path_text [] = codes "."
path_text (part ∷ parts) = flat_map step_text (part ∷ parts)

-- a word, and a path
abbrev pub path_after : List ℕ → Path → List ℕ
path_after before path = before ++ path_text path.steps.items

-- a path in a body, and one in the certificate there
abbrev pub both_paths : Path → Path → List ℕ
both_paths node path = path_after (codes "body ") node ++ path_after (codes " cert ") path

abbrev pub spot_text : Spot → List ℕ
spot_text Pre = codes "pre"
spot_text Post = codes "post"
spot_text (Entry path) = path_after (codes "entry ") path
spot_text (Body path) = path_after (codes "body ") path
spot_text (BodyCert node path) = both_paths node path

abbrev pub proof_text : ProofText → List ℕ
proof_text Shape = codes "shape"
proof_text (Mentions variable) = codes "mentions " ++ variable
proof_text (Step rule) = codes "step " ++ decimal (step_rules.rule_number rule)
proof_text (Limit limit) = codes "limit " ++ decimal (limit_number limit)

-- a blank and a name
abbrev pub spaced : List ℕ → List ℕ
spaced name = codes " " ++ name
