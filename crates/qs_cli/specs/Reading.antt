-- What the code's values say, for its clauses.
use Rattle.std.specs.Prelude.{◌≡◌, ℕ, List, Bool, true, false, Option, Some, None, Result, Ok, Err, IsErrOf, [], map, string_bytes, codes, option_map}
use Rattle.std.specs.Borrow.{Bor}
use Rattle.std.specs.declared.alloc.Global.{Global}
use Rattle.std.specs.declared.string.String.{String}
use Rattle.qs_cli.specs.Words.{Text, Word, Plain, Assigned, Named, Excluded, Options, Values, reading}
use Rattle.qs_cli.specs.Commands.{meaning, command_named}
use Rattle.qs_cli.specs.Commands as meant
use Rattle.qs_cli.specs.declared.commands.Command.{Command}
use Rattle.qs_cli.specs.declared.commands.Command.TheVariants.{Build, Check, Bound, Calls, Derive, Outline, Run, Exec, Sample, Elf, Unelf}
use Rattle.qs_cli.specs.declared.commands.CallsWords.{CallsWords}
use Rattle.qs_cli.specs.declared.commands.ElfWords.{ElfWords}
use Rattle.qs_cli.specs.declared.commands.UnelfWords.{UnelfWords}
use Rattle.qs_cli.specs.declared.commands.CliFault.{CliFault}
use Rattle.qs_cli.specs.declared.commands.CliFault.TheVariants.{Usage, NoMemory}
use Rattle.qs_cli.specs.declared.table.OptionRule.{OptionRule}
use Rattle.qs_cli.specs.declared.spelling.Shape.{Shape}
use Rattle.qs_cli.specs.declared.spelling.Shape.TheVariants as shape
use Rattle.qs_cli.specs.declared.values.Values as code
use Rattle.clap.specs.Words.{first_value, found_of}
use Rattle.clap.specs.declared.parser.matches.ArgMatches.{ArgMatches}

abbrev pub options_of : List OptionRule → Options
options_of = map (λ o. (o.name.now, o.required))

-- the values that a parse found, by their keys
abbrev pub found_values : ArgMatches → Values
found_values matches = first_value (found_of matches)

abbrev pub values_of : code.Values → Values
values_of values = found_values values.matches

-- the text of the arguments of `main`, if one is given
abbrev pub arguments_text : code.Values → Option Text
arguments_text values = values_of values (codes "args")

abbrev pub is_shape : Shape → Word → Bool
is_shape shape.Plain Plain = true
is_shape shape.Plain (Assigned n v) = false
is_shape shape.Plain (Named n) = false
is_shape shape.Plain Excluded = false
is_shape shape.Assigned Plain = false
is_shape shape.Assigned (Assigned n v) = true
is_shape shape.Assigned (Named n) = false
is_shape shape.Assigned Excluded = false
is_shape shape.Named Plain = false
is_shape shape.Named (Assigned n v) = false
is_shape shape.Named (Named n) = true
is_shape shape.Named Excluded = false
is_shape shape.Excluded Plain = false
is_shape shape.Excluded (Assigned n v) = false
is_shape shape.Excluded (Named n) = false
is_shape shape.Excluded Excluded = true

-- the option that waits for its value, if one does; its name makes no difference here
abbrev pub waiting_of : Bool → Option Text
waiting_of false = None
waiting_of true = Some []

abbrev pub text_of : Option (String Global) → Option Text
text_of = option_map string_bytes

abbrev pub texts_of : List (String Global) → List Text
texts_of = map string_bytes

-- a text that is lent, if one is
abbrev pub lent_text : Option (Bor (List ℕ)) → Option Text
lent_text = option_map (λ t. t.now)

abbrev pub lent_texts : List (Bor (List ℕ)) → List Text
lent_texts = map (λ t. t.now)

-- the values that words give to a command with these options, if they fit it
abbrev pub values_in : List OptionRule → List (String Global) → Option Values
values_in options words = reading (options_of options) (texts_of words)

-- the command of this name whose values these words give, if there is one
abbrev pub named_by : Text → List (String Global) → Option meant.Command
named_by name words = command_named name (texts_of words)

-- the answer that words have no meaning
abbrev pub IsUsage : {A : Type 0} → Result A CliFault → Type 0
IsUsage r = IsErrOf r Usage

-- words as the code holds them
abbrev pub calls_words_of : CallsWords → meant.CallsWords
calls_words_of words = meant.calls_words (string_bytes words.source) (string_bytes words.proof) words.args.items

abbrev pub elf_words_of : ElfWords → meant.ElfWords
elf_words_of words = meant.elf_words (string_bytes words.image) (string_bytes words.out)

abbrev pub unelf_words_of : UnelfWords → meant.UnelfWords
unelf_words_of words = meant.unelf_words (string_bytes words.file) (string_bytes words.out)

abbrev pub command_of : Command → meant.Command
command_of (Build source proof out) = meant.Build (string_bytes source) (text_of proof) (string_bytes out)
command_of (Check source proof) = meant.Check (string_bytes source) (text_of proof)
command_of (Bound source proof args) = meant.Bound (string_bytes source) (text_of proof) args.items
command_of (Calls words) = meant.Calls (calls_words_of words)
command_of (Derive source out) = meant.Derive (string_bytes source) (string_bytes out)
command_of (Outline source) = meant.Outline (string_bytes source)
command_of (Run image stack args input steps) = meant.Run (string_bytes image) stack args.items (text_of input) steps
command_of (Exec source proof args input steps) = meant.Exec (string_bytes source) (text_of proof) args.items (text_of input) steps
command_of (Sample count out) = meant.Sample count (text_of out)
command_of (Elf words) = meant.Elf (elf_words_of words)
command_of (Unelf words) = meant.Unelf (unelf_words_of words)

-- the answer to the words: the command that they mean, or Usage where they mean none; want of memory tells nothing
abbrev pub Reads : List Text → Result Command CliFault → Type 0
Reads words (Ok command) = meaning words ≡ Some (command_of command)
Reads words (Err Usage) = meaning words ≡ None
Reads words (Err NoMemory) = Unit {0}
