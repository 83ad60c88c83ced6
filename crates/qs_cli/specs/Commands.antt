-- What the words of each command mean.
use Rattle.std.specs.Prelude.{ℕ, ℤ, List, [], ◌∷◌, true, false, if◌then◌else◌, Option, Some, None, codes, bytes_eq, option_and_then}
use Rattle.qs_cli.specs.Words.{Text, Values, Options, operand, reading}
use Rattle.qs_cli.specs.Numbers.{number_of, count_of, steps_of, arguments_of}

-- the words of `elf`: the file of an image, and the one that gets its executable
pub record ElfWords : Type 0 where
  pub image : Text
  pub out : Text

abbrev pub elf_words : (image out : Text) → ElfWords
elf_words image out = record { image = image; out = out }

-- the words of `unelf`: the file of an executable, and the one that gets its image
pub record UnelfWords : Type 0 where
  pub file : Text
  pub out : Text

abbrev pub unelf_words : (file out : Text) → UnelfWords
unelf_words file out = record { file = file; out = out }

-- the words of `calls`: a source, its proof file, and main's arguments
pub record CallsWords : Type 0 where
  pub source : Text
  pub proof : Text
  pub args : List ℤ

abbrev pub calls_words : (source proof : Text) (args : List ℤ) → CallsWords
calls_words source proof args = record { source = source; proof = proof; args = args }

pub data Command : Type 0 where
  Build : (source : Text) (proof : Option Text) (out : Text) → Command
  Check : (source : Text) (proof : Option Text) → Command
  Bound : (source : Text) (proof : Option Text) (args : List ℤ) → Command
  Calls : (words : CallsWords) → Command
  Derive : (source out : Text) → Command
  Outline : (source : Text) → Command
  Run : (image : Text) (stack : ℕ) (args : List ℤ) (input : Option Text) (steps : ℕ) → Command
  Exec : (source : Text) (proof : Option Text) (args : List ℤ) (input : Option Text) (steps : ℕ) → Command
  Sample : (count : ℕ) (out : Option Text) → Command
  Elf : (words : ElfWords) → Command
  Unelf : (words : UnelfWords) → Command

-- ---- the options of each command, the required ones with `true`

abbrev pub build_options : Options
build_options = (codes "proof", false) ∷ (codes "out", true) ∷ []

abbrev pub check_options : Options
check_options = (codes "proof", false) ∷ []

abbrev pub bound_options : Options
bound_options = (codes "proof", false) ∷ (codes "args", false) ∷ []

abbrev pub calls_options : Options
calls_options = (codes "proof", true) ∷ (codes "args", false) ∷ []

abbrev pub derive_options : Options
derive_options = (codes "out", true) ∷ []

abbrev pub outline_options : Options
outline_options = []

abbrev pub run_options : Options
run_options = (codes "stack", true) ∷ (codes "args", false) ∷ (codes "input", false) ∷ (codes "steps", false) ∷ []

abbrev pub exec_options : Options
exec_options = (codes "proof", false) ∷ (codes "args", false) ∷ (codes "input", false) ∷ (codes "steps", false) ∷ []

abbrev pub sample_options : Options
sample_options = (codes "out", false) ∷ []

abbrev pub elf_options : Options
elf_options = (codes "out", true) ∷ []

abbrev pub unelf_options : Options
unelf_options = (codes "out", true) ∷ []

-- ---- a command of its values, where each of them has a meaning

-- a function at a value, where both are there
infixl 10 ◌⊛◌
abbrev pub ◌⊛◌ : {A B : Type 0} → Option (A → B) → Option A → Option B
◌⊛◌ None a = None
◌⊛◌ (Some f) None = None
◌⊛◌ (Some f) (Some a) = Some (f a)

abbrev pub stack_of : Option Text → Option ℕ
stack_of = option_and_then (number_of 19)

abbrev pub sample_count_of : Option Text → Option ℕ
sample_count_of = option_and_then count_of

abbrev pub build_of : Values → Option Command
build_of at = Some (λ source proof out. Build source proof out) ⊛ at operand ⊛ Some (at (codes "proof")) ⊛ at (codes "out")

abbrev pub check_of : Values → Option Command
check_of at = Some (λ source proof. Check source proof) ⊛ at operand ⊛ Some (at (codes "proof"))

abbrev pub bound_of : Values → Option Command
bound_of at = Some (λ source proof args. Bound source proof args) ⊛ at operand ⊛ Some (at (codes "proof")) ⊛ arguments_of (at (codes "args"))

abbrev pub calls_of : Values → Option Command
calls_of at = Some (λ source proof args. Calls (calls_words source proof args)) ⊛ at operand ⊛ at (codes "proof") ⊛ arguments_of (at (codes "args"))

abbrev pub derive_of : Values → Option Command
derive_of at = Some (λ source out. Derive source out) ⊛ at operand ⊛ at (codes "out")

abbrev pub outline_of : Values → Option Command
outline_of at = Some (λ source. Outline source) ⊛ at operand

abbrev pub run_of : Values → Option Command
run_of at = Some (λ image stack args input steps. Run image stack args input steps) ⊛ at operand ⊛ stack_of (at (codes "stack")) ⊛ arguments_of (at (codes "args")) ⊛ Some (at (codes "input")) ⊛ steps_of (at (codes "steps"))

abbrev pub exec_of : Values → Option Command
exec_of at = Some (λ source proof args input steps. Exec source proof args input steps) ⊛ at operand ⊛ Some (at (codes "proof")) ⊛ arguments_of (at (codes "args")) ⊛ Some (at (codes "input")) ⊛ steps_of (at (codes "steps"))

abbrev pub sample_of : Values → Option Command
sample_of at = Some (λ count out. Sample count out) ⊛ sample_count_of (at operand) ⊛ Some (at (codes "out"))

abbrev pub elf_of : Values → Option Command
elf_of at = Some (λ image out. Elf (elf_words image out)) ⊛ at operand ⊛ at (codes "out")

abbrev pub unelf_of : Values → Option Command
unelf_of at = Some (λ file out. Unelf (unelf_words file out)) ⊛ at operand ⊛ at (codes "out")

-- the words behind a command's name, as values and then as a command
abbrev pub command_with : Options → (Values → Option Command) → List Text → Option Command
command_with options make words = option_and_then make (reading options words)

abbrev pub command_named : Text → List Text → Option Command
command_named name words =
    if bytes_eq name (codes "build") then command_with build_options build_of words
    else (if bytes_eq name (codes "check") then command_with check_options check_of words
    else (if bytes_eq name (codes "bound") then command_with bound_options bound_of words
    else (if bytes_eq name (codes "calls") then command_with calls_options calls_of words
    else (if bytes_eq name (codes "derive") then command_with derive_options derive_of words
    else (if bytes_eq name (codes "outline") then command_with outline_options outline_of words
    else (if bytes_eq name (codes "run") then command_with run_options run_of words
    else (if bytes_eq name (codes "exec") then command_with exec_options exec_of words
    else (if bytes_eq name (codes "sample") then command_with sample_options sample_of words
    else (if bytes_eq name (codes "elf") then command_with elf_options elf_of words
    else (if bytes_eq name (codes "unelf") then command_with unelf_options unelf_of words
    else None))))))))))

-- the command that the words mean, if they mean one
unfoldable pub meaning : List Text → Option Command
meaning [] = None
meaning (name ∷ words) = command_named name words
