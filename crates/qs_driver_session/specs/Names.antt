-- The files that a command names.
use Rattle.std.specs.Prelude.{ℕ, List, [], Option, Some, None, option_map}
use Rattle.std.specs.Borrow.{Bor}
use Rattle.qs_driver_session.specs.declared.names.FileNames.{FileNames}
use Rattle.qs_driver_session.specs.declared.status.FileKind.{FileKind}
use Rattle.qs_driver_session.specs.declared.status.FileKind.TheVariants.{Source, Derivation, Image, Elf, Input, Output}

-- the names as the words give them; those that a command doesn't have are empty
pub record Names : Type 0 where
  pub source : List ℕ
  pub derivation : List ℕ
  pub image : List ℕ
  pub elf : List ℕ
  pub input : List ℕ
  pub output : List ℕ

abbrev pub no_names : Names
no_names =
    record { source = []; derivation = []; image = []; elf = []; input = []; output = [] }

-- the name that is given, and an empty one where none is
abbrev pub or_empty : Option (List ℕ) → List ℕ
or_empty None = []
or_empty (Some name) = name

abbrev pub file_name : Names → FileKind → List ℕ
file_name names Source = names.source
file_name names Derivation = names.derivation
file_name names Image = names.image
file_name names Elf = names.elf
file_name names Input = names.input
file_name names Output = names.output

-- a name as the code holds it, where there is one
abbrev pub name_in : Option (Bor (List ℕ)) → Option (List ℕ)
name_in name = option_map (λ n. n.now) name

-- the names as the code holds them
abbrev pub names_in : FileNames → Names
names_in names = record {
  source = names.source.now;
  derivation = names.derivation.now;
  image = names.image.now;
  elf = names.elf.now;
  input = names.input.now;
  output = names.output.now;
}
