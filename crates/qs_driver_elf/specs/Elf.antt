-- `elf`: from the image in the store to its executable in the store.
use Rattle.std.specs.Prelude.{ℕ, List, [], ◌∷◌, Some, false, Result}
use Rattle.qs_image.specs.Image.{Image}
use Rattle.qs_elf.specs.Parts.{elf_of}
use Rattle.qs_ports.specs.StoreView.{StoreView}
use Rattle.qs_cli.specs.Commands.{ElfWords}
use Rattle.qs_cli.specs.Reading.{elf_words_of}
use Rattle.qs_cli.specs.declared.commands.ElfWords as code
use Rattle.qs_driver_steps.specs.Promises.{Order}
use Rattle.qs_driver_steps.specs.Runs.{Runs}
use Rattle.qs_driver_steps.specs.Steps.{End, Command, gives, first}
use Rattle.qs_driver_session.specs.Due.{done, done_or_refused}
use Rattle.qs_driver_session.specs.Limits.{image_limit}
use Rattle.qs_driver_session.specs.Names.{Names, no_names, file_name}
use Rattle.qs_driver_session.specs.Shared.{naming, reading_file, imaging}
use Rattle.qs_driver_session.specs.Statuses.{tool}
use Rattle.qs_driver_session.specs.declared.status.FileKind.TheVariants as kinds
use Rattle.qs_driver_session.specs.declared.status.Status.{Status}

abbrev pub names_of : ElfWords → Names
names_of w = record no_names { image = w.image; output = w.out }

-- ---- the steps

-- the out file gets the executable, and nothing is put
abbrev pub elf_end : ElfWords → (bytes : List ℕ) → End tool
elf_end w bytes = record {
  output = Some (record { kind = kinds.Output; name = w.out; bytes = elf_of bytes });
  due = done;
  late = false;
}

abbrev pub of_image : ElfWords → (bytes : List ℕ) → Image → Command tool
of_image w bytes image = gives (elf_end w bytes)

abbrev pub of_bytes : ElfWords → (bytes : List ℕ) → Command tool
of_bytes w bytes = first (imaging bytes) (of_image w bytes)

abbrev pub of_file : ElfWords → Command tool
of_file w = first (reading_file kinds.Image image_limit w.image) (of_bytes w)

-- the out file has a name of its own, and the bytes of the other one are an image
abbrev pub elf : ElfWords → Command tool
elf w = first (naming w.out (w.image ∷ [])) (λ u. of_file w)

abbrev pub order_of : ElfWords → Order tool
order_of w = record { command = elf w; names = file_name (names_of w) }

-- the same of the words that the code holds
abbrev pub to_do : code.ElfWords → Order tool
to_do words = order_of (elf_words_of words)

-- ---- what the parts of the code answer

-- the answer of `elf_file`
abbrev pub WritesElf : ElfWords → StoreView → StoreView → Result Unit Status → Type 0
WritesElf w before after work =
    Runs (elf w) (file_name (names_of w)) before after (done_or_refused (names_of w) work)
