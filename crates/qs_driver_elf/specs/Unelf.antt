-- `unelf`: from the executable in the store to its image in the store.
use Rattle.std.specs.Prelude.{◌≡◌, ℕ, List, [], ◌∷◌, Some, false, Result}
use Rattle.qs_elf.specs.Faults.{first_fault}
use Rattle.qs_elf.specs.Parts.{IsElfOf}
use Rattle.qs_elf.specs.declared.fault.ElfFault.{ElfFault}
use Rattle.qs_ports.specs.StoreView.{StoreView}
use Rattle.qs_cli.specs.Commands.{UnelfWords}
use Rattle.qs_cli.specs.Reading.{unelf_words_of}
use Rattle.qs_cli.specs.declared.commands.UnelfWords as code
use Rattle.qs_driver_steps.specs.Promises.{Order}
use Rattle.qs_driver_steps.specs.Reading.{deciding}
use Rattle.qs_driver_steps.specs.Runs.{Runs}
use Rattle.qs_driver_steps.specs.Steps.{Step, End, Command, gives, first}
use Rattle.qs_driver_session.specs.Due.{done, done_or_refused}
use Rattle.qs_driver_session.specs.Limits.{elf_limit}
use Rattle.qs_driver_session.specs.Names.{Names, no_names, file_name}
use Rattle.qs_driver_session.specs.Shared.{naming, reading_file}
use Rattle.qs_driver_session.specs.Statuses.{tool}
use Rattle.qs_driver_session.specs.declared.status.FileKind.TheVariants as kinds
use Rattle.qs_driver_session.specs.declared.status.Status.{Status}
use Rattle.qs_driver_session.specs.declared.status.Status.TheVariants.{Elf}

abbrev pub names_of : UnelfWords → Names
names_of w = record no_names { elf = w.file; output = w.out }

-- ---- the steps

-- the bytes are the executable of these of an image, or fail this test of one first
abbrev pub unpacking : (bytes : List ℕ) → Step tool
unpacking bytes =
    deciding 14 (λ (image : List ℕ). IsElfOf bytes image)
    (λ (fault : ElfFault). first_fault bytes ≡ Some fault) Elf

-- the out file gets the image, and nothing is put
abbrev pub unelf_end : UnelfWords → (image : List ℕ) → End tool
unelf_end w image = record {
  output = Some (record { kind = kinds.Output; name = w.out; bytes = image });
  due = done;
  late = false;
}

abbrev pub of_image : UnelfWords → (image : List ℕ) → Command tool
of_image w image = gives (unelf_end w image)

abbrev pub of_bytes : UnelfWords → (bytes : List ℕ) → Command tool
of_bytes w bytes = first (unpacking bytes) (of_image w)

abbrev pub of_file : UnelfWords → Command tool
of_file w = first (reading_file kinds.Elf elf_limit w.file) (of_bytes w)

-- the out file has a name of its own, and the bytes of the other one are an executable
abbrev pub unelf : UnelfWords → Command tool
unelf w = first (naming w.out (w.file ∷ [])) (λ u. of_file w)

abbrev pub order_of : UnelfWords → Order tool
order_of w = record { command = unelf w; names = file_name (names_of w) }

-- the same of the words that the code holds
abbrev pub to_do : code.UnelfWords → Order tool
to_do words = order_of (unelf_words_of words)

-- ---- what the parts of the code answer

-- the answer of `unelf_file`
abbrev pub WritesImage : UnelfWords → StoreView → StoreView → Result Unit Status → Type 0
WritesImage w before after work =
    Runs (unelf w) (file_name (names_of w)) before after (done_or_refused (names_of w) work)
