-- The status of a command that reads a file, by the files alone.
use Rattle.std.specs.Prelude.{ℕ, List, length, ltb, if◌then◌else◌, Option, Some, None}
use Rattle.qs_driver_session.specs.declared.status.FileKind.{FileKind}
use Rattle.qs_driver_session.specs.declared.status.SourceFault.TheVariants.{TooLong}
use Rattle.qs_driver_session.specs.declared.status.Status.{Status}
use Rattle.qs_driver_session.specs.declared.status.Status.TheVariants.{Source, Missing}

-- where its file of this kind is this one: it is missing, or is too long, or else its bytes tell the status
abbrev pub at_file :
    FileKind → (limit : ℕ) → (at_bytes : List ℕ → Status) → Option (List ℕ) → Status
at_file kind limit at_bytes None = Missing kind
at_file kind limit at_bytes (Some bytes) =
    if ltb limit (length bytes) then Source (TooLong kind) else at_bytes bytes
