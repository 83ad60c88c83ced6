-- Steps that several commands share: the name of the file that is written, a file of some kind that is read, an image, arguments that fit it, a stack, and the input.
use Rattle.std.specs.Prelude.{◌≡◌, ◌≢◌, ℕ, ◌<◌, ℤ, List, [], length, Option, Some, None}
use Rattle.qs_image.specs.Image.{Image, IsImage}
use Rattle.qs_image.specs.Faults.{first_fault}
use Rattle.qs_image.specs.declared.fault.ImageFault.{ImageFault}
use Rattle.qs_machine.specs.Arguments.{AreArguments, first_misfit}
use Rattle.qs_machine.specs.State.{stack_limit}
use Rattle.qs_driver_steps.specs.Reading.{deciding, refusing, reading, IsOneOf}
use Rattle.qs_driver_steps.specs.Steps.{Step, Steps, gives, first}
use Rattle.qs_driver_session.specs.Limits.{input_limit}
use Rattle.qs_driver_session.specs.Statuses.{tool, file_number}
use Rattle.qs_driver_session.specs.declared.status.FileKind.{FileKind}
use Rattle.qs_driver_session.specs.declared.status.FileKind.TheVariants as kinds
use Rattle.qs_driver_session.specs.declared.status.Status.{Status}
use Rattle.qs_driver_session.specs.declared.status.Status.TheVariants.{Words, Image as NotAnImage, StackTooLarge}
use Rattle.qs_driver_session.specs.declared.status.WordsFault.TheVariants.{SameName, ArgCount, ArgRange}

-- ---- files

-- the file that is written is none of those that are read
abbrev pub naming : (out : List ℕ) → (inputs : List (List ℕ)) → Step tool
naming out inputs = refusing 2 (IsOneOf out inputs) (Words SameName)

-- the file of this kind is read
abbrev pub reading_file : FileKind → (limit : ℕ) → (name : List ℕ) → Step tool
reading_file kind limit name = reading (file_number kind) kind limit name

-- the bytes are an image, or fail this test of one first
abbrev pub imaging : (content : List ℕ) → Step tool
imaging content =
    deciding 14 (λ (image : Image). IsImage content image)
    (λ (fault : ImageFault). first_fault content ≡ Some fault) NotAnImage

-- ---- arguments

-- there are more or fewer than parameters; or as many, and this is the first that is no value of its parameter
pub data ArgumentFault : Type 0 where
  count_differs : ArgumentFault
  misfit : (i : ℕ) → ArgumentFault

abbrev pub HasArgumentFault : Image → List ℤ → ArgumentFault → Type 0
HasArgumentFault image args count_differs = length args ≢ image.parameters
HasArgumentFault image args (misfit i) =
    (length args ≡ image.parameters) × (first_misfit image 0 args ≡ Some i)

abbrev pub argument_status : Image → List ℤ → ArgumentFault → Status
argument_status image args count_differs = Words (ArgCount image.parameters (length args))
argument_status image args (misfit i) = Words (ArgRange i)

abbrev pub fitting : Image → (args : List ℤ) → Step tool
fitting image args =
    deciding 15 (λ (u : Unit {0}). AreArguments image args) (HasArgumentFault image args)
    (argument_status image args)

-- ---- the stack and the input

-- a stack has at most so many bytes as the machine allows
abbrev pub fitting_stack : (stack : ℕ) → Step tool
fitting_stack stack = refusing 17 (stack_limit < stack) (StackTooLarge stack)

-- the input that is named; none is empty
abbrev pub input_of : (input : Option (List ℕ)) → Steps tool (List ℕ)
input_of None = gives []
input_of (Some name) = first (reading_file kinds.Input input_limit name) gives
