-- The status of `run`, by the words and the files alone: the tests in their order, then the machine.
use Rattle.std.specs.Prelude.{ℕ, List, [], length, ltb, eqb, if◌then◌else◌, Option, Some, None}
use Rattle.qs_ports.specs.StoreView.{Files}
use Rattle.qs_image.specs.Image.{Image}
use Rattle.qs_image.specs.Bytes.{image_of}
use Rattle.qs_image.specs.Faults.{first_fault}
use Rattle.qs_image.specs.declared.fault.ImageFault.{ImageFault}
use Rattle.qs_machine.specs.Arguments.{first_misfit, words_of}
use Rattle.qs_machine.specs.Run.{machine}
use Rattle.qs_machine.specs.State.{stack_limit}
use Rattle.qs_machine.specs.declared.answers.Cause.{Cause}
use Rattle.qs_driver_session.specs.FileStatus.{at_file}
use Rattle.qs_driver_session.specs.Limits.{image_limit, input_limit}
use Rattle.qs_driver_session.specs.Starting.{RunWords, status_at}
use Rattle.qs_driver_session.specs.declared.status.FileKind.TheVariants as kinds
use Rattle.qs_driver_session.specs.declared.status.SourceFault.TheVariants.{TooLong}
use Rattle.qs_driver_session.specs.declared.status.Status.{Status}
use Rattle.qs_driver_session.specs.declared.status.Status.TheVariants.{Done, Source, Words, Missing, Image as NotAnImage, Trapped, StepLimit, StackTooLarge}
use Rattle.qs_driver_session.specs.declared.status.WordsFault.TheVariants.{ArgCount, ArgRange}

-- at the outcome of the machine
abbrev pub at_outcome : RunWords → Image → (input : List ℕ) → Status
at_outcome r image input = status_at r.steps (machine image r.stack (words_of r.args) input r.steps)

-- where the input has this name, or there is none
abbrev pub at_start : Files → RunWords → Image → (input : Option (List ℕ)) → Status
at_start files r image None = at_outcome r image []
at_start files r image (Some name) =
    at_file kinds.Input input_limit (at_outcome r image) (files name)

-- where this argument is the first that doesn't fit, or all fit
abbrev pub at_arguments : Files → RunWords → Image → (misfit : Option ℕ) → Status
at_arguments files r image (Some i) = Words (ArgRange i)
at_arguments files r image None =
    if ltb stack_limit r.stack then StackTooLarge r.stack else at_start files r image r.input

abbrev pub at_image : Files → RunWords → Image → Status
at_image files r image =
    if eqb (length r.args) image.parameters
    then at_arguments files r image (first_misfit image 0 r.args)
    else Words (ArgCount image.parameters (length r.args))

-- where the bytes fail this test of an image first, or none
abbrev pub at_test : Files → RunWords → (bytes : List ℕ) → Option ImageFault → Status
at_test files r bytes (Some fault) = NotAnImage fault
at_test files r bytes None = at_image files r (image_of bytes)

abbrev pub at_bytes : Files → RunWords → (bytes : List ℕ) → Status
at_bytes files r bytes = at_test files r bytes (first_fault bytes)

abbrev pub run_status : Files → RunWords → Status
run_status files r = at_file kinds.Image image_limit (at_bytes files r) (files r.image)

-- the statuses with which `run` ends where no call fails and memory is found
pub data IsOfRun : Status → Type 0 where
  done : IsOfRun Done
  missing_image : IsOfRun (Missing kinds.Image)
  missing_input : IsOfRun (Missing kinds.Input)
  long_image : IsOfRun (Source (TooLong kinds.Image))
  long_input : IsOfRun (Source (TooLong kinds.Input))
  broken_image : (fault : ImageFault) → IsOfRun (NotAnImage fault)
  wrong_count : (expected given : ℕ) → IsOfRun (Words (ArgCount expected given))
  wrong_argument : (i : ℕ) → IsOfRun (Words (ArgRange i))
  large_stack : (size : ℕ) → IsOfRun (StackTooLarge size)
  trapped : (cause : Cause) (pc : ℕ) → IsOfRun (Trapped cause pc)
  step_limit : (steps : ℕ) → IsOfRun (StepLimit steps)
