-- What a call of `run`, and a call whose words mean no command, keeps in plain words.
use Rattle.std.specs.Prelude.{◌≡◌, ℕ, List, IsTrue, Option}
use Rattle.qs_image.specs.Image.{Image, IsImage}
use Rattle.qs_machine.specs.Arguments.{words_of}
use Rattle.qs_machine.specs.Run.{Outcome, machine}
use Rattle.qs_ports.specs.StoreView.{StoreView}
use Rattle.qs_driver_steps.specs.Devices.{DevicesView, StreamsView, streams_of}
use Rattle.qs_driver_steps.specs.Files.{IsUntouched}
use Rattle.qs_driver_steps.specs.Pieces.{ArePut}
use Rattle.qs_driver_steps.specs.Promises.{NoneFailed, Promises}
use Rattle.qs_driver_session.specs.Due.{Due}
use Rattle.qs_driver_session.specs.Files.{HoldsWith, WasReadWith}
use Rattle.qs_driver_session.specs.Limits.{image_limit}
use Rattle.qs_driver_session.specs.Starting.{RunWords, CanRun, HasInput, ReadInput, status_at}
use Rattle.qs_driver_session.specs.Statuses.{tool, number_of, last_number}
use Rattle.qs_driver_session.specs.commands.Run.{due_at, order_of}
use Rattle.qs_driver_session.specs.commands.RunStatus.{run_status, IsOfRun}
use Rattle.qs_driver_session.specs.commands.Usage.{none}
use Rattle.qs_driver_session.specs.declared.status.Status.{Status}
use Rattle.qs_driver_session.specs.declared.status.Status.TheVariants.{Words}
use Rattle.qs_driver_session.specs.declared.status.WordsFault.TheVariants.{Usage}

-- ---- an end

-- A status of an end and of no refusal: `Done`, or of a run that trapped or came to its most steps.
abbrev pub IsEnd : Status → Type 0
IsEnd status = number_of status ≡ last_number

-- Something of which this is so was due, and all of it was put; the status is the due one.
pub record IsDone (IsSo : Due → Type 0) (before after : StreamsView) (status : Status) : Type 0 where
  pub due : Due
  pub so : IsSo due
  pub status_is : status ≡ due.status
  pub put : ArePut due.pieces before after

-- ---- `run`

-- bytes were read as those of the image's file, and they are this image
abbrev pub ReadImage : StoreView → RunWords → Image → Type 0
ReadImage before r image = WasReadWith before r.image image_limit (λ content. IsImage content image)

-- The machine was run on the image, with the stack, arguments, input and steps of the words.
pub record HasRun (r : RunWords) (before after : StoreView) (due : Due) : Type 0 where
  pub image : Image
  pub input : List ℕ
  pub image_read : ReadImage before r image
  pub can_run : CanRun r image
  pub input_read : ReadInput before r.input input
  pub untouched : IsUntouched before after
  pub is_due : due ≡ due_at r (machine image r.stack (words_of r.args) input r.steps)

-- the file is there, and its bytes are this image
abbrev pub HoldsImage : Option (List ℕ) → Image → Type 0
HoldsImage file image = HoldsWith file image_limit (λ content. IsImage content image)

-- an image that is there, with arguments, a stack and an input that it can be run with
pub record IsGood (r : RunWords) (before : StoreView) : Type 0 where
  pub image : Image
  pub input : List ℕ
  pub told : IsTrue before.told
  pub image_there : HoldsImage (before.files r.image) image
  pub can_run : CanRun r image
  pub input_there : HasInput before r.input input

-- the outcome of the machine
abbrev pub outcome : {r : RunWords} {before : StoreView} → IsGood r before → Outcome
outcome {r} g = machine g.image r.stack (words_of r.args) g.input r.steps

pub record KeepsRun (r : RunWords) (before after : DevicesView) (status : Status) : Type 0 where
  -- at an end the machine was run, and its output and the line were put
  pub ran : IsEnd status
      → IsDone (HasRun r before.store after.store) (streams_of before) (streams_of after) status
  -- each image that can be run is run to its outcome
  pub accepts : NoneFailed tool before after status → (g : IsGood r before.store)
      → status ≡ status_at r.steps (outcome g)
  -- no refusal of another command comes
  pub own : NoneFailed tool before after status → IsOfRun status
  -- the status is the one that the words and the files tell
  pub exactly : NoneFailed tool before after status → IsTrue before.store.told
      → status ≡ run_status before.store.files r

abbrev pub RunInPlainWords : Type 0
RunInPlainWords =
    (r : RunWords) (before after : DevicesView) (status : Status)
    → Promises (order_of r) before after status → KeepsRun r before after status

-- ---- words that mean no command

pub record KeepsUsage (before after : DevicesView) (status : Status) : Type 0 where
  pub untouched : IsUntouched before.store after.store
  -- they are refused
  pub refuses : NoneFailed tool before after status → status ≡ Words Usage

abbrev pub UsageInPlainWords : Type 0
UsageInPlainWords =
    (before after : DevicesView) (status : Status) → Promises none before after status
    → KeepsUsage before after status
