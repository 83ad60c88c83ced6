-- `build`: from the source and its proof file in the store to the image in the store.
use Rattle.std.specs.Prelude.{◌≡◌, ◌⊎◌, ◌↔◌, ℕ, List, [], ◌∷◌, IsTrue, Option, Some, Result, Ok, Err}
use Rattle.qs_ports.specs.StoreView.{StoreView, HasSameCounts, HasFailed}
use Rattle.qs_ports.specs.Whole.{Stores, IsCutShort}
use Rattle.qs_image.specs.Image.{Image, IsImage}
use Rattle.qs_driver_session.specs.Names.{Names, no_names, or_empty, name_in}
use Rattle.qs_driver_session.specs.Lines.{cost_lines}
use Rattle.qs_driver_steps.specs.Pieces.{on_out}
use Rattle.qs_driver_session.specs.Due.{Due, refusal, IsRefusal}
use Rattle.qs_driver_steps.specs.Files.{IsUntouched}
use Rattle.qs_driver_session.specs.Task.{Task}
use Rattle.qs_driver_session.specs.declared.status.Status.{Status}
use Rattle.qs_driver_session.specs.declared.status.Status.TheVariants.{Done, Words, StoreFailed, NoMemory}
use Rattle.qs_driver_session.specs.declared.status.WordsFault.TheVariants.{SameName}
use Rattle.qs_driver_session.specs.declared.status.FileKind.TheVariants as kinds
use Rattle.qs_driver.specs.Certified.{CertifyWords, certify_words, CertifiedSource, ReadsCertified, LacksCertified, HoldsRight, IsOfCertified, RefusesCertified}
use Rattle.qs_driver.specs.Bounds.{IsImageOf}
use Rattle.qs_driver.specs.declared.commands.build.BuildOrder.{BuildOrder}

-- ---- the words

-- the source, its proof file where one is named, and the file that gets the image
pub record BuildWords : Type 0 where
  pub source : List ℕ
  pub proof : Option (List ℕ)
  pub out : List ℕ

abbrev pub build_words : List ℕ → Option (List ℕ) → List ℕ → BuildWords
build_words source proof out = record { source = source; proof = proof; out = out }

-- the words as the code holds them
abbrev pub words_in : BuildOrder → BuildWords
words_in order = build_words order.source.now (name_in order.proof) order.out.now

-- those that name what is certified
abbrev pub inputs : BuildWords → CertifyWords
inputs b = certify_words b.source b.proof

abbrev pub names_of : BuildWords → Names
names_of b = record no_names { source = b.source; derivation = or_empty b.proof; output = b.out }

-- the file that gets the image is one of those that are read
abbrev pub NamesOneTwice : BuildWords → Type 0
NamesOneTwice b = (b.source ≡ b.out) ⊎ (b.proof ≡ Some b.out)

abbrev pub NamesDiffer : BuildWords → Type 0
NamesDiffer b = NamesOneTwice b → ⊥

-- ---- what is due

-- The source and the proof file were read and come to this, of which this image was made, and these are its bytes.
pub record HasImage (b : BuildWords) (before : StoreView) (s : CertifiedSource) (image : Image)
    (bytes : List ℕ) : Type 0 where
  pub reads : ReadsCertified (inputs b) before s
  pub image_of : IsImageOf s image
  pub is_image : IsImage bytes image

-- the cost of each function
abbrev pub costs : Image → Due
costs image = record { status = Done; pieces = on_out (cost_lines image.functions) ∷ [] }

-- The source is certified, and the out file holds an image of it; `out` gets the cost of each of its functions.
pub record HasBuilt (b : BuildWords) (before after : StoreView) (due : Due) : Type 0 where
  pub source : CertifiedSource
  pub image : Image
  pub bytes : List ℕ
  pub has_image : HasImage b before source image bytes
  pub stores : Stores before after b.out bytes
  pub counts : HasSameCounts before after
  pub is_due : due ≡ costs image

-- A call failed while the image was written: the out file holds some first bytes of it, or wasn't made.
pub record CouldNotWrite (b : BuildWords) (before after : StoreView) : Type 0 where
  pub source : CertifiedSource
  pub image : Image
  pub bytes : List ℕ
  pub has_image : HasImage b before source image bytes
  pub part : IsCutShort before after b.out bytes
  pub failed : HasFailed before after

-- Why the image wasn't built, and the status at that.
pub data CannotBuild (b : BuildWords) (before after : StoreView) (status : Status) : Type 0 where
  not_certified : LacksCertified (inputs b) before after status → CannotBuild b before after status
  unwritable : CouldNotWrite b before after → status ≡ StoreFailed kinds.Output
      → CannotBuild b before after status
  -- no memory was found, before anything was written; a source passes no size of images (`SourcesPassNoSize`)
  no_memory : IsUntouched before after → status ≡ NoMemory → CannotBuild b before after status

-- What is due to `build`, and why.
pub data IsDueToBuild (b : BuildWords) (before after : StoreView) (due : Due) : Type 0 where
  built : NamesDiffer b → HasBuilt b before after due → IsDueToBuild b before after due
  named_twice : NamesOneTwice b → IsUntouched before after
      → IsRefusal (names_of b) (Words SameName) due → IsDueToBuild b before after due
  refused : NamesDiffer b → (status : Status) → CannotBuild b before after status
      → IsRefusal (names_of b) status due → IsDueToBuild b before after due

-- ---- what follows

-- The source is there and is well typed and within limits. Its proof file is there and right, or none is named and it is
-- without recursion. The image goes into another file.
pub record IsGood (b : BuildWords) (before : StoreView) : Type 0 where
  pub differ : NamesDiffer b
  pub told : IsTrue before.told
  pub right : HoldsRight (inputs b) before.files

-- each good source is built
abbrev pub Accepts : BuildWords → StoreView → Status → Type 0
Accepts b before status = IsGood b before → status ≡ Done

-- the statuses with which `build` ends where no call fails and memory is found
pub data IsOfBuild : Status → Type 0 where
  done : IsOfBuild Done
  one_name : IsOfBuild (Words SameName)
  of_certified : {status : Status} → IsOfCertified status → IsOfBuild status

-- Each refusal of `build` comes exactly where its cause is, and no refusal of another command comes.
pub record Refuses (b : BuildWords) (before : StoreView) (status : Status) : Type 0 where
  pub own : IsOfBuild status
  pub same_name : (status ≡ Words SameName) ↔ NamesOneTwice b
  pub certified : IsTrue before.told → NamesDiffer b
      → RefusesCertified (inputs b) before.files status

abbrev pub build : BuildWords → Task
build b = record { IsDue = IsDueToBuild b; Accepts = Accepts b; Refuses = Refuses b }

-- the task of the words that the code holds
abbrev pub to_do : BuildOrder → Task
to_do order = build (words_in order)

-- ---- what the parts of the code answer

-- what is due after the work on the store
abbrev pub due_of : BuildWords → Result Image Status → Due
due_of b (Ok image) = costs image
due_of b (Err status) = refusal (names_of b) status

-- the same, where the code holds the words
abbrev pub due_to : BuildOrder → Result Image Status → Due
due_to order work = due_of (words_in order) work

-- the answer of `build_file`
abbrev pub Builds : BuildWords → StoreView → StoreView → Result Image Status → Type 0
Builds b before after work = IsDueToBuild b before after (due_of b work)
