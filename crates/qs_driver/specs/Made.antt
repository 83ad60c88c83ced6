-- What is made of a source that is certified: its image, which isn't written, and main's bound at some arguments.
use Rattle.std.specs.Prelude.{◌≡◌, ◌↔◌, ℕ, ℤ, List, length, Some, Result, Ok, Err}
use Rattle.qs_memory.specs.declared.scalar.Scalar.{Scalar}
use Rattle.qs_typing_findings.specs.TypedOf.{typed_tree}
use Rattle.qs_assert.specs.declared.define.Amount.{Amount}
use Rattle.qs_core.specs.Interfaces.{main_types}
use Rattle.qs_core.specs.Trees.{CoreUnitTree}
use Rattle.qs_elaborate_bodies.specs.Units.{core_of}
use Rattle.qs_certify.specs.Bound.{AreNumbersOf, AreArguments, main_bound}
use Rattle.qs_ports.specs.StoreView.{StoreView, Files}
use Rattle.qs_core.specs.UnitTrees.{unit_tree}
use Rattle.qs_triples.specs.TreeOf.{proofs_tree}
use Rattle.qs_compile.specs.Compiled.{IsImageOfSource}
use Rattle.qs_image.specs.Image.{Image}
use Rattle.qs_machine.specs.Arguments as machine
use Rattle.qs_driver_session.specs.Arguments.{LacksWords}
use Rattle.qs_driver_steps.specs.Files.{IsUntouched}
use Rattle.qs_driver_session.specs.declared.status.Status.{Status}
use Rattle.qs_driver_session.specs.declared.status.Status.TheVariants.{Words, NoMemory}
use Rattle.qs_driver_session.specs.declared.status.WordsFault.TheVariants.{ArgCount, ArgRange}
use Rattle.qs_driver_proofs.specs.Misfits.{CountDiffers, IsMisfit}
use Rattle.qs_driver.specs.Certified.{CertifyWords, CertifiedSource, ReadsCertified, LacksCertified, HoldsRight, IsOfCertified, RefusesCertified}
use Rattle.qs_driver.specs.Bounds.{IsImageOf, bound_by, costs_in}
use Rattle.qs_driver.specs.declared.certified.CertifiedUnit.{CertifiedUnit}
use Rattle.qs_driver.specs.declared.made.Made.{Made}

-- ---- the words

-- those that name what is certified, and main's arguments
pub record MakeWords : Type 0 where
  pub inputs : CertifyWords
  pub args : List ℤ

abbrev pub make_words : CertifyWords → List ℤ → MakeWords
make_words inputs args = record { inputs = inputs; args = args }

-- ---- what is made

-- the source and the proof file were read and come to this, of which this image is made
pub record ComesToImage (m : MakeWords) (before : StoreView) (s : CertifiedSource) (image : Image)
    : Type 0 where
  pub reads : ReadsCertified m.inputs before s
  pub image_of : IsImageOf s image

-- The arguments are main's, and their bound is this: what main costs, by the image's records, and the value of its
-- precondition.
pub record IsMade (m : MakeWords) (before : StoreView) (image : Image) (bound : Amount)
    : Type 0 where
  pub source : CertifiedSource
  pub makes : ComesToImage m before source image
  pub arguments : AreArguments source.core m.args
  pub is_bound : bound ≡ bound_by source (costs_in image.functions) m.args

-- The source and the proof file were read and are right, and of the types of main's parameters this is so.
pub record ReadsMain (m : MakeWords) (before : StoreView) (IsSo : List Scalar → Type 0)
    : Type 0 where
  pub source : CertifiedSource
  pub reads : ReadsCertified m.inputs before source
  pub so : IsSo (main_types source.core)

-- Why nothing is made, and the status at that. The tests come in this order.
pub data CannotMake (m : MakeWords) (before after : StoreView) (status : Status) : Type 0 where
  not_certified : LacksCertified m.inputs before after status → CannotMake m before after status
  count_differs : (parameters : ℕ) → IsUntouched before after
      → ReadsMain m before (λ types. CountDiffers types m.args parameters)
      → status ≡ Words (ArgCount parameters (length m.args)) → CannotMake m before after status
  misfit : (i : ℕ) → IsUntouched before after
      → ReadsMain m before (λ types. IsMisfit types m.args i)
      → status ≡ Words (ArgRange i) → CannotMake m before after status
  -- no memory was found; a source passes no size of images (`SourcesPassNoSize`)
  no_memory : IsUntouched before after → status ≡ NoMemory → CannotMake m before after status

-- ---- what follows

-- The source is there and right with its proofs, and of the types of main's parameters this is so.
pub record HoldsMain (m : MakeWords) (files : Files) (IsSo : List Scalar → Type 0) : Type 0 where
  pub right : HoldsRight m.inputs files
  pub core : CoreUnitTree
  pub core_is : core_of right.typed.unit.trees ≡ Some core
  pub so : IsSo (main_types core)

-- The source is right with its proofs, and there is an argument for each of main's parameters, a number of its type.
abbrev pub FitsMain : MakeWords → Files → Type 0
FitsMain m files = HoldsMain m files (λ types. AreNumbersOf types m.args)

-- the statuses at which nothing is made of these arguments, where no call fails and memory is found
pub data IsOfMade (args : List ℤ) : Status → Type 0 where
  of_certified : {status : Status} → IsOfCertified status → IsOfMade args status
  wrong_count : (expected : ℕ) → IsOfMade args (Words (ArgCount expected (length args)))
  wrong_argument : (i : ℕ) → IsOfMade args (Words (ArgRange i))

-- Each refusal comes exactly where its cause is.
pub record RefusesMade (m : MakeWords) (files : Files) (status : Status) : Type 0 where
  pub certified : RefusesCertified m.inputs files status
  pub count : (parameters : ℕ)
      → (status ≡ Words (ArgCount parameters (length m.args)))
      ↔ HoldsMain m files (λ types. CountDiffers types m.args parameters)
  pub argument : (i : ℕ)
      → (status ≡ Words (ArgRange i)) ↔ HoldsMain m files (λ types. IsMisfit types m.args i)

-- ---- what the code answers

-- What the code has made of a certified unit: an image of it. The arguments are main's, and their bound is this.
pub record IsMadeOf (c : CertifiedUnit) (args : List ℤ) (made : Made) : Type 0 where
  pub compiled : IsImageOfSource (typed_tree c.typed) made.image
  pub arguments : machine.AreArguments made.image args
  pub bound_is :
      made.bound
      ≡ main_bound (unit_tree c.core) (proofs_tree c.certified.proofs)
      (costs_in made.image.functions) args

-- why nothing is made of it, and the status at that
pub data CannotMakeOf (c : CertifiedUnit) (args : List ℤ) (status : Status) : Type 0 where
  lacks_words : (image : Image) → IsImageOfSource (typed_tree c.typed) image
      → LacksWords image args status
      → CannotMakeOf c args status
  lacks_memory : status ≡ NoMemory → CannotMakeOf c args status

-- the answer of `make_certified`
abbrev pub MakesCertified : CertifiedUnit → (args : List ℤ) → Result Made Status → Type 0
MakesCertified c args (Ok made) = IsMadeOf c args made
MakesCertified c args (Err status) = CannotMakeOf c args status

-- what the code has made, and no file changed
pub record HasMade (m : MakeWords) (before after : StoreView) (made : Made) : Type 0 where
  pub untouched : IsUntouched before after
  pub is_made : IsMade m before made.image made.bound

-- the answer of `make`
abbrev pub Makes : MakeWords → StoreView → StoreView → Result Made Status → Type 0
Makes m before after (Ok made) = HasMade m before after made
Makes m before after (Err status) = CannotMake m before after status

-- the same of a store that is seen by this view, as the code is handed it and as it leaves it
abbrev pub MakesOn :
    {S : Type 0} → (S → StoreView) → S → S → CertifyWords → (args : List ℤ) → Result Made Status
    → Type 0
MakesOn view old new inputs args result =
    Makes (make_words inputs args) (view old) (view new) result
