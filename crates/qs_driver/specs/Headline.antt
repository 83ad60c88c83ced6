-- What is promised of `build`, said of a call alone: the words, and the devices before it and after it.
use Rattle.std.specs.Prelude.{◌≡◌, ◌≢◌, ◌⊎◌, ◌↔◌, ℕ, ◌≤◌, ℤ, List, ◌++◌, IsTrue, Option, Some, None}
use Rattle.qs_cli.specs.Commands.{meaning, Build, Bound}
use Rattle.qs_core.specs.CallGraph.{IsWithoutRecursion}
use Rattle.qs_meaning.specs.Typed.{TypedProgram}
use Rattle.qs_ports.specs.StoreView.{Files}
use Rattle.qs_image.specs.Image.{Image, IsImage}
use Rattle.qs_machine.specs.Arguments.{words_of}
use Rattle.qs_machine.specs.Run.{Outcome, Exited, Trapped, machine, output_so_far}
use Rattle.qs_machine.specs.declared.answers.Cause.{Cause}
use Rattle.qs_machine.specs.State.{stack_limit}
use Rattle.qs_emit.specs.Agree.{Agree, Begins, HasEndedWith}
use Rattle.qs_events.specs.BoundedRun.{BoundedRun, Undefined, trace_of}
use Rattle.qs_events.specs.Events.{Event, output_of}
use Rattle.qs_certify.specs.Bound.{AreArguments}
use Rattle.qs_compile.specs.Agree.{IsInput}
use Rattle.qs_compile.specs.Compiled.{IsCompiled}
use Rattle.qs_report.specs.Lines.{bound_line}
use Rattle.qs_driver_session.specs.Limits.{source_limit}
use Rattle.qs_driver_session.specs.Lines.{cost_lines}
use Rattle.qs_driver_session.specs.Faults.{shown_of}
use Rattle.qs_driver_steps.specs.Files.{HoldsContent}
use Rattle.qs_driver_session.specs.Source.{IsTypedUnit}
use Rattle.qs_driver_steps.specs.Devices.{DevicesView}
use Rattle.qs_driver_session.specs.Promises.{NoneFailed}
use Rattle.qs_driver_session.specs.declared.status.Status.{Status}
use Rattle.qs_driver_session.specs.declared.status.Status.TheVariants.{Done, NoMemory}
use Rattle.qs_driver.specs.Asked.{Promises}
use Rattle.qs_driver.specs.Bounds.{IsImageOf, bound_by, bytes_by, costs_in, seen_runs}
use Rattle.qs_driver.specs.Certified.{CertifyWords, CertifiedSource, AreAsBefore, ReadsCertified, OfCore}
use Rattle.qs_driver.specs.Tool.{task}
use Rattle.qs_driver.specs.commands.Build.{build_words, inputs, IsGood}

-- ---- the bound that is printed

-- what a call of `bound` on the same source and proof file prints where it ends well
pub record PrintsBound (s : CertifiedSource) (image : Image) (args : List ℤ)
    (before after : DevicesView) : Type 0 where
  -- the arguments are main's
  pub arguments : AreArguments s.core args
  -- the image that it made for this, of the same source
  pub other : Image
  pub image_of : IsImageOf s other
  -- the cost lines of that image, and then the bound by its costs
  pub printed :
      IsTrue after.out.told
      → after.out.written
      ≡ before.out.written
      ++ (cost_lines other.functions
      ++ bound_line (shown_of (bound_by s (costs_in other.functions) args)))
  -- where these are the lines that `build` printed, it is the bound of the image that `build` wrote
  pub same :
      cost_lines other.functions ≡ cost_lines image.functions
      → bound_by s (costs_in other.functions) args ≡ bound_by s (costs_in image.functions) args

-- each such call does so
abbrev pub BoundPrintsIt : CertifyWords → Files → CertifiedSource → Image → Type 0
BoundPrintsIt w files s image =
    (words : List (List ℕ)) (args : List ℤ) (before after : DevicesView)
    → meaning words ≡ Some (Bound w.source w.proof args)
    → Promises (task words) before after Done → IsTrue before.store.told
    → AreAsBefore w files before.store.files
    → PrintsBound s image args before after

-- ---- while the source is defined

-- the source is undefined within no bound
abbrev pub IsDefined : (ℕ → BoundedRun) → Type 0
IsDefined source = (n : ℕ) (trace : List Event) → source n ≡ Undefined trace → ⊥

-- the source ends with this output and status
abbrev pub EndsSo : (ℕ → BoundedRun) → (output : List ℕ) → (status : ℕ) → Type 0
EndsSo source output status = (n : ℕ) × HasEndedWith (source n) output status

-- the machine ends with them
abbrev pub ExitsSo : (ℕ → Outcome) → (output : List ℕ) → (status : ℕ) → Type 0
ExitsSo machine output status = (steps : ℕ) × (machine steps ≡ Exited output status)

-- The machine neither overflows nor faults. It ends with the source's output and status exactly when the source ends, and
-- otherwise goes on with the same output so far.
pub record RunsAsSource (source : ℕ → BoundedRun) (machine : ℕ → Outcome) : Type 0 where
  pub never_traps : (steps : ℕ) (cause : Cause) (pc : ℕ) (output : List ℕ)
      → machine steps ≡ Trapped cause pc output → ⊥
  pub ends : (output : List ℕ) (status : ℕ)
      → EndsSo source output status ↔ ExitsSo machine output status
  pub comes_as_far : (n : ℕ)
      → (steps : ℕ) × Begins (output_so_far (machine steps)) (output_of (trace_of (source n)))
  pub comes_no_farther : (steps : ℕ)
      → Begins (output_of (trace_of (source steps))) (output_so_far (machine steps))

-- ---- a source that is accepted

-- On any stack of at least the bound of its arguments, which are main's, this is so of the source's runs and of the
-- image's, on each input.
abbrev pub FromItsBound :
    CertifiedSource → TypedProgram → Image → ((ℕ → BoundedRun) → (ℕ → Outcome) → Type 0) → Type 0
FromItsBound s program image IsSo =
    (args : List ℤ) (input : List ℕ) (bound size : ℕ) → AreArguments s.core args → IsInput input
    → bytes_by s image args ≡ Some bound → bound ≤ size → size ≤ stack_limit
    → IsSo (seen_runs program args input) (machine image size (words_of args) input)

-- The out file holds an image of the source, whose costs were printed, and which does what the source does, on any stack
-- of at least its bound, while the source is defined.
pub record HoldsItsImage (source : List ℕ) (proof : Option (List ℕ)) (out : List ℕ)
    (before after : DevicesView) : Type 0 where
  pub certified : CertifiedSource
  pub reads : ReadsCertified (inputs (build_words source proof out)) before.store certified
  pub image : Image
  pub bytes : List ℕ
  pub is_image : IsImage bytes image
  pub written : IsTrue after.store.told → after.store.files out ≡ Some bytes
  pub compiled : IsCompiled certified.unit image
  pub printed : IsTrue after.out.told
      → after.out.written ≡ before.out.written ++ cost_lines image.functions
  pub bound_printed :
      IsTrue before.store.told
      → BoundPrintsIt (inputs (build_words source proof out)) before.store.files certified image
  pub agrees : FromItsBound certified compiled.program image Agree
  pub while_defined :
      FromItsBound certified compiled.program image
      (λ source machine. IsDefined source → RunsAsSource source machine)

-- ---- what is accepted

-- the source is there, is well typed and within the limits, and its functions don't call each other in turn
pub record HasNoRecursion (source : List ℕ) (files : Files) : Type 0 where
  pub text : List ℕ
  pub there : HoldsContent (files source) source_limit text
  pub typed : IsTypedUnit text
  pub without_recursion : OfCore typed.unit.trees IsWithoutRecursion

-- the image of a source without recursion is asked for, in another file, and no proof file is named
pub record IsPlain (source : List ℕ) (proof : Option (List ℕ)) (out : List ℕ) (before : DevicesView)
    : Type 0 where
  pub no_proof : proof ≡ None
  pub differ : source ≢ out
  pub told : IsTrue before.store.told
  pub source_there : HasNoRecursion source before.store.files

-- ---- the promise

-- it was built, unless memory ran out
abbrev pub IsAccepted : Status → Type 0
IsAccepted result = (result ≡ Done) ⊎ (result ≡ NoMemory)

-- Each accepted source is built right, and each good source is accepted, unless memory ran out: without a proof file
-- each that is well typed, within the limits and without recursion.
pub record BuildsAndAccepts (source : List ℕ) (proof : Option (List ℕ)) (out : List ℕ)
    (before after : DevicesView) (result : Status) : Type 0 where
  pub built : result ≡ Done → HoldsItsImage source proof out before after
  pub accepts_good : NoneFailed before after → IsGood (build_words source proof out) before.store
      → IsAccepted result
  pub accepts_plain : NoneFailed before after → IsPlain source proof out before → IsAccepted result

-- It follows of each call of which `run_tool` promises what it does.
abbrev pub Headline : Type 0
Headline =
    (words : List (List ℕ)) (source : List ℕ) (proof : Option (List ℕ)) (out : List ℕ)
    (before after : DevicesView) (result : Status) → meaning words ≡ Some (Build source proof out)
    → Promises (task words) before after result
    → BuildsAndAccepts source proof out before after result
