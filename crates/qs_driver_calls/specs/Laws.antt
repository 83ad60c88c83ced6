-- What follows of the promises of calls of `calls`, in plain words.
use Rattle.std.specs.Prelude.{◌≡◌, ◌↔◌, ℕ, ◌≤◌, ℤ, List, length, IsTrue, Option, Some, None, Vec}
use Rattle.std.specs.List.{slice_get}
use Rattle.std.specs.declared.alloc.Global.{Global}
use Rattle.qs_base.specs.declared.places.Pos.{Pos}
use Rattle.qs_syntax.specs.Trees.{UnitTree}
use Rattle.qs_memory.specs.declared.scalar.Scalar.{Scalar}
use Rattle.qs_events.specs.Runs.{events_of}
use Rattle.qs_events.specs.Weights.{Costs, calls_in, run_count}
use Rattle.qs_meaning.specs.Runs.{main_run}
use Rattle.qs_meaning.specs.Typed.{TypedProgram}
use Rattle.qs_meaning.specs.Units.{typed_of}
use Rattle.qs_assert.specs.Order.{IsInOrder}
use Rattle.qs_assert.specs.Values.{finite}
use Rattle.qs_assert.specs.declared.define.Amount.TheVariants.{Finite}
use Rattle.qs_entail.specs.Meaning.{AtLeast}
use Rattle.qs_core.specs.Interfaces.{main_types}
use Rattle.qs_core.specs.Trees.{CoreFunctionTree, CoreUnitTree}
use Rattle.qs_elaborate_bodies.specs.Units.{core_of}
use Rattle.qs_triples.specs.Derivations.{EntryTree, ProofsTree, entry_of}
use Rattle.qs_triples.specs.declared.resource.Resource.TheVariants.{Calls}
use Rattle.qs_prooftext_meaning.specs.Reading.{Reading}
use Rattle.qs_prooftext_meaning.specs.declared.fault.TextFault.{TextFault}
use Rattle.qs_certify.specs.Bound.{values_of, AreArguments}
use Rattle.qs_certify.specs.Certification.{IsMisplaced}
use Rattle.qs_count.specs.Counted.{AreAllCounted}
use Rattle.qs_count.specs.Covered.{IsCovered}
use Rattle.qs_count.specs.Laws.{cost_of_call}
use Rattle.qs_count.specs.MainCount.{main_count}
use Rattle.qs_compile.specs.Agree.{IsInput}
use Rattle.qs_ports.specs.StoreView.{StoreView, Files}
use Rattle.qs_report.specs.declared.fault_texts.ProofText.{ProofText}
use Rattle.qs_report.specs.declared.fault_texts.Spot.{Spot}
use Rattle.qs_cli.specs.Commands.{CallsWords}
use Rattle.qs_driver_steps.specs.Devices.{DevicesView, streams_of}
use Rattle.qs_driver_steps.specs.Files.{IsUntouched, HoldsContent, IsTooLong}
use Rattle.qs_driver_steps.specs.Promises.{NoneFailed, Promises}
use Rattle.qs_driver_steps.specs.Runs.{Runs}
use Rattle.qs_driver_session.specs.Due.{Due}
use Rattle.qs_driver_session.specs.Files.{WasReadAs}
use Rattle.qs_driver_session.specs.Limits.{source_limit, proof_limit}
use Rattle.qs_driver_session.specs.Names.{file_name}
use Rattle.qs_driver_session.specs.PlainWords.{IsDone}
use Rattle.qs_driver_session.specs.Source.{HoldsText, IsTypedAs, IsTypedUnit, RefusesSource}
use Rattle.qs_driver_session.specs.Statuses.{tool}
use Rattle.qs_driver_session.specs.Told.{EntryPlace, place_of}
use Rattle.qs_driver_session.specs.declared.status.FileKind.TheVariants as kinds
use Rattle.qs_driver_session.specs.declared.status.ProofFault.TheVariants.{Text, Cycle, Order, Entry}
use Rattle.qs_driver_session.specs.declared.status.SourceFault.TheVariants.{TooLong}
use Rattle.qs_driver_session.specs.declared.status.Status.{Status}
use Rattle.qs_driver_session.specs.declared.status.Status.TheVariants.{Done, Source, Proof, Words, Missing}
use Rattle.qs_driver_session.specs.declared.status.WordsFault.TheVariants.{ArgCount, ArgRange}
use Rattle.qs_driver_proofs.specs.Misfits.{CountDiffers, IsMisfit}
use Rattle.qs_driver_proofs.specs.Refusals.{HasTextFaultAt}
use Rattle.qs_driver_proofs.specs.Steps.{IsCoreOf, LacksDerivation}
use Rattle.qs_driver_calls.specs.Calls.{names_of, LacksEntry, entry_wanted, counted, calls, order_of}

-- ---- what is counted

-- a unit, its core, and the proofs of its file
pub record CountedSource : Type 0 where
  pub unit : UnitTree
  pub core : CoreUnitTree
  pub given : ProofsTree

-- The file reads as these proofs of the core: no function is missing, the definitions are in order, and each entry is
-- derived where calls are counted.
pub record IsCountedBy (core : CoreUnitTree) (file : List ℕ) (given : ProofsTree) : Type 0 where
  pub reads : Reading core file given
  pub covered : IsCovered core given
  pub all : AreAllCounted core given

-- the text is this typed unit, which has this core, as which it runs, and the file counts its calls
pub record IsCountedAs (text file : List ℕ) (s : CountedSource) : Type 0 where
  pub typed_as : IsTypedAs text s.unit
  pub core_is : IsCoreOf s.unit s.core
  pub by : IsCountedBy s.core file s.given

-- ---- what its bound says of the runs

-- On each input, within each bound of turns and depth, also where the run is undefined or short: for every cost of calls
-- what the calls of main's run cost together is at most what main costs and the value of its precondition; and main's
-- count, if it is a number, is at least the number of calls of that run.
pub record CountsRuns (s : CountedSource) (program : TypedProgram) : Type 0 where
  pub main : CoreFunctionTree
  pub is_main : slice_get s.core.functions s.core.main ≡ Some main
  pub entry : EntryTree
  pub stands : entry_of s.given s.core.main ≡ Some entry
  pub bounds :
      (cost : Costs) (args : List ℤ) (input : List ℕ) (n : ℕ)
      → AreArguments s.core args → IsInput input
      → AtLeast (cost_of_call cost s.given s.core.main main entry (values_of args))
      (finite (run_count cost (main_run program (values_of args) input n)))
  pub counts :
      (args : List ℤ) (input : List ℕ) (count n : ℕ)
      → AreArguments s.core args → IsInput input
      → main_count s.core s.given args ≡ Finite count
      → calls_in (events_of (main_run program (values_of args) input n)) ≤ count

-- the source has a typed tree whose calls main's entry bounds
pub record HasCount (s : CountedSource) : Type 0 where
  pub program : TypedProgram
  pub tree : typed_of s.unit ≡ Some program
  pub counts : CountsRuns s program

-- ---- a call that ends well

-- The source and the proof file were read and come to this, whose bound is one of its runs, the arguments are main's, and
-- no file changed; `out` gets the bound at the arguments.
pub record HasCounted (w : CallsWords) (before after : StoreView) (due : Due) : Type 0 where
  pub text : List ℕ
  pub file : List ℕ
  pub source : CountedSource
  pub text_read : WasReadAs before w.source source_limit text
  pub file_read : WasReadAs before w.proof proof_limit file
  pub is : IsCountedAs text file source
  pub bounded : HasCount source
  pub arguments : AreArguments source.core w.args
  pub untouched : IsUntouched before after
  pub is_due : due ≡ counted (main_count source.core source.given w.args)

-- ---- what the files hold

-- the source is there and is a typed unit with this core, and the proof file is there
pub record HoldsBoth (w : CallsWords) (files : Files) : Type 0 where
  pub text : List ℕ
  pub there : HoldsContent (files w.source) source_limit text
  pub typed : IsTypedUnit text
  pub core : CoreUnitTree
  pub core_is : core_of typed.unit.trees ≡ Some core
  pub file : List ℕ
  pub file_there : HoldsContent (files w.proof) proof_limit file

-- the file counts the calls of the source, and the arguments are main's
pub record HoldsCounted (w : CallsWords) (files : Files) : Type 0 where
  pub both : HoldsBoth w files
  pub given : ProofsTree
  pub by : IsCountedBy both.core both.file given
  pub arguments : AreArguments both.core w.args

-- ---- when it is refused

-- the source is there and is a typed unit, and of the proof file this is so
pub record OfProofFile (w : CallsWords) (files : Files) (IsSo : Option (List ℕ) → Type 0)
    : Type 0 where
  pub unit : HoldsText (files w.source) IsTypedUnit
  pub so : IsSo (files w.proof)

-- both files are there, and of the core and the text of the proofs this is so
pub record OfText (w : CallsWords) (files : Files) (IsSo : CoreUnitTree → List ℕ → Type 0)
    : Type 0 where
  pub both : HoldsBoth w files
  pub so : IsSo both.core both.file

-- both files are there, the text reads as proofs of the core, and of these this is so
pub record OfProofs (w : CallsWords) (files : Files) (IsSo : CoreUnitTree → ProofsTree → Type 0)
    : Type 0 where
  pub both : HoldsBoth w files
  pub given : ProofsTree
  pub reads : Reading both.core both.file given
  pub so : IsSo both.core given

-- no function is missing, and the definition of this name is the first that mentions a name that isn't defined earlier
pub record HasNoOrder (name : List ℕ) (core : CoreUnitTree) (given : ProofsTree) : Type 0 where
  pub covered : IsCovered core given
  pub misplaced : IsMisplaced given.defines name

-- No function is missing and the definitions are in order, and the entry of this function is the first that isn't derived
-- where calls are counted: this is wrong first, at this place of it.
pub record HasEntryFault (function : List ℕ) (place : EntryPlace) (wrong : ProofText)
    (core : CoreUnitTree) (given : ProofsTree) : Type 0 where
  pub covered : IsCovered core given
  pub in_order : IsInOrder given.defines
  pub lacks : LacksDerivation Calls core given given function place wrong

-- the proofs count the calls, and of the types of main's parameters this is so
pub record HasArguments (IsSo : List Scalar → Type 0) (core : CoreUnitTree) (given : ProofsTree)
    : Type 0 where
  pub covered : IsCovered core given
  pub all : AreAllCounted core given
  pub so : IsSo (main_types core)

-- of the entry of this function it is told that this is wrong at this place of it
abbrev pub IsEntryStatus : (function : List ℕ) → EntryPlace → ProofText → Status → Type 0
IsEntryStatus f place wrong status =
    (spot : Spot) × (place_of spot ≡ place) × (status ≡ Proof (Entry f spot wrong))

-- Each refusal comes exactly where its cause is. A cycle is never told.
pub record RefusesCalls (w : CallsWords) (files : Files) (status : Status) : Type 0 where
  pub source : RefusesSource (files w.source) status
  pub missing : (status ≡ Missing kinds.Derivation) ↔ OfProofFile w files (λ file. file ≡ None)
  pub too_long :
      (status ≡ Source (TooLong kinds.Derivation))
      ↔ OfProofFile w files (λ file. IsTooLong file proof_limit)
  pub text : (fault : TextFault) (pos : Pos)
      → (status ≡ Proof (Text fault pos))
      ↔ OfText w files (λ core file. HasTextFaultAt core (Some file) fault pos)
  pub no_entry : (name : List ℕ)
      → (status ≡ entry_wanted name) ↔ OfProofs w files (λ core given. LacksEntry core given name)
  pub order : (name : List ℕ)
      → (status ≡ Proof (Order name)) ↔ OfProofs w files (HasNoOrder name)
  pub entry : (function : List ℕ) (place : EntryPlace) (wrong : ProofText)
      → IsEntryStatus function place wrong status
      ↔ OfProofs w files (HasEntryFault function place wrong)
  pub count : (parameters : ℕ)
      → (status ≡ Words (ArgCount parameters (length w.args)))
      ↔ OfProofs w files (HasArguments (λ types. CountDiffers types w.args parameters))
  pub argument : (i : ℕ)
      → (status ≡ Words (ArgRange i))
      ↔ OfProofs w files (HasArguments (λ types. IsMisfit types w.args i))
  pub no_cycle : (names : Vec (List ℕ) Global) → status ≡ Proof (Cycle names) → ⊥

-- ---- the promises in plain words

pub record KeepsCalls (w : CallsWords) (before after : DevicesView) (status : Status) : Type 0 where
  -- where it ends well the calls of each run are bounded, and the bound was put
  pub counts : status ≡ Done
      → IsDone (HasCounted w before.store after.store) (streams_of before) (streams_of after) status
  -- each source whose calls are counted has its bound
  pub accepts : NoneFailed tool before after status → IsTrue before.store.told
      → HoldsCounted w before.store.files → status ≡ Done
  -- each refusal comes exactly where its cause is
  pub refuses : NoneFailed tool before after status → IsTrue before.store.told
      → RefusesCalls w before.store.files status

abbrev pub CallsInPlainWords : Type 0
CallsInPlainWords =
    (w : CallsWords) (before after : DevicesView) (status : Status)
    → Promises (order_of w) before after status → KeepsCalls w before after status

-- Where the bound is due, also where a stream fails within it, the calls of each run are bounded.
abbrev pub CountsAreBounds : Type 0
CountsAreBounds =
    (w : CallsWords) (before after : StoreView) (due : Due)
    → Runs (calls w) (file_name (names_of w)) before after due → due.status ≡ Done
    → HasCounted w before after due
