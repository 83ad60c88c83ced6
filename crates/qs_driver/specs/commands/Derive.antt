-- `derive`: a derivation for each function of a source without recursion, as a proof file.
use Rattle.std.specs.Prelude.{◌≡◌, ◌≢◌, ◌↔◌, ℕ, ◌<◌, List, length, IsTrue, None, Result, Vec}
use Rattle.std.specs.declared.alloc.Global.{Global}
use Rattle.qs_ports.specs.StoreView.{StoreView, HasSameCounts, HasFailed}
use Rattle.qs_ports.specs.Whole.{Stores, IsCutShort}
use Rattle.qs_triples.specs.Entries.{HasDerivedEntry}
use Rattle.qs_triples.specs.Filled.{Filled}
use Rattle.qs_prooftext_meaning.specs.Proofs.{no_proofs}
use Rattle.qs_prooftext_meaning.specs.Reading.{Reading}
use Rattle.qs_report.specs.declared.fault_texts.Count.{Count}
use Rattle.qs_report.specs.declared.fault_texts.Count.TheVariants.{Derived}
use Rattle.qs_driver_session.specs.Names.{Names, no_names}
use Rattle.qs_driver_session.specs.Due.{Due, IsRefusal}
use Rattle.qs_driver_session.specs.Counts.{counted, counted_or_refused}
use Rattle.qs_driver_steps.specs.Files.{IsUntouched}
use Rattle.qs_driver_session.specs.Source.{IsOfSource}
use Rattle.qs_driver_session.specs.Task.{Task}
use Rattle.qs_driver_session.specs.declared.status.Status.{Status}
use Rattle.qs_driver_session.specs.declared.status.Status.TheVariants.{Done, Words, Proof, StoreFailed, NoMemory}
use Rattle.qs_driver_session.specs.declared.status.ProofFault.TheVariants.{Cycle}
use Rattle.qs_driver_session.specs.declared.status.WordsFault.TheVariants.{SameName}
use Rattle.qs_driver_session.specs.declared.status.FileKind.TheVariants as kinds
use Rattle.qs_driver.specs.Certified.{CertifyWords, certify_words, CertifiedSource, ReadsCertified, LacksCertified, IsRightFile, HoldsRight, RefusesCertified}
use Rattle.qs_driver.specs.declared.commands.derive.DeriveOrder.{DeriveOrder}

-- ---- the words

-- the source, and the file that gets its proofs
pub record DeriveWords : Type 0 where
  pub source : List ℕ
  pub out : List ℕ

abbrev pub derive_words : List ℕ → List ℕ → DeriveWords
derive_words source out = record { source = source; out = out }

-- the words as the code holds them
abbrev pub words_in : DeriveOrder → DeriveWords
words_in order = derive_words order.source.now order.out.now

-- what is certified: the source alone, with no proof file
abbrev pub inputs : DeriveWords → CertifyWords
inputs d = certify_words d.source None

abbrev pub names_of : DeriveWords → Names
names_of d = record no_names { source = d.source; output = d.out }

-- ---- what is due

-- each function has an entry that is derived
abbrev pub AllAreDerived : CertifiedSource → Type 0
AllAreDerived s = (f : ℕ) → f < length s.core.functions → HasDerivedEntry s.core s.proofs f

-- The source was read and is certified, and its proofs are all filled in, none being given: each function has an entry,
-- which is derived. The text reads as these proofs, and is right as a proof file of the source.
pub record HasProofs (d : DeriveWords) (before : StoreView) (s : CertifiedSource) (text : List ℕ)
    : Type 0 where
  pub reads : ReadsCertified (inputs d) before s
  pub filled : Filled s.core no_proofs s.proofs
  pub derived : AllAreDerived s
  pub is_text : Reading s.core text s.proofs
  pub is_right : IsRightFile s.core text

-- The out file holds the proofs of the source; `out` gets how many entries they have.
pub record HasDerived (d : DeriveWords) (before after : StoreView) (due : Due) : Type 0 where
  pub source : CertifiedSource
  pub text : List ℕ
  pub has_proofs : HasProofs d before source text
  pub stores : Stores before after d.out text
  pub counts : HasSameCounts before after
  pub is_due : due ≡ counted (Derived (length source.proofs.functions))

-- A call failed while the proofs were written: the out file holds some first bytes of them, or wasn't made.
pub record CouldNotWrite (d : DeriveWords) (before after : StoreView) : Type 0 where
  pub source : CertifiedSource
  pub text : List ℕ
  pub has_proofs : HasProofs d before source text
  pub part : IsCutShort before after d.out text
  pub failed : HasFailed before after

-- Why there are no proofs, and the status at that.
pub data CannotDerive (d : DeriveWords) (before after : StoreView) (status : Status) : Type 0 where
  not_certified : LacksCertified (inputs d) before after status → CannotDerive d before after status
  unwritable : CouldNotWrite d before after → status ≡ StoreFailed kinds.Output
      → CannotDerive d before after status
  -- no memory was found, before anything was written
  no_memory : IsUntouched before after → status ≡ NoMemory → CannotDerive d before after status

-- What is due to `derive`, and why.
pub data IsDueToDerive (d : DeriveWords) (before after : StoreView) (due : Due) : Type 0 where
  derived : d.source ≢ d.out → HasDerived d before after due → IsDueToDerive d before after due
  named_twice : d.source ≡ d.out → IsUntouched before after
      → IsRefusal (names_of d) (Words SameName) due → IsDueToDerive d before after due
  refused : d.source ≢ d.out → (status : Status) → CannotDerive d before after status
      → IsRefusal (names_of d) status due → IsDueToDerive d before after due

-- ---- what follows

-- The source is there, is well typed and within limits, and is without recursion. Its proofs go into another file.
pub record IsGood (d : DeriveWords) (before : StoreView) : Type 0 where
  pub differ : d.source ≢ d.out
  pub told : IsTrue before.told
  pub right : HoldsRight (inputs d) before.files

-- each good source gets its proofs
abbrev pub Accepts : DeriveWords → StoreView → Status → Type 0
Accepts d before status = IsGood d before → status ≡ Done

-- the statuses with which `derive` ends where no call fails and memory is found
pub data IsOfDerive : Status → Type 0 where
  done : IsOfDerive Done
  one_name : IsOfDerive (Words SameName)
  of_source : {status : Status} → IsOfSource status → IsOfDerive status
  recursive : (functions : Vec (List ℕ) Global) → IsOfDerive (Proof (Cycle functions))

-- Each refusal of `derive` comes exactly where its cause is, and no refusal of another command comes.
pub record Refuses (d : DeriveWords) (before : StoreView) (status : Status) : Type 0 where
  pub own : IsOfDerive status
  pub same_name : (status ≡ Words SameName) ↔ (d.source ≡ d.out)
  pub certified : IsTrue before.told → d.source ≢ d.out
      → RefusesCertified (inputs d) before.files status

abbrev pub derive : DeriveWords → Task
derive d = record { IsDue = IsDueToDerive d; Accepts = Accepts d; Refuses = Refuses d }

-- the task of the words that the code holds
abbrev pub to_do : DeriveOrder → Task
to_do order = derive (words_in order)

-- ---- what the parts of the code answer

-- the answer of `derive_proofs`
abbrev pub Derives : DeriveWords → StoreView → StoreView → Result Count Status → Type 0
Derives d before after work = IsDueToDerive d before after (counted_or_refused (names_of d) work)
