-- What a call keeps, in plain words, by what its words mean: what was done where it ends well, what is accepted, and where each refusal comes.
use Rattle.std.specs.Prelude.{◌≡◌, ℕ, List, map, IsTrue, Option, Some, None, string_bytes}
use Rattle.std.specs.declared.alloc.Global.{Global}
use Rattle.std.specs.declared.string.String.{String}
use Rattle.qs_cli.specs.Commands.{Command, meaning, Build, Check, Bound, Calls, Derive, Outline, Run, Exec, Sample, Elf, Unelf}
use Rattle.qs_core.specs.Outline as core
use Rattle.qs_core.specs.Trees.{CoreUnitTree}
use Rattle.qs_elaborate_laws.specs.FitLaws.{HasCore}
use Rattle.qs_ports.specs.SinkView.{SinkView}
use Rattle.qs_ports.specs.StoreView.{StoreView}
use Rattle.qs_driver_steps.specs.Devices.{DevicesView, DevicesLeft, streams_of, views, views_left}
use Rattle.qs_driver_steps.specs.Files.{IsUntouched}
use Rattle.qs_driver_steps.specs.Promises.{NoneFailed}
use Rattle.qs_driver_steps.specs.Runs.{Runs}
use Rattle.qs_driver_steps.specs.declared.devices.Devices.{Devices}
use Rattle.qs_driver_session.specs.Counts.{counted}
use Rattle.qs_driver_session.specs.Due.{Due}
use Rattle.qs_driver_session.specs.Names.{file_name}
use Rattle.qs_driver_session.specs.PlainWords.{IsDone, KeepsRun, KeepsUsage}
use Rattle.qs_driver_session.specs.Source.{HoldsText, ReadsText, IsTypedUnit, IsOfSource, RefusesSource}
use Rattle.qs_driver_session.specs.Starting.{run_words}
use Rattle.qs_driver_session.specs.Statuses.{tool}
use Rattle.qs_driver_session.specs.declared.status.Status.{Status}
use Rattle.qs_driver_session.specs.declared.status.Status.TheVariants.{Done}
use Rattle.qs_driver_elf.specs.Laws.{KeepsElf, KeepsUnelf}
use Rattle.qs_driver_calls.specs.Laws.{KeepsCalls}
use Rattle.qs_driver.specs.Asked.{Promises}
use Rattle.qs_driver.specs.Bounds.{IsBounded}
use Rattle.qs_driver.specs.Certified.{CertifyWords, CertifiedSource, certify_words, ReadsCertified, HoldsRight, IsOfCertified, RefusesCertified}
use Rattle.qs_driver.specs.Tool.{task}
use Rattle.qs_driver.specs.commands.Check.{counts_of, check, names_of}
use Rattle.qs_driver.specs.commands.Outline.{OutlineWords, outline_words, printed}

-- ---- `outline`

-- the text is a typed unit, and this is its core, which runs as the unit does
pub record HasCoreUnit (text : List ℕ) (unit : CoreUnitTree) : Type 0 where
  pub typed : IsTypedUnit text
  pub has_core : HasCore typed.unit.trees
  pub is : has_core.core ≡ unit

-- The text that was read as the source's has this core, and no file changed; `out` gets the core's outline.
pub record HasOutline (o : OutlineWords) (before after : StoreView) (due : Due) : Type 0 where
  pub unit : CoreUnitTree
  pub text : ReadsText before o.source (λ text. HasCoreUnit text unit)
  pub untouched : IsUntouched before after
  pub is_due : due ≡ printed (core.outline unit)

-- the statuses with which `outline` ends where no call fails and memory is found
pub data IsOfOutline : Status → Type 0 where
  outline_done : IsOfOutline Done
  of_source : {status : Status} → IsOfSource status → IsOfOutline status

pub record KeepsOutline (o : OutlineWords) (before after : DevicesView) (status : Status)
    : Type 0 where
  -- where it ends well the outline was put
  pub outlines : status ≡ Done
      → IsDone (HasOutline o before.store after.store) (streams_of before) (streams_of after) status
  -- each source that is a typed unit has its outline
  pub accepts : NoneFailed tool before after status → IsTrue before.store.told
      → HoldsText (before.store.files o.source) IsTypedUnit → status ≡ Done
  -- no refusal of another command comes
  pub own : NoneFailed tool before after status → IsOfOutline status
  -- each refusal comes exactly where its cause is
  pub refuses : NoneFailed tool before after status → IsTrue before.store.told
      → RefusesSource (before.store.files o.source) status

-- ---- `check`

-- The source and its proof file come to this, and no file changed: main's entry bounds each run, of the source and of
-- its linear code, for every stack metric. `out` gets the counts.
pub record HasChecked (w : CertifyWords) (before after : StoreView) (due : Due) : Type 0 where
  pub source : CertifiedSource
  pub reads : ReadsCertified w before source
  pub bounded : IsBounded source
  pub untouched : IsUntouched before after
  pub is_due : due ≡ counted (counts_of source)

-- the statuses with which `check` ends where no call fails and memory is found
pub data IsOfCheck : Status → Type 0 where
  check_done : IsOfCheck Done
  of_certified : {status : Status} → IsOfCertified status → IsOfCheck status

pub record KeepsCheck (w : CertifyWords) (before after : DevicesView) (status : Status)
    : Type 0 where
  -- where it ends well each run of the source is bounded, and the counts were put
  pub checks : status ≡ Done
      → IsDone (HasChecked w before.store after.store) (streams_of before) (streams_of after) status
  -- each source whose proofs are right is checked
  pub accepts : NoneFailed tool before after status → IsTrue before.store.told
      → HoldsRight w before.store.files → status ≡ Done
  -- no refusal of another command comes
  pub own : NoneFailed tool before after status → IsOfCheck status
  -- each refusal comes exactly where its cause is
  pub refuses : NoneFailed tool before after status → IsTrue before.store.told
      → RefusesCertified w before.store.files status

-- Where the counts are due, also where a stream fails within them, the source was certified and each of its runs is bounded.
abbrev pub CertifiedAreBounded : Type 0
CertifiedAreBounded =
    (w : CertifyWords) (before after : StoreView) (due : Due)
    → Runs (check w) (file_name (names_of w)) before after due → due.status ≡ Done
    → HasChecked w before after due

-- ---- a row for each command

-- what a call keeps whose words mean this. (The promises of a command that has a task say it themselves.)
abbrev pub Keeps : Option Command → (before after : DevicesView) → Status → Type 0
Keeps None before after status = KeepsUsage before after status
Keeps (Some (Build source proof out)) before after status = Unit {0}
Keeps (Some (Check source proof)) before after status =
    KeepsCheck (certify_words source proof) before after status
Keeps (Some (Bound source proof args)) before after status = Unit {0}
Keeps (Some (Calls words)) before after status = KeepsCalls words before after status
Keeps (Some (Derive source out)) before after status = Unit {0}
Keeps (Some (Outline source)) before after status =
    KeepsOutline (outline_words source) before after status
Keeps (Some (Run image stack args input steps)) before after status =
    KeepsRun (run_words image stack args input steps) before after status
Keeps (Some (Exec source proof args input steps)) before after status = Unit {0}
Keeps (Some (Sample count out)) before after status = Unit {0}
Keeps (Some (Elf words)) before after status = KeepsElf words before after status
Keeps (Some (Unelf words)) before after status = KeepsUnelf words before after status

-- it follows of the promises of each call
abbrev pub PromisesInPlainWords : Type 0
PromisesInPlainWords =
    (words : List (List ℕ)) (before after : DevicesView) (status : Status)
    → Promises (task words) before after status → Keeps (meaning words) before after status

-- what words mean, where the code holds them
abbrev pub meaning_in : List (String Global) → Option Command
meaning_in words = meaning (map string_bytes words)

-- the same of devices that are seen by these views, as the code is handed them and as it leaves them
abbrev pub KeepsOn :
    {S O L : Type 0} → (S → StoreView) → (O → SinkView) → (L → SinkView) → Devices S O L
    → DevicesLeft S O L → Option Command → Status → Type 0
KeepsOn store_view out_view log_view handed left command status =
    Keeps command (views store_view out_view log_view handed)
    (views_left store_view out_view log_view left) status
