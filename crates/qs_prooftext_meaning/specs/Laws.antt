-- What is promised of readings.
use Rattle.std.specs.Prelude.{◌≡◌, ◌⊎◌, ℕ, Bool, true, List, Vec, Result, IfOk}
use Rattle.std.specs.declared.alloc.Global.{Global}
use Rattle.qs_callgraph.specs.Opens.{TellsOpen}
use Rattle.qs_core.specs.Fits.{unit_fits}
use Rattle.qs_core.specs.Trees.{CoreUnitTree}
use Rattle.qs_sexpr.specs.Reading as lists
use Rattle.qs_sexpr.specs.Spelling.{ReadsAs}
use Rattle.qs_sexpr.specs.Trees.{Sexps}
use Rattle.qs_triples.specs.Derivations.{ProofsTree}
use Rattle.qs_prooftext_meaning.specs.declared.fault.TextFault.{TextFault}
use Rattle.qs_prooftext_meaning.specs.Proofs.{has_list}
use Rattle.qs_prooftext_meaning.specs.Reading.{Reading, Fault}
use Rattle.qs_prooftext_meaning.specs.Writable.{IsWritable}
use Rattle.qs_prooftext_meaning.specs.Writing.{HasShortNumbers, file_forms, file_text}

-- where the text has lists, its open functions can be told
abbrev pub CanTellOpen : CoreUnitTree → (text : List ℕ) → (is_open : ℕ → Bool) → Type 0
CanTellOpen u text is_open = (file : Sexps) → lists.Reading text file → TellsOpen u (has_list u file) is_open

pub record HasReading (u : CoreUnitTree) (text : List ℕ) : Type 0 where
  pub proofs : ProofsTree
  pub reading : Reading u text proofs

pub record HasFault (u : CoreUnitTree) (text : List ℕ) : Type 0 where
  pub fault : TextFault
  pub is : Fault u text fault

-- where open functions can be told, the text has a reading or a fault
abbrev pub HasMeaning : CoreUnitTree → (text : List ℕ) → Type 0
HasMeaning u text = (is_open : ℕ → Bool) → CanTellOpen u text is_open → HasReading u text ⊎ HasFault u text

abbrev pub AtMostOne : {A : Type 0} → (A → Type 0) → Type 0
AtMostOne {A = A} P = (x y : A) → P x → P y → x ≡ y

abbrev pub NotBoth : CoreUnitTree → (text : List ℕ) → Type 0
NotBoth u text = (proofs : ProofsTree) (fault : TextFault) → Reading u text proofs → Fault u text fault → ⊥

-- the text that is written of proofs reads back to them
abbrev pub LaidReads : CoreUnitTree → ProofsTree → Type 0
LaidReads u proofs =
    unit_fits u ≡ true → HasShortNumbers u → IsWritable u proofs → Reading u (file_text u proofs) proofs

-- so does any other text of their lists
abbrev pub SpelledReads : CoreUnitTree → (text : List ℕ) → Type 0
SpelledReads u text =
    (proofs : ProofsTree) → unit_fits u ≡ true → HasShortNumbers u → IsWritable u proofs
    → ReadsAs text (file_forms u proofs) → Reading u text proofs

-- what the text reads as can be written
abbrev pub ReadIsWritable : CoreUnitTree → (text : List ℕ) → Type 0
ReadIsWritable u text = (proofs : ProofsTree) → unit_fits u ≡ true → Reading u text proofs → IsWritable u proofs

abbrev pub LaysOut : {E : Type 0} → CoreUnitTree → ProofsTree → Result (Vec ℕ Global) E → Type 0
LaysOut u proofs result = IfOk result (λ text. text.items ≡ file_text u proofs)

-- where the proofs can be written, their text reads back to them
abbrev pub ReadsBack : {E : Type 0} → CoreUnitTree → ProofsTree → Result (Vec ℕ Global) E → Type 0
ReadsBack u proofs result = IsWritable u proofs → IfOk result (λ text. Reading u text.items proofs)
