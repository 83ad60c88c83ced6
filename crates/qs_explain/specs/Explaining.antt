-- What the status of an explanation says of the proof file.
use Rattle.std.specs.Prelude.{◌≡◌, ℕ, List, Some}
use Rattle.qs_core.specs.Trees.{CoreUnitTree}
use Rattle.qs_certify.specs.declared.certification.Certified.{Certified}
use Rattle.qs_certify.specs.declared.fault.CertifyFault.{CertifyFault}
use Rattle.qs_certify.specs.Certification.{Certifies, CannotCertify}

-- the unit's proofs in the file are certified
abbrev pub IsAccepted : CoreUnitTree → List ℕ → Type 0
IsAccepted u text = (certified : Certified) × Certifies u (Some text) certified

-- they can't be, and this is the first cause
abbrev pub IsRefused : CoreUnitTree → List ℕ → Type 0
IsRefused u text = (fault : CertifyFault) × CannotCertify u (Some text) fault

-- The status of the tool's `check`.
pub data Agrees (u : CoreUnitTree) (text : List ℕ) (status : ℕ) : Type 0 where
  accepted : IsAccepted u text → status ≡ 0 → Agrees u text status
  refused : IsRefused u text → status ≡ 2 → Agrees u text status
