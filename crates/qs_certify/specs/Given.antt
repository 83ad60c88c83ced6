-- The proofs that a proof file gives.
use Rattle.std.specs.Prelude.{◌≡◌, ℕ, ◌<◌, ◌^◌, List, length, Option, Some, None}
use Rattle.std.specs.Borrow.{Bor}
use Rattle.qs_core.specs.Trees.{CoreUnitTree}
use Rattle.qs_triples.specs.Derivations.{ProofsTree}
use Rattle.qs_prooftext_meaning.specs.Proofs.{no_proofs}
use Rattle.qs_prooftext_meaning.specs.Reading.{Reading, Fault}
use Rattle.qs_prooftext_meaning.specs.declared.fault.TextFault.{TextFault}
use Rattle.qs_prooftext_meaning.specs.declared.fault.TextFault.TheVariants as texts
use Rattle.qs_certify.specs.declared.fault.CertifyFault.{CertifyFault}
use Rattle.qs_certify.specs.declared.fault.CertifyFault.TheVariants.{NoMemory, Text}

-- the text of the file, if there is one
abbrev pub text_of : Option (Bor (List ℕ)) → Option (List ℕ)
text_of None = None
text_of (Some file) = Some file.now

-- short enough to be read
abbrev pub IsShort : Option (List ℕ) → Type 0
IsShort None = Unit {0}
IsShort (Some text) = length text < 2 ^ 31

-- the proofs as which the file's text reads; without a file there are none
abbrev pub GivenIs : CoreUnitTree → (file : Option (List ℕ)) → ProofsTree → Type 0
GivenIs u None given = given ≡ no_proofs
GivenIs u (Some text) given = Reading u text given

-- the text of the file has this fault first
pub record HasTextFault (u : CoreUnitTree) (file : Option (List ℕ)) (fault : TextFault) : Type 0 where
  pub text : List ℕ
  pub is : file ≡ Some text
  pub first : Fault u text fault

-- want of memory is told apart from the faults of a text
abbrev pub text_told : TextFault → CertifyFault
text_told texts.NoMemory = NoMemory
text_told (texts.BadByte at) = Text (texts.BadByte at)
text_told (texts.Unbalanced at) = Text (texts.Unbalanced at)
text_told (texts.UnknownForm at) = Text (texts.UnknownForm at)
text_told (texts.BadNumber at) = Text (texts.BadNumber at)
text_told (texts.TooDeep at) = Text (texts.TooDeep at)
text_told (texts.Duplicate at) = Text (texts.Duplicate at)
text_told (texts.NoSuchFunction at) = Text (texts.NoSuchFunction at)
