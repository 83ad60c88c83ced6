-- What tests on numbers decide of a status, and the status at a file that is read.
use Rattle.std.proofs.Common.{◌≡◌, ◌∙◌, ℕ, ◌<◌, ◌≤◌, List, length, Bool, true, false, ltb, if◌then◌else◌, Option, ap, inl, inr}
use Rattle.std.proofs.lemmas.Bool.{le-ltb, lt-ltb}
use Rattle.std.proofs.lemmas.Bool.Decides.{leb_tells}
use Rattle.qs_driver_steps.specs.Files.{HoldsContent}
use Rattle.qs_driver_steps.specs.Reading.{FileFault, absent, long, HasFileFault, file_status}
use Rattle.qs_driver_session.specs.FileStatus.{at_file}
use Rattle.qs_driver_session.specs.Statuses.{tool}
use Rattle.qs_driver_session.specs.declared.status.FileKind.{FileKind}
use Rattle.qs_driver_session.specs.declared.status.SourceFault.TheVariants.{TooLong}
use Rattle.qs_driver_session.specs.declared.status.Status.{Status}
use Rattle.qs_driver_session.specs.declared.status.Status.TheVariants.{Source}

pub not_more : (a b : ℕ) → (a < b → ⊥) → b ≤ a
not_more a b h = elim (leb_tells b a) [
  | inl (e, le) ↦ le
  | inr (e, lt) ↦ absurd (h lt)
]

-- the status where the test is known
pub chosen : (b c : Bool) (x y : Status) → b ≡ c → (if b then x else y) ≡ (if c then x else y)
chosen b c x y e = ap (λ k. if k then x else y) e

module _ (kind : FileKind) (limit : ℕ) (at_bytes : List ℕ → Status) (file : Option (List ℕ)) where
  -- where it is there and within the limit, its bytes tell the status
  pub tells_bytes : (bytes : List ℕ) → HoldsContent file limit bytes → at_file kind limit at_bytes file ≡ at_bytes bytes
  tells_bytes bytes h = ap (at_file kind limit at_bytes) h.there ∙ chosen (ltb limit (length bytes)) false (Source (TooLong kind)) (at_bytes bytes) (le-ltb limit (length bytes) h.within)

  -- and else its fault
  pub tells_fault : (f : FileFault) → HasFileFault file limit f → at_file kind limit at_bytes file ≡ file_status tool kind f
  tells_fault absent c = ap (at_file kind limit at_bytes) c
  tells_fault long c = ap (at_file kind limit at_bytes) c.there ∙ chosen (ltb limit (length c.content)) true (Source (TooLong kind)) (at_bytes c.content) (lt-ltb limit (length c.content) c.more)
