-- What `elf` comes to by the file that it reads, computed from the definitions.
use Rattle.std.proofs.Common.{◌≡◌, ◌∙◌, ℕ, ◌<◌, ◌≤◌, false, List, [], ◌∷◌, length, codes, Option, Some, None, refl, ap, subst, inl, inr, arith}
use Rattle.std.proofs.lemmas.Bool.{leb-true}
use Rattle.qs_image.specs.Bytes.{version_of, number, words, records, lengths}
use Rattle.qs_image.specs.Example.{larger}
use Rattle.qs_image.specs.Faults.{HasNoFault, first_fault}
use Rattle.qs_image.specs.Image.{Image, IsImage, image_bytes}
use Rattle.qs_image.specs.declared.fault.ImageFault.{ImageFault}
use Rattle.qs_image.specs.declared.fault.ImageFault.TheVariants as image_faults
use Rattle.qs_image.proofs.Examples.{larger-well_formed}
use Rattle.qs_image.proofs.Images.{reads}
use Rattle.qs_elf.specs.Parts.{elf_of}
use Rattle.qs_ports.specs.StoreView.{Files}
use Rattle.qs_cli.specs.Commands.{elf_words}
use Rattle.qs_driver_steps.specs.Files.{HoldsContent, IsTooLong}
use Rattle.qs_driver_steps.specs.Reading.{IsOneOf, absent, long}
use Rattle.qs_driver_steps.specs.Steps.{Command, Comes, end_status}
use Rattle.qs_driver_steps.proofs.ReadingLaws.{not_absent, not_long, one_content}
use Rattle.qs_driver_session.specs.Limits.{image_limit}
use Rattle.qs_driver_session.specs.Statuses.{tool}
use Rattle.qs_driver_session.specs.declared.status.FileKind.TheVariants as kinds
use Rattle.qs_driver_session.specs.declared.status.SourceFault.TheVariants.{TooLong}
use Rattle.qs_driver_session.specs.declared.status.Status.{Status}
use Rattle.qs_driver_session.specs.declared.status.Status.TheVariants.{Done, Source, Words, Missing, Image as NotAnImage}
use Rattle.qs_driver_session.specs.declared.status.WordsFault.TheVariants.{SameName}
use Rattle.qs_driver_elf.specs.Elf as to_elf
use Rattle.qs_driver_elf.specs.Laws.{status_of_elf}

-- each name is that of this file, or of none
abbrev holding : Option (List ℕ) → Files
holding file name = file

-- it comes to this status, and to no other
record ComesOnlyTo (command : Command tool) (file : Option (List ℕ)) (status : Status) : Type 0 where
  comes : Comes end_status command (holding file) status
  only : (other : Status) → Comes end_status command (holding file) other → other ≡ status

differ : IsOneOf (codes "b") (codes "a" ∷ []) → ⊥
differ (inl e) = absurd (grind arith)
differ (inr never) = never

-- ---- `elf`

abbrev same : Command tool
same = to_elf.elf (elf_words (codes "a") (codes "a"))

abbrev elf : Command tool
elf = to_elf.elf (elf_words (codes "a") (codes "b"))

only_same : (file : Option (List ℕ)) (other : Status) → Comes end_status same (holding file) other → other ≡ Words SameName
only_same file other (inl (u, is, e)) = e
only_same file other (inr (u, n, h)) = absurd (n (inl refl))

one_name : (file : Option (List ℕ)) → ComesOnlyTo same file (Words SameName)
one_name file = record { comes = inl (tt, inl refl, refl); only = only_same file }

only_missing : (other : Status) → Comes end_status elf (holding None) other → other ≡ Missing kinds.Image
only_missing other (inl (u, is, e)) = absurd (differ is)
only_missing other (inr (u, n, inl (absent, c, e))) = e
only_missing other (inr (u, n, inl (long, c, e))) = absurd (not_absent None c.content refl c.there)
only_missing other (inr (u, n, inr (bytes, h, rest))) = absurd (not_absent None bytes refl h.there)

no_image : ComesOnlyTo elf None (Missing kinds.Image)
no_image = record { comes = inr (tt, differ, inl (absent, refl, refl)); only = only_missing }

module _ (content : List ℕ) (more : image_limit < length content) where
  is_long : IsTooLong (Some content) image_limit
  is_long = record { content = content; there = refl; more = more }

  only_long : (other : Status) → Comes end_status elf (holding (Some content)) other → other ≡ Source (TooLong kinds.Image)
  only_long other (inl (u, is, e)) = absurd (differ is)
  only_long other (inr (u, n, inl (absent, c, e))) = absurd (not_absent (Some content) content c refl)
  only_long other (inr (u, n, inl (long, c, e))) = e
  only_long other (inr (u, n, inr (bytes, h, rest))) = absurd (not_long (Some content) image_limit bytes h is_long)

  too_many_bytes : ComesOnlyTo elf (Some content) (Source (TooLong kinds.Image))
  too_many_bytes = record { comes = inr (tt, differ, inl (long, is_long, refl)); only = only_long }

-- within the limit, what the tests of an image say decides
module _ (content : List ℕ) (within : length content ≤ image_limit) where
  held : HoldsContent (Some content) image_limit content
  held = record { there = refl; within = within }

  same_fault : (f g : ImageFault) → first_fault content ≡ Some f → first_fault content ≡ Some g → g ≡ f
  same_fault f g e h = cc

  no_fault : (f : ImageFault) → first_fault content ≡ None → first_fault content ≡ Some f → ⊥
  no_fault f e h = cc

  only_fault : (f : ImageFault) → first_fault content ≡ Some f → (other : Status) → Comes end_status elf (holding (Some content)) other → other ≡ NotAnImage f
  only_fault f is other (inl (u, same, e)) = absurd (differ same)
  only_fault f is other (inr (u, n, inl (absent, c, e))) = absurd (not_absent (Some content) content c refl)
  only_fault f is other (inr (u, n, inl (long, c, e))) = absurd (not_long (Some content) image_limit content held c)
  only_fault f is other (inr (u, n, inr (bytes, h, inl (g, c, e)))) =
      e ∙ ap NotAnImage (same_fault f g is (subst (λ (b : List ℕ). first_fault b ≡ Some g) (one_content (Some content) image_limit bytes content h held) c))
  only_fault f is other (inr (u, n, inr (bytes, h, inr (image, i, e)))) =
      absurd (no_fault f (reads content image (subst (λ (b : List ℕ). IsImage b image) (one_content (Some content) image_limit bytes content h held) i)).0 is)

  of_fault : (f : ImageFault) → first_fault content ≡ Some f → ComesOnlyTo elf (Some content) (NotAnImage f)
  of_fault f is = record { comes = inr (tt, differ, inr (content, held, inl (f, is, refl))); only = only_fault f is }

  only_done : HasNoFault content → (other : Status) → Comes end_status elf (holding (Some content)) other → other ≡ Done
  only_done none other (inl (u, same, e)) = absurd (differ same)
  only_done none other (inr (u, n, inl (absent, c, e))) = absurd (not_absent (Some content) content c refl)
  only_done none other (inr (u, n, inl (long, c, e))) = absurd (not_long (Some content) image_limit content held c)
  only_done none other (inr (u, n, inr (bytes, h, inl (g, c, e)))) =
      absurd (no_fault g none (subst (λ (b : List ℕ). first_fault b ≡ Some g) (one_content (Some content) image_limit bytes content h held) c))
  only_done none other (inr (u, n, inr (bytes, h, inr (image, i, e)))) = e

  of_image : (image : Image) → IsImage content image → ComesOnlyTo elf (Some content) Done
  of_image image is = record { comes = inr (tt, differ, inr (content, held, inr (image, is, refl))); only = only_done (reads content image is).0 }

-- an empty file is none
is_short : first_fault [] ≡ Some image_faults.Short
unfolding first_fault version_of number words records lengths
is_short = refl

no_bytes : ComesOnlyTo elf (Some []) (NotAnImage image_faults.Short)
no_bytes = of_fault [] (omega arith) image_faults.Short is_short

an_image : ComesOnlyTo elf (Some (image_bytes larger)) Done
an_image = of_image (image_bytes larger) (leb-true (length (image_bytes larger)) image_limit refl) larger (record { read = refl; well_formed = larger-well_formed })

-- the out file gets the executable, and nothing is put
what_is_written : (bytes : List ℕ) → to_elf.elf_end (elf_words (codes "a") (codes "b")) bytes ≡ record { output = Some (record { kind = kinds.Output; name = codes "b"; bytes = elf_of bytes }); due = record { status = Done; pieces = [] }; late = false }
what_is_written bytes = refl

-- each line of a fault has the name of its own file
names : (to_elf.order_of (elf_words (codes "a") (codes "b"))).names kinds.Image ≡ codes "a"
names = refl

out_name : (to_elf.order_of (elf_words (codes "a") (codes "b"))).names kinds.Output ≡ codes "b"
out_name = refl

-- the same in plain words
told_same : status_of_elf (holding None) (elf_words (codes "a") (codes "a")) ≡ Words SameName
told_same = refl

told_missing : status_of_elf (holding None) (elf_words (codes "a") (codes "b")) ≡ Missing kinds.Image
told_missing = refl

told_short : status_of_elf (holding (Some [])) (elf_words (codes "a") (codes "b")) ≡ NotAnImage image_faults.Short
unfolding first_fault version_of number words records lengths
told_short = refl
