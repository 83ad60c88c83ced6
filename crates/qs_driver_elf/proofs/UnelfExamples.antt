-- What `unelf` comes to by the file that it reads, computed from the definitions.
use Rattle.std.proofs.Common.{◌≡◌, ℕ, false, List, [], ◌∷◌, codes, Option, Some, None, refl, inl, inr, arith}
use Rattle.qs_elf.specs.Faults.{first_fault}
use Rattle.qs_elf.specs.declared.fault.ElfFault.TheVariants as elf_faults
use Rattle.qs_ports.specs.StoreView.{Files}
use Rattle.qs_cli.specs.Commands.{unelf_words}
use Rattle.qs_driver_steps.specs.Reading.{IsOneOf, absent, long}
use Rattle.qs_driver_steps.specs.Steps.{Command, Comes, end_status}
use Rattle.qs_driver_steps.proofs.ReadingLaws.{not_absent}
use Rattle.qs_driver_session.specs.Statuses.{tool}
use Rattle.qs_driver_session.specs.declared.status.FileKind.TheVariants as kinds
use Rattle.qs_driver_session.specs.declared.status.Status.{Status}
use Rattle.qs_driver_session.specs.declared.status.Status.TheVariants.{Done, Words, Missing, Elf as NotAnElf}
use Rattle.qs_driver_session.specs.declared.status.WordsFault.TheVariants.{SameName}
use Rattle.qs_driver_elf.specs.Unelf as to_image
use Rattle.qs_driver_elf.specs.Laws.{status_of_unelf}

-- each name is that of this file, or of none
abbrev holding : Option (List ℕ) → Files
holding file name = file

differ : IsOneOf (codes "b") (codes "a" ∷ []) → ⊥
differ (inl e) = absurd (grind arith)
differ (inr never) = never

abbrev unelf : Command tool
unelf = to_image.unelf (unelf_words (codes "a") (codes "b"))

-- where there is no file, it comes to this and to nothing else
comes_to_missing : Comes end_status unelf (holding None) (Missing kinds.Elf)
comes_to_missing = inr (tt, differ, inl (absent, refl, refl))

only_missing : (other : Status) → Comes end_status unelf (holding None) other → other ≡ Missing kinds.Elf
only_missing other (inl (u, is, e)) = absurd (differ is)
only_missing other (inr (u, n, inl (absent, c, e))) = e
only_missing other (inr (u, n, inl (long, c, e))) = absurd (not_absent None c.content refl c.there)
only_missing other (inr (u, n, inr (bytes, h, rest))) = absurd (not_absent None bytes refl h.there)

-- the out file gets the image, and nothing is put
what_is_written : (image : List ℕ) → to_image.unelf_end (unelf_words (codes "a") (codes "b")) image ≡ record { output = Some (record { kind = kinds.Output; name = codes "b"; bytes = image }); due = record { status = Done; pieces = [] }; late = false }
what_is_written image = refl

-- each line of a fault has the name of its own file
names : ((to_image.order_of (unelf_words (codes "a") (codes "b"))).names kinds.Elf ≡ codes "a") × ((to_image.order_of (unelf_words (codes "a") (codes "b"))).names kinds.Output ≡ codes "b")
names = (refl, refl)

-- the same in plain words
told_same : status_of_unelf (holding None) (unelf_words (codes "a") (codes "a")) ≡ Words SameName
told_same = refl

told_missing : status_of_unelf (holding None) (unelf_words (codes "a") (codes "b")) ≡ Missing kinds.Elf
told_missing = refl

-- an empty file is no executable
told_short : status_of_unelf (holding (Some [])) (unelf_words (codes "a") (codes "b")) ≡ NotAnElf elf_faults.Short
unfolding first_fault
told_short = refl
