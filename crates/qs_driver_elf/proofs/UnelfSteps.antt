-- `unelf` is a good command, and what its code shows.
use Rattle.std.proofs.Common.{◌≡◌, ◌≢◌, ◌∙◌, ℕ, List, [], ◌∷◌, Some, None, Result, Ok, Err, refl, sym, ap, inl, inr, arith}
use Rattle.std.proofs.lemmas.Option.{same_Some}
use Rattle.qs_elf.specs.Faults.{first_fault, Comes}
use Rattle.qs_elf.specs.Parts.{IsElfOf}
use Rattle.qs_elf.specs.declared.fault.ElfFault.{ElfFault}
use Rattle.qs_elf.specs.declared.fault.ElfFault.TheVariants as fault
use Rattle.qs_elf.proofs.ReadingLaws.{passes, none_fails}
use Rattle.qs_ports.specs.SinkView.{SinkView}
use Rattle.qs_ports.specs.StoreView.{StoreView, HasSameCounts, HasFailed}
use Rattle.qs_ports.specs.Whole.{Stores, IsCutShort}
use Rattle.qs_cli.specs.Commands.{UnelfWords}
use Rattle.qs_driver_steps.specs.Devices.{views_of}
use Rattle.qs_driver_steps.specs.Promises.{Answers}
use Rattle.qs_driver_steps.specs.Runs.{Halts, Passes, Passed, finished, unwritable}
use Rattle.qs_driver_steps.proofs.Laws.{IsSound, FindsOne, IsGood, decides}
use Rattle.qs_driver_steps.proofs.ReadingLaws.{reading_sound, reading_one, decided, not_decided, undecided}
use Rattle.qs_driver_steps.proofs.ThenLaws.{is_refused, is_ended}
use Rattle.qs_driver_session.specs.Due.{done, done_or_refused, refusal, EndsDone}
use Rattle.qs_driver_session.specs.Limits.{elf_limit}
use Rattle.qs_driver_session.specs.Names.{file_name}
use Rattle.qs_driver_session.specs.Shared.{naming, reading_file}
use Rattle.qs_driver_session.specs.Status.{elf_status}
use Rattle.qs_driver_session.specs.Statuses.{tool, exactly}
use Rattle.qs_driver_session.specs.declared.status.FileKind.TheVariants as kinds
use Rattle.qs_driver_session.specs.declared.status.Status.{Status}
use Rattle.qs_driver_session.specs.declared.status.Status.TheVariants.{Words, Elf, StoreFailed}
use Rattle.qs_driver_session.specs.declared.status.WordsFault.TheVariants.{SameName}
use Rattle.qs_driver_session.proofs.SharedSteps.{naming_sound, naming_one, own_name, same_name}
use Rattle.qs_driver_elf.specs.Unelf.{names_of, unpacking, unelf_end, unelf, order_of, WritesImage}
use Rattle.qs_driver_elf.proofs.NameLaws.{none_twice, done_put}

-- ---- the executable

pub same_or_none : (bytes : List ℕ) (f : ElfFault) → first_fault bytes ≡ Some f → first_fault bytes ≡ None → ⊥
same_or_none bytes f e n = cc

module _ (bytes : List ℕ) where
  abbrev IsBroken : ElfFault → Type 0
  IsBroken f = first_fault bytes ≡ Some f

  one_fault : (f g : ElfFault) → IsBroken f → IsBroken g → exactly (Elf f) ≡ exactly (Elf g)
  one_fault f g c d = ap (λ (x : ElfFault). exactly (Elf x)) (same_Some f g (sym c ∙ d))

  unpacking_sound : IsSound (unpacking bytes)
  unpacking_sound = decides tool 14 (λ (image : List ℕ). IsElfOf bytes image) IsBroken Elf one_fault (λ f image c h. same_or_none bytes f c (none_fails bytes image h)) (λ f. refl)

  -- an executable has one image
  unpacking_one : FindsOne (unpacking bytes)
  unpacking_one files y z h k = sym (passes bytes y h).same ∙ (passes bytes z k).same

  is_unpacked : (v : StoreView) (image : List ℕ) → IsElfOf bytes image → Passes (unpacking bytes) v v image
  is_unpacked v image h = decided 14 (λ (image : List ℕ). IsElfOf bytes image) IsBroken Elf v image h

  is_broken : (v : StoreView) (f : ElfFault) → IsBroken f → Halts (unpacking bytes) v v (Elf f)
  is_broken v f c = not_decided 14 (λ (image : List ℕ). IsElfOf bytes image) IsBroken Elf v f c

  -- why the code has no image
  stops : (v : StoreView) (f : ElfFault) → Comes bytes f → Halts (unpacking bytes) v v (elf_status f)
  stops v fault.Short c = is_broken v fault.Short (c (λ e. absurd cc))
  stops v (fault.Length n) c = is_broken v (fault.Length n) (c (λ e. absurd cc))
  stops v (fault.Field at) c = is_broken v (fault.Field at) (c (λ e. absurd cc))
  stops v (fault.Image f) c = is_broken v (fault.Image f) (c (λ e. absurd cc))
  stops v (fault.Differs word) c = is_broken v (fault.Differs word) (c (λ e. absurd cc))
  stops v fault.NoMemory c = undecided 14 (λ (image : List ℕ). IsElfOf bytes image) IsBroken Elf v

-- ---- it is good

pub unelf_good : (w : UnelfWords) → IsGood (unelf w)
unelf_good w = record {
  lawful = (
    naming_sound w.out (w.file ∷ []),
    inl (naming_one w.out (w.file ∷ [])),
    (λ u. (
      reading_sound tool 13 kinds.Elf elf_limit w.file refl refl,
      inl (reading_one tool 13 kinds.Elf elf_limit w.file),
      (λ bytes. (unpacking_sound bytes, inl (unpacking_one bytes), (λ image. tt))),
    )),
  );
  ordered = (
    omega arith,
    omega arith,
    (λ u. (omega arith, omega arith, (λ bytes. (omega arith, omega arith, (λ image. (refl, omega arith)))))),
  );
}

-- ---- what the code shows

-- one name is given to both files
pub one_name : (w : UnelfWords) (v : StoreView) → w.file ≡ w.out → WritesImage w v v (Err (Words SameName))
one_name w v e = is_refused (unelf w) (file_name (names_of w)) v v (Words SameName) (inl (same_name w.out (w.file ∷ []) v (inl e)))

module _ (w : UnelfWords) (differ : w.file ≢ w.out) where
  named : (v : StoreView) → Passes (naming w.out (w.file ∷ [])) v v tt
  named v = own_name w.out (w.file ∷ []) v (none_twice w.file w.out differ)

  pub unread : (v u : StoreView) (status : Status) → Halts (reading_file kinds.Elf elf_limit w.file) v u status → WritesImage w v u (Err status)
  unread v u status h = is_refused (unelf w) (file_name (names_of w)) v u status (inr (v, tt, named v, inl h))

  module _ (v u : StoreView) (bytes : List ℕ) (p : Passes (reading_file kinds.Elf elf_limit w.file) v u bytes) where
    -- the bytes are no executable
    pub no_image : (f : ElfFault) → Comes bytes f → WritesImage w v u (Err (elf_status f))
    no_image f c = is_refused (unelf w) (file_name (names_of w)) v u (elf_status f) (inr (v, tt, named v, inr (u, bytes, p, inl (stops bytes u f c))))

    module _ (image : List ℕ) (is : IsElfOf bytes image) where
      all_pass : Passed (unelf w) v u (unelf_end w image)
      all_pass = (v, tt, named v, (u, bytes, p, (u, image, is_unpacked bytes u image is, (refl, refl))))

      pub was_written : (x : StoreView) → Stores u x w.out image × HasSameCounts u x → WritesImage w v x (Ok tt)
      was_written x made = is_ended (unelf w) (file_name (names_of w)) v x u (unelf_end w image) done all_pass (finished made refl)

      pub not_written : (x : StoreView) → HasFailed u x × IsCutShort u x w.out image → WritesImage w v x (Err (StoreFailed kinds.Output))
      not_written x (failed, cut) = is_ended (unelf w) (file_name (names_of w)) v x u (unelf_end w image) (refusal (names_of w) (StoreFailed kinds.Output)) all_pass (unwritable (record { kind = kinds.Output; name = w.out; bytes = image }) refl failed cut refl)

-- ---- what is put after that

pub unelf_answers : (w : UnelfWords) (s s' : StoreView) (o l l' : SinkView) (work : Result Unit Status) (result : Status) → WritesImage w s s' work → EndsDone (names_of w) work l l' result → Answers (order_of w) (views_of s o l) (views_of s' o l') result
unelf_answers w s s' o l l' work result runs h = record { due = done_or_refused (names_of w) work; runs = runs; written = done_put (names_of w) work o l l' result h }
