-- `elf` is a good command, and what its code shows.
use Rattle.std.proofs.Common.{◌≡◌, ◌≢◌, ℕ, List, [], ◌∷◌, Result, Ok, Err, refl, subst, inl, inr, arith}
use Rattle.qs_image.specs.Image.{Image, IsImage}
use Rattle.qs_elf.specs.Parts.{elf_of}
use Rattle.qs_ports.specs.SinkView.{SinkView}
use Rattle.qs_ports.specs.StoreView.{StoreView, HasSameCounts, HasFailed}
use Rattle.qs_ports.specs.Whole.{Stores, IsCutShort}
use Rattle.qs_cli.specs.Commands.{ElfWords}
use Rattle.qs_driver_steps.specs.Devices.{views_of}
use Rattle.qs_driver_steps.specs.Promises.{Answers}
use Rattle.qs_driver_steps.specs.Runs.{Halts, Passes, Passed, finished, unwritable}
use Rattle.qs_driver_steps.proofs.Laws.{IsGood}
use Rattle.qs_driver_steps.proofs.ReadingLaws.{reading_sound, reading_one}
use Rattle.qs_driver_steps.proofs.ThenLaws.{is_refused, is_ended}
use Rattle.qs_driver_session.specs.Due.{done, done_or_refused, refusal, EndsDone}
use Rattle.qs_driver_session.specs.Limits.{image_limit}
use Rattle.qs_driver_session.specs.Names.{file_name}
use Rattle.qs_driver_session.specs.Shared.{naming, reading_file, imaging}
use Rattle.qs_driver_session.specs.Statuses.{tool}
use Rattle.qs_driver_session.specs.declared.status.FileKind.TheVariants as kinds
use Rattle.qs_driver_session.specs.declared.status.Status.{Status}
use Rattle.qs_driver_session.specs.declared.status.Status.TheVariants.{Words, StoreFailed}
use Rattle.qs_driver_session.specs.declared.status.WordsFault.TheVariants.{SameName}
use Rattle.qs_driver_session.proofs.SharedSteps.{naming_sound, naming_one, own_name, same_name, imaging_sound, imaging_one, is_imaged}
use Rattle.qs_driver_elf.specs.Elf.{names_of, elf_end, elf, order_of, WritesElf}
use Rattle.qs_driver_elf.proofs.NameLaws.{none_twice, done_put}

-- ---- it is good

pub elf_good : (w : ElfWords) → IsGood (elf w)
elf_good w = record {
  lawful = (
    naming_sound w.out (w.image ∷ []),
    inl (naming_one w.out (w.image ∷ [])),
    (λ u. (
      reading_sound tool 13 kinds.Image image_limit w.image refl refl,
      inl (reading_one tool 13 kinds.Image image_limit w.image),
      (λ bytes. (imaging_sound bytes, inl (imaging_one bytes), (λ image. tt))),
    )),
  );
  ordered = (
    omega arith,
    omega arith,
    (λ u. (omega arith, omega arith, (λ bytes. (omega arith, omega arith, (λ image. (refl, omega arith)))))),
  );
}

-- ---- what the code shows

-- one name is given to both files
pub one_name : (w : ElfWords) (v : StoreView) → w.image ≡ w.out → WritesElf w v v (Err (Words SameName))
one_name w v e = is_refused (elf w) (file_name (names_of w)) v v (Words SameName) (inl (same_name w.out (w.image ∷ []) v (inl e)))

module _ (w : ElfWords) (differ : w.image ≢ w.out) where
  named : (v : StoreView) → Passes (naming w.out (w.image ∷ [])) v v tt
  named v = own_name w.out (w.image ∷ []) v (none_twice w.image w.out differ)

  pub unread : (v u : StoreView) (status : Status) → Halts (reading_file kinds.Image image_limit w.image) v u status → WritesElf w v u (Err status)
  unread v u status h = is_refused (elf w) (file_name (names_of w)) v u status (inr (v, tt, named v, inl h))

  module _ (v u : StoreView) (bytes : List ℕ) (p : Passes (reading_file kinds.Image image_limit w.image) v u bytes) where
    -- the bytes are no image, or no memory was found for what is made of them
    pub no_executable : (status : Status) → Halts (imaging bytes) u u status → WritesElf w v u (Err status)
    no_executable status h = is_refused (elf w) (file_name (names_of w)) v u status (inr (v, tt, named v, inr (u, bytes, p, inl h)))

    module _ (image : Image) (is : IsImage bytes image) (file : List ℕ) (file_is : file ≡ elf_of bytes) where
      all_pass : Passed (elf w) v u (elf_end w bytes)
      all_pass = (v, tt, named v, (u, bytes, p, (u, image, is_imaged bytes u image is, (refl, refl))))

      pub was_written : (x : StoreView) → Stores u x w.out file × HasSameCounts u x → WritesElf w v x (Ok tt)
      was_written x made =
          let holds : Stores u x w.out (elf_of bytes) × HasSameCounts u x = subst (λ (f : List ℕ). Stores u x w.out f × HasSameCounts u x) file_is made in
          is_ended (elf w) (file_name (names_of w)) v x u (elf_end w bytes) done all_pass (finished holds refl)

      pub not_written : (x : StoreView) → HasFailed u x × IsCutShort u x w.out file → WritesElf w v x (Err (StoreFailed kinds.Output))
      not_written x (failed, cut) =
          let short : IsCutShort u x w.out (elf_of bytes) = subst (λ (f : List ℕ). IsCutShort u x w.out f) file_is cut in
          is_ended (elf w) (file_name (names_of w)) v x u (elf_end w bytes) (refusal (names_of w) (StoreFailed kinds.Output)) all_pass (unwritable (record { kind = kinds.Output; name = w.out; bytes = elf_of bytes }) refl failed short refl)

-- ---- what is put after that

pub elf_answers : (w : ElfWords) (s s' : StoreView) (o l l' : SinkView) (work : Result Unit Status) (result : Status) → WritesElf w s s' work → EndsDone (names_of w) work l l' result → Answers (order_of w) (views_of s o l) (views_of s' o l') result
elf_answers w s s' o l l' work result runs h = record { due = done_or_refused (names_of w) work; runs = runs; written = done_put (names_of w) work o l l' result h }
