-- What follows of the promises of calls of `elf` and `unelf`.
use Rattle.std.proofs.Common.{◌≡◌, ◌≢◌, ◌∙◌, ℕ, List, [], ◌∷◌, Bool, true, false, if◌then◌else◌, Some, refl, sym, ap, subst, inl, inr}
use Rattle.std.proofs.lemmas.Slice.Eq.{bytes_eq-Decides}
use Rattle.std.specs.Prelude.{bytes_eq}
use Rattle.qs_image.specs.Faults.{HasNoFault}
use Rattle.qs_image.specs.Faults as images
use Rattle.qs_image.specs.declared.fault.ImageFault.{ImageFault}
use Rattle.qs_image.proofs.Images.{reads}
use Rattle.qs_elf.specs.Faults as executables
use Rattle.qs_elf.specs.Parts.{elf_of, IsElfOf}
use Rattle.qs_elf.proofs.Laws.{within}
use Rattle.qs_elf.proofs.ReadingLaws.{passes, none_fails}
use Rattle.qs_ports.specs.StoreView.{StoreView, Files, HasSameCounts}
use Rattle.qs_ports.specs.Whole.{Stores}
use Rattle.qs_cli.specs.Commands.{ElfWords, UnelfWords}
use Rattle.qs_driver_steps.specs.Devices.{DevicesView, streams_of}
use Rattle.qs_driver_steps.specs.Files.{IsUntouched}
use Rattle.qs_driver_steps.specs.Pieces.{ArePut}
use Rattle.qs_driver_steps.specs.Reading.{absent, long, IsOneOf}
use Rattle.qs_driver_steps.specs.Runs.{Passed, IsMade}
use Rattle.qs_driver_steps.specs.Steps.{End, Comes, end_status}
use Rattle.qs_driver_steps.proofs.ReadingLaws.{not_absent, not_long, one_content}
use Rattle.qs_driver_steps.proofs.SharedLaws.{passed_untouched}
use Rattle.qs_driver_session.specs.FileStatus.{at_file}
use Rattle.qs_driver_session.specs.Files.{HoldsWith}
use Rattle.qs_driver_session.specs.Limits.{image_limit, elf_limit}
use Rattle.qs_driver_session.specs.Statuses.{tool, number_of}
use Rattle.qs_driver_session.specs.declared.status.FileKind.TheVariants as kinds
use Rattle.qs_driver_session.specs.declared.status.Status.{Status}
use Rattle.qs_driver_session.specs.declared.status.Status.TheVariants.{Done, Words}
use Rattle.qs_driver_session.specs.declared.status.WordsFault.TheVariants.{SameName}
use Rattle.qs_driver_session.proofs.EndLaws.{has_come}
use Rattle.qs_driver_session.proofs.FileStatusLaws.{chosen, tells_bytes, tells_fault}
use Rattle.qs_driver_session.proofs.FilesLaws.{was_read_as}
use Rattle.qs_driver_session.proofs.LaterLaws.{was_read_before}
use Rattle.qs_driver_elf.specs.Elf as to_elf
use Rattle.qs_driver_elf.specs.Unelf as to_image
use Rattle.qs_driver_elf.specs.Laws.{HasWrittenElf, at_image, status_of_elf, ElfInPlainWords, HasWrittenImage, IsElf, at_executable, status_of_unelf, UnelfInPlainWords, ImagesComeBack}
use Rattle.qs_driver_elf.proofs.NameLaws.{none_twice}
use Rattle.qs_driver_elf.proofs.ElfSteps.{elf_good}
use Rattle.qs_driver_elf.proofs.UnelfSteps.{unelf_good, same_or_none}

-- ---- where the names are the same, or differ

untrue : (b : Bool) → (b ≡ true → ⊥) → b ≡ false
untrue true n = absurd (n refl)
untrue false n = refl

-- the status where the names are known to be the same, or to differ
where_same : (input out : List ℕ) (x y : Status) → IsOneOf out (input ∷ []) → (if bytes_eq input out then x else y) ≡ x
where_same input out x y (inl e) = chosen (bytes_eq input out) true x y ((bytes_eq-Decides input out).1 e)
where_same input out x y (inr never) = absurd never

where_different : (input out : List ℕ) (x y : Status) → (IsOneOf out (input ∷ []) → ⊥) → (if bytes_eq input out then x else y) ≡ y
where_different input out x y n = chosen (bytes_eq input out) false x y (untrue (bytes_eq input out) (λ e. n (inl ((bytes_eq-Decides input out).0 e))))

-- ---- `elf`

elf_written : (w : ElfWords) (v x : DevicesView) (at : StoreView) (end : End tool) → Passed (to_elf.elf w) v.store at end → IsMade end.output at x.store → ArePut end.due.pieces (streams_of v) (streams_of x) → HasWrittenElf w v x
elf_written w v x at end (a, u, n, (b, bytes, r, (c, image, i, (e, is)))) made put =
    let named : IsUntouched v.store a = record { only_reads = n.looks.only_reads; counts = n.counts } in
    let whole : Passed (to_elf.elf w) v.store at end = (a, u, n, (b, bytes, r, (c, image, i, (e, is)))) in
    let stored : Stores at x.store w.out (elf_of bytes) × HasSameCounts at x.store = subst (λ (y : End tool). IsMade y.output at x.store) is made in
    record {
      image = bytes;
      read_as = was_read_before named (was_read_as a w.image image_limit bytes r.finds);
      accepted = (reads bytes image i.finds.so).0;
      written = record {
        read_at = at;
        untouched = passed_untouched (to_elf.elf w) v.store at end whole;
        stores = stored.0;
        silent = subst (λ (y : End tool). ArePut y.due.pieces (streams_of v) (streams_of x)) is put;
      };
    }

image_or_not : (bytes : List ℕ) (f : ImageFault) → images.first_fault bytes ≡ Some f → HasNoFault bytes → ⊥
image_or_not bytes f e n = cc

elf_accepts : (w : ElfWords) (files : Files) (status : Status) → w.image ≢ w.out → HoldsWith (files w.image) image_limit HasNoFault → Comes end_status (to_elf.elf w) files status → status ≡ Done
elf_accepts w files status differ h (inl (f, c, e)) = absurd (none_twice w.image w.out differ c)
elf_accepts w files status differ h (inr (u, n, inl (absent, c, e))) = absurd (not_absent (files w.image) h.content c h.holds.there)
elf_accepts w files status differ h (inr (u, n, inl (long, c, e))) = absurd (not_long (files w.image) image_limit h.content h.holds c)
elf_accepts w files status differ h (inr (u, n, inr (bytes, there, inl (f, c, e)))) =
    let same : h.content ≡ bytes = one_content (files w.image) image_limit h.content bytes h.holds there in
    absurd (image_or_not bytes f c (subst HasNoFault same h.has))
elf_accepts w files status differ h (inr (u, n, inr (bytes, there, inr (image, is, e)))) = e

module _ (w : ElfWords) (files : Files) (status : Status) where
  abbrev elf_of_bytes : List ℕ → Status
  elf_of_bytes bytes = at_image (images.first_fault bytes)

  abbrev elf_of_file : Status
  elf_of_file = at_file kinds.Image image_limit elf_of_bytes (files w.image)

  elf_exactly : Comes end_status (to_elf.elf w) files status → status ≡ status_of_elf files w
  elf_exactly (inl (f, c, e)) = e ∙ sym (where_same w.image w.out (Words SameName) elf_of_file c)
  elf_exactly (inr (u, n, inl (f, c, e))) = e ∙ sym (where_different w.image w.out (Words SameName) elf_of_file n ∙ tells_fault kinds.Image image_limit elf_of_bytes (files w.image) f c)
  elf_exactly (inr (u, n, inr (bytes, there, inl (f, c, e)))) =
      e ∙ sym (where_different w.image w.out (Words SameName) elf_of_file n ∙ tells_bytes kinds.Image image_limit elf_of_bytes (files w.image) bytes there ∙ ap at_image c)
  elf_exactly (inr (u, n, inr (bytes, there, inr (image, is, e)))) =
      e ∙ sym (where_different w.image w.out (Words SameName) elf_of_file n ∙ tells_bytes kinds.Image image_limit elf_of_bytes (files w.image) bytes there ∙ ap at_image (reads bytes image is).0)

pub elf_in_plain_words : ElfInPlainWords
elf_in_plain_words w v x status p = record {
  writes = λ is. (
      let h = has_come (to_elf.order_of w) (elf_good w) v x status (ap number_of is) p.answers in
      elf_written w v x h.ended.passed_at h.ended.end h.ended.passed h.ended.made h.put
      );
  accepts = λ n told differ h. elf_accepts w v.store.files status differ h (p.comes n told);
  exactly = λ n told. elf_exactly w v.store.files status (p.comes n told);
}

-- ---- `unelf`

image_written : (w : UnelfWords) (v x : DevicesView) (at : StoreView) (end : End tool) → Passed (to_image.unelf w) v.store at end → IsMade end.output at x.store → ArePut end.due.pieces (streams_of v) (streams_of x) → HasWrittenImage w v x
image_written w v x at end (a, u, n, (b, bytes, r, (c, image, i, (e, is)))) made put =
    let named : IsUntouched v.store a = record { only_reads = n.looks.only_reads; counts = n.counts } in
    let whole : Passed (to_image.unelf w) v.store at end = (a, u, n, (b, bytes, r, (c, image, i, (e, is)))) in
    let stored : Stores at x.store w.out image × HasSameCounts at x.store = subst (λ (y : End tool). IsMade y.output at x.store) is made in
    record {
      file = bytes;
      read_as = was_read_before named (was_read_as a w.file elf_limit bytes r.finds);
      image = image;
      is_elf = i.finds.so;
      written = record {
        read_at = at;
        untouched = passed_untouched (to_image.unelf w) v.store at end whole;
        stores = stored.0;
        silent = subst (λ (y : End tool). ArePut y.due.pieces (streams_of v) (streams_of x)) is put;
      };
    }

unelf_accepts : (w : UnelfWords) (files : Files) (status : Status) → w.file ≢ w.out → HoldsWith (files w.file) elf_limit IsElf → Comes end_status (to_image.unelf w) files status → status ≡ Done
unelf_accepts w files status differ h (inl (f, c, e)) = absurd (none_twice w.file w.out differ c)
unelf_accepts w files status differ h (inr (u, n, inl (absent, c, e))) = absurd (not_absent (files w.file) h.content c h.holds.there)
unelf_accepts w files status differ h (inr (u, n, inl (long, c, e))) = absurd (not_long (files w.file) elf_limit h.content h.holds c)
unelf_accepts w files status differ h (inr (u, n, inr (bytes, there, inl (f, c, e)))) =
    let same : h.content ≡ bytes = one_content (files w.file) elf_limit h.content bytes h.holds there in
    let has : IsElf bytes = subst IsElf same h.has in
    absurd (same_or_none bytes f c (none_fails bytes has.image has.is_elf))
unelf_accepts w files status differ h (inr (u, n, inr (bytes, there, inr (image, is, e)))) = e

module _ (w : UnelfWords) (files : Files) (status : Status) where
  abbrev unelf_of_bytes : List ℕ → Status
  unelf_of_bytes bytes = at_executable (executables.first_fault bytes)

  abbrev unelf_of_file : Status
  unelf_of_file = at_file kinds.Elf elf_limit unelf_of_bytes (files w.file)

  unelf_exactly : Comes end_status (to_image.unelf w) files status → status ≡ status_of_unelf files w
  unelf_exactly (inl (f, c, e)) = e ∙ sym (where_same w.file w.out (Words SameName) unelf_of_file c)
  unelf_exactly (inr (u, n, inl (f, c, e))) = e ∙ sym (where_different w.file w.out (Words SameName) unelf_of_file n ∙ tells_fault kinds.Elf elf_limit unelf_of_bytes (files w.file) f c)
  unelf_exactly (inr (u, n, inr (bytes, there, inl (f, c, e)))) =
      e ∙ sym (where_different w.file w.out (Words SameName) unelf_of_file n ∙ tells_bytes kinds.Elf elf_limit unelf_of_bytes (files w.file) bytes there ∙ ap at_executable c)
  unelf_exactly (inr (u, n, inr (bytes, there, inr (image, is, e)))) =
      e ∙ sym (where_different w.file w.out (Words SameName) unelf_of_file n ∙ tells_bytes kinds.Elf elf_limit unelf_of_bytes (files w.file) bytes there ∙ ap at_executable (none_fails bytes image is))

pub unelf_in_plain_words : UnelfInPlainWords
unelf_in_plain_words w v x status p = record {
  writes = λ is. (
      let h = has_come (to_image.order_of w) (unelf_good w) v x status (ap number_of is) p.answers in
      image_written w v x h.ended.passed_at h.ended.end h.ended.passed h.ended.made h.put
      );
  accepts = λ n told differ h. unelf_accepts w v.store.files status differ h (p.comes n told);
  exactly = λ n told. unelf_exactly w v.store.files status (p.comes n told);
}

-- ---- one behind the other

pub images_come_back : ImagesComeBack
images_come_back image none = record {
  short = within image none;
  one = λ other is. (
      let own : IsElfOf (elf_of image) image = record { accepted = none; made = refl } in
      sym (passes (elf_of image) other is).same ∙ (passes (elf_of image) image own).same
      );
}
