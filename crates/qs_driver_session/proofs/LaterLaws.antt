-- What happens behind a call that left the files alone.
use Rattle.std.proofs.Common.{◌≡◌, ◌∙◌, ℕ, List, Option, Some, None, subst, inl, inr, arith, IsTrue}
use Rattle.qs_ports.specs.StoreView.{StoreView, Keeps, HasSameCounts, HasMissed, Holds}
use Rattle.qs_ports.specs.Whole.{IsContent, IsCutShort}
use Rattle.qs_ports.proofs.Wholes.{keeps_more, reads_more, counts_more, failed_later}
use Rattle.qs_driver_steps.specs.Files.{IsUntouched}
use Rattle.qs_driver_session.specs.Files.{WasReadAs, CannotRead}
use Rattle.qs_driver_session.specs.Files as files
use Rattle.qs_driver_session.specs.declared.status.FileKind.{FileKind}
use Rattle.qs_driver_session.specs.declared.status.Status.{Status}
use Rattle.qs_driver_session.proofs.FilesLaws.{told_after}

-- ---- reading

pub both_untouched : {u v w : StoreView} → IsUntouched u v → IsUntouched v w → IsUntouched u w
both_untouched f g = record { only_reads = reads_more f.only_reads g.only_reads; counts = counts_more f.counts g.counts }

pub missed_later : {u v w : StoreView} → HasSameCounts u v → HasMissed v w → HasMissed u w
missed_later {u} {v} {w} c m = record {
  rose = simp (c.misses) at m.rose;
  misses = let e = c.misses in let x = m.misses in omega arith;
  faults = m.faults ∙ c.faults;
}

-- what is said of a file behind a call that left the files alone was so before it
pub file_before : {v w : StoreView} (name : List ℕ) (P : Option (List ℕ) → Type 0) → IsUntouched v w → (IsTrue w.told → P (w.files name)) → IsTrue v.told → P (v.files name)
file_before name P u f told = let k = u.only_reads.keeps in let t = told_after k told in (let e = k.files t name in subst P e (f t))

-- what was read behind a call that left the files alone
pub was_read_before : {v w : StoreView} {name content : List ℕ} {limit : ℕ} → IsUntouched v w → WasReadAs w name limit content → WasReadAs v name limit content
was_read_before {name = name} {content = content} u r = record { within = r.within; there = file_before name (λ file. file ≡ Some content) u r.there }

-- a file wasn't read, behind a call that left the files alone
pub unread_later : (u v w : StoreView) (name : List ℕ) (kind : FileKind) (limit : ℕ) (status : Status) → IsUntouched u v → CannotRead v w name kind limit status → CannotRead u w name kind limit status
unread_later u v w name kind limit status f (files.missing m e) = files.missing (record {
  only_reads = reads_more f.only_reads m.only_reads;
  missed = missed_later f.counts m.missed;
  absent = file_before name (λ file. file ≡ None) f m.absent;
}) e
unread_later u v w name kind limit status f (files.unreadable x e) = files.unreadable (record { only_reads = reads_more f.only_reads x.only_reads; failed = failed_later f.counts x.failed }) e
unread_later u v w name kind limit status f (files.too_long l e) = files.too_long (record {
  untouched = both_untouched f l.untouched;
  read = l.read;
  more = l.more;
  is_content = file_before name (λ file. IsContent file limit l.read) f l.is_content;
}) e
unread_later u v w name kind limit status f (files.no_memory x e) = files.no_memory (both_untouched f x) e

-- ---- writing

-- a store that kept its files, and then made one
pub keeps_then_holds : {v u w : StoreView} {name bytes : List ℕ} {m : ℕ} → Keeps v u → Holds u w name bytes m → Holds v w name bytes m
keeps_then_holds {v} {u} {w} {name} {bytes} {m} k h = record {
  was_told = λ t. k.was_told (h.was_told t);
  file = h.file;
  others = λ t n ne. h.others t n ne ∙ k.files (h.was_told t) n;
  tells = λ t le.
      let p = k.tells t (omega arith) in
      let q = h.tells p.0 (omega arith) in
      (q.0, omega arith);
}

pub cut_short : {v u w : StoreView} {name bytes : List ℕ} → Keeps v u → IsCutShort u w name bytes → IsCutShort v w name bytes
cut_short f (inl k) = inl (keeps_more f k)
cut_short f (inr (n, p)) = inr (n, record { within = p.within; stores = keeps_then_holds f p.stores })
