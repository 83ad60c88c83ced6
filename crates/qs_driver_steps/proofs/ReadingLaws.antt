-- The step that reads a file: it is sound, and what its code shows.
use Rattle.std.proofs.Common.{◌≡◌, ℕ, ◌+◌, ◌<◌, ◌≤◌, List, length, take, Option, Some, None, refl, ap, ◌∙◌, arith, IsTrue}
use Rattle.std.proofs.lemmas.Grind.{common_steps}
use Rattle.qs_ports.specs.StoreView.{StoreView, OnlyReads, HasSameCounts, HasMissed, HasFailed}
use Rattle.qs_ports.specs.Whole.{IsWhole, TakesUpTo}
use Rattle.qs_driver_steps.specs.Files.{HoldsContent, IsTooLong}
use Rattle.qs_driver_steps.specs.Reading.{deciding, reading, FileFault, absent, long, HasFileFault, file_status}
use Rattle.qs_driver_steps.specs.Runs.{Looks, Halts, refused, failed, no_memory, Passes}
use Rattle.qs_driver_steps.specs.Statuses.{Statuses}
use Rattle.qs_driver_steps.proofs.Laws.{IsSound, FindsOne}
use Rattle.qs_driver_steps.proofs.StoreLaws.{told_after, untouched, seen, seen_file}

-- ---- a file is in one state

pub not_absent : (file : Option (List ℕ)) (content : List ℕ) → file ≡ None → file ≡ Some content → ⊥
not_absent file content a b = cc

pub same_content : (file : Option (List ℕ)) (a b : List ℕ) → file ≡ Some a → file ≡ Some b → a ≡ b
same_content file a b e f = cc

pub one_content : (file : Option (List ℕ)) (limit : ℕ) (a b : List ℕ) → HoldsContent file limit a → HoldsContent file limit b → a ≡ b
one_content file limit a b h k = same_content file a b h.there k.there

pub not_long : (file : Option (List ℕ)) (limit : ℕ) (content : List ℕ) → HoldsContent file limit content → IsTooLong file limit → ⊥
not_long file limit content h l =
    let e = ap length (same_content file content l.content h.there l.there) in
    let w = h.within in
    let m = l.more in
    omega arith

one_fault : (file : Option (List ℕ)) (limit : ℕ) (f g : FileFault) → HasFileFault file limit f → HasFileFault file limit g → f ≡ g
one_fault file limit absent absent c d = refl
one_fault file limit absent long c d = absurd (not_absent file d.content c d.there)
one_fault file limit long absent c d = absurd (not_absent file c.content d c.there)
one_fault file limit long long c d = refl

no_fault : (file : Option (List ℕ)) (limit : ℕ) (f : FileFault) (text : List ℕ) → HasFileFault file limit f → HoldsContent file limit text → ⊥
no_fault file limit absent text c h = not_absent file text c h.there
no_fault file limit long text c h = not_long file limit text h c

-- ---- the step

module _ (S : Statuses) (number : ℕ) (kind : S.Kind) (limit : ℕ) (name : List ℕ) where
  has_number : S.number (S.missing kind) ≡ number → S.number (S.too_long kind) ≡ number → (f : FileFault) → S.number (file_status S kind f) ≡ number
  has_number m l absent = m
  has_number m l long = l

  pub reading_sound : S.number (S.missing kind) ≡ number → S.number (S.too_long kind) ≡ number → IsSound (reading {S = S} number kind limit name)
  reading_sound m l = record {
    one = λ files f g c d. ap (λ (x : FileFault). S.seen (file_status S kind x)) (one_fault (files name) limit f g c d);
    apart = λ files f y c h. no_fault (files name) limit f y c h;
    numbered = has_number m l;
  }

  pub reading_one : FindsOne (reading {S = S} number kind limit name)
  reading_one files y z h k = one_content (files name) limit y z h k

-- ---- what the code of the step shows

long_content : (limit : ℕ) (content bytes : List ℕ) → bytes ≡ take (limit + 1) content → limit < length bytes → limit < length content
long_content limit content bytes e h = grind (arith, common_steps)

whole_content : (limit : ℕ) (content bytes : List ℕ) → bytes ≡ take (limit + 1) content → length bytes ≤ limit → content ≡ bytes
whole_content limit content bytes e h = grind (arith, common_steps)

module _ (limit : ℕ) (name : List ℕ) (v w : StoreView) (bytes : List ℕ) (h : IsWhole v w name limit bytes) where
  seen_content : length bytes ≤ limit → IsTrue v.told → HoldsContent (v.files name) limit bytes
  seen_content within told =
      let c = h.content (told_after h.only_reads.keeps told) in
      record { there = c.there ∙ ap Some (whole_content limit c.content bytes c.read within); within = within }

  seen_long : limit < length bytes → IsTrue v.told → IsTooLong (v.files name) limit
  seen_long more told =
      let c = h.content (told_after h.only_reads.keeps told) in
      record { content = c.content; there = c.there; more = long_content limit c.content bytes c.read more }

module _ (S : Statuses) (number : ℕ) (kind : S.Kind) (limit : ℕ) (name : List ℕ) (v w : StoreView) where
  pub was_read : (bytes : List ℕ) → IsWhole v w name limit bytes → TakesUpTo w limit → length bytes ≤ limit → Passes (reading {S = S} number kind limit name) v w bytes
  was_read bytes h stops within = record {
    looks = record { only_reads = h.only_reads; within = stops };
    counts = h.counts;
    finds = seen_file v name (Some bytes) (λ (file : Option (List ℕ)). HoldsContent file limit bytes) (seen_content limit name v w bytes h within) (record { there = refl; within = within });
  }

  pub was_long : (bytes : List ℕ) → IsWhole v w name limit bytes → TakesUpTo w limit → limit < length bytes → Halts (reading {S = S} number kind limit name) v w (S.too_long kind)
  was_long bytes h stops more = refused long (record { only_reads = h.only_reads; within = stops }) h.counts (seen_file v name (Some bytes) (λ (file : Option (List ℕ)). IsTooLong file limit) (seen_long limit name v w bytes h more) (record { content = bytes; there = refl; more = more })) refl

  pub was_missed : OnlyReads v w → HasMissed v w → (IsTrue w.told → v.files name ≡ None) → TakesUpTo w limit → Halts (reading {S = S} number kind limit name) v w (S.missing kind)
  was_missed o m gone stops = refused absent (record { only_reads = o; within = stops }) m (seen_file v name None (λ (file : Option (List ℕ)). file ≡ None) (λ told. gone (told_after o.keeps told)) refl) refl

  pub was_unreadable : OnlyReads v w → HasFailed v w → TakesUpTo w limit → Halts (reading {S = S} number kind limit name) v w (S.store_failed kind)
  was_unreadable o f stops = failed (record { kind = kind; limit = limit }) refl (record { only_reads = o; within = stops }) f refl

  pub lacked_memory : OnlyReads v w → HasSameCounts v w → TakesUpTo w limit → Halts (reading {S = S} number kind limit name) v w S.no_memory
  lacked_memory o c stops = no_memory (record { only_reads = o; within = stops }) c refl

-- ---- what the code of a step without a file shows, from one store to the same

module _ {S : Statuses} {Found Fault : Type 0} (number : ℕ) (Finds : Found → Type 0) (Cause : Fault → Type 0) (status : Fault → S.Status) (v : StoreView) where
  stays : Looks (deciding {S = S} number Finds Cause status) v v
  stays = record { only_reads = (untouched v).only_reads; within = tt }

  pub decided : (y : Found) → Finds y → Passes (deciding {S = S} number Finds Cause status) v v y
  decided y h = record { looks = stays; counts = (untouched v).counts; finds = seen v (λ files. Finds y) h }

  pub not_decided : (f : Fault) → Cause f → Halts (deciding {S = S} number Finds Cause status) v v (status f)
  not_decided f c = refused f stays (untouched v).counts (seen v (λ files. Cause f) c) refl

  pub undecided : Halts (deciding {S = S} number Finds Cause status) v v S.no_memory
  undecided = no_memory stays (untouched v).counts refl
