-- What is seen of a store behind calls that left its files alone.
use Rattle.std.proofs.Common.{◌≡◌, ℕ, ◌<◌, List, Bool, true, false, Option, refl, sym, subst, IsTrue, arith}
use Rattle.std.proofs.Math.Path.{fun_ext}
use Rattle.qs_ports.specs.Causes.{Rose}
use Rattle.qs_ports.specs.StoreView.{Files, StoreView, Keeps}
use Rattle.qs_ports.proofs.Wholes.{reads_more, counts_more}
use Rattle.qs_driver_steps.specs.Files.{IsUntouched, StoreHeld, Seen}
use Rattle.qs_driver_steps.specs.Runs.{Counts}

-- what a store tells before it is told after
pub told_after : {v w : StoreView} → Keeps v w → IsTrue v.told → IsTrue w.told
told_after k t = (k.tells t (omega arith)).0

pub same_files : (v w : StoreView) → Keeps v w → IsTrue v.told → w.files ≡ v.files
same_files v w k told = fun_ext (λ n. k.files (told_after k told) n)

pub untouched : (v : StoreView) → IsUntouched v v
untouched v = record {
  only_reads = record { keeps = record { was_told = λ t. t; files = λ t n. refl; tells = λ t h. (t, omega arith) }; writing = refl };
  counts = record { faults = refl; misses = refl };
}

pub both_untouched : {u v w : StoreView} → IsUntouched u v → IsUntouched v w → IsUntouched u w
both_untouched f g = record { only_reads = reads_more f.only_reads g.only_reads; counts = counts_more f.counts g.counts }

-- ---- counts

pub not_risen : (a b : ℕ) → b ≡ a → a < b → ⊥
not_risen a b e h = omega arith

-- a step counts no failure
pub counts_faults : (missed : Bool) (v w : StoreView) → Counts missed v w → w.faults ≡ v.faults
counts_faults true v w h = h.faults
counts_faults false v w h = h.faults

pub held_after : (v u w : StoreView) → u.faults ≡ v.faults → StoreHeld v w → StoreHeld u w
held_after v u w e held rose = held (subst (λ (n : ℕ). Rose n w.faults) e rose)

pub risen_after : (v u w : StoreView) → u.faults ≡ v.faults → v.faults < w.faults → u.faults < w.faults
risen_after v u w e h = subst (λ (n : ℕ). n < w.faults) (sym e) h

-- ---- what is seen

pub seen_so : (v : StoreView) (P : Files → Type 0) → IsTrue v.told → Seen v P → P v.files
seen_so v P told h = subst P (h.are told) h.so

-- what is so of the store's files is seen
pub seen : (v : StoreView) (P : Files → Type 0) → P v.files → Seen v P
seen v P h = record { files = v.files; are = λ t. refl; so = h }

-- a file is seen as it was read: this is so of what was read, and of the store's file, where it tells its files
seen_at : (files : Files) (told : Bool) (name : List ℕ) (file : Option (List ℕ)) (P : Option (List ℕ) → Type 0) → (IsTrue told → P (files name)) → P file → (found : Files) × (IsTrue told → found ≡ files) × P (found name)
seen_at files true name file P there read = (files, (λ t. refl), there refl)
seen_at files false name file P there read = ((λ n. file), (λ t. absurd cc), read)

pub seen_file : (v : StoreView) (name : List ℕ) (file : Option (List ℕ)) (P : Option (List ℕ) → Type 0) → (IsTrue v.told → P (v.files name)) → P file → Seen v (λ files. P (files name))
seen_file v name file P there read =
    let found : (found : Files) × (IsTrue v.told → found ≡ v.files) × P (found name) = seen_at v.files v.told name file P there read in
    record { files = found.0; are = found.1; so = found.2 }
