-- What follows of the runs of a command: each law by one induction over its steps.
use Rattle.std.proofs.Common.{◌≡◌, ◌≢◌, ◌∙◌, ℕ, ◌+◌, ◌<◌, ap, subst, sym, inl, inr, arith, IsTrue}
use Rattle.std.specs.Prelude.{Option, Some, None}
use Rattle.qs_ports.specs.StoreView.{Files, StoreView}
use Rattle.qs_driver_steps.specs.Due.{Due}
use Rattle.qs_driver_steps.specs.Files.{StoreHeld}
use Rattle.qs_driver_steps.specs.Runs.{Halts, refused, failed, no_memory, Halted, Passed, IsMade, Finishes, finished, unwritable, lacks_memory, lacks_memory_late, Runs}
use Rattle.qs_driver_steps.specs.Statuses.{Statuses, Names, IsRefusal}
use Rattle.qs_driver_steps.specs.Steps.{Step, Steps, gives, first, FileToWrite, End, Command, Comes, Stops, Ends, IsRefused, IsOf, end_status}
use Rattle.qs_driver_steps.proofs.Laws.{IsLawful, IsFrom}
use Rattle.qs_driver_steps.proofs.StepsLaws.{one_status, stops_come, ends_come, come_to_end, comes_stops}
use Rattle.qs_driver_steps.proofs.StoreLaws.{told_after, same_files, not_risen, counts_faults, held_after, risen_after, seen_so}

-- ---- one step

module _ {S : Statuses} (s : Step S) where
  halted : (v w : StoreView) (status : S.Status) → IsTrue v.told → StoreHeld v w → status ≢ S.no_memory → Halts s v w status → (f : s.Fault) × s.Cause v.files f × (status ≡ s.status f)
  halted v w status told held m (refused f l c h e) = (f, seen_so v (λ files. s.Cause files f) told h, e)
  halted v w status told held m (failed file e l x is) = absurd (held x.rose)
  halted v w status told held m (no_memory l c e) = absurd (m e)

  -- of the files that were seen it has this fault
  halted_own : (v w : StoreView) (status : S.Status) → StoreHeld v w → status ≢ S.no_memory → Halts s v w status → (f : s.Fault) × ((files : Files) × s.Cause files f) × (status ≡ s.status f)
  halted_own v w status held m (refused f l c h e) = (f, (h.files, h.so), e)
  halted_own v w status held m (failed file e l x is) = absurd (held x.rose)
  halted_own v w status held m (no_memory l c e) = absurd (m e)

  halted_shows : (v w : StoreView) (status : S.Status) → v.faults < w.faults → Halts s v w status → (kind : S.Kind) × (status ≡ S.store_failed kind)
  halted_shows v w status h (refused f l c x e) = absurd (not_risen _ _ (counts_faults (s.misses f) v w c) h)
  halted_shows v w status h (failed file e l x is) = (file.kind, is)
  halted_shows v w status h (no_memory l c e) = absurd (not_risen _ _ c.faults h)

-- ---- several

module _ {S : Statuses} {A : Type 0} (of : A → S.Status) where
  pub halted_comes : (c : Steps S A) (v w : StoreView) (status : S.Status) → IsTrue v.told → StoreHeld v w → status ≢ S.no_memory → Halted c v w status → Comes of c v.files status
  halted_comes (gives a) v w status told held m h = absurd h
  halted_comes (first s rest) v w status told held m (inl h) = inl (halted s v w status told held m h)
  halted_comes (first s rest) v w status told held m (inr (u, y, p, r)) =
      let keeps = p.looks.only_reads.keeps in
      inr (y, seen_so v (λ files. s.Finds files y) told p.finds, subst (λ (files : Files). Comes of (rest y) files status) (same_files v u keeps told) (halted_comes (rest y) u w status (told_after keeps told) (held_after v u w p.counts.faults held) m r))

  pub passed_comes : (c : Steps S A) (v w : StoreView) (a : A) → IsTrue v.told → Passed c v w a → Comes of c v.files (of a)
  passed_comes (gives b) v w a told (e, q) = ap of q
  passed_comes (first s rest) v w a told (u, y, p, r) =
      let keeps = p.looks.only_reads.keeps in
      inr (y, seen_so v (λ files. s.Finds files y) told p.finds, subst (λ (files : Files). Comes of (rest y) files (of a)) (same_files v u keeps told) (passed_comes (rest y) u w a (told_after keeps told) r))

  pub halted_is_own : (c : Steps S A) (v w : StoreView) (status : S.Status) → StoreHeld v w → status ≢ S.no_memory → Halted c v w status → IsOf of c status
  halted_is_own (gives a) v w status held m h = absurd h
  halted_is_own (first s rest) v w status held m (inl h) = inl (halted_own s v w status held m h)
  halted_is_own (first s rest) v w status held m (inr (u, y, p, r)) = inr (y, (p.finds.files, p.finds.so), halted_is_own (rest y) u w status (held_after v u w p.counts.faults held) m r)

  pub passed_is_own : (c : Steps S A) (v w : StoreView) (a : A) → Passed c v w a → IsOf of c (of a)
  passed_is_own (gives b) v w a (e, q) = ap of q
  passed_is_own (first s rest) v w a (u, y, p, r) = inr (y, (p.finds.files, p.finds.so), passed_is_own (rest y) u w a r)

module _ {S : Statuses} {A : Type 0} where
  -- steps that pass count no failure
  pub passed_faults : (c : Steps S A) (v w : StoreView) (a : A) → Passed c v w a → w.faults ≡ v.faults
  passed_faults (gives b) v w a (e, q) = ap (λ (x : StoreView). x.faults) e
  passed_faults (first s rest) v w a (u, y, p, r) = passed_faults (rest y) u w a r ∙ p.counts.faults

  pub halted_tells : (c : Steps S A) (v w : StoreView) (status : S.Status) → v.faults < w.faults → Halted c v w status → (kind : S.Kind) × (status ≡ S.store_failed kind)
  halted_tells (gives a) v w status h x = absurd x
  halted_tells (first s rest) v w status h (inl x) = halted_shows s v w status h x
  halted_tells (first s rest) v w status h (inr (u, y, p, r)) = halted_tells (rest y) u w status (risen_after v u w p.counts.faults h) r

-- ---- the end

module _ {S : Statuses} where
  status_is : (a b : Due S) → a ≡ b → a.status ≡ b.status
  status_is a b e = ap (λ (d : Due S). d.status) e

  made_faults : (output : Option (FileToWrite S)) (v w : StoreView) → IsMade output v w → w.faults ≡ v.faults
  made_faults None v w h = h.counts.faults
  made_faults (Some file) v w h = h.1.faults

  finish_status : (names : Names S) (e : End S) (v w : StoreView) (due : Due S) → StoreHeld v w → due.status ≢ S.no_memory → Finishes names e v w due → due.status ≡ end_status e
  finish_status names e v w due held m (finished x is) = status_is due e.due is
  finish_status names e v w due held m (unwritable file x f cut is) = absurd (held f.rose)
  finish_status names e v w due held m (lacks_memory u is) = absurd (m (status_is due _ is))
  finish_status names e v w due held m (lacks_memory_late late x is) = absurd (m (status_is due _ is))

  finish_shows : (names : Names S) (e : End S) (v w : StoreView) (due : Due S) → v.faults < w.faults → Finishes names e v w due → (kind : S.Kind) × (due.status ≡ S.store_failed kind)
  finish_shows names e v w due h (finished x is) = absurd (not_risen _ _ (made_faults e.output v w x) h)
  finish_shows names e v w due h (unwritable file x f cut is) = (file.kind, status_is due _ is)
  finish_shows names e v w due h (lacks_memory u is) = absurd (not_risen _ _ u.counts.faults h)
  finish_shows names e v w due h (lacks_memory_late late x is) = absurd (not_risen _ _ (made_faults e.output v w x) h)

-- ---- the theorems

module _ {S : Statuses} (c : Command S) (names : Names S) (v w : StoreView) (due : Due S) where
  held_from : (u : StoreView) (e : End S) → Passed c v u e → StoreHeld v w → StoreHeld u w
  held_from u e p held = held_after v u w (passed_faults c v u e p) held

  -- a run that no device broke off comes to the status to which the command comes by the files
  pub run_comes : IsTrue v.told → StoreHeld v w → due.status ≢ S.no_memory → Runs c names v w due → Comes end_status c v.files due.status
  run_comes told held m (inl (status, h, is)) =
      let same : due.status ≡ status = status_is due _ is in
      subst (λ (x : S.Status). Comes end_status c v.files x) (sym same) (halted_comes end_status c v w status told held (λ n. m (same ∙ n)) h)
  run_comes told held m (inr (e, u, p, f)) =
      subst (λ (x : S.Status). Comes end_status c v.files x) (sym (finish_status names e u w due (held_from u e p held) m f)) (passed_comes end_status c v u e told p)

  -- no status of another command or step comes
  pub run_own : StoreHeld v w → due.status ≢ S.no_memory → Runs c names v w due → IsOf end_status c due.status
  run_own held m (inl (status, h, is)) =
      let same : due.status ≡ status = status_is due _ is in
      subst (λ (x : S.Status). IsOf end_status c x) (sym same) (halted_is_own end_status c v w status held (λ n. m (same ∙ n)) h)
  run_own held m (inr (e, u, p, f)) =
      subst (λ (x : S.Status). IsOf end_status c x) (sym (finish_status names e u w due (held_from u e p held) m f)) (passed_is_own end_status c v u e p)

  -- each refusal comes exactly where the steps before pass and its step has its cause
  pub run_exact : (k : ℕ) → IsLawful end_status c → IsFrom end_status c k → IsTrue v.told → StoreHeld v w → due.status ≢ S.no_memory → Runs c names v w due → (r : S.Status) → IsRefusal S r → (due.status ≡ r → Stops c (S.number r) v.files r) × (Stops c (S.number r) v.files r → S.seen due.status ≡ S.seen r)
  run_exact k l o told held m runs r refusal =
      let comes : Comes end_status c v.files due.status = run_comes told held m runs in
      ((λ e. comes_stops end_status c k l o v.files r refusal (subst (λ (x : S.Status). Comes end_status c v.files x) e comes)), (λ h. one_status end_status c l v.files due.status r comes (stops_come end_status c (S.number r) v.files r h)))

  -- where no step refuses it ends as what the steps find
  pub run_ends : IsTrue v.told → StoreHeld v w → due.status ≢ S.no_memory → Runs c names v w due → (IsRefused c v.files → ⊥) → Ends end_status c v.files due.status
  run_ends told held m runs never = come_to_end end_status c v.files due.status (run_comes told held m runs) never

  -- where all steps pass it ends with the status of its end
  pub run_accepts : IsLawful end_status c → IsTrue v.told → StoreHeld v w → due.status ≢ S.no_memory → Runs c names v w due → (r : S.Status) → Ends end_status c v.files r → S.seen due.status ≡ S.seen r
  run_accepts l told held m runs r h = one_status end_status c l v.files due.status r (run_comes told held m runs) (ends_come end_status c v.files r h)

  -- a failure of the store isn't hidden
  pub run_shows : v.faults < w.faults → Runs c names v w due → (kind : S.Kind) × (due.status ≡ S.store_failed kind)
  run_shows h (inl (status, x, is)) = subst (λ (x : S.Status). (kind : S.Kind) × (x ≡ S.store_failed kind)) (sym (status_is due _ is)) (halted_tells c v w status h x)
  run_shows h (inr (e, u, p, f)) = finish_shows names e u w due (risen_after v u w (passed_faults c v u e p) h) f

-- ---- a status of no refusal

not_below : (a b : ℕ) → a ≡ b → a < b → ⊥
not_below a b e h = omega arith

-- the statuses of a store that failed and of memory are no ends
pub record AreNoEnds (S : Statuses) : Type 0 where
  pub store : (kind : S.Kind) → IsRefusal S (S.store_failed kind)
  pub memory : IsRefusal S S.no_memory

-- the end was reached, its file was made, and this is due then
pub record HasEnded {S : Statuses} (c : Command S) (v w : StoreView) (due : Due S) : Type 0 where
  pub end : End S
  pub passed_at : StoreView
  pub passed : Passed c v passed_at end
  pub made : IsMade end.output passed_at w
  pub is_due : due ≡ end.due

module _ {S : Statuses} (none : AreNoEnds S) where
  -- steps that stop refuse
  pub halted_refuses : {A : Type 0} (of : A → S.Status) (c : Steps S A) (k : ℕ) → IsLawful of c → IsFrom of c k → (v w : StoreView) (status : S.Status) → Halted c v w status → IsRefusal S status
  halted_refuses of (gives a) k l o v w status h = absurd h
  halted_refuses of (first s rest) k l o v w status (inl (refused f x n c e)) = subst (λ (n : ℕ). n < S.last) (sym (ap S.number e ∙ l.0.numbered f)) o.1
  halted_refuses of (first s rest) k l o v w status (inl (failed file is x f e)) = subst (IsRefusal S) (sym e) (none.store file.kind)
  halted_refuses of (first s rest) k l o v w status (inl (no_memory x n e)) = subst (IsRefusal S) (sym e) none.memory
  halted_refuses of (first s rest) k l o v w status (inr (u, y, p, h)) = halted_refuses of (rest y) (s.number + 1) (l.2 y) (o.2 y) u w status h

  refuses_not : (status : S.Status) (due : Due S) → S.number due.status ≡ S.last → due.status ≡ status → IsRefusal S status → ⊥
  refuses_not status due last e refusal = not_below (S.number status) S.last (sym (ap S.number e) ∙ last) refusal

  finished_end : (c : Command S) (names : Names S) (v u w : StoreView) (e : End S) (due : Due S) → S.number due.status ≡ S.last → Passed c v u e → Finishes names e u w due → HasEnded c v w due
  finished_end c names v u w e due last p (finished made is) = record { end = e; passed_at = u; passed = p; made = made; is_due = is }
  finished_end c names v u w e due last p (unwritable file x f cut is) = absurd (refuses_not (S.store_failed file.kind) due last (status_is due _ is) (none.store file.kind))
  finished_end c names v u w e due last p (lacks_memory x is) = absurd (refuses_not S.no_memory due last (status_is due _ is) none.memory)
  finished_end c names v u w e due last p (lacks_memory_late late x is) = absurd (refuses_not S.no_memory due last (status_is due _ is) none.memory)

  -- where the status is none of a refusal the end was reached
  pub has_ended : (c : Command S) (k : ℕ) → IsLawful end_status c → IsFrom end_status c k → (names : Names S) (v w : StoreView) (due : Due S) → Runs c names v w due → S.number due.status ≡ S.last → HasEnded c v w due
  has_ended c k l o names v w due (inl (status, h, is)) last = absurd (refuses_not status due last (status_is due _ is) (halted_refuses end_status c k l o v w status h))
  has_ended c k l o names v w due (inr (e, u, p, f)) last = finished_end c names v u w e due last p f
