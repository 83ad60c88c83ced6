-- What is so of shared steps by the files is so of each command that begins with them.
use Rattle.std.proofs.Common.{◌≡◌, ◌⊎◌, ◌∙◌, ℕ, ◌+◌, ◌<◌, ◌≤◌, Bool, true, false, refl, sym, subst, inl, inr, arith, IsTrue}
use Rattle.std.specs.Prelude.{◌==◌}
use Rattle.std.proofs.lemmas.Bool.Decides.{nat_tests}
use Rattle.qs_ports.specs.StoreView.{Files, StoreView, OnlyReads}
use Rattle.qs_ports.proofs.Wholes.{reads_more}
use Rattle.qs_driver_steps.specs.Files.{IsUntouched}
use Rattle.qs_driver_steps.specs.Runs.{Halts, refused, failed, no_memory, Halted, Passed}
use Rattle.qs_driver_steps.specs.Statuses.{Statuses}
use Rattle.qs_driver_steps.specs.Promises.{IsExact}
use Rattle.qs_driver_steps.specs.Steps.{Step, Steps, gives, first, then, Command, Comes, ByTest, Stops, IsRefused, Ends}
use Rattle.qs_driver_steps.proofs.Laws.{IsSound, FindsOne, IsSingle, IsWithin, StandFrom, IsFrom}
use Rattle.qs_driver_steps.proofs.StoreLaws.{told_after, same_files, seen_so, untouched, both_untouched}

-- ---- by the files: what the steps give

-- all steps pass, and they give this
abbrev pub Leads : {S : Statuses} {A : Type 0} → Steps S A → Files → A → Type 0
Leads (gives a) files found = found ≡ a
Leads (first s rest) files found = (y : s.Found) × s.Finds files y × Leads (rest y) files found

module _ {S : Statuses} {A : Type 0} where
  -- steps that find one value each give one
  pub leads_one : (c : Steps S A) → IsSingle c → (files : Files) (a b : A) → Leads c files a → Leads c files b → a ≡ b
  leads_one (gives x) h files a b p q = p ∙ sym q
  leads_one (first s rest) h files a b (y, f, p) (z, g, q) =
      let there : Leads (rest z) files a = subst (λ (x : s.Found). Leads (rest x) files a) (h.1 files y z f g) p in
      leads_one (rest z) (h.2 z) files a b there q

  -- what they give, and that one refuses, exclude each other
  pub leads_unrefused : (c : Steps S A) → IsSingle c → (files : Files) (a : A) → Leads c files a → IsRefused c files → ⊥
  leads_unrefused (gives x) h files a p r = r
  leads_unrefused (first s rest) h files a (y, f, p) (inl (g, c)) = h.0.apart files g y c f
  leads_unrefused (first s rest) h files a (y, f, p) (inr (z, g, r)) =
      let there : Leads (rest z) files a = subst (λ (x : s.Found). Leads (rest x) files a) (h.1 files y z f g) p in
      leads_unrefused (rest z) (h.2 z) files a there r

  -- steps that passed from a store that tells its files give this by them
  pub passed_leads : (c : Steps S A) (v w : StoreView) (a : A) → IsTrue v.told → Passed c v w a → Leads c v.files a
  passed_leads (gives x) v w a told (e, q) = q
  passed_leads (first s rest) v w a told (u, y, p, h) =
      let keeps = p.looks.only_reads.keeps in
      (y, seen_so v (λ files. s.Finds files y) told p.finds, subst (λ (files : Files). Leads (rest y) files a) (same_files v u keeps told) (passed_leads (rest y) u w a (told_after keeps told) h))

-- ---- one of the shared steps refuses, or one after them

not_this : (a b c : ℕ) → a < b → b ≤ c → (c == a) ≡ false
not_this a b c h k = grind (arith, nat_tests)

above_this : (a b c : ℕ) → a < b → b ≤ c → (a == c) ≡ false
above_this a b c h k = grind (arith, nat_tests)

equal_below : (a b : ℕ) → (a == b) ≡ true → b < a + 1
equal_below a b h = grind (arith, nat_tests)

by_test : {A B C D : Type 0} (b : Bool) → (A → C) → (B → D) → ByTest b A B → ByTest b C D
by_test true f g h = f h
by_test false f g h = g h

by_false : (A B : Type 0) (b : Bool) → b ≡ false → ByTest b A B → B
by_false A B true e h = absurd cc
by_false A B false e h = h

-- a step from this number on isn't one before it
pub stops_never : {S : Statuses} {B : Type 0} (d : Steps S B) (number m : ℕ) → number < m → StandFrom d m → (files : Files) (r : S.Status) → Stops d number files r → ⊥
stops_never (gives b) number m lt w files r h = h
stops_never (first s rest) number m lt w files r h =
    let later = by_false _ _ (s.number == number) (not_this number m s.number lt w.0) h in
    stops_never (rest later.0) number m lt (w.1 later.0) files r later.2

module _ {S : Statuses} {A B : Type 0} (next : A → Steps S B) where
  -- a refusal with the number of a shared step is that of the shared steps
  pub stops_shared : (c : Steps S A) (number m : ℕ) → number < m → ((a : A) → StandFrom (next a) m) → (files : Files) (r : S.Status) → Stops (then c next) number files r → Stops c number files r
  stops_shared (gives a) number m lt w files r h = absurd (stops_never (next a) number m lt (w a) files r h)
  stops_shared (first s rest) number m lt w files r h = by_test (s.number == number) (λ here. here) (λ later. (later.0, later.1, stops_shared (rest later.0) number m lt w files r later.2)) h

  pub shared_stops : (c : Steps S A) (number : ℕ) (files : Files) (r : S.Status) → Stops c number files r → Stops (then c next) number files r
  shared_stops (gives a) number files r h = absurd h
  shared_stops (first s rest) number files r h = by_test (s.number == number) (λ here. here) (λ later. (later.0, later.1, shared_stops (rest later.0) number files r later.2)) h

  -- a refusal with a later number comes where the shared steps pass and one of those after them refuses
  pub stops_later : (c : Steps S A) (number k m : ℕ) → m ≤ number → IsWithin c k m → (files : Files) (r : S.Status) → Stops (then c next) number files r → (a : A) × Leads c files a × Stops (next a) number files r
  stops_later (gives a) number k m le w files r h = (a, refl, h)
  stops_later (first s rest) number k m le w files r h =
      let later = by_false _ _ (s.number == number) (above_this s.number m number w.1 le) h in
      let there = stops_later (rest later.0) number (s.number + 1) m le (w.2 later.0) files r later.2 in
      (there.0, (later.0, later.1, there.1), there.2)

  -- refused is one of the shared steps, or one after them
  pub refused_then : (c : Steps S A) (files : Files) → IsRefused (then c next) files → IsRefused c files ⊎ ((a : A) × Leads c files a × IsRefused (next a) files)
  refused_then (gives a) files h = inr (a, refl, h)
  refused_then (first s rest) files (inl h) = inl (inl h)
  refused_then (first s rest) files (inr (y, f, h)) = elim (refused_then (rest y) files h) [
    | inl r ↦ inl (inr (y, f, r))
    | inr (a, p, r) ↦ inr (a, (y, f, p), r)
  ]

  -- where the shared steps give something, only one after them refuses
  pub refused_behind : (c : Steps S A) → IsSingle c → (files : Files) (a : A) → Leads c files a → IsRefused (then c next) files → IsRefused (next a) files
  refused_behind c single files a leads h = elim (refused_then c files h) [
    | inl r ↦ absurd (leads_unrefused c single files a leads r)
    | inr (b, p, r) ↦ subst (λ (x : A). IsRefused (next x) files) (leads_one c single files b a p leads) r
  ]

  -- where all pass the shared steps give something
  pub ends_then : (of : B → S.Status) (c : Steps S A) (files : Files) (r : S.Status) → Ends of (then c next) files r → (a : A) × Leads c files a × Ends of (next a) files r
  ends_then of (gives a) files r h = (a, refl, h)
  ends_then of (first s rest) files r (y, f, h) =
      let there = ends_then of (rest y) files r h in
      (there.0, (y, f, there.1), there.2)

-- behind shared steps that give this
module _ {S : Statuses} {A B : Type 0} (of : B → S.Status) (next : A → Steps S B) where
  pub comes_later : (c : Steps S A) → IsSingle c → (files : Files) (a : A) (status : S.Status) → Leads c files a → Comes of (then c next) files status → Comes of (next a) files status
  comes_later (gives x) h files a status e p = subst (λ (z : A). Comes of (next z) files status) (sym e) p
  comes_later (first s rest) h files a status (y, f, p) (inl (g, c, e)) = absurd (h.0.apart files g y c f)
  comes_later (first s rest) h files a status (y, f, p) (inr (z, k, c)) =
      let there : Comes of (then (rest y) next) files status = subst (λ (x : s.Found). Comes of (then (rest x) next) files status) (h.1 files z y k f) c in
      comes_later (rest y) (h.2 y) files a status p there

-- the steps of a command that are in order stand from there
module _ {S : Statuses} {A : Type 0} (of : A → S.Status) where
  stand_lower : (c : Steps S A) (k m : ℕ) → k ≤ m → StandFrom c m → StandFrom c k
  stand_lower (gives a) k m le h = tt
  stand_lower (first s rest) k m le h = (omega (arith, le, h.0), (λ y. stand_lower (rest y) k m le (h.1 y)))

  pub stand_from : (c : Steps S A) (k : ℕ) → IsFrom of c k → StandFrom c k
  stand_from (gives a) k o = tt
  stand_from (first s rest) k o = (o.0, (λ y. stand_lower (rest y) k (s.number + 1) (omega (arith, o.0)) (stand_from (rest y) (s.number + 1) (o.2 y))))

-- ---- behind a step that passes

module _ {S : Statuses} (s : Step S) (sound : IsSound s) (one : FindsOne s) (files : Files) (y : s.Found) (found : s.Finds files y) where
  pub comes_behind : {A : Type 0} (of : A → S.Status) (rest : s.Found → Steps S A) (status : S.Status) → Comes of (first s rest) files status → Comes of (rest y) files status
  comes_behind of rest status (inl (f, c, e)) = absurd (sound.apart files f y c found)
  comes_behind of rest status (inr (z, k, c)) = subst (λ (x : s.Found). Comes of (rest x) files status) (one files z y k found) c

  told_behind : {A : Type 0} (rest : s.Found → Steps S A) (number : ℕ) (b : Bool) (r : S.Status) → ByTest b ((f : s.Fault) × s.Cause files f × (r ≡ s.status f)) ((z : s.Found) × s.Finds files z × Stops (rest z) number files r) → Stops (rest y) number files r
  told_behind rest number true r (f, c, e) = absurd (sound.apart files f y c found)
  told_behind rest number false r (z, k, h) = subst (λ (x : s.Found). Stops (rest x) number files r) (one files z y k found) h

  behind_told : {A : Type 0} (rest : s.Found → Steps S A) → StandFrom (rest y) (s.number + 1) → (number : ℕ) (b : Bool) → (s.number == number) ≡ b → (r : S.Status) → Stops (rest y) number files r → ByTest b ((f : s.Fault) × s.Cause files f × (r ≡ s.status f)) ((z : s.Found) × s.Finds files z × Stops (rest z) number files r)
  behind_told rest from number true e r h = absurd (stops_never (rest y) number (s.number + 1) (equal_below s.number number e) from files r h)
  behind_told rest from number false e r h = (y, found, h)

  -- what is exact of all steps is exact of those behind it
  pub exact_behind : (rest : s.Found → Command S) → StandFrom (rest y) (s.number + 1) → (result : S.Status) → IsExact (first s rest) files result → IsExact (rest y) files result
  exact_behind rest from result exact r refusal = (
    (λ e. told_behind rest (S.number r) (s.number == S.number r) r ((exact r refusal).0 e)),
    (λ h. (exact r refusal).1 (behind_told rest from (S.number r) (s.number == S.number r) refl r h)),
  )

-- ---- runs leave the files alone up to the end

module _ {S : Statuses} where
  halts_reads : (s : Step S) (v w : StoreView) (status : S.Status) → Halts s v w status → OnlyReads v w
  halts_reads s v w status (refused f l c h e) = l.only_reads
  halts_reads s v w status (failed file e l x is) = l.only_reads
  halts_reads s v w status (no_memory l c e) = l.only_reads

module _ {S : Statuses} {A : Type 0} where
  pub halted_reads : (c : Steps S A) (v w : StoreView) (status : S.Status) → Halted c v w status → OnlyReads v w
  halted_reads (gives a) v w status h = absurd h
  halted_reads (first s rest) v w status (inl h) = halts_reads s v w status h
  halted_reads (first s rest) v w status (inr (u, y, p, r)) = reads_more p.looks.only_reads (halted_reads (rest y) u w status r)

  pub passed_untouched : (c : Steps S A) (v w : StoreView) (a : A) → Passed c v w a → IsUntouched v w
  passed_untouched (gives b) v w a (e, q) = subst (λ (x : StoreView). IsUntouched v x) (sym e) (untouched v)
  passed_untouched (first s rest) v w a (u, y, p, r) = both_untouched (record { only_reads = p.looks.only_reads; counts = p.counts }) (passed_untouched (rest y) u w a r)
