-- Steps that commands share, and steps after them.
use Rattle.std.proofs.Common.{ℕ, ◌+◌, ◌<◌, ◌≤◌, List, Bool, Some, Result, Ok, Err, refl, subst, inl, inr, arith}
use Rattle.qs_ports.specs.StoreView.{StoreView}
use Rattle.qs_ports.specs.Whole.{WritesWhole}
use Rattle.qs_ports.specs.declared.whole.WriteFault.{WriteFault}
use Rattle.qs_driver_steps.specs.Due.{Due, refusal}
use Rattle.qs_driver_steps.specs.Runs.{Halted, Passed, TakesAll, Finishes, finished, unwritable, Runs}
use Rattle.qs_driver_steps.specs.Statuses.{Statuses, Names}
use Rattle.qs_driver_steps.specs.Steps.{Steps, gives, first, then, End, Command}
use Rattle.qs_driver_steps.proofs.Laws.{IsSingle, IsWithin, IsLawful, IsFrom}

at_most : (a b c : ℕ) → a ≤ b → b ≤ c → a ≤ c
at_most a b c h k = omega arith

below : (a b c : ℕ) → a < b → b ≤ c → a < c
below a b c h k = omega arith

pub within_lower : {S : Statuses} {A : Type 0} (c : Steps S A) (k m n : ℕ) → k ≤ m → IsWithin c m n → IsWithin c k n
within_lower (gives a) k m n h o = at_most k m n h o
within_lower (first s rest) k m n h o = (at_most k m s.number h o.0, o.1, o.2)

module _ {S : Statuses} {A B : Type 0} (next : A → Steps S B) where
  pub then_single : (c : Steps S A) → IsSingle c → ((a : A) → IsSingle (next a)) → IsSingle (then c next)
  then_single (gives a) h l = l a
  then_single (first s rest) h l = (h.0, h.1, (λ y. then_single (rest y) (h.2 y) l))

  pub then_within : (c : Steps S A) (k m n : ℕ) → m ≤ n → IsWithin c k m → ((a : A) → IsWithin (next a) m n) → IsWithin (then c next) k n
  then_within (gives a) k m n le h o = within_lower (next a) k m n h (o a)
  then_within (first s rest) k m n le h o = (h.0, below s.number m n h.1 le, (λ y. then_within (rest y) (s.number + 1) m n le (h.2 y) o))

  -- ---- runs

  -- one of the shared steps stops
  pub then_halted : (c : Steps S A) (v w : StoreView) (status : S.Status) → Halted c v w status → Halted (then c next) v w status
  then_halted (gives a) v w status h = absurd h
  then_halted (first s rest) v w status (inl h) = inl h
  then_halted (first s rest) v w status (inr (u, y, p, r)) = inr (u, y, p, then_halted (rest y) u w status r)

  -- they pass, and one after them stops
  pub passed_halted : (c : Steps S A) (v u w : StoreView) (a : A) (status : S.Status) → Passed c v u a → Halted (next a) u w status → Halted (then c next) v w status
  passed_halted (gives b) v u w a status (e, q) h = subst (λ (s : StoreView). Halted (next b) s w status) e (subst (λ (x : A). Halted (next x) u w status) q h)
  passed_halted (first s rest) v u w a status (t, y, p, r) h = inr (t, y, p, passed_halted (rest y) t u w a status r h)

  -- all pass
  pub then_passed : (c : Steps S A) (v u w : StoreView) (a : A) (b : B) → Passed c v u a → Passed (next a) u w b → Passed (then c next) v w b
  then_passed (gives x) v u w a b (e, q) h = subst (λ (s : StoreView). Passed (next x) s w b) e (subst (λ (y : A). Passed (next y) u w b) q h)
  then_passed (first s rest) v u w a b (t, y, p, r) h = (t, y, p, then_passed (rest y) t u w a b r h)

-- the shared steps pass, and those after them
pub passed_both : {S : Statuses} {A B : Type 0} (next : A → Steps S B) (c : Steps S A) (v w : StoreView) (b : B) → Passed (then c next) v w b → (u : StoreView) × (a : A) × Passed c v u a × Passed (next a) u w b
passed_both next (gives a) v w b h = (v, a, (refl, refl), h)
passed_both next (first s rest) v w b (t, y, p, h) =
    let there = passed_both next (rest y) t w b h in
    (there.0, there.1, (t, y, p, there.2), there.3)

-- shared steps, or others after them that stop as these do, stop
pub halted_with : {S : Statuses} {A B C : Type 0} (next : A → Steps S B) (other : A → Steps S C) (c : Steps S A) (v w : StoreView) (status : S.Status) → ((a : A) (u : StoreView) → Halted (next a) u w status → Halted (other a) u w status) → Halted (then c next) v w status → Halted (then c other) v w status
halted_with next other (gives a) v w status so h = so a v h
halted_with next other (first s rest) v w status so (inl h) = inl h
halted_with next other (first s rest) v w status so (inr (u, y, p, h)) = inr (u, y, p, halted_with next other (rest y) u w status so h)

module _ {S : Statuses} {A B : Type 0} (of : B → S.Status) (next : A → Steps S B) where
  pub then_lawful : (c : Steps S A) → IsSingle c → ((a : A) → IsLawful of (next a)) → IsLawful of (then c next)
  then_lawful (gives a) h l = l a
  then_lawful (first s rest) h l = (h.0, inl h.1, (λ y. then_lawful (rest y) (h.2 y) l))

  from_lower : (d : Steps S B) (k m : ℕ) → k ≤ m → IsFrom of d m → IsFrom of d k
  from_lower (gives b) k m h o = (o.0, at_most k m S.last h o.1)
  from_lower (first s rest) k m h o = (at_most k m s.number h o.0, o.1, o.2)

  pub then_from : (c : Steps S A) (k m : ℕ) → m ≤ S.last → IsWithin c k m → ((a : A) → IsFrom of (next a) m) → IsFrom of (then c next) k
  then_from (gives a) k m le h o = from_lower (next a) k m h (o a)
  then_from (first s rest) k m le h o = (h.0, below s.number m S.last h.1 le, (λ y. then_from (rest y) (s.number + 1) m le (h.2 y) o))

-- ---- code, step by step

module _ {S : Statuses} {A B C : Type 0} (next : A → Steps S B) where
  -- the shared steps pass, and the code goes on with those after them
  pub then_takes : (c : Steps S A) (found : C → B) (v u w : StoreView) (a : A) (result : Result C S.Status) → Passed c v u a → TakesAll (next a) found u w result → TakesAll (then c next) found v w result
  then_takes c found v u w a (Ok y) p h = then_passed next c v u w a (found y) p h
  then_takes c found v u w a (Err status) p h = passed_halted next c v u w a status p h

module _ {S : Statuses} (c : Command S) (names : Names S) (v w : StoreView) where
  -- the command is refused
  pub is_refused : (status : S.Status) → Halted c v w status → Runs c names v w (refusal S names status)
  is_refused status h = inl (status, h, refl)

  -- its end is reached
  pub is_ended : (u : StoreView) (e : End S) (due : Due S) → Passed c v u e → Finishes names e u w due → Runs c names v w due
  is_ended u e due p f = inr (e, u, p, f)

-- ---- a file is made at the end

module _ {S : Statuses} (names : Names S) (kind : S.Kind) (name bytes : List ℕ) (due : Due S) (late : Bool) (v w : StoreView) where
  abbrev written : End S
  written = record { output = Some (record { kind = kind; name = name; bytes = bytes }); due = due; late = late }

  pub was_written : WritesWhole v w name bytes (Ok tt) → Finishes names written v w due
  was_written h = finished h refl

  pub was_cut : (fault : WriteFault) → WritesWhole v w name bytes (Err fault) → Finishes names written v w (refusal S names (S.store_failed kind))
  was_cut fault h = unwritable (record { kind = kind; name = name; bytes = bytes }) refl h.0 h.1 refl
