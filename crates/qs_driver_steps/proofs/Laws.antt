-- What a command shows of its steps.
use Rattle.std.proofs.Common.{◌≡◌, ◌⊎◌, ℕ, ◌+◌, ◌<◌, ◌≤◌, refl}
use Rattle.qs_ports.specs.StoreView.{Files}
use Rattle.qs_driver_steps.specs.Statuses.{Statuses}
use Rattle.qs_driver_steps.specs.Steps.{Step, Steps, gives, first, Command, Comes, end_status}
use Rattle.qs_driver_steps.specs.Reading.{deciding, finding, refusing}

-- a step has one fault but for what is free in its status, none where it passes, and its statuses have its number
pub record IsSound {S : Statuses} (s : Step S) : Type 0 where
  pub one : (files : Files) (f g : s.Fault) → s.Cause files f → s.Cause files g → S.seen (s.status f) ≡ S.seen (s.status g)
  pub apart : (files : Files) (f : s.Fault) (y : s.Found) → s.Cause files f → s.Finds files y → ⊥
  pub numbered : (f : s.Fault) → S.number (s.status f) ≡ s.number

-- the step finds one value in the same files
abbrev pub FindsOne : {S : Statuses} → Step S → Type 0
FindsOne s = (files : Files) (y z : s.Found) → s.Finds files y → s.Finds files z → y ≡ z

-- steps that are sound and find one value each, as those that commands share
abbrev pub IsSingle : {S : Statuses} {A : Type 0} → Steps S A → Type 0
IsSingle (gives a) = Unit {0}
IsSingle (first s rest) = IsSound s × FindsOne s × ((y : s.Found) → IsSingle (rest y))

-- their numbers rise from the one to below the other
abbrev pub IsWithin : {S : Statuses} {A : Type 0} → Steps S A → (from to : ℕ) → Type 0
IsWithin (gives a) k m = k ≤ m
IsWithin (first s rest) k m = (k ≤ s.number) × (s.number < m) × ((y : s.Found) → IsWithin (rest y) (s.number + 1) m)

-- none of their numbers is lower than this
abbrev pub StandFrom : {S : Statuses} {A : Type 0} → Steps S A → ℕ → Type 0
StandFrom (gives a) k = Unit {0}
StandFrom (first s rest) k = (k ≤ s.number) × ((y : s.Found) → StandFrom (rest y) k)

module _ {S : Statuses} {A : Type 0} (of : A → S.Status) where
  -- to each status to which the one comes the other comes, but for what is free in it
  abbrev pub Agree : Steps S A → Steps S A → Files → Type 0
  Agree c d files = (a : S.Status) → Comes of c files a → (b : S.Status) × Comes of d files b × (S.seen a ≡ S.seen b)

  -- whatever the step finds in the same files, the steps after it come to the same
  abbrev pub FindsAlike : (s : Step S) → (s.Found → Steps S A) → Type 0
  FindsAlike s rest = (files : Files) (y z : s.Found) → s.Finds files y → s.Finds files z → Agree (rest y) (rest z) files

  -- each step is sound, and finds one value, or values that are alike for the steps after it
  abbrev pub IsLawful : Steps S A → Type 0
  IsLawful (gives a) = Unit {0}
  IsLawful (first s rest) = IsSound s × (FindsOne s ⊎ FindsAlike s rest) × ((y : s.Found) → IsLawful (rest y))

  -- the steps stand in the order of their numbers, from this one on, and all before the ends
  abbrev pub IsFrom : Steps S A → ℕ → Type 0
  IsFrom (gives a) k = (S.number (of a) ≡ S.last) × (k ≤ S.last)
  IsFrom (first s rest) k = (k ≤ s.number) × (s.number < S.last) × ((y : s.Found) → IsFrom (rest y) (s.number + 1))

-- what a command shows of itself
pub record IsGood {S : Statuses} (c : Command S) : Type 0 where
  pub lawful : IsLawful end_status c
  pub ordered : IsFrom end_status c 1

-- ---- steps that look at no file

module _ (S : Statuses) where
  pub decides : {Found Fault : Type 0} (number : ℕ) (Finds : Found → Type 0) (Cause : Fault → Type 0) (status : Fault → S.Status) → ((f g : Fault) → Cause f → Cause g → S.seen (status f) ≡ S.seen (status g)) → ((f : Fault) (y : Found) → Cause f → Finds y → ⊥) → ((f : Fault) → S.number (status f) ≡ number) → IsSound (deciding {S = S} number Finds Cause status)
  decides number Finds Cause status one apart numbered = record {
    one = λ files f g c d. one f g c d;
    apart = λ files f y c h. apart f y c h;
    numbered = numbered;
  }

  pub finds : {Found : Type 0} (number : ℕ) (Finds : Found → Type 0) → IsSound (finding {S = S} number Finds)
  finds number Finds = record {
    one = λ files f g c d. absurd c;
    apart = λ files f y c h. c;
    numbered = λ f. absurd f;
  }

  pub refuses : (number : ℕ) (IsSo : Type 0) (status : S.Status) → S.number status ≡ number → IsSound (refusing {S = S} number IsSo status)
  refuses number IsSo status numbered = record {
    one = λ files f g c d. refl;
    apart = λ files f y c h. h c;
    numbered = λ f. numbered;
  }

  pub refuses_one : (number : ℕ) (IsSo : Type 0) (status : S.Status) → FindsOne (refusing {S = S} number IsSo status)
  refuses_one number IsSo status files y z h k = refl
